-- What is judged decides, and an accepted list is built.
use mathlib.Core.Path.{sym, ◌∙◌}
use Rattle.std.proofs.lemmas.Result.{err_from_is_err_and}
use Rattle.spec.specs.Answer.{refuse}
use Rattle.spec.specs.Build.{turned_down, to_build}
use Rattle.theory.proofs.BuildLaws.{build_is}
use Rattle.image.specs.Header.{asked}
use Rattle.build.proofs.JudgeLaws.{judged_of}
use Rattle.build.proofs.build.Goals as goal

pub returns-in_err-judge : goal.returns-in_err-judge
unfolding refuse
returns-in_err-judge c =
    let a = c.args in
    let e = err_from_is_err_and c.from_residual.result c.from_residual.ensures.1 in
    rw (e.1, e.2) (sym (build_is a.list.now (asked a.settings) a.stated a.out.now (turned_down _) c.in_err-judge.ensures))

pub returns : goal.returns
returns c =
    let a = c.args in
    c.build_image.ensures ∙ sym (build_is a.list.now (asked a.settings) a.stated a.out.now (to_build _) (judged_of a.list.now (asked a.settings) c.in_ok-judge.field-0 c.in_ok-judge.ensures))
