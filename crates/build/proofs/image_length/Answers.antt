-- What is judged decides, and the plan's end is the length.
use mathlib.Core.Path.{sym, ap, ◌∙◌}
use Rattle.std.proofs.lemmas.Result.{err_from_is_err_and}
use Rattle.spec.specs.Build.{turned_down, to_build, bytes}
use Rattle.theory.proofs.BuildLaws.{length_is}
use Rattle.image.specs.Header.{asked}
use Rattle.build.proofs.JudgeLaws.{judged_of}
use Rattle.build.proofs.image_length.Goals as goal

pub returns-in_err-judge : goal.returns-in_err-judge
returns-in_err-judge c =
    let a = c.args in
    let e = err_from_is_err_and c.from_residual.result c.from_residual.ensures.1 in
    rw (e.1, e.2) (sym (length_is a.list.now (asked a.settings) (turned_down _) c.in_err-judge.ensures))

pub returns : goal.returns
returns c =
    let a = c.args in
    ap bytes c.measure_image.ensures ∙ sym (length_is a.list.now (asked a.settings) (to_build _) (judged_of a.list.now (asked a.settings) c.in_ok-judge.field-0 c.in_ok-judge.ensures))
