-- The check decides first.
use mathlib.Core.Path.{sym, ap, ◌∙◌}
use native.Mathlib.Omega.{arith}
use Rattle.std.proofs.lemmas.Result.{err_from_is_err_and}
use Rattle.spec.specs.Bytes.{Bytes}
use Rattle.spec.specs.Ask.{ask}
use Rattle.image.specs.Refusals.{number_positive}
use Rattle.ask.specs.AskJoined.{ask_joined}
use Rattle.ask.proofs.ask.Goals as goal

pub returns-in_err-accepted : goal.returns-in_err-accepted
returns-in_err-accepted c =
    let a = c.args in
    let r = c.in_err-accepted.field-0.0 in
    let p = err_from_is_err_and c.from_residual.result c.from_residual.ensures.1 in
    rw (p.1, p.2) (sym ((ask_joined a.image.now a.questions.now a.replies.now).not_accepted _ (sym c.in_err-accepted.ensures.checked) (λ h. omega (arith, number_positive r))))

pub ask_accepted-requires : goal.ask_accepted-requires
ask_accepted-requires c =
    let e = c.in_ok-accepted.ensures.checked in
    rw e.0 e.2

pub returns : goal.returns
returns c =
    c.ask_accepted.ensures ∙ ap (λ (s : Bytes). ask s c.args.questions.now c.args.replies.now) c.in_ok-accepted.ensures.checked.0
