-- A refusal stays.
use Rattle.std.proofs.Common.{sym, ◌∙◌}
use Rattle.std.proofs.lemmas.Result.{err_from_is_err_and}
use Rattle.image.specs.Refusals.{number_of}
use Rattle.walk_states.specs.Opening.{next_refused}
use Rattle.walk_states.specs.StateLaws.{says_refused}
use Rattle.walk.proofs.next.Goals as goal

pub returns-in_err-opened : goal.returns-in_err-opened
returns-in_err-opened c =
    let s = c.args.image.now in
    let r = c.in_err-opened.field-0.0 in
    let p = err_from_is_err_and c.from_residual.result c.from_residual.ensures.1 in
    let q = rw c.in_err-opened.was at c.open.ensures.1 in
    rw (p.1, p.2) (says_refused _ r (sym (next_refused s c.args.place (number_of r) q) ∙ q))
