-- The check's refusal, or the walk over the accepted image, which is the slice that was lent, with its frame.
use Rattle.std.proofs.lemmas.Result.{err_from_is_err_and}
use Rattle.walk_states.specs.StateLaws.{opened_unchecked, same_image}
use Rattle.walk_states.proofs.open.Goals as goal

pub returns-in_err-accept : goal.returns-in_err-accept
returns-in_err-accept c =
    let p = err_from_is_err_and c.from_residual.result c.from_residual.ensures.1 in
    rw (p.1, p.2) (tt, opened_unchecked c.args.image.now c.args.place c.in_err-accept.field-0.0 (rw c.in_err-accept.was at c.accept.ensures.checked))

pub open_accepted-requires : goal.open_accepted-requires
open_accepted-requires c =
    let e = c.in_ok-accept.ensures.checked in
    rw e.0 e.2

pub returns : goal.returns
returns c =
    let e = c.in_ok-accept.ensures in
    let r = c.open_accepted in
    (same_image r.result _ r.ensures.slice _ e.slice e.checked.1, rw e.checked.0 at r.ensures.opens)
