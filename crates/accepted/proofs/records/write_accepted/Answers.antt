-- A refusal writes nothing.
use Rattle.std.proofs.lemmas.Result.{err_from_is_err_and}
use Rattle.walk_states.specs.StateLaws.{writes_refused}
use Rattle.accepted.proofs.records.write_accepted.Goals as goal

pub returns-in_err-from : goal.returns-in_err-from
returns-in_err-from c =
    let p = err_from_is_err_and c.from_residual.result c.from_residual.ensures.1 in
    rw (p.1, p.2) (writes_refused c.args.image.now c.args.place c.args.out.now c.in_err-from.field-0.0 (rw c.in_err-from.was at (rw c.accepted_image.ensures.bytes at c.open_accepted.ensures.opens)))
