-- The lower bound is read, and the upper bound behind it.
use Rattle.std.proofs.lemmas.Result.{err_from_is_err_and}
use Rattle.ask_files.proofs.ReadLaws.{bounds_refused, bounds_read}
use Rattle.ask_files.proofs.questions.read_bounds.Goals as goal

pub returns-in_err-middle : goal.returns-in_err-middle
returns-in_err-middle c =
    let p = err_from_is_err_and c.from_residual.result c.from_residual.ensures.1 in
    rw (p.1, p.2) (bounds_refused c.args.s.now c.args.at _ c.in_err-middle.ensures)

pub returns : goal.returns
returns c =
    bounds_read c.args.s.now c.args.at c.in_ok-middle.middle c.in_ok-middle.ensures c.read_upper.result c.read_upper.ensures
