-- The bytes so far are those of the levels passed.
use mathlib.Core.Path.{sym, ap}
use lib.ListN.{length, get_or}
use Rattle.build_records.specs.LevelRecord.{starts_none, starts_longer, size_few}
use native.Mathlib.Omega.{arith}
use Rattle.build_records.proofs.levels.starts_size.Goals as goal

pub loop-d-init : goal.loop-d-init
loop-d-init c =
    (omega arith, sym (ap length (starts_none c.args.nodes.now)), omega arith)

pub overflow_add-len : goal.overflow_add-len
overflow_add-len c =
    let l = c.loop-d in
    omega (arith, c.start_size-len.ensures, l.invariant.2, size_few (get_or c.args.nodes.now l.d 0))

pub loop-d-preserved : goal.loop-d-preserved
loop-d-preserved c =
    let nodes = c.args.nodes.now in
    let l = c.loop-d in
    let r = c.start_size-len.ensures in
    (omega arith, omega (arith, r, l.invariant.1, starts_longer nodes l.d), omega (arith, r, l.invariant.2, size_few (get_or nodes l.d 0)))
