-- One record more stands behind those before it.
use Prim.Native.Nat.{◌≤◌}
use Rattle.build_records.specs.Plan.{Written}
use Rattle.build_records.proofs.records.write_records.Given as goal

abbrev pub invariant-loop-i : goal.invariant-loop-i
invariant-loop-i l = (l.i ≤ 12) × Written l.list l.plan l.initial.out l.i l.out
