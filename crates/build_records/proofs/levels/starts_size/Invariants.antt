-- The bytes so far are those of the levels passed.
use Prim.Native.Nat.{◌*◌, ◌≤◌}
use mathlib.Core.Path.{◌≡◌}
use lib.ListN.{length}
use Rattle.build_records.specs.LevelRecord.{starts_below}
use Rattle.build_records.proofs.levels.starts_size.Given as goal

abbrev pub invariant-loop-d : goal.invariant-loop-d
invariant-loop-d l = (l.d ≤ 64) × (l.len ≡ length (starts_below l.nodes l.d)) × (l.len ≤ 4 * l.d)
