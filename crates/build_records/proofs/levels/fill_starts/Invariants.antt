-- The first nodes of the levels passed stand at the front, and the sum is that of their nodes.
use Prim.Native.Nat.{◌≤◌}
use mathlib.Core.Path.{◌≡◌}
use lib.ListN.{length}
use Rattle.bits.specs.Bits.{overlaid}
use Rattle.build_laws.specs.Cursors.{sums}
use Rattle.build_records.specs.LevelRecord.{starts_below}
use Rattle.build_records.proofs.levels.fill_starts.Given as goal

abbrev pub invariant-loop-d : goal.invariant-loop-d
invariant-loop-d l = (l.d ≤ 64) × (l.first ≡ sums l.nodes 0 l.d) × (l.at ≡ length (starts_below l.nodes l.d)) × (length l.out ≡ length l.initial.out) × (l.out ≡ overlaid l.initial.out 0 (starts_below l.nodes l.d))
