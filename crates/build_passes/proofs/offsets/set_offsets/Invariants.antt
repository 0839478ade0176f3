-- The cursors passed stand at the sums before them.
use lib.ListN.{length, get_or}
use Rattle.build_laws.specs.Cursors.{sums}
use mathlib.Core.Path.{◌≡◌}
use Prim.Native.Nat.{ℕ, ◌<◌}
use Rattle.build_laws.specs.Limits.{counters}
use Rattle.build_passes.proofs.offsets.set_offsets.Given as goal

abbrev pub invariant-loop-d : goal.invariant-loop-d
invariant-loop-d l = (length l.cur ≡ counters) × (l.sum ≡ sums l.cnt l.lo l.d) × ((e : ℕ) → e < l.d → get_or l.cur e 0 ≡ sums l.cnt l.lo e)
