-- The loop: the bytes before i are zero where the greatest of them is.
use mathlib.Core.Path.{◌≡◌}
use Prim.Native.Nat.{◌*◌, ◌-◌, ◌≤◌}
use lib.Dec.{eqb}
use Rattle.check_slots.specs.SlotBits.{bits_clear}
use Rattle.check_slots.proofs.clear.bytes_clear.Given as goal

abbrev pub invariant-loop-i : goal.invariant-loop-i
invariant-loop-i l = (l.from ≤ l.i) × (l.i ≤ l.to) × (eqb l.greatest 0 ≡ bits_clear l.s (8 * l.from) (8 * l.i))

abbrev pub decreases-loop-i : goal.decreases-loop-i
decreases-loop-i l = l.to - l.i
