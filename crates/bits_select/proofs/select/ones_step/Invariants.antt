-- The loop: so many ones stand in the i words from word q on.
use mathlib.Core.Path.{◌≡◌}
use Prim.Native.Nat.{◌+◌, ◌*◌, ◌≤◌}
use Rattle.bits.specs.Bits.{rank}
use Rattle.bits_select.proofs.select.ones_step.Given as goal

abbrev pub invariant-loop-i : goal.invariant-loop-i
invariant-loop-i l = (l.r ≤ 64 * l.i) × (rank l.s (64 * (l.q + l.i)) ≡ rank l.s (64 * l.q) + l.r)
