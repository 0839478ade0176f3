-- The loop: no label before the position is above the greatest.
use Prim.Native.Nat.{ℕ, ◌+◌, ◌-◌, ◌≤◌, ◌<◌}
use lib.ListN.{get_or}
use Rattle.spec.specs.Bytes.{Bytes}
use Rattle.check_slots.proofs.node_starts.none_full.Given as goal

-- no label of those from `at` on, up to number i, is above g
abbrev AtMost : Bytes → ℕ → ℕ → ℕ → Type 0
AtMost sl at g i = (k : ℕ) → k < i → get_or sl (at + k) 0 ≤ g

abbrev pub invariant-loop-i : goal.invariant-loop-i
invariant-loop-i l = (l.i ≤ 64) × AtMost l.sl l.at l.greatest l.i

abbrev pub decreases-loop-i : goal.decreases-loop-i
decreases-loop-i l = 64 - l.i
