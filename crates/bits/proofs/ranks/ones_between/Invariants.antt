-- The loop: so many ones stand from word `from` on and before word q.
use mathlib.Core.Path.{◌≡◌}
use Prim.Native.Nat.{◌+◌, ◌*◌, ◌/◌, ◌≤◌}
use Rattle.bits.specs.Bits.{rank}
use Rattle.bits.proofs.ranks.ones_between.Given as goal

abbrev pub invariant-loop-q : goal.invariant-loop-q
invariant-loop-q l = (l.q ≤ l.k / 64) × (rank l.s (64 * l.q) ≡ rank l.s (64 * l.from) + l.r)
