use mathlib.Core.Path.{◌≡◌}
use Prim.Native.Nat.{◌+◌, ◌*◌, ◌/◌, ◌≤◌}
use Rattle.bits.specs.Bits.{rank}
use Rattle.bits_select.proofs.select.next_from.Given as goal

abbrev pub invariant-loop-q : goal.invariant-loop-q
invariant-loop-q l = (l.q ≤ l.n / 64 + 1) × (rank l.s (64 * l.q) ≡ rank l.s (64 * l.from))
