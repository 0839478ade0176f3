use mathlib.Core.Path.{◌≡◌}
use Prim.Native.Nat.{◌+◌, ◌*◌, ◌-◌, ◌/◌, ◌≤◌}
use Rattle.bits.specs.Bits.{rank}
use Rattle.bits_select.proofs.select.pass_steps.Given as goal

abbrev pub invariant-loop-ahead : goal.invariant-loop-ahead
invariant-loop-ahead l = (l.ahead.word ≤ l.n / 64 + 1) × (rank l.s (64 * l.ahead.word) + l.ahead.ones ≡ rank l.s (64 * l.initial.ahead.word) + l.initial.ahead.ones)

abbrev pub decreases-loop-ahead : goal.decreases-loop-ahead
decreases-loop-ahead l = l.n / 64 + 1 - l.ahead.word
