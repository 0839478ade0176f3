-- The loop: the words before `number` are judged; a word without candidates passes. The last word is judged behind it.
use mathlib.Core.Path.{◌≡◌}
use mathlib.Core.Bool.{Bool}
use Prim.Native.Nat.{ℕ, ◌*◌, ◌-◌, ◌≤◌}
use Rattle.spec.specs.Bytes.{Bytes}
use Rattle.image.specs.declared.Frame.{Frame}
use Rattle.check_levels.specs.Ranges.{all_from}
use Rattle.check_slots.specs.SlotTests.{sparse_test, sparse_clear}
use Rattle.check_slots.proofs.sparse.sparse_clear.Given as goal

-- the entries from one on
abbrev left : Bytes → Frame → ℕ → Bool
left s f i = all_from (sparse_test s f) i (f.sparse.entries - i)

abbrev pub invariant-loop-number : goal.invariant-loop-number
invariant-loop-number l = (sparse_clear l.image.bytes.now l.image.frame ≡ left l.image.bytes.now l.image.frame (64 * l.number)) × (l.number ≤ l.last)
