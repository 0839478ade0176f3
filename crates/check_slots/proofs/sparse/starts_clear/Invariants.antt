-- The loop: the entries of the word before j are judged, and the starts from j on are left.
use Rattle.spec.specs.Bytes.{Bytes}
use mathlib.Core.Path.{◌≡◌}
use Prim.Native.Nat.{ℕ, ◌+◌, ◌*◌, ◌-◌, ◌/◌, ◌≤◌}
use mathlib.Core.Bool.{Bool}
use Prim.Native.Nat.{◌^◌}
use Rattle.check_levels.specs.Ranges.{all_from}
use Rattle.check_slots.specs.SparseWords.{Candidates}
use Rattle.check_slots.specs.Entries.{exact_test}
use Rattle.check_slots.specs.declared.sparse.SparseSlots.{SparseSlots}
use Rattle.check_slots.proofs.sparse.starts_clear.Given as goal

-- the entries from one on
abbrev left : Bytes → Bytes → Bytes → Bytes → SparseSlots → ℕ → Bool
left sl sc sb sv z i = all_from (exact_test sl sc sb sv z) i (z.entries - i)

abbrev pub invariant-loop-rest : goal.invariant-loop-rest
invariant-loop-rest l = (l.j ≤ 64) × (l.rest ≡ l.starts / 2 ^ l.j) × ((sb : Bytes) → Candidates l.sl sb l.word.number l.starts → left l.sl l.sc sb l.sv l.z (64 * l.word.number) ≡ left l.sl l.sc sb l.sv l.z (64 * l.word.number + l.j))

abbrev pub decreases-loop-rest : goal.decreases-loop-rest
decreases-loop-rest l = 64 - l.j
