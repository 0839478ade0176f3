-- The loop: the slots before v are clear behind the bits that are skipped.
use mathlib.Core.Path.{◌≡◌}
use mathlib.Core.Bool.{Bool}
use Prim.Native.Nat.{ℕ, ◌*◌, ◌-◌, ◌<◌}
use Rattle.spec.specs.Bytes.{Bytes}
use Rattle.check_levels.specs.Positions.{bits}
use Rattle.check_levels.specs.Ranges.{all_from}
use Rattle.check_slots.specs.NodeSlots.{slot_clear}
use Rattle.check_slots.proofs.clear.past_clear.Given as goal

-- the test of a slot
abbrev test : Bytes → ℕ → ℕ → ℕ → ℕ → Bool
test sv leaves width skip = slot_clear skip width (bits sv (leaves * width))

abbrev pub invariant-loop-v : goal.invariant-loop-v
invariant-loop-v l = (l.skip < l.width) × (all_from (test l.sv l.leaves l.width l.skip) l.fn.from.0 (l.fn.to.0 - l.fn.from.0) ≡ all_from (test l.sv l.leaves l.width l.skip) l.v (l.fn.to.0 - l.v))
