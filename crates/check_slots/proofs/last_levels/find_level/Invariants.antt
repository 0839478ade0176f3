-- The loop: the level is level `depth`; behind the last node there is no further level.
use Prim.Native.Nat.{◌-◌, ◌≤◌}
use Rattle.check_slots.specs.LastLevels.{LevelAt}
use Rattle.check_slots.proofs.last_levels.find_level.Given as goal

abbrev pub invariant-loop-depth : goal.invariant-loop-depth
invariant-loop-depth l = (l.image.frame.dense.levels ≤ l.depth) × (l.depth ≤ l.number) × LevelAt l.image.bytes.now l.image.frame l.depth l.level

abbrev pub decreases-loop-depth : goal.decreases-loop-depth
decreases-loop-depth l = l.number - l.depth
