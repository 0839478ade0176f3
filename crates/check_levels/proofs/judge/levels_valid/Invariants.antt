-- The loop: the first `depth` levels have `end` nodes, and a level at or before that node is known.
use Prim.Native.Nat.{ℕ, ◌-◌, ◌≤◌}
use Rattle.spec.specs.Bytes.{Bytes}
use Rattle.image.specs.declared.Frame.{Frame}
use Rattle.check_levels.specs.LevelTests.{EndsTo}
use Rattle.check_levels.specs.Levels.{node_count, branches_before, LevelOf}
use Rattle.check_levels.proofs.judge.levels_valid.Given as goal

-- what is known of the levels that were passed
abbrev Passed : Bytes → Frame → ℕ → ℕ → ℕ → Type 0
Passed s f = EndsTo (branches_before s f) (node_count f) f.dense.levels f.dense.nodes

abbrev pub invariant-loop-end : goal.invariant-loop-end
invariant-loop-end l = Passed l.image.bytes.now l.image.frame l.depth l.end l.above × LevelOf l.image.bytes.now l.image.frame l.level × (l.level.node.0 ≤ l.end)

abbrev pub decreases-loop-end : goal.decreases-loop-end
decreases-loop-end l = l.nodes - l.end
