-- The invariant: whatever sum the levels above have, the bytes passed lead to the bound's node with that sum and the bound's own.
use Rattle.query_descent.specs.Summed.{Leading}
use lib.ListN.{length}
use Prim.Native.Nat.{ℕ, ◌+◌, ◌-◌}
use Rattle.query_sums.proofs.bounds.bound_from.Given as goal

abbrev pub invariant-loop-level : goal.invariant-loop-level
invariant-loop-level l = (above : ℕ) → Leading l.image.bytes.now l.image.frame l.key l.initial.level.node.0 l.initial.level.depth (above + l.initial.level.sum) → Leading l.image.bytes.now l.image.frame l.key l.level.node.0 l.level.depth (above + l.level.sum)

abbrev pub decreases-loop-level : goal.decreases-loop-level
decreases-loop-level l = length l.key - l.level.depth
