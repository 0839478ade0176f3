-- The invariant: both bounds have gone down to one level.
use Rattle.query_sums.specs.Levels.{GoneDown}
use Prim.Native.Nat.{◌-◌, ◌≤◌}
use mathlib.Core.Path.{◌≡◌}
use Rattle.query_sums.proofs.levels.sums_apart.Given as goal

abbrev pub invariant-loop-lower : goal.invariant-loop-lower
invariant-loop-lower l = record {
  below_a : l.fn.a.depth ≤ l.lower.depth;
  below_b : l.fn.b.depth ≤ l.lower.depth;
  depth_in : l.lower.depth ≤ 64;
  same_depth : l.lower.depth ≡ l.upper.depth;
  lower_gone : GoneDown l.image.bytes.now l.image.frame l.fn.a l.lower.depth l.lower;
  upper_gone : GoneDown l.image.bytes.now l.image.frame l.fn.b l.lower.depth l.upper;
}

abbrev pub decreases-loop-lower : goal.decreases-loop-lower
decreases-loop-lower l = 64 - l.lower.depth
