-- What the functions of a seek's way along its start ask and give.
use Rattle.std.specs.Prelude.{ℕ, ◌+◌, ◌<◌, ◌≤◌, ◌≡◌, Bool, length, drop}
use Rattle.spec.specs.Bytes.{Bytes, bit}
use Rattle.image.specs.declared.Frame.{Frame}
use Rattle.image.specs.declared.ValuePos.{ValuePos}
use Rattle.nav_nodes.specs.Accepted.{Accepted, nodes}
use Rattle.nav_nodes.specs.Slots.{slot_of}
use Rattle.query_descent.specs.Bounds.{slot_passed}
use Rattle.query_descent.specs.Seeking.{leaf_end}
use Rattle.query_sums.specs.declared.bounds.Bound.{Bound}
use Rattle.query_sums.specs.declared.levels.LevelSum.{LevelSum}

-- The way along a start ends at the branch of an open leaf with this slot, and the start has this bound behind the branch.
pub record LeafBranch (s : Bytes) (f : Frame) (start : Bytes) (slot : ValuePos) (level : LevelSum) : Type 0 where
  pub accepted : Accepted s f
  pub slot_in : slot.0 < f.leaves
  pub depth_in : level.depth ≤ length start
  pub short : length start ≤ 64
  -- one more does not make the sum too great
  pub small : level.sum ≤ 4194240

-- whether a start whose first d bytes are the cut key of an open leaf has passed the leaf
abbrev pub leaf_passed : Bytes → Frame → Bytes → ValuePos → ℕ → Bool
leaf_passed s f start slot d = slot_passed f.hash_width (length start) (slot_of f.width (nodes s f) slot.0) (drop d start)

-- The bound ends at the open leaf, or at no leaf if the start has passed it.
pub record EndsThere (s : Bytes) (f : Frame) (start : Bytes) (slot : ValuePos) (level : LevelSum) (r : Bound) : Type 0 where
  pub end_is : r.end ≡ leaf_end (leaf_passed s f start slot level.depth) slot
  pub node_is : r.level.node ≡ level.node
  pub depth_is : r.level.depth ≡ level.depth
  -- a leaf that is passed counts in the sum
  pub sum_is : r.level.sum ≡ level.sum + bit (leaf_passed s f start slot level.depth)
