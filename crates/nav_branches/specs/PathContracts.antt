-- What the functions over the paths of an accepted image ask and give.
use Rattle.std.specs.Prelude.{ℕ, ◌<◌, ◌≤◌, ◌≡◌, List, [], length}
use Rattle.spec.specs.Bytes.{Bytes}
use Rattle.spec.specs.Leaves.{Leaf}
use Rattle.image.specs.declared.Frame.{Frame}
use Rattle.nav_nodes.specs.declared.BranchKind.TheVariants as Kind
use Rattle.nav_branches.specs.declared.Path.{Path}
use Rattle.nav_nodes.specs.Accepted.{Accepted, nodes}
use Rattle.nav_branches.specs.Paths.{node_on, onward, standing, OnLevels}
use Rattle.nav_branches.specs.PathSteps.{HasBranch, Ends}
use Rattle.nav_branches.specs.declared.paths.Higher.{Higher}
use Rattle.nav_branches.specs.declared.paths.PathEnd.{PathEnd}

-- A path that has its root only, with room for 64 nodes and labels.
pub record RootOnly (p : Path) : Type 0 where
  pub root_is : node_on p.nodes 0 ≡ 0
  pub nodes_room : length p.nodes ≡ 64
  pub labels_room : length p.labels ≡ 64

-- ---- up

-- The path's nodes to a depth can be searched for a branch, the deepest from a label on.
pub record Searchable (s : Bytes) (f : Frame) (path : Path) (depth from : ℕ) : Type 0 where
  pub accepted : Accepted s f
  pub deep : depth < 64
  -- the label is a byte, or behind the last one
  pub label_range : from ≤ 256
  -- the nodes of the path to the depth stand on their levels
  pub on : OnLevels (nodes s f) path.nodes depth

-- The leaves from a label of the path's node at a depth on are those from this branch of the node at a smaller depth on.
pub record HigherBranch (s : Bytes) (f : Frame) (path : Path) (depth from : ℕ) (r : Higher) : Type 0 where
  pub leaves_are : onward (nodes s f) path.nodes path.labels depth from ≡ onward (nodes s f) path.nodes path.labels r.depth r.branch.label
  pub branch : HasBranch s f path.nodes r.depth r.branch

-- The next higher branch of a path, from a label of its node at a depth on.
pub record NextHigher (s : Bytes) (f : Frame) (path : Path) (depth from : ℕ) (r : Higher) : Type 0 where
  pub above : r.depth ≤ depth
  -- where it is absent, no leaf is left
  pub none : r.branch.kind ≡ Kind.Absent → onward (nodes s f) path.nodes path.labels depth from ≡ []
  -- where it is there, the leaves that are left are those from it on
  pub found : (r.branch.kind ≡ Kind.Absent → ⊥) → HigherBranch s f path depth from r

-- ---- down

-- From the path's node at a depth the first of these leaves is reached.
pub record Reaches (s : Bytes) (f : Frame) (path : Path) (depth : ℕ) (leaves : List Leaf) (r : PathEnd) : Type 0 where
  -- the leaf where the path ends and those behind the path are these leaves
  pub leaves_are : leaves ≡ standing f.width (nodes s f) r.path.nodes r.path.labels r.depth r.stop
  -- where the nodes to the depth stand on their levels, so do all to the leaf
  pub levels : OnLevels (nodes s f) path.nodes depth → Ends s f r.path.nodes r.depth r.stop
