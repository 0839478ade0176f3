-- What the functions that go straight to a place ask and give.
use Rattle.std.specs.Prelude.{ℕ, ◌+◌, ◌-◌, ◌<◌, ◌≤◌, ◌≡◌, length, drop}
use Rattle.spec.specs.Bytes.{Bytes}
use Rattle.spec.specs.Nodes.{read_leaves}
use Rattle.image.specs.declared.Frame.{Frame}
use Rattle.nav_nodes.specs.declared.BranchKind.TheVariants as Kind
use Rattle.nav_nodes.specs.Accepted.{Accepted, nodes}
use Rattle.nav_nodes.specs.Positions.{branch_index, child_at, slot_at, Within, BranchAt}
use Rattle.nav_nodes.specs.FoundBranch.{node_count}
use Rattle.nav_branches.specs.Below.{OnLevel}
use Rattle.nav_branches.specs.Paths.{standing}
use Rattle.nav_branches.specs.PathSteps.{BranchFrom, Ends}
use Rattle.nav_branches.specs.declared.paths.PathEnd.{PathEnd}
use Rattle.walk_cursor.specs.Counted.{leaves_from}
use Rattle.walk_cursor.specs.declared.branch.Range.{Range}

-- how many leaves stand behind the branches of node m, which is at depth d, from the label y on
abbrev pub leaves_at : Bytes → Frame → ℕ → ℕ → ℕ → ℕ
leaves_at s f d m y = leaves_from (nodes s f) (63 - d) m y

-- The sum of the branch at position p of node m, which is at depth d, can be taken.
pub record Summable (s : Bytes) (f : Frame) (m d p : ℕ) : Type 0 where
  pub accepted : Accepted s f
  pub deep : d < 64
  pub within : Within s f m p
  -- the node behind it is one of the image's, or behind the last
  pub node_range : child_at s f m p ≤ node_count f
  pub slot_range : slot_at s f m p ≤ 65535

-- More than skip leaves stand behind the branches of node m, which is at depth d.
pub record MoreLeaves (s : Bytes) (f : Frame) (m d skip : ℕ) : Type 0 where
  pub accepted : Accepted s f
  pub deep : d < 64
  pub on : OnLevel (nodes s f) (64 - d) m
  pub more : skip < leaves_at s f d m 0

-- The branch with skip leaves before it lies in the range: at its low branch or behind it, and before its high label.
pub record Ranges (s : Bytes) (f : Frame) (m d skip : ℕ) (r : Range) : Type 0 where
  pub first_at : BranchAt s f m (branch_index s f m 0) r.first.0
  -- the low branch is the first one from this label on
  pub from : ℕ
  pub low_is : BranchFrom s f m from r.low
  pub there : r.low.kind ≡ Kind.Absent → ⊥
  -- so many leaves of the node stand before the low branch, no more than skip
  pub counted : r.before + leaves_at s f d m from ≡ leaves_at s f d m 0
  pub reached : r.before ≤ skip
  -- more than skip stand before the high label
  pub passed : skip + leaves_at s f d m r.high < leaves_at s f d m 0
  pub order : r.low.label < r.high
  pub labels : r.high ≤ 256

-- the range with another label behind it
abbrev pub lowered_range : Range → ℕ → Range
lowered_range r high = record { first = r.first; low = r.low; before = r.before; high = high }

-- The range is narrower than before.
pub record Narrows (s : Bytes) (f : Frame) (m d skip : ℕ) (was r : Range) : Type 0 where
  pub ranges : Ranges s f m d skip r
  pub less : r.high - r.low.label < was.high - was.low.label

-- The low branch of the range is the one with skip leaves before it.
pub record Takes (s : Bytes) (f : Frame) (m d skip : ℕ) (r : Range) : Type 0 where
  pub ranges : Ranges s f m d skip r
  pub single : r.high ≡ r.low.label + 1

-- The path ends at the leaf at the place: that leaf and those behind the path are the leaves from the place on.
pub record Leads (s : Bytes) (f : Frame) (branch_index : ℕ) (e : PathEnd) : Type 0 where
  pub ends : Ends s f e.path.nodes e.depth e.stop
  -- the path has room for 64 nodes and labels
  pub nodes_room : length e.path.nodes ≡ 64
  pub labels_room : length e.path.labels ≡ 64
  pub leaves_are : drop branch_index (read_leaves s) ≡ standing f.width (nodes s f) e.path.nodes e.path.labels e.depth e.stop
