-- What the functions over a node's next higher and its last branch ask and give.
use Rattle.std.specs.Prelude.{ℕ, ◌+◌, ◌≡◌, false, drop}
use Rattle.spec.specs.Bytes.{Bytes}
use Rattle.image.specs.declared.Frame.{Frame}
use Rattle.nav_nodes.specs.NextLabel.{first_kind, kind_with, is_there}
use Rattle.nav_nodes.specs.Positions.{branches, branch_index, BranchAt}
use Rattle.nav_branches.specs.declared.edges.LastBranch.{LastBranch}

-- Whether node m has a label above y, and, if it has none, the branch at y: its kind, and the position of the first branch from there on.
pub record IsLastBranch (s : Bytes) (f : Frame) (m y : ℕ) (b : LastBranch) : Type 0 where
  pub higher_is : b.higher ≡ is_there (first_kind (drop (branch_index s f m (y + 1)) (branches s f m)))
  pub kind_is : b.higher ≡ false → b.kind ≡ kind_with y (drop (branch_index s f m y) (branches s f m))
  pub at_is : b.higher ≡ false → BranchAt s f m (branch_index s f m y) b.at.0
