-- The first branch of a node at or behind a label, by its position.
use Rattle.std.specs.Prelude.{ℕ, ◌+◌, ◌<◌, ◌≤◌, ◌≡◌, get_or, drop, eqb}
use Rattle.spec.specs.Bytes.{Bytes}
use Rattle.bits.specs.Bits.{bit_at}
use Rattle.image.specs.declared.Frame.{Frame}
use Rattle.nav_nodes.specs.declared.BranchKind.{BranchKind}
use Rattle.nav_nodes.specs.declared.BranchKind.TheVariants.{Absent}
use Rattle.nav_nodes.specs.declared.NextBranch.{NextBranch}
use Rattle.nav_nodes.specs.NextLabel.{first_kind, first_label, kind_there}
use Rattle.nav_nodes.specs.Positions.{branches, branch_index, BranchAt}

-- The first branch of node m whose label is not below y has this label and stands at position p.
pub record NamedBranch (s : Bytes) (f : Frame) (m y label p : ℕ) : Type 0 where
  pub label_is : label ≡ first_label (drop (branch_index s f m y) (branches s f m))
  pub label_byte : label < 256
  pub at_is : BranchAt s f m (branch_index s f m y) p

-- The first branch of node m whose label is not below y: its kind, and, if there is one, its label and its position.
pub record IsNextBranch (s : Bytes) (f : Frame) (m y : ℕ) (kind : BranchKind) (label p : ℕ) : Type 0 where
  pub kind_is : kind ≡ first_kind (drop (branch_index s f m y) (branches s f m))
  pub there : (kind ≡ Absent → ⊥) → NamedBranch s f m y label p

-- The branch that the entry p tells: its label and whether it continues.
pub record EntryRead (s : Bytes) (f : Frame) (p : ℕ) (b : NextBranch) : Type 0 where
  pub kind_is : b.kind ≡ kind_there (eqb (bit_at (drop f.sc s) p) 1)
  pub label_is : b.label ≡ get_or s (f.sl + p) 0
  pub label_byte : b.label < 256
  pub at_is : b.at.0 ≡ p

-- What a sparse node whose entries end before `end` has at the entry p: no branch from the end on, and before it the one that the entry tells.
pub record EntryBranch (s : Bytes) (f : Frame) (p end : ℕ) (b : NextBranch) : Type 0 where
  pub none_left : end ≤ p → b.kind ≡ Absent
  pub read : p < end → EntryRead s f p b
