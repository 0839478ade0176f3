-- What the functions over the nodes of an accepted image give: what stands before a node, the entries of a sparse node, a branch by its label, and the first branch of a node.
use Rattle.std.specs.Prelude.{ℕ, ◌+◌, ◌-◌, ◌<◌, ◌≤◌, ◌≡◌, refl, Bool, true, false, length, drop, ltb}
use Rattle.std.proofs.Common.{sym, ap, ◌∙◌, arith, ltb-true, ltb-false, lt-ltb, le-ltb}
use Rattle.spec.specs.Bytes.{Bytes, bit}
use Rattle.spec.specs.Nodes.{is_exact}
use Rattle.bits.specs.Bits.{select}
use Rattle.image.specs.declared.Frame.{Frame}
use Rattle.nav_nodes.specs.declared.Found.{Found}
use Rattle.nav_nodes.specs.declared.FirstBranch.{FirstBranch}
use Rattle.nav_nodes.specs.Slots.{node_at, leaves_before}
use Rattle.nav_nodes.specs.Descent.{children_before}
use Rattle.nav_nodes.specs.LabelMaps.{matches}
use Rattle.nav_nodes.specs.NextLabel.{first_kind, kind_with, is_there, with_there, there_before, labels_next}
use Rattle.nav_nodes.specs.Accepted.{Accepted, nodes}
use Rattle.nav_nodes.specs.Positions.{branches, branch_index, child_at, slot_at, Within, BranchAt, rising}
use Rattle.nav_nodes.specs.NextBranch.{IsNextBranch}

-- how many nodes an image has, by its frame
abbrev pub node_count : Frame → ℕ
node_count f = f.dense.nodes + f.sparse.nodes

-- A node of an accepted image.
pub record IsNode (s : Bytes) (f : Frame) (m : ℕ) : Type 0 where
  pub accepted : Accepted s f
  pub inside : m < node_count f

-- A sparse node of an accepted image.
pub record IsSparse (s : Bytes) (f : Frame) (m : ℕ) : Type 0 where
  pub accepted : Accepted s f
  pub behind_dense : f.dense.nodes ≤ m
  pub inside : m < node_count f

-- A position of a node's kind in an accepted image.
pub record IsPosition (s : Bytes) (f : Frame) (m p : ℕ) : Type 0 where
  pub accepted : Accepted s f
  pub within : Within s f m p

-- So many continuing branches and leaves have the nodes before node m.
pub record IsCountsBefore (s : Bytes) (f : Frame) (m children leaves : ℕ) : Type 0 where
  pub children_are : children ≡ children_before (nodes s f) m
  pub leaves_are : leaves ≡ leaves_before (nodes s f) m

-- Sparse node m is an exact leaf or not, and has its branches at the entries from first to before end.
pub record EntriesAt (s : Bytes) (f : Frame) (m : ℕ) (exact : Bool) (first end : ℕ) : Type 0 where
  pub exact_is : exact ≡ is_exact (node_at (nodes s f) m)
  pub first_is : first ≡ select (drop f.sb s) f.sparse.entries (m - f.dense.nodes) + bit (is_exact (node_at (nodes s f) m))
  pub end_is : end ≡ first + length (branches s f m)
  pub end_inside : end ≤ f.sparse.entries

-- What node m has at the label y: the kind of the branch, the position of the first branch from there on, and, of a sparse node, the position behind the last branch.
pub record FoundBranch (s : Bytes) (f : Frame) (m y : ℕ) (b : Found) : Type 0 where
  pub kind_is : b.kind ≡ kind_with y (drop (branch_index s f m y) (branches s f m))
  pub at_is : BranchAt s f m (branch_index s f m y) b.at.0
  pub end_is : f.dense.nodes ≤ m → b.end.0 + branch_index s f m y ≡ b.at.0 + length (branches s f m)

-- Behind the branch at position p of node m stand this child, if the branch continues, and this slot, if it ends.
pub record BehindBranch (s : Bytes) (f : Frame) (m p child slot : ℕ) : Type 0 where
  pub child_is : child ≡ child_at s f m p
  pub slot_is : slot ≡ slot_at s f m p

-- Whether node m is an exact leaf, and its first branch.
pub record IsFirstBranch (s : Bytes) (f : Frame) (m : ℕ) (b : FirstBranch) : Type 0 where
  pub exact_is : b.exact ≡ is_exact (node_at (nodes s f) m)
  pub branch_is : IsNextBranch s f m 0 b.branch.kind b.branch.label b.branch.at.0

-- Whether a sparse node has a label above y: a branch stands behind the one at y, or, where y has none, from its position on.
pub higher_found : (s : Bytes) (f : Frame) (m y : ℕ) (b : Found) → IsSparse s f m → FoundBranch s f m y b
    → is_there (first_kind (drop (branch_index s f m (y + 1)) (branches s f m))) ≡ ltb (b.at.0 + bit (is_there b.kind)) b.end.0
higher_found s f m y b n r =
    let t : is_there b.kind ≡ matches y (drop (branch_index s f m y) (branches s f m)) = ap is_there r.kind_is ∙ with_there y (drop (branch_index s f m y) (branches s f m)) in
    let next = labels_next y (branches s f m) (rising s f n.accepted m n.behind_dense n.inside) in
    rw (there_before (branches s f m) (branch_index s f m (y + 1)), t) (same (branch_index s f m (y + 1)) (length (branches s f m)) (omega (arith, r.end_is n.behind_dense, next)))
  where
    same : (i l : ℕ) → b.end.0 + i ≡ b.at.0 + bit (matches y (drop (branch_index s f m y) (branches s f m))) + l → ltb i l ≡ ltb (b.at.0 + bit (matches y (drop (branch_index s f m y) (branches s f m)))) b.end.0
    same i l e = go (ltb i l) refl
      where
        go : (t : Bool) → ltb i l ≡ t → t ≡ ltb (b.at.0 + bit (matches y (drop (branch_index s f m y) (branches s f m)))) b.end.0
        go true h = let k = ltb-true i l h in sym (lt-ltb (b.at.0 + bit (matches y (drop (branch_index s f m y) (branches s f m)))) b.end.0 (omega arith))
        go false h = let k = ltb-false i l h in sym (le-ltb (b.at.0 + bit (matches y (drop (branch_index s f m y) (branches s f m)))) b.end.0 (omega arith))
