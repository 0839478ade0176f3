-- What the functions over sparse entries at known positions ask and give.
use Rattle.std.specs.Prelude.{ℕ, ◌+◌, ◌-◌, ◌<◌, ◌≤◌, ◌≡◌, Bool, true, false, drop}
use Rattle.spec.specs.Bytes.{Bytes, bit}
use Rattle.spec.specs.Nodes.{is_exact, total, children_of}
use Rattle.bits.specs.Bits.{rank, select}
use Rattle.image.specs.declared.Frame.{Frame}
use Rattle.nav_nodes.specs.Slots.{node_at}
use Rattle.nav_nodes.specs.Accepted.{dense_nodes, nodes}
use Rattle.nav_nodes.specs.Positions.{branch_index}
use Rattle.nav_nodes.specs.FoundBranch.{IsSparse}
use Rattle.walk_path.specs.declared.entries.Entry.{Entry}

-- the entry where sparse node m starts, or where the last one ends
abbrev pub start_of : Bytes → Frame → ℕ → ℕ
start_of s f m = select (drop f.sb s) f.sparse.entries (m - f.dense.nodes)

-- the node behind the first continuing entry from p on
abbrev pub child_from : Bytes → Frame → ℕ → ℕ
child_from s f p = 1 + (total children_of (dense_nodes s f) + rank (drop f.sc s) p)

-- Whether the entry p belongs to a sparse node, if it is behind the first entry of the node and not behind the first one of the next.
pub record TellsEnd (s : Bytes) (f : Frame) (p : ℕ) (r : Bool) : Type 0 where
  pub inside : (m : ℕ) → IsSparse s f m → p ≤ start_of s f (m + 1) → r ≡ true → p < start_of s f (m + 1)
  pub outside : (m : ℕ) → IsSparse s f m → start_of s f m < p → r ≡ false → start_of s f (m + 1) ≤ p

-- The known entry p, where it is known, is the one behind the branches of sparse node m with labels below y, and behind the first entry of the node.
pub record NextEntry (s : Bytes) (f : Frame) (m y p : ℕ) : Type 0 where
  pub sparse : 0 < p → f.dense.nodes ≤ m
  pub entry_is : 0 < p → p ≡ start_of s f m + bit (is_exact (node_at (nodes s f) m)) + branch_index s f m y
  pub behind : 0 < p → start_of s f m < p

-- The known entry, where it is known, is the one behind sparse node m, with the child from it on.
pub record BehindNode (s : Bytes) (f : Frame) (m : ℕ) (e : Entry) : Type 0 where
  pub sparse : 0 < e.at.0 → f.dense.nodes ≤ m
  pub entry_is : 0 < e.at.0 → e.at.0 ≡ start_of s f (m + 1)
  pub child_is : 0 < e.at.0 → e.child.0 ≡ child_from s f e.at.0

-- Sparse node m starts at the entry, with the child from it on.
pub record StartsAt (s : Bytes) (f : Frame) (m : ℕ) (e : Entry) : Type 0 where
  pub entry_is : e.at.0 ≡ start_of s f m
  pub child_is : e.child.0 ≡ child_from s f e.at.0
