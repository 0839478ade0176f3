-- What a walk keeps for each level: the node last visited there, and the sparse entry behind the last one visited, with the child from it on.
use Rattle.std.specs.Prelude.{ℕ, ◌+◌, ◌-◌, ◌<◌, ◌≤◌, ◌≡◌, true, List, map, length, get_or, drop, set}
use Rattle.spec.specs.Bytes.{Bytes}
use Rattle.image.specs.declared.Frame.{Frame}
use Rattle.image.specs.declared.NodeNum.{NodeNum}
use Rattle.image.specs.declared.ValuePos.{ValuePos}
use Rattle.nav_nodes.specs.declared.BranchKind.{BranchKind}
use Rattle.nav_nodes.specs.declared.BranchKind.TheVariants as Kind
use Rattle.nav_nodes.specs.declared.NextBranch.{NextBranch}
use Rattle.nav_branches.specs.declared.LeafStop.TheVariants as Stop
use Rattle.nav_branches.specs.declared.Path.{Path}
use Rattle.nav_nodes.specs.Accepted.{Accepted, nodes}
use Rattle.nav_nodes.specs.NextLabel.{first_kind}
use Rattle.nav_nodes.specs.Positions.{branches, branch_index, child_at}
use Rattle.nav_nodes.specs.FoundBranch.{node_count, IsFirstBranch}
use Rattle.nav_branches.specs.Paths.{onward}
use Rattle.nav_branches.specs.PathSteps.{HasBranch}
use Rattle.nav_branches.specs.declared.paths.Higher.{Higher}
use Rattle.nav_branches.specs.PathContracts.{Searchable, NextHigher, Reaches}
use Rattle.walk_path.specs.declared.entries.Entry.{Entry}
use Rattle.walk_path.specs.declared.moves.Entered.{Entered}
use Rattle.nav_branches.specs.declared.LeafEnd.{LeafEnd}
use Rattle.walk_path.specs.declared.moves.Resume.{Resume}
use Rattle.walk_path.specs.Entries.{child_from, NextEntry, BehindNode}

-- the path of nodes by their numbers
abbrev pub numbered : List ℕ → List NodeNum
numbered ns = map (λ (n : ℕ). record { 0 = n }) ns

-- with its labels
abbrev pub path_of : List ℕ → Bytes → Path
path_of ns cut = record { nodes = numbered ns; labels = cut }

-- the entry that is kept for level i
abbrev pub entry_on : List ℕ → ℕ → Entry
entry_on es i = record { at = record { 0 = get_or es i 0 }; child = record { 0 = get_or es (64 + i) 0 } }

-- the entries with another one kept for level i
abbrev pub with_entry : List ℕ → ℕ → Entry → List ℕ
with_entry es i e = set (set es i e.at.0) (64 + i) e.child.0

-- one for a branch that continues
abbrev pub continues : BranchKind → ℕ
continues Kind.Absent = 0
continues Kind.Leaf = 0
continues Kind.Child = 1

-- The branches of node m with labels below y are behind, and the entry behind them is kept, if it is known.
pub record Taken (s : Bytes) (f : Frame) (m : ℕ) (e : Entry) (y : ℕ) : Type 0 where
  pub next : NextEntry s f m y e.at.0
  pub child_is : 0 < e.at.0 → e.child.0 ≡ child_from s f e.at.0

-- Above level d the labels of the path are taken, and below it the nodes that were visited last are left.
pub record Rows (s : Bytes) (f : Frame) (ns es : List ℕ) (cut : Bytes) (d : ℕ) : Type 0 where
  pub above : (i : ℕ) → i < d → Taken s f (get_or ns i 0) (entry_on es i) (get_or cut i 0 + 1)
  pub below : (i : ℕ) → d < i → i < 64 → BehindNode s f (get_or ns i 0) (entry_on es i)

-- And on level d the labels below y are taken.
pub record Levels (s : Bytes) (f : Frame) (ns es : List ℕ) (cut : Bytes) (d y : ℕ) : Type 0 where
  pub rows : Rows s f ns es cut d
  pub here : Taken s f (get_or ns d 0) (entry_on es d) y

-- The arrays have their lengths: 64 nodes, an entry and a child for each of 64 levels, and 64 labels.
pub record Room (ns es : List ℕ) (cut : Bytes) : Type 0 where
  pub nodes_room : length ns ≡ 64
  pub entries_room : length es ≡ 128
  pub labels_room : length cut ≡ 64

-- ---- up

-- The path can be searched for a branch, and its levels are kept.
pub record CanClimb (s : Bytes) (f : Frame) (ns es : List ℕ) (cut : Bytes) (r : Resume) : Type 0 where
  pub searchable : Searchable s f (path_of ns cut) r.depth r.from
  pub levels : Levels s f ns es cut r.depth r.from

-- The next higher branch of the path is found, and the levels are kept from its depth on.
pub record Climbs (s : Bytes) (f : Frame) (ns es : List ℕ) (cut : Bytes) (r : Resume) (h : Higher) : Type 0 where
  pub higher : NextHigher s f (path_of ns cut) r.depth r.from h
  pub rows : Rows s f ns es cut h.depth
  pub sparse : 0 < (entry_on es h.depth).at.0 → f.dense.nodes ≤ get_or ns h.depth 0
  pub child_is : 0 < (entry_on es h.depth).at.0 → (entry_on es h.depth).child.0 ≡ child_from s f (entry_on es h.depth).at.0

-- ---- down

-- The path has the branch, and the levels are kept from its depth on.
pub record CanDescend (s : Bytes) (f : Frame) (ns es : List ℕ) (cut : Bytes) (h : Higher) : Type 0 where
  pub accepted : Accepted s f
  pub room : Room ns es cut
  pub branch : HasBranch s f (numbered ns) h.depth h.branch
  pub rows : Rows s f ns es cut h.depth
  pub sparse : 0 < (entry_on es h.depth).at.0 → f.dense.nodes ≤ get_or ns h.depth 0
  pub child_is : 0 < (entry_on es h.depth).at.0 → (entry_on es h.depth).child.0 ≡ child_from s f (entry_on es h.depth).at.0

-- The entry behind the branch b of node m with the child c: none for a dense node, else the next one, with the next child if the branch continues.
pub record BehindTaken (f : Frame) (m : ℕ) (b : NextBranch) (c : ℕ) (e : Entry) : Type 0 where
  pub dense : m < f.dense.nodes → e.at.0 ≡ 0
  pub sparse : f.dense.nodes ≤ m → (e.at.0 ≡ b.at.0 + 1) × (e.child.0 ≡ c + continues b.kind)

-- Node m is one of the image's, and has a branch.
pub record OnNode (s : Bytes) (f : Frame) (m : ℕ) : Type 0 where
  pub inside : m < node_count f
  pub there : first_kind (drop (branch_index s f m 0) (branches s f m)) ≡ Kind.Absent → ⊥

-- Node m is entered: its first branch, the entry and the child there.
pub record Enters (s : Bytes) (f : Frame) (m : ℕ) (r : Entered) : Type 0 where
  pub first_is : IsFirstBranch s f m r.first
  pub child_is : r.entry.child.0 ≡ child_at s f m r.first.branch.at.0
  -- where the entry is known, the node is sparse and has no branch before it
  pub next : r.first.exact ≡ true → NextEntry s f m 0 r.entry.at.0
  pub from : 0 < r.entry.at.0 → r.entry.child.0 ≡ child_from s f r.entry.at.0

-- The levels are kept where the path ends.
pub record Kept (s : Bytes) (f : Frame) (ns es : List ℕ) (cut : Bytes) (e : LeafEnd) : Type 0 where
  pub exact_end : e.stop ≡ Stop.Exact → Levels s f ns es cut e.depth 0
  pub open_end : (v : ValuePos) → e.stop ≡ Stop.Open v → Levels s f ns es cut (e.depth - 1) (get_or cut (e.depth - 1) 0 + 1)

-- The first leaf behind the branch with label y at a depth is reached, and the levels are kept there.
pub record Descended (s : Bytes) (f : Frame) (ns₀ : List ℕ) (cut₀ : Bytes) (depth y : ℕ) (ns es : List ℕ) (cut : Bytes) (e : LeafEnd) : Type 0 where
  pub reaches : Reaches s f (path_of ns₀ cut₀) depth (onward (nodes s f) (numbered ns₀) cut₀ depth y) (record { path = path_of ns cut; stop = e.stop; depth = e.depth })
  pub kept : Kept s f ns es cut e
  pub room : Room ns es cut
