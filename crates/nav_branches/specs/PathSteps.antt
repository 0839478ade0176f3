-- The steps of a path in an accepted image: up to the next higher branch, and down behind a branch to the first leaf.
use Rattle.std.specs.Prelude.{ℕ, suc, ◌+◌, ◌-◌, ◌<◌, ◌≤◌, ◌≡◌, refl, Bool, true, false, List, [], length, get_or, set, ltb}
use Rattle.std.proofs.Common.{sym, ap, ◌∙◌, arith, length-append, ltb-true, ltb-false}
use Rattle.spec.specs.Bytes.{Bytes}
use Rattle.image.specs.declared.Frame.{Frame}
use Rattle.image.specs.declared.NodeNum.{NodeNum}
use Rattle.image.specs.declared.ValuePos.{ValuePos}
use Rattle.nav_nodes.specs.declared.NextBranch.{NextBranch}
use Rattle.nav_nodes.specs.declared.BranchKind.TheVariants as Kind
use Rattle.nav_branches.specs.declared.LeafStop.{LeafStop}
use Rattle.nav_branches.specs.declared.LeafStop.TheVariants as Stop
use Rattle.nav_nodes.specs.Counting.{labels_below}
use Rattle.nav_nodes.specs.Slots.{slot_number}
use Rattle.nav_nodes.specs.Descent.{child_number}
use Rattle.nav_nodes.specs.NextLabel.{kind_end, label_first, own_index}
use Rattle.nav_nodes.specs.NumberBounds.{kind_slot}
use Rattle.nav_nodes.specs.Accepted.{Accepted, nodes, dense_nodes, sparse_nodes}
use Rattle.nav_nodes.specs.Positions.{branches, branch_index, child_at, slot_at}
use Rattle.nav_nodes.specs.NextBranch.{IsNextBranch}
use Rattle.nav_nodes.specs.FoundBranch.{node_count}
use Rattle.theory.proofs.LinkedLevels.{Ascends}
use Rattle.nav_branches.specs.Below.{OnLevel, level_left, level_node, level_rising, level_branch, level_child}
use Rattle.nav_branches.specs.Paths.{node_on, onward, downward, standing, OnLevels, rest_up, rest_none, onward_none, onward_leaf, onward_child, onward_first, node_stored, node_kept}

-- ---- definitions

-- the first branch of node m whose label is not below y
abbrev pub BranchFrom : Bytes → Frame → ℕ → ℕ → NextBranch → Type 0
BranchFrom s f m y b = IsNextBranch s f m y b.kind b.label b.at.0

-- Node m at depth d has this branch, with its own label, and stands on its level.
pub record NodeBranch (s : Bytes) (f : Frame) (m d : ℕ) (b : NextBranch) : Type 0 where
  pub deep : d < 64
  pub on : OnLevel (nodes s f) (64 - d) m
  pub there : b.kind ≡ Kind.Absent → ⊥
  pub branch_is : BranchFrom s f m b.label b

-- so has the path's node at depth d
abbrev pub HasBranch : Bytes → Frame → List NodeNum → ℕ → NextBranch → Type 0
HasBranch s f path d b = NodeBranch s f (node_on path d) d b

-- A path with d labels ends nowhere; at the exact leaf that its last node is; or at an open leaf, behind its last label.
pub record Ends (s : Bytes) (f : Frame) (path : List NodeNum) (d : ℕ) (stop : LeafStop) : Type 0 where
  pub depth : d ≤ 64
  pub exact_end : stop ≡ Stop.Exact → (d < 64) × OnLevels (nodes s f) path d
  pub open_end : (v : ValuePos) → stop ≡ Stop.Open v → (0 < d) × (v.0 < f.leaves) × OnLevels (nodes s f) path (d - 1)

-- ---- ends

module _ (s : Bytes) (f : Frame) (path : List NodeNum) where
  -- a path of no labels ends nowhere
  pub ends_none : Ends s f path 0 Stop.Nowhere
  ends_none = record {
    depth = omega arith;
    exact_end = λ q. let z : ◌≡◌ {A = ℕ} 0 1 = cc in absurd (omega arith);
    open_end = λ v q. let z : ◌≡◌ {A = ℕ} 0 1 = cc in absurd (omega arith);
  }

  module _ (d : ℕ) (deep : d < 64) (on : OnLevels (nodes s f) path d) where
    -- one whose nodes to depth d stand on their levels ends at the exact leaf there
    pub ends_exact : Ends s f path d Stop.Exact
    ends_exact = record {
      depth = omega arith;
      exact_end = λ q. (deep, on);
      open_end = λ v q. let z : ◌≡◌ {A = ℕ} 0 1 = cc in absurd (omega arith);
    }

    -- or at an open leaf behind a label of its node there
    pub ends_open : (v : ValuePos) → v.0 < f.leaves → Ends s f path (d + 1) (Stop.Open v)
    ends_open v inside = record {
      depth = omega arith;
      exact_end = λ q. let z : ◌≡◌ {A = ℕ} 0 1 = cc in absurd (omega arith);
      open_end = λ u q. let e : v ≡ u = cc in let z : d + 1 - 1 ≡ d = omega arith in (omega arith, rw e at inside, rw z on);
    }

-- ---- nodes

-- a node on its level is one of the image's nodes
pub node_in : (s : Bytes) (f : Frame) → Accepted s f → (l m : ℕ) → OnLevel (nodes s f) l m → m < node_count f
node_in s f a l m on = omega (arith, level_node (nodes s f) l m on, length-append (dense_nodes s f) (sparse_nodes s f), a.dense_size, a.sparse_size)

-- The first branch from a label on is the one with its own label.
module _ (s : Bytes) (f : Frame) (l m y : ℕ) (b : NextBranch) (on : OnLevel (nodes s f) l m) (is : BranchFrom s f m y b) (there : b.kind ≡ Kind.Absent → ⊥) where
  pub same_index : branch_index s f m b.label ≡ branch_index s f m y
  same_index = go (ltb (branch_index s f m y) (length (branches s f m))) refl
    where
      go : (t : Bool) → ltb (branch_index s f m y) (length (branches s f m)) ≡ t → branch_index s f m b.label ≡ branch_index s f m y
      go true e =
          let h = ltb-true (branch_index s f m y) (length (branches s f m)) e in
          ap (λ (x : ℕ). labels_below x (branches s f m)) ((is.there there).label_is ∙ sym (label_first (branches s f m) (branch_index s f m y) h)) ∙ own_index (branches s f m) (branch_index s f m y) (level_rising (nodes s f) l m on) h
      go false e = absurd (there (is.kind_is ∙ sym (kind_end (branches s f m) (branch_index s f m y) (ltb-false (branch_index s f m y) (length (branches s f m)) e))))

  pub own_branch : BranchFrom s f m b.label b
  own_branch =
      let e = same_index in
      record { kind_is = rw e is.kind_is; there = λ n. let t = is.there n in record { label_is = rw e t.label_is; label_byte = t.label_byte; at_is = rw e t.at_is } }

-- ---- up

module _ (s : Bytes) (f : Frame) (path : List NodeNum) (cut : Bytes) (d y : ℕ) (b : NextBranch) (is : BranchFrom s f (node_on path d) y b) where
  -- a branch is left at the path's node
  module _ (deep : d < 64) (on : OnLevel (nodes s f) (64 - d) (node_on path d)) (there : b.kind ≡ Kind.Absent → ⊥) where
    pub branch_found : HasBranch s f path d b
    branch_found = record { deep = deep; on = on; there = there; branch_is = own_branch s f (64 - d) (node_on path d) y b on is there }

    pub branch_onward : onward (nodes s f) path cut d y ≡ onward (nodes s f) path cut d b.label
    branch_onward = onward_first (nodes s f) path cut d b.label y (same_index s f (64 - d) (node_on path d) y b on is there)

  -- none is left up to the root
  pub none_onward : b.kind ≡ Kind.Absent → d ≡ 0 → onward (nodes s f) path cut d y ≡ []
  none_onward h e = onward_none (nodes s f) path cut d y b.kind is.kind_is h ∙ rw e (rest_none (nodes s f) path cut)

  -- none is left at this node: those of the node above it
  pub higher_onward : b.kind ≡ Kind.Absent → (d ≡ 0 → ⊥) → onward (nodes s f) path cut d y ≡ onward (nodes s f) path cut (d - 1) (get_or cut (d - 1) 0 + 1)
  higher_onward h e = onward_none (nodes s f) path cut d y b.kind is.kind_is h ∙ rest_up (nodes s f) path cut d (omega arith)

-- ---- down

-- a node on its level has a first branch
pub first_there : (s : Bytes) (f : Frame) (l m : ℕ) (b : NextBranch) → OnLevel (nodes s f) l m → BranchFrom s f m 0 b → b.kind ≡ Kind.Absent → ⊥
first_there s f l m b on is e = level_branch (nodes s f) l m on (sym is.kind_is ∙ e)

module _ (s : Bytes) (f : Frame) (a : Accepted s f) (m d : ℕ) (b : NextBranch) (h : NodeBranch s f m d b) where
  -- the labels of its node ascend
  pub rising : Ascends (branches s f m)
  rising = level_rising (nodes s f) (64 - d) m h.on

  -- behind the branch stands an open leaf
  module _ (v : ValuePos) (is : v.0 ≡ slot_at s f m b.at.0) (ends : b.kind ≡ Kind.Leaf) where
    pub slot_is : v.0 ≡ slot_number (nodes s f) m (branch_index s f m b.label)
    slot_is = is ∙ (h.branch_is.there h.there).at_is.slot_is

    pub leaf_slot : v.0 < f.leaves
    leaf_slot = omega (arith, slot_is, kind_slot (nodes s f) m (branch_index s f m b.label) b.kind h.branch_is.kind_is ends, a.writable.leaf_total)

  -- behind it stands a node of the next level
  module _ (c : NodeNum) (is : c.0 ≡ child_at s f m b.at.0) (continues : b.kind ≡ Kind.Child) where
    pub child_is : c.0 ≡ child_number (nodes s f) m (branch_index s f m b.label)
    child_is = is ∙ (h.branch_is.there h.there).at_is.child_is

    pub child_on : OnLevel (nodes s f) (64 - (d + 1)) c.0
    child_on =
        let z : 64 - d ≡ suc (64 - (d + 1)) = omega (arith, h.deep) in
        rw child_is (level_child (nodes s f) (64 - (d + 1)) m (branch_index s f m b.label) (rw z at h.on) (sym h.branch_is.kind_is ∙ continues))

    pub child_deep : d + 1 < 64
    child_deep = omega (arith, level_left (nodes s f) (64 - (d + 1)) c.0 child_on)

module _ (s : Bytes) (f : Frame) (a : Accepted s f) (path : List NodeNum) (cut : Bytes) (d : ℕ) (b : NextBranch) (h : HasBranch s f path d b) where
  -- an open leaf, where the path ends
  pub leaf_onward : (v : ValuePos) → v.0 ≡ slot_at s f (node_on path d) b.at.0 → b.kind ≡ Kind.Leaf → length cut ≡ 64
      → onward (nodes s f) path cut d b.label ≡ standing f.width (nodes s f) path (set cut d b.label) (d + 1) (Stop.Open v)
  leaf_onward v is ends room =
      onward_leaf (nodes s f) path cut d b.label b.kind (omega (arith, h.deep)) h.branch_is.kind_is (rising s f a (node_on path d) d b h) (h.branch_is.there h.there).label_is f.width a.writable.wide ends v (slot_is s f a (node_on path d) d b h v is ends)

  -- a node of the next level
  module _ (c : NodeNum) (is : c.0 ≡ child_at s f (node_on path d) b.at.0) (continues : b.kind ≡ Kind.Child) (long : length path ≡ 64) where
    deep : d + 1 < 64
    deep = child_deep s f a (node_on path d) d b h c is continues

    -- it is the node of the path there
    pub child_node : node_on (set path (d + 1) c) (d + 1) ≡ c.0
    child_node = node_stored path (d + 1) c (omega (arith, deep))

    -- the nodes of the path stand on their levels if those above it do
    pub child_levels : OnLevels (nodes s f) path d → OnLevels (nodes s f) (set path (d + 1) c) (d + 1)
    child_levels on i l = go (ltb i (d + 1)) refl
      where
        go : (t : Bool) → ltb i (d + 1) ≡ t → OnLevel (nodes s f) (64 - i) (node_on (set path (d + 1) c) i)
        go true e = let k = ltb-true i (d + 1) e in rw (node_kept path (d + 1) i c (λ q. omega arith)) (on i (omega arith))
        go false e = let k : i ≡ d + 1 = omega (arith, ltb-false i (d + 1) e) in rw (k, child_node) (child_on s f a (node_on path d) d b h c is continues)

    -- and the leaves behind the branch are those at or below it
    pub child_downward : length cut ≡ 64 → onward (nodes s f) path cut d b.label ≡ downward (nodes s f) (set path (d + 1) c) (set cut d b.label) (d + 1)
    child_downward room =
        onward_child (nodes s f) path cut d b.label b.kind (omega (arith, h.deep)) h.branch_is.kind_is (rising s f a (node_on path d) d b h) (h.branch_is.there h.there).label_is continues c (child_is s f a (node_on path d) d b h c is continues) (omega (arith, deep))
