-- The levels that a walk keeps: how they stay on the way up, and what they become where a branch is taken and a node entered.
use Prim.Native.Nat.{ℕ, zero, suc, ◌+◌, ◌-◌, ◌<◌, ◌≤◌}
use Rattle.std.specs.Prelude.{◌≡◌, Bool, true, false, List, [], ◌∷◌, map, length, get_or, drop, set, replicate, eqb, ltb}
use Rattle.std.proofs.Math.Path.{refl, sym}
use Rattle.std.proofs.Common.{ap, ap₂, ◌∙◌, true≢false, length-set, get_or-set_same, get_or-set_other}
use native.Mathlib.Omega.{arith}
use Rattle.std.proofs.Math.ListN.{get_or-map}
use borrow.Author.Tests.{ltb-true, ltb-false, eq-eqb, le-ltb}
use Rattle.spec.specs.Bytes.{Bytes, bit}
use Rattle.spec.specs.Nodes.{is_exact, has_child, label_of, children}
use Rattle.bits.specs.Bits.{bit_at}
use Rattle.bits.proofs.RankLaws.{rank_next, rank_le}
use Rattle.image.specs.declared.Frame.{Frame}
use Rattle.image.specs.declared.NodeNum.{NodeNum}
use Rattle.nav_nodes.specs.declared.BranchKind.{BranchKind}
use Rattle.nav_nodes.specs.declared.BranchKind.TheVariants as Kind
use Rattle.nav_nodes.specs.declared.FirstBranch.{FirstBranch}
use Rattle.nav_nodes.specs.declared.NextBranch.{NextBranch}
use Rattle.nav_nodes.specs.Counting.{labels_below_le, none_below_zero}
use Rattle.nav_nodes.specs.Slots.{node_at}
use Rattle.nav_nodes.specs.Descent.{child_number}
use Rattle.nav_nodes.specs.NextLabel.{is_there, kind_there, kind_at, there_before, labels_next, label_first}
use Rattle.nav_nodes.specs.SparsePositions.{matches_at}
use Rattle.nav_nodes.specs.Accepted.{Accepted, nodes}
use Rattle.nav_nodes.specs.Positions.{branches, branch_index, child_at, slot_at, BranchAt, end_sparse, rising, branch_sparse, child_sparse, before_sparse, dense_kids}
use Rattle.nav_nodes.specs.FoundBranch.{node_count, IsFirstBranch}
use Rattle.nav_nodes.specs.NextBranch.{IsNextBranch}
use Rattle.nav_branches.specs.Paths.{node_on}
use Rattle.walk_path.specs.declared.entries.Entry.{Entry}
use Rattle.nav_branches.specs.declared.LeafEnd.{LeafEnd}
use Rattle.walk_path.specs.Entries.{start_of, child_from, NextEntry, BehindNode, StartsAt}
use Rattle.walk_path.specs.Levels.{numbered, entry_on, with_entry, continues, Taken, Levels, OnNode, Enters, Kept}
use Rattle.bits_select.specs.SelectLaws.{select_le}

-- ---- paths by numbers

-- the node of a path by numbers
pub numbered_at : (ns : List ℕ) (d : ℕ) → node_on (numbered ns) d ≡ get_or ns d 0
numbered_at ns d = ap (λ (n : NodeNum). n.0) (get_or-map (λ (n : ℕ). record { 0 = n }) ns d 0)

-- a number stored
pub numbered_set : (ns : List ℕ) (i c : ℕ) → set (numbered ns) i (record { 0 = c }) ≡ numbered (set ns i c)
numbered_set [] i c = refl
numbered_set (n ∷ ns) zero c = refl
numbered_set (n ∷ ns) (suc i) c = ap (λ (xs : List NodeNum). record { 0 = n } ∷ xs) (numbered_set ns i c)

-- ---- entries of levels

module _ (es : List ℕ) (room : length es ≡ 128) (d : ℕ) (e : Entry) (deep : d < 64) where
  -- the entry that was stored
  pub kept_at : get_or (with_entry es d e) d 0 ≡ e.at.0
  kept_at = get_or-set_other (set es d e.at.0) (64 + d) d e.child.0 0 (λ q. omega arith) ∙ get_or-set_same es d e.at.0 0 (omega arith)

  pub kept_child : get_or (with_entry es d e) (64 + d) 0 ≡ e.child.0
  kept_child = get_or-set_same (set es d e.at.0) (64 + d) e.child.0 0 (omega (arith, length-set es d e.at.0))

  pub kept_room : length (with_entry es d e) ≡ 128
  kept_room = length-set (set es d e.at.0) (64 + d) e.child.0 ∙ length-set es d e.at.0 ∙ room

  -- and those of other levels
  module _ (i : ℕ) (small : i < 64) (other : i ≡ d → ⊥) where
    pub other_at : get_or (with_entry es d e) i 0 ≡ get_or es i 0
    other_at = get_or-set_other (set es d e.at.0) (64 + d) i e.child.0 0 (λ q. omega arith) ∙ get_or-set_other es d i e.at.0 0 other

    pub other_child : get_or (with_entry es d e) (64 + i) 0 ≡ get_or es (64 + i) 0
    other_child = get_or-set_other (set es d e.at.0) (64 + d) (64 + i) e.child.0 0 (λ q. other (omega arith)) ∙ get_or-set_other es d (64 + i) e.at.0 0 (λ q. omega arith)

-- ---- branches of a sparse node

module _ (s : Bytes) (f : Frame) (a : Accepted s f) (m : ℕ) (h : f.dense.nodes ≤ m) (l : m < node_count f) where
  -- the position of a branch of a sparse node is its entry
  pub position_is : (i p : ℕ) → i ≤ length (branches s f m) → BranchAt s f m i p → p ≡ start_of s f m + bit (is_exact (node_at (nodes s f) m)) + i
  unfolding child_at slot_at
  position_is i p k b =
      let q : ℕ = start_of s f m + bit (is_exact (node_at (nodes s f) m)) + i in
      let w = branch_sparse s f a m h l (start_of s f m + bit (is_exact (node_at (nodes s f) m))) refl i k (omega (arith, end_sparse s f a m h l, select_le (drop f.sb s) f.sparse.entries (m + 1 - f.dense.nodes))) in
      let no = le-ltb m f.dense.nodes h in
      let c = rw no at (b.child_is ∙ sym w.child_is) in
      let v = rw no at (b.slot_is ∙ sym w.slot_is) in
      omega (arith, c, v, rank_le (drop f.sc s) p, rank_le (drop f.sc s) q)

  -- the child behind a branch
  pub child_sparse_at : (p : ℕ) → child_at s f m p ≡ child_from s f p
  unfolding child_at
  child_sparse_at p = rw (le-ltb m f.dense.nodes h)

  -- from the node's first entry and from its first branch on the children are the same
  pub child_first : child_from s f (start_of s f m + bit (is_exact (node_at (nodes s f) m))) ≡ child_from s f (start_of s f m)
  unfolding child_at child_number children
  child_first =
      let w = branch_sparse s f a m h l (start_of s f m + bit (is_exact (node_at (nodes s f) m))) refl 0 (omega arith) (omega (arith, end_sparse s f a m h l, select_le (drop f.sb s) f.sparse.entries (m + 1 - f.dense.nodes))) in
      let z : start_of s f m + bit (is_exact (node_at (nodes s f) m)) + 0 ≡ start_of s f m + bit (is_exact (node_at (nodes s f) m)) = omega arith in
      let c = rw (le-ltb m f.dense.nodes h, z) at w.child_is in
      omega (arith, c, (before_sparse s f a m h (omega arith)).0, dense_kids s f a)

  -- the node is entered at its start
  pub enters_sparse : OnNode s f m → (b : FirstBranch) → IsFirstBranch s f m b → (e : Entry) → StartsAt s f m e → Enters s f m (record { first = b; entry = record { at = b.branch.at; child = e.child } })
  enters_sparse on b n e t =
      let none = none_below_zero (branches s f m) in
      let p = n.branch_is.there (λ q. on.there (sym n.branch_is.kind_is ∙ q)) in
      let is : b.branch.at.0 ≡ start_of s f m + bit (is_exact (node_at (nodes s f) m)) + branch_index s f m 0 = position_is (branch_index s f m 0) b.branch.at.0 (omega arith) p.at_is in
      let z : b.branch.at.0 ≡ start_of s f m + bit (is_exact (node_at (nodes s f) m)) = omega arith in
      let c : e.child.0 ≡ child_from s f b.branch.at.0 = t.child_is ∙ ap (child_from s f) t.entry_is ∙ sym child_first ∙ ap (child_from s f) (sym z) in
      record {
        first_is = n;
        child_is = c ∙ sym (child_sparse_at b.branch.at.0);
        next = λ x. record { sparse = λ q. h; entry_is = λ q. is; behind = λ q. omega (arith, z, ap bit (sym n.exact_is ∙ x)) };
        from = λ q. c;
      }

  -- behind the branch with label x
  module _ (b : NextBranch) (is : IsNextBranch s f m b.label b.kind b.label b.at.0) (there : b.kind ≡ Kind.Absent → ⊥) where
    before : branch_index s f m b.label < length (branches s f m)
    before = go (ltb (branch_index s f m b.label) (length (branches s f m))) refl
      where
        go : (t : Bool) → ltb (branch_index s f m b.label) (length (branches s f m)) ≡ t → branch_index s f m b.label < length (branches s f m)
        go true e = ltb-true (branch_index s f m b.label) (length (branches s f m)) e
        go false e = absurd (there (none b.kind (ap is_there is.kind_is ∙ there_before (branches s f m) (branch_index s f m b.label) ∙ e)))
          where
            none : (k : BranchKind) → is_there k ≡ false → k ≡ Kind.Absent
            none Kind.Absent q = refl
            none Kind.Leaf q = absurd (true≢false q)
            none Kind.Child q = absurd (true≢false q)

    entry_here : b.at.0 ≡ start_of s f m + bit (is_exact (node_at (nodes s f) m)) + branch_index s f m b.label
    entry_here = position_is (branch_index s f m b.label) b.at.0 (omega (arith, before)) (is.there there).at_is

    -- stands the entry of the labels above x
    pub next_behind : NextEntry s f m (b.label + 1) (b.at.0 + 1)
    next_behind =
        let same : eqb b.label (get_or (map label_of (branches s f m)) (branch_index s f m b.label) 0) ≡ true = eq-eqb b.label _ ((is.there there).label_is ∙ sym (label_first (branches s f m) (branch_index s f m b.label) before)) in
        let one = ap bit (matches_at b.label (branches s f m) (branch_index s f m b.label) before ∙ same) in
        record {
          sparse = λ z. h;
          entry_is = λ z. omega (arith, entry_here, labels_next b.label (branches s f m) (rising s f a m h l), one);
          behind = λ z. omega (arith, entry_here);
        }

    -- and the child from it on is the next one where the branch continues
    pub child_behind : child_from s f (b.at.0 + 1) ≡ child_at s f m b.at.0 + continues b.kind
    child_behind =
        let i : ℕ = branch_index s f m b.label in
        let c : bit_at (drop f.sc s) b.at.0 ≡ bit (get_or (map has_child (branches s f m)) i false) = ap (bit_at (drop f.sc s)) entry_here ∙ child_sparse s f a m h l (start_of s f m + bit (is_exact (node_at (nodes s f) m))) refl i before in
        let k : continues b.kind ≡ bit (get_or (map has_child (branches s f m)) i false) = ap continues (is.kind_is ∙ kind_at (branches s f m) i before) ∙ counted (get_or (map has_child (branches s f m)) i false) in
        omega (arith, c, k, child_sparse_at b.at.0, rank_next (drop f.sc s) b.at.0)
      where
        counted : (t : Bool) → continues (kind_there t) ≡ bit t
        counted true = refl
        counted false = refl

-- ---- up

-- a node with no branch left is behind
pub left_behind : (s : Bytes) (f : Frame) (a : Accepted s f) (ns es : List ℕ) (d y : ℕ) → get_or ns d 0 < node_count f → Taken s f (get_or ns d 0) (entry_on es d) y → (b : NextBranch) → IsNextBranch s f (get_or ns d 0) y b.kind b.label b.at.0 → b.kind ≡ Kind.Absent
    → BehindNode s f (get_or ns d 0) (entry_on es d)
left_behind s f a ns es d y inside t b n gone =
    let m : ℕ = get_or ns d 0 in
    let none : ltb (branch_index s f m y) (length (branches s f m)) ≡ false = sym (there_before (branches s f m) (branch_index s f m y)) ∙ ap is_there (sym n.kind_is ∙ gone) in
    let end : branch_index s f m y ≡ length (branches s f m) = omega (arith, ltb-false (branch_index s f m y) (length (branches s f m)) none, labels_below_le y (branches s f m)) in
    record {
      sparse = t.next.sparse;
      entry_is = λ h. omega (arith, t.next.entry_is h, end_sparse s f a m (t.next.sparse h) inside);
      child_is = t.child_is;
    }

-- the levels from the node above on
pub levels_up : (s : Bytes) (f : Frame) (a : Accepted s f) (ns es : List ℕ) (cut : Bytes) (d y : ℕ) → Levels s f ns es cut d y → get_or ns d 0 < node_count f → (b : NextBranch) → IsNextBranch s f (get_or ns d 0) y b.kind b.label b.at.0 → b.kind ≡ Kind.Absent
    → (d ≡ 0 → ⊥) → Levels s f ns es cut (d - 1) (get_or cut (d - 1) 0 + 1)
levels_up s f a ns es cut d y l inside b n gone deep = record {
  rows = record { above = λ i h. l.rows.above i (omega arith); below = λ i h k. go i h k (ltb d i) refl };
  here = l.rows.above (d - 1) (omega arith);
}
  where
    go : (i : ℕ) → d - 1 < i → i < 64 → (t : Bool) → ltb d i ≡ t → BehindNode s f (get_or ns i 0) (entry_on es i)
    go i h k true e = l.rows.below i (ltb-true d i e) k
    go i h k false e = let same : i ≡ d = omega (arith, ltb-false d i e) in rw same (left_behind s f a ns es d y inside l.here b n gone)

-- ---- nothing known

-- entries that are all unknown say nothing of any level
pub kept_unknown : (s : Bytes) (f : Frame) (ns : List ℕ) (cut : Bytes) (e : LeafEnd) → Kept s f ns (replicate 128 0) cut e
kept_unknown s f ns cut e = record { exact_end = λ q. levels e.depth 0; open_end = λ v q. levels (e.depth - 1) (get_or cut (e.depth - 1) 0 + 1) }
  where
    none : (i : ℕ) → get_or {A = ℕ} (replicate 128 0) i 0 ≡ 0
    none i = zeros 128 i
      where
        zeros : (n i : ℕ) → get_or {A = ℕ} (replicate n 0) i 0 ≡ 0
        zeros zero i = refl
        zeros (suc n) zero = refl
        zeros (suc n) (suc i) = zeros n i

    taken : (i y : ℕ) → Taken s f (get_or ns i 0) (entry_on (replicate 128 0) i) y
    taken i y =
        let z = none i in
        record { next = record { sparse = λ h. absurd (omega arith); entry_is = λ h. absurd (omega arith); behind = λ h. absurd (omega arith) }; child_is = λ h. absurd (omega arith) }

    levels : (d y : ℕ) → Levels s f ns (replicate 128 0) cut d y
    levels d y = record {
      rows = record { above = λ i h. taken i (get_or cut i 0 + 1); below = λ i h k. let z = none i in record { sparse = λ q. absurd (omega arith); entry_is = λ q. absurd (omega arith); child_is = λ q. absurd (omega arith) } };
      here = taken d y;
    }

-- ---- numbers of nodes

-- the numbers of nodes, one by one, are the nodes' numbers
pub numbered_all : (ns : List ℕ) (path : List NodeNum) → length ns ≡ length path → ((i : ℕ) → i < length path → get_or ns i 0 ≡ node_on path i) → numbered ns ≡ path
numbered_all [] [] h e = refl
numbered_all [] (p ∷ path) h e = absurd (omega arith)
numbered_all (n ∷ ns) [] h e = absurd (omega arith)
numbered_all (n ∷ ns) (p ∷ path) h e =
    ap₂ (λ (m : ℕ) (ms : List NodeNum). record { 0 = m } ∷ ms) (e 0 (omega arith)) (numbered_all ns path (omega arith) (λ i l. e (suc i) (omega arith)))
