-- A seek's way along its start: the last higher label that was passed, the node that the next byte starts from, and where the way ends.
use Rattle.std.specs.Prelude.{ℕ, suc, ◌+◌, ◌-◌, ◌<◌, ◌≤◌, ◌≡◌, refl, Bool, true, false, cond, List, [], ◌∷◌, ◌++◌, length, get_or, take, drop, eqb, Option, Some, None}
use Rattle.std.proofs.Common.{sym, ap, ◌∙◌, arith, add-one, drop_of_length-le, take-suc}
use Rattle.std.proofs.Math.Option.{none, some}
use Rattle.std.proofs.Math.Option as spec
use Rattle.spec.specs.Bytes.{Bytes, bit}
use Rattle.spec.specs.Leaves.{Leaf}
use Rattle.spec.specs.Nodes.{Branch, to_node, to_leaf, Node, read_leaves}
use Rattle.image.specs.declared.Frame.{Frame}
use Rattle.image.specs.declared.NodeNum.{NodeNum}
use Rattle.image.specs.declared.ValuePos.{ValuePos}
use Rattle.nav_nodes.specs.declared.BranchKind.TheVariants as Kind
use Rattle.nav_nodes.specs.declared.Found.{Found}
use Rattle.nav_nodes.specs.Accepted.{Accepted, nodes}
use Rattle.nav_branches.specs.Below.{from_label, OnLevel, level_child}
use Rattle.nav_nodes.specs.Descent.{child_number}
use Rattle.nav_nodes.specs.FoundBranch.{node_count, FoundBranch, BehindBranch}
use Rattle.nav_nodes.specs.NumberBounds.{slot_range}
use Rattle.nav_nodes.specs.NextLabel.{first_kind, kind_with, is_there, there_not}
use Rattle.nav_nodes.specs.Positions.{branches, branch_index}
use Rattle.nav_nodes.specs.Slots.{slot_number, slot_of}
use Rattle.query_descent.specs.declared.HigherLabel.{HigherLabel}
use Rattle.query_descent.specs.declared.BoundEnd.{BoundEnd}
use Rattle.query_descent.specs.declared.BoundEnd.TheVariants as End
use Rattle.query_descent.specs.Bounds.{slot_passed}
use Rattle.query_descent.specs.FirstLeaf.{leaf_below, leaf_behind}
use Rattle.query_descent.specs.Next.{head_of, behind_each, higher_at, higher_kept, higher_taken, next_from, next_end, next_absent, next_open, next_child}
use Rattle.query_descent.specs.Ordered.{next_leaf}
use Rattle.query_descent.specs.Seeks.{root_level, next_root}
use Rattle.query_descent.specs.Steps.{slot_in}
use Rattle.query_descent.specs.SuffixBytes.{key_next}
use Rattle.query_descent.specs.Summed.{Leading, Summed, leading_root, leading_on, summed_none, summed_leaf, summed_end}

-- ---- definitions

-- the first leaf behind the last higher label: none, or behind the labels of a node above the start's byte at its depth
abbrev pub higher_leaf : List Node → Bytes → Option HigherLabel → spec.Option Leaf
higher_leaf ns start None = none
higher_leaf ns start (Some h) = leaf_behind ns start h.node.0 h.depth (get_or start h.depth 0 + 1)

-- Node m, at depth d of the way, has a label above the start's byte there, and this at the byte itself.
pub record HasHigher (s : Bytes) (f : Frame) (start : Bytes) (m d : ℕ) (b : Found) : Type 0 where
  pub level : OnLevel (nodes s f) (64 - d) m
  pub label_there : first_kind (drop (branch_index s f m (get_or start d 0 + 1)) (branches s f m)) ≡ Kind.Absent → ⊥
  pub found : FoundBranch s f m (get_or start d 0) b

-- the node of the last higher label is one of the n that were passed
abbrev pub HigherIn : Bytes → Frame → Bytes → ℕ → Option HigherLabel → Type 0
HigherIn s f start n None = Unit
HigherIn s f start n (Some h) = (h.depth < n) × HasHigher s f start h.node.0 h.depth h.found

-- the leaf that is sought, m the last node of the way and d its depth: where the way ends at no leaf, the one behind the last higher label; the first at or below the node; the open leaf
abbrev pub end_leaf : ℕ → List Node → Bytes → BoundEnd → Option HigherLabel → ℕ → ℕ → spec.Option Leaf
end_leaf w ns start End.NoLeaf higher m d = higher_leaf ns start higher
end_leaf w ns start End.Node higher m d = leaf_below ns start m d
end_leaf w ns start (End.Leaf v) higher m d = some (record { cut = take d start; exact = false; suffix = slot_of w ns v.0 })

-- a node there stands on its level, and the slot of an open leaf is one of n
abbrev pub EndIn : List Node → ℕ → BoundEnd → ℕ → ℕ → Type 0
EndIn ns n End.NoLeaf m d = Unit
EndIn ns n End.Node m d = OnLevel ns (64 - d) m
EndIn ns n (End.Leaf v) m d = v.0 < n

-- where the way ends at the branch of an open leaf: at no leaf, if the start has passed it, else there
abbrev pub leaf_end : Bool → ValuePos → BoundEnd
leaf_end true v = End.NoLeaf
leaf_end false v = End.Leaf v

-- The first bytes of the start, `depth` of them, lead to a node.
pub record Following (s : Bytes) (f : Frame) (start : Bytes) (higher : Option HigherLabel) (node depth sum : ℕ) : Type 0 where
  -- with the sum of the slot numbers on the levels above it
  pub leads : Leading s f start node depth sum
  -- it stands on its level
  pub level : OnLevel (nodes s f) (64 - depth) node
  -- the last higher label stands above it
  pub higher_in : HigherIn s f start depth higher
  -- the leaf that is sought stands at or below it, or else behind the last higher label
  pub leaf_is : next_leaf f.hash_width (read_leaves s) start ≡ next_from (slot_passed f.hash_width (length start)) (nodes s f) (64 - depth) node (take depth start) (drop depth start) (higher_leaf (nodes s f) start higher)

-- With node m at depth d passed, the last higher label is this one.
pub record HigherPassed (s : Bytes) (f : Frame) (start : Bytes) (m d : ℕ) (before after : Option HigherLabel) : Type 0 where
  -- the leaf behind it is that behind a higher label of the node, or else the one before
  pub leaf_is : higher_at (nodes s f) (64 - (d + 1)) m (take d start) (get_or start d 0) (higher_leaf (nodes s f) start before) ≡ higher_leaf (nodes s f) start after
  -- its node stands no deeper
  pub higher_in : HigherIn s f start (d + 1) after

-- Where following the start has ended.
pub record KeyFollowed (s : Bytes) (f : Frame) (start : Bytes) (end : BoundEnd) (higher : Option HigherLabel) (node depth sum : ℕ) : Type 0 where
  -- there the leaf that is sought stands
  pub leaf_is : next_leaf f.hash_width (read_leaves s) start ≡ end_leaf f.width (nodes s f) start end higher node depth
  pub end_in : EndIn (nodes s f) f.leaves end node depth
  pub higher_in : HigherIn s f start depth higher
  -- the start's bound on the level below
  pub sums : Summed s f start node depth sum

-- ---- the last higher label

-- a first branch that continues with the label y continues
pub first_child : (y : ℕ) (fs : List Branch) → kind_with y fs ≡ Kind.Child → first_kind fs ≡ Kind.Child
unfolding kind_with first_kind
first_child y [] h = h
first_child y (to_leaf x s ∷ fs) h = absurd (go (eqb x y) h)
  where
    go : (b : Bool) → cond b Kind.Leaf Kind.Absent ≡ Kind.Child → ⊥
    go true e = let z : ◌≡◌ {A = ℕ} 0 1 = cc in omega arith
    go false e = let z : ◌≡◌ {A = ℕ} 0 1 = cc in omega arith
first_child y (to_node x ∷ fs) h = refl

-- with more nodes passed, its node is still one of them
pub higher_within : (s : Bytes) (f : Frame) (start : Bytes) (d n : ℕ) (higher : Option HigherLabel) → d ≤ n → HigherIn s f start d higher → HigherIn s f start n higher
higher_within s f start d n None l h = tt
higher_within s f start d n (Some x) l h = (omega (arith, h.0), h.1)

module _ (s : Bytes) (f : Frame) (start : Bytes) (m : NodeNum) (d : ℕ) (before : Option HigherLabel) (short : d < 64) (on : OnLevel (nodes s f) (64 - d) m.0) (inside : HigherIn s f start d before) where
  -- The node passed has no label above the start's byte.
  pub higher_same : is_there (first_kind (drop (branch_index s f m.0 (get_or start d 0 + 1)) (branches s f m.0))) ≡ false → HigherPassed s f start m.0 d before before
  higher_same h = record { leaf_is = higher_kept (nodes s f) (64 - (d + 1)) m.0 (take d start) (get_or start d 0) (higher_leaf (nodes s f) start before) h; higher_in = higher_within s f start d (d + 1) before (omega arith) inside }

  -- It has one.
  pub higher_new : {b : Found} → FoundBranch s f m.0 (get_or start d 0) b → is_there (first_kind (drop (branch_index s f m.0 (get_or start d 0 + 1)) (branches s f m.0))) ≡ true → HigherPassed s f start m.0 d before (Some (record { node = m; depth = d; found = b }))
  higher_new found h =
      let z : 64 - d ≡ suc (64 - (d + 1)) = omega arith in
      let e : 64 - (d + 1) ≡ 63 - d = omega arith in
      record {
        leaf_is = higher_taken (nodes s f) (64 - (d + 1)) m.0 (take d start) (get_or start d 0) (higher_leaf (nodes s f) start before) (rw z at on) h
            ∙ ap (λ (l : ℕ). behind_each (take d start) (head_of (from_label (nodes s f) l m.0 (get_or start d 0 + 1)))) e;
        higher_in = (omega arith, record { level = on; label_there = there_not (first_kind (drop (branch_index s f m.0 (get_or start d 0 + 1)) (branches s f m.0))) h; found = found });
      }

-- ---- the way

module _ (s : Bytes) (f : Frame) (a : Accepted s f) (start : Bytes) where
  -- no byte leads to the root
  pub following_root : 0 < node_count f → Following s f start None 0 0 0
  following_root h = record { leads = leading_root s f a start h; level = root_level s f a h; higher_in = tt; leaf_is = next_root s f a h start }

  -- The start has ended at a node.
  pub followed_end : {higher : Option HigherLabel} {m d sum : ℕ} → Following s f start higher m d sum → length start ≤ d → KeyFollowed s f start End.Node higher m d sum
  followed_end {higher} {m} {d} {sum} o h = record {
    leaf_is =
        o.leaf_is ∙ ap (λ (k : Bytes). next_from (slot_passed f.hash_width (length start)) (nodes s f) (64 - d) m (take d start) k (higher_leaf (nodes s f) start higher)) (drop_of_length-le start {i = d} h)
        ∙ next_end (slot_passed f.hash_width (length start)) (nodes s f) (64 - d) m (take d start) (higher_leaf (nodes s f) start higher) o.level;
    end_in = o.level;
    higher_in = o.higher_in;
    sums = summed_end s f a start m d sum o.leads h;
  }

-- The next byte of the start is passed: the step from node m at depth d to what stands behind its branch.
pub record BytePassed (s : Bytes) (f : Frame) (start : Bytes) (higher : Option HigherLabel) (m d sum : ℕ) (b : Found) (child : NodeNum) (slot : ValuePos) (after : Option HigherLabel) : Type 0 where
  pub from : Following s f start higher m d sum
  pub more : d < length start
  pub short : length start ≤ 64
  -- the node has this branch at the byte
  pub found : FoundBranch s f m (get_or start d 0) b
  -- behind it stand this child and this slot
  pub behind : BehindBranch s f m b.at.0 child.0 slot.0
  -- with the node passed, this is the last higher label
  pub passed : HigherPassed s f start m d higher after

module _ {s : Bytes} {f : Frame} {start : Bytes} {higher : Option HigherLabel} {m d sum : ℕ} {b : Found} {child : NodeNum} {slot : ValuePos} {after : Option HigherLabel} (a : Accepted s f) (p : BytePassed s f start higher m d sum b child slot after) where
  child_is : child.0 ≡ child_number (nodes s f) m (branch_index s f m (get_or start d 0))
  child_is = p.behind.child_is ∙ p.found.at_is.child_is

  slot_is : slot.0 ≡ slot_number (nodes s f) m (branch_index s f m (get_or start d 0))
  slot_is = p.behind.slot_is ∙ p.found.at_is.slot_is

  level_more : 64 - d ≡ suc (64 - (d + 1))
  level_more = omega (arith, p.more, p.short)

  cut_next : take d start ++ (get_or start d 0 ∷ []) ≡ take (d + 1) start
  cut_next = rw (add-one d) (sym (take-suc start d 0 p.more))

  -- the leaf that is sought, before the next byte of the start
  byte_leaf : next_leaf f.hash_width (read_leaves s) start
      ≡ next_from (slot_passed f.hash_width (length start)) (nodes s f) (suc (64 - (d + 1))) m (take d start) (get_or start d 0 ∷ drop (d + 1) start) (higher_leaf (nodes s f) start higher)
  byte_leaf =
      p.from.leaf_is ∙ ap (λ (k : Bytes). next_from (slot_passed f.hash_width (length start)) (nodes s f) (64 - d) m (take d start) k (higher_leaf (nodes s f) start higher)) (key_next start d p.more)
      ∙ ap (λ (l : ℕ). next_from (slot_passed f.hash_width (length start)) (nodes s f) l m (take d start) (get_or start d 0 ∷ drop (d + 1) start) (higher_leaf (nodes s f) start higher)) level_more

  on : OnLevel (nodes s f) (suc (64 - (d + 1))) m
  on = rw level_more at p.from.level

  -- No branch has the next byte as its label.
  pub followed_none : b.kind ≡ Kind.Absent → KeyFollowed s f start End.NoLeaf after child.0 (d + 1) (sum + slot.0)
  followed_none k = record {
    leaf_is =
        byte_leaf ∙ next_absent (slot_passed f.hash_width (length start)) (nodes s f) (64 - (d + 1)) m on (take d start) (get_or start d 0) (drop (d + 1) start) (higher_leaf (nodes s f) start higher) (sym p.found.kind_is ∙ k)
        ∙ p.passed.leaf_is;
    end_in = tt;
    higher_in = p.passed.higher_in;
    sums = summed_none s f a start m d sum p.from.leads b.kind child.0 slot.0 p.more p.short p.found.kind_is child_is slot_is k;
  }

  -- The slot of an open leaf behind the branch is one of the leaves.
  pub leaf_slot : b.kind ≡ Kind.Leaf → slot.0 < f.leaves
  leaf_slot k = omega (arith, slot_is, slot_in (nodes s f) m (get_or start d 0) b.kind p.found.kind_is k, a.writable.leaf_total)

  -- The sum with that slot is small.
  pub sum_small : sum + slot.0 ≤ 4194240
  sum_small = omega (arith, slot_is, (slot_range (nodes s f) m (branch_index s f m (get_or start d 0))).1, a.writable.leaf_total, a.writable.few, p.from.leads.small, p.more, p.short)

  -- The branch ends at an open leaf, which the start has passed or not.
  pub followed_leaf : b.kind ≡ Kind.Leaf → (t : Bool) → t ≡ slot_passed f.hash_width (length start) (slot_of f.width (nodes s f) slot.0) (drop (d + 1) start)
      → KeyFollowed s f start (leaf_end t slot) after child.0 (d + 1) (sum + slot.0 + bit t)
  followed_leaf k t is = record {
    leaf_is =
        byte_leaf
        ∙ next_open (slot_passed f.hash_width (length start)) (nodes s f) (64 - (d + 1)) m on (take d start) (get_or start d 0) (drop (d + 1) start) (higher_leaf (nodes s f) start higher) f.width a.writable.wide (sym p.found.kind_is ∙ k)
        ∙ rw (p.passed.leaf_is, cut_next, ← slot_is, ← is) (leaf_there t);
    end_in = slot_there t;
    higher_in = p.passed.higher_in;
    sums = rw is (summed_leaf s f a start m d sum p.from.leads b.kind child.0 slot.0 p.more p.short p.found.kind_is child_is slot_is k);
  }
    where
      leaf_there : (t : Bool) → cond t (higher_leaf (nodes s f) start after) (some (record { cut = take (d + 1) start; exact = false; suffix = slot_of f.width (nodes s f) slot.0 })) ≡ end_leaf f.width (nodes s f) start (leaf_end t slot) after child.0 (d + 1)
      leaf_there true = refl
      leaf_there false = refl

      slot_there : (t : Bool) → EndIn (nodes s f) f.leaves (leaf_end t slot) child.0 (d + 1)
      slot_there true = tt
      slot_there false = leaf_slot k

  -- The branch continues.
  pub following_child : b.kind ≡ Kind.Child → Following s f start after child.0 (d + 1) (sum + slot.0)
  following_child k = record {
    leads = leading_on s f a start m d sum p.from.leads b.kind child.0 slot.0 p.more p.short p.found.kind_is child_is slot_is k;
    level = rw child_is (level_child (nodes s f) (64 - (d + 1)) m (branch_index s f m (get_or start d 0)) on (first_child (get_or start d 0) (drop (branch_index s f m (get_or start d 0)) (branches s f m)) (sym p.found.kind_is ∙ k)));
    higher_in = p.passed.higher_in;
    leaf_is =
        byte_leaf ∙ next_child (slot_passed f.hash_width (length start)) (nodes s f) (64 - (d + 1)) m on (take d start) (get_or start d 0) (drop (d + 1) start) (higher_leaf (nodes s f) start higher) (sym p.found.kind_is ∙ k)
        ∙ rw (p.passed.leaf_is, cut_next, child_is);
  }

-- ---- where the way has ended

module _ {s : Bytes} {f : Frame} {start : Bytes} {end : BoundEnd} {higher : Option HigherLabel} {m d sum : ℕ} (k : KeyFollowed s f start end higher m d sum) where
  -- at no leaf
  pub ended_nowhere : end ≡ End.NoLeaf → next_leaf f.hash_width (read_leaves s) start ≡ higher_leaf (nodes s f) start higher
  ended_nowhere e = k.leaf_is ∙ ap (λ (x : BoundEnd). end_leaf f.width (nodes s f) start x higher m d) e

  -- at a node
  pub ended_node : end ≡ End.Node → (next_leaf f.hash_width (read_leaves s) start ≡ leaf_below (nodes s f) start m d) × OnLevel (nodes s f) (64 - d) m
  ended_node e = (k.leaf_is ∙ ap (λ (x : BoundEnd). end_leaf f.width (nodes s f) start x higher m d) e, rw e at k.end_in)

  -- at an open leaf
  pub ended_leaf : (v : ValuePos) → end ≡ End.Leaf v → (next_leaf f.hash_width (read_leaves s) start ≡ some (record { cut = take d start; exact = false; suffix = slot_of f.width (nodes s f) v.0 })) × (v.0 < f.leaves)
  ended_leaf v e = (k.leaf_is ∙ ap (λ (x : BoundEnd). end_leaf f.width (nodes s f) start x higher m d) e, rw e at k.end_in)
