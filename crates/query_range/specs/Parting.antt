-- A range over the leaves at or below a node: where both bounds go on with the same byte, where they part, and the one-sided questions that are left there.
use Rattle.std.specs.Prelude.{ℕ, zero, suc, ◌+◌, ◌-◌, ◌<◌, ◌≤◌, ◌≡◌, Bool, cond, ◌&&◌, ◌||◌, drop}
use Rattle.std.proofs.Math.Path.{refl, ap}
use Rattle.std.proofs.Common.{sym, ◌∙◌, length-append}
use Rattle.std.proofs.Math.Bool.{true, false, not}
use mathlib.Core.List.{List, [], ◌∷◌}
use Rattle.std.proofs.Math.Option.{none, some}
use native.Mathlib.Omega.{arith}
use Rattle.std.proofs.Math.ListN.{length}
use Rattle.std.proofs.Math.Dec.{ltb}
use borrow.Author.Tests.{ltb-true, ltb-false, lt-ltb, le-ltb, eq-eqb}
use Rattle.spec.specs.Bytes.{Bytes, Bits, bit, count}
use Rattle.spec.specs.Keys as keys
use Rattle.spec.specs.Nodes.{Group, Branch, to_node, to_leaf, Node, node, is_exact, children, exact_leaf}
use Rattle.nav_nodes.specs.declared.BranchKind.{BranchKind}
use Rattle.nav_nodes.specs.declared.BranchKind.TheVariants.{Absent}
use Rattle.nav_nodes.specs.Counting.{counts, branches_none, count_append, exact_none}
use Rattle.nav_nodes.specs.Slots.{node_at}
use Rattle.nav_nodes.specs.Descent.{child_number}
use Rattle.nav_nodes.specs.NextLabel.{first_kind, first_label, kind_with, is_there, there_not, not_there, there_before, label_first, own_index}
use Rattle.nav_branches.specs.Below.{behind_branches, own_slot, below, from_label, OnLevel, below_step, from_none, level_rising}
use Rattle.query_descent.specs.Next.{branches_at, branch_index_at, count_le, groups_from, over_groups, below_some, from_some, none_passed}
use Rattle.query_range.specs.AtLabel.{at_label, size, size_from, from_next, byte_split, at_some}
use Rattle.theory.proofs.Levels.{exact_leaf_count}

-- ---- definitions

-- some leaf is not passed by the key k: not all count before it
unfoldable pub some_left : (Bits → Bytes → Bool) → Bytes → Group → Bool
unfolding count counts
some_left q k g = ltb (count (counts false q k) g) (length g)

-- some leaf is reached by the key k
unfoldable pub some_reached : (Bits → Bytes → Bool) → Bytes → Group → Bool
unfolding count counts
some_reached q k g = ltb 0 (count (counts true q k) g)

-- more leaves are reached by hi than are passed by lo
unfoldable pub some_met : (Bits → Bytes → Bool) → (Bits → Bytes → Bool) → Bytes → Bytes → Group → Bool
unfolding count counts
some_met p r lo hi g = ltb (count (counts false p lo) g) (count (counts true r hi) g)

-- ---- tests of numbers

ltb_same : (a b c d : ℕ) → (a < b → c < d) → (c < d → a < b) → ltb a b ≡ ltb c d
ltb_same a b c d f g = go (ltb a b) refl (ltb c d) refl
  where
    go : (s : Bool) → ltb a b ≡ s → (t : Bool) → ltb c d ≡ t → s ≡ t
    go true p true q = refl
    go true p false q = absurd (omega (arith, f (ltb-true a b p), ltb-false c d q))
    go false p true q = absurd (omega (arith, g (ltb-true c d q), ltb-false a b p))
    go false p false q = refl

ltb_or : (a b c d x y : ℕ) → (a < b → (c < d → ⊥) → x < y) → (c < d → a < b) → (x < y → a < b) → ltb a b ≡ ltb c d || ltb x y
ltb_or a b c d x y f g h = go (ltb c d) refl
  where
    go : (t : Bool) → ltb c d ≡ t → ltb a b ≡ t || ltb x y
    go true q = lt-ltb a b (g (ltb-true c d q))
    go false q = ltb_same a b x y (λ u. f u (λ v. omega (arith, ltb-false c d q))) h

-- ---- a group of one leaf, or none

open_counts : (ends : Bool) (q : Bits → Bytes → Bool) (s : Bits) (k : Bytes) → counts ends q k (record { cut = []; exact = false; suffix = s }) ≡ q s k
unfolding counts
open_counts ends q s k = go (keys.below [] k)
  where
    go : (b : Bool) → (b && false) || q s k ≡ q s k
    go true = refl
    go false = refl

module _ (q : Bits → Bytes → Bool) (k : Bytes) where
  -- no leaf
  pub left_none : some_left q k [] ≡ false
  unfolding some_left count
  left_none = refl

  pub reached_none : some_reached q k [] ≡ false
  unfolding some_reached count
  reached_none = refl

  -- an open leaf
  pub left_open : (s : Bits) → some_left q k (record { cut = []; exact = false; suffix = s } ∷ []) ≡ not (q s k)
  unfolding some_left count
  left_open s = rw (open_counts false q s k) (go (q s k))
    where
      go : (b : Bool) → ltb (cond b 1 0) 1 ≡ not b
      go true = refl
      go false = refl

  pub reached_open : (s : Bits) → some_reached q k (record { cut = []; exact = false; suffix = s } ∷ []) ≡ q s k
  unfolding some_reached count
  reached_open s = rw (open_counts true q s k) (go (q s k))
    where
      go : (b : Bool) → ltb 0 (cond b 1 0) ≡ b
      go true = refl
      go false = refl

module _ (p r : Bits → Bytes → Bool) (lo hi : Bytes) where
  pub met_none : some_met p r lo hi [] ≡ false
  unfolding some_met count
  met_none = refl

  pub met_open : (s : Bits) → some_met p r lo hi (record { cut = []; exact = false; suffix = s } ∷ []) ≡ not (p s lo) && r s hi
  unfolding some_met count
  met_open s = rw (open_counts false p s lo, open_counts true r s hi) (go (p s lo) (r s hi))
    where
      go : (a b : Bool) → ltb (cond a 1 0) (cond b 1 0) ≡ not a && b
      go true true = refl
      go true false = refl
      go false true = refl
      go false false = refl

-- ---- sizes

empty_of : (g : Group) → length g ≡ 0 → g ≡ []
empty_of [] h = refl
empty_of (l ∷ g) h = absurd (omega arith)

own_exact : (n : Node) → is_exact (node (own_slot n) []) ≡ is_exact n
own_exact (node none es) = refl
own_exact (node (some s) es) = refl

kind_named : (fs : List Branch) → kind_with (first_label fs) fs ≡ first_kind fs
unfolding kind_with first_label first_kind
kind_named [] = refl
kind_named (to_leaf x s ∷ fs) = rw (eq-eqb x x refl)
kind_named (to_node x ∷ fs) = rw (eq-eqb x x refl)

module _ (ns : List Node) (l m : ℕ) (on : OnLevel ns (suc l) m) where
  -- at or below a node stand its own leaf, where it is an exact one, and those behind its branches
  size_is : size ns (suc l) m ≡ bit (is_exact (node_at ns m)) + size_from ns l m 0
  size_is =
      ap length (below_step ns l m)
      ∙ omega (arith, length-append (exact_leaf (own_slot (node_at ns m))) (from_label ns l m 0), exact_leaf_count (own_slot (node_at ns m)) [], ap bit (own_exact (node_at ns m)))

  -- behind the branches from a later label on stand no more
  from_later : (y j : ℕ) → size_from ns l m (y + j) ≤ size_from ns l m y
  from_later y zero = let z : y + 0 ≡ y = omega arith in rw z (omega arith)
  from_later y (suc j) = let z : y + suc j ≡ y + j + 1 = omega arith in rw z (omega (arith, from_next ns l m on (y + j), from_later y j))

  from_up : (y z : ℕ) → y ≤ z → size_from ns l m z ≤ size_from ns l m y
  from_up y z h = let e : y + (z - y) ≡ z = omega arith in rw e at (from_later y (z - y))

  -- ---- the first branch from a label on

  module _ (y : ℕ) (kind : BranchKind) (is : kind ≡ first_kind (drop (branch_index_at ns m y) (branches_at ns m))) where
    -- there is none: so there is none from a later label on
    pub ahead_none : kind ≡ Absent → (z : ℕ) → y ≤ z → (size_from ns l m z ≡ size_from ns l m y) × (at_label ns l m z ≡ [])
    ahead_none h z u =
        let e = ap length (from_none ns l m y kind is h) in
        let f = from_up y z u in
        (omega arith, empty_of (at_label ns l m z) (omega (arith, from_next ns l m on z)))

    module _ (there : kind ≡ Absent → ⊥) (label : ℕ) (named : label ≡ first_label (drop (branch_index_at ns m y) (branches_at ns m))) where
      inside : branch_index_at ns m y < length (branches_at ns m)
      inside = go (ltb (branch_index_at ns m y) (length (branches_at ns m))) refl
        where
          go : (b : Bool) → ltb (branch_index_at ns m y) (length (branches_at ns m)) ≡ b → branch_index_at ns m y < length (branches_at ns m)
          go true e = ltb-true (branch_index_at ns m y) (length (branches_at ns m)) e
          go false e = absurd (there (is ∙ not_there (first_kind (drop (branch_index_at ns m y) (branches_at ns m))) (there_before (branches_at ns m) (branch_index_at ns m y) ∙ e)))

      -- its label is found at its index
      pub named_index : branch_index_at ns m label ≡ branch_index_at ns m y
      named_index =
          ap (λ (x : ℕ). branch_index_at ns m x) (named ∙ sym (label_first (branches_at ns m) (branch_index_at ns m y) inside)) ∙ own_index (branches_at ns m) (branch_index_at ns m y) (level_rising ns (suc l) m on) inside

      pub named_kind : kind ≡ kind_with label (drop (branch_index_at ns m label) (branches_at ns m))
      named_kind = is ∙ sym (kind_named (drop (branch_index_at ns m y) (branches_at ns m))) ∙ rw (named_index, ← named)

      named_size : size_from ns l m label ≡ size_from ns l m y
      unfolding from_label
      named_size = rw named_index

      -- a later label than its own: fewer leaves stand from there on
      pub ahead_lower : (z : ℕ) → label < z → size_from ns l m z < size_from ns l m y
      ahead_lower z h = omega (arith, named_size, from_next ns l m on label, from_up (label + 1) z (omega arith), at_some ns l m label on (λ e. there (named_kind ∙ e)))

      -- one up to its own: as many
      pub ahead_upto : (z : ℕ) → y ≤ z → z ≤ label → size_from ns l m z ≡ size_from ns l m y
      ahead_upto z u h = omega (arith, named_size, from_up y z u, from_up z label h)

      -- one before its own has no branch
      pub ahead_higher : (z : ℕ) → y ≤ z → z < label → at_label ns l m z ≡ []
      ahead_higher z u h = empty_of (at_label ns l m z) (omega (arith, ahead_upto z u (omega arith), named_size, from_next ns l m on z, from_up (z + 1) label (omega arith)))

  -- ---- the lower bound alone

  module _ (q : Bits → Bytes → Bool) (y : ℕ) (k : Bytes) where
    -- a label above the bound's byte: a leaf behind it is left
    pub left_higher : is_there (first_kind (drop (branch_index_at ns m (y + 1)) (branches_at ns m))) ≡ true → some_left q (y ∷ k) (below ns (suc l) m) ≡ true
    unfolding some_left
    left_higher h =
        lt-ltb (count (counts false q (y ∷ k)) (below ns (suc l) m)) (size ns (suc l) m)
        (omega (
          arith,
          byte_split ns l m on false q y k,
          from_next ns l m on y,
          count_le (counts false q k) (at_label ns l m y),
          from_some ns l m (y + 1) on (there_not (first_kind (drop (branch_index_at ns m (y + 1)) (branches_at ns m))) h),
        ))

    -- none: what is left stands behind the byte
    pub left_same : is_there (first_kind (drop (branch_index_at ns m (y + 1)) (branches_at ns m))) ≡ false → some_left q (y ∷ k) (below ns (suc l) m) ≡ some_left q k (at_label ns l m y)
    unfolding some_left
    left_same h =
        let e = ap length (from_none ns l m (y + 1) (first_kind (drop (branch_index_at ns m (y + 1)) (branches_at ns m))) refl (not_there (first_kind (drop (branch_index_at ns m (y + 1)) (branches_at ns m))) h)) in
        let b = byte_split ns l m on false q y k in
        let n = from_next ns l m on y in
        ltb_same (count (counts false q (y ∷ k)) (below ns (suc l) m)) (size ns (suc l) m) (count (counts false q k) (at_label ns l m y)) (length (at_label ns l m y)) (λ u. omega arith) (λ u. omega arith)

  -- ---- the upper bound alone

  module _ (q : Bits → Bytes → Bool) where
    upto_end : count (counts true q []) (below ns (suc l) m) ≡ bit (is_exact (node_at ns m))
    unfolding below
    upto_end =
        count_append (counts true q []) (exact_leaf (own_slot (node_at ns m))) (behind_branches (below ns l) (branches_at ns m) (child_number ns m 0))
        ∙ omega (
          arith,
          exact_none true q (own_slot (node_at ns m)) [],
          ap bit (and-true (is_exact (node (own_slot (node_at ns m)) [])) ∙ own_exact (node_at ns m)),
          ap (count (counts true q [])) (over_groups (below ns l) (branches_at ns m) (child_number ns m 0)),
          branches_none true q (branches_at ns m) (groups_from (below ns l) (child_number ns m 0) (children (branches_at ns m))),
        )
      where
        and-true : (b : Bool) → b && true ≡ b
        and-true true = refl
        and-true false = refl

    -- the end of the bound: it reaches the exact leaf that the node is
    pub reached_end : some_reached q [] (below ns (suc l) m) ≡ is_exact (node_at ns m)
    unfolding some_reached
    reached_end = ap (ltb 0) upto_end ∙ go (is_exact (node_at ns m))
      where
        go : (b : Bool) → ltb 0 (bit b) ≡ b
        go true = refl
        go false = refl

    module _ (y : ℕ) (k : Bytes) where
      -- an exact leaf is reached by every longer bound
      pub reached_exact : is_exact (node_at ns m) ≡ true → some_reached q (y ∷ k) (below ns (suc l) m) ≡ true
      unfolding some_reached
      reached_exact h =
          lt-ltb 0 (count (counts true q (y ∷ k)) (below ns (suc l) m))
          (omega (arith, byte_split ns l m on true q y k, size_is, ap bit h, from_up 0 y (omega arith)))

      -- a label below the bound's byte: the leaves behind it are reached
      pub reached_lower : size_from ns l m y < size_from ns l m 0 → some_reached q (y ∷ k) (below ns (suc l) m) ≡ true
      unfolding some_reached
      reached_lower h = lt-ltb 0 (count (counts true q (y ∷ k)) (below ns (suc l) m)) (omega (arith, byte_split ns l m on true q y k, size_is))

      -- neither: what is reached stands behind the byte
      pub reached_same : is_exact (node_at ns m) ≡ false → size_from ns l m y ≡ size_from ns l m 0 → some_reached q (y ∷ k) (below ns (suc l) m) ≡ some_reached q k (at_label ns l m y)
      unfolding some_reached
      reached_same h e =
          let c : count (counts true q (y ∷ k)) (below ns (suc l) m) ≡ count (counts true q k) (at_label ns l m y) = omega (arith, byte_split ns l m on true q y k, size_is, ap bit h) in
          ap (ltb 0) c

  -- ---- both bounds

  module _ (p r : Bits → Bytes → Bool) (k j : Bytes) where
    -- both go on with the same byte
    pub met_same : (y : ℕ) → some_met p r (y ∷ k) (y ∷ j) (below ns (suc l) m) ≡ some_met p r k j (at_label ns l m y)
    unfolding some_met
    met_same y =
        let a = byte_split ns l m on false p y k in
        let b = byte_split ns l m on true r y j in
        let c = from_next ns l m on y in
        let d = size_is in
        let e = from_up 0 y (omega arith) in
        ltb_same (count (counts false p (y ∷ k)) (below ns (suc l) m)) (count (counts true r (y ∷ j)) (below ns (suc l) m)) (count (counts false p k) (at_label ns l m y)) (count (counts true r j) (at_label ns l m y)) (λ u. omega arith) (λ u. omega arith)

    -- the upper bound has ended, and the lower has not
    pub met_past : (y : ℕ) → some_met p r (y ∷ k) [] (below ns (suc l) m) ≡ false
    unfolding some_met
    met_past y =
        le-ltb (count (counts false p (y ∷ k)) (below ns (suc l) m)) (count (counts true r []) (below ns (suc l) m))
        (omega (arith, byte_split ns l m on false p y k, size_is, from_up 0 y (omega arith), upto_end r))

    module _ (a b : ℕ) where
      -- the lower bound's byte lies above the upper's
      pub met_above : b < a → some_met p r (a ∷ k) (b ∷ j) (below ns (suc l) m) ≡ false
      unfolding some_met
      met_above h =
          le-ltb (count (counts false p (a ∷ k)) (below ns (suc l) m)) (count (counts true r (b ∷ j)) (below ns (suc l) m))
          (omega (arith, byte_split ns l m on false p a k, byte_split ns l m on true r b j, from_next ns l m on b, count_le (counts true r j) (at_label ns l m b), from_up (b + 1) a (omega arith)))

      -- a label stands between the bytes
      pub met_between : size_from ns l m b < size_from ns l m (a + 1) → some_met p r (a ∷ k) (b ∷ j) (below ns (suc l) m) ≡ true
      unfolding some_met
      met_between h =
          lt-ltb (count (counts false p (a ∷ k)) (below ns (suc l) m)) (count (counts true r (b ∷ j)) (below ns (suc l) m))
          (omega (arith, byte_split ns l m on false p a k, byte_split ns l m on true r b j, from_next ns l m on a, count_le (counts false p k) (at_label ns l m a)))

      -- none does: each bound is asked alone behind its byte
      pub met_parted : size_from ns l m b ≡ size_from ns l m (a + 1) → some_met p r (a ∷ k) (b ∷ j) (below ns (suc l) m) ≡ some_left p k (at_label ns l m a) || some_reached r j (at_label ns l m b)
      unfolding some_met some_left some_reached
      met_parted h =
          let s = byte_split ns l m on false p a k in
          let t = byte_split ns l m on true r b j in
          let n = from_next ns l m on a in
          let c = count_le (counts false p k) (at_label ns l m a) in
          ltb_or (count (counts false p (a ∷ k)) (below ns (suc l) m)) (count (counts true r (b ∷ j)) (below ns (suc l) m)) (count (counts false p k) (at_label ns l m a)) (length (at_label ns l m a)) 0 (count (counts true r j) (at_label ns l m b))
          (λ u v. part u v) (λ u. omega arith) (λ u. omega arith)
        where
          part : count (counts false p (a ∷ k)) (below ns (suc l) m) < count (counts true r (b ∷ j)) (below ns (suc l) m) → (count (counts false p k) (at_label ns l m a) < length (at_label ns l m a) → ⊥) → 0 < count (counts true r j) (at_label ns l m b)
          part u v = omega (arith, byte_split ns l m on false p a k, byte_split ns l m on true r b j, from_next ns l m on a, v)

module _ (ns : List Node) (l m : ℕ) (on : OnLevel ns l m) where
  -- the end of the lower bound: it has passed no leaf at or below the node
  pub left_end : (q : Bits → Bytes → Bool) → some_left q [] (below ns l m) ≡ true
  unfolding some_left
  left_end q = lt-ltb (count (counts false q []) (below ns l m)) (size ns l m) (omega (arith, none_passed q ns l m, below_some ns l m on))

  -- so the upper bound decides
  pub met_end : (p r : Bits → Bytes → Bool) (j : Bytes) → some_met p r [] j (below ns l m) ≡ some_reached r j (below ns l m)
  unfolding some_met some_reached
  met_end p r j = ap (λ (c : ℕ). ltb c (count (counts true r j) (below ns l m))) (none_passed p ns l m)
