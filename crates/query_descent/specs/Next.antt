-- The first leaf that a key has not passed, over the leaves at or below a node: what one byte of the key leaves behind its own label, and the first leaf behind a higher one.
use Prim.Native.Nat.{ℕ, zero, suc, ◌+◌, ◌<◌, ◌≤◌}
use Rattle.std.proofs.Math.Path.{◌≡◌, refl, sym, ap, ap₂, subst}
use Rattle.std.proofs.Common.{◌∙◌, length-append}
use Rattle.std.specs.Prelude.{Bool, ◌&&◌, take, drop}
use Rattle.std.proofs.Math.Bool.{true, false, cond}
use mathlib.Core.List.{List, [], ◌∷◌, ◌++◌, map, append_assoc}
use Rattle.std.proofs.Math.Option.{Option, none, some}
use native.Mathlib.Omega.{arith}
use Rattle.std.proofs.Math.Numerals.{add-one}
use Rattle.std.proofs.Math.ListN.{length}
use Rattle.std.proofs.lemmas.List.{length-map}
use Rattle.std.proofs.Math.Dec.{leb, eqb}
use borrow.Author.Tests.{eqb-true, eqb-false, leb-true, leb-false}
use Rattle.spec.specs.Bytes.{Bytes, Bits, bit, count}
use Rattle.spec.specs.Leaves.{Leaf}
use Rattle.spec.specs.Nodes.{Group, Branch, to_node, to_leaf, Node, node, branches_of, is_exact, prefix, branch_leaves, children, exact_leaf}
use Rattle.nav_nodes.specs.declared.BranchKind.TheVariants.{Absent, Leaf as Ends, Child}
use Rattle.nav_nodes.specs.Counting.{labels_below, below_low, below_high, counts, counts_low, counts_same, open_same, prefixed_low, branches_none, branches_high, count_append, exact_none, exact_counted}
use Rattle.nav_nodes.specs.Slots.{node_at, slot_number, slot_of, slot_is}
use Rattle.nav_nodes.specs.Descent.{child_number}
use Rattle.nav_nodes.specs.NextLabel.{first_kind, kind_with, is_there, there_not, not_there, low_none}
use Rattle.nav_branches.specs.Below.{behind, behind_branches, own_slot, below, from_label, OnLevel, below_step, from_none, level_left, level_rising, level_branch, level_child}
use Rattle.theory.specs.Terms.{All}
use Rattle.theory.proofs.LinkedLevels.{BelowLabel, Ascends}
use Rattle.theory.proofs.Levels.{exact_leaf_count}
use Rattle.theory.proofs.NodeBits.{SlotsWidth}

-- ---- first members

module _ {A : Type 0} where
  -- the first of a list
  abbrev pub head_of : List A → Option A
  head_of [] = none
  head_of (x ∷ xs) = some x

  -- the first, or else the second
  abbrev pub or_else : Option A → Option A → Option A
  or_else none o = o
  or_else (some x) o = some x

  -- the first member that does not pass the test
  unfoldable pub next_of : (A → Bool) → List A → Option A
  next_of p [] = none
  next_of p (x ∷ xs) = cond (p x) (next_of p xs) (some x)

  or_assoc : (a b c : Option A) → or_else (or_else a b) c ≡ or_else a (or_else b c)
  or_assoc none b c = refl
  or_assoc (some x) b c = refl

  next_append : (p : A → Bool) (xs ys : List A) → next_of p (xs ++ ys) ≡ or_else (next_of p xs) (next_of p ys)
  unfolding next_of
  next_append p [] ys = refl
  next_append p (x ∷ xs) ys = go (p x) (next_append p xs ys)
    where
      go : (b : Bool) → next_of p (xs ++ ys) ≡ or_else (next_of p xs) (next_of p ys) → cond b (next_of p (xs ++ ys)) (some x) ≡ or_else (cond b (next_of p xs) (some x)) (next_of p ys)
      go true h = h
      go false h = refl

  pub count_le : (p : A → Bool) (xs : List A) → count p xs ≤ length xs
  unfolding count
  count_le p [] = omega arith
  count_le p (x ∷ xs) = go (p x) (count_le p xs)
    where
      go : (b : Bool) → count p xs ≤ length xs → cond b (suc (count p xs)) (count p xs) ≤ suc (length xs)
      go true h = omega arith
      go false h = omega arith

  -- where none passes, the first; where all do, none
  next_first : (p : A → Bool) (xs : List A) → count p xs ≡ 0 → next_of p xs ≡ head_of xs
  unfolding next_of count
  next_first p [] h = refl
  next_first p (x ∷ xs) h = go (p x) h
    where
      go : (b : Bool) → cond b (suc (count p xs)) (count p xs) ≡ 0 → cond b (next_of p xs) (some x) ≡ some x
      go true h = absurd (omega arith)
      go false h = refl

  next_none : (p : A → Bool) (xs : List A) → count p xs ≡ length xs → next_of p xs ≡ none
  unfolding next_of count
  next_none p [] h = refl
  next_none p (x ∷ xs) h = go (p x) h (next_none p xs)
    where
      go : (b : Bool) → cond b (suc (count p xs)) (count p xs) ≡ suc (length xs) → (count p xs ≡ length xs → next_of p xs ≡ none) → cond b (next_of p xs) (some x) ≡ none
      go true h f = f (omega arith)
      go false h f = absurd (omega (arith, count_le p xs))

-- an optional leaf with bytes before its cut key
abbrev pub behind_each : Bytes → Option Leaf → Option Leaf
behind_each p none = none
behind_each p (some l) = some (behind p l)

behind_or : (p : Bytes) (a b : Option Leaf) → behind_each p (or_else a b) ≡ or_else (behind_each p a) (behind_each p b)
behind_or p none b = refl
behind_or p (some l) b = refl

-- bytes before a label before a leaf
pub behind_twice : (p : Bytes) (x : ℕ) (a : Option Leaf) → behind_each p (behind_each (x ∷ []) a) ≡ behind_each (p ++ (x ∷ [])) a
behind_twice p x none = refl
behind_twice p x (some l) = ap (λ (c : Bytes). some (record { cut = c; exact = l.exact; suffix = l.suffix })) (sym (append_assoc p (x ∷ []) l.cut))

-- a group with a leaf has a first one
full_head : (p : Bytes) (g : Group) (o : Option Leaf) → 0 < length g → or_else (behind_each p (head_of g)) o ≡ behind_each p (head_of g)
full_head p [] o h = absurd (omega arith)
full_head p (l ∷ g) o h = refl

-- The first leaf of a group with bytes before it, whatever comes behind the group.
pub front_head : (p : Bytes) (g rest : Group) → 0 < length g → head_of (map (behind p) g ++ rest) ≡ behind_each p (head_of g)
front_head p [] rest h = absurd (omega arith)
front_head p (l ∷ g) rest h = refl

-- ---- the leaves behind branches

-- the groups that f gives for c and the n numbers behind it, c among them
pub groups_from : (ℕ → Group) → ℕ → ℕ → List Group
groups_from f c zero = []
groups_from f c (suc n) = f c ∷ groups_from f (suc c) n

-- the leaves behind branches are those over the groups that the branches lead to
pub over_groups : (f : ℕ → Group) (es : List Branch) (c : ℕ) → behind_branches f es c ≡ branch_leaves es (groups_from f c (children es))
unfolding behind_branches branch_leaves children groups_from
over_groups f [] c = refl
over_groups f (to_leaf x s ∷ es) c = ap (λ (g : Group). record { cut = x ∷ []; exact = false; suffix = s } ∷ g) (over_groups f es c)
over_groups f (to_node x ∷ es) c = ap (λ (g : Group). map (prefix x) (f c) ++ g) (over_groups f es (suc c))

module _ (q : Bits → Bytes → Bool) (f : ℕ → Group) (y : ℕ) (k : Bytes) where
  -- what is left behind the first branch, which leads to node c if it continues, if it has the label y
  unfoldable next_at : List Branch → ℕ → Option Leaf
  next_at [] c = none
  next_at (to_leaf x s ∷ es) c = cond (eqb x y) (cond (q s k) none (some (record { cut = x ∷ []; exact = false; suffix = s }))) none
  next_at (to_node x ∷ es) c = cond (eqb x y) (behind_each (x ∷ []) (next_of (counts false q k) (f c))) none

  -- of leaves behind labels above y, the first is left
  high_head : (es : List Branch) (c : ℕ) → BelowLabel y es → Ascends es → next_of (counts false q (y ∷ k)) (behind_branches f es c) ≡ head_of (behind_branches f es c)
  high_head es c h r =
      next_first (counts false q (y ∷ k)) (behind_branches f es c)
      (ap (count (counts false q (y ∷ k))) (over_groups f es c) ∙ branches_high false q y k es (groups_from f c (children es)) h r)

  same_prefixed : (x : ℕ) (g : Group) → x ≡ y → next_of (counts false q (y ∷ k)) (map (prefix x) g) ≡ behind_each (x ∷ []) (next_of (counts false q k) g)
  unfolding next_of
  same_prefixed x [] z = refl
  same_prefixed x (l ∷ g) z = subst (λ (w : ℕ). next_of (counts false q (w ∷ k)) (map (prefix x) (l ∷ g)) ≡ behind_each (x ∷ []) (next_of (counts false q k) (l ∷ g))) z (rw (counts_same false q x l k) (go (counts false q k l) (rw (← z) at (same_prefixed x g z))))
    where
      go : (b : Bool) → next_of (counts false q (x ∷ k)) (map (prefix x) g) ≡ behind_each (x ∷ []) (next_of (counts false q k) g)
          → cond b (next_of (counts false q (x ∷ k)) (map (prefix x) g)) (some (prefix x l)) ≡ behind_each (x ∷ []) (cond b (next_of (counts false q k) g) (some l))
      go true h = h
      go false h = refl

  open_here : (x : ℕ) (s : Bits) → x ≡ y → counts false q (y ∷ k) (record { cut = x ∷ []; exact = false; suffix = s }) ≡ q s k
  open_here x s z = ap (λ (w : ℕ). counts false q (w ∷ k) (record { cut = x ∷ []; exact = false; suffix = s })) (sym z) ∙ open_same false q x s k

  -- what is left at the branch at index i, or else the first leaf behind the branches from index j on
  abbrev left_at : List Branch → ℕ → ℕ → ℕ → Option Leaf
  left_at es c i j = or_else (next_at (drop i es) (c + children (take i es))) (head_of (behind_branches f (drop j es) (c + children (take j es))))

  -- The first leaf left behind branches: at the label y, or else behind the first higher label.
  next_branches : (es : List Branch) (c : ℕ) → Ascends es → next_of (counts false q (y ∷ k)) (behind_branches f es c) ≡ left_at es c (labels_below y es) (labels_below (suc y) es)
  unfolding next_at behind_branches children next_of labels_below
  next_branches [] c r = refl
  next_branches (to_leaf x s ∷ es) c r = go (leb y x) refl (eqb x y) refl (next_branches es c r.1)
    where
      go : (b : Bool) → leb y x ≡ b → (t : Bool) → eqb x y ≡ t → next_of (counts false q (y ∷ k)) (behind_branches f es c) ≡ left_at es c (labels_below y es) (labels_below (suc y) es)
          → next_of (counts false q (y ∷ k)) (behind_branches f (to_leaf x s ∷ es) c) ≡ left_at (to_leaf x s ∷ es) c (labels_below y (to_leaf x s ∷ es)) (labels_below (suc y) (to_leaf x s ∷ es))
      go false e t p ih =
          let l = leb-false y x e in
          rw (below_low y x (to_leaf x s) es refl l, below_low (suc y) x (to_leaf x s) es refl (omega arith), counts_low false q x (record { cut = []; exact = false; suffix = s }) y k l) ih
      go true e true p ih =
          let z = eqb-true x y p in
          let h = rw z at r.0 in
          let n : c + 0 ≡ c = omega arith in
          rw (below_high y x (to_leaf x s) es refl (omega arith), below_low (suc y) x (to_leaf x s) es refl (omega arith), low_none y es h, open_here x s z, p, n) (last (q s k) (high_head es c h r.1))
        where
          last : (b : Bool) → next_of (counts false q (y ∷ k)) (behind_branches f es c) ≡ head_of (behind_branches f es c)
              → cond b (next_of (counts false q (y ∷ k)) (behind_branches f es c)) (some (record { cut = x ∷ []; exact = false; suffix = s })) ≡ or_else (cond b none (some (record { cut = x ∷ []; exact = false; suffix = s }))) (head_of (behind_branches f es c))
          last true h = h
          last false h = refl
      go true e false p ih =
          let u = eqb-false x y p in
          let l = leb-true y x e in
          rw (below_high y x (to_leaf x s) es refl l, below_high (suc y) x (to_leaf x s) es refl (omega arith), p) (high_head (to_leaf x s ∷ es) c (omega arith) r)
  next_branches (to_node x ∷ es) c r = go (leb y x) refl (eqb x y) refl (next_branches es (suc c) r.1)
    where
      go : (b : Bool) → leb y x ≡ b → (t : Bool) → eqb x y ≡ t → next_of (counts false q (y ∷ k)) (behind_branches f es (suc c)) ≡ left_at es (suc c) (labels_below y es) (labels_below (suc y) es)
          → next_of (counts false q (y ∷ k)) (map (prefix x) (f c) ++ behind_branches f es (suc c)) ≡ left_at (to_node x ∷ es) c (labels_below y (to_node x ∷ es)) (labels_below (suc y) (to_node x ∷ es))
      go false e t p ih =
          let l = leb-false y x e in
          next_append (counts false q (y ∷ k)) (map (prefix x) (f c)) (behind_branches f es (suc c))
          ∙ rw (
            below_low y x (to_node x) es refl l,
            below_low (suc y) x (to_node x) es refl (omega arith),
            next_none (counts false q (y ∷ k)) (map (prefix x) (f c)) (prefixed_low false q x (f c) y k l ∙ sym (length-map (f c) (prefix x))),
          )
          (ih ∙ ap₂ (λ (a b : ℕ). or_else (next_at (drop (labels_below y es) es) a) (head_of (behind_branches f (drop (labels_below (suc y) es) es) b))) (omega arith) (omega arith))
      go true e true p ih =
          let z = eqb-true x y p in
          let h = rw z at r.0 in
          let n : c + 0 ≡ c = omega arith in
          next_append (counts false q (y ∷ k)) (map (prefix x) (f c)) (behind_branches f es (suc c))
          ∙ rw (below_high y x (to_node x) es refl (omega arith), below_low (suc y) x (to_node x) es refl (omega arith), low_none y es h, p, n, add-one c)
          (ap₂ or_else (same_prefixed x (f c) z) (high_head es (suc c) h r.1))
      go true e false p ih =
          let u = eqb-false x y p in
          let l = leb-true y x e in
          let n : c + 0 ≡ c = omega arith in
          rw (below_high y x (to_node x) es refl l, below_high (suc y) x (to_node x) es refl (omega arith), p, n) (high_head (to_node x ∷ es) c (omega arith) r)

  -- the leaf behind the first branch, by its kind: none, the open leaf if the key has not passed it, or what is left below node c
  at_absent : (fs : List Branch) (c : ℕ) → kind_with y fs ≡ Absent → next_at fs c ≡ none
  unfolding next_at kind_with
  at_absent [] c h = refl
  at_absent (to_leaf x s ∷ fs) c h = go (eqb x y) h
    where
      go : (b : Bool) → cond b Ends Absent ≡ Absent → cond b (cond {A = Option Leaf} (q s k) none (some (record { cut = x ∷ []; exact = false; suffix = s }))) none ≡ none
      go true e = let z : ◌≡◌ {A = ℕ} 0 1 = cc in absurd (omega arith)
      go false e = refl
  at_absent (to_node x ∷ fs) c h = go (eqb x y) h
    where
      go : (b : Bool) → cond b Child Absent ≡ Absent → cond b (behind_each (x ∷ []) (next_of (counts false q k) (f c))) none ≡ none
      go true e = let z : ◌≡◌ {A = ℕ} 0 1 = cc in absurd (omega arith)
      go false e = refl

  at_leaf : (fs : List Branch) (c : ℕ) (slot : Bits) → kind_with y fs ≡ Ends → ((x : ℕ) (s : Bits) (rest : List Branch) → fs ≡ to_leaf x s ∷ rest → slot ≡ s)
      → next_at fs c ≡ cond {A = Option Leaf} (q slot k) none (some (record { cut = y ∷ []; exact = false; suffix = slot }))
  unfolding next_at kind_with
  at_leaf [] c slot h u = let z : ◌≡◌ {A = ℕ} 0 1 = cc in absurd (omega arith)
  at_leaf (to_leaf x s ∷ fs) c slot h u = go (eqb x y) refl h
    where
      go : (b : Bool) → eqb x y ≡ b → cond b Ends Absent ≡ Ends
          → cond b (cond {A = Option Leaf} (q s k) none (some (record { cut = x ∷ []; exact = false; suffix = s }))) none ≡ cond {A = Option Leaf} (q slot k) none (some (record { cut = y ∷ []; exact = false; suffix = slot }))
      go true p e = rw (eqb-true x y p, u x s fs refl)
      go false p e = let z : ◌≡◌ {A = ℕ} 0 1 = cc in absurd (omega arith)
  at_leaf (to_node x ∷ fs) c slot h u = absurd (go (eqb x y) h)
    where
      go : (b : Bool) → cond b Child Absent ≡ Ends → ⊥
      go true e = let z : ◌≡◌ {A = ℕ} 0 1 = cc in omega arith
      go false e = let z : ◌≡◌ {A = ℕ} 0 1 = cc in omega arith

  at_child : (fs : List Branch) (c : ℕ) → kind_with y fs ≡ Child → next_at fs c ≡ behind_each (y ∷ []) (next_of (counts false q k) (f c))
  unfolding next_at kind_with
  at_child [] c h = let z : ◌≡◌ {A = ℕ} 0 1 = cc in absurd (omega arith)
  at_child (to_leaf x s ∷ fs) c h = absurd (go (eqb x y) h)
    where
      go : (b : Bool) → cond b Ends Absent ≡ Child → ⊥
      go true e = let z : ◌≡◌ {A = ℕ} 0 1 = cc in omega arith
      go false e = let z : ◌≡◌ {A = ℕ} 0 1 = cc in omega arith
  at_child (to_node x ∷ fs) c h = go (eqb x y) refl h
    where
      go : (b : Bool) → eqb x y ≡ b → cond b Child Absent ≡ Child → cond b (behind_each (x ∷ []) (next_of (counts false q k) (f c))) none ≡ behind_each (y ∷ []) (next_of (counts false q k) (f c))
      go true p e = rw (eqb-true x y p)
      go false p e = let z : ◌≡◌ {A = ℕ} 0 1 = cc in absurd (omega arith)

-- ---- nodes with leaves

-- the branches of node m, and the index among them of the first whose label is not below y
abbrev pub branches_at : List Node → ℕ → List Branch
branches_at ns m = branches_of (node_at ns m)

abbrev pub branch_index_at : List Node → ℕ → ℕ → ℕ
branch_index_at ns m y = labels_below y (branches_of (node_at ns m))

-- a branch from the label y on has a leaf behind it, if the nodes one level lower have one
from_deep : (ns : List Node) (l m y : ℕ) → OnLevel ns (suc l) m → ((c : ℕ) → OnLevel ns l c → 0 < length (below ns l c)) → (first_kind (drop (branch_index_at ns m y) (branches_at ns m)) ≡ Absent → ⊥) → 0 < length (from_label ns l m y)
unfolding from_label behind_branches first_kind
from_deep ns l m y on deep h = go (drop (branch_index_at ns m y) (branches_at ns m)) h (λ e. deep (child_number ns m (branch_index_at ns m y)) (level_child ns l m (branch_index_at ns m y) on e))
  where
    go : (fs : List Branch) → (first_kind fs ≡ Absent → ⊥) → (first_kind fs ≡ Child → 0 < length (below ns l (child_number ns m (branch_index_at ns m y)))) → 0 < length (behind_branches (below ns l) fs (child_number ns m (branch_index_at ns m y)))
    go [] h d = absurd (h refl)
    go (to_leaf x s ∷ fs) h d = omega arith
    go (to_node x ∷ fs) h d =
        omega (
          arith,
          d refl,
          length-append (map (prefix x) (below ns l (child_number ns m (branch_index_at ns m y)))) (behind_branches (below ns l) fs (suc (child_number ns m (branch_index_at ns m y)))),
          length-map (below ns l (child_number ns m (branch_index_at ns m y))) (prefix x),
        )

-- Below each node of a level there is a leaf.
pub below_some : (ns : List Node) (l m : ℕ) → OnLevel ns l m → 0 < length (below ns l m)
below_some ns zero m on = absurd (omega (arith, level_left ns 0 m on))
below_some ns (suc l) m on =
    rw (below_step ns l m) (omega (arith, length-append (exact_leaf (own_slot (node_at ns m))) (from_label ns l m 0), from_deep ns l m 0 on (λ c o. below_some ns l c o) (level_branch ns (suc l) m on)))

-- Behind a branch from the label y on there is a leaf.
pub from_some : (ns : List Node) (l m y : ℕ) → OnLevel ns (suc l) m → (first_kind (drop (branch_index_at ns m y) (branches_at ns m)) ≡ Absent → ⊥) → 0 < length (from_label ns l m y)
from_some ns l m y on h = from_deep ns l m y on (λ c o. below_some ns l c o) h

-- ---- the leaf behind a higher label

-- the first leaf behind a label of node m above y, with the bytes of `path` before it; or else the leaf `higher`
unfoldable pub higher_at : List Node → ℕ → ℕ → Bytes → ℕ → Option Leaf → Option Leaf
unfolding from_label
higher_at ns l m path y higher = or_else (behind_each path (head_of (from_label ns l m (y + 1)))) higher

module _ (ns : List Node) (l m : ℕ) (path : Bytes) (y : ℕ) (higher : Option Leaf) where
  -- no label is above y
  pub higher_kept : is_there (first_kind (drop (branch_index_at ns m (y + 1)) (branches_at ns m))) ≡ false → higher_at ns l m path y higher ≡ higher
  unfolding higher_at
  higher_kept h = rw (from_none ns l m (y + 1) (first_kind (drop (branch_index_at ns m (y + 1)) (branches_at ns m))) refl (not_there (first_kind (drop (branch_index_at ns m (y + 1)) (branches_at ns m))) h))

  -- one is
  pub higher_taken : OnLevel ns (suc l) m → is_there (first_kind (drop (branch_index_at ns m (y + 1)) (branches_at ns m))) ≡ true → higher_at ns l m path y higher ≡ behind_each path (head_of (from_label ns l m (y + 1)))
  unfolding higher_at
  higher_taken on h =
      full_head path (from_label ns l m (y + 1)) higher (from_some ns l m (y + 1) on (there_not (first_kind (drop (branch_index_at ns m (y + 1)) (branches_at ns m))) h))

-- ---- the leaf that is left from a node on

-- the first leaf at or below node m, l levels left, that the rest k of the key has not passed, with the bytes of `path` before it; or else the leaf `higher`
unfoldable pub next_from : (Bits → Bytes → Bool) → List Node → ℕ → ℕ → Bytes → Bytes → Option Leaf → Option Leaf
unfolding below counts next_of
next_from q ns l m path k higher = or_else (behind_each path (next_of (counts false q k) (below ns l m))) higher

-- no leaf is passed by the empty key
pub none_passed : (q : Bits → Bytes → Bool) (ns : List Node) (l m : ℕ) → count (counts false q []) (below ns l m) ≡ 0
unfolding below count
none_passed q ns zero m = refl
none_passed q ns (suc l) m =
    count_append (counts false q []) (exact_leaf (own_slot (node_at ns m))) (behind_branches (below ns l) (branches_at ns m) (child_number ns m 0))
    ∙ omega (
      arith,
      exact_none false q (own_slot (node_at ns m)) (branches_at ns m),
      no_end (is_exact (node (own_slot (node_at ns m)) (branches_at ns m))),
      ap (count (counts false q [])) (over_groups (below ns l) (branches_at ns m) (child_number ns m 0)),
      branches_none false q (branches_at ns m) (groups_from (below ns l) (child_number ns m 0) (children (branches_at ns m))),
    )
  where
    no_end : (b : Bool) → bit (b && false) ≡ 0
    no_end true = refl
    no_end false = refl

-- The end of the key: the first leaf at or below the node.
pub next_end : (q : Bits → Bytes → Bool) (ns : List Node) (l m : ℕ) (path : Bytes) (higher : Option Leaf) → OnLevel ns l m → next_from q ns l m path [] higher ≡ behind_each path (head_of (below ns l m))
unfolding next_from
next_end q ns l m path higher on =
    ap (λ (z : Option Leaf). or_else (behind_each path z) higher) (next_first (counts false q []) (below ns l m) (none_passed q ns l m)) ∙ full_head path (below ns l m) higher (below_some ns l m on)

-- an exact leaf is passed by every longer key
exact_passed : (q : Bits → Bytes → Bool) (o : Option Bits) (y : ℕ) (k : Bytes) → next_of (counts false q (y ∷ k)) (exact_leaf o) ≡ none
exact_passed q o y k = next_none (counts false q (y ∷ k)) (exact_leaf o) (exact_counted false q o [] y k ∙ sym (exact_leaf_count o []))

-- the child behind a branch, counted from the node's first
pub child_from : (ns : List Node) (m i : ℕ) → child_number ns m 0 + children (take i (branches_at ns m)) ≡ child_number ns m i
unfolding child_number children
child_from ns m i = omega arith

module _ (q : Bits → Bytes → Bool) (ns : List Node) (l m : ℕ) (on : OnLevel ns (suc l) m) (path : Bytes) (y : ℕ) (k : Bytes) (higher : Option Leaf) where
  -- what one byte of the key leaves of the leaves at or below a node
  byte_left : next_of (counts false q (y ∷ k)) (below ns (suc l) m)
      ≡ or_else (next_at q (below ns l) y k (drop (branch_index_at ns m y) (branches_at ns m)) (child_number ns m (branch_index_at ns m y))) (head_of (from_label ns l m (y + 1)))
  unfolding below from_label
  byte_left =
      let b = next_branches q (below ns l) y k (branches_at ns m) (child_number ns m 0) (level_rising ns (suc l) m on) in
      next_append (counts false q (y ∷ k)) (exact_leaf (own_slot (node_at ns m))) (behind_branches (below ns l) (branches_at ns m) (child_number ns m 0))
      ∙ ap₂ or_else (exact_passed q (own_slot (node_at ns m)) y k) (rw (add-one y, ← child_from ns m (branch_index_at ns m y), ← child_from ns m (branch_index_at ns m (suc y))) b)

  next_byte : next_from q ns (suc l) m path (y ∷ k) higher
      ≡ or_else (behind_each path (next_at q (below ns l) y k (drop (branch_index_at ns m y) (branches_at ns m)) (child_number ns m (branch_index_at ns m y)))) (higher_at ns l m path y higher)
  unfolding next_from higher_at
  next_byte =
      let a : Option Leaf = next_at q (below ns l) y k (drop (branch_index_at ns m y) (branches_at ns m)) (child_number ns m (branch_index_at ns m y)) in
      let h : Option Leaf = head_of (from_label ns l m (y + 1)) in
      rw byte_left (ap (λ (z : Option Leaf). or_else z higher) (behind_or path a h) ∙ or_assoc (behind_each path a) (behind_each path h) higher)

  -- No branch has the byte as its label: the leaf behind a higher label.
  pub next_absent : kind_with y (drop (branch_index_at ns m y) (branches_at ns m)) ≡ Absent → next_from q ns (suc l) m path (y ∷ k) higher ≡ higher_at ns l m path y higher
  next_absent h = next_byte ∙ rw (at_absent q (below ns l) y k (drop (branch_index_at ns m y) (branches_at ns m)) (child_number ns m (branch_index_at ns m y)) h)

  -- The branch ends at an open leaf: that leaf, if the key has not passed it.
  pub next_open : (w : ℕ) → All (SlotsWidth w) ns → kind_with y (drop (branch_index_at ns m y) (branches_at ns m)) ≡ Ends
      → next_from q ns (suc l) m path (y ∷ k) higher
      ≡ cond (q (slot_of w ns (slot_number ns m (branch_index_at ns m y))) k) (higher_at ns l m path y higher) (some (record { cut = path ++ (y ∷ []); exact = false; suffix = slot_of w ns (slot_number ns m (branch_index_at ns m y)) }))
  next_open w wide h =
      next_byte ∙ rw (at_leaf q (below ns l) y k (drop (branch_index_at ns m y) (branches_at ns m)) (child_number ns m (branch_index_at ns m y)) (slot_of w ns (slot_number ns m (branch_index_at ns m y))) h (λ x t rest e. slot_is w ns m (branch_index_at ns m y) x t rest wide e)) (go (q (slot_of w ns (slot_number ns m (branch_index_at ns m y))) k))
    where
      go : (b : Bool) → or_else (behind_each path (cond b none (some (record { cut = y ∷ []; exact = false; suffix = slot_of w ns (slot_number ns m (branch_index_at ns m y)) })))) (higher_at ns l m path y higher)
          ≡ cond b (higher_at ns l m path y higher) (some (record { cut = path ++ (y ∷ []); exact = false; suffix = slot_of w ns (slot_number ns m (branch_index_at ns m y)) }))
      go true = refl
      go false = refl

  -- The branch continues: what is left from its child on.
  pub next_child : kind_with y (drop (branch_index_at ns m y) (branches_at ns m)) ≡ Child
      → next_from q ns (suc l) m path (y ∷ k) higher ≡ next_from q ns l (child_number ns m (branch_index_at ns m y)) (path ++ (y ∷ [])) k (higher_at ns l m path y higher)
  unfolding next_from
  next_child h =
      next_byte
      ∙ ap (λ (z : Option Leaf). or_else z (higher_at ns l m path y higher))
      (ap (behind_each path) (at_child q (below ns l) y k (drop (branch_index_at ns m y) (branches_at ns m)) (child_number ns m (branch_index_at ns m y)) h) ∙ behind_twice path y (next_of (counts false q k) (below ns l (child_number ns m (branch_index_at ns m y)))))
