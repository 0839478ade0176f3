-- The leaves at or below a node against a key, split at the key's next byte: those behind lower labels, those behind the byte's own, and those behind higher ones.
use Rattle.std.specs.Prelude.{ℕ, suc, ◌+◌, ◌<◌, Bool, take}
use Rattle.std.proofs.Math.Path.{◌≡◌, refl, subst}
use Rattle.std.proofs.Common.{sym, ap, ◌∙◌, add-one}
use Rattle.std.proofs.Math.Bool.{true, false, cond}
use mathlib.Core.List.{List, [], ◌∷◌, ◌++◌, map}
use native.Mathlib.Omega.{arith}
use Rattle.std.proofs.Math.ListN.{length, drop, length-append}
use Rattle.std.proofs.lemmas.List.{length-map}
use Rattle.std.proofs.Math.Dec.{leb, eqb}
use borrow.Author.Tests.{eqb-true, eqb-false, leb-true, leb-false}
use Rattle.spec.specs.Bytes.{Bytes, Bits, bit, count}
use Rattle.spec.specs.Nodes.{Group, Branch, to_node, to_leaf, Node, label_of, has_child, prefix, children, exact_leaf}
use Rattle.nav_nodes.specs.declared.BranchKind.{BranchKind}
use Rattle.nav_nodes.specs.declared.BranchKind.TheVariants.{Absent, Leaf as Ends, Child}
use Rattle.nav_nodes.specs.Counting.{labels_below, below_low, below_high, counts, counts_same, prefixed_low, branches_high, count_append, exact_counted}
use Rattle.nav_nodes.specs.Slots.{node_at, slot_number, slot_of, slot_is}
use Rattle.nav_nodes.specs.Descent.{child_number}
use Rattle.nav_nodes.specs.NextLabel.{first_kind, kind_with, low_none}
use Rattle.nav_branches.specs.Below.{behind_branches, own_slot, below, from_label, OnLevel, level_rising, level_child}
use Rattle.query_descent.specs.Next.{branches_at, branch_index_at, groups_from, over_groups, below_some, child_from}
use Rattle.theory.specs.Terms.{All}
use Rattle.theory.proofs.LinkedLevels.{BelowLabel, Ascends}
use Rattle.theory.proofs.Levels.{exact_leaf_count}
use Rattle.theory.proofs.NodeBits.{SlotsWidth}

-- ---- definitions

-- the leaves behind a branch, without its label; it leads to node c if it continues
abbrev behind_one : (ℕ → Group) → Branch → ℕ → Group
behind_one f (to_leaf x s) c = record { cut = []; exact = false; suffix = s } ∷ []
behind_one f (to_node x) c = f c

-- those behind the first branch, if it has the label y
unfoldable first_with : (ℕ → Group) → ℕ → List Branch → ℕ → Group
first_with f y [] c = []
first_with f y (e ∷ es) c = cond (eqb (label_of e) y) (behind_one f e c) []

-- the leaves behind the branch of node m with the label y, without the label, l levels left below the node
unfoldable pub at_label : List Node → ℕ → ℕ → ℕ → Group
unfolding below first_with
at_label ns l m y = first_with (below ns l) y (drop (branch_index_at ns m y) (branches_at ns m)) (child_number ns m (branch_index_at ns m y))

-- ---- behind branches

module _ (f : ℕ → Group) where
  behind_first : (e : Branch) (es : List Branch) (c : ℕ) → behind_branches f (e ∷ es) c ≡ map (prefix (label_of e)) (behind_one f e c) ++ behind_branches f es (c + bit (has_child e))
  unfolding behind_branches
  behind_first (to_leaf x s) es c = let z : c + 0 ≡ c = omega arith in rw z
  behind_first (to_node x) es c = rw (add-one c)

  length_first : (e : Branch) (es : List Branch) (c : ℕ) → length (behind_branches f (e ∷ es) c) ≡ length (behind_one f e c) + length (behind_branches f es (c + bit (has_child e)))
  length_first e es c =
      ap length (behind_first e es c)
      ∙ omega (arith, length-append (map (prefix (label_of e)) (behind_one f e c)) (behind_branches f es (c + bit (has_child e))), length-map (behind_one f e c) (prefix (label_of e)))

  -- how many leaves stand behind the branches from index i on
  abbrev length_from : List Branch → ℕ → ℕ → ℕ
  length_from es c i = length (behind_branches f (drop i es) (c + children (take i es)))

  children_first : (e : Branch) (es : List Branch) (i : ℕ) → children (take (suc i) (e ∷ es)) ≡ bit (has_child e) + children (take i es)
  unfolding children
  children_first (to_leaf x s) es i = omega arith
  children_first (to_node x) es i = omega arith

  further : (e : Branch) (es : List Branch) (c i : ℕ) → c + children (take (suc i) (e ∷ es)) ≡ c + bit (has_child e) + children (take i es)
  further e es c i = omega (arith, children_first e es i)

  nothing_further : (es : List Branch) (c : ℕ) → c + children (take 0 es) ≡ c
  unfolding children
  nothing_further es c = omega arith

  -- Behind the branches from the label y on stand the leaves behind y, and those behind the branches from y + 1 on.
  from_split : (y : ℕ) (es : List Branch) (c : ℕ) → Ascends es
      → length_from es c (labels_below y es) ≡ length (first_with f y (drop (labels_below y es) es) (c + children (take (labels_below y es) es))) + length_from es c (labels_below (suc y) es)
  unfolding labels_below first_with behind_branches children
  from_split y [] c r = refl
  from_split y (e ∷ es) c r = go (leb y (label_of e)) refl (eqb (label_of e) y) refl (from_split y es (c + bit (has_child e)) r.1)
    where
      go : (b : Bool) → leb y (label_of e) ≡ b → (t : Bool) → eqb (label_of e) y ≡ t
          → length_from es (c + bit (has_child e)) (labels_below y es) ≡ length (first_with f y (drop (labels_below y es) es) (c + bit (has_child e) + children (take (labels_below y es) es))) + length_from es (c + bit (has_child e)) (labels_below (suc y) es)
          → length_from (e ∷ es) c (labels_below y (e ∷ es)) ≡ length (first_with f y (drop (labels_below y (e ∷ es)) (e ∷ es)) (c + children (take (labels_below y (e ∷ es)) (e ∷ es)))) + length_from (e ∷ es) c (labels_below (suc y) (e ∷ es))
      go false p t q ih =
          let l = leb-false y (label_of e) p in
          rw (below_low y (label_of e) e es refl l, below_low (suc y) (label_of e) e es refl (omega arith), further e es c (labels_below y es), further e es c (labels_below (suc y) es)) ih
      go true p true q ih =
          let z = eqb-true (label_of e) y q in
          rw (below_high y (label_of e) e es refl (omega arith), below_low (suc y) (label_of e) e es refl (omega arith), further e es c (labels_below (suc y) es), low_none y es (rw z at r.0), nothing_further (e ∷ es) c, nothing_further es (c + bit (has_child e)), q) (length_first e es c)
      go true p false q ih =
          let n = eqb-false (label_of e) y q in
          let l = leb-true y (label_of e) p in
          rw (below_high y (label_of e) e es refl l, below_high (suc y) (label_of e) e es refl (omega arith), nothing_further (e ∷ es) c, q) (omega arith)

  module _ (ends : Bool) (q : Bits → Bytes → Bool) (y : ℕ) (k : Bytes) where
    prefixed_same : (x : ℕ) (g : Group) → x ≡ y → count (counts ends q (y ∷ k)) (map (prefix x) g) ≡ count (counts ends q k) g
    unfolding count
    prefixed_same x [] z = refl
    prefixed_same x (l ∷ g) z = subst (λ (w : ℕ). count (counts ends q (w ∷ k)) (map (prefix x) (l ∷ g)) ≡ count (counts ends q k) (l ∷ g)) z (rw (counts_same ends q x l k, rw (← z) at (prefixed_same x g z)))

    -- no leaf behind a label above y counts
    high_none : (es : List Branch) (c : ℕ) → BelowLabel y es → Ascends es → count (counts ends q (y ∷ k)) (behind_branches f es c) ≡ 0
    high_none es c h r = ap (count (counts ends q (y ∷ k))) (over_groups f es c) ∙ branches_high ends q y k es (groups_from f c (children es)) h r

    count_first : (e : Branch) (es : List Branch) (c : ℕ)
        → count (counts ends q (y ∷ k)) (behind_branches f (e ∷ es) c) ≡ count (counts ends q (y ∷ k)) (map (prefix (label_of e)) (behind_one f e c)) + count (counts ends q (y ∷ k)) (behind_branches f es (c + bit (has_child e)))
    count_first e es c = ap (count (counts ends q (y ∷ k))) (behind_first e es c) ∙ count_append (counts ends q (y ∷ k)) (map (prefix (label_of e)) (behind_one f e c)) (behind_branches f es (c + bit (has_child e)))

    -- Behind lower labels all leaves count before the key, behind higher ones none, and behind its next byte those that count before the rest.
    branches_split : (es : List Branch) (c : ℕ) → Ascends es
        → count (counts ends q (y ∷ k)) (behind_branches f es c) + length_from es c (labels_below y es)
        ≡ length (behind_branches f es c) + count (counts ends q k) (first_with f y (drop (labels_below y es) es) (c + children (take (labels_below y es) es)))
    unfolding labels_below first_with behind_branches children count
    branches_split [] c r = refl
    branches_split (e ∷ es) c r = go (leb y (label_of e)) refl (eqb (label_of e) y) refl (branches_split es (c + bit (has_child e)) r.1)
      where
        go : (b : Bool) → leb y (label_of e) ≡ b → (t : Bool) → eqb (label_of e) y ≡ t
            → count (counts ends q (y ∷ k)) (behind_branches f es (c + bit (has_child e))) + length_from es (c + bit (has_child e)) (labels_below y es)
            ≡ length (behind_branches f es (c + bit (has_child e))) + count (counts ends q k) (first_with f y (drop (labels_below y es) es) (c + bit (has_child e) + children (take (labels_below y es) es)))
            → count (counts ends q (y ∷ k)) (behind_branches f (e ∷ es) c) + length_from (e ∷ es) c (labels_below y (e ∷ es))
            ≡ length (behind_branches f (e ∷ es) c) + count (counts ends q k) (first_with f y (drop (labels_below y (e ∷ es)) (e ∷ es)) (c + children (take (labels_below y (e ∷ es)) (e ∷ es))))
        go false p t u ih =
            let l = leb-false y (label_of e) p in
            rw (below_low y (label_of e) e es refl l, further e es c (labels_below y es))
            (omega (arith, ih, count_first e es c, length_first e es c, prefixed_low ends q (label_of e) (behind_one f e c) y k l))
        go true p true u ih =
            let z = eqb-true (label_of e) y u in
            rw (below_high y (label_of e) e es refl (omega arith), nothing_further (e ∷ es) c, u)
            (omega (arith, count_first e es c, prefixed_same (label_of e) (behind_one f e c) z, high_none es (c + bit (has_child e)) (rw z at r.0) r.1))
        go true p false u ih =
            let n = eqb-false (label_of e) y u in
            let l = leb-true y (label_of e) p in
            rw (below_high y (label_of e) e es refl l, nothing_further (e ∷ es) c, u)
            (omega (arith, high_none (e ∷ es) c (omega arith) r))

-- ---- at a node

-- how many leaves stand at or below node m, and how many behind its branches from the label y on
abbrev pub size : List Node → ℕ → ℕ → ℕ
size ns l m = length (below ns l m)

abbrev pub size_from : List Node → ℕ → ℕ → ℕ → ℕ
size_from ns l m y = length (from_label ns l m y)

module _ (ns : List Node) (l m : ℕ) (on : OnLevel ns (suc l) m) where
  -- Behind the branches from the label y on stand the leaves behind y, and those behind the branches from y + 1 on.
  pub from_next : (y : ℕ) → size_from ns l m y ≡ length (at_label ns l m y) + size_from ns l m (y + 1)
  unfolding from_label at_label
  from_next y =
      rw (add-one y, ← child_from ns m (branch_index_at ns m y), ← child_from ns m (branch_index_at ns m (suc y))) (from_split (below ns l) y (branches_at ns m) (child_number ns m 0) (level_rising ns (suc l) m on))

  -- The leaves that count before a key of one byte more are all that do not stand behind the byte or a higher label, and those behind the byte that count before the rest.
  pub byte_split : (ends : Bool) (q : Bits → Bytes → Bool) (y : ℕ) (k : Bytes)
      → count (counts ends q (y ∷ k)) (below ns (suc l) m) + size_from ns l m y ≡ size ns (suc l) m + count (counts ends q k) (at_label ns l m y)
  unfolding below from_label at_label
  byte_split ends q y k =
      omega (
        arith,
        count_append (counts ends q (y ∷ k)) (exact_leaf (own_slot (node_at ns m))) (behind_branches (below ns l) (branches_at ns m) (child_number ns m 0)),
        length-append (exact_leaf (own_slot (node_at ns m))) (behind_branches (below ns l) (branches_at ns m) (child_number ns m 0)),
        exact_counted ends q (own_slot (node_at ns m)) [] y k,
        exact_leaf_count (own_slot (node_at ns m)) [],
        rw (child_from ns m (branch_index_at ns m y)) at (branches_split (below ns l) ends q y k (branches_at ns m) (child_number ns m 0) (level_rising ns (suc l) m on)),
      )

-- ---- the leaves behind a branch, by its kind

module _ (ns : List Node) (l m y : ℕ) (kind : BranchKind) (is : kind ≡ kind_with y (drop (branch_index_at ns m y) (branches_at ns m))) where
  -- no branch
  pub at_absent : kind ≡ Absent → at_label ns l m y ≡ []
  unfolding at_label first_with kind_with
  at_absent h = go (drop (branch_index_at ns m y) (branches_at ns m)) (sym is ∙ h)
    where
      go : (fs : List Branch) → kind_with y fs ≡ Absent → first_with (below ns l) y fs (child_number ns m (branch_index_at ns m y)) ≡ []
      go [] e = refl
      go (to_leaf x s ∷ fs) e = here (eqb x y) e
        where
          here : (b : Bool) → cond b Ends Absent ≡ Absent → cond {A = Group} b (record { cut = []; exact = false; suffix = s } ∷ []) [] ≡ []
          here true u = let z : ◌≡◌ {A = ℕ} 0 1 = cc in absurd (omega arith)
          here false u = refl
      go (to_node x ∷ fs) e = here (eqb x y) e
        where
          here : (b : Bool) → cond b Child Absent ≡ Absent → cond {A = Group} b (below ns l (child_number ns m (branch_index_at ns m y))) [] ≡ []
          here true u = let z : ◌≡◌ {A = ℕ} 0 1 = cc in absurd (omega arith)
          here false u = refl

  -- an open leaf
  pub at_open : (w : ℕ) → All (SlotsWidth w) ns → kind ≡ Ends → at_label ns l m y ≡ record { cut = []; exact = false; suffix = slot_of w ns (slot_number ns m (branch_index_at ns m y)) } ∷ []
  unfolding at_label first_with kind_with
  at_open w wide h = go (drop (branch_index_at ns m y) (branches_at ns m)) refl (sym is ∙ h)
    where
      go : (fs : List Branch) → drop (branch_index_at ns m y) (branches_at ns m) ≡ fs → kind_with y fs ≡ Ends
          → first_with (below ns l) y fs (child_number ns m (branch_index_at ns m y)) ≡ record { cut = []; exact = false; suffix = slot_of w ns (slot_number ns m (branch_index_at ns m y)) } ∷ []
      go [] d e = let z : ◌≡◌ {A = ℕ} 0 1 = cc in absurd (omega arith)
      go (to_leaf x s ∷ fs) d e = here (eqb x y) e
        where
          here : (b : Bool) → cond b Ends Absent ≡ Ends → cond {A = Group} b (record { cut = []; exact = false; suffix = s } ∷ []) [] ≡ record { cut = []; exact = false; suffix = slot_of w ns (slot_number ns m (branch_index_at ns m y)) } ∷ []
          here true u = rw (slot_is w ns m (branch_index_at ns m y) x s fs wide d)
          here false u = let z : ◌≡◌ {A = ℕ} 0 1 = cc in absurd (omega arith)
      go (to_node x ∷ fs) d e = absurd (here (eqb x y) e)
        where
          here : (b : Bool) → cond b Child Absent ≡ Ends → ⊥
          here true u = let z : ◌≡◌ {A = ℕ} 0 1 = cc in omega arith
          here false u = let z : ◌≡◌ {A = ℕ} 0 1 = cc in omega arith

  -- a branch that continues
  pub at_child : kind ≡ Child → at_label ns l m y ≡ below ns l (child_number ns m (branch_index_at ns m y))
  unfolding at_label first_with kind_with
  at_child h = go (drop (branch_index_at ns m y) (branches_at ns m)) (sym is ∙ h)
    where
      go : (fs : List Branch) → kind_with y fs ≡ Child → first_with (below ns l) y fs (child_number ns m (branch_index_at ns m y)) ≡ below ns l (child_number ns m (branch_index_at ns m y))
      go [] e = let z : ◌≡◌ {A = ℕ} 0 1 = cc in absurd (omega arith)
      go (to_leaf x s ∷ fs) e = absurd (here (eqb x y) e)
        where
          here : (b : Bool) → cond b Ends Absent ≡ Child → ⊥
          here true u = let z : ◌≡◌ {A = ℕ} 0 1 = cc in omega arith
          here false u = let z : ◌≡◌ {A = ℕ} 0 1 = cc in omega arith
      go (to_node x ∷ fs) e = here (eqb x y) e
        where
          here : (b : Bool) → cond b Child Absent ≡ Child → cond {A = Group} b (below ns l (child_number ns m (branch_index_at ns m y))) [] ≡ below ns l (child_number ns m (branch_index_at ns m y))
          here true u = refl
          here false u = let z : ◌≡◌ {A = ℕ} 0 1 = cc in absurd (omega arith)

-- A branch with the label y has a leaf behind it.
pub at_some : (ns : List Node) (l m y : ℕ) → OnLevel ns (suc l) m → (kind_with y (drop (branch_index_at ns m y) (branches_at ns m)) ≡ Absent → ⊥) → 0 < length (at_label ns l m y)
unfolding at_label first_with kind_with first_kind
at_some ns l m y on h = go (drop (branch_index_at ns m y) (branches_at ns m)) h (λ e. below_some ns l (child_number ns m (branch_index_at ns m y)) (level_child ns l m (branch_index_at ns m y) on e))
  where
    go : (fs : List Branch) → (kind_with y fs ≡ Absent → ⊥) → (first_kind fs ≡ Child → 0 < length (below ns l (child_number ns m (branch_index_at ns m y)))) → 0 < length (first_with (below ns l) y fs (child_number ns m (branch_index_at ns m y)))
    go [] h d = absurd (h refl)
    go (to_leaf x s ∷ fs) h d = here (eqb x y) h
      where
        here : (b : Bool) → (cond b Ends Absent ≡ Absent → ⊥) → 0 < length (cond {A = Group} b (record { cut = []; exact = false; suffix = s } ∷ []) [])
        here true u = omega arith
        here false u = absurd (u refl)
    go (to_node x ∷ fs) h d = here (eqb x y) h
      where
        here : (b : Bool) → (cond b Child Absent ≡ Absent → ⊥) → 0 < length (cond {A = Group} b (below ns l (child_number ns m (branch_index_at ns m y))) [])
        here true u = d refl
        here false u = absurd (u refl)
