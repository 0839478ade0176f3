-- The leaves that count before a key, over the leaves of one node: the general form of which point, seek, count and range are cases.
use Prim.Native.Nat.{ℕ, suc, ◌+◌, ◌<◌, ◌≤◌}
use Rattle.std.specs.Prelude.{◌≡◌, Bool, ◌&&◌, ◌||◌, length, take, drop}
use Rattle.std.proofs.Math.Path.{refl}
use Rattle.std.proofs.Common.{sym, ap, ◌∙◌, true≢false}
use Rattle.std.proofs.Math.Bool.{true, false, cond, not}
use mathlib.Core.List.{List, [], ◌∷◌, ◌++◌, map}
use Rattle.std.proofs.Math.Option.{Option, none, some}
use native.Mathlib.Omega.{arith}
use Rattle.std.proofs.Math.Dec.{leb, eqb}
use borrow.Author.Tests.{eq-eqb, ne_eqb, eqb-true, eqb-false, leb-true, leb-false, le-leb, lt-leb, lt-ltb, le-ltb}
use Rattle.spec.specs.Bytes.{Bytes, Bits, bit, count, equal, begins}
use Rattle.spec.specs.Keys.{below}
use Rattle.spec.specs.Leaves.{Leaf}
use Rattle.spec.specs.Nodes.{Group, Branch, to_node, to_leaf, node, label_of, is_exact, prefix, branch_leaves, children, exact_leaf}
use Rattle.spec.specs.Trie.{open_leaves}
use Rattle.theory.proofs.LinkedLevels.{BelowLabel, Ascends}
use Rattle.theory.proofs.Levels.{leaves_in}

-- the first branches whose labels are below y
unfoldable pub labels_below : ℕ → List Branch → ℕ
labels_below y [] = 0
labels_below y (e ∷ es) = elim (leb y (label_of e)) [ true ↦ 0 | false ↦ suc (labels_below y es) ]

pub labels_below_le : (y : ℕ) (es : List Branch) → labels_below y es ≤ length es
unfolding labels_below
labels_below_le y [] = omega arith
labels_below_le y (e ∷ es) = go (leb y (label_of e)) (labels_below_le y es)
  where
    go : (b : Bool) → labels_below y es ≤ length es → elim b [ true ↦ 0 | false ↦ suc (labels_below y es) ] ≤ suc (length es)
    go true h = omega arith
    go false h = omega arith

-- a first label below y counts, and with it those behind it
pub below_low : (y x : ℕ) (e : Branch) (es : List Branch) → label_of e ≡ x → x < y → labels_below y (e ∷ es) ≡ suc (labels_below y es)
unfolding labels_below
below_low y x e es p h = go (leb y (label_of e)) (lt-leb y (label_of e) (omega arith))
  where
    go : (b : Bool) → b ≡ false → elim b [ true ↦ 0 | false ↦ suc (labels_below y es) ] ≡ suc (labels_below y es)
    go true q = absurd (true≢false q)
    go false q = refl

-- where the first label is not below y, none is
pub below_high : (y x : ℕ) (e : Branch) (es : List Branch) → label_of e ≡ x → y ≤ x → labels_below y (e ∷ es) ≡ 0
unfolding labels_below
below_high y x e es p h = go (leb y (label_of e)) (le-leb y (label_of e) (omega arith))
  where
    go : (b : Bool) → b ≡ true → ◌≡◌ {A = ℕ} (elim b [ true ↦ 0 | false ↦ suc (labels_below y es) ]) 0
    go true h = refl
    go false h = absurd (true≢false (sym h))

-- no label is below 0
pub none_below_zero : (es : List Branch) → labels_below 0 es ≡ 0
unfolding labels_below
none_below_zero [] = refl
none_below_zero (e ∷ es) = go (leb 0 (label_of e)) (le-leb 0 (label_of e) (omega arith))
  where
    go : (b : Bool) → b ≡ true → ◌≡◌ {A = ℕ} (elim b [ true ↦ 0 | false ↦ suc (labels_below 0 es) ]) 0
    go true h = refl
    go false h = absurd (true≢false (sym h))

-- ---- a count over lists

module _ {A : Type 0} (p : A → Bool) where
  count_cons : (x : A) (xs : List A) → count p (x ∷ xs) ≡ bit (p x) + count p xs
  unfolding count
  count_cons x xs = go (p x)
    where
      go : (b : Bool) → cond b (suc (count p xs)) (count p xs) ≡ bit b + count p xs
      go true = omega arith
      go false = omega arith

  pub count_append : (xs ys : List A) → count p (xs ++ ys) ≡ count p xs + count p ys
  unfolding count
  count_append [] ys = omega arith
  count_append (x ∷ xs) ys = omega (arith, count_cons x (xs ++ ys), count_cons x xs, count_append xs ys)

-- ---- one leaf

module _ (ends : Bool) (q : Bits → Bytes → Bool) where
  -- The leaf counts before the key: its cut key lies before it and does not begin it; or it begins it, and an open leaf's suffix passes the test q
  -- against the rest of the key. An exact leaf whose key is the key itself counts if `ends` says so.
  unfoldable pub counts : Bytes → Leaf → Bool
  unfolding below begins equal
  counts k l =
      cond l.exact (below l.cut k || (ends && equal l.cut k))
      ((below l.cut k && not (begins l.cut k)) || (begins l.cut k && q l.suffix (drop (length l.cut) k)))

  and-false : (b : Bool) → b && false ≡ false
  and-false true = refl
  and-false false = refl

  cond_same : {A : Type 0} (b : Bool) (x y : A) → x ≡ y → cond b x y ≡ y
  cond_same true x y h = h
  cond_same false x y h = refl

  -- a leaf behind a lower label counts
  pub counts_low : (x : ℕ) (l : Leaf) (y : ℕ) (k : Bytes) → x < y → counts (y ∷ k) (prefix x l) ≡ true
  unfolding counts below begins equal
  counts_low x l y k h = rw (lt-ltb x y h, ne_eqb x y (λ e. omega arith)) (cond_same l.exact true true refl)

  -- a leaf behind the label that the key goes on with
  pub counts_same : (x : ℕ) (l : Leaf) (k : Bytes) → counts (x ∷ k) (prefix x l) ≡ counts k l
  unfolding counts below begins equal
  counts_same x l k = rw (le-ltb x x (omega arith), eq-eqb x x refl)

  counts_high : (x : ℕ) (l : Leaf) (y : ℕ) (k : Bytes) → y < x → counts (y ∷ k) (prefix x l) ≡ false
  unfolding counts below begins equal
  counts_high x l y k h = rw (le-ltb x y (omega arith), ne_eqb x y (λ e. omega arith), and-false ends) (cond_same l.exact false false refl)

  counts_none : (x : ℕ) (l : Leaf) → counts [] (prefix x l) ≡ false
  unfolding counts below begins equal
  counts_none x l = rw (and-false ends) (cond_same l.exact false false refl)

  -- ---- the leaves below one branch

  -- all leaves behind a lower label count
  pub prefixed_low : (x : ℕ) (g : Group) (y : ℕ) (k : Bytes) → x < y → count (counts (y ∷ k)) (map (prefix x) g) ≡ length g
  unfolding count
  prefixed_low x [] y k h = refl
  prefixed_low x (l ∷ g) y k h = rw (counts_low x l y k h) (ap suc (prefixed_low x g y k h))

  prefixed_same : (x : ℕ) (g : Group) (k : Bytes) → count (counts (x ∷ k)) (map (prefix x) g) ≡ count (counts k) g
  unfolding count
  prefixed_same x [] k = refl
  prefixed_same x (l ∷ g) k = rw (counts_same x l k, prefixed_same x g k)

  prefixed_high : (x : ℕ) (g : Group) (y : ℕ) (k : Bytes) → y < x → count (counts (y ∷ k)) (map (prefix x) g) ≡ 0
  unfolding count
  prefixed_high x [] y k h = refl
  prefixed_high x (l ∷ g) y k h = rw (counts_high x l y k h) (prefixed_high x g y k h)

  prefixed_none : (x : ℕ) (g : Group) → count (counts []) (map (prefix x) g) ≡ 0
  unfolding count
  prefixed_none x [] = refl
  prefixed_none x (l ∷ g) = rw (counts_none x l) (prefixed_none x g)

  abbrev pub open_leaf : ℕ → Bits → Leaf
  open_leaf x s = prefix x (record { cut = []; exact = false; suffix = s })

  -- an open leaf at the label
  pub open_same : (x : ℕ) (s : Bits) (k : Bytes) → counts (x ∷ k) (open_leaf x s) ≡ q s k
  unfolding counts below begins
  open_same x s k = counts_same x (record { cut = []; exact = false; suffix = s }) k ∙ rw (and-false (below [] k))

  -- ---- the leaves behind branches

  -- no leaf behind a branch counts before the empty key
  pub branches_none : (es : List Branch) (gs : List Group) → count (counts []) (branch_leaves es gs) ≡ 0
  unfolding branch_leaves count
  branches_none [] gs = refl
  branches_none (to_leaf x s ∷ es) gs = rw (counts_none x (record { cut = []; exact = false; suffix = s })) (branches_none es gs)
  branches_none (to_node x ∷ es) [] = refl
  branches_none (to_node x ∷ es) (g ∷ gs) = count_append (counts []) (map (prefix x) g) (branch_leaves es gs) ∙ omega (arith, prefixed_none x g, branches_none es gs)

  -- a lower bound of labels
  under_less : (y x : ℕ) (es : List Branch) → y < x → BelowLabel x es → BelowLabel y es
  under_less y x [] h u = tt
  under_less y x (e ∷ es) h u = omega arith

  -- no leaf behind a higher label counts
  pub branches_high : (y : ℕ) (k : Bytes) (es : List Branch) (gs : List Group) → BelowLabel y es → Ascends es → count (counts (y ∷ k)) (branch_leaves es gs) ≡ 0
  unfolding branch_leaves count
  branches_high y k [] gs u r = refl
  branches_high y k (to_leaf x s ∷ es) gs u r =
      rw (counts_high x (record { cut = []; exact = false; suffix = s }) y k u) (branches_high y k es gs (under_less y x es u r.0) r.1)
  branches_high y k (to_node x ∷ es) [] u r = refl
  branches_high y k (to_node x ∷ es) (g ∷ gs) u r =
      count_append (counts (y ∷ k)) (map (prefix x) g) (branch_leaves es gs) ∙ omega (arith, prefixed_high x g y k u, branches_high y k es gs (under_less y x es u r.0) r.1)

  -- what counts behind the branch at which the search for y stops
  unfoldable pub counts_at : ℕ → Bytes → List Branch → List Group → ℕ
  unfolding count counts
  counts_at y k [] gs = 0
  counts_at y k (to_leaf x s ∷ es) gs = cond (eqb x y) (bit (q s k)) 0
  counts_at y k (to_node x ∷ es) [] = 0
  counts_at y k (to_node x ∷ es) (g ∷ gs) = cond (eqb x y) (count (counts k) g) 0

  leaves_none : (gs : List Group) → leaves_in (take 0 gs) ≡ 0
  unfolding leaves_in
  leaves_none gs = refl

  leaves_first : (g : Group) (n : ℕ) (gs : List Group) → leaves_in (take (suc n) (g ∷ gs)) ≡ length g + leaves_in (take n gs)
  unfolding leaves_in
  leaves_first g n gs = refl

  -- The leaves behind branches below y all count; of those at y, what is found there; no later one.
  pub branches_counted : (y : ℕ) (k : Bytes) (es : List Branch) (gs : List Group) → Ascends es → children es ≤ length gs
      → count (counts (y ∷ k)) (branch_leaves es gs)
      ≡ open_leaves (take (labels_below y es) es) + leaves_in (take (children (take (labels_below y es) es)) gs)
      + counts_at y k (drop (labels_below y es) es) (drop (children (take (labels_below y es) es)) gs)
  unfolding branch_leaves labels_below children open_leaves counts_at count leaves_in
  branches_counted y k [] gs r h = none_at gs
    where
      none_at : (gs : List Group) → 0 ≡ 0 + leaves_in (take 0 gs) + counts_at y k [] (drop 0 gs)
      none_at gs = refl
  branches_counted y k (to_leaf x s ∷ es) gs r h =
      count_cons (counts (y ∷ k)) (open_leaf x s) (branch_leaves es gs) ∙ go (leb y x) refl (branches_counted y k es gs r.1 h)
    where
      go : (b : Bool) → leb y x ≡ b
          → count (counts (y ∷ k)) (branch_leaves es gs)
          ≡ open_leaves (take (labels_below y es) es) + leaves_in (take (children (take (labels_below y es) es)) gs)
          + counts_at y k (drop (labels_below y es) es) (drop (children (take (labels_below y es) es)) gs)
          → bit (counts (y ∷ k) (open_leaf x s)) + count (counts (y ∷ k)) (branch_leaves es gs)
          ≡ (let i : ℕ = elim b [ true ↦ 0 | false ↦ suc (labels_below y es) ] in
          open_leaves (take i (to_leaf x s ∷ es)) + leaves_in (take (children (take i (to_leaf x s ∷ es))) gs)
          + counts_at y k (drop i (to_leaf x s ∷ es)) (drop (children (take i (to_leaf x s ∷ es))) gs))
      go true e ih = here (eqb x y) refl
        where
          here : (t : Bool) → eqb x y ≡ t → bit (counts (y ∷ k) (open_leaf x s)) + count (counts (y ∷ k)) (branch_leaves es gs) ≡ 0 + leaves_in (take 0 gs) + cond t (bit (q s k)) 0
          here true p = let z = eqb-true x y p in rw (← z, open_same x s k) (omega (arith, branches_high x k es gs r.0 r.1, leaves_none gs))
          here false p =
              let n = eqb-false x y p in
              let l = leb-true y x e in
              rw (counts_high x (record { cut = []; exact = false; suffix = s }) y k (omega arith))
              (omega (arith, branches_high y k es gs (under_less y x es (omega arith) r.0) r.1, leaves_none gs))
      go false e ih = let l = leb-false y x e in rw (counts_low x (record { cut = []; exact = false; suffix = s }) y k l) (omega (arith, ih))
  branches_counted y k (to_node x ∷ es) [] r h = absurd (omega arith)
  branches_counted y k (to_node x ∷ es) (g ∷ gs) r h =
      count_append (counts (y ∷ k)) (map (prefix x) g) (branch_leaves es gs) ∙ go (leb y x) refl (branches_counted y k es gs r.1 (omega arith))
    where
      go : (b : Bool) → leb y x ≡ b
          → count (counts (y ∷ k)) (branch_leaves es gs)
          ≡ open_leaves (take (labels_below y es) es) + leaves_in (take (children (take (labels_below y es) es)) gs)
          + counts_at y k (drop (labels_below y es) es) (drop (children (take (labels_below y es) es)) gs)
          → count (counts (y ∷ k)) (map (prefix x) g) + count (counts (y ∷ k)) (branch_leaves es gs)
          ≡ (let i : ℕ = elim b [ true ↦ 0 | false ↦ suc (labels_below y es) ] in
          open_leaves (take i (to_node x ∷ es)) + leaves_in (take (children (take i (to_node x ∷ es))) (g ∷ gs))
          + counts_at y k (drop i (to_node x ∷ es)) (drop (children (take i (to_node x ∷ es))) (g ∷ gs)))
      go true e ih = here (eqb x y) refl
        where
          here : (t : Bool) → eqb x y ≡ t
              → count (counts (y ∷ k)) (map (prefix x) g) + count (counts (y ∷ k)) (branch_leaves es gs) ≡ 0 + leaves_in (take 0 (g ∷ gs)) + cond t (count (counts k) g) 0
          here true p = let z = eqb-true x y p in rw (← z) (omega (arith, prefixed_same x g k, branches_high x k es gs r.0 r.1, leaves_none (g ∷ gs)))
          here false p =
              let n = eqb-false x y p in
              let l = leb-true y x e in
              omega (arith, prefixed_high x g y k (omega arith), branches_high y k es gs (under_less y x es (omega arith) r.0) r.1, leaves_none (g ∷ gs))
      go false e ih = let l = leb-false y x e in omega (arith, ih, prefixed_low x g y k l, leaves_first g (children (take (labels_below y es) es)) gs)

  -- ---- the leaf that a node is

  -- an exact leaf against the end of the key
  pub exact_none : (o : Option Bits) (es : List Branch) → count (counts []) (exact_leaf o) ≡ bit (is_exact (node o es) && ends)
  unfolding count counts exact_leaf below equal
  exact_none none es = refl
  exact_none (some s) es = go ends
    where
      go : (b : Bool) → cond (b && true) 1 0 ≡ bit b
      go true = refl
      go false = refl

  -- an exact leaf counts before every longer key
  pub exact_counted : (o : Option Bits) (es : List Branch) (y : ℕ) (k : Bytes) → count (counts (y ∷ k)) (exact_leaf o) ≡ bit (is_exact (node o es))
  unfolding count counts exact_leaf below equal
  exact_counted none es y k = refl
  exact_counted (some s) es y k = refl
