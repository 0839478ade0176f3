-- The label maps of a dense node: which bits are set, and how many stand before one.
use Prim.Native.Nat.{ℕ, zero, suc, ◌+◌, ◌<◌, ◌≤◌}
use Rattle.std.specs.Prelude.{◌≡◌, refl, Bool, ◌&&◌, ◌||◌, get_or, take, drop}
use Rattle.std.proofs.Math.Path.{sym}
use Rattle.std.proofs.Common.{ap, ◌∙◌, true≢false}
use Rattle.std.proofs.Math.Bool.{true, false}
use mathlib.Core.List.{List, [], ◌∷◌, map}
use Rattle.std.proofs.Math.Option.{Option}
use native.Mathlib.Omega.{arith}
use Rattle.std.proofs.Math.Dec.{leb, eqb}
use borrow.Author.Tests.{eq-eqb, ne_eqb, eqb-true, eqb-false, leb-true, leb-false, le-leb, lt-leb}
use Rattle.spec.specs.Bytes.{Bits, any, filter, iota, ones}
use Rattle.spec.specs.Image.{has}
use Rattle.spec.specs.Nodes.{Branch, to_node, to_leaf, node, label_of, has_child, children}
use Rattle.nav_nodes.specs.Counting.{labels_below}
use Rattle.nav_nodes.specs.Descent.{goes_on}
use Rattle.theory.specs.Terms.{IsBytes}
use Rattle.theory.proofs.Bits.{AscendsFrom, has_here, has_skip, has_none}
use Rattle.theory.proofs.LinkedLevels.{Ascends, Labelled}
use Rattle.theory.proofs.NodeBits.{ByteLabels, dense_labels, dense_has_child}
use Rattle.theory.proofs.DenseBits.{ascends_from_children}

-- how many of the first numbers are below y
unfoldable pub numbers_below : ℕ → List ℕ → ℕ
numbers_below y [] = 0
numbers_below y (x ∷ xs) = elim (leb y x) [ true ↦ 0 | false ↦ suc (numbers_below y xs) ]

below_high : (y x : ℕ) (xs : List ℕ) → y ≤ x → numbers_below y (x ∷ xs) ≡ 0
unfolding numbers_below
below_high y x xs h = go (leb y x) (le-leb y x h)
  where
    go : (b : Bool) → b ≡ true → ◌≡◌ {A = ℕ} (elim b [ true ↦ 0 | false ↦ suc (numbers_below y xs) ]) 0
    go true q = refl
    go false q = absurd (true≢false (sym q))

below_low : (y x : ℕ) (xs : List ℕ) → x < y → numbers_below y (x ∷ xs) ≡ suc (numbers_below y xs)
unfolding numbers_below
below_low y x xs h = go (leb y x) (lt-leb y x h)
  where
    go : (b : Bool) → b ≡ false → elim b [ true ↦ 0 | false ↦ suc (numbers_below y xs) ] ≡ suc (numbers_below y xs)
    go true q = absurd (true≢false q)
    go false q = refl

none_ones : (c i n : ℕ) → ones (take c (map (has []) (iota i n))) ≡ 0
unfolding ones iota has any
none_ones zero i n = refl
none_ones (suc c) i zero = refl
none_ones (suc c) i (suc n) = omega (arith, none_ones c (suc i) n)

ones_has : (n i c : ℕ) (xs : List ℕ) → AscendsFrom i (i + n) xs → c ≤ n → ones (take c (map (has xs) (iota i n))) ≡ numbers_below (i + c) xs
unfolding ones iota numbers_below
ones_has n i c [] k h = none_ones c i n ∙ empty
  where
    empty : 0 ≡ numbers_below (i + c) []
    empty = refl
ones_has n i zero (x ∷ xs) k h = sym (below_high (i + 0) x xs (omega (arith, k.0)))
ones_has zero i (suc c) (x ∷ xs) k h = absurd (omega arith)
ones_has (suc n) i (suc c) (x ∷ xs) k h = go (eqb i x) refl (λ d. ones_has n (suc i) c xs d (omega arith)) (λ d. ones_has n (suc i) c (x ∷ xs) d (omega arith))
  where
    e : i + suc n ≡ suc i + n
    e = omega arith

    f : suc i + c ≡ i + suc c
    f = omega arith

    go : (b : Bool) → eqb i x ≡ b → (AscendsFrom (suc i) (suc i + n) xs → ones (take c (map (has xs) (iota (suc i) n))) ≡ numbers_below (suc i + c) xs)
        → (AscendsFrom (suc i) (suc i + n) (x ∷ xs) → ones (take c (map (has (x ∷ xs)) (iota (suc i) n))) ≡ numbers_below (suc i + c) (x ∷ xs))
        → ones (has (x ∷ xs) i ∷ take c (map (has (x ∷ xs)) (iota (suc i) n))) ≡ numbers_below (i + suc c) (x ∷ xs)
    go true q g₁ g₂ =
        let z : i ≡ x = eqb-true i x q in
        let d : AscendsFrom (suc i) (suc i + n) xs = rw (← e) (rw (← z) at k.2) in
        rw (has_here i x xs q, has_skip x xs (suc i) n (omega arith), below_low (i + suc c) x xs (omega arith), ← f) (omega (arith, g₁ d))
    go false q g₁ g₂ =
        let m = eqb-false i x q in
        let l : suc i ≤ x = omega (arith, k.0) in
        rw (has_none i (suc i) (i + suc n) (x ∷ xs) (omega arith) (l, k.1, k.2), ← f) (omega (arith, g₂ (l, omega (arith, k.1), rw e at k.2)))

-- ---- the labels of one node

-- labels below 256, ascending
abbrev pub Narrow : List Branch → Type 0
Narrow es = AscendsFrom 0 256 (map label_of es)

labels_are_below : (y : ℕ) (es : List Branch) → numbers_below y (map label_of es) ≡ labels_below y es
unfolding numbers_below labels_below
labels_are_below y [] = refl
labels_are_below y (to_node x ∷ es) = go (leb y x) (labels_are_below y es)
  where
    go : (b : Bool) → numbers_below y (map label_of es) ≡ labels_below y es → ◌≡◌ {A = ℕ} (elim b [ true ↦ 0 | false ↦ suc (numbers_below y (map label_of es)) ]) (elim b [ true ↦ 0 | false ↦ suc (labels_below y es) ])
    go true h = refl
    go false h = ap suc h
labels_are_below y (to_leaf x s ∷ es) = go (leb y x) (labels_are_below y es)
  where
    go : (b : Bool) → numbers_below y (map label_of es) ≡ labels_below y es → ◌≡◌ {A = ℕ} (elim b [ true ↦ 0 | false ↦ suc (numbers_below y (map label_of es)) ]) (elim b [ true ↦ 0 | false ↦ suc (labels_below y es) ])
    go true h = refl
    go false h = ap suc h

below_none : (y i e : ℕ) (xs : List ℕ) → y ≤ i → AscendsFrom i e xs → numbers_below y xs ≡ 0
unfolding numbers_below
below_none y i e [] h c = refl
below_none y i e (x ∷ xs) h c = below_high y x xs (omega (arith, c.0))

continuing_below : (y i e : ℕ) (es : List Branch) → AscendsFrom i e (map label_of es) → numbers_below y (map label_of (filter has_child es)) ≡ children (take (labels_below y es) es)
unfolding numbers_below labels_below children filter
continuing_below y i e [] c = refl
continuing_below y i e (to_node x ∷ es) c = go (leb y x) (continuing_below y (suc x) e es c.2)
  where
    go : (b : Bool) → numbers_below y (map label_of (filter has_child es)) ≡ children (take (labels_below y es) es)
        → ◌≡◌ {A = ℕ} (elim b [ true ↦ 0 | false ↦ suc (numbers_below y (map label_of (filter has_child es))) ]) (children (take (elim b [ true ↦ 0 | false ↦ suc (labels_below y es) ]) (to_node x ∷ es)))
    go true h = refl
    go false h = ap suc h
continuing_below y i e (to_leaf x s ∷ es) c = go (leb y x) refl (continuing_below y (suc x) e es c.2)
  where
    go : (b : Bool) → leb y x ≡ b → numbers_below y (map label_of (filter has_child es)) ≡ children (take (labels_below y es) es)
        → numbers_below y (map label_of (filter has_child es)) ≡ children (take (elim b [ true ↦ 0 | false ↦ suc (labels_below y es) ]) (to_leaf x s ∷ es))
    go true q h = below_none y (suc x) e (map label_of (filter has_child es)) (omega (arith, leb-true y x q)) (ascends_from_children (suc x) e es c.2)
    go false q h = h

getD_iota : (f : ℕ → Bool) (i n c : ℕ) → c < n → get_or (map f (iota i n)) c false ≡ f (i + c)
unfolding iota
getD_iota f i zero c h = absurd (omega arith)
getD_iota f i (suc n) zero h = let z : i + 0 ≡ i = omega arith in rw z
getD_iota f i (suc n) (suc c) h = let z : i + suc c ≡ suc i + c = omega arith in rw z (getD_iota f (suc i) n c (omega arith))

-- the first branch has the label y
unfoldable pub matches : ℕ → List Branch → Bool
matches y [] = false
matches y (e ∷ es) = eqb y (label_of e)

-- the first branch has the label y and continues
abbrev matches_child : ℕ → List Branch → Bool
matches_child y [] = false
matches_child y (e ∷ es) = eqb y (label_of e) && has_child e

or_none : (b : Bool) → b || false ≡ b
or_none true = refl
or_none false = refl

and_none : (b : Bool) → b && false ≡ false
and_none true = refl
and_none false = refl

and_one : (b : Bool) → b && true ≡ b
and_one true = refl
and_one false = refl

module _ (y : ℕ) where
  label_found : (i e : ℕ) (es : List Branch) → AscendsFrom i e (map label_of es) → has (map label_of es) (0 + y) ≡ matches y (drop (labels_below y es) es)
  unfolding has any labels_below matches
  label_found i e es c = let z : 0 + y ≡ y = omega arith in rw z (go i es c)
    where
      step : (i : ℕ) (en : Branch) (x : ℕ) (es : List Branch) → label_of en ≡ x → label_of en ≡ x → AscendsFrom i e (x ∷ map label_of es) → has (map label_of es) y ≡ matches y (drop (labels_below y es) es)
          → (b : Bool) → leb y x ≡ b → eqb y x || has (map label_of es) y ≡ matches y (drop (elim b [ true ↦ 0 | false ↦ suc (labels_below y es) ]) (en ∷ es))
      step i en x es p q c ih true h = rw (p, has_none y (suc x) e (map label_of es) (omega (arith, leb-true y x h)) c.2) (or_none (eqb y x))
      step i en x es p q c ih false h = rw (ne_eqb y x (λ r. omega (arith, leb-false y x h))) ih

      go : (i : ℕ) (es : List Branch) → AscendsFrom i e (map label_of es) → has (map label_of es) y ≡ matches y (drop (labels_below y es) es)
      go i [] c = refl
      go i (to_node x ∷ es) c = step i (to_node x) x es refl refl c (go (suc x) es c.2) (leb y x) refl
      go i (to_leaf x s ∷ es) c = step i (to_leaf x s) x es refl refl c (go (suc x) es c.2) (leb y x) refl

  child_found : (i e : ℕ) (es : List Branch) → AscendsFrom i e (map label_of es) → has (map label_of (filter has_child es)) (0 + y) ≡ matches_child y (drop (labels_below y es) es)
  unfolding has any labels_below filter
  child_found i e es c = let z : 0 + y ≡ y = omega arith in rw z (go i es c)
    where
      here : (x : ℕ) (es : List Branch) → AscendsFrom (suc x) e (map label_of es) → has (map label_of (filter has_child es)) y ≡ matches_child y (drop (labels_below y es) es)
          → (b : Bool) → leb y x ≡ b → eqb y x || has (map label_of (filter has_child es)) y ≡ matches_child y (drop (elim b [ true ↦ 0 | false ↦ suc (labels_below y es) ]) (to_node x ∷ es))
      here x es c ih true h = rw (has_none y (suc x) e (map label_of (filter has_child es)) (omega (arith, leb-true y x h)) (ascends_from_children (suc x) e es c)) (or_none (eqb y x) ∙ sym (and_one (eqb y x)))
      here x es c ih false h = rw (ne_eqb y x (λ r. omega (arith, leb-false y x h))) ih

      past : (x : ℕ) (s : Bits) (es : List Branch) → AscendsFrom (suc x) e (map label_of es) → has (map label_of (filter has_child es)) y ≡ matches_child y (drop (labels_below y es) es)
          → (b : Bool) → leb y x ≡ b → has (map label_of (filter has_child es)) y ≡ matches_child y (drop (elim b [ true ↦ 0 | false ↦ suc (labels_below y es) ]) (to_leaf x s ∷ es))
      past x s es c ih true h = has_none y (suc x) e (map label_of (filter has_child es)) (omega (arith, leb-true y x h)) (ascends_from_children (suc x) e es c) ∙ sym (and_none (eqb y x))
      past x s es c ih false h = ih

      go : (i : ℕ) (es : List Branch) → AscendsFrom i e (map label_of es) → has (map label_of (filter has_child es)) y ≡ matches_child y (drop (labels_below y es) es)
      go i [] c = refl
      go i (to_node x ∷ es) c = here x es c.2 (go (suc x) es c.2) (leb y x) refl
      go i (to_leaf x s ∷ es) c = past x s es c.2 (go (suc x) es c.2) (leb y x) refl

pub eqb_flip : (x y : ℕ) → eqb x y ≡ eqb y x
eqb_flip x y = go (eqb x y) refl
  where
    go : (b : Bool) → eqb x y ≡ b → b ≡ eqb y x
    go true e = sym (eq-eqb y x (sym (eqb-true x y e)))
    go false e = sym (ne_eqb y x (λ q. eqb-false x y e (sym q)))

child_goes : (y : ℕ) (fs : List Branch) → matches_child y fs ≡ goes_on y fs
unfolding goes_on
child_goes y [] = refl
child_goes y (to_node x ∷ fs) = and_one (eqb y x) ∙ eqb_flip y x
child_goes y (to_leaf x s ∷ fs) = and_none (eqb y x)

-- ---- one node

-- the first label is i or above
abbrev From : ℕ → List Branch → Type 0
From i [] = Unit
From i (e ∷ es) = i ≤ label_of e

climbs_rising : (i : ℕ) (es : List Branch) → Ascends es → IsBytes (map label_of es) → From i es → AscendsFrom i 256 (map label_of es)
climbs_rising i [] r s h = tt
climbs_rising i (e ∷ []) r s h = (h, s.0, tt)
climbs_rising i (e ∷ f ∷ es) r s h = (h, s.0, climbs_rising (suc (label_of e)) (f ∷ es) r.1 s.1 (omega (arith, r.0)))

-- the labels of a node that fits are narrow
pub narrow : (o : Option Bits) (es : List Branch) → Labelled (node o es) → ByteLabels (node o es) → Narrow es
narrow o [] f s = absurd f
narrow o (e ∷ es) f s = climbs_rising 0 (e ∷ es) f s (omega arith)

module _ (o : Option Bits) (es : List Branch) (c : Narrow es) (y : ℕ) where
  zero_more : 0 + y ≡ y
  zero_more = omega arith

  -- the labels below y
  pub labels_counted : y ≤ 256 → ones (take y (dense_labels (node o es))) ≡ labels_below y es
  unfolding dense_labels
  labels_counted h = ones_has 256 0 y (map label_of es) c h ∙ labels_are_below (0 + y) es ∙ rw zero_more

  -- the continuing ones among them
  pub children_counted : y ≤ 256 → ones (take y (dense_has_child (node o es))) ≡ children (take (labels_below y es) es)
  unfolding dense_has_child
  children_counted h = ones_has 256 0 y (map label_of (filter has_child es)) (ascends_from_children 0 256 es c) h ∙ continuing_below (0 + y) 0 256 es c ∙ rw zero_more

  -- the bit of label y
  pub label_bit : y < 256 → get_or (dense_labels (node o es)) y false ≡ matches y (drop (labels_below y es) es)
  unfolding dense_labels
  label_bit h = getD_iota (has (map label_of es)) 0 256 y h ∙ label_found y 0 256 es c

  -- and whether it continues
  pub child_bit : y < 256 → get_or (dense_has_child (node o es)) y false ≡ goes_on y (drop (labels_below y es) es)
  unfolding dense_has_child
  child_bit h = getD_iota (has (map label_of (filter has_child es))) 0 256 y h ∙ child_found y 0 256 es c ∙ child_goes y (drop (labels_below y es) es)
