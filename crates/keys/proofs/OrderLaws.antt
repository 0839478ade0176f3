-- The order of two keys by the byte behind their shared prefix.
use mathlib.Core.Path.{◌≡◌, refl, sym, ap, ap₂, ◌∙◌}
use mathlib.Core.Bool.{Bool, true, false, cond}
use mathlib.Core.List.{[], ◌∷◌}
use mathlib.Core.Logic.{◌⊎◌, inl, inr}
use Prim.Native.Nat.{ℕ, zero, suc, ◌≤◌, ◌<◌}
use native.Mathlib.Omega.{arith}
use borrow.Author.Tests.{eq-eqb, ne_eqb, lt-ltb, le-ltb}
use lib.ListN.{length, get_or, take, drop, length-drop}
use lib.Seq.{drop-cons}
use Rattle.spec.specs.Bytes.{Bytes, shared, equal}
use Rattle.spec.specs.Keys.{below}
use Rattle.keys.specs.Order.{order}
use Rattle.std.specs.declared.cmp.Ordering.TheVariants.{Less, Equal, Greater}
use Rattle.keys.proofs.PrefixLaws.{shared_add, shared_same}

-- a shared prefix leaves the order to the rests
order_drop : (i : ℕ) (p q : Bytes) → i ≤ length p → i ≤ length q → take i p ≡ take i q → order p q ≡ order (drop i p) (drop i q)
unfolding order below equal
order_drop zero p q a b e = refl
order_drop (suc i) [] q a b e = absurd (omega arith)
order_drop (suc i) (x ∷ p) [] a b e = absurd (omega arith)
order_drop (suc i) (x ∷ p) (y ∷ q) a b e =
    let h : x ≡ y = cc in
    let t : take i p ≡ take i q = cc in
    rw (eq-eqb x y h, le-ltb x y (omega arith)) (order_drop i p q (omega arith) (omega arith) t)

-- the rests share nothing
rests : (p q : Bytes) → shared (drop (shared p q) p) (drop (shared p q) q) ≡ 0
rests p q = let s = shared_same p q in omega (arith, shared_add (shared p q) p q s.1 s.2 s.0)

module _ (p q : Bytes) (i : ℕ) (is : i ≡ shared p q) where
  at_rests : order p q ≡ order (drop i p) (drop i q)
  at_rests = let s = shared_same p q in order_drop i p q (rw is s.1) (rw is s.2) (rw is s.0)

  -- both have ended
  pub order_equal : length q ≤ i → length p ≤ i → order p q ≡ Equal
  unfolding order below equal
  order_equal h g = at_rests ∙ none (drop i p) (drop i q) (omega (arith, length-drop i p)) (omega (arith, length-drop i q))
    where
      none : (r t : Bytes) → length r ≤ 0 → length t ≤ 0 → order r t ≡ Equal
      none [] [] l m = refl
      none [] (y ∷ t) l m = absurd (omega arith)
      none (x ∷ r) t l m = absurd (omega arith)

  -- only the second has ended
  pub order_above : length q ≤ i → i < length p → order p q ≡ Greater
  unfolding order below equal
  order_above h g = at_rests ∙ none (drop i p) (drop i q) (omega (arith, length-drop i p)) (omega (arith, length-drop i q))
    where
      none : (r t : Bytes) → 0 < length r → length t ≤ 0 → order r t ≡ Greater
      none [] t l m = absurd (omega arith)
      none (x ∷ r) [] l m = refl
      none (x ∷ r) (y ∷ t) l m = absurd (omega arith)

  -- only the first has ended
  pub order_below : i < length q → length p ≤ i → order p q ≡ Less
  unfolding order below equal
  order_below h g = at_rests ∙ none (drop i p) (drop i q) (omega (arith, length-drop i p)) (omega (arith, length-drop i q))
    where
      none : (r t : Bytes) → length r ≤ 0 → 0 < length t → order r t ≡ Less
      none [] [] l m = absurd (omega arith)
      none [] (y ∷ t) l m = refl
      none (x ∷ r) t l m = absurd (omega arith)

  -- the next bytes differ
  differ : i < length p → i < length q → (get_or p i 0 ≡ get_or q i 0 → ⊥)
  unfolding shared
  differ h g e = absurd (omega (arith, ap₂ shared (sym (drop-cons p i 0 h)) (sym (drop-cons q i 0 g)) ∙ ap (λ (k : ℕ). shared (drop k p) (drop k q)) is ∙ rests p q, one))
    where
      one : shared (get_or p i 0 ∷ drop (suc i) p) (get_or q i 0 ∷ drop (suc i) q) ≡ suc (shared (drop (suc i) p) (drop (suc i) q))
      one = rw (eq-eqb (get_or p i 0) (get_or q i 0) e)

  -- the lower byte decides
  pub order_byte_below : i < length p → i < length q → get_or p i 0 < get_or q i 0 → order p q ≡ Less
  unfolding order below equal
  order_byte_below h g l = at_rests ∙ ap₂ order (drop-cons p i 0 h) (drop-cons q i 0 g) ∙ rw (lt-ltb (get_or p i 0) (get_or q i 0) l)

  -- and so does the higher
  pub order_byte_above : i < length p → i < length q → get_or q i 0 ≤ get_or p i 0 → order p q ≡ Greater
  unfolding order below equal
  order_byte_above h g l =
      at_rests ∙ ap₂ order (drop-cons p i 0 h) (drop-cons q i 0 g)
      ∙ rw (le-ltb (get_or p i 0) (get_or q i 0) l, ne_eqb (get_or p i 0) (get_or q i 0) (differ h g))

-- the order says whether the first is below
pub order_is_below : (p q : Bytes) → order p q ≡ Less → below p q ≡ true
unfolding order
order_is_below p q h = go (below p q) (equal p q) h
  where
    go : (a b : Bool) → cond a Less (cond b Equal Greater) ≡ Less → a ≡ true
    go true b e = refl
    go false true e = let z : ◌≡◌ {A = ℕ} 0 1 = cc in absurd (omega arith)
    go false false e = let z : ◌≡◌ {A = ℕ} 0 1 = cc in absurd (omega arith)

-- and whether it is not
pub order_not_below : (p q : Bytes) → (order p q ≡ Equal) ⊎ (order p q ≡ Greater) → below p q ≡ false
unfolding order
order_not_below p q h = go (below p q) (equal p q) h
  where
    go : (a b : Bool) → (cond a Less (cond b Equal Greater) ≡ Equal) ⊎ (cond a Less (cond b Equal Greater) ≡ Greater) → a ≡ false
    go true b (inl e) = let z : ◌≡◌ {A = ℕ} 0 1 = cc in absurd (omega arith)
    go true b (inr e) = let z : ◌≡◌ {A = ℕ} 0 1 = cc in absurd (omega arith)
    go false b e = refl
