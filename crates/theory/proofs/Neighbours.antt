-- Only neighbours matter for the cut: the longest prefix that a key of an ascending list shares with any other is shared with the key before or the key behind it.
-- The builder takes each leaf from a key and its neighbours.
use Prim.Native.Nat.{ℕ, suc, ◌+◌, ◌<◌, ◌≤◌, max}
use Rattle.std.specs.Prelude.{◌≡◌, Bool, cond, ◌⊎◌, take, replicate}
use Rattle.std.proofs.Math.Path.{refl}
use Rattle.std.proofs.Common.{sym, ◌∙◌, true≢false, inl, inr}
use Rattle.std.proofs.Math.Bool.{true, false, not}
use mathlib.Core.List.{List, [], ◌∷◌, map}
use Rattle.std.proofs.Math.Logic.{⊎_elim}
use native.Mathlib.Omega.{arith}
use Rattle.std.proofs.Math.ListN.{length}
use Rattle.std.proofs.Math.Dec.{eqb}
use borrow.Author.Tests.{not-true, eqb-true, eqb-false}
use Rattle.spec.specs.Bytes.{Bytes, any, filter, maximum, equal, begins, shared}
use Rattle.spec.specs.Keys.{below}
use Rattle.spec.specs.Leaves.{Leaf, others, suffix_bits}
use Rattle.theory.specs.Terms.{All, In, here, there, BelowAll, Ascending}
use Rattle.theory.proofs.Lists.{all_in, in_any, filter_in, in_filter, any_false, maximum_bound, maximum_below}
use Rattle.theory.proofs.Order.{below_cons, below_nil, below_unequal, equal_self, equal_comm, shared_le, shared_eq, shared_ne, begins_shared, shared_begins}

-- what a key shares with the next of the keys behind it, if there is one
unfoldable pub next_shared : Bytes → List Bytes → ℕ
unfolding shared
next_shared k [] = 0
next_shared k (m ∷ ms) = shared k m

-- no key is empty
abbrev pub Nonempty : List Bytes → Type 0
Nonempty = All (λ k. 0 < length k)

-- the leaf of a key that shares p bytes with the key before and q with the next
unfoldable pub neighbour_leaf : ℕ → ℕ → ℕ → ℕ → Bytes → Leaf
unfolding suffix_bits
neighbour_leaf h n p q k =
    cond (eqb q (length k))
    (record { cut = k; exact = true; suffix = replicate (h + n) false })
    (record { cut = take (suc (max p q)) k; exact = false; suffix = suffix_bits h n (suc (max p q)) k })

-- the leaves of keys, the first of which shares p bytes with the key before it
unfoldable pub neighbour_leaves : ℕ → ℕ → ℕ → List Bytes → List Leaf
unfolding neighbour_leaf next_shared
neighbour_leaves h n p [] = []
neighbour_leaves h n p (k ∷ ks) = neighbour_leaf h n p (next_shared k ks) k ∷ neighbour_leaves h n (next_shared k ks) ks

-- ---- three ascending keys

-- of three ascending keys, the first shares no more with the last than with the second
far_left : (a b c : Bytes) → below a b ≡ true → below b c ≡ true → shared a c ≤ shared a b
unfolding shared
far_left [] b c h k = omega arith
far_left (x ∷ a) [] c h k = absurd (true≢false (sym h ∙ below_nil (x ∷ a)))
far_left (x ∷ a) (y ∷ b) [] h k = absurd (true≢false (sym k ∙ below_nil (y ∷ b)))
far_left (x ∷ a) (y ∷ b) (z ∷ c) h k =
    ⊎_elim (λ u. ⊎_elim (λ v. omega (arith, shared_ne x z a c (λ e. omega arith))) (λ v. omega (arith, shared_ne x z a c (λ e. omega arith))) (below_cons y z b c k))
    (λ u. ⊎_elim (λ v. omega (arith, shared_ne x z a c (λ e. omega arith))) (λ v. omega (arith, shared_eq x z a c (omega arith), shared_eq x y a b u.0, far_left a b c u.1 v.1)) (below_cons y z b c k))
    (below_cons x y a b h)

-- and the last no more with the first
pub far_valid : (a b c : Bytes) → below a b ≡ true → below b c ≡ true → shared c a ≤ shared c b
unfolding shared
far_valid a b [] h k = absurd (true≢false (sym k ∙ below_nil b))
far_valid [] b (z ∷ c) h k = omega arith
far_valid (x ∷ a) [] (z ∷ c) h k = absurd (true≢false (sym h ∙ below_nil (x ∷ a)))
far_valid (x ∷ a) (y ∷ b) (z ∷ c) h k =
    ⊎_elim (λ u. ⊎_elim (λ v. omega (arith, shared_ne z x c a (λ e. omega arith))) (λ v. omega (arith, shared_ne z x c a (λ e. omega arith))) (below_cons y z b c k))
    (λ u. ⊎_elim (λ v. omega (arith, shared_ne z x c a (λ e. omega arith))) (λ v. omega (arith, shared_eq z x c a (omega arith), shared_eq z y c b (omega arith), far_valid a b c u.1 v.1)) (below_cons y z b c k))
    (below_cons x y a b h)

-- ---- the keys behind

after : (k : Bytes) {o : Bytes} (ms : List Bytes) → BelowAll k ms → Ascending ms → In o ms → shared k o ≤ next_shared k ms
unfolding next_shared
after k (m ∷ ms) a s here = omega arith
after k {o} (m ∷ ms) a s (there i) = far_left k m o a.0 (all_in (λ o. below m o ≡ true) s.0 i)
after k {o = o} [] a s x3 = elim x3 [ ]

no_share : (k : Bytes) → 0 ≡ next_shared k []
unfolding next_shared
no_share k = refl

one_share : (k m : Bytes) (ns : List Bytes) → shared k m ≡ next_shared k (m ∷ ns)
unfolding next_shared
one_share k m ns = refl

-- at most the whole key
pub next_shared_le : (k : Bytes) (ms : List Bytes) → next_shared k ms ≤ length k
unfolding next_shared
next_shared_le k [] = omega arith
next_shared_le k (m ∷ ms) = shared_le k m

-- ---- a key and its neighbours

-- a key k with ms behind it in ks, p bytes shared with the one before
pub record Position (ks : List Bytes) (k : Bytes) (ms : List Bytes) (p : ℕ) : Type 0 where
  pub some : 0 < length k
  pub into : (o : Bytes) → In o (k ∷ ms) → In o ks
  pub seen : (o : Bytes) → In o ks → In o (k ∷ ms) ⊎ ((below o k ≡ true) × (shared k o ≤ p))
  pub wit : (p ≡ 0) ⊎ ((o : Bytes) × In o ks × (below o k ≡ true) × (shared k o ≡ p))
  pub short : p < length k
  pub asc : Ascending (k ∷ ms)

module _ (ks : List Bytes) (k : Bytes) (ms : List Bytes) (p : ℕ) (w : Position ks k ms p) where
  all_shared : (o : Bytes) → In o ks → not (equal k o) ≡ true → (shared k o ≤ p) ⊎ (shared k o ≤ next_shared k ms)
  all_shared o i h = ⊎_elim (λ j. other o j h) (λ s. inl s.1) (w.seen o i)
    where
      other : (o : Bytes) → In o (k ∷ ms) → not (equal k o) ≡ true → (shared k o ≤ p) ⊎ (shared k o ≤ next_shared k ms)
      other o here h = absurd (true≢false (sym (equal_self k) ∙ not-true (equal k k) h))
      other o (there i) h = inr (after k ms w.asc.0 w.asc.1 i)

  pub kind : any (begins k) (others ks k) ≡ eqb (next_shared k ms) (length k)
  unfolding others
  kind = go (eqb (next_shared k ms) (length k)) refl ms w.asc (λ o i. w.into o (there i)) refl
    where
      go : (b : Bool) → eqb (next_shared k ms) (length k) ≡ b → (ns : List Bytes) → Ascending (k ∷ ns) → ((o : Bytes) → In o ns → In o ks) → ms ≡ ns → any (begins k) (others ks k) ≡ b
      go true e ns a u q = hit (eqb-true (next_shared k ms) (length k) e) ns a u q
        where
          hit : next_shared k ms ≡ length k → (ns : List Bytes) → Ascending (k ∷ ns) → ((o : Bytes) → In o ns → In o ks) → ms ≡ ns → any (begins k) (others ks k) ≡ true
          hit e [] a u q = absurd (none (rw q at e))
            where
              none : next_shared k [] ≡ length k → ⊥
              none z = let y : 0 ≡ length k = no_share k ∙ z in omega (arith, w.some)
          hit e (m ∷ ns) a u q = in_any (begins k) (in_filter (λ o. not (equal k o)) (u m here) (rw (below_unequal k m a.0.0) refl)) (shared_begins k m (one_share k m ns ∙ (rw q at e)))
      go false e ns a u q = any_false (begins k) (filter (λ o. not (equal k o)) ks) (λ o i. let f = filter_in (λ o. not (equal k o)) ks i in miss o (all_shared o f.1 f.0) (begins k o) refl)
        where
          miss : (o : Bytes) → (shared k o ≤ p) ⊎ (shared k o ≤ next_shared k ms) → (c : Bool) → begins k o ≡ c → c ≡ false
          miss o s false f = refl
          miss o s true f = absurd (⊎_elim (λ x. omega (arith, begins_shared k o f, w.short)) (λ x. eqb-false (next_shared k ms) (length k) e (omega (arith, begins_shared k o f, next_shared_le k ms))) s)

  pub shared_most : maximum (map (shared k) (others ks k)) ≡ max p (next_shared k ms)
  unfolding others
  shared_most =
      let up : maximum (map (shared k) (filter (λ o. not (equal k o)) ks)) < suc (max p (next_shared k ms)) =
      maximum_below (λ o. not (equal k o)) (shared k) (suc (max p (next_shared k ms))) ks (omega arith) (λ o i h. ⊎_elim (λ x. omega arith) (λ x. omega arith) (all_shared o i h)) in
      let lo : p ≤ maximum (map (shared k) (filter (λ o. not (equal k o)) ks)) =
      ⊎_elim (λ z. omega arith) (λ z. omega (arith, z.3, maximum_bound (λ o. not (equal k o)) (shared k) z.1 (rw (equal_comm k z.0, below_unequal z.0 k z.2) refl))) w.wit in
      let hi : next_shared k ms ≤ maximum (map (shared k) (filter (λ o. not (equal k o)) ks)) = far ms w.asc (λ o i. w.into o (there i)) in
      omega arith
    where
      far : (ns : List Bytes) → Ascending (k ∷ ns) → ((o : Bytes) → In o ns → In o ks) → next_shared k ns ≤ maximum (map (shared k) (filter (λ o. not (equal k o)) ks))
      far [] a u = omega (arith, no_share k)
      far (m ∷ ns) a u = omega (arith, one_share k m ns, maximum_bound (λ o. not (equal k o)) (shared k) (u m here) (rw (below_unequal k m a.0.0) refl))
