-- The order of keys by unsigned bytes: two keys are equal exactly where neither is below the other, transitive, a prefix first; and the prefixes that keys share.
-- Used for intervals, for ascending key lists and for the seek.
use Rattle.std.specs.Prelude.{ℕ, ◌<◌, ◌≤◌, suc, ◌≡◌, refl, Bool, true, false, not, ◌&&◌, ◌||◌, cond, [], ◌∷◌, ◌++◌, ◌⊎◌, ltb, eqb, length, drop}
use Rattle.std.proofs.Common.{sym, ap, ap₂, ◌∙◌, true≢false, append_assoc, inl, inr, ⊎_elim, arith, ltb-true, ltb-false, lt-ltb, le-ltb, eq-eqb, ne_eqb, eqb-true}
use Rattle.std.proofs.Math.Bool.{and-false}
use Rattle.std.proofs.lemmas.Bool.{eqb-false}
use Rattle.spec.specs.Bytes.{Bytes, equal, begins, shared}
use Rattle.spec.specs.Keys.{below}
use Rattle.theory.proofs.Lists.{eqb_self, le_or_lt, and_both}

cons_lt : (x y : ℕ) (a b : Bytes) → x < y → below (x ∷ a) (y ∷ b) ≡ true
unfolding below
cons_lt x y a b h = rw (lt-ltb x y h)

cons_eq : (x y : ℕ) (a b : Bytes) → x ≡ y → below (x ∷ a) (y ∷ b) ≡ below a b
unfolding below
cons_eq x y a b h = rw (le-ltb x y (omega arith), eq-eqb x y h)

cons_gt : (x y : ℕ) (a b : Bytes) → y < x → below (x ∷ a) (y ∷ b) ≡ false
unfolding below
cons_gt x y a b h = rw (le-ltb x y (omega arith), ne_eqb x y (λ e. omega arith))

-- two keys by their first bytes
pub below_cons : (x y : ℕ) (a b : Bytes) → below (x ∷ a) (y ∷ b) ≡ true → (x < y) ⊎ ((x ≡ y) × (below a b ≡ true))
unfolding below
below_cons x y a b h = go (ltb x y) refl (eqb x y) refl h
  where
    go : (l : Bool) → ltb x y ≡ l → (e : Bool) → eqb x y ≡ e → l || (e && below a b) ≡ true → (x < y) ⊎ ((x ≡ y) × (below a b ≡ true))
    go true p e q h = inl (ltb-true x y p)
    go false p true q h = inr (eqb-true x y q, h)
    go false p false q h = absurd (true≢false (sym h))

-- and where the first is not below
below_cons_false : (x y : ℕ) (a b : Bytes) → below (x ∷ a) (y ∷ b) ≡ false → (y < x) ⊎ ((x ≡ y) × (below a b ≡ false))
unfolding below
below_cons_false x y a b h = go (ltb x y) refl (eqb x y) refl h
  where
    go : (l : Bool) → ltb x y ≡ l → (e : Bool) → eqb x y ≡ e → l || (e && below a b) ≡ false → (y < x) ⊎ ((x ≡ y) × (below a b ≡ false))
    go true p e q h = absurd (true≢false h)
    go false p true q h = inr (eqb-true x y q, h)
    go false p false q h = let r = ltb-false x y p in let n = eqb-false x y q in inl (strict r n)
      where
        strict : y ≤ x → (x ≡ y → ⊥) → y < x
        strict r n = omega arith

-- Asymmetric: of two keys at most one is below the other.
pub below_asym : (a b : Bytes) → below a b ≡ true → below b a ≡ false
unfolding below
below_asym [] [] h = refl
below_asym [] (y ∷ b) h = refl
below_asym (x ∷ a) [] h = absurd (true≢false (sym h))
below_asym (x ∷ a) (y ∷ b) h = ⊎_elim (λ p. cons_gt y x b a p) (λ p. cons_eq y x b a (sym p.0) ∙ below_asym a b p.1) (below_cons x y a b h)

-- No key is below itself.
pub below_irrefl : (a : Bytes) → below a a ≡ false
unfolding below
below_irrefl [] = refl
below_irrefl (x ∷ a) = cons_eq x x a a refl ∙ below_irrefl a

-- a ≤ b < c
pub below_le_lt : (a b c : Bytes) → below b a ≡ false → below b c ≡ true → below a c ≡ true
unfolding below
below_le_lt [] [] [] p q = q
below_le_lt [] [] (z ∷ c) p q = refl
below_le_lt [] (y ∷ b) [] p q = q
below_le_lt [] (y ∷ b) (z ∷ c) p q = refl
below_le_lt (x ∷ a) [] c p q = absurd (true≢false p)
below_le_lt (x ∷ a) (y ∷ b) [] p q = q
below_le_lt (x ∷ a) (y ∷ b) (z ∷ c) p q = ⊎_elim (λ u. ⊎_elim (λ v. cons_lt x z a c (omega arith)) (λ v. cons_lt x z a c (omega arith)) (below_cons y z b c q))
    (λ u. ⊎_elim (λ v. cons_lt x z a c (omega arith)) (λ v. cons_eq x z a c (omega arith) ∙ below_le_lt a b c u.1 v.1) (below_cons y z b c q)) (below_cons_false y x b a p)

-- a < b ≤ c
pub below_lt_le : (a b c : Bytes) → below a b ≡ true → below c b ≡ false → below a c ≡ true
unfolding below
below_lt_le [] [] c p q = absurd (true≢false (sym p))
below_lt_le [] (y ∷ b) [] p q = absurd (true≢false q)
below_lt_le [] (y ∷ b) (z ∷ c) p q = refl
below_lt_le (x ∷ a) [] c p q = absurd (true≢false (sym p))
below_lt_le (x ∷ a) (y ∷ b) [] p q = absurd (true≢false q)
below_lt_le (x ∷ a) (y ∷ b) (z ∷ c) p q = ⊎_elim (λ u. ⊎_elim (λ v. cons_lt x z a c (omega arith)) (λ v. cons_lt x z a c (omega arith)) (below_cons_false z y c b q))
    (λ u. ⊎_elim (λ v. cons_lt x z a c (omega arith)) (λ v. cons_eq x z a c (omega arith) ∙ below_lt_le a b c u.1 v.1) (below_cons_false z y c b q)) (below_cons x y a b p)

-- neither is below the other
pub equal_order : (a b : Bytes) → equal a b ≡ not (below b a) && not (below a b)
unfolding below equal
equal_order [] [] = refl
equal_order [] (y ∷ b) = refl
equal_order (x ∷ a) [] = refl
equal_order (x ∷ a) (y ∷ b) = go (equal_order a b) (eqb x y) refl
  where
    apart : (x ≡ y → ⊥) → (x < y) ⊎ (y < x)
    apart n = ⊎_elim (λ (l : ltb x y ≡ true). inl (ltb-true x y l)) (λ (l : ltb x y ≡ false). inr (strict (ltb-false x y l) n)) (two (ltb x y))
      where
        strict : y ≤ x → (x ≡ y → ⊥) → y < x
        strict r n = omega arith

        two : (b : Bool) → (b ≡ true) ⊎ (b ≡ false)
        two true = inl refl
        two false = inr refl

    go : equal a b ≡ not (below b a) && not (below a b) → (e : Bool) → eqb x y ≡ e
        → eqb x y && equal a b ≡ not (below (y ∷ b) (x ∷ a)) && not (below (x ∷ a) (y ∷ b))
    go ih true e = ap (λ (z : Bool). z && equal a b) e ∙ ih ∙ sym (ap₂ (λ (p q : Bool). not p && not q) (cons_eq y x b a (sym (eqb-true x y e))) (cons_eq x y a b (eqb-true x y e)))
    go ih false e = ap (λ (z : Bool). z && equal a b) e
        ∙ ⊎_elim (λ h. rw (cons_lt x y a b h) (sym (and-false (not (below (y ∷ b) (x ∷ a)))))) (λ h. rw (cons_lt y x b a h)) (apart (eqb-false x y e))

-- the test of equality is sound
pub equal_true : (a b : Bytes) → equal a b ≡ true → a ≡ b
unfolding equal
equal_true [] [] h = refl
equal_true [] (y ∷ b) h = absurd (true≢false (sym h))
equal_true (x ∷ a) [] h = absurd (true≢false (sym h))
equal_true (x ∷ a) (y ∷ b) h = go (eqb x y) refl h (λ q. equal_true a b q)
  where
    go : (e : Bool) → eqb x y ≡ e → e && equal a b ≡ true → (equal a b ≡ true → a ≡ b) → x ∷ a ≡ y ∷ b
    go true p q f = ap₂ ◌∷◌ (eqb-true x y p) (f q)
    go false p q f = absurd (true≢false (sym q))

-- and complete
pub equal_self : (c : Bytes) → equal c c ≡ true
unfolding equal
equal_self [] = refl
equal_self (x ∷ xs) = rw (eqb_self x, equal_self xs)

-- a key below another is not equal to it
pub below_unequal : (k m : Bytes) → below k m ≡ true → equal k m ≡ false
unfolding below equal
below_unequal [] [] h = absurd (true≢false (sym h))
below_unequal [] (y ∷ m) h = refl
below_unequal (x ∷ k) [] h = refl
below_unequal (x ∷ k) (y ∷ m) h = go (λ q. below_unequal k m q) (eqb x y) refl h
  where
    go : (below k m ≡ true → equal k m ≡ false) → (b : Bool) → eqb x y ≡ b → ltb x y || (b && below k m) ≡ true → b && equal k m ≡ false
    go ih false e q = refl
    go ih true e q = ih (rw (le-ltb x y (omega (arith, eqb-true x y e))) at q)

-- equality is symmetric
pub equal_comm : (k m : Bytes) → equal k m ≡ equal m k
unfolding equal
equal_comm [] [] = refl
equal_comm [] (y ∷ m) = refl
equal_comm (x ∷ k) [] = refl
equal_comm (x ∷ k) (y ∷ m) = go (equal_comm k m) (eqb x y) refl
  where
    go : equal k m ≡ equal m k → (b : Bool) → eqb x y ≡ b → eqb x y && equal k m ≡ eqb y x && equal m k
    go ih true e = let f : y ≡ x = sym (eqb-true x y e) in rw (e, eq-eqb y x f) ih
    go ih false e = rw (e, ne_eqb y x (λ q. eqb-false x y e (sym q)))

-- no key is below the empty one
pub below_nil : (r : Bytes) → below r [] ≡ false
unfolding below
below_nil [] = refl
below_nil (x ∷ xs) = refl

-- Transitive.
pub below_trans : (a b c : Bytes) → below a b ≡ true → below b c ≡ true → below a c ≡ true
below_trans a b c p q = below_le_lt a b c (below_asym a b p) q

-- ---- prefixes

-- a common prefix does not change the order
pub below_append : (c r t : Bytes) → below (c ++ r) (c ++ t) ≡ below r t
unfolding below
below_append [] r t = refl
below_append (x ∷ c) r t = rw (le-ltb x x (omega arith), eqb_self x, below_append c r t)

-- what begins a key, and the rest of it
pub prefix_append : (c k : Bytes) → begins c k ≡ true → k ≡ c ++ drop (length c) k
unfolding begins
prefix_append [] k h = refl
prefix_append (x ∷ c) [] h = absurd (true≢false (sym h))
prefix_append (x ∷ c) (y ∷ k) h =
    let p = and_both (eqb x y) (begins c k) h in
    ap₂ ◌∷◌ (sym (eqb-true x y p.0)) (prefix_append c k p.1)

-- A prefix comes first: a key that begins another is not above it, and is below every longer one that it begins.
pub prefix_first : (a b : Bytes) → begins a b ≡ true → length a < length b → below a b ≡ true
unfolding begins below
prefix_first [] [] h l = absurd (omega arith)
prefix_first [] (y ∷ b) h l = refl
prefix_first (x ∷ a) [] h l = absurd (true≢false (sym h))
prefix_first (x ∷ a) (y ∷ b) h l =
    let p = and_both (eqb x y) (begins a b) h in
    cons_eq x y a b (eqb-true x y p.0) ∙ prefix_first a b p.1 (omega arith)

-- a prefix begins what it is put before
pub begins_append : (c r : Bytes) → begins c (c ++ r) ≡ true
unfolding begins
begins_append [] r = refl
begins_append (x ∷ c) r = rw (eq-eqb x x refl, begins_append c r)

-- what begins the beginning of a key begins the key
pub begins_through : (a b c : Bytes) → begins a b ≡ true → begins b c ≡ true → begins a c ≡ true
begins_through a b c p q =
    let u : Bytes = drop (length a) b in
    let v : Bytes = drop (length b) c in
    let e : c ≡ a ++ (u ++ v) = prefix_append b c q ∙ ap (λ (z : Bytes). z ++ v) (prefix_append a b p) ∙ append_assoc a u v in
    rw e (begins_append a (u ++ v))

-- two keys that begin each other are one
pub begins_antisym : (a b : Bytes) → begins a b ≡ true → begins b a ≡ true → a ≡ b
unfolding begins
begins_antisym [] [] p q = refl
begins_antisym [] (y ∷ b) p q = absurd (true≢false (sym q))
begins_antisym (x ∷ a) [] p q = absurd (true≢false (sym p))
begins_antisym (x ∷ a) (y ∷ b) p q =
    let u = and_both (eqb x y) (begins a b) p in
    let v = and_both (eqb y x) (begins b a) q in
    ap₂ ◌∷◌ (eqb-true x y u.0) (begins_antisym a b u.1 v.1)

-- of two prefixes of a key one begins the other
pub begins_either : (a b k : Bytes) → begins a k ≡ true → begins b k ≡ true → (begins a b ≡ true) ⊎ (begins b a ≡ true)
unfolding begins
begins_either [] b k p q = inl refl
begins_either (x ∷ a) [] k p q = inr refl
begins_either (x ∷ a) (y ∷ b) [] p q = absurd (true≢false (sym p))
begins_either (x ∷ a) (y ∷ b) (z ∷ k) p q =
    let u = and_both (eqb x z) (begins a k) p in
    let v = and_both (eqb y z) (begins b k) q in
    let e : x ≡ y = eqb-true x z u.0 ∙ sym (eqb-true y z v.0) in
    ⊎_elim (λ h. inl (rw (eq-eqb x y e) h)) (λ h. inr (rw (eq-eqb y x (sym e)) h)) (begins_either a b k u.1 v.1)

-- what begins a key and one more byte begins the key, or begins with all of both
pub begins_one_more : (a k : Bytes) (y : ℕ) → begins a (k ++ (y ∷ [])) ≡ true → (begins a k ≡ true) ⊎ (begins (k ++ (y ∷ [])) a ≡ true)
unfolding begins
begins_one_more [] k y h = inl refl
begins_one_more (x ∷ a) [] y h = inr (rw (eq-eqb y x (sym (eqb-true x y (and_both (eqb x y) (begins a []) h).0))))
begins_one_more (x ∷ a) (z ∷ k) y h =
    let u = and_both (eqb x z) (begins a (k ++ (y ∷ []))) h in
    ⊎_elim (λ b. inl (rw u.0 b)) (λ b. inr (rw (eq-eqb z x (sym (eqb-true x z u.0))) b)) (begins_one_more a k y u.1)

-- a key that c does not begin is outside any interval of keys that it begins
pub outside_prefix : (c k t u : Bytes) → begins c k ≡ false → not (below k (c ++ t)) && not (below (c ++ u) k) ≡ false
unfolding below begins
outside_prefix [] k t u h = absurd (true≢false h)
outside_prefix (x ∷ c) [] t u h = refl
outside_prefix (x ∷ c) (y ∷ k) t u h =
    le_or_lt x y
    (λ a. le_or_lt y x
    (λ b. let e : x ≡ y = omega arith in let f : y ≡ x = sym e in
    rw (le-ltb x y b, le-ltb y x a, eq-eqb x y e, eq-eqb y x f) (outside_prefix c k t u (rw (eq-eqb x y e) at h)))
    (λ b. rw (lt-ltb x y b) (and-false (not (ltb y x || (eqb y x && below k (c ++ t)))))))
    (λ a. rw (lt-ltb y x a))

-- what two keys share is symmetric
pub shared_comm : (a b : Bytes) → shared a b ≡ shared b a
unfolding shared
shared_comm [] [] = refl
shared_comm [] (y ∷ ys) = refl
shared_comm (x ∷ xs) [] = refl
shared_comm (x ∷ xs) (y ∷ ys) = go (shared_comm xs ys) (eqb x y) refl
  where
    go : shared xs ys ≡ shared ys xs → (b : Bool) → eqb x y ≡ b → cond (eqb x y) (suc (shared xs ys)) 0 ≡ cond (eqb y x) (suc (shared ys xs)) 0
    go ih true e = let f : y ≡ x = sym (eqb-true x y e) in rw (e, eq-eqb y x f) (ap suc ih)
    go ih false e = rw (e, ne_eqb y x (λ q. eqb-false x y e (sym q)))

-- it is at most either key
pub shared_le : (a b : Bytes) → shared a b ≤ length a
unfolding shared
shared_le [] b = omega arith
shared_le (x ∷ a) [] = omega arith
shared_le (x ∷ a) (y ∷ b) = go (eqb x y) (shared_le a b)
  where
    go : (e : Bool) → shared a b ≤ length a → cond e (suc (shared a b)) 0 ≤ suc (length a)
    go true ih = omega arith
    go false ih = omega arith

-- and less than a key that does not begin the other
pub shared_lt : (a b : Bytes) → begins a b ≡ false → shared a b < length a
unfolding shared begins
shared_lt [] b h = absurd (true≢false h)
shared_lt (x ∷ a) [] h = omega arith
shared_lt (x ∷ a) (y ∷ b) h = go (eqb x y) (λ q. shared_lt a b q) h
  where
    go : (e : Bool) → (begins a b ≡ false → shared a b < length a) → e && begins a b ≡ false → cond e (suc (shared a b)) 0 < suc (length a)
    go true ih q = omega (arith, ih q)
    go false ih q = omega arith

-- by first bytes
pub shared_eq : (x y : ℕ) (a b : Bytes) → x ≡ y → shared (x ∷ a) (y ∷ b) ≡ suc (shared a b)
unfolding shared
shared_eq x y a b e = rw (eq-eqb x y e)

-- none, where the first bytes differ
pub shared_ne : (x y : ℕ) (a b : Bytes) → (x ≡ y → ⊥) → shared (x ∷ a) (y ∷ b) ≡ 0
unfolding shared
shared_ne x y a b e = rw (ne_eqb x y e)

-- a key is not within one below it
pub above_short : (a b : Bytes) → below a b ≡ true → shared b a < length b
unfolding shared
above_short a [] h = absurd (true≢false (sym h ∙ below_nil a))
above_short [] (y ∷ b) h = omega arith
above_short (x ∷ a) (y ∷ b) h =
    ⊎_elim (λ u. omega (arith, shared_ne y x b a (λ e. omega arith))) (λ u. omega (arith, shared_eq y x b a (sym u.0), above_short a b u.1)) (below_cons x y a b h)

-- a key that begins another shares all of itself
pub begins_shared : (a b : Bytes) → begins a b ≡ true → shared a b ≡ length a
unfolding begins shared
begins_shared [] b h = refl
begins_shared (x ∷ a) [] h = absurd (true≢false (sym h))
begins_shared (x ∷ a) (y ∷ b) h = go (eqb x y) h (λ q. begins_shared a b q)
  where
    go : (e : Bool) → e && begins a b ≡ true → (begins a b ≡ true → shared a b ≡ length a) → cond e (suc (shared a b)) 0 ≡ suc (length a)
    go true h ih = ap suc (ih h)
    go false h ih = absurd (true≢false (sym h))

-- and so it does where it shares all of itself
pub shared_begins : (a b : Bytes) → shared a b ≡ length a → begins a b ≡ true
unfolding begins shared
shared_begins [] b h = refl
shared_begins (x ∷ a) [] h = absurd (omega arith)
shared_begins (x ∷ a) (y ∷ b) h = go (eqb x y) h (λ q. shared_begins a b q)
  where
    go : (e : Bool) → cond e (suc (shared a b)) 0 ≡ suc (length a) → (shared a b ≡ length a → begins a b ≡ true) → e && begins a b ≡ true
    go true h ih = ih (omega arith)
    go false h ih = absurd (omega arith)
