-- Laws about lists: members, tests, counts and greatest numbers, and the Boolean and number tests that they are made of. Every other file stands on them.
use Rattle.std.specs.Prelude.{◌/◌, ℕ, zero, suc, ◌<◌, ◌≤◌, ◌≡◌, ◌⊎◌, Bool, ◌||◌, ◌&&◌, length, take, drop, get_or, leb, eqb}
use Rattle.std.proofs.Math.Path.{refl}
use Rattle.std.proofs.Common.{sym, ap₂, ◌∙◌, ap, inl, inr, ⊎_elim, true≢false, mod-lt, lt_of_not-le, eq-eqb, ne_eqb, leb-true, leb-false}
use Rattle.std.proofs.Math.Bool.{cond, true, false, or-true}
use mathlib.Core.List.{[], ◌∷◌, ◌++◌, List, map, append_assoc}
use Rattle.std.proofs.Math.Option.{some}
use Rattle.std.proofs.Math.Decide.{dec_le}
use native.Mathlib.Omega.{arith}
use Rattle.std.proofs.Math.ListN.{get_elem?}
use Rattle.spec.specs.Bytes.{le32, Bytes, any, filter, maximum, count, concat, every, iota}
use Rattle.theory.specs.Terms.{IsBytes, In, here, there, All}

-- ---- Boolean and number tests

-- a disjunction that is false
pub or_both_false : (a b : Bool) → a || b ≡ false → (a ≡ false) × (b ≡ false)
or_both_false true b h = absurd (true≢false h)
or_both_false false b h = (refl, h)

-- numbers that are not equal
pub lt_eqb : (x y : ℕ) → x < y → eqb x y ≡ false
lt_eqb x y h = ne_eqb x y (λ q. omega arith)

-- the other way round
pub gt_eqb : (x y : ℕ) → x < y → eqb y x ≡ false
gt_eqb x y h = ne_eqb y x (λ q. omega arith)

-- a number is equal to itself
pub eqb_self : (x : ℕ) → eqb x x ≡ true
eqb_self x = eq-eqb x x refl

-- one number is at most the other, or above it
pub le_or_lt : {X : Type 0} (a b : ℕ) → (a ≤ b → X) → (b < a → X) → X
le_or_lt a b f g = elim (dec_le a b) [ yes h ↦ f h | no h ↦ g (lt_of_not-le h) ]

-- ---- members

-- the empty list has no member
pub none_in : {A B : Type 0} {a : A} → In a [] → B
none_in i = elim i [ ]

-- a member is the first, or one of the rest
pub in_cons : {A : Type 0} {a x : A} {xs : List A} → In a (x ∷ xs) → (x ≡ a) ⊎ In a xs
in_cons here = inl refl
in_cons (there i) = inr i

-- what holds of all holds of a member
pub all_in : {A : Type 0} (P : A → Type 0) {a : A} {xs : List A} → All P xs → In a xs → P a
all_in P h here = h.0
all_in P h (there i) = all_in P h.1 i

-- what holds of all holds of the i-th
pub all_at : {A : Type 0} (P : A → Type 0) (xs : List A) (i : ℕ) (a : A) → All P xs → get_elem? xs i ≡ some a → P a
all_at P [] i a h e = let z : ◌≡◌ {A = ℕ} 0 1 = cc in absurd (omega arith)
all_at P (x ∷ xs) zero a h e = let s : x ≡ a = cc in rw s at h.0
all_at P (x ∷ xs) (suc i) a h e = all_at P xs i a h.1 e

-- ---- tests, counts and greatest numbers

-- what is kept passes the test and was there
pub filter_in : {A : Type 0} (p : A → Bool) {a : A} (xs : List A) → In a (filter p xs) → (p a ≡ true) × In a xs
unfolding filter
filter_in p [] i = none_in i
filter_in p {a} (x ∷ xs) i = go (p x) refl i (λ j. let r = filter_in p xs j in (r.0, there r.1))
  where
    go : (b : Bool) → p x ≡ b → In a (cond b (x ∷ filter p xs) (filter p xs)) → (In a (filter p xs) → (p a ≡ true) × In a (x ∷ xs)) → (p a ≡ true) × In a (x ∷ xs)
    go true e i f = ⊎_elim (λ q. (rw (← q) e, rw q here)) f (in_cons i)
    go false e i f = f i

-- a member that passes the test is kept
pub in_filter : {A : Type 0} (p : A → Bool) {a : A} {xs : List A} → In a xs → p a ≡ true → In a (filter p xs)
unfolding filter
in_filter p here e = rw e here
in_filter p {a} (there {b} {l} i) e = go (p b) (in_filter p i e)
  where
    go : (c : Bool) → In a (filter p l) → In a (cond c (b ∷ filter p l) (filter p l))
    go true j = there j
    go false j = j

-- a test that passes for some member
pub any_in : {A : Type 0} (p : A → Bool) (xs : List A) → any p xs ≡ true → (a : A) × In a xs × (p a ≡ true)
unfolding any
any_in p [] h = absurd (true≢false (sym h))
any_in {A} p (x ∷ xs) h = go (p x) refl h (λ q. any_in p xs q)
  where
    go : (b : Bool) → p x ≡ b → b || any p xs ≡ true → (any p xs ≡ true → (a : A) × In a xs × (p a ≡ true)) → (a : A) × In a (x ∷ xs) × (p a ≡ true)
    go true e h f = (x, here, e)
    go false e h f = let r = f h in (r.0, there r.1, r.2)

-- a member at which a number is the greatest
pub maximum_at : {A : Type 0} (f : A → ℕ) (x : A) (xs : List A) → (a : A) × In a (x ∷ xs) × (f a ≡ maximum (map f (x ∷ xs)))
unfolding maximum
maximum_at f x [] = (x, here, omega arith)
maximum_at {A} f x (y ∷ ys) = go (maximum_at f y ys) (leb (maximum (map f (y ∷ ys))) (f x)) refl
  where
    go : (a : A) × In a (y ∷ ys) × (f a ≡ maximum (map f (y ∷ ys))) → (b : Bool) → leb (maximum (map f (y ∷ ys))) (f x) ≡ b → (a : A) × In a (x ∷ y ∷ ys) × (f a ≡ maximum (map f (x ∷ y ∷ ys)))
    go r true e = (x, here, omega (arith, leb-true (maximum (map f (y ∷ ys))) (f x) e))
    go r false e = (r.0, there r.1, omega (arith, leb-false (maximum (map f (y ∷ ys))) (f x) e, r.2))

-- functions with the same values
pub map_ext : {A : Type 0} {B : Type 0} (f g : A → B) → ((a : A) → f a ≡ g a) → (xs : List A) → map f xs ≡ map g xs
map_ext f g h [] = refl
map_ext f g h (x ∷ xs) = ap₂ ◌∷◌ (h x) (map_ext f g h xs)

-- lists joined in two parts
pub concat_append : {A : Type 0} (xs ys : List (List A)) → concat (xs ++ ys) ≡ concat xs ++ concat ys
unfolding concat
concat_append [] ys = refl
concat_append (x ∷ xs) ys = rw (concat_append xs ys) (sym (append_assoc x (concat xs) (concat ys)))

module _ {A : Type 0} (p : A → Bool) where
  -- a member passes the test, so some member does; so many do, and not none
  pub in_any : {a : A} {xs : List A} → In a xs → p a ≡ true → any p xs ≡ true
  unfolding any
  in_any here e = rw e
  in_any (there {b = b} i) e = rw (in_any i e) (or-true (p b))

  -- some member passes the test, so the count is not 0
  pub any_count : (xs : List A) → any p xs ≡ true → 0 < count p xs
  unfolding any count
  any_count [] h = absurd (true≢false (sym h))
  any_count (x ∷ xs) h = go (p x) h (λ q. any_count xs q)
    where
      go : (b : Bool) → b || any p xs ≡ true → (any p xs ≡ true → 0 < count p xs) → 0 < cond b (suc (count p xs)) (count p xs)
      go true h f = omega arith
      go false h f = f h

  -- and back
  pub count_any : (xs : List A) → 0 < count p xs → any p xs ≡ true
  unfolding any count
  count_any [] h = absurd (omega arith)
  count_any (x ∷ xs) h = go (p x) h (λ q. count_any xs q)
    where
      go : (b : Bool) → 0 < cond b (suc (count p xs)) (count p xs) → (0 < count p xs → any p xs ≡ true) → b || any p xs ≡ true
      go true h f = refl
      go false h f = f h

module _ {A : Type 0} (p : A → Bool) (f : A → ℕ) where
  -- a number of a member that passes the test is at most the greatest
  pub maximum_bound : {o : A} {xs : List A} → In o xs → p o ≡ true → f o ≤ maximum (map f (filter p xs))
  unfolding maximum filter
  maximum_bound {o} (here {l}) h = rw h (omega arith)
  maximum_bound {o} (there {b} {l} i) h = go (p b) (maximum_bound i h)
    where
      go : (c : Bool) → f o ≤ maximum (map f (filter p l)) → f o ≤ maximum (map f (cond c (b ∷ filter p l) (filter p l)))
      go true ih = omega arith
      go false ih = ih

  -- the greatest is below what all are below
  pub maximum_below : (N : ℕ) (xs : List A) → 0 < N → ((o : A) → In o xs → p o ≡ true → f o < N) → maximum (map f (filter p xs)) < N
  unfolding maximum filter
  maximum_below N [] z g = z
  maximum_below N (x ∷ xs) z g = go (p x) refl (maximum_below N xs z (λ o i h. g o (there i) h))
    where
      go : (c : Bool) → p x ≡ c → maximum (map f (filter p xs)) < N → maximum (map f (cond c (x ∷ filter p xs) (filter p xs))) < N
      go true e ih = omega (arith, g x here e)
      go false e ih = ih

-- no member passes the test
pub any_false : {A : Type 0} (q : A → Bool) (xs : List A) → ((o : A) → In o xs → q o ≡ false) → any q xs ≡ false
unfolding any
any_false q [] f = refl
any_false q (x ∷ xs) f = rw (f x here) (any_false q xs (λ o i. f o (there i)))

-- so a member does not
pub any_none : {A : Type 0} (q : A → Bool) {o : A} {xs : List A} → any q xs ≡ false → In o xs → q o ≡ false
any_none q {o} h i = go (q o) refl
  where
    go : (b : Bool) → q o ≡ b → q o ≡ false
    go true e = absurd (true≢false (sym (in_any q i e) ∙ h))
    go false e = e

-- at most all of them pass a test
pub count_bound : {A : Type 0} (p : A → Bool) (xs : List A) → count p xs ≤ length xs
unfolding count
count_bound p [] = omega arith
count_bound p (x ∷ xs) = go (p x) (count_bound p xs)
  where
    go : (b : Bool) → count p xs ≤ length xs → cond b (suc (count p xs)) (count p xs) ≤ suc (length xs)
    go true h = omega arith
    go false h = omega arith

-- ---- byte strings

-- bytes behind bytes
pub bytes_append : (a b : Bytes) → IsBytes a → IsBytes b → IsBytes (a ++ b)
bytes_append [] b p q = q
bytes_append (x ∷ a) b p q = (p.0, bytes_append a b p.1 q)

-- the first bytes
pub bytes_take : (n : ℕ) (a : Bytes) → IsBytes a → IsBytes (take n a)
bytes_take zero a p = tt
bytes_take (suc n) [] p = tt
bytes_take (suc n) (x ∷ a) p = (p.0, bytes_take n a p.1)

-- the bytes behind them
pub bytes_drop : (n : ℕ) (k : Bytes) → IsBytes k → IsBytes (drop n k)
bytes_drop zero k b = b
bytes_drop (suc n) [] b = tt
bytes_drop (suc n) (x ∷ k) b = bytes_drop n k b.1

-- the bytes of a 32-bit number
pub bytes_le32 : (n : ℕ) → IsBytes (le32 n)
unfolding le32
bytes_le32 n = (mod-lt n (omega arith), (mod-lt (n / 256) (omega arith), (mod-lt (n / 65536) (omega arith), (mod-lt (n / 16777216) (omega arith), tt))))

-- ---- tests

-- Two tests that pass together pass each.
pub and_both : (a b : Bool) → a && b ≡ true → (a ≡ true) × (b ≡ true)
and_both true b h = (refl, h)
and_both false b h = absurd (true≢false (sym h))

-- each test passes
abbrev pub Passed : List Bool → Type 0
Passed ts = All (λ t. t ≡ true) ts

-- Tests that all pass, one by one.
pub every_true : (ts : List Bool) → every ts ≡ true → Passed ts
unfolding every
every_true [] h = tt
every_true (t ∷ ts) h = let p = and_both t (every ts) h in (p.0, every_true ts p.1)

-- Tests of which each passes all pass.
pub true_every : (ts : List Bool) → Passed ts → every ts ≡ true
unfolding every
true_every [] p = refl
true_every (t ∷ ts) p = rw p.0 (true_every ts p.1)

-- ---- what holds of every member

module _ {A : Type 0} (P : A → Type 0) where
  -- What holds of the members of two lists holds of those of both together.
  pub all_append : (a b : List A) → All P a → All P b → All P (a ++ b)
  all_append [] b p q = q
  all_append (x ∷ a) b p q = (p.0, all_append a b p.1 q)

  -- What holds of the members of two lists together holds of those of each.
  pub all_split : (a b : List A) → All P (a ++ b) → All P a × All P b
  all_split [] b h = (tt, h)
  all_split (x ∷ a) b h = let q = all_split a b h.1 in ((h.0, q.0), q.1)

  -- What holds of a list's members holds of its first ones.
  pub all_take : (n : ℕ) (xs : List A) → All P xs → All P (take n xs)
  all_take zero xs h = tt
  all_take (suc n) [] h = tt
  all_take (suc n) (x ∷ xs) h = (h.0, all_take n xs h.1)

  -- What holds of a list's members holds of those behind its first ones.
  pub all_drop : (n : ℕ) (xs : List A) → All P xs → All P (drop n xs)
  all_drop zero xs h = h
  all_drop (suc n) [] h = tt
  all_drop (suc n) (x ∷ xs) h = all_drop n xs h.1

  -- What holds of the first members and of the others holds of all.
  pub all_parts : (n : ℕ) (xs : List A) → All P (take n xs) → All P (drop n xs) → All P xs
  all_parts zero xs a b = b
  all_parts (suc n) [] a b = tt
  all_parts (suc n) (x ∷ xs) a b = (a.0, all_parts n xs a.1 b)

-- What holds of the members of each list holds of all members.
pub all_concat : {A : Type 0} (P : A → Type 0) (ls : List (List A)) → All (All P) ls → All P (concat ls)
unfolding concat
all_concat P [] h = tt
all_concat P (l ∷ ls) h = all_append P l (concat ls) h.0 (all_concat P ls h.1)

-- What holds of all members holds of those of each list.
pub concat_all : {A : Type 0} (P : A → Type 0) (ls : List (List A)) → All P (concat ls) → All (All P) ls
unfolding concat
concat_all P [] h = tt
concat_all P (l ∷ ls) h = let q = all_split P l (concat ls) h in (q.0, concat_all P ls q.1)

-- What follows from what holds of each member holds of all.
pub all_weaken : {A : Type 0} (P Q : A → Type 0) → ((x : A) → P x → Q x) → (xs : List A) → All P xs → All Q xs
all_weaken P Q f [] h = tt
all_weaken P Q f (x ∷ xs) h = (f x h.0, all_weaken P Q f xs h.1)

-- What follows of a function's values holds of them all.
pub all_map : {A : Type 0} {B : Type 0} (P : A → Type 0) (Q : B → Type 0) (g : A → B) → ((x : A) → P x → Q (g x)) → (xs : List A) → All P xs → All Q (map g xs)
all_map P Q g f [] h = tt
all_map P Q g f (x ∷ xs) h = (f x h.0, all_map P Q g f xs h.1)

-- ---- members

-- A member of the first of two lists is one of both.
pub in_left : {A : Type 0} {m : A} {g : List A} (h : List A) → In m g → In m (g ++ h)
in_left h here = here
in_left h (there i) = there (in_left h i)

-- A member of the second of two lists is one of both.
pub in_valid : {A : Type 0} {m : A} (g h : List A) → In m h → In m (g ++ h)
in_valid [] h i = i
in_valid (l ∷ g) h i = there (in_valid g h i)

-- A member of two lists together is one of either.
pub in_split : {A : Type 0} {m : A} (a b : List A) → In m (a ++ b) → In m a ⊎ In m b
in_split [] b i = inr i
in_split (l ∷ a) b here = inl here
in_split (l ∷ a) b (there i) = ⊎_elim (λ j. inl (there j)) (λ j. inr j) (in_split a b i)

-- A member's value is one of the values.
pub in_map : {A : Type 0} {B : Type 0} (f : A → B) {m : A} {xs : List A} → In m xs → In (f m) (map f xs)
in_map f here = here
in_map f (there i) = there (in_map f i)

-- One of the values is a member's.
pub map_in : {A : Type 0} {B : Type 0} (f : A → B) {b : B} (xs : List A) → In b (map f xs) → (a : A) × In a xs × (b ≡ f a)
map_in f (x ∷ xs) here = (x, here, refl)
map_in f (x ∷ xs) (there i) = let r = map_in f xs i in (r.0, there r.1, r.2)
map_in {A = A} {B = B} f {b = b} [] x' = elim x' [ ]

-- ---- parts of lists

-- A list of no members is empty.
pub nil_of : {A : Type 0} (xs : List A) → length xs ≡ 0 → xs ≡ []
nil_of [] h = refl
nil_of (x ∷ xs) h = absurd (omega arith)

-- Two lists that are empty together are empty.
pub append_empty : {A : Type 0} (a b : List A) → a ++ b ≡ [] → (a ≡ []) × (b ≡ [])
append_empty [] b h = (refl, h)
append_empty (x ∷ a) b h = let z : ◌≡◌ {A = ℕ} 0 1 = cc in absurd (omega arith)

-- Two ways to part a list at one index are the same.
pub append_parts : {A : Type 0} (a c : List A) {b d : List A} → a ++ b ≡ c ++ d → length a ≡ length c → (a ≡ c) × (b ≡ d)
append_parts [] [] e h = (refl, e)
append_parts [] (y ∷ c) e h = absurd (omega arith)
append_parts (x ∷ a) [] e h = absurd (omega arith)
append_parts {A} (x ∷ a) (y ∷ c) {b} {d} e h =
    let p : x ≡ y = cc in
    let q : a ++ b ≡ c ++ d = cc in
    let r = append_parts a c q (omega arith) in
    (ap₂ ◌∷◌ p r.0, r.1)

-- The members of lists above and below an index are all their members.
pub concat_split : {A : Type 0} (k : ℕ) (ls : List (List A)) → concat (take k ls) ++ concat (drop k ls) ≡ concat ls
unfolding concat
concat_split zero ls = refl
concat_split (suc k) [] = refl
concat_split (suc k) (l ∷ ls) = append_assoc l (concat (take k ls)) (concat (drop k ls)) ∙ ap (λ z. l ++ z) (concat_split k ls)

-- The first k members of a list, one by one.
pub first_members : {A : Type 0} (d : A) (k : ℕ) (xs : List A) → k ≤ length xs → take k xs ≡ map (λ i. get_or xs i d) (iota 0 k)
unfolding iota
first_members d zero xs h = refl
first_members d (suc k) [] h = absurd (omega arith)
first_members d (suc k) (x ∷ xs) h = ap (λ z. x ∷ z) (first_members d k xs (omega arith) ∙ shift 0 k)
  where
    shift : (i k : ℕ) → map (λ i. get_or xs i d) (iota i k) ≡ map (λ i. get_or (x ∷ xs) i d) (iota (suc i) k)
    shift i zero = refl
    shift i (suc k) = ap (λ z. get_or xs i d ∷ z) (shift (suc i) k)

-- k numbers in a row are k.
pub length_iota : (i k : ℕ) → length (iota i k) ≡ k
unfolding iota
length_iota i zero = refl
length_iota i (suc k) = ap suc (length_iota (suc i) k)
