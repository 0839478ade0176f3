-- Points, ranges and counts over a leaf list, and the key lists that have these leaves.
use Rattle.std.specs.Prelude.{ℕ, suc, ◌+◌, ◌-◌, ◌<◌, ◌≤◌, ◌≡◌, Bool, ◌&&◌, ◌||◌, ◌↔◌, drop, T, leb}
use Rattle.std.proofs.Math.Path.{refl}
use Rattle.std.proofs.Common.{sym, ◌∙◌, ap, ap₂, true≢false, length-drop}
use Rattle.std.proofs.Math.Bool.{cond, true, false, not, or-true, and-true, and-false}
use mathlib.Core.List.{List, [], ◌∷◌, ◌++◌, map, append-nil}
use native.Mathlib.Omega.{arith}
use Rattle.std.proofs.Math.ListN.{length, take, replicate}
use borrow.Author.Tests.{not-true}
use Rattle.spec.specs.Bytes.{Bytes, any, count, filled, blocks, bit, equal, begins, same_bits}
use Rattle.spec.specs.Keys.{below, within}
use Rattle.spec.specs.Leaves.{Leaf, hash_bits, suffix_bits, real, possible, lowest, highest, trimmed, bits_behind}
use Rattle.spec.specs.Rules.{same_hash_bits}
use Rattle.spec.specs.Questions.{counted, meets, greater, may_hold, point, range}
use Rattle.theory.specs.Terms.{IsBytes, In, here, there, Key, Keys, Bound}
use Rattle.theory.proofs.Lists.{all_in, any_in, in_any, any_count, count_any, and_both}
use Rattle.theory.proofs.Order.{below_asym, below_irrefl, below_le_lt, below_lt_le}
use Rattle.theory.proofs.LeafLists.{before_below, PossibleKey, PossibleKeys, done, also, Ordered, BeforeAll, Realizable, WellSized, AllWellSized, RealSized, AllRealSized}
use Rattle.theory.proofs.KeyLeaves.{real_suffix, hash_suffix}
use Rattle.theory.proofs.Intervals.{possible_interval_exactly, lowest_key, lowest_possible}
use Rattle.theory.proofs.Choices.{HasLeaves, Choice, bits_self, split_possible, choice_has_leaves, has_leaves_possible}

-- ---- a test's number

bit_true : (b : Bool) → bit b ≡ 1 → b ≡ true
bit_true true h = refl
bit_true false h = absurd (omega arith)

-- what makes the number 1 is what the number 0 rules out
bit_zero : {A : Type 0} (b : Bool) → ((bit b ≡ 1) ↔ A) → (bit b ≡ 0) ↔ (A → ⊥)
bit_zero true e = (λ h. absurd (omega arith), λ f. absurd (f (e.0 refl)))
bit_zero false e = (λ h a. absurd (omega (arith, e.1 a)), λ f. refl)

-- ---- points

-- a key of a list with these leaves is possible for one of them
held_possible : {n : ℕ} {k : Bytes} {ls : List Leaf} {ks : List Bytes} → AllRealSized n ls → Keys ks → PossibleKeys 0 n ls ks → In k ks → any (λ l. possible l k) ls ≡ true
unfolding any
held_possible {k = k} o a (also {l = l} {ls = ls} p ps) here = rw (split_possible l k o.0.slot a.0.fits p)
held_possible {k = k} o a (also {l = l} p ps) (there i) = rw (held_possible o.1 a.1 ps i) (or-true (possible l k))
held_possible {n = n} {k = k} o a done x10 = elim x10 [ ]

-- a test that the first member, or one behind it, passes
any_first : {A : Type 0} (p : A → Bool) (x : A) (xs : List A) → p x ≡ true → any p (x ∷ xs) ≡ true
unfolding any
any_first p x xs h = rw h

any_rest : {A : Type 0} (p : A → Bool) (x : A) (xs : List A) → any p xs ≡ true → any p (x ∷ xs) ≡ true
unfolding any
any_rest p x xs h = rw h (or-true (p x))

-- the real bits of a slot
real_length : (h n : ℕ) (l : Leaf) → length l.suffix ≡ h + n → length (real h l).suffix ≡ n
unfolding real
real_length h n l e = omega (arith, length-drop h l.suffix)

may_hold_both : (h : ℕ) (l : Leaf) (k : Bytes) → possible (real h l) k ≡ true → l.exact || same_hash_bits h k l ≡ true → may_hold h k l ≡ true
unfolding may_hold
may_hold_both h l k p q = rw (p, q)

-- a possible key of a leaf is one of the leaf with its hash bits struck out
real_possible : {h n : ℕ} (l : Leaf) (k : Bytes) → PossibleKey h n l k → PossibleKey 0 n (real h l) k
unfolding real suffix_bits hash_bits
real_possible {h} {n} l k p = record { rest = p.rest; split = p.split; ends = p.ends; bits = λ e. sym (real_suffix h n (length l.cut) k) ∙ ap (drop h) (p.bits e) }

-- its hash bits are the first bits of an open leaf's suffix
hash_same : {h n : ℕ} (l : Leaf) (k : Bytes) → PossibleKey h n l k → l.exact || same_hash_bits h k l ≡ true
unfolding same_hash_bits
hash_same {h} {n} l k p = go l.exact refl
  where
    go : (b : Bool) → l.exact ≡ b → b || same_bits (hash_bits h k) (take h l.suffix) ≡ true
    go true e = refl
    go false e = rw (sym (hash_suffix h n (length l.cut) k) ∙ ap (take h) (p.bits e)) (bits_self (take h l.suffix))

-- A stored key is never denied: a point's reply to a key of a list with these leaves is 1.
pub point_stored : {h n : ℕ} {k : Bytes} {ls : List Leaf} {ks : List Bytes} → AllWellSized (h + n) ls → Keys ks → PossibleKeys h n ls ks → In k ks → point h ls k ≡ 1
unfolding point
point_stored {h} {n} {k} {ls} {ks} o a p i = ap bit (go o a p i)
  where
    one : (l : Leaf) → WellSized (h + n) l → length k ≤ 64 → PossibleKey h n l k → may_hold h k l ≡ true
    one l w f p = may_hold_both h l k (split_possible (real h l) k (real_length h n l w.slot) f (real_possible l k p)) (hash_same l k p)

    go : {ls : List Leaf} {ks : List Bytes} → AllWellSized (h + n) ls → Keys ks → PossibleKeys h n ls ks → In k ks → any (may_hold h k) ls ≡ true
    go o a (also {l = l} {ls = ls} p ps) here = any_first (may_hold h k) l ls (one l o.0 a.0.fits p)
    go o a (also {l = l} {ls = ls} p ps) (there i) = any_rest (may_hold h k) l ls (go o.1 a.1 ps i)
    go o a done x10 = elim x10 [ ]

-- the key k for each leaf that has it, the lowest for the others
choose_point : Bytes → Leaf → Bytes
choose_point k l = cond (possible l k) k (lowest l)

-- is a choice
point_choice : (n : ℕ) (k : Bytes) → Key k → (ls : List Leaf) → AllRealSized n ls → Choice (choose_point k) ls
unfolding choose_point
point_choice n k q [] o = tt
point_choice n k q (l ∷ ls) o = (go (possible l k) refl, point_choice n k q ls o.1)
  where
    go : (b : Bool) → possible l k ≡ b → Key (cond (possible l k) k (lowest l)) × (possible l (cond (possible l k) k (lowest l)) ≡ true)
    go true e = let z : cond (possible l k) k (lowest l) ≡ k = rw e in rw z (q, e)
    go false e = let z : cond (possible l k) k (lowest l) ≡ lowest l = rw e in rw z (lowest_key l o.0, lowest_possible l o.0)

-- that holds k if some leaf has it
point_in : (k : Bytes) (ls : List Leaf) → any (λ l. possible l k) ls ≡ true → In k (map (choose_point k) ls)
unfolding choose_point any
point_in k [] h = absurd (true≢false (sym h))
point_in k (l ∷ ls) h = go (possible l k) h (λ q. point_in k ls q)
  where
    go : (b : Bool) → b || any (λ l. possible l k) ls ≡ true → (any (λ l. possible l k) ls ≡ true → In k (map (choose_point k) ls)) → In k (cond b k (lowest l) ∷ map (choose_point k) ls)
    go true h f = here
    go false h f = there (f h)

-- some list that has the leaves holds the key
abbrev pub SomeHolds : ℕ → List Leaf → Bytes → Type 0
SomeHolds n ls k = (ks : List Bytes) × HasLeaves n ks ls × In k ks

-- Without hash bits a leaf may hold just its possible keys.
may_hold_real : (l : Leaf) (k : Bytes) → may_hold 0 k l ≡ possible l k
unfolding may_hold real same_hash_bits hash_bits same_bits
may_hold_real l k = rw (or-true l.exact) (and-true (possible l k))

-- so that a point says whether one has the key
pub point_possible : (ls : List Leaf) (k : Bytes) → point 0 ls k ≡ bit (any (λ l. possible l k) ls)
unfolding point any
point_possible ls k = ap bit (go ls)
  where
    go : (ls : List Leaf) → any (may_hold 0 k) ls ≡ any (λ l. possible l k) ls
    go [] = refl
    go (l ∷ ls) = ap₂ ◌||◌ (may_hold_real l k) (go ls)

-- for a key of 1 to 64 bytes
pub point_key : {n : ℕ} (ls : List Leaf) (k : Bytes) → Realizable n ls → AllRealSized n ls → Key k → (point 0 ls k ≡ 1) ↔ SomeHolds n ls k
point_key {n} ls k g o q = rw (point_possible ls k) (
  λ h. (map (choose_point k) ls, choice_has_leaves (choose_point k) ls g o (point_choice n k q ls o), point_in k ls (bit_true _ h)),
  λ b. ap bit (held_possible o b.1.keys (has_leaves_possible b.0 ls b.1) b.2),
)

-- no leaf has the empty key
no_empty : {n : ℕ} (l : Leaf) → RealSized n l → possible l [] ≡ false
unfolding possible equal begins
no_empty l o = go l.cut l.exact o.key.least
  where
    go : (c : Bytes) (e : Bool) → 0 < length c → cond e (equal c []) (leb 0 64 && (begins c [] && same_bits (bits_behind (length l.suffix) (length c) []) l.suffix)) ≡ false
    go [] e h = absurd (omega arith)
    go (x ∷ c) true h = refl
    go (x ∷ c) false h = refl

none_empty : (n : ℕ) (ls : List Leaf) → AllRealSized n ls → any (λ l. possible l []) ls ≡ false
unfolding any
none_empty n [] o = refl
none_empty n (l ∷ ls) o = rw (no_empty l o.0) (none_empty n ls o.1)

-- A point's reply is 1 exactly when some list that has the leaves holds the key.
pub point_held : {n : ℕ} (ls : List Leaf) (k : Bytes) → Realizable n ls → AllRealSized n ls → Bound k → (point 0 ls k ≡ 1) ↔ SomeHolds n ls k
point_held {n} ls [] g o q = rw (point_possible ls []) (
  λ h. absurd (true≢false (sym (bit_true _ h) ∙ none_empty n ls o)),
  λ b. absurd (omega (arith, (all_in Key b.1.keys b.2).least)),
)
point_held ls (x ∷ k) g o q = point_key ls (x ∷ k) g o (record { least = omega arith; fits = q.fits; bytes = q.bytes })

-- A key is denied exactly when none of the lists that have the leaves holds it.
pub point_denied : {n : ℕ} (ls : List Leaf) (k : Bytes) → Realizable n ls → AllRealSized n ls → Bound k
    → (point 0 ls k ≡ 0) ↔ ((ks : List Bytes) → HasLeaves n ks ls → In k ks → ⊥)
point_denied ls k g o q =
    let z = bit_zero (any (λ l. possible l k) ls) (rw (point_possible ls k) at (point_held ls k g o q)) in
    rw (point_possible ls k)
    (λ h ks b i. z.0 h (ks, b, i), λ f. z.1 (λ a. f a.0 a.1 a.2))

-- ---- keys in a range, and leaves that meet it

module _ (lo hi : Bytes) where
  -- a key in the range is of a leaf that meets it
  within_meets : {n : ℕ} (l : Leaf) (k : Bytes) → RealSized n l → Key k → possible l k ≡ true → within lo hi k ≡ true → meets lo hi l ≡ true
  unfolding within meets
  within_meets l k o q p w =
      let b = (possible_interval_exactly l o k q.bytes).0 p in
      let r = and_both (not (below k lo)) (not (below hi k)) w in
      go (below hi (lowest l)) refl (below (highest l) lo) refl b.1 b.2 (not-true _ r.0) (not-true _ r.1)
    where
      go : (x : Bool) → below hi (lowest l) ≡ x → (y : Bool) → below (highest l) lo ≡ y
          → below k (lowest l) ≡ false → below (highest l) k ≡ false → below k lo ≡ false → below hi k ≡ false
          → not (below hi (lowest l)) && not (below (highest l) lo) ≡ true
      go true x y e a b c d = absurd (true≢false (sym (below_lt_le hi (lowest l) k x a) ∙ d))
      go false x true y a b c d = absurd (true≢false (sym (below_lt_le (highest l) lo k y c) ∙ b))
      go false x false y a b c d = rw (x, y)

  -- no list has more keys in the range than are counted
  count_most : {n : ℕ} {ls : List Leaf} {ks : List Bytes} → AllRealSized n ls → Keys ks → PossibleKeys 0 n ls ks → count (within lo hi) ks ≤ counted ls lo hi
  unfolding counted count
  count_most o a done = omega arith
  count_most {n} o a (also {l = l} {k = k} {ls = ls} {ks = ks} p ps) =
      go (within lo hi k) refl (meets lo hi l) refl (count_most o.1 a.1 ps)
    where
      go : (x : Bool) → within lo hi k ≡ x → (y : Bool) → meets lo hi l ≡ y → count (within lo hi) ks ≤ count (meets lo hi) ls
          → cond x (suc (count (within lo hi) ks)) (count (within lo hi) ks) ≤ cond y (suc (count (meets lo hi) ls)) (count (meets lo hi) ls)
      go true e true f ih = omega arith
      go true e false f ih = absurd (true≢false (sym (within_meets l k o.0 a.0 (split_possible l k o.0.slot a.0.fits p) e) ∙ f))
      go false e true f ih = omega arith
      go false e false f ih = ih

  -- ---- a list that has as many

  -- for each leaf that meets the range its first possible key there, the lowest for the others
  choose_range : Leaf → Bytes
  choose_range l = cond (meets lo hi l) (greater lo (lowest l)) (lowest l)

  longer : (a b : Bytes) → below a b ≡ false → 0 < length b → 0 < length a
  unfolding below
  longer [] [] h z = z
  longer [] (y ∷ b) h z = absurd (true≢false h)
  longer (x ∷ a) b h z = omega arith

  module _ (short : length lo ≤ 64) (small : IsBytes lo) (bounds : below hi lo ≡ false) where
    pub chosen_in_range : {n : ℕ} (l : Leaf) → RealSized n l → meets lo hi l ≡ true
        → Key (greater lo (lowest l)) × (possible l (greater lo (lowest l)) ≡ true) × (within lo hi (greater lo (lowest l)) ≡ true)
    unfolding meets greater within
    chosen_in_range l o m =
        let b = and_both (not (below hi (lowest l))) (not (below (highest l) lo)) m in
        go (below lo (lowest l)) refl (not-true _ b.0) (not-true _ b.1)
      where
        go : (x : Bool) → below lo (lowest l) ≡ x → below hi (lowest l) ≡ false → below (highest l) lo ≡ false
            → Key (cond x (lowest l) lo) × (possible l (cond x (lowest l) lo) ≡ true) × (not (below (cond x (lowest l) lo) lo) && not (below hi (cond x (lowest l) lo)) ≡ true)
        go true e a b = (lowest_key l o, lowest_possible l o, rw (below_asym lo (lowest l) e, a))
        go false e a b =
            let q : Key lo = record { least = longer lo (lowest l) e (lowest_key l o).least; fits = short; bytes = small } in
            (q, (possible_interval_exactly l o lo small).1 (short, e, b), rw (below_irrefl lo, bounds))

    range_choice : (n : ℕ) (ls : List Leaf) → AllRealSized n ls → Choice choose_range ls
    unfolding choose_range
    range_choice n [] o = tt
    range_choice n (l ∷ ls) o = (go (meets lo hi l) refl, range_choice n ls o.1)
      where
        go : (b : Bool) → meets lo hi l ≡ b → Key (cond b (greater lo (lowest l)) (lowest l)) × (possible l (cond b (greater lo (lowest l)) (lowest l)) ≡ true)
        go true e = let c = chosen_in_range l o.0 e in (c.0, c.1)
        go false e = (lowest_key l o.0, lowest_possible l o.0)

    range_count : (n : ℕ) (ls : List Leaf) → AllRealSized n ls → counted ls lo hi ≤ count (within lo hi) (map choose_range ls)
    unfolding counted count choose_range
    range_count n [] o = omega arith
    range_count n (l ∷ ls) o = go (meets lo hi l) refl (range_count n ls o.1)
      where
        go : (b : Bool) → meets lo hi l ≡ b → count (meets lo hi) ls ≤ count (within lo hi) (map choose_range ls)
            → cond b (suc (count (meets lo hi) ls)) (count (meets lo hi) ls)
            ≤ cond (within lo hi (cond b (greater lo (lowest l)) (lowest l))) (suc (count (within lo hi) (map choose_range ls))) (count (within lo hi) (map choose_range ls))
        go true e ih = rw (chosen_in_range l o.0 e).2 (omega arith)
        go false e ih = any_way (within lo hi (lowest l))
          where
            any_way : (b : Bool) → count (meets lo hi) ls ≤ cond b (suc (count (within lo hi) (map choose_range ls))) (count (within lo hi) (map choose_range ls))
            any_way true = omega arith
            any_way false = ih

    -- some list that has the leaves has as many keys in the range as are counted
    pub count_reached : {n : ℕ} (ls : List Leaf) → Realizable n ls → AllRealSized n ls → (ks : List Bytes) × HasLeaves n ks ls × (counted ls lo hi ≤ count (within lo hi) ks)
    count_reached {n} ls g o = (map choose_range ls, choice_has_leaves choose_range ls g o (range_choice n ls o), range_count n ls o)

  -- ---- and none has over two fewer

  -- the leaves that meet the range and whose key of the list passes the test p
  missed : (Bytes → Bool) → List Leaf → List Bytes → ℕ
  missed p [] ks = 0
  missed p (l ∷ ls) [] = 0
  missed p (l ∷ ls) (k ∷ ks) = cond (meets lo hi l && p k) (suc (missed p ls ks)) (missed p ls ks)

  too_low : Bytes → Bool
  too_low k = below k lo

  too_high : Bytes → Bool
  too_high k = below hi k

  count_missed : {n : ℕ} {ls : List Leaf} {ks : List Bytes} → PossibleKeys 0 n ls ks → counted ls lo hi ≤ count (within lo hi) ks + missed too_low ls ks + missed too_high ls ks
  unfolding counted count missed too_low too_high within
  count_missed done = omega arith
  count_missed (also {l = l} {k = k} {ls = ls} {ks = ks} p ps) = go (meets lo hi l) (below k lo) (below hi k) (count_missed ps)
    where
      go : (m u v : Bool) → count (meets lo hi) ls ≤ count (within lo hi) ks + missed too_low ls ks + missed too_high ls ks
          → cond m (suc (count (meets lo hi) ls)) (count (meets lo hi) ls)
          ≤ cond (not u && not v) (suc (count (within lo hi) ks)) (count (within lo hi) ks)
          + cond (m && u) (suc (missed too_low ls ks)) (missed too_low ls ks) + cond (m && v) (suc (missed too_high ls ks)) (missed too_high ls ks)
      go true true true ih = omega arith
      go true true false ih = omega arith
      go true false true ih = omega arith
      go true false false ih = omega arith
      go false true true ih = omega arith
      go false true false ih = omega arith
      go false false true ih = omega arith
      go false false false ih = omega arith

  highest_split : (l : Leaf) → (t : Bytes) × (highest l ≡ l.cut ++ t) × (T l.exact → t ≡ [])
  unfolding highest
  highest_split l = go l.exact
    where
      h : Bytes
      h = take (64 - length l.cut) (filled true (blocks 8 (length l.suffix)) l.suffix ++ replicate 64 255)

      go : (b : Bool) → (t : Bytes) × (cond b l.cut (l.cut ++ h) ≡ l.cut ++ t) × (T b → t ≡ [])
      go true = ([], sym (append-nil l.cut), λ _. refl)
      go false = (h, refl, λ z. absurd z)

  lowest_split : (l : Leaf) → (t : Bytes) × (lowest l ≡ l.cut ++ t)
  unfolding lowest
  lowest_split l = go l.exact
    where
      h : Bytes
      h = trimmed (take (64 - length l.cut) (filled false (blocks 8 (length l.suffix)) l.suffix))

      go : (b : Bool) → (t : Bytes) × (cond b l.cut (l.cut ++ h) ≡ l.cut ++ t)
      go true = ([], sym (append-nil l.cut))
      go false = (h, refl)

  none_too_low : {n : ℕ} (l : Leaf) → below (highest l) lo ≡ false → {ms : List Leaf} {kms : List Bytes} → BeforeAll l ms → PossibleKeys 0 n ms kms → missed too_low ms kms ≡ 0
  unfolding missed too_low
  none_too_low l h f done = refl
  none_too_low l h f (also {l = m} {k = k} r rs) =
      let t = highest_split l in
      let b : below (highest l) k ≡ true = rw (t.1, r.split) (before_below t.0 r.rest t.2 f.0) in
      rw (not_low k b) (rw (and-false (meets lo hi m)) (none_too_low l h f.1 rs))
    where
      not_low : (k : Bytes) → below (highest l) k ≡ true → below k lo ≡ false
      not_low k b = below_asym lo k (below_le_lt lo (highest l) k h b)

  none_too_high : {n : ℕ} (l : Leaf) (k : Bytes) → PossibleKey 0 n l k → below hi k ≡ true → {ms : List Leaf} {kms : List Bytes} → BeforeAll l ms → PossibleKeys 0 n ms kms → missed too_high ms kms ≡ 0
  unfolding missed meets
  none_too_high l k p h f done = refl
  none_too_high l k p h f (also {l = m} {k = km} r rs) =
      let t = lowest_split m in
      let b : below k (lowest m) ≡ true = rw (p.split, t.1) (before_below p.rest t.0 p.ends f.0) in
      rw (below_lt_le hi k (lowest m) h (below_asym k (lowest m) b)) (none_too_high l k p h f.1 rs)

  meets_high : (l : Leaf) → meets lo hi l ≡ true → below (highest l) lo ≡ false
  unfolding meets
  meets_high l m = not-true (below (highest l) lo) (and_both (not (below hi (lowest l))) (not (below (highest l) lo)) m).1

  one_too_low : {n : ℕ} {ls : List Leaf} {ks : List Bytes} → Ordered ls → PossibleKeys 0 n ls ks → missed too_low ls ks ≤ 1
  unfolding missed
  one_too_low o done = omega arith
  one_too_low o (also {l = l} {k = k} {ls = ls} {ks = ks} p ps) = go (meets lo hi l) refl (too_low k) (λ h. none_too_low l h o.0 ps) (one_too_low o.1 ps)
    where
      go : (b : Bool) → meets lo hi l ≡ b → (c : Bool) → (below (highest l) lo ≡ false → missed too_low ls ks ≡ 0) → missed too_low ls ks ≤ 1 → cond (b && c) (suc (missed too_low ls ks)) (missed too_low ls ks) ≤ 1
      go true e true f ih = omega (arith, f (meets_high l e))
      go true e false f ih = ih
      go false e c f ih = ih

  one_too_high : {n : ℕ} {ls : List Leaf} {ks : List Bytes} → Ordered ls → PossibleKeys 0 n ls ks → missed too_high ls ks ≤ 1
  unfolding missed too_high
  one_too_high o done = omega arith
  one_too_high o (also {l = l} {k = k} {ls = ls} {ks = ks} p ps) = go (meets lo hi l) (below hi k) refl (λ h. none_too_high l k p h o.0 ps) (one_too_high o.1 ps)
    where
      go : (b c : Bool) → below hi k ≡ c → (below hi k ≡ true → missed too_high ls ks ≡ 0) → missed too_high ls ks ≤ 1 → cond (b && c) (suc (missed too_high ls ks)) (missed too_high ls ks) ≤ 1
      go true true e f ih = omega (arith, f e)
      go true false e f ih = ih
      go false c e f ih = ih

  -- no list has over two keys fewer in the range than are counted
  count_near : {n : ℕ} {ls : List Leaf} {ks : List Bytes} → Ordered ls → PossibleKeys 0 n ls ks → counted ls lo hi ≤ count (within lo hi) ks + 2
  count_near o ps = omega (arith, count_missed ps, one_too_low o ps, one_too_high o ps)

-- ---- ranges

-- some list that has the leaves has a key from lo to hi, both included
abbrev pub SomeHas : ℕ → List Leaf → Bytes → Bytes → Type 0
SomeHas n ls lo hi = (ks : List Bytes) × HasLeaves n ks ls × ((k : Bytes) × In k ks × (within lo hi k ≡ true))

-- A range's reply is 1 exactly when some list that has the leaves has a key in it. The bounds are the right way round.
pub range_held : {n : ℕ} (ls : List Leaf) (lo hi : Bytes) → Realizable n ls → AllRealSized n ls → Bound lo → below hi lo ≡ false → (range ls lo hi ≡ 1) ↔ SomeHas n ls lo hi
unfolding range counted
range_held {n} ls lo hi g o q r = (to, from)
  where
    to : bit (any (meets lo hi) ls) ≡ 1 → SomeHas n ls lo hi
    to h =
        let b = count_reached lo hi q.fits q.bytes r ls g o in
        let c = any_count (meets lo hi) ls (bit_true _ h) in
        (b.0, b.1, any_in (within lo hi) b.0 (count_any (within lo hi) b.0 (omega (arith, b.2))))

    from : SomeHas n ls lo hi → bit (any (meets lo hi) ls) ≡ 1
    from b =
        let c = any_count (within lo hi) b.0 (in_any (within lo hi) b.2.1 b.2.2) in
        let m = count_most lo hi o b.1.keys (has_leaves_possible b.0 ls b.1) in
        ap bit (count_any (meets lo hi) ls (omega arith))

false_if_not : (b : Bool) → (b ≡ true → ⊥) → b ≡ false
false_if_not true f = absurd (f refl)
false_if_not false f = refl

-- A range is denied exactly when none of the lists that have the leaves has a key in it.
pub range_denied : {n : ℕ} (ls : List Leaf) (lo hi : Bytes) → Realizable n ls → AllRealSized n ls → Bound lo → below hi lo ≡ false
    → (range ls lo hi ≡ 0) ↔ ((ks : List Bytes) → HasLeaves n ks ls → (k : Bytes) → In k ks → within lo hi k ≡ false)
unfolding range
range_denied ls lo hi g o q r =
    let z = bit_zero (any (meets lo hi) ls) (range_held ls lo hi g o q r) in (
      λ h ks b k i. false_if_not (within lo hi k) (λ e. z.0 h (ks, b, (k, i, e))),
      λ f. z.1 (λ a. true≢false (sym a.2.2 ∙ f a.0 a.1 a.2.0 a.2.1)),
    )

-- ---- counts

-- A count is the number of keys that some list that has the leaves has in the range, and no such list has more, or over two fewer.
pub record CountCorrect (n : ℕ) (ls : List Leaf) (lo hi : Bytes) (c : ℕ) : Type 0 where
  pub reached : (ks : List Bytes) × HasLeaves n ks ls × (count (within lo hi) ks ≡ c)
  pub most : (ks : List Bytes) → HasLeaves n ks ls → count (within lo hi) ks ≤ c
  pub near : (ks : List Bytes) → HasLeaves n ks ls → c ≤ count (within lo hi) ks + 2

-- The reply to a count question is such a number.
pub count_correct : {n : ℕ} (ls : List Leaf) (lo hi : Bytes) → Realizable n ls → AllRealSized n ls → Bound lo → below hi lo ≡ false → CountCorrect n ls lo hi (counted ls lo hi)
count_correct {n} ls lo hi g o q r = record { reached = some; most = top; near = λ ks b. count_near lo hi g.ordered (has_leaves_possible ks ls b) }
  where
    top : (ks : List Bytes) → HasLeaves n ks ls → count (within lo hi) ks ≤ counted ls lo hi
    top ks b = count_most lo hi o b.keys (has_leaves_possible ks ls b)

    some : (ks : List Bytes) × HasLeaves n ks ls × (count (within lo hi) ks ≡ counted ls lo hi)
    some = let b = count_reached lo hi q.fits q.bytes r ls g o in (b.0, b.1, omega (arith, b.2, top b.0 b.1))
