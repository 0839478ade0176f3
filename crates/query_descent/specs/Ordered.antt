-- Replies over an ordered leaf list from two numbers: the leaves whose highest key lies below a bound, and those whose lowest does not lie above one.
use Rattle.std.specs.Prelude.{ℕ, suc, ◌+◌, ◌-◌, ◌≡◌, refl, Bool, true, false, cond, not, ◌&&◌, ◌||◌, List, [], ◌∷◌, ltb}
use Rattle.std.proofs.Common.{sym, ap, ◌∙◌, true≢false, arith, lt-ltb}
use Rattle.std.proofs.Math.Option.{Option, none, some}
use Rattle.spec.specs.Bytes.{Bytes, bit, any, count}
use Rattle.spec.specs.Keys.{below}
use Rattle.spec.specs.Leaves.{Leaf, real, reals, highest, lowest}
use Rattle.spec.specs.Questions.{meets, range, counted, seek, seek_from, Sought, none as none_found, found, greater}
use Rattle.theory.proofs.Choices.{possible_split}
use Rattle.theory.proofs.Intervals.{lowest_possible, highest_possible}
use Rattle.theory.proofs.LeafLists.{Ordered, BeforeAll, before_below, PossibleKey, RealSized, AllRealSized}
use Rattle.theory.proofs.Order.{below_asym, below_le_lt, below_lt_le}

-- the leaves whose highest key lies below the key
unfoldable pub passed : List Leaf → Bytes → ℕ
unfolding count below highest
passed ls k = count (λ l. below (highest l) k) ls

-- the leaves whose lowest key does not lie above the key
unfoldable pub reached : List Leaf → Bytes → ℕ
unfolding count below lowest
reached ls k = count (λ l. not (below k (lowest l))) ls

-- ---- what one leaf says of those behind it

poss_below : {n : ℕ} (l m : Leaf) (a b : Bytes) → PossibleKey 0 n l a → PossibleKey 0 n m b → BeforeAll l (m ∷ []) → below a b ≡ true
poss_below l m a b p r f = rw (p.split, r.split) (before_below p.rest r.rest p.ends f.0)

none_passed : {n : ℕ} (k : Bytes) (l : Leaf) (ls : List Leaf) → RealSized n l → AllRealSized n ls → BeforeAll l ls → below (highest l) k ≡ false → passed ls k ≡ 0
unfolding passed count
none_passed k l [] o os f h = refl
none_passed k l (m ∷ ls) o os f h =
    let up = poss_below l m (highest l) (highest m) (possible_split l (highest l) o.slot (highest_possible l o)) (possible_split m (highest m) os.0.slot (highest_possible m os.0)) (f.0, tt) in
    rw (le_lt_not (highest l) (highest m) up) (none_passed k l ls o os.1 f.1 h)
  where
    le_lt_not : (a b : Bytes) → below (highest l) (highest m) ≡ true → below (highest m) k ≡ false
    le_lt_not a b up = go (below (highest m) k) refl
      where
        go : (c : Bool) → below (highest m) k ≡ c → c ≡ false
        go true e = absurd (true≢false (sym (below_le_lt (highest l) (highest m) k (below_asym (highest l) (highest m) up) e) ∙ h))
        go false e = refl

-- a key below the lowest key of a leaf reaches none behind it
none_reached : {n : ℕ} (k : Bytes) (l : Leaf) (ls : List Leaf) → RealSized n l → AllRealSized n ls → BeforeAll l ls → below k (lowest l) ≡ true → reached ls k ≡ 0
unfolding reached count
none_reached k l [] o os f h = refl
none_reached k l (m ∷ ls) o os f h =
    let up = poss_below l m (lowest l) (lowest m) (possible_split l (lowest l) o.slot (lowest_possible l o)) (possible_split m (lowest m) os.0.slot (lowest_possible m os.0)) (f.0, tt) in
    rw (below_lt_le k (lowest l) (lowest m) h (below_asym (lowest l) (lowest m) up)) (none_reached k l ls o os.1 f.1 h)

-- ---- count and range

-- Count: the leaves that are reached by the upper bound, less those that the lower one has passed.
pub counted_is : (n : ℕ) (ls : List Leaf) (lo hi : Bytes) → Ordered ls → AllRealSized n ls → counted ls lo hi ≡ reached ls hi - passed ls lo
unfolding counted reached passed count meets
counted_is n [] lo hi a o = refl
counted_is n (l ∷ ls) lo hi a o = go (below hi (lowest l)) refl (below (highest l) lo) refl (counted_is n ls lo hi a.1 o.1)
  where
    go : (r : Bool) → below hi (lowest l) ≡ r → (p : Bool) → below (highest l) lo ≡ p → counted ls lo hi ≡ reached ls hi - passed ls lo
        → cond (not r && not p) (suc (counted ls lo hi)) (counted ls lo hi) ≡ cond (not r) (suc (reached ls hi)) (reached ls hi) - cond p (suc (passed ls lo)) (passed ls lo)
    go true e true g ih = omega (arith, none_reached hi l ls o.0 o.1 a.0 e)
    go true e false g ih = omega (arith, none_reached hi l ls o.0 o.1 a.0 e)
    go false e true g ih = omega arith
    go false e false g ih = omega (arith, none_passed lo l ls o.0 o.1 a.0 g)

-- some member passes a test exactly if their count is not 0
any_bit : {A : Type 0} (p : A → Bool) (xs : List A) → bit (any p xs) ≡ bit (ltb 0 (count p xs))
unfolding any count
any_bit p [] = refl
any_bit p (x ∷ xs) = go (p x) (any_bit p xs)
  where
    go : (b : Bool) → bit (any p xs) ≡ bit (ltb 0 (count p xs)) → bit (b || any p xs) ≡ bit (ltb 0 (cond b (suc (count p xs)) (count p xs)))
    go true h = sym (ap bit (lt-ltb 0 (suc (count p xs)) (omega arith)))
    go false h = h

-- Range: 1 exactly if the count is not 0.
pub range_counted : (ls : List Leaf) (lo hi : Bytes) → range ls lo hi ≡ bit (ltb 0 (counted ls lo hi))
unfolding range counted
range_counted ls lo hi = any_bit (meets lo hi) ls

-- ---- seek

-- the first leaf that the key has not passed, of leaves with h hash bits
unfoldable pub next_leaf : ℕ → List Leaf → Bytes → Option Leaf
unfolding below highest real
next_leaf h [] k = none
next_leaf h (l ∷ ls) k = cond (below (highest (real h l)) k) (next_leaf h ls k) (some l)

-- what a seek finds: the leaf's number, and the greater of the start and its lowest key
unfoldable pub found_leaf : ℕ → Option Leaf → ℕ → Bytes → Sought
unfolding greater lowest real
found_leaf h none i start = none_found
found_leaf h (some l) i start = found i (greater start (lowest (real h l)))

-- Seek: the first leaf that the start has not passed, its number the leaves that it has passed.
seek_from_is : (h n i : ℕ) (ls : List Leaf) (start : Bytes) → Ordered (reals h ls) → AllRealSized n (reals h ls)
    → seek_from i (reals h ls) start ≡ found_leaf h (next_leaf h ls start) (i + passed (reals h ls) start) start
unfolding seek_from found_leaf next_leaf passed count reals
seek_from_is h n i [] start a o = refl
seek_from_is h n i (l ∷ ls) start a o = go (below (highest (real h l)) start) refl (seek_from_is h n (suc i) ls start a.1 o.1)
  where
    go : (p : Bool) → below (highest (real h l)) start ≡ p → seek_from (suc i) (reals h ls) start ≡ found_leaf h (next_leaf h ls start) (suc i + passed (reals h ls) start) start
        → cond p (seek_from (suc i) (reals h ls) start) (found i (greater start (lowest (real h l))))
        ≡ found_leaf h (cond p (next_leaf h ls start) (some l)) (i + cond p (suc (passed (reals h ls) start)) (passed (reals h ls) start)) start
    go true e ih = ih ∙ ap (λ (z : ℕ). found_leaf h (next_leaf h ls start) z start) (omega arith)
    go false e ih = ap (λ (z : ℕ). found z (greater start (lowest (real h l)))) (omega (arith, none_passed start (real h l) (reals h ls) o.0 o.1 a.0 e))

pub seek_is : (h n : ℕ) (ls : List Leaf) (start : Bytes) → Ordered (reals h ls) → AllRealSized n (reals h ls) → seek (reals h ls) start ≡ found_leaf h (next_leaf h ls start) (passed (reals h ls) start) start
unfolding seek
seek_is h n ls start a o = seek_from_is h n 0 ls start a o ∙ ap (λ (z : ℕ). found_leaf h (next_leaf h ls start) z start) (omega arith)
