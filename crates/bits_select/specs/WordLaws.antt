-- The ones of a 64-bit word: its lowest one, and the ones behind a position of the word.
use Rattle.std.specs.Prelude.{◌≡◌, refl, ℕ, zero, suc, ◌+◌, ◌*◌, ◌-◌, ◌/◌, ◌%◌, ◌^◌, ◌≤◌, ◌<◌, min, Bool, true, false, ltb}
use Rattle.std.proofs.Common.{sym, ap₂, ◌∙◌, mod-eq_of_lt, add-one, arith, ltb-true, ltb-false, pow_mono, shr_lt}
use Rattle.std.proofs.Math.Path.{ap}
use Rattle.std.proofs.Math.Nat.{mod-one, pow-succ'}
use Rattle.std.specs.Int.Count.{ones, ones_step, count_trailing_zeros, under}
use Rattle.std.proofs.Math.Pow.{field, mod-mod-pow}
use Rattle.spec.specs.Bytes.{Bytes}
use Rattle.bits.specs.Bits.{rank, select, word}
use Rattle.bits.proofs.ValueLaws.{Small, word_lt}
use Rattle.bits.proofs.RankLaws.{ones_behind, rank_word}
use Rattle.bits_select.specs.SelectLaws.{select_min}

-- the ones of the lowest digits: the lowest digit, and those of the half
ones_low : (x j : ℕ) → ones (x % 2 ^ suc j) ≡ x % 2 + ones (x / 2 % 2 ^ j)
ones_low x j =
    ap (λ (n : ℕ). ones (x % 2 ^ n)) (sym (add-one j)) ∙ ones_step (x % 2 ^ (j + 1))
    ∙ ap₂ (λ (a b : ℕ). a + ones b) (mod-mod-pow x j 1) (field x j 1)

-- no digits have no ones
pub ones_none : (x : ℕ) → ones (x % 2 ^ 0) ≡ 0
unfolding ones
ones_none x = ap ones (mod-one x)

-- the zeros below the lowest one of a number that is not zero
pub lowest : (k x : ℕ) → 0 < x → x < 2 ^ k
    → (ones (x % 2 ^ count_trailing_zeros k x) ≡ 0) × (0 < ones (x % 2 ^ suc (count_trailing_zeros k x))) × (2 ^ count_trailing_zeros k x ≤ x)
unfolding count_trailing_zeros
lowest zero x p h = absurd (omega arith)
lowest (suc k) x p h = go (x % 2) refl (λ q. lowest k (x / 2) q (omega (arith, pow-succ' 2 k)))
  where
    go : (d : ℕ) → x % 2 ≡ d
        → (0 < x / 2 → (ones (x / 2 % 2 ^ count_trailing_zeros k (x / 2)) ≡ 0) × (0 < ones (x / 2 % 2 ^ suc (count_trailing_zeros k (x / 2)))) × (2 ^ count_trailing_zeros k (x / 2) ≤ x / 2))
        → (ones (x % 2 ^ under d (count_trailing_zeros k (x / 2))) ≡ 0) × (0 < ones (x % 2 ^ suc (under d (count_trailing_zeros k (x / 2))))) × (2 ^ under d (count_trailing_zeros k (x / 2)) ≤ x)
    go zero e rest =
        let t : ℕ = count_trailing_zeros k (x / 2) in
        let ih = rest (omega arith) in
        (omega (arith, ones_low x t, ih.0), omega (arith, ones_low x (suc t), ih.1), omega (arith, pow-succ' 2 t, ih.2))
    go (suc d) e rest = (ones_none x, omega (arith, ones_low x 0), omega arith)

-- the ones of the lowest digits below the lowest zero: where the number y has the other digits of x, each of them is a one
pub lowest_ones : (k x y m : ℕ) → x + y + 1 ≡ 2 ^ k → m < count_trailing_zeros k y → ones (x % 2 ^ (m + 1)) ≡ m + 1
unfolding count_trailing_zeros
lowest_ones zero x y m e h = absurd (omega arith)
lowest_ones (suc k) x y m e h = go (y % 2) refl m h (λ i. lowest_ones k (x / 2) (y / 2) i (omega (arith, e, pow-succ' 2 k)))
  where
    go : (d : ℕ) → y % 2 ≡ d → (m : ℕ) → m < under d (count_trailing_zeros k (y / 2)) → ((i : ℕ) → i < count_trailing_zeros k (y / 2) → ones (x / 2 % 2 ^ (i + 1)) ≡ i + 1)
        → ones (x % 2 ^ (m + 1)) ≡ m + 1
    go zero z zero l rest = omega (arith, ones_low x 0, ones_none (x / 2), e, pow-succ' 2 k)
    go zero z (suc m) l rest =
        let a : suc m + 1 ≡ suc (m + 1) = omega arith in
        ap (λ (n : ℕ). ones (x % 2 ^ n)) a ∙ omega (arith, ones_low x (m + 1), e, pow-succ' 2 k, rest m (omega arith))
    go (suc d) z m l rest = absurd (omega arith)

-- a power of two up to a number of k digits
pub power_lt : (t k x : ℕ) → 2 ^ t ≤ x → x < 2 ^ k → t < k
power_lt t k x l h = go (ltb t k) refl
  where
    go : (b : Bool) → ltb t k ≡ b → t < k
    go true e = ltb-true t k e
    go false e = absurd (omega (arith, pow_mono (ltb-false t k e)))

-- where the first t digits of a number have fewer ones than one digit more, it has a one there
pub one_reached : (x t : ℕ) → ones (x % 2 ^ t) < ones (x % 2 ^ (t + 1)) → 2 ^ t ≤ x
one_reached x t h = go (ltb x (2 ^ t)) refl
  where
    go : (b : Bool) → ltb x (2 ^ t) ≡ b → 2 ^ t ≤ x
    go true e =
        let l = ltb-true x (2 ^ t) e in
        let u : x < 2 ^ (t + 1) = omega (arith, pow_mono {i = t} {j = t + 1} (omega arith)) in
        absurd (omega (arith, ap ones (mod-eq_of_lt l), ap ones (mod-eq_of_lt u)))
    go false e = ltb-false x (2 ^ t) e

-- the lowest one of a word behind its first j bits
pub word_room : (j w t : ℕ) → j ≤ 64 → w < 2 ^ 64 → 2 ^ t ≤ w / 2 ^ j → j + t < 64
word_room j w t l h g = let e : 64 - j + j ≡ 64 = omega arith in omega (arith, power_lt t (64 - j) (w / 2 ^ j) g (shr_lt (64 - j) j (rw e h)))

-- at position p, bit j of word q, where x is the word from there on
module _ (s : Bytes) (h : Small s) (q j p x : ℕ) (at : p ≡ 64 * q + j) (is : x ≡ word s (q * 8) / 2 ^ j) where
  -- r bits on
  rank_on : (r : ℕ) → j + r ≤ 64 → rank s (p + r) ≡ rank s p + ones (x % 2 ^ r)
  rank_on r l =
      let w : ℕ = word s (q * 8) in
      let e : p + r ≡ 64 * q + (j + r) = omega arith in
      omega (arith, ap (rank s) e, ap (rank s) at, ap (λ (n : ℕ). ones (n % 2 ^ r)) is, ones_behind w j r, (rank_word s h q (j + r) (omega arith)).0, (rank_word s h q j (omega arith)).0)

  -- the ones in the rest of the word
  pub rank_rest : j ≤ 64 → rank s (64 * (q + 1)) ≡ rank s p + ones x
  rank_rest l =
      let e : 64 * (q + 1) ≡ p + (64 - j) = omega arith in
      let f : 64 - j + j ≡ 64 = omega arith in
      let b : x < 2 ^ (64 - j) = rw is (shr_lt (64 - j) j (rw f (word_lt s (q * 8)))) in
      omega (arith, ap (rank s) e, rank_on (64 - j) (omega arith), ap ones (mod-eq_of_lt b))

  -- no more ones in the word
  pub rank_clear : j ≤ 64 → x ≡ 0 → rank s (64 * (q + 1)) ≡ rank s p
  unfolding ones
  rank_clear l z = omega (arith, rank_rest l, ap ones z)

  -- the one that is number m of all
  pub select_word : (n m t : ℕ) → j + t < 64 → rank s p + ones (x % 2 ^ t) ≤ m → m < rank s p + ones (x % 2 ^ (t + 1)) → min (p + t) n ≡ select s n m
  select_word n m t l a b =
      let e : p + t + 1 ≡ p + (t + 1) = omega arith in
      select_min s n m (p + t) (omega (arith, rank_on t (omega arith))) (omega (arith, ap (rank s) e, rank_on (t + 1) (omega arith)))
