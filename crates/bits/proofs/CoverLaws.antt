-- One bitmap within another: bits of a conjunction, and one word more.
use Rattle.std.specs.Prelude.{◌≡◌, refl, ℕ, zero, suc, ◌+◌, ◌*◌, ◌-◌, ◌/◌, ◌%◌, ◌^◌, ◌≤◌, ◌<◌, min, Bool, true, false, [], ◌∷◌, length, get_or, ltb}
use Rattle.std.proofs.Common.{sym, ap, ◌∙◌, arith, true≢false, ltb-true, ltb-false, shr-shr}
use Rattle.std.proofs.Math.Nat.{pow-succ'}
use Rattle.std.specs.Int.Bits.{bit_and, and_step, and_zero_l}
use Rattle.std.proofs.lemmas.Nat.{and_shr, and_mod, and_le_r}
use Rattle.spec.specs.Bytes.{Bytes, Bits, bit, unpack}
use Rattle.spec.specs.Trie.{covered}
use Rattle.bits.specs.Bits.{bit_at, word, Covers}
use Rattle.bits.proofs.ValueLaws.{Small, word_bit, word_lt}
use Rattle.bits.proofs.UnpackLaws.{bit_unpack, length_unpack}

-- a number that is its conjunction with another has no digit above the other's
and_bits : (x y : ℕ) → bit_and x y ≡ x → (j : ℕ) → x / 2 ^ j % 2 ≤ y / 2 ^ j % 2
and_bits x y e j =
    let a : bit_and x y / 2 ^ j % 2 ≡ bit_and (x / 2 ^ j % 2) (y / 2 ^ j % 2) = ap (λ (n : ℕ). n % 2 ^ 1) (and_shr x y j) ∙ and_mod (x / 2 ^ j) (y / 2 ^ j) 1 in
    let b = and_le_r (x / 2 ^ j % 2) (y / 2 ^ j % 2) in
    omega (arith, ap (λ (n : ℕ). n / 2 ^ j % 2) e)

-- digit j of the half
pub half_bit : (x j : ℕ) → x / 2 / 2 ^ j ≡ x / 2 ^ suc j
half_bit x j = let w : 1 + j ≡ suc j = omega arith in shr-shr x 1 j ∙ ap (λ (z : ℕ). x / 2 ^ z) w

-- and back, for a number of k digits
bits_and : (k x y : ℕ) → x < 2 ^ k → ((j : ℕ) → j < k → x / 2 ^ j % 2 ≤ y / 2 ^ j % 2) → bit_and x y ≡ x
bits_and zero x y h b = let z : x ≡ 0 = omega arith in rw z (and_zero_l y)
bits_and (suc k) x y h b =
    let p = pow-succ' 2 k in
    let ih = bits_and k (x / 2) (y / 2) (omega arith) (λ j l. rw (half_bit x j, half_bit y j) (b (suc j) (omega arith))) in
    let c = b 0 (omega arith) in
    and_step x y ∙ ap (λ (n : ℕ). n * 2 + min (x % 2) (y % 2)) ih ∙ last c
  where
    last : x / 2 ^ 0 % 2 ≤ y / 2 ^ 0 % 2 → x / 2 * 2 + min (x % 2) (y % 2) ≡ x
    last c = omega arith

module _ (xs ys : Bytes) (f : Small xs) (g : Small ys) (q : ℕ) where
  -- one word more
  pub covers_more : Covers xs ys (64 * q) → bit_and (word xs (q * 8)) (word ys (q * 8)) ≡ word xs (q * 8) → Covers xs ys (64 * (q + 1))
  covers_more c e i h = go (ltb i (64 * q)) refl
    where
      go : (t : Bool) → ltb i (64 * q) ≡ t → bit_at xs i ≤ bit_at ys i
      go true p = c i (ltb-true i (64 * q) p)
      go false p =
          let l = ltb-false i (64 * q) p in
          let w : 8 * (q * 8) + (i - 64 * q) ≡ i = omega arith in
          let x = word_bit xs f (q * 8) (i - 64 * q) (omega arith) ∙ ap (bit_at xs) w in
          let y = word_bit ys g (q * 8) (i - 64 * q) (omega arith) ∙ ap (bit_at ys) w in
          omega (arith, x, y, and_bits (word xs (q * 8)) (word ys (q * 8)) e (i - 64 * q))

  -- a word with a bit that is not covered
  pub covers_not : (w : ℕ) → q < w → (bit_and (word xs (q * 8)) (word ys (q * 8)) ≡ word xs (q * 8) → ⊥) → Covers xs ys (64 * w) → ⊥
  covers_not w h n c =
      n (bits_and 64 (word xs (q * 8)) (word ys (q * 8)) (word_lt xs (q * 8))
      (λ j l. rw (word_bit xs f (q * 8) j l, word_bit ys g (q * 8) j l) (c (8 * (q * 8) + j) (omega arith))))

-- ---- as document 01 has it, over the bits

bits_covered : (bs cs : Bits) → ((i : ℕ) → i < length bs → bit (get_or bs i false) ≤ bit (get_or cs i false)) → covered bs cs ≡ true
unfolding covered
bits_covered [] cs h = refl
bits_covered (true ∷ bs) [] h = absurd (omega (arith, h 0 (omega arith)))
bits_covered (false ∷ bs) [] h = bits_covered bs [] (λ i l. h (suc i) (omega arith))
bits_covered (true ∷ bs) (true ∷ cs) h = bits_covered bs cs (λ i l. h (suc i) (omega arith))
bits_covered (true ∷ bs) (false ∷ cs) h = absurd (omega (arith, h 0 (omega arith)))
bits_covered (false ∷ bs) (c ∷ cs) h = bits_covered bs cs (λ i l. h (suc i) (omega arith))

covered_bits : (bs cs : Bits) → covered bs cs ≡ true → (i : ℕ) → bit (get_or bs i false) ≤ bit (get_or cs i false)
unfolding covered
covered_bits [] cs e i = omega arith
covered_bits (true ∷ bs) [] e i = absurd (true≢false (sym e))
covered_bits (false ∷ bs) [] e zero = omega arith
covered_bits (false ∷ bs) [] e (suc i) = covered_bits bs [] e i
covered_bits (true ∷ bs) (true ∷ cs) e zero = omega arith
covered_bits (true ∷ bs) (true ∷ cs) e (suc i) = covered_bits bs cs e i
covered_bits (true ∷ bs) (false ∷ cs) e i = absurd (true≢false (sym e))
covered_bits (false ∷ bs) (c ∷ cs) e zero = omega arith
covered_bits (false ∷ bs) (c ∷ cs) e (suc i) = covered_bits bs cs e i

-- every bit is covered
pub covered_true : (xs ys : Bytes) (k : ℕ) → 8 * length xs ≤ k → Covers xs ys k → covered (unpack xs) (unpack ys) ≡ true
covered_true xs ys k l c =
    bits_covered (unpack xs) (unpack ys) (λ i h. omega (arith, bit_unpack xs i, bit_unpack ys i, c i (omega (arith, length_unpack xs))))

-- some bit is not
pub covered_false : (xs ys : Bytes) (k : ℕ) → (Covers xs ys k → ⊥) → covered (unpack xs) (unpack ys) ≡ false
covered_false xs ys k n = go (covered (unpack xs) (unpack ys)) refl
  where
    go : (b : Bool) → covered (unpack xs) (unpack ys) ≡ b → b ≡ false
    go false e = refl
    go true e = absurd (n (λ i h. omega (arith, bit_unpack xs i, bit_unpack ys i, covered_bits (unpack xs) (unpack ys) e i)))
