-- Eight labels at once: a 64-bit word as four lanes of 16 bits, each with a byte in it and room for a carry. The check compares neighbouring labels with these.
use Rattle.std.specs.Prelude.{ℕ, zero, suc, ◌+◌, ◌-◌, ◌*◌, ◌/◌, ◌%◌, ◌^◌, ◌<◌, ◌≡◌, refl, Bool, true, false, ◌&&◌, ◌||◌, get_or, eqb, ltb}
use Rattle.std.proofs.Common.{sym, ap, ap₂, ◌∙◌, arith, lt_of_le_of_lt, ltb-true, ltb-false, eqb-true, eq-eqb, ne_eqb}
use Rattle.std.proofs.Math.Bool.{or-false}
use Rattle.std.proofs.lemmas.Bool.{eqb-false}
use Rattle.std.specs.Int.Bits.{bit_and, bit_or}
use Rattle.std.proofs.lemmas.Nat.{and_block, and_mask, and_le_l}
use Rattle.bits.specs.Bits.{word}
use Rattle.bits.proofs.ValueLaws.{Small, word_bytes}
use Rattle.spec.specs.Bytes.{Bytes}
use Rattle.check_levels.specs.MaskLaws.{digit, digit_is, digit_and, digit_or, digit_shr, mask, mask_of}
use Rattle.check_trie.specs.WordEntries.{ascends, full}

-- four lanes
abbrev pub lanes : ℕ → ℕ → ℕ → ℕ → ℕ
lanes a b c d = ((d * 65536 + c) * 65536 + b) * 65536 + a

-- the low byte of each lane
abbrev pub low_bytes : ℕ
low_bytes = 71777214294589695

-- bit 8 of each lane
abbrev pub carries : ℕ
carries = 72058693566333184

-- 1 in each lane
abbrev pub units : ℕ
units = 281479271743489

-- ---- bytes in lanes

and_lane : (h l g : ℕ) → l < 65536 → bit_and (h * 65536 + l) (g * 65536 + 255) ≡ bit_and h g * 65536 + l % 256
and_lane h l g k = and_block 16 h g l 255 k (omega arith) ∙ ap (λ (n : ℕ). bit_and h g * 65536 + n) (and_mask l 8)

-- the even bytes of a word
even_lanes : (a b c d : ℕ) → a < 65536 → b < 65536 → c < 65536 → d < 65536 → bit_and (lanes a b c d) low_bytes ≡ lanes (a % 256) (b % 256) (c % 256) (d % 256)
even_lanes a b c d ha hb hc hd =
    and_lane ((d * 65536 + c) * 65536 + b) a 1095233372415 ha
    ∙ ap (λ (n : ℕ). n * 65536 + a % 256) (and_lane (d * 65536 + c) b 16711935 hb ∙ ap (λ (n : ℕ). n * 65536 + b % 256) (and_lane d c 255 hc ∙ ap (λ (n : ℕ). n * 65536 + c % 256) (and_mask d 8)))

module _ (s : Bytes) (h : Small s) (at : ℕ) where
  abbrev byte : ℕ → ℕ
  byte i = get_or s (at + i) 0

  as_lanes : word s at ≡ lanes (byte 1 * 256 + byte 0) (byte 3 * 256 + byte 2) (byte 5 * 256 + byte 4) (byte 7 * 256 + byte 6)
  as_lanes = word_bytes at s h ∙ omega arith

  -- bytes 0, 2, 4 and 6 of the word at a position
  word_even : bit_and (word s at) low_bytes ≡ lanes (byte 0) (byte 2) (byte 4) (byte 6)
  word_even =
      let p : (x y : ℕ) → y < 256 → (x * 256 + y) % 256 ≡ y = λ x y k. omega arith in
      ap (λ (n : ℕ). bit_and n low_bytes) as_lanes
      ∙ even_lanes (byte 1 * 256 + byte 0) (byte 3 * 256 + byte 2) (byte 5 * 256 + byte 4) (byte 7 * 256 + byte 6)
      (omega (arith, h (at + 0), h (at + 1))) (omega (arith, h (at + 2), h (at + 3))) (omega (arith, h (at + 4), h (at + 5))) (omega (arith, h (at + 6), h (at + 7)))
      ∙ ap₂ (λ (x y : ℕ). lanes x y ((byte 5 * 256 + byte 4) % 256) ((byte 7 * 256 + byte 6) % 256)) (p (byte 1) (byte 0) (h (at + 0))) (p (byte 3) (byte 2) (h (at + 2)))
      ∙ ap₂ (λ (x y : ℕ). lanes (byte 0) (byte 2) x y) (p (byte 5) (byte 4) (h (at + 4))) (p (byte 7) (byte 6) (h (at + 6)))

  shifted : word s at / 256 ≡ lanes (byte 2 * 256 + byte 1) (byte 4 * 256 + byte 3) (byte 6 * 256 + byte 5) (byte 7)
  shifted = ap (λ (n : ℕ). n / 256) as_lanes ∙ omega (arith, h (at + 0))

  -- bytes 1, 3, 5 and 7
  word_odd : bit_and (word s at / 256) low_bytes ≡ lanes (byte 1) (byte 3) (byte 5) (byte 7)
  word_odd =
      let p : (x y : ℕ) → y < 256 → (x * 256 + y) % 256 ≡ y = λ x y k. omega arith in
      let q : byte 7 % 256 ≡ byte 7 = omega (arith, h (at + 7)) in
      ap (λ (n : ℕ). bit_and n low_bytes) shifted
      ∙ even_lanes (byte 2 * 256 + byte 1) (byte 4 * 256 + byte 3) (byte 6 * 256 + byte 5) (byte 7)
      (omega (arith, h (at + 1), h (at + 2))) (omega (arith, h (at + 3), h (at + 4))) (omega (arith, h (at + 5), h (at + 6))) (omega (arith, h (at + 7)))
      ∙ ap₂ (λ (x y : ℕ). lanes x y ((byte 6 * 256 + byte 5) % 256) (byte 7 % 256)) (p (byte 2) (byte 1) (h (at + 1))) (p (byte 4) (byte 3) (h (at + 3)))
      ∙ ap₂ (λ (x y : ℕ). lanes (byte 1) (byte 3) x y) (p (byte 6) (byte 5) (h (at + 5))) q

-- ---- carries

-- bit 8 of each lane, where no lane runs over
module _ (a b c d : ℕ) (ha : a < 512) (hb : b < 512) (hc : c < 512) (hd : d < 512) where
  abbrev carry : ℕ → Bool
  carry x = eqb (x / 256) 1

  lane_at : (x k : ℕ) → lanes a b c d / 2 ^ k % 2 ≡ x / 256 → digit (lanes a b c d) k ≡ carry x
  lane_at x k e = digit_is (lanes a b c d) k ∙ ap (λ (n : ℕ). eqb n 1) e

  carry_first : digit (lanes a b c d) 8 ≡ carry a
  carry_first = lane_at a 8 (omega arith)

  carry_second : digit (lanes a b c d) 24 ≡ carry b
  carry_second = lane_at b 24 (omega arith)

  carry_third : digit (lanes a b c d) 40 ≡ carry c
  carry_third = lane_at c 40 (omega arith)

  carry_fourth : digit (lanes a b c d) 56 ≡ carry d
  carry_fourth = lane_at d 56 (omega arith)

-- lane by lane: the other byte, and what a byte lacks of FF
compare : (a b c d a' b' c' d' : ℕ) → a < 256 → b < 256 → c < 256 → d < 256
    → lanes a' b' c' d' + (low_bytes - lanes a b c d) ≡ lanes (a' + (255 - a)) (b' + (255 - b)) (c' + (255 - c)) (d' + (255 - d))
compare a b c d a' b' c' d' ha hb hc hd = omega arith

-- a byte is below another where the sum of that one and its complement carries
carry_below : (x y : ℕ) → x < 256 → y < 256 → eqb ((y + (255 - x)) / 256) 1 ≡ ltb x y
carry_below x y h g = go (ltb x y) refl
  where
    go : (b : Bool) → ltb x y ≡ b → eqb ((y + (255 - x)) / 256) 1 ≡ b
    go true e = eq-eqb ((y + (255 - x)) / 256) 1 (omega (arith, ltb-true x y e))
    go false e = ne_eqb ((y + (255 - x)) / 256) 1 (λ z. absurd (omega (arith, ltb-false x y e)))

-- it is FF where one more carries
carry_full : (x : ℕ) → x < 256 → eqb ((x + 1) / 256) 1 ≡ eqb x 255
carry_full x h = go (eqb x 255) refl
  where
    go : (b : Bool) → eqb x 255 ≡ b → eqb ((x + 1) / 256) 1 ≡ b
    go true e = eq-eqb ((x + 1) / 256) 1 (omega (arith, eqb-true x 255 e))
    go false e = let n = eqb-false x 255 e in ne_eqb ((x + 1) / 256) 1 (λ z. n (omega arith))

-- ---- eight carries as one byte

-- the carries of e at the even positions of a byte in four parts, those of o at the odd ones
abbrev pub paired : ℕ → ℕ → ℕ
paired e o = bit_or (bit_and carries e / 256) (bit_and carries o / 128)

-- the four parts together
abbrev pub gathered : ℕ → ℕ
gathered t = bit_and 255 (bit_or (bit_or (bit_or t (t / 16384)) (t / 268435456)) (t / 4398046511104))

pair_digit : (e o i : ℕ) → digit (paired e o) i ≡ (digit carries (8 + i) && digit e (8 + i) || digit carries (7 + i) && digit o (7 + i))
pair_digit e o i =
    digit_or (bit_and carries e / 256) (bit_and carries o / 128) i
    ∙ ap₂ ◌||◌ (digit_shr (bit_and carries e) 8 i ∙ digit_and carries e (8 + i)) (digit_shr (bit_and carries o) 7 i ∙ digit_and carries o (7 + i))

gather_digit : (t i : ℕ) → digit (gathered t) i ≡ digit 255 i && (digit t i || digit t (14 + i) || digit t (28 + i) || digit t (42 + i))
gather_digit t i =
    digit_and 255 (bit_or (bit_or (bit_or t (t / 16384)) (t / 268435456)) (t / 4398046511104)) i
    ∙ ap (λ (b : Bool). digit 255 i && b)
    (digit_or (bit_or (bit_or t (t / 16384)) (t / 268435456)) (t / 4398046511104) i
    ∙ ap₂ ◌||◌ (digit_or (bit_or t (t / 16384)) (t / 268435456) i ∙ ap₂ ◌||◌ (digit_or t (t / 16384) i ∙ ap (λ (b : Bool). digit t i || b) (digit_shr t 14 i)) (digit_shr t 28 i)) (digit_shr t 42 i))

abbrev either_digit : ℕ → ℕ → ℕ → Bool
either_digit e o i = digit carries (8 + i) && digit e (8 + i) || digit carries (7 + i) && digit o (7 + i)

-- the byte's digits are the carries, even and odd in turn
eight_carries : (p : ℕ → Bool) (e o : ℕ) → digit e 8 ≡ p 0 → digit o 8 ≡ p 1 → digit e 24 ≡ p 2 → digit o 24 ≡ p 3 → digit e 40 ≡ p 4 → digit o 40 ≡ p 5 → digit e 56 ≡ p 6 → digit o 56 ≡ p 7
    → gathered (paired e o) ≡ mask p 8
unfolding digit
eight_carries p e o e0 o0 e1 o1 e2 o2 e3 o3 =
    mask_of p 8 (gathered (paired e o)) (lt_of_le_of_lt (and_le_l 255 (bit_or (bit_or (bit_or t (t / 16384)) (t / 268435456)) (t / 4398046511104))) (omega arith)) at
  where
    t : ℕ
    t = paired e o

    all : (i : ℕ) → digit (gathered t) i ≡ digit 255 i && (either_digit e o i || either_digit e o (14 + i) || either_digit e o (28 + i) || either_digit e o (42 + i))
    all i =
        gather_digit t i
        ∙ ap (λ (b : Bool). digit 255 i && b) (ap₂ ◌||◌ (ap₂ ◌||◌ (ap₂ ◌||◌ (pair_digit e o i) (pair_digit e o (14 + i))) (pair_digit e o (28 + i))) (pair_digit e o (42 + i)))

    one : (b : Bool) → (b || false) ≡ b
    one b = or-false b

    two : (b : Bool) → (b || false || false) ≡ b
    two b = one (b || false) ∙ one b

    three : (b : Bool) → (b || false || false || false) ≡ b
    three b = one (b || false || false) ∙ two b

    four : (b : Bool) → (b || false || false || false || false) ≡ b
    four b = one (b || false || false || false) ∙ three b

    at : (i : ℕ) → i < 8 → digit (gathered t) i ≡ p i
    at zero h = all 0 ∙ four (digit e 8) ∙ e0
    at (suc zero) h = all 1 ∙ three (digit o 8) ∙ o0
    at (suc (suc zero)) h = all 2 ∙ three (digit e 24) ∙ e1
    at (suc (suc (suc zero))) h = all 3 ∙ two (digit o 24) ∙ o1
    at (suc (suc (suc (suc zero)))) h = all 4 ∙ two (digit e 40) ∙ e2
    at (suc (suc (suc (suc (suc zero))))) h = all 5 ∙ one (digit o 40) ∙ o2
    at (suc (suc (suc (suc (suc (suc zero)))))) h = all 6 ∙ one (digit e 56) ∙ e3
    at (suc (suc (suc (suc (suc (suc (suc zero))))))) h = all 7 ∙ o3
    at (suc (suc (suc (suc (suc (suc (suc (suc i)))))))) h = absurd (omega arith)

module _ (s : Bytes) (h : Small s) (at : ℕ) where
  abbrev label : ℕ → ℕ
  label i = get_or s (at + i) 0

  behind : (i : ℕ) → get_or s (suc (at + i)) 0 ≡ label (suc i)
  behind i = let e : suc (at + i) ≡ at + suc i = omega arith in ap (λ (k : ℕ). get_or s k 0) e

  behind_odd : (i : ℕ) → get_or s (at + 1 + i) 0 ≡ label (suc i)
  behind_odd i = let e : at + 1 + i ≡ at + suc i = omega arith in ap (λ (k : ℕ). get_or s k 0) e

  below : (i : ℕ) → eqb ((label (suc i) + (255 - label i)) / 256) 1 ≡ ascends s at i
  below i = carry_below (label i) (label (suc i)) (h (at + i)) (h (at + suc i)) ∙ ap (ltb (label i)) (sym (behind i))

  over : (i : ℕ) → label (suc i) + (255 - label i) < 512
  over i = omega (arith, h (at + suc i))

  -- where labels ascend, from the even labels, the odd ones, and the even ones behind those
  pub ascents_eight : (e o f : ℕ) → e ≡ bit_and (word s at) low_bytes → o ≡ bit_and (word s at / 256) low_bytes → f ≡ bit_and (word s (at + 1) / 256) low_bytes
      → gathered (paired (o + (low_bytes - e)) (f + (low_bytes - o))) ≡ mask (ascends s at) 8
  ascents_eight e o f p q r =
      let p' : e ≡ lanes (label 0) (label 2) (label 4) (label 6) = p ∙ word_even s h at in
      let q' : o ≡ lanes (label 1) (label 3) (label 5) (label 7) = q ∙ word_odd s h at in
      let r' : f ≡ lanes (label 2) (label 4) (label 6) (label 8) =
      r ∙ word_odd s h (at + 1) ∙ ap₂ (λ (x y : ℕ). lanes x y (get_or s (at + 1 + 5) 0) (get_or s (at + 1 + 7) 0)) (behind_odd 1) (behind_odd 3) ∙ ap₂ (λ (x y : ℕ). lanes (label 2) (label 4) x y) (behind_odd 5) (behind_odd 7) in
      let u = ap₂ (λ (x y : ℕ). x + (low_bytes - y)) q' p' ∙ compare (label 0) (label 2) (label 4) (label 6) (label 1) (label 3) (label 5) (label 7) (h (at + 0)) (h (at + 2)) (h (at + 4)) (h (at + 6)) in
      let v = ap₂ (λ (x y : ℕ). x + (low_bytes - y)) r' q' ∙ compare (label 1) (label 3) (label 5) (label 7) (label 2) (label 4) (label 6) (label 8) (h (at + 1)) (h (at + 3)) (h (at + 5)) (h (at + 7)) in
      eight_carries (ascends s at) (o + (low_bytes - e)) (f + (low_bytes - o))
      (ap (λ (n : ℕ). digit n 8) u ∙ carry_first _ _ _ _ (over 0) (over 2) (over 4) (over 6) ∙ below 0)
      (ap (λ (n : ℕ). digit n 8) v ∙ carry_first _ _ _ _ (over 1) (over 3) (over 5) (over 7) ∙ below 1)
      (ap (λ (n : ℕ). digit n 24) u ∙ carry_second _ _ _ _ (over 0) (over 2) (over 4) (over 6) ∙ below 2)
      (ap (λ (n : ℕ). digit n 24) v ∙ carry_second _ _ _ _ (over 1) (over 3) (over 5) (over 7) ∙ below 3)
      (ap (λ (n : ℕ). digit n 40) u ∙ carry_third _ _ _ _ (over 0) (over 2) (over 4) (over 6) ∙ below 4)
      (ap (λ (n : ℕ). digit n 40) v ∙ carry_third _ _ _ _ (over 1) (over 3) (over 5) (over 7) ∙ below 5)
      (ap (λ (n : ℕ). digit n 56) u ∙ carry_fourth _ _ _ _ (over 0) (over 2) (over 4) (over 6) ∙ below 6)
      (ap (λ (n : ℕ). digit n 56) v ∙ carry_fourth _ _ _ _ (over 1) (over 3) (over 5) (over 7) ∙ below 7)

  full_at : (i : ℕ) → eqb ((label i + 1) / 256) 1 ≡ full s at i
  full_at i = carry_full (label i) (h (at + i))

  more : (i : ℕ) → label i + 1 < 512
  more i = omega (arith, h (at + i))

  -- where labels are FF
  pub fulls_eight : (e o : ℕ) → e ≡ bit_and (word s at) low_bytes → o ≡ bit_and (word s at / 256) low_bytes → gathered (paired (e + units) (o + units)) ≡ mask (full s at) 8
  fulls_eight e o p q =
      let u : e + units ≡ lanes (label 0 + 1) (label 2 + 1) (label 4 + 1) (label 6 + 1) = ap (λ (x : ℕ). x + units) (p ∙ word_even s h at) ∙ omega arith in
      let v : o + units ≡ lanes (label 1 + 1) (label 3 + 1) (label 5 + 1) (label 7 + 1) = ap (λ (x : ℕ). x + units) (q ∙ word_odd s h at) ∙ omega arith in
      eight_carries (full s at) (e + units) (o + units)
      (ap (λ (n : ℕ). digit n 8) u ∙ carry_first _ _ _ _ (more 0) (more 2) (more 4) (more 6) ∙ full_at 0)
      (ap (λ (n : ℕ). digit n 8) v ∙ carry_first _ _ _ _ (more 1) (more 3) (more 5) (more 7) ∙ full_at 1)
      (ap (λ (n : ℕ). digit n 24) u ∙ carry_second _ _ _ _ (more 0) (more 2) (more 4) (more 6) ∙ full_at 2)
      (ap (λ (n : ℕ). digit n 24) v ∙ carry_second _ _ _ _ (more 1) (more 3) (more 5) (more 7) ∙ full_at 3)
      (ap (λ (n : ℕ). digit n 40) u ∙ carry_third _ _ _ _ (more 0) (more 2) (more 4) (more 6) ∙ full_at 4)
      (ap (λ (n : ℕ). digit n 40) v ∙ carry_third _ _ _ _ (more 1) (more 3) (more 5) (more 7) ∙ full_at 5)
      (ap (λ (n : ℕ). digit n 56) u ∙ carry_fourth _ _ _ _ (more 0) (more 2) (more 4) (more 6) ∙ full_at 6)
      (ap (λ (n : ℕ). digit n 56) v ∙ carry_fourth _ _ _ _ (more 1) (more 3) (more 5) (more 7) ∙ full_at 7)
