-- The sparse entries by 64-bit words: what is asked of the 64 entries of a word, as one number that must be 0.
use Rattle.std.specs.Prelude.{ℕ, zero, suc, ◌+◌, ◌-◌, ◌*◌, ◌/◌, ◌%◌, ◌^◌, ◌<◌, ◌≤◌, ◌≡◌, refl, Bool, true, false, cond, ◌&&◌, ◌||◌, not, get_or, eqb, ltb}
use Rattle.std.proofs.Common.{sym, ap, ap₂, ◌∙◌, true≢false, arith, lt_of_le_of_lt, ltb-true, ltb-false, ne_eqb}
use Rattle.std.proofs.Math.Bool.{and_assoc, or-false}
use Rattle.std.specs.Int.Bits.{bit_and, bit_or, or_zero_r}
use Rattle.std.proofs.lemmas.Nat.{or_lt, and_le_l, and_le_r}
use Rattle.bits.specs.Bits.{bit_at, word}
use Rattle.bits.proofs.ValueLaws.{Small, word_bit, word_lt}
use Rattle.spec.specs.Bytes.{Bytes}
use Rattle.check_levels.specs.Ranges.{all_from, from_parts, from_ext, from_shift}
use Rattle.check_levels.specs.Positions.{is_set}
use Rattle.check_levels.specs.EntryPositions.{entry_valid, entries_from, entries_last, entries_more}
use Rattle.check_levels.specs.MaskLaws.{digit, digit_is, digit_half, digit_even, digit_and, digit_or, digit_not, digit_shl, digit_below, digit_behind, mask, mask_lt, digit_mask, zero_digits}

-- ---- entries that are not in the root

-- what is asked of entry j, which has another behind it
abbrev pub later_entry_valid : Bytes → Bytes → Bytes → ℕ → Bool
later_entry_valid sl sc sb j = entry_valid sl sc false (is_set sb j) j (is_set sb (suc j))

-- what is asked of k such entries from j on
abbrev pub range_valid : Bytes → Bytes → Bytes → ℕ → ℕ → Bool
range_valid sl sc sb j k = all_from (later_entry_valid sl sc sb) j k

-- what is asked of the last entry, number j
abbrev pub end_valid : Bytes → Bytes → ℕ → Bool
end_valid sc sb j = not (is_set sb j) || is_set sc j

-- the entries from j on are k with another behind them, and the last
range_last : (sl sc sb : Bytes) (k j : ℕ) → entries_from sl sc sb false (is_set sb j) j k ≡ range_valid sl sc sb j k && end_valid sc sb (j + k)
unfolding all_from
range_last sl sc sb zero j = let f : j + zero ≡ j = omega arith in rw f (entries_last sl sc sb false (is_set sb j) j ∙ or-false (end_valid sc sb j))
range_last sl sc sb (suc k) j =
    let f : suc j + k ≡ j + suc k = omega arith in
    entries_more sl sc sb false (is_set sb j) j k
    ∙ ap (λ (t : Bool). later_entry_valid sl sc sb j && t) (range_last sl sc sb k (suc j) ∙ ap (λ (i : ℕ). range_valid sl sc sb (suc j) k && end_valid sc sb i) f)
    ∙ sym (and_assoc (later_entry_valid sl sc sb j) (range_valid sl sc sb (suc j) k) (end_valid sc sb (j + suc k)))

-- what was judged of entry j by its bits
pub entry_judged : (sl sc sb : Bytes) (j : ℕ) {b d : ℕ} {valid : Bool} → b ≡ bit_at sb j → d ≡ bit_at sb (j + 1) → valid ≡ entry_valid sl sc false (eqb b 1) j (eqb d 1) → later_entry_valid sl sc sb j ≡ valid
entry_judged sl sc sb j p q r = let f : j + 1 ≡ suc j = omega arith in sym (r ∙ ap₂ (λ (x y : ℕ). entry_valid sl sc false (eqb x 1) j (eqb y 1)) p (q ∙ ap (bit_at sb) f))

-- ---- a word of them

-- the label of entry at + i is below the next one
abbrev pub ascends : Bytes → ℕ → ℕ → Bool
ascends sl at i = ltb (get_or sl (at + i) 0) (get_or sl (suc (at + i)) 0)

-- the label of entry at + i is FF
abbrev pub full : Bytes → ℕ → ℕ → Bool
full sl at i = eqb (get_or sl (at + i) 0) 255

-- the complement of a 64-bit number
abbrev pub complement : ℕ → ℕ
complement x = 2 ^ 64 - 1 - x

-- sole entries that end: first of a node, with a first one behind them, that do not continue
abbrev pub sole_ends : ℕ → ℕ → ℕ → ℕ
sole_ends x y c = bit_and (bit_and x y) (complement c)

-- entries with another of their node behind them, whose label does not ascend to that one's
abbrev pub descents : ℕ → ℕ → ℕ
descents y a = bit_and (complement y) (complement a)

-- what an extra FF is not: a later entry, one that continues, or one whose label is not FF
abbrev pub not_extra : ℕ → ℕ → ℕ → ℕ
not_extra x c m = bit_or (bit_or (complement x) c) (complement m)

-- the entries that are wrong: x is their S-LOUDS bits, y those of the entries behind them, c whether they continue, a where labels ascend, m where they are FF
abbrev pub wrong : ℕ → ℕ → ℕ → ℕ → ℕ → ℕ
wrong x y c a m = bit_or (sole_ends x y c) (bit_and (descents y a) (not_extra x c m))

-- as tests of one entry: a label that ascends is not FF
wrong_entry : (x y c a m : Bool) → (a ≡ true → m ≡ false)
    → not (x && y && not c || not y && not a && (not x || c || not m)) ≡ cond y (not x || c || false) (cond (x && m) (not c && not false) a)
wrong_entry true true true a m h = refl
wrong_entry true true false a m h = refl
wrong_entry false true true a m h = refl
wrong_entry false true false a m h = refl
wrong_entry true false true true true h = absurd (true≢false (h refl))
wrong_entry true false true false true h = refl
wrong_entry true false true true false h = refl
wrong_entry true false true false false h = refl
wrong_entry true false false true true h = absurd (true≢false (h refl))
wrong_entry true false false false true h = refl
wrong_entry true false false true false h = refl
wrong_entry true false false false false h = refl
wrong_entry false false true true true h = absurd (true≢false (h refl))
wrong_entry false false true false true h = refl
wrong_entry false false true true false h = refl
wrong_entry false false true false false h = refl
wrong_entry false false false true true h = absurd (true≢false (h refl))
wrong_entry false false false false true h = refl
wrong_entry false false false true false h = refl
wrong_entry false false false false false h = refl

-- digit i of the wrong entries' number
digit_wrong : (x y c a m i : ℕ) → i < 64 → x < 2 ^ 64 → y < 2 ^ 64 → c < 2 ^ 64 → a < 2 ^ 64 → m < 2 ^ 64
    → (x' y' c' a' m' : Bool) → digit x i ≡ x' → digit y i ≡ y' → digit c i ≡ c' → digit a i ≡ a' → digit m i ≡ m'
    → digit (wrong x y c a m) i ≡ (x' && y' && not c' || not y' && not a' && (not x' || c' || not m'))
digit_wrong x y c a m i l hx hy hc ha hm x' y' c' a' m' ex ey ec ea em =
    digit_or (sole_ends x y c) (bit_and (descents y a) (not_extra x c m)) i
    ∙ ap₂ ◌||◌ (digit_and (bit_and x y) (complement c) i ∙ ap₂ ◌&&◌ (digit_and x y i ∙ ap₂ ◌&&◌ ex ey) (other c c' hc ec))
    (digit_and (descents y a) (not_extra x c m) i
    ∙ ap₂ ◌&&◌ (digit_and (complement y) (complement a) i ∙ ap₂ ◌&&◌ (other y y' hy ey) (other a a' ha ea))
    (digit_or (bit_or (complement x) c) (complement m) i ∙ ap₂ ◌||◌ (digit_or (complement x) c i ∙ ap₂ ◌||◌ (other x x' hx ex) ec) (other m m' hm em)))
  where
    other : (z : ℕ) (z' : Bool) → z < 2 ^ 64 → digit z i ≡ z' → digit (complement z) i ≡ not z'
    other z z' h e = digit_not 64 z i h l ∙ ap not e

-- the S-LOUDS bits of the entries behind those of a word: the word shifted by one, and the first bit of the next word
abbrev pub next_bits : ℕ → ℕ → ℕ
next_bits x next = bit_or (x / 2) (next % 2 * 2 ^ 63)

-- they are 64 bits
pub next_bits_lt : (x next : ℕ) → x < 2 ^ 64 → next_bits x next < 2 ^ 64
next_bits_lt x next h = or_lt 64 (x / 2) (next % 2 * 2 ^ 63) (omega arith) (omega arith)

module _ (sl sc sb : Bytes) (small-l : Small sl) (small-c : Small sc) (small_b : Small sb) (q : ℕ) where
  abbrev starts : ℕ
  starts = word sb (q * 8)

  abbrev behind : ℕ
  behind = next_bits starts (word sb ((q + 1) * 8))

  abbrev goes_on : ℕ
  goes_on = word sc (q * 8)

  word_digit : (s : Bytes) → Small s → (p i : ℕ) → i < 64 → digit (word s (p * 8)) i ≡ is_set s (64 * p + i)
  word_digit s h p i l =
      let e : 8 * (p * 8) + i ≡ 64 * p + i = omega arith in
      digit_is (word s (p * 8)) i ∙ ap (λ (n : ℕ). eqb n 1) (word_bit s h (p * 8) i l ∙ ap (bit_at s) e)

  behind_digit : (i : ℕ) → i < 64 → digit behind i ≡ is_set sb (suc (64 * q + i))
  behind_digit i l = digit_or (starts / 2) (word sb ((q + 1) * 8) % 2 * 2 ^ 63) i ∙ ap (λ (b : Bool). b || digit (word sb ((q + 1) * 8) % 2 * 2 ^ 63) i) (digit_half starts i) ∙ go (ltb i 63) refl
    where
      go : (b : Bool) → ltb i 63 ≡ b → (digit starts (suc i) || digit (word sb ((q + 1) * 8) % 2 * 2 ^ 63) i) ≡ is_set sb (suc (64 * q + i))
      go true r =
          let h = ltb-true i 63 r in
          let e : 64 * q + suc i ≡ suc (64 * q + i) = omega arith in
          ap₂ ◌||◌ (word_digit sb small_b q (suc i) (omega arith) ∙ ap (is_set sb) e) (digit_below 63 (word sb ((q + 1) * 8) % 2) i h) ∙ or-false (is_set sb (suc (64 * q + i)))
      go false r =
          let h = ltb-false i 63 r in
          let e : i ≡ 63 = omega arith in
          let f : 64 * (q + 1) + 0 ≡ suc (64 * q + i) = omega arith in
          ap₂ ◌||◌ (ap (λ (k : ℕ). digit starts (suc k)) e ∙ digit_behind 64 starts (word_lt sb (q * 8)))
          (ap (digit (word sb ((q + 1) * 8) % 2 * 2 ^ 63)) e ∙ digit_shl (word sb ((q + 1) * 8) % 2) 63 ∙ digit_even (word sb ((q + 1) * 8)) ∙ word_digit sb small_b (q + 1) 0 (omega arith) ∙ ap (is_set sb) f)

  no_full : (i : ℕ) → ascends sl (64 * q) i ≡ true → full sl (64 * q) i ≡ false
  no_full i h = ne_eqb (get_or sl (64 * q + i) 0) 255 (λ e. absurd (omega (arith, ltb-true (get_or sl (64 * q + i) 0) (get_or sl (suc (64 * q + i)) 0) h, small-l (suc (64 * q + i)))))

  -- they are valid where the number of those that are not has no digit
  word_valid : eqb (wrong starts behind goes_on (mask (ascends sl (64 * q)) 64) (mask (full sl (64 * q)) 64)) 0 ≡ range_valid sl sc sb (64 * q) 64
  word_valid =
      zero_digits 64 (wrong starts behind goes_on a m)
      (or_lt 64 (sole_ends starts behind goes_on) (bit_and (descents behind a) (not_extra starts goes_on m)) (lt_of_le_of_lt (and_le_r (bit_and starts behind) (complement goes_on)) (omega arith))
      (lt_of_le_of_lt (and_le_l (descents behind a) (not_extra starts goes_on m)) (lt_of_le_of_lt (and_le_l (complement behind) (complement a)) (omega arith))))
      ∙ from_ext (λ i. not (digit (wrong starts behind goes_on a m) i)) (λ i. later_entry_valid sl sc sb (64 * q + i)) 0 64 (λ i h l. each_one i (omega arith))
      ∙ sym (from_shift (later_entry_valid sl sc sb) (64 * q) 0 64) ∙ ap (λ (k : ℕ). range_valid sl sc sb k 64) start
    where
      start : 64 * q + 0 ≡ 64 * q
      start = omega arith

      a : ℕ
      a = mask (ascends sl (64 * q)) 64

      m : ℕ
      m = mask (full sl (64 * q)) 64

      few : behind < 2 ^ 64
      few = next_bits_lt starts (word sb ((q + 1) * 8)) (word_lt sb (q * 8))

      each_one : (i : ℕ) → i < 64 → not (digit (wrong starts behind goes_on a m) i) ≡ later_entry_valid sl sc sb (64 * q + i)
      each_one i l =
          ap not (digit_wrong starts behind goes_on a m i l (word_lt sb (q * 8)) few (word_lt sc (q * 8)) (mask_lt (ascends sl (64 * q)) 64) (mask_lt (full sl (64 * q)) 64) _ _ _ _ _
          (word_digit sb small_b q i l) (behind_digit i l) (word_digit sc small-c q i l) (digit_mask (ascends sl (64 * q)) 64 i l) (digit_mask (full sl (64 * q)) 64 i l))
          ∙ wrong_entry (is_set sb (64 * q + i)) (is_set sb (suc (64 * q + i))) (is_set sc (64 * q + i)) (ascends sl (64 * q) i) (full sl (64 * q) i) (no_full i)

  -- as the machine judges them: from the two words of S-LOUDS bits and the word of bits that tell which entries continue
  module _ (x n y c : ℕ) (ex : x ≡ starts) (en : n ≡ word sb ((q + 1) * 8)) (ey : y ≡ next_bits x n) (ec : c ≡ goes_on) where
    -- by all masks
    pub word_judged : (a m : ℕ) → a ≡ mask (ascends sl (64 * q)) 64 → m ≡ mask (full sl (64 * q)) 64 → eqb (wrong x y c a m) 0 ≡ range_valid sl sc sb (64 * q) 64
    word_judged a m ea em =
        let e : y ≡ behind = ey ∙ ap₂ next_bits ex en in
        ap (λ (k : ℕ). eqb (wrong k y c a m) 0) ex ∙ ap₂ (λ (j k : ℕ). eqb (wrong starts j k a m) 0) e ec ∙ ap₂ (λ (j k : ℕ). eqb (wrong starts behind goes_on j k) 0) ea em ∙ word_valid

    -- no label descends in a node: all that is left is that no sole entry ends
    pub word_ascends : (a : ℕ) → a ≡ mask (ascends sl (64 * q)) 64 → descents y a ≡ 0 → eqb (sole_ends x y c) 0 ≡ range_valid sl sc sb (64 * q) 64
    word_ascends a ea e =
        let m : ℕ = mask (full sl (64 * q)) 64 in
        ap (λ (k : ℕ). eqb k 0) (sym (ap (λ (k : ℕ). bit_or (sole_ends x y c) (bit_and k (not_extra x c m))) e ∙ or_zero_r (sole_ends x y c))) ∙ word_judged a m ea refl

    -- so too where each entry is the last of its node
    pub word_lasts : complement y ≡ 0 → eqb (sole_ends x y c) 0 ≡ range_valid sl sc sb (64 * q) 64
    word_lasts e = let a : ℕ = mask (ascends sl (64 * q)) 64 in word_ascends a refl (ap (λ (k : ℕ). bit_and k (complement a)) e)

-- what was judged of word q, before the word `to`
module _ (sl sc sb : Bytes) (q to : ℕ) (valid : Bool) (h : q < to) (r : valid ≡ range_valid sl sc sb (64 * q) 64) where
  word_step : range_valid sl sc sb (64 * q) (64 * (to - q)) ≡ valid && range_valid sl sc sb (64 * (q + 1)) (64 * (to - (q + 1)))
  word_step =
      let e : 64 * (to - q) ≡ 64 + 64 * (to - (q + 1)) = omega arith in
      let f : 64 * q + 64 ≡ 64 * (q + 1) = omega arith in
      ap (range_valid sl sc sb (64 * q)) e ∙ from_parts (later_entry_valid sl sc sb) 64 (64 * q) (64 * (to - (q + 1))) ∙ ap₂ ◌&&◌ (sym r) (ap (λ (k : ℕ). range_valid sl sc sb k (64 * (to - (q + 1)))) f)

  -- it is not valid
  pub word_fails : valid ≡ false → range_valid sl sc sb (64 * q) (64 * (to - q)) ≡ false
  word_fails w = word_step ∙ ap (λ (t : Bool). t && range_valid sl sc sb (64 * (q + 1)) (64 * (to - (q + 1)))) w

  -- it is valid, and those behind it are to be judged
  pub word_passes : valid ≡ true → range_valid sl sc sb (64 * q) (64 * (to - q)) ≡ range_valid sl sc sb (64 * (q + 1)) (64 * (to - (q + 1)))
  word_passes w = word_step ∙ ap (λ (t : Bool). t && range_valid sl sc sb (64 * (q + 1)) (64 * (to - (q + 1)))) w

-- ---- all of them

module _ (sl sc sb : Bytes) (last : ℕ) (end : Bool) (h : 0 < last) (e : end ≡ end_valid sc sb last) where
  later : entries_from sl sc sb false (is_set sb 1) 1 (last - 1) ≡ range_valid sl sc sb 1 (last - 1) && end
  later =
      let f : 1 + (last - 1) ≡ last = omega arith in
      range_last sl sc sb (last - 1) 1 ∙ ap (λ (b : Bool). range_valid sl sc sb 1 (last - 1) && b) (ap (end_valid sc sb) f ∙ sym e)

  -- the entries from 1 on, where there is no whole word behind the first
  pub later_few : (range : Bool) → range ≡ range_valid sl sc sb 1 (last - 1) → range && end ≡ entries_from sl sc sb false (is_set sb 1) 1 (last - 1)
  later_few range r = sym (later ∙ ap (λ (b : Bool). b && end) (sym r))

  -- with whole words: the rest of the first word, the words behind it, and the rest
  pub later_words : (words : ℕ) (first middle rest : Bool) → 0 < words → 64 * words ≤ last → first ≡ range_valid sl sc sb 1 (64 - 1) → middle ≡ range_valid sl sc sb (64 * 1) (64 * (words - 1))
      → rest ≡ range_valid sl sc sb (64 * words) (last - 64 * words) → first && middle && rest && end ≡ entries_from sl sc sb false (is_set sb 1) 1 (last - 1)
  later_words words first middle rest g l p q r =
      let m : last - 1 ≡ 63 + (64 * (words - 1) + (last - 64 * words)) = omega arith in
      let n : 64 + 64 * (words - 1) ≡ 64 * words = omega arith in
      sym (later ∙ ap (λ (b : Bool). b && end)
      (ap (range_valid sl sc sb 1) m ∙ from_parts (later_entry_valid sl sc sb) 63 1 (64 * (words - 1) + (last - 64 * words))
      ∙ ap₂ ◌&&◌ (sym p) (from_parts (later_entry_valid sl sc sb) (64 * (words - 1)) 64 (last - 64 * words) ∙ ap₂ ◌&&◌ (sym q) (ap (λ (k : ℕ). range_valid sl sc sb k (last - 64 * words)) n ∙ sym r))
      ∙ sym (and_assoc first middle rest)))

-- the first of several entries, and those from 1 on
pub first_later : (sl sc sb : Bytes) (root valid later : Bool) (n d : ℕ) → 1 < n → d ≡ bit_at sb 1 → valid ≡ entry_valid sl sc root true 0 (eqb d 1)
    → later ≡ entries_from sl sc sb false (is_set sb 1) 1 (n - 1 - 1) → valid && later ≡ entries_from sl sc sb root true 0 (n - 1 - 0)
first_later sl sc sb root valid later n d h q r l =
    let e : n - 1 - 0 ≡ suc (n - 1 - 1) = omega arith in
    sym (ap (entries_from sl sc sb root true 0) e ∙ entries_more sl sc sb root true 0 (n - 1 - 1)
    ∙ ap₂ ◌&&◌ (sym (r ∙ ap (λ (k : ℕ). entry_valid sl sc root true 0 (eqb k 1)) q)) (sym l))
