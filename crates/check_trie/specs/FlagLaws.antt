-- Labels that are not below the next one, flagged one a byte, against the S-LOUDS bits of the entries behind them. Eight labels are compared at once, the label of byte j by bit j of that byte.
use Rattle.std.specs.Prelude.{ℕ, zero, suc, ◌+◌, ◌*◌, ◌/◌, ◌%◌, ◌^◌, ◌<◌, ◌≡◌, refl, Bool, true, false, cond, ◌&&◌, ◌||◌, not, length, get_or, set, replicate, eqb, ltb}
use Rattle.std.proofs.Common.{sym, ap, ap₂, ◌∙◌, true≢false, arith, lt_of_le_of_lt, get_or-set_same, get_or-set_other, pow_pos, eqb-true, ltb-true, ltb-false}
use Rattle.std.proofs.Math.Bool.{or-true}
use Rattle.std.proofs.lemmas.List.{get_or-replicate}
use Rattle.std.proofs.Math.ListN.{get_or-eq_default}
use Rattle.std.specs.Int.Bits.{bit_and, bit_or}
use Rattle.std.proofs.lemmas.Nat.{and_le_l}
use Rattle.std.proofs.lemmas.Bool.{eqb-false}
use Rattle.bits.specs.Bits.{value, word}
use Rattle.bits.proofs.ValueLaws.{Small, value_bit, word_bit}
use Rattle.spec.specs.Bytes.{Bytes}
use Rattle.check_levels.specs.Ranges.{from_pass}
use Rattle.check_levels.specs.MaskLaws.{digit, digit_is, digit_and, digit_or, digit_shr, digit_not, digit_behind, mask, mask_lt, digit_mask, zero_digits}
use Rattle.check_trie.specs.WordEntries.{ascends, complement, descents}

-- 1 in each byte of a word
abbrev pub byte_units : ℕ
byte_units = 72340172838076673

-- bit j of byte j of a word, for each byte
abbrev pub diagonal : ℕ
diagonal = 9241421688590303745

-- each of the first n bytes is 0 where the label of entry at + i is below the next one, and else FF
abbrev pub FlaggedTo : Bytes → ℕ → Bytes → ℕ → Type 0
FlaggedTo sl at m n = (i : ℕ) → i < n → get_or m i 0 ≡ cond (ascends sl at i) 0 255

-- so are 64 bytes
abbrev pub DescentsFlagged : Bytes → ℕ → Bytes → Type 0
DescentsFlagged sl at m = (length m ≡ 64) × FlaggedTo sl at m 64

-- each of the first n entries that is flagged, and whose bit has not been found in x, has its digit in y
abbrev pub Found : Bytes → ℕ → ℕ → ℕ → Type 0
Found m y x n = (i : ℕ) → i < n → digit x (9 * (i % 8)) ≡ false → get_or m i 0 ≡ 255 → digit y i ≡ true

-- one byte more
pub flagged_more : (sl m : Bytes) (at n x : ℕ) → n < length m → FlaggedTo sl at m n → x ≡ cond (ltb (get_or sl (at + n) 0) (get_or sl (at + n + 1) 0)) 0 255 → FlaggedTo sl at (set m n x) (n + 1)
flagged_more sl m at n x h f e i l = go (eqb i n) refl
  where
    go : (b : Bool) → eqb i n ≡ b → get_or (set m n x) i 0 ≡ cond (ascends sl at i) 0 255
    go true q =
        let r : i ≡ n = eqb-true i n q in
        let s : at + n + 1 ≡ suc (at + n) = omega arith in
        rw r (get_or-set_same m n x 0 h ∙ e ∙ ap (λ (k : ℕ). cond (ltb (get_or sl (at + n) 0) (get_or sl k 0)) 0 255) s)
    go false q =
        let r = eqb-false i n q in
        get_or-set_other m n i x 0 r ∙ f i (omega arith)

-- ---- one bit of each byte

-- what holds of each number below 8
below_eight : (P : ℕ → Type 0) → P 0 → P 1 → P 2 → P 3 → P 4 → P 5 → P 6 → P 7 → (j : ℕ) → j < 8 → P j
below_eight P a b c d e f g h zero l = a
below_eight P a b c d e f g h (suc zero) l = b
below_eight P a b c d e f g h (suc (suc zero)) l = c
below_eight P a b c d e f g h (suc (suc (suc zero))) l = d
below_eight P a b c d e f g h (suc (suc (suc (suc zero)))) l = e
below_eight P a b c d e f g h (suc (suc (suc (suc (suc zero))))) l = f
below_eight P a b c d e f g h (suc (suc (suc (suc (suc (suc zero)))))) l = g
below_eight P a b c d e f g h (suc (suc (suc (suc (suc (suc (suc zero))))))) l = h
below_eight P a b c d e f g h (suc (suc (suc (suc (suc (suc (suc (suc j)))))))) l = absurd (omega arith)

-- bit j of byte j of the word whose eight bytes are b
in_all : (b j : ℕ) → b < 256 → j < 8 → b * byte_units / 2 ^ (9 * j) % 2 ≡ b / 2 ^ j % 2
unfolding value
in_all b j h l =
    let p : 9 * j / 8 ≡ j = omega arith in
    let q : 9 * j % 8 ≡ j = omega arith in
    let v : b * byte_units ≡ value s = omega arith in
    ap (λ (n : ℕ). n / 2 ^ (9 * j) % 2) v ∙ value_bit s small (9 * j) ∙ ap₂ (λ (m n : ℕ). get_or s m 0 / 2 ^ n % 2) p q ∙ ap (λ (n : ℕ). n / 2 ^ j % 2) (get_or-replicate 8 j b 0 l)
  where
    s : Bytes
    s = replicate 8 b

    small : Small s
    small i = go (ltb i 8) refl
      where
        go : (t : Bool) → ltb i 8 ≡ t → get_or s i 0 < 256
        go true e = omega (arith, get_or-replicate 8 i b 0 (ltb-true i 8 e))
        go false e = omega (arith, get_or-eq_default s 0 (ltb-false i 8 e))

-- bit j of a number, and of its low byte
low_byte : (x j : ℕ) → j < 8 → x % 256 / 2 ^ j % 2 ≡ x / 2 ^ j % 2
low_byte x = below_eight (λ j. x % 256 / 2 ^ j % 2 ≡ x / 2 ^ j % 2) (omega arith) (omega arith) (omega arith) (omega arith) (omega arith) (omega arith) (omega arith) (omega arith)

-- all bits of FF are set
all_set : (j : ℕ) → j < 8 → 255 / 2 ^ j % 2 ≡ 1
all_set = below_eight (λ j. 255 / 2 ^ j % 2 ≡ 1) refl refl refl refl refl refl refl refl

-- the diagonal has bit j of byte j
on_diagonal : (j : ℕ) → j < 8 → digit diagonal (9 * j) ≡ true
unfolding digit
on_diagonal = below_eight (λ j. digit diagonal (9 * j) ≡ true) refl refl refl refl refl refl refl refl

-- ---- eight flags

-- what is found in the word of flags number k: flags whose digit in y is not set
abbrev pub unmatched : Bytes → ℕ → ℕ → ℕ
unmatched m rest k = bit_and (word m (8 * k)) (complement (rest % 256 * byte_units))

-- the bit of a flag, j the position of its byte in word k
flag_bit : (m : Bytes) → Small m → (k i : ℕ) → i / 8 ≡ k → get_or m i 0 ≡ 255 → digit (word m (8 * k)) (9 * (i % 8)) ≡ true
flag_bit m h k i e f =
    let a : (8 * (8 * k) + 9 * (i % 8)) / 8 ≡ i = omega arith in
    let b : (8 * (8 * k) + 9 * (i % 8)) % 8 ≡ i % 8 = omega arith in
    digit_is (word m (8 * k)) (9 * (i % 8))
    ∙ ap (λ (n : ℕ). eqb n 1)
    (word_bit m h (8 * k) (9 * (i % 8)) (omega arith) ∙ ap₂ (λ (p q : ℕ). get_or m p 0 / 2 ^ q % 2) a b ∙ ap (λ (n : ℕ). n / 2 ^ (i % 8) % 2) f ∙ all_set (i % 8) (omega arith))

-- the bit that it is compared with
start_bit : (y rest k i : ℕ) → rest ≡ y / 2 ^ (8 * k) → i / 8 ≡ k → digit (rest % 256 * byte_units) (9 * (i % 8)) ≡ digit y i
start_bit y rest k i r e =
    let j : ℕ = i % 8 in
    let a : 8 * k + j ≡ i = omega arith in
    digit_is (rest % 256 * byte_units) (9 * j) ∙ ap (λ (n : ℕ). eqb n 1) (in_all (rest % 256) j (omega arith) (omega arith) ∙ low_byte rest j (omega arith)) ∙ sym (digit_is rest j) ∙ ap (λ (n : ℕ). digit n j) r ∙ digit_shr y (8 * k) j ∙ ap (digit y) a

-- the word of flags number k is looked through
pub found_more : (m : Bytes) → Small m → (y rest x k : ℕ) → rest ≡ y / 2 ^ (8 * k) → Found m y x (8 * k) → Found m y (bit_or x (unmatched m rest k)) (8 * (k + 1))
found_more m h y rest x k r before i l z f = go (ltb i (8 * k)) refl
  where
    both : (digit x (9 * (i % 8)) || digit (unmatched m rest k) (9 * (i % 8))) ≡ false
    both = sym (digit_or x (unmatched m rest k) (9 * (i % 8))) ∙ z

    first : (a b : Bool) → (a || b) ≡ false → a ≡ false
    first false b e = refl
    first true b e = e

    second : (a b : Bool) → (a || b) ≡ false → b ≡ false
    second false b e = e
    second true false e = refl
    second true true e = e

    matched : (a b c : Bool) → a ≡ true → b ≡ not c → a && b ≡ false → c ≡ true
    matched true b true p q e = refl
    matched true b false p q e = sym e ∙ q
    matched false b c p q e = absurd (true≢false (sym p))

    go : (t : Bool) → ltb i (8 * k) ≡ t → digit y i ≡ true
    go true e = before i (ltb-true i (8 * k) e) (first (digit x (9 * (i % 8))) (digit (unmatched m rest k) (9 * (i % 8))) both) f
    go false e =
        let o : i / 8 ≡ k = omega (arith, ltb-false i (8 * k) e) in
        matched (digit (word m (8 * k)) (9 * (i % 8))) (digit (complement (rest % 256 * byte_units)) (9 * (i % 8))) (digit y i) (flag_bit m h k i o f)
        (digit_not 64 (rest % 256 * byte_units) (9 * (i % 8)) (omega arith) (omega arith) ∙ ap not (start_bit y rest k i r o))
        (sym (digit_and (word m (8 * k)) (complement (rest % 256 * byte_units)) (9 * (i % 8))) ∙ second (digit x (9 * (i % 8))) (digit (unmatched m rest k) (9 * (i % 8))) both)

-- none is found: each of the 64 entries that is flagged has its digit in y
pub none_found : (m : Bytes) (y x : ℕ) → Found m y x 64 → bit_and x diagonal ≡ 0 → (i : ℕ) → i < 64 → get_or m i 0 ≡ 255 → digit y i ≡ true
none_found m y x f z i l e = f i l (only _ _ (on_diagonal (i % 8) (omega arith)) (sym (digit_and x diagonal (9 * (i % 8))) ∙ ap (λ (n : ℕ). digit n (9 * (i % 8))) z ∙ digit_behind (9 * (i % 8)) 0 (pow_pos (9 * (i % 8))))) e
  where
    only : (a b : Bool) → b ≡ true → a && b ≡ false → a ≡ false
    only false b p q = refl
    only true b p q = absurd (true≢false (sym p ∙ q))

-- ---- 64 flags

-- each label that is not below the next one has its digit in y
abbrev pub DescentsWithin : Bytes → ℕ → ℕ → Type 0
DescentsWithin sl at y = (i : ℕ) → i < 64 → (digit y i || ascends sl at i) ≡ true

-- as the flags say it
pub flags_within : (sl m : Bytes) (at y : ℕ) → DescentsFlagged sl at m → ((i : ℕ) → i < 64 → get_or m i 0 ≡ 255 → digit y i ≡ true) → DescentsWithin sl at y
flags_within sl m at y d f i l = go (ascends sl at i) refl
  where
    go : (b : Bool) → ascends sl at i ≡ b → (digit y i || b) ≡ true
    go true e = or-true (digit y i)
    go false e = ap (λ (b : Bool). b || false) (f i l (d.1 i l ∙ ap (λ (b : Bool). cond b 0 255) e))

-- so no label descends in a node
pub none_descends : (sl : Bytes) (at y : ℕ) → y < 2 ^ 64 → DescentsWithin sl at y → descents y (mask (ascends sl at) 64) ≡ 0
none_descends sl at y h f =
    eqb-true (descents y a) 0 (zero_digits 64 (descents y a) (lt_of_le_of_lt (and_le_l (complement y) (complement a)) (omega arith)) ∙ from_pass (λ i. not (digit (descents y a) i)) 0 64 (λ i g l. each i (omega arith)))
  where
    a : ℕ
    a = mask (ascends sl at) 64

    neither : (p q : Bool) → (p || q) ≡ true → not (not p && not q) ≡ true
    neither true q e = refl
    neither false true e = refl
    neither false false e = e

    each : (i : ℕ) → i < 64 → not (digit (descents y a) i) ≡ true
    each i l =
        ap not (digit_and (complement y) (complement a) i ∙ ap₂ ◌&&◌ (digit_not 64 y i h l) (digit_not 64 a i (mask_lt (ascends sl at) 64) l ∙ ap not (digit_mask (ascends sl at) 64 i l)))
        ∙ neither (digit y i) (ascends sl at i) (f i l)
