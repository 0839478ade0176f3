-- 64-bit words of bits: the lowest set digit, and the starts of nodes with several entries.
use Rattle.std.specs.Prelude.{ℕ, zero, suc, ◌+◌, ◌-◌, ◌*◌, ◌/◌, ◌%◌, ◌^◌, ◌<◌, ◌≤◌, ◌≡◌, refl, Bool, true, false, ◌&&◌, not, get_or, eqb, ltb}
use Rattle.std.proofs.Common.{sym, ap, ap₂, ◌∙◌, arith, mod-lt, mul_assoc, suc-mul, pow-suc, zero-lt-suc, shr-shr, shr_lt, pow-add, pow_mono, ltb-true, ltb-false}
use Rattle.std.proofs.Math.Nat.{div-eq_of_lt, zero-div}
use Rattle.std.proofs.lemmas.Nat.{shl-shr, shr_le, and_shr, and_mod, xor_shr, xor_mod, trailing_le}
use Rattle.std.proofs.Math.Pow.{high, low, field, mod-mod-pow}
use Rattle.std.specs.Int.Bits.{bit_and, bit_xor, shifted_even}
use Rattle.std.specs.Int.Count.{count_trailing_zeros, under}
use Rattle.spec.specs.Bytes.{Bytes, bit}
use Rattle.bits.specs.Bits.{bit_at, word}
use Rattle.bits.proofs.ValueLaws.{Small, word_bit, word_lt}
use Rattle.check_levels.specs.Positions.{is_set}

-- digit j of a number
abbrev pub digit : ℕ → ℕ → ℕ
digit x j = x / 2 ^ j % 2

digit_half : (x j : ℕ) → digit (x / 2) j ≡ digit x (suc j)
digit_half x j = let w : 1 + j ≡ suc j = omega arith in ap (λ (n : ℕ). n % 2) (shr-shr x 1 j ∙ ap (λ (z : ℕ). x / 2 ^ z) w)

-- ---- the lowest set digit

-- no digit below it is set
pub trailing_clear : (k x j : ℕ) → j < count_trailing_zeros k x → digit x j ≡ 0
unfolding count_trailing_zeros
trailing_clear zero x j h = absurd (omega arith)
trailing_clear (suc k) x j h = go (x % 2) refl j h (λ i l. trailing_clear k (x / 2) i l)
  where
    go : (d : ℕ) → x % 2 ≡ d → (j : ℕ) → j < under d (count_trailing_zeros k (x / 2)) → ((i : ℕ) → i < count_trailing_zeros k (x / 2) → digit (x / 2) i ≡ 0) → digit x j ≡ 0
    go zero e zero l ih = let z : x / 2 ^ 0 ≡ x = omega arith in rw z e
    go zero e (suc j) l ih = sym (digit_half x j) ∙ ih j (omega arith)
    go (suc d) e j l ih = absurd (omega arith)

-- it is set
trailing_set : (k x : ℕ) → count_trailing_zeros k x < k → digit x (count_trailing_zeros k x) ≡ 1
unfolding count_trailing_zeros
trailing_set zero x h = absurd (omega arith)
trailing_set (suc k) x h = go (x % 2) refl h (λ l. trailing_set k (x / 2) l)
  where
    go : (d : ℕ) → x % 2 ≡ d → under d (count_trailing_zeros k (x / 2)) < suc k → (count_trailing_zeros k (x / 2) < k → digit (x / 2) (count_trailing_zeros k (x / 2)) ≡ 1)
        → digit x (under d (count_trailing_zeros k (x / 2))) ≡ 1
    go zero e l ih = sym (digit_half x (count_trailing_zeros k (x / 2))) ∙ ih (omega arith)
    go (suc d) e l ih = let z : x / 2 ^ 0 ≡ x = omega arith in rw z (omega (arith, mod-lt x (zero-lt-suc 1)))

-- a number below 2 ^ k has a set digit, or is zero
trailing_all : (k x : ℕ) → x < 2 ^ k → count_trailing_zeros k x ≡ k → x ≡ 0
unfolding count_trailing_zeros
trailing_all zero x h e = omega arith
trailing_all (suc k) x h e = go (x % 2) refl e (λ l. trailing_all k (x / 2) (shr_lt k 1 (let w : k + 1 ≡ suc k = omega arith in rw w h)) l)
  where
    go : (d : ℕ) → x % 2 ≡ d → under d (count_trailing_zeros k (x / 2)) ≡ suc k → (count_trailing_zeros k (x / 2) ≡ k → x / 2 ≡ 0) → x ≡ 0
    go zero p l ih = omega (arith, ih (omega arith))
    go (suc d) p l ih = absurd (omega arith)

-- ---- the set digits of x, lowest first: y has those from j on

module _ (x j y : ℕ) (is : y ≡ x / 2 ^ j) where
  digit_behind : (i : ℕ) → digit y i ≡ digit x (j + i)
  digit_behind i = ap (λ (n : ℕ). n / 2 ^ i % 2) is ∙ ap (λ (n : ℕ). n % 2) (shr-shr x j i)

  -- none is left
  pub digits_end : y ≡ 0 → (k : ℕ) → j ≤ k → digit x k ≡ 0
  digits_end z k h =
      let e : j + (k - j) ≡ k = omega arith in
      ap (digit x) (sym e) ∙ sym (digit_behind (k - j)) ∙ ap (λ (n : ℕ). n / 2 ^ (k - j) % 2) z ∙ ap (λ (n : ℕ). n % 2) (zero-div (2 ^ (k - j)))

  module _ (few : x < 2 ^ 64) (some : y ≡ 0 → ⊥) where
    abbrev t : ℕ
    t = count_trailing_zeros 64 y

    inside : t < 64
    inside = below (ltb t 64) refl
      where
        small : y < 2 ^ 64
        small = omega (arith, is, shr_le x j, few)

        below : (b : Bool) → ltb t 64 ≡ b → t < 64
        below true e = ltb-true t 64 e
        below false e = absurd (some (trailing_all 64 y small (omega (arith, ltb-false t 64 e, trailing_le 64 y))))

    -- the lowest that is left is set
    pub lowest_set : digit x (j + t) ≡ 1
    lowest_set = sym (digit_behind t) ∙ trailing_set 64 y inside

    -- it is one of the 64
    pub lowest_within : j + t < 64
    lowest_within = go (ltb (j + t) 64) refl
      where
        high_clear : 64 ≤ j + t → digit x (j + t) ≡ 0
        high_clear h = ap (λ (n : ℕ). n % 2) (div-eq_of_lt (below few))
          where
            below : x < 2 ^ 64 → x < 2 ^ (j + t)
            below l = omega (arith, l, pow_mono {i = 64} {j = j + t} h)

        go : (b : Bool) → ltb (j + t) 64 ≡ b → j + t < 64
        go true e = ltb-true (j + t) 64 e
        go false e = absurd (omega (arith, lowest_set, high_clear (ltb-false (j + t) 64 e)))

    -- those before it are not set
    pub lowest_clear : (k : ℕ) → j ≤ k → k < j + t → digit x k ≡ 0
    lowest_clear k h l = let e : j + (k - j) ≡ k = omega arith in ap (digit x) (sym e) ∙ sym (digit_behind (k - j)) ∙ trailing_clear 64 y (k - j) (omega arith)

    -- what is left behind it
    pub lowest_rest : y / 2 ^ t / 2 ≡ x / 2 ^ (j + t + 1)
    lowest_rest =
        let w : j + t + 1 ≡ j + (t + 1) = omega arith in
        shr-shr y t 1 ∙ ap (λ (k : ℕ). k / 2 ^ (t + 1)) is ∙ shr-shr x j (t + 1) ∙ ap (λ (k : ℕ). x / 2 ^ k) (sym w)

-- ---- the digits of x from j on, at their positions

module _ (x j : ℕ) where
  -- those before j are not set
  pub kept_low : (i : ℕ) → i < j → digit (x / 2 ^ j * 2 ^ j) i ≡ 0
  kept_low i h =
      let e : suc (j - i - 1) + i ≡ j = omega arith in
      ap (λ (k : ℕ). x / 2 ^ j * 2 ^ k / 2 ^ i % 2) (sym e)
      ∙ ap (λ (n : ℕ). n / 2 ^ i % 2) (ap (λ (n : ℕ). x / 2 ^ j * n) (pow-add 2 (suc (j - i - 1)) i) ∙ sym (mul_assoc (x / 2 ^ j) (2 ^ suc (j - i - 1)) (2 ^ i)))
      ∙ ap (λ (n : ℕ). n % 2) (shl-shr (x / 2 ^ j * 2 ^ suc (j - i - 1)) i) ∙ shifted_even (x / 2 ^ j) (j - i - 1)

  -- the others are those of x
  pub kept_high : (i : ℕ) → j ≤ i → digit (x / 2 ^ j * 2 ^ j) i ≡ digit x i
  kept_high i h =
      let e : j + (i - j) ≡ i = omega arith in
      ap (digit (x / 2 ^ j * 2 ^ j)) (sym e) ∙ ap (λ (n : ℕ). n % 2) (sym (shr-shr (x / 2 ^ j * 2 ^ j) j (i - j))) ∙ ap (λ (n : ℕ). n / 2 ^ (i - j) % 2) (shl-shr (x / 2 ^ j) j)
      ∙ ap (λ (n : ℕ). n % 2) (shr-shr x j (i - j)) ∙ ap (digit x) e

-- one position further is twice as much
shift_suc : (a k : ℕ) → a * 2 ^ suc k ≡ a * 2 ^ k * 2
shift_suc a k = ap (λ (x : ℕ). a * x) (pow-suc 2 k) ∙ sym (mul_assoc a (2 ^ k) 2)

-- a number is a multiple of 2 to its lowest set digit's position
trailing_shift : (k x : ℕ) → x ≡ x / 2 ^ count_trailing_zeros k x * 2 ^ count_trailing_zeros k x
unfolding count_trailing_zeros
trailing_shift zero x = omega arith
trailing_shift (suc k) x = go (x % 2) refl (trailing_shift k (x / 2))
  where
    go : (d : ℕ) → x % 2 ≡ d → x / 2 ≡ x / 2 / 2 ^ count_trailing_zeros k (x / 2) * 2 ^ count_trailing_zeros k (x / 2) → x ≡ x / 2 ^ under d (count_trailing_zeros k (x / 2)) * 2 ^ under d (count_trailing_zeros k (x / 2))
    go zero e ih =
        let t : ℕ = count_trailing_zeros k (x / 2) in
        let w : 1 + t ≡ suc t = omega arith in
        let m : x / 2 / 2 ^ t ≡ x / 2 ^ suc t = shr-shr x 1 t ∙ ap (λ (z : ℕ). x / 2 ^ z) w in
        omega (arith, ap (λ (n : ℕ). n * 2 ^ t) m, shift_suc (x / 2 ^ suc t) t)
    go (suc d) e ih = omega arith

-- without its lowest set digit it has those behind
module _ (x : ℕ) (few : x < 2 ^ 64) (some : x ≡ 0 → ⊥) where
  abbrev lowest : ℕ
  lowest = count_trailing_zeros 64 x

  pub lowest_less : (2 ^ lowest ≤ x) × (x - 2 ^ lowest ≡ x / 2 ^ (lowest + 1) * 2 ^ (lowest + 1))
  lowest_less =
      let m : ℕ = x / 2 ^ (lowest + 1) in
      let is : x ≡ x / 2 ^ 0 = omega arith in
      let e : 0 + lowest ≡ lowest = omega arith in
      let set : x / 2 ^ lowest % 2 ≡ 1 = ap (digit x) (sym e) ∙ lowest_set x 0 x is few some in
      let half : x / 2 ^ lowest / 2 ≡ m = shr-shr x lowest 1 in
      let odd : x / 2 ^ lowest ≡ suc (2 * m) = omega arith in
      let w : suc lowest ≡ lowest + 1 = omega arith in
      let whole : x ≡ 2 * m * 2 ^ lowest + 2 ^ lowest = trailing_shift 64 x ∙ ap (λ (n : ℕ). n * 2 ^ lowest) odd ∙ suc-mul (2 * m) (2 ^ lowest) in
      let twice : m * 2 ^ (lowest + 1) ≡ m * 2 ^ lowest * 2 = ap (λ (k : ℕ). m * 2 ^ k) (sym w) ∙ shift_suc m lowest in
      (omega arith, omega (arith, mul_assoc 2 m (2 ^ lowest)))

-- ---- starts of nodes with several entries

-- the set digits of w whose next digit is not set, the one behind the word given
abbrev pub lone : ℕ → ℕ → ℕ
lone w next = bit_xor w (bit_and w (w / 2 + next * 2 ^ 63))

lone_digit : (w a j : ℕ) → digit (bit_xor w (bit_and w a)) j ≡ bit_xor (digit w j) (bit_and (digit w j) (digit a j))
lone_digit w a j =
    ap (λ (n : ℕ). n % 2 ^ 1) (xor_shr w (bit_and w a) j) ∙ xor_mod (w / 2 ^ j) (bit_and w a / 2 ^ j) 1
    ∙ ap (bit_xor (digit w j)) (ap (λ (n : ℕ). n % 2 ^ 1) (and_shr w a j) ∙ and_mod (w / 2 ^ j) (a / 2 ^ j) 1)

-- a digit that is set, and another that is not
lone_bits : (x y : ℕ) → x < 2 → y < 2 → bit_xor x (bit_and x y) ≡ bit (eqb x 1 && not (eqb y 1))
lone_bits zero zero h l = refl
lone_bits zero (suc zero) h l = refl
lone_bits (suc zero) zero h l = refl
lone_bits (suc zero) (suc zero) h l = refl
lone_bits zero (suc (suc y)) h l = absurd (omega arith)
lone_bits (suc zero) (suc (suc y)) h l = absurd (omega arith)
lone_bits (suc (suc x)) y h l = absurd (omega arith)

-- behind each digit of w, the next one
after_digit : (w next j : ℕ) → w < 2 ^ 64 → j < 63 → digit (w / 2 + next * 2 ^ 63) j ≡ digit w (suc j)
after_digit w next j h l =
    let e : w / 2 + next * 2 ^ 63 ≡ next * 2 ^ 63 + w / 2 = omega arith in
    let f : 63 ≡ (63 - j - 1) + 1 + j = omega arith in
    let half : w / 2 < 2 ^ 63 = shr_lt 63 1 h in
    ap (λ (n : ℕ). n / 2 ^ j % 2) e ∙ low_digit (next * 2 ^ 63 + w / 2) (w / 2) j l (low next 63 half) ∙ digit_half w j
  where
    low_digit : (a b j : ℕ) → j < 63 → a % 2 ^ 63 ≡ b → digit a j ≡ digit b j
    low_digit a b j l e =
        let f : (63 - j) + j ≡ 63 = omega arith in
        let g : (63 - j - 1) + 1 ≡ 63 - j = omega arith in
        sym (mod-mod-pow (a / 2 ^ j) (63 - j - 1) 1) ∙ ap (λ (z : ℕ). a / 2 ^ j % 2 ^ z % 2) g ∙ ap (λ (z : ℕ). z % 2) (sym (field a (63 - j) j))
        ∙ ap (λ (z : ℕ). a % 2 ^ z / 2 ^ j % 2) f ∙ ap (λ (z : ℕ). z / 2 ^ j % 2) e

last_digit : (w next : ℕ) → w < 2 ^ 64 → next < 2 → digit (w / 2 + next * 2 ^ 63) 63 ≡ next
last_digit w next h l =
    let e : w / 2 + next * 2 ^ 63 ≡ next * 2 ^ 63 + w / 2 = omega arith in
    let half : w / 2 < 2 ^ 63 = shr_lt 63 1 h in
    ap (λ (n : ℕ). n / 2 ^ 63 % 2) e ∙ ap (λ (n : ℕ). n % 2) (high next 63 half) ∙ omega arith

-- the starts of nodes with several entries, in word q of S-LOUDS
pub lone_is : (s : Bytes) → Small s → (q next j : ℕ) → next ≡ bit_at s (64 * q + 64) → j < 64
    → digit (lone (word s (q * 8)) next) j ≡ bit (is_set s (64 * q + j) && not (is_set s (64 * q + j + 1)))
lone_is s small q next j h l =
    let w : ℕ = word s (q * 8) in
    let e : 8 * (q * 8) + j ≡ 64 * q + j = omega arith in
    let here : digit (word s (q * 8)) j ≡ bit_at s (64 * q + j) = word_bit s small (q * 8) j l ∙ ap (bit_at s) e in
    let there : digit (word s (q * 8) / 2 + next * 2 ^ 63) j ≡ bit_at s (64 * q + j + 1) = behind (ltb j 63) refl in
    lone_digit (word s (q * 8)) (word s (q * 8) / 2 + next * 2 ^ 63) j
    ∙ lone_bits (digit (word s (q * 8)) j) (digit (word s (q * 8) / 2 + next * 2 ^ 63) j) (mod-lt (word s (q * 8) / 2 ^ j) (zero-lt-suc 1)) (mod-lt ((word s (q * 8) / 2 + next * 2 ^ 63) / 2 ^ j) (zero-lt-suc 1))
    ∙ ap₂ (λ (a b : ℕ). bit (eqb a 1 && not (eqb b 1))) here there
  where
    behind : (b : Bool) → ltb j 63 ≡ b → digit (word s (q * 8) / 2 + next * 2 ^ 63) j ≡ bit_at s (64 * q + j + 1)
    behind true p =
        let k : j < 63 = ltb-true j 63 p in
        let e : 8 * (q * 8) + suc j ≡ 64 * q + j + 1 = omega arith in
        after_digit (word s (q * 8)) next j (word_lt s (q * 8)) k ∙ word_bit s small (q * 8) (suc j) (omega arith) ∙ ap (bit_at s) e
    behind false p =
        let k : j ≡ 63 = omega (arith, ltb-false j 63 p) in
        let e : 64 * q + 64 ≡ 64 * q + j + 1 = omega arith in
        ap (digit (word s (q * 8) / 2 + next * 2 ^ 63)) k ∙ last_digit (word s (q * 8)) next (word_lt s (q * 8)) (omega (arith, h)) ∙ h ∙ ap (bit_at s) e

-- the first bit of a byte is its lowest
pub bit_low : (s : Bytes) (at : ℕ) → bit_at s (8 * at) ≡ get_or s at 0 % 2
bit_low s at =
    let a : 8 * at / 8 ≡ at = omega arith in
    let b : 8 * at % 8 ≡ 0 = omega arith in
    let c : get_or s at 0 / 2 ^ 0 ≡ get_or s at 0 = omega arith in
    rw (a, b, c)
