-- The number whose bytes are a byte string: its digits, its bytes and its 64-bit words. The counts of ones by words rest on these.
use Rattle.std.specs.Prelude.{◌≡◌, refl, [], ◌∷◌, ℕ, zero, suc, ◌+◌, ◌*◌, ◌-◌, ◌/◌, ◌%◌, ◌^◌, ◌≤◌, ◌<◌, length, get_or, drop}
use Rattle.std.proofs.Common.{sym, ap, ap₂, ◌∙◌, mod-lt, zero-lt-suc, mod-eq_of_lt, lt_of_lt_of_le, arith, length-drop, get_or-drop, drop-drop, drop-cons, pow_pos, pow_mono, pow-add, shr-shr}
use Rattle.std.proofs.Math.Nat.{zero-div, mod-one}
use Rattle.std.proofs.lemmas.Nat.{mod-pow-add}
use Rattle.std.proofs.Math.Pow.{field, mod-mod-pow, high, low}
use Rattle.spec.specs.Bytes.{Bytes}
use Rattle.bits.specs.Bits.{bit_at, value, word}

-- every byte is below 256, as a slice's are
abbrev pub Small : Bytes → Type 0
Small s = (i : ℕ) → get_or s i 0 < 256

-- the bytes from q on
pub small_drop : (q : ℕ) (s : Bytes) → Small s → Small (drop q s)
small_drop q s h i = rw get_or-drop (h (q + i))

-- a number of q bytes less is 256 ^ q times lower
pub value_drop : (q : ℕ) (s : Bytes) → Small s → value s / 2 ^ (8 * q) ≡ value (drop q s)
unfolding value
value_drop zero s h = omega arith
value_drop (suc q) [] h = zero-div _
value_drop (suc q) (b ∷ s) h =
    let e : 8 * suc q ≡ 8 + 8 * q = omega arith in
    ap (λ (n : ℕ). value (b ∷ s) / 2 ^ n) e ∙ sym (shr-shr (value (b ∷ s)) 8 (8 * q))
    ∙ ap (λ (n : ℕ). n / 2 ^ (8 * q)) (high (value s) 8 (h 0)) ∙ value_drop q s (small_drop 1 (b ∷ s) h)

-- the byte at q is the lowest of those from q on
pub value_byte : (q : ℕ) (s : Bytes) → Small s → value (drop q s) % 2 ^ 8 ≡ get_or s q 0
unfolding value
value_byte zero [] h = refl
value_byte zero (b ∷ s) h = low (value s) 8 (h 0)
value_byte (suc q) [] h = refl
value_byte (suc q) (b ∷ s) h = value_byte q s (small_drop 1 (b ∷ s) h)

-- the number's digit i is bit i
pub value_bit : (s : Bytes) → Small s → (i : ℕ) → value s / 2 ^ i % 2 ≡ bit_at s i
value_bit s h i =
    let q : ℕ = i / 8 in
    let r : ℕ = i % 8 in
    let r8 : r < 8 = mod-lt i (zero-lt-suc 7) in
    let e : i ≡ 8 * q + r = omega arith in
    let n : ℕ = value (drop q s) in
    let e₁ : value s / 2 ^ i ≡ n / 2 ^ r =
    ap (λ (m : ℕ). value s / 2 ^ m) e ∙ sym (shr-shr (value s) (8 * q) r) ∙ ap (λ (m : ℕ). m / 2 ^ r) (value_drop q s h) in
    let w : (7 - r) + (1 + r) ≡ 8 = omega arith in
    let e₂ : n % 2 ^ (1 + r) ≡ get_or s q 0 % 2 ^ (1 + r) =
    sym (mod-mod-pow n (7 - r) (1 + r)) ∙ ap (λ (m : ℕ). n % 2 ^ m % 2 ^ (1 + r)) w ∙ ap (λ (m : ℕ). m % 2 ^ (1 + r)) (value_byte q s h) in
    ap (λ (m : ℕ). m % 2) e₁ ∙ sym (field n 1 r) ∙ ap (λ (m : ℕ). m / 2 ^ r) e₂ ∙ field (get_or s q 0) 1 r

-- one byte more in front
pub value_front : (s : Bytes) (i : ℕ) → i < length s → value (drop i s) ≡ value (drop (i + 1) s) * 256 + get_or s i 0
unfolding value
value_front s i h = let e : suc i ≡ i + 1 = omega arith in ap value (drop-cons s i 0 h) ∙ ap (λ (k : ℕ). value (drop k s) * 256 + get_or s i 0) e

-- as many bytes hold no greater number
pub value_lt : (s : Bytes) → Small s → value s < 2 ^ (8 * length s)
unfolding value
value_lt [] h = omega arith
value_lt (b ∷ s) h =
    let ih = value_lt s (small_drop 1 (b ∷ s) h) in
    let e : 8 * suc (length s) ≡ 8 + 8 * length s = omega arith in
    omega (arith, ih, h 0, ap (λ (n : ℕ). 2 ^ n) e ∙ pow-add 2 8 (8 * length s))

-- what so few bytes hold
pub value_end : (k at : ℕ) (s : Bytes) → Small s → length s ≤ at + k → value (drop at s) < 2 ^ (8 * k)
value_end k at s h l = lt_of_lt_of_le (value_lt (drop at s) (small_drop at s h)) (pow_mono (omega (arith, length-drop at s)))

-- a word that the bytes' end cuts off is all that is left
pub word_end : (s : Bytes) (at : ℕ) → Small s → length s ≤ at + 8 → word s at ≡ value (drop at s)
unfolding word
word_end s at h l = mod-eq_of_lt (value_end 8 at s h l)

-- j bytes from at + o, as a number
abbrev pub horner : Bytes → ℕ → ℕ → ℕ → ℕ
horner s at o zero = zero
horner s at o (suc j) = horner s at (suc o) j * 256 + get_or s (at + o) 0

-- the low bytes of a number, written out
pub value_bytes : (j o at : ℕ) (s : Bytes) → Small s → value (drop (at + o) s) % 2 ^ (8 * j) ≡ horner s at o j
value_bytes zero o at s h = mod-one (value (drop (at + o) s))
value_bytes (suc j) o at s h =
    let n : ℕ = value (drop (at + o) s) in
    let e : 8 * suc j ≡ 8 * j + 8 = omega arith in
    let g : at + o + 1 ≡ at + suc o = omega arith in
    let f : n / 2 ^ 8 ≡ value (drop (at + suc o) s) =
    value_drop 1 (drop (at + o) s) (small_drop (at + o) s h) ∙ ap value (drop-drop 1 (at + o) s ∙ ap (λ (m : ℕ). drop m s) g) in
    ap (λ (m : ℕ). n % 2 ^ m) e ∙ mod-pow-add n (8 * j) 8
    ∙ ap₂ (λ (x y : ℕ). x * 256 + y) (ap (λ (m : ℕ). m % 2 ^ (8 * j)) f ∙ value_bytes j (suc o) at s h) (value_byte (at + o) s h)

-- a word is its eight bytes
pub word_bytes : (at : ℕ) (s : Bytes) → Small s → word s at ≡ horner s at 0 8
unfolding word
word_bytes at s h = let e : at + 0 ≡ at = omega arith in ap (λ (k : ℕ). value (drop k s) % 2 ^ 64) (sym e) ∙ value_bytes 8 0 at s h

-- a word is below 2 ^ 64
pub word_lt : (s : Bytes) (at : ℕ) → word s at < 2 ^ 64
unfolding word
word_lt s at = mod-lt (value (drop at s)) (pow_pos 64)

-- digit j of word q is bit 64 q + j
pub word_bit : (s : Bytes) → Small s → (at j : ℕ) → j < 64 → word s at / 2 ^ j % 2 ≡ bit_at s (8 * at + j)
unfolding word
word_bit s h at j l =
    let n : ℕ = value (drop at s) in
    let e : (64 - j) + j ≡ 64 = omega arith in
    let f : (64 - j - 1) + 1 ≡ 64 - j = omega arith in
    ap (λ (z : ℕ). n % 2 ^ z / 2 ^ j % 2) (sym e) ∙ ap (λ (z : ℕ). z % 2) (field n (64 - j) j)
    ∙ ap (λ (z : ℕ). n / 2 ^ j % 2 ^ z % 2) (sym f) ∙ mod-mod-pow (n / 2 ^ j) (64 - j - 1) 1
    ∙ ap (λ (z : ℕ). z / 2 ^ j % 2) (sym (value_drop at s h)) ∙ ap (λ (z : ℕ). z % 2) (shr-shr (value s) (8 * at) j)
    ∙ value_bit s h (8 * at + j)
