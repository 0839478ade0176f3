-- The suffix of a key as a number, the first bit lowest: its real bits from the two bytes behind its cut in the other order, and its hash bits from its hash. Used where slots are written and where keys are compared with them.
use Rattle.std.specs.Prelude.{ℕ, ◌+◌, ◌*◌, ◌-◌, ◌%◌, ◌^◌, ◌≤◌, ◌<◌, ◌≡◌, refl, [], ◌∷◌, length, get_or, drop}
use Rattle.std.proofs.Common.{sym, ap, ◌∙◌, arith, lt_of_lt_of_le, mul_comm, get_or-drop, pow_mono}
use Rattle.std.proofs.Math.Pow.{mod-mod-pow}
use Rattle.spec.specs.Bytes.{Bytes, low_first, high_first, bits_of}
use Rattle.spec.specs.Fnv.{hash}
use Rattle.spec.specs.Leaves.{bits_behind, hash_bits, suffix_bits}
use Rattle.theory.proofs.KeyLeaves.{length_padded, length_hash_bits, length_suffix}
use Rattle.bits.specs.Bits.{reversed}
use Rattle.bits.proofs.NumberLaws.{low_padded, low_append, low_lt}
use Rattle.bits.proofs.UnpackLaws.{low_number}

bits_first : (xs : Bytes) → low_first (bits_of xs) ≡ reversed (get_or xs 0 0) + 256 * low_first (bits_of (drop 1 xs))
unfolding low_first bits_of high_first
bits_first [] = refl
bits_first (x ∷ xs) = low_append (high_first 8 x) (bits_of xs)

-- a slot has n bits
pub length_behind : (n c : ℕ) (k : Bytes) → length (bits_behind n c k) ≡ n
unfolding bits_behind
length_behind n c k = length_padded n (bits_of (drop c k))

-- numbers with the same 16 low bits have the same n low bits
same_low : (n x y : ℕ) → n ≤ 16 → x % 2 ^ 16 ≡ y % 2 ^ 16 → x % 2 ^ n ≡ y % 2 ^ n
same_low n x y h e =
    let u : (16 - n) + n ≡ 16 = omega arith in
    let f : (z : ℕ) → z % 2 ^ 16 % 2 ^ n ≡ z % 2 ^ n = λ z. ap (λ (k : ℕ). z % 2 ^ k % 2 ^ n) (sym u) ∙ mod-mod-pow z (16 - n) n in
    sym (f x) ∙ ap (λ (z : ℕ). z % 2 ^ n) e ∙ f y

-- the number of the n bits of a key behind its cut, of at most two bytes
pub suffix_number : (n c a b : ℕ) (k : Bytes) → n ≤ 16 → a ≡ reversed (get_or k c 0) → b ≡ reversed (get_or k (c + 1) 0) → (a + 256 * b) % 2 ^ n ≡ low_first (bits_behind n c k)
unfolding bits_behind
suffix_number n c a b k h e f =
    let xs : Bytes = drop c k in
    let v : c + 0 ≡ c = omega arith in
    let p : a ≡ reversed (get_or xs 0 0) = e ∙ ap (λ (i : ℕ). reversed (get_or k i 0)) (sym v) ∙ ap reversed (sym (get_or-drop c k 0 0)) in
    let q : b ≡ reversed (get_or (drop 1 xs) 0 0) = f ∙ ap reversed (sym (get_or-drop 1 xs 0 0 ∙ get_or-drop c k 1 0)) in
    let w : (a + 256 * b) % 2 ^ 16 ≡ low_first (bits_of xs) % 2 ^ 16 = omega (arith, bits_first xs, bits_first (drop 1 xs)) in
    same_low n (a + 256 * b) (low_first (bits_of xs)) h w ∙ sym (low_padded n (bits_of xs))

-- it has at most 16 bits
pub suffix_small : (n c : ℕ) (k : Bytes) → n ≤ 16 → low_first (bits_behind n c k) < 65536
suffix_small n c k h = lt_of_lt_of_le (rw (length_behind n c k) at (low_lt (bits_behind n c k))) (pow_mono h)

-- ---- with hash bits

-- the number of a key's h hash bits
pub hash_number : (h : ℕ) (k : Bytes) → low_first (hash_bits h k) ≡ hash k % 2 ^ h
unfolding hash_bits
hash_number h k = low_number h (hash k)

-- the number of a key's whole suffix: its hash bits are the lowest
pub whole_number : (h n c : ℕ) (k : Bytes) → low_first (suffix_bits h n c k) ≡ low_first (hash_bits h k) + low_first (bits_behind n c k) * 2 ^ h
unfolding suffix_bits
whole_number h n c k =
    let r : ℕ = low_first (bits_behind n c k) in
    low_append (hash_bits h k) (bits_behind n c k) ∙ ap (λ (i : ℕ). low_first (hash_bits h k) + 2 ^ i * r) (length_hash_bits h k) ∙ ap (λ (i : ℕ). low_first (hash_bits h k) + i) (mul_comm (2 ^ h) r)

-- of at most 16 hash bits and 16 real bits it has at most 32
pub whole_short : (h n c : ℕ) (k : Bytes) → h ≤ 16 → n ≤ 16 → length (suffix_bits h n c k) ≤ 32
whole_short h n c k a b = omega (arith, length_suffix h n c k)

-- so its number is below 2^32
pub whole_small : (h n c : ℕ) (k : Bytes) → h ≤ 16 → n ≤ 16 → low_first (suffix_bits h n c k) < 4294967296
whole_small h n c k a b = lt_of_lt_of_le (low_lt (suffix_bits h n c k)) (pow_mono (whole_short h n c k a b))
