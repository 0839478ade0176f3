-- Ones that are set in a byte, and numbers by their bits, the first bit lowest.
use Rattle.std.specs.Prelude.{◌≡◌, refl, Bool, true, false, [], ◌∷◌, ◌++◌, ℕ, zero, suc, ◌+◌, ◌*◌, ◌-◌, ◌/◌, ◌%◌, ◌^◌, ◌≤◌, ◌<◌, max, ltb, length, get_or, drop, set}
use Rattle.std.proofs.Common.{sym, ap, ap₂, ◌∙◌, add-zero, add-mul, one-mul, mul_assoc, mul_left_comm, add-one, arith, ltb-true, ltb-false, get_or-set_same, set-set, shr-shr}
use Rattle.std.proofs.Math.Nat.{mul-mod_left, mod-one, zero-div, pow-succ'}
use Rattle.std.proofs.Math.Seq.{set_out}
use Rattle.std.proofs.lemmas.List.{set-get_or}
use Rattle.std.proofs.Math.Pow.{pow-lt}
use Rattle.std.proofs.lemmas.Nat.{shl-shr, mod-pow-add}
use Rattle.std.specs.Int.Bits.{bit_or, or_step, or_zero_r, or_shifted_r}
use Rattle.spec.specs.Bytes.{Bytes, Bits, bit, low_first, padded}
use Rattle.bits.specs.Bits.{with_bit, with_ones, with_number}

-- ---- ones of three numbers

or_halves : (a b : ℕ) → (bit_or a b / 2 ≡ bit_or (a / 2) (b / 2)) × (bit_or a b % 2 ≡ max (a % 2) (b % 2))
or_halves a b = (omega (arith, or_step a b), omega (arith, or_step a b))

or_assoc_below : (k a b c : ℕ) → a ≤ k → b ≤ k → c ≤ k → bit_or (bit_or a b) c ≡ bit_or a (bit_or b c)
or_assoc_below zero a b c h g l =
    let x : a ≡ 0 = omega arith in
    let y : b ≡ 0 = omega arith in
    rw (x, y)
or_assoc_below (suc k) a b c h g l =
    let ih = or_assoc_below k (a / 2) (b / 2) (c / 2) (omega arith) (omega arith) (omega arith) in
    let u = or_halves a b in
    let v = or_halves b c in
    omega (arith, or_step (bit_or a b) c, or_step a (bit_or b c), ih, ap (λ (n : ℕ). bit_or n (c / 2)) u.0, ap (bit_or (a / 2)) v.0, u.1, v.1)

-- the ones of three numbers, in any grouping
pub or_assoc : (a b c : ℕ) → bit_or (bit_or a b) c ≡ bit_or a (bit_or b c)
or_assoc a b c = or_assoc_below (a + b + c) a b c (omega arith) (omega arith) (omega arith)

-- ---- ones set in a byte

-- no ones
pub with_ones_none : (s : Bytes) (q : ℕ) → with_ones s q 0 ≡ s
unfolding with_ones
with_ones_none s q = rw (or_zero_r (get_or s q 0)) (set-get_or s q 0)

-- ones set twice in one byte
pub with_ones_twice : (s : Bytes) (q a b : ℕ) → with_ones (with_ones s q a) q b ≡ with_ones s q (bit_or a b)
unfolding with_ones
with_ones_twice s q a b = go (ltb q (length s)) refl
  where
    x : ℕ
    x = get_or s q 0

    go : (v : Bool) → ltb q (length s) ≡ v → set (set s q (bit_or x a)) q (bit_or (get_or (set s q (bit_or x a)) q 0) b) ≡ set s q (bit_or x (bit_or a b))
    go true e = rw (get_or-set_same s q (bit_or x a) 0 (ltb-true q (length s) e), or_assoc x a b) (set-set s q (bit_or x a) (bit_or x (bit_or a b)))
    go false e =
        let h : length s ≤ q = ltb-false q (length s) e in
        rw (set_out s q (bit_or x a) h) (set_out s q _ h ∙ sym (set_out s q _ h))

-- what the machine leaves in a byte, and where there is no such byte
pub with_ones_is : (s : Bytes) (q b : ℕ) → with_ones s q b ≡ set s q (bit_or (get_or s q 0) b)
unfolding with_ones
with_ones_is s q b = refl

pub with_ones_out : (s : Bytes) (q b : ℕ) → length s ≤ q → with_ones s q b ≡ s
unfolding with_ones
with_ones_out s q b h = set_out s q _ h

-- the three bytes that a number of at most 16 bits takes from bit i on, one after the other
pub number_set : (s o₁ o₂ o₃ : Bytes) (i v w : ℕ) → w ≡ v * 2 ^ (i % 8) → o₁ ≡ with_ones s (i / 8) (w % 256) → o₂ ≡ with_ones o₁ (i / 8 + 1) (w / 256 % 256) → o₃ ≡ with_ones o₂ (i / 8 + 2) (w / 65536 % 256) → o₃ ≡ with_number s i v
unfolding with_number
number_set s o₁ o₂ o₃ i v w e f g h =
    h ∙ ap (λ (z : Bytes). with_ones z (i / 8 + 2) (w / 65536 % 256)) (g ∙ ap (λ (z : Bytes). with_ones z (i / 8 + 1) (w / 256 % 256)) f)
    ∙ ap (λ (n : ℕ). with_ones (with_ones (with_ones s (i / 8) (n % 256)) (i / 8 + 1) (n / 256 % 256)) (i / 8 + 2) (n / 65536 % 256)) e

-- one bit is a byte's power of two
pub with_bit_ones : (s : Bytes) (q r : ℕ) → r < 8 → with_bit s (8 * q + r) ≡ with_ones s q (2 ^ r)
unfolding with_bit with_ones
with_bit_ones s q r h =
    let d : (8 * q + r) / 8 ≡ q = omega arith in
    let m : (8 * q + r) % 8 ≡ r = omega arith in
    rw (d, m)

-- ---- numbers of bits

-- a bit and the bits behind it, up to bit n
mod_bits : (n b x : ℕ) → b < 2 → (b + 2 * x) % 2 ^ suc n ≡ b + 2 * (x % 2 ^ n)
mod_bits n b x h =
    let d : (b + 2 * x) / 2 ^ 1 ≡ x = omega arith in
    let m : (b + 2 * x) % 2 ^ 1 ≡ b = omega arith in
    ap (λ (k : ℕ). (b + 2 * x) % 2 ^ k) (sym (add-one n)) ∙ mod-pow-add (b + 2 * x) n 1 ∙ omega (arith, m, ap (λ (k : ℕ). k % 2 ^ n) d)

bit_small : (b : Bool) → bit b < 2
bit_small true = omega arith
bit_small false = omega arith

-- the number of the first n bits
pub low_padded : (n : ℕ) (bs : Bits) → low_first (padded n bs) ≡ low_first bs % 2 ^ n
unfolding low_first padded
low_padded zero bs = sym (mod-one (low_first bs))
low_padded (suc n) [] = omega (arith, low_padded n [], mod_bits n 0 0 (omega arith))
low_padded (suc n) (b ∷ bs) = omega (arith, low_padded n bs, mod_bits n (bit b) (low_first bs) (bit_small b))

-- the number of the bits behind the first m
pub low_drop : (m : ℕ) (bs : Bits) → low_first (drop m bs) ≡ low_first bs / 2 ^ m
unfolding low_first
low_drop zero bs = omega arith
low_drop (suc m) [] = sym (zero-div (2 ^ suc m))
low_drop (suc m) (b ∷ bs) =
    let d : (bit b + 2 * low_first bs) / 2 ^ 1 ≡ low_first bs = omega (arith, bit_small b) in
    let w : 1 + m ≡ suc m = omega arith in
    low_drop m bs ∙ ap (λ (k : ℕ). k / 2 ^ m) (sym d) ∙ shr-shr (bit b + 2 * low_first bs) 1 m ∙ ap (λ (k : ℕ). (bit b + 2 * low_first bs) / 2 ^ k) w

-- the number of two lists of bits
pub low_append : (a b : Bits) → low_first (a ++ b) ≡ low_first a + 2 ^ length a * low_first b
unfolding low_first
low_append [] b = omega arith
low_append (x ∷ a) b =
    let n : ℕ = length a in
    omega (arith, low_append a b, ap (λ (p : ℕ). p * low_first b) (pow-succ' 2 n) ∙ mul_assoc 2 (2 ^ n) (low_first b))

-- a number moved up by k bits, up to bit j + k
mod_shifted : (j k x : ℕ) → x * 2 ^ k % 2 ^ (j + k) ≡ x % 2 ^ j * 2 ^ k
mod_shifted j k x = mod-pow-add (x * 2 ^ k) j k ∙ ap₂ (λ (a b : ℕ). a % 2 ^ j * 2 ^ k + b) (shl-shr x k) (mul-mod_left x (2 ^ k)) ∙ add-zero (x % 2 ^ j * 2 ^ k)

one_more : (y p : ℕ) → y * (2 * p) + p ≡ (1 + 2 * y) * p
one_more y p = omega (arith, add-mul 1 (2 * y) p, one-mul p, mul_assoc 2 y p, mul_left_comm y 2 p)

-- the ones of a bit at position r of a byte, and of the bits behind it
pub or_bits : (r x : ℕ) → r < 8 → bit_or (2 ^ r) (x * 2 ^ suc r % 2 ^ 8) ≡ (1 + 2 * x) * 2 ^ r % 2 ^ 8
or_bits r x h =
    let j : ℕ = 7 - r in
    let y : ℕ = x % 2 ^ j in
    let u : j + suc r ≡ 8 = omega arith in
    let v : suc j + r ≡ 8 = omega arith in
    ap (λ (k : ℕ). bit_or (2 ^ r) (x * 2 ^ suc r % 2 ^ k)) (sym u) ∙ ap (bit_or (2 ^ r)) (mod_shifted j (suc r) x)
    ∙ or_shifted_r y (suc r) (2 ^ r) (pow-lt (omega arith)) ∙ ap (λ (p : ℕ). y * p + 2 ^ r) (pow-succ' 2 r) ∙ one_more y (2 ^ r)
    ∙ ap (λ (k : ℕ). k * 2 ^ r) (sym (mod_bits j 1 x (omega arith))) ∙ sym (mod_shifted (suc j) r (1 + 2 * x)) ∙ ap (λ (k : ℕ). (1 + 2 * x) * 2 ^ r % 2 ^ k) v

-- a number moved up by r bits has its bits from the first byte's end on in the bytes behind
pub shifted_high : (r x : ℕ) → r ≤ 8 → x * 2 ^ r / 2 ^ 8 ≡ x / 2 ^ (8 - r)
shifted_high r x h =
    let u : r + (8 - r) ≡ 8 = omega arith in
    ap (λ (k : ℕ). x * 2 ^ r / 2 ^ k) (sym u) ∙ sym (shr-shr (x * 2 ^ r) r (8 - r)) ∙ ap (λ (k : ℕ). k / 2 ^ (8 - r)) (shl-shr x r)

-- n bits have a number below 2 ^ n
pub low_lt : (bs : Bits) → low_first bs < 2 ^ length bs
unfolding low_first
low_lt [] = omega arith
low_lt (b ∷ bs) = omega (arith, low_lt bs, bit_small b, pow-succ' 2 (length bs))
