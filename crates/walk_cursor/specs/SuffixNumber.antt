-- Suffix bits as a number, the first bit lowest.
use Rattle.std.specs.Prelude.{ℕ, zero, suc, ◌+◌, ◌/◌, ◌%◌, ◌^◌, ◌<◌, ◌≡◌, refl, Bool, true, false, [], ◌∷◌, length, get_or, replicate, eqb}
use Rattle.std.proofs.Common.{sym, ap, ap₂, ◌∙◌, arith, shr-shr}
use Rattle.spec.specs.Bytes.{Bits, bit, low_bits}

-- the low bits of a number whose digits they are
pub number_bits : (bs : Bits) (n x : ℕ) → length bs ≡ n → ((j : ℕ) → j < n → x / 2 ^ j % 2 ≡ bit (get_or bs j false)) → low_bits n x ≡ bs
unfolding low_bits
number_bits [] zero x h d = refl
number_bits [] (suc n) x h d = absurd (omega arith)
number_bits (b ∷ bs) zero x h d = absurd (omega arith)
number_bits (b ∷ bs) (suc n) x h d =
    let e : x / 2 ^ 0 ≡ x = omega arith in
    ap₂ (λ (c : Bool) (cs : Bits). c ∷ cs) (first b (ap (λ (z : ℕ). z % 2) (sym e) ∙ d 0 (omega arith))) (number_bits bs n (x / 2) (omega arith) (λ j l. ap (λ (z : ℕ). z % 2) (half j) ∙ d (suc j) (omega arith)))
  where
    first : (b : Bool) → x % 2 ≡ bit b → eqb (x % 2) 1 ≡ b
    first true e = rw e
    first false e = rw e

    half : (j : ℕ) → x / 2 / 2 ^ j ≡ x / 2 ^ suc j
    half j = let w : 1 + j ≡ suc j = omega arith in shr-shr x 1 j ∙ ap (λ (z : ℕ). x / 2 ^ z) w

-- the bits of zero
pub number_zero : (n : ℕ) → low_bits n 0 ≡ replicate n false
unfolding low_bits
number_zero zero = refl
number_zero (suc n) = ap (λ (bs : Bits). false ∷ bs) (number_zero n)
