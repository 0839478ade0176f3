-- A bit that is set: every other bit keeps its value.
use Rattle.std.specs.Prelude.{◌≡◌, refl, Bool, true, false, cond, ℕ, zero, suc, ◌+◌, ◌*◌, ◌-◌, ◌/◌, ◌%◌, ◌^◌, ◌<◌, eqb, ltb, length, get_or, set}
use Rattle.std.proofs.Common.{sym, ap, ap₂, ◌∙◌, mod-lt, zero-lt-suc, mul-div_cancel, one-mul, arith, eqb-true, eq-eqb, ne_eqb, ltb-true, ltb-false, length-set, get_or-set_same, get_or-set_other, pow_pos, pow-add}
use Rattle.std.proofs.Math.Nat.{div-eq_of_lt, mul-mod_left}
use Rattle.std.proofs.lemmas.Bool.{eqb-false}
use Rattle.std.proofs.Math.Pow.{pow-lt}
use Rattle.std.specs.Int.Bits.{bit_or, or_zero_r}
use Rattle.std.proofs.lemmas.Nat.{or_shr, or_mod}
use Rattle.spec.specs.Bytes.{Bytes}
use Rattle.bits.specs.Bits.{bit_at, with_bit}

-- what the machine leaves
pub with_bit_is : (s : Bytes) (i : ℕ) → with_bit s i ≡ set s (i / 8) (bit_or (get_or s (i / 8) 0) (2 ^ (i % 8)))
unfolding with_bit
with_bit_is s i = refl

-- as many bytes as before
pub length_with_bit : (s : Bytes) (i : ℕ) → length (with_bit s i) ≡ length s
unfolding with_bit
length_with_bit s i = length-set s (i / 8) _

pow_self : (j : ℕ) → 2 ^ j / 2 ^ j ≡ 1
pow_self j = ap (λ (n : ℕ). n / 2 ^ j) (sym (one-mul (2 ^ j))) ∙ mul-div_cancel 1 (pow_pos j)

pow_above : (j t : ℕ) → t < j → 2 ^ j / 2 ^ t % 2 ≡ 0
pow_above j t h =
    let w : j ≡ (j - t - 1) + 1 + t = omega arith in
    ap (λ (n : ℕ). 2 ^ n / 2 ^ t % 2) w ∙ ap (λ (n : ℕ). n / 2 ^ t % 2) (pow-add 2 ((j - t - 1) + 1) t)
    ∙ ap (λ (n : ℕ). n % 2) (mul-div_cancel (2 ^ ((j - t - 1) + 1)) (pow_pos t)) ∙ ap (λ (n : ℕ). n % 2) (pow-add 2 (j - t - 1) 1)
    ∙ mul-mod_left (2 ^ (j - t - 1)) 2

pow_below : (j t : ℕ) → j < t → 2 ^ j / 2 ^ t % 2 ≡ 0
pow_below j t h = ap (λ (n : ℕ). n % 2) (div-eq_of_lt (pow-lt h))

or_digit : (b j t : ℕ) → bit_or b (2 ^ j) / 2 ^ t % 2 ≡ bit_or (b / 2 ^ t % 2) (2 ^ j / 2 ^ t % 2)
or_digit b j t = ap (λ (n : ℕ). n % 2 ^ 1) (or_shr b (2 ^ j) t) ∙ or_mod (b / 2 ^ t) (2 ^ j / 2 ^ t) 1

one_or : (d : ℕ) → d < 2 → bit_or d 1 ≡ 1
one_or zero h = refl
one_or (suc zero) h = refl
one_or (suc (suc d)) h = absurd (omega arith)

-- the digits of a number with digit j set
or_bit : (b j t : ℕ) → bit_or b (2 ^ j) / 2 ^ t % 2 ≡ cond (eqb t j) 1 (b / 2 ^ t % 2)
or_bit b j t = go (eqb t j) refl
  where
    go : (v : Bool) → eqb t j ≡ v → bit_or b (2 ^ j) / 2 ^ t % 2 ≡ cond v 1 (b / 2 ^ t % 2)
    go true p =
        let e : t ≡ j = eqb-true t j p in
        let f : 2 ^ j / 2 ^ t % 2 ≡ 1 = ap (λ (n : ℕ). 2 ^ j / 2 ^ n % 2) e ∙ ap (λ (n : ℕ). n % 2) (pow_self j) in
        or_digit b j t ∙ ap (bit_or (b / 2 ^ t % 2)) f ∙ one_or (b / 2 ^ t % 2) (mod-lt (b / 2 ^ t) (zero-lt-suc 1))
    go false p = or_digit b j t ∙ ap (bit_or (b / 2 ^ t % 2)) (clear (ltb t j) refl) ∙ or_zero_r (b / 2 ^ t % 2)
      where
        clear : (v : Bool) → ltb t j ≡ v → 2 ^ j / 2 ^ t % 2 ≡ 0
        clear true q = pow_above j t (ltb-true t j q)
        clear false q =
            let n = eqb-false t j p in
            let l = ltb-false t j q in
            pow_below j t (omega arith)

-- bit i is 1, and every other bit is as before
pub bit_with_bit : (s : Bytes) (i : ℕ) → i < 8 * length s → (k : ℕ) → bit_at (with_bit s i) k ≡ cond (eqb k i) 1 (bit_at s k)
unfolding with_bit
bit_with_bit s i h k = go (eqb (k / 8) (i / 8)) refl
  where
    go : (b : Bool) → eqb (k / 8) (i / 8) ≡ b → bit_at (set s (i / 8) (bit_or (get_or s (i / 8) 0) (2 ^ (i % 8)))) k ≡ cond (eqb k i) 1 (bit_at s k)
    go true p =
        let e : k / 8 ≡ i / 8 = eqb-true _ _ p in
        let f : get_or (set s (i / 8) (bit_or (get_or s (i / 8) 0) (2 ^ (i % 8)))) (k / 8) 0 ≡ bit_or (get_or s (i / 8) 0) (2 ^ (i % 8)) =
        ap (λ (n : ℕ). get_or (set s (i / 8) (bit_or (get_or s (i / 8) 0) (2 ^ (i % 8)))) n 0) e ∙ get_or-set_same s (i / 8) (bit_or (get_or s (i / 8) 0) (2 ^ (i % 8))) 0 (omega arith) in
        ap (λ (n : ℕ). n / 2 ^ (k % 8) % 2) f ∙ or_bit (get_or s (i / 8) 0) (i % 8) (k % 8)
        ∙ ap₂ (λ (b : Bool) (n : ℕ). cond b 1 (get_or s n 0 / 2 ^ (k % 8) % 2)) (same (eqb (k % 8) (i % 8)) refl) (sym e)
      where
        same : (b : Bool) → eqb (k % 8) (i % 8) ≡ b → eqb (k % 8) (i % 8) ≡ eqb k i
        same true q =
            let e = eqb-true (k / 8) (i / 8) p in
            let g = eqb-true (k % 8) (i % 8) q in
            let m : k ≡ i = omega arith in
            q ∙ sym (eq-eqb k i m)
        same false q =
            let g = eqb-false (k % 8) (i % 8) q in
            q ∙ sym (ne_eqb k i (λ r. g (ap (λ (n : ℕ). n % 8) r)))
    go false p =
        let n = eqb-false (k / 8) (i / 8) p in
        ap (λ (x : ℕ). x / 2 ^ (k % 8) % 2) (get_or-set_other s (i / 8) (k / 8) (bit_or (get_or s (i / 8) 0) (2 ^ (i % 8))) 0 n)
        ∙ sym (ap (λ (b : Bool). cond b 1 (bit_at s k)) (ne_eqb k i (λ r. n (ap (λ (m : ℕ). m / 8) r))))
