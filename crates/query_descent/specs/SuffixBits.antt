-- Whether a key has a slot's bits, by two numbers: that of the slot's bits, and that of the key's.
use Rattle.std.specs.Prelude.{ℕ, suc, ◌+◌, ◌*◌, ◌/◌, ◌%◌, ◌^◌, ◌<◌, ◌≡◌, refl, Bool, true, false, ◌&&◌, [], ◌∷◌, length, get_or, drop, eqb}
use Rattle.std.proofs.Common.{sym, ap, ◌∙◌, arith, add-one, eq-eqb, ne_eqb, eqb-true}
use Rattle.std.specs.Bool.{beq}
use Rattle.std.proofs.lemmas.Nat.{mod-pow-add}
use Rattle.std.proofs.lemmas.Bool.{eqb-false}
use Rattle.spec.specs.Bytes.{Bytes, Bits, bit, low_first, same_bits}
use Rattle.spec.specs.Leaves.{hash_bits, bits_behind}
use Rattle.bits.proofs.CoverLaws.{half_bit}
use Rattle.image.specs.SuffixNumbers.{length_behind}
use Rattle.query_descent.specs.Root.{has_suffix}

-- bits are the same exactly if their numbers are
same_numbers : (a b : Bits) → length a ≡ length b → same_bits a b ≡ eqb (low_first a) (low_first b)
unfolding same_bits low_first
same_numbers [] [] h = refl
same_numbers [] (y ∷ b) h = absurd (omega arith)
same_numbers (x ∷ a) [] h = absurd (omega arith)
same_numbers (x ∷ a) (y ∷ b) h = ap (λ (z : Bool). beq x y && z) (same_numbers a b (omega arith)) ∙ go x y (eqb (low_first a) (low_first b)) refl
  where
    go : (x y e : Bool) → eqb (low_first a) (low_first b) ≡ e → beq x y && e ≡ eqb (bit x + 2 * low_first a) (bit y + 2 * low_first b)
    go true true true p = sym (eq-eqb (1 + 2 * low_first a) (1 + 2 * low_first b) (omega (arith, eqb-true (low_first a) (low_first b) p)))
    go true true false p = sym (ne_eqb (1 + 2 * low_first a) (1 + 2 * low_first b) (λ q. eqb-false (low_first a) (low_first b) p (omega (arith, q))))
    go true false e p = sym (ne_eqb (1 + 2 * low_first a) (0 + 2 * low_first b) (λ q. omega (arith, q)))
    go false true e p = sym (ne_eqb (0 + 2 * low_first a) (1 + 2 * low_first b) (λ q. omega (arith, q)))
    go false false true p = sym (eq-eqb (0 + 2 * low_first a) (0 + 2 * low_first b) (omega (arith, eqb-true (low_first a) (low_first b) p)))
    go false false false p = sym (ne_eqb (0 + 2 * low_first a) (0 + 2 * low_first b) (λ q. eqb-false (low_first a) (low_first b) p (omega (arith, q))))

-- the number of bits that are the lowest digits of x
low_digits : (s : Bits) (x : ℕ) → ((j : ℕ) → j < length s → x / 2 ^ j % 2 ≡ bit (get_or s j false)) → x % 2 ^ length s ≡ low_first s
unfolding low_first
low_digits [] x d = omega arith
low_digits (b ∷ s) x d =
    let n : ℕ = length s in
    let e : x / 2 ^ 0 ≡ x = omega arith in
    let h : x / 2 ^ 1 ≡ x / 2 = omega arith in
    let z : x % 2 ≡ bit b = ap (λ (k : ℕ). k % 2) (sym e) ∙ d 0 (omega arith) in
    let ih : x / 2 % 2 ^ n ≡ low_first s = low_digits s (x / 2) (λ j l. ap (λ (k : ℕ). k % 2) (half_bit x j) ∙ d (suc j) (omega arith)) in
    ap (λ (k : ℕ). x % 2 ^ k) (sym (add-one n)) ∙ mod-pow-add x n 1 ∙ omega (arith, z, ih, ap (λ (k : ℕ). k % 2 ^ n) h)

-- an equation of numbers, turned round
eqb_turned : (m n : ℕ) → eqb m n ≡ eqb n m
eqb_turned m n = go (eqb m n) refl
  where
    go : (e : Bool) → eqb m n ≡ e → e ≡ eqb n m
    go true p = sym (eq-eqb n m (sym (eqb-true m n p)))
    go false p = sym (ne_eqb n m (λ r. eqb-false m n p (sym r)))

-- Bits are the slot's exactly if their number is that of the lowest digits of the slot's, as many as it has bits.
pub number_same : (s b : Bits) (w x : ℕ) → length s ≡ w → length b ≡ w → ((j : ℕ) → j < w → x / 2 ^ j % 2 ≡ bit (get_or s j false)) → eqb (x % 2 ^ w) (low_first b) ≡ same_bits b s
number_same s b w x l m j =
    let u : x % 2 ^ w ≡ low_first s = rw l at (low_digits s x (λ i g. j i (omega arith))) in
    ap (λ (n : ℕ). eqb n (low_first b)) u ∙ eqb_turned (low_first s) (low_first b) ∙ sym (same_numbers b s (m ∙ sym l))

-- Bits of which there are none are the same.
pub hash_none : (s : Bits) (h : ℕ) (k : Bytes) → length s ≡ 0 → h ≡ 0 → same_bits (hash_bits h k) s ≡ true
unfolding same_bits hash_bits
hash_none [] h k l e = rw e
hash_none (b ∷ s) h k l e = absurd (omega arith)

-- The key's rest behind its first d bytes has the suffix exactly if the number of its bits there is that of the lowest digits.
pub suffix_same : (s : Bits) (w d x : ℕ) (k : Bytes) → length s ≡ w → ((j : ℕ) → j < w → x / 2 ^ j % 2 ≡ bit (get_or s j false)) → eqb (x % 2 ^ w) (low_first (bits_behind w d k)) ≡ has_suffix s (drop d k)
unfolding has_suffix bits_behind
suffix_same s w d x k l j = number_same s (bits_behind w d k) w x l (length_behind w d k) j ∙ ap (λ (n : ℕ). same_bits (bits_behind n d k) s) (sym l)

-- A suffix of no bits is in every key.
pub suffix_none : (s : Bits) (r : Bytes) → length s ≡ 0 → has_suffix s r ≡ true
unfolding has_suffix
suffix_none [] r h = refl
suffix_none (b ∷ s) r h = absurd (omega arith)
