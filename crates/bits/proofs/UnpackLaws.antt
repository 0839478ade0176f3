-- Bits by position and the bits that bytes hold: both views say the same.
use Rattle.std.specs.Prelude.{◌≡◌, refl, Bool, true, false, cond, [], ◌∷◌, ◌++◌, ℕ, zero, suc, ◌+◌, ◌*◌, ◌-◌, ◌/◌, ◌%◌, ◌^◌, ◌<◌, eqb, ltb, length, get_or, take, set}
use Rattle.std.proofs.Common.{sym, ap, ap₂, ◌∙◌, add-one, arith, eqb-true, ltb-true, ltb-false, length-set, get_or-append-add, get_or-set_same, get_or-set_other, ext_get_or, shr-shr}
use Rattle.std.proofs.Math.Nat.{zero-div}
use Rattle.std.proofs.lemmas.Bool.{eqb-false}
use Rattle.std.proofs.Math.ListN.{get_or-append}
use Rattle.std.proofs.lemmas.Nat.{mod-pow-add}
use Rattle.spec.specs.Bytes.{Bytes, Bits, bit, ones, low_first, low_bits, unpack}
use Rattle.bits.specs.Bits.{bit_at, rank, with_bit}
use Rattle.bits.proofs.BitLaws.{bit_with_bit, length_with_bit}

-- eight bits a byte
pub length_unpack : (s : Bytes) → length (unpack s) ≡ 8 * length s
unfolding unpack low_bits
length_unpack [] = refl
length_unpack (x ∷ s) = omega (arith, length_unpack s)

bit_mod : (x : ℕ) → bit (eqb (x % 2) 1) ≡ x % 2
bit_mod x = go (eqb (x % 2) 1) refl
  where
    go : (b : Bool) → eqb (x % 2) 1 ≡ b → bit b ≡ x % 2
    go true e = sym (eqb-true (x % 2) 1 e)
    go false e = let n = eqb-false (x % 2) 1 e in omega arith

-- digit i of a number
low_bit : (k x i : ℕ) → i < k → bit (get_or (low_bits k x) i false) ≡ x / 2 ^ i % 2
unfolding low_bits
low_bit zero x i h = absurd (omega arith)
low_bit (suc k) x zero h = let e : x / 2 ^ 0 ≡ x = omega arith in rw e (bit_mod x)
low_bit (suc k) x (suc i) h =
    let w : 1 + i ≡ suc i = omega arith in
    low_bit k (x / 2) i (omega arith) ∙ ap (λ (n : ℕ). n % 2) (shr-shr x 1 i ∙ ap (λ (z : ℕ). x / 2 ^ z) w)

-- as many bits as asked for
pub length_low_bits : (k x : ℕ) → length (low_bits k x) ≡ k
unfolding low_bits
length_low_bits zero x = refl
length_low_bits (suc k) x = ap suc (length_low_bits k (x / 2))

-- the number of the low bits is the rest by their power
pub low_number : (k x : ℕ) → low_first (low_bits k x) ≡ x % 2 ^ k
unfolding low_first low_bits
low_number zero x = omega arith
low_number (suc k) x =
    let m : x % 2 ^ suc k ≡ x / 2 % 2 ^ k * 2 + x % 2 = ap (λ (n : ℕ). x % 2 ^ n) (sym (add-one k)) ∙ mod-pow-add x k 1 in
    omega (arith, bit_mod x, low_number k (x / 2), m)

-- bit i by position is bit i of the bits
pub bit_unpack : (s : Bytes) (i : ℕ) → bit_at s i ≡ bit (get_or (unpack s) i false)
unfolding unpack
bit_unpack [] i = ap (λ (n : ℕ). n % 2) (zero-div _)
bit_unpack (x ∷ s) i = go (ltb i 8) refl (bit_unpack s)
  where
    go : (b : Bool) → ltb i 8 ≡ b → ((j : ℕ) → bit_at s j ≡ bit (get_or (unpack s) j false)) → bit_at (x ∷ s) i ≡ bit (get_or (low_bits 8 x ++ unpack s) i false)
    go true q ih =
        let l : i < 8 = ltb-true i 8 q in
        let d : i / 8 ≡ 0 = omega arith in
        let m : i % 8 ≡ i = omega arith in
        rw (d, m) (sym (low_bit 8 x i l) ∙ ap bit (sym (get_or-append (low_bits 8 x) (unpack s) false i (omega (arith, length_low_bits 8 x)))))
    go false q ih =
        let l = ltb-false i 8 q in
        let j : ℕ = i - 8 in
        let d : i / 8 ≡ suc (j / 8) = omega arith in
        let m : i % 8 ≡ j % 8 = omega arith in
        let w : length (low_bits 8 x) + j ≡ i = omega (arith, length_low_bits 8 x) in
        ap₂ (λ (a b : ℕ). get_or (x ∷ s) a 0 / 2 ^ b % 2) d m ∙ ih j
        ∙ ap bit (sym (get_or-append-add (low_bits 8 x) (unpack s) j false) ∙ ap (λ (k : ℕ). get_or (low_bits 8 x ++ unpack s) k false) w)

ones_take : (bs : Bits) (k : ℕ) → ones (take (suc k) bs) ≡ ones (take k bs) + bit (get_or bs k false)
unfolding ones
ones_take [] zero = refl
ones_take [] (suc k) = refl
ones_take (b ∷ bs) zero = omega arith
ones_take (b ∷ bs) (suc k) = omega (arith, ones_take bs k)

-- the ones before bit k are those of the first k bits
pub rank_unpack : (s : Bytes) (k : ℕ) → rank s k ≡ ones (take k (unpack s))
unfolding rank ones
rank_unpack s zero = refl
rank_unpack s (suc k) = ap₂ (λ (a b : ℕ). a + b) (rank_unpack s k) (bit_unpack s k) ∙ sym (ones_take (unpack s) k)

bit_one : (b c : Bool) → bit b ≡ bit c → b ≡ c
bit_one true true e = refl
bit_one true false e = absurd (omega arith)
bit_one false true e = absurd (omega arith)
bit_one false false e = refl

-- a bit that is set, among the bits
pub unpack_with_bit : (s : Bytes) (i : ℕ) → i < 8 * length s → unpack (with_bit s i) ≡ set (unpack s) i true
unpack_with_bit s i h =
    let l : length (unpack (with_bit s i)) ≡ 8 * length s = length_unpack (with_bit s i) ∙ ap (λ (n : ℕ). 8 * n) (length_with_bit s i) in
    ext_get_or false (unpack (with_bit s i)) (set (unpack s) i true) (l ∙ sym (length-set (unpack s) i true ∙ length_unpack s)) (λ k q. bit_one _ _ (each k (eqb k i) refl))
  where
    each : (k : ℕ) (b : Bool) → eqb k i ≡ b → bit (get_or (unpack (with_bit s i)) k false) ≡ bit (get_or (set (unpack s) i true) k false)
    each k true e =
        let w : k ≡ i = eqb-true k i e in
        sym (bit_unpack (with_bit s i) k) ∙ bit_with_bit s i h k ∙ ap (λ (b : Bool). cond b 1 (bit_at s k)) e
        ∙ sym (ap bit (ap (λ (n : ℕ). get_or (set (unpack s) i true) n false) w ∙ get_or-set_same (unpack s) i true false (omega (arith, length_unpack s))))
    each k false e =
        sym (bit_unpack (with_bit s i) k) ∙ bit_with_bit s i h k ∙ ap (λ (b : Bool). cond b 1 (bit_at s k)) e
        ∙ bit_unpack s k ∙ ap bit (sym (get_or-set_other (unpack s) i k true false (eqb-false k i e)))
