-- The first n bits of a body, by position: single bits, counts of ones, and where a one stands.
use Rattle.std.specs.Prelude.{ℕ, zero, suc, ◌+◌, ◌*◌, ◌<◌, ◌≤◌, ◌≡◌, refl, Bool, true, false, [], ◌∷◌, length, get_or, take, drop, eqb, ltb}
use Rattle.std.proofs.Common.{sym, ap, ◌∙◌, arith, length-take-le, take_all, take-take, get_or-take, drop-cons, ltb-true, ltb-false}
use Rattle.spec.specs.Bytes.{Bytes, Bits, ones, unpack}
use Rattle.bits.specs.Bits.{bit_at, rank, select}
use Rattle.bits.proofs.UnpackLaws.{length_unpack, bit_unpack, rank_unpack}
use Rattle.bits_select.specs.SelectLaws.{select_here, select_all}
use Rattle.check_levels.specs.SparseNodes.{position_of}
use Rattle.check_levels.specs.MaskLaws.{is_bit}

-- the first n bits that bytes hold
abbrev pub bits : Bytes → ℕ → Bits
bits s n = take n (unpack s)

-- bit i is set
abbrev pub is_set : Bytes → ℕ → Bool
is_set s i = eqb (bit_at s i) 1

pub length_bits : (s : Bytes) (n : ℕ) → n ≤ 8 * length s → length (bits s n) ≡ n
length_bits s n h = length-take-le n (unpack s) (omega (arith, length_unpack s))

-- all bits
pub bits_all : (s : Bytes) (n : ℕ) → 8 * length s ≡ n → bits s n ≡ unpack s
bits_all s n h = take_all n (unpack s) (omega (arith, length_unpack s))

-- a bit of the list is the bit at its position
pub bit_here : (s : Bytes) (n i : ℕ) → i < n → get_or (bits s n) i false ≡ is_set s i
bit_here s n i h = get_or-take n (unpack s) i false h ∙ sym (is_bit (get_or (unpack s) i false)) ∙ ap (λ (k : ℕ). eqb k 1) (sym (bit_unpack s i))

-- the bits from one on
pub bits_from : (s : Bytes) (n i : ℕ) → n ≤ 8 * length s → i < n → drop i (bits s n) ≡ is_set s i ∷ drop (suc i) (bits s n)
bits_from s n i l h = drop-cons (bits s n) i false (omega (arith, length_bits s n l)) ∙ ap (λ (b : Bool). b ∷ drop (suc i) (bits s n)) (bit_here s n i h)

-- the ones among the first k
pub ones_bits : (s : Bytes) (n k : ℕ) → k ≤ n → ones (take k (bits s n)) ≡ rank s k
ones_bits s n k h = ap ones (take-take k n (unpack s) h) ∙ sym (rank_unpack s k)

-- all ones
pub ones_all : (s : Bytes) (n : ℕ) → ones (bits s n) ≡ rank s n
ones_all s n = sym (rank_unpack s n)

-- what tells where a one stands
position_is : (m : ℕ) (bs : Bits) → (position_of m bs ≤ length bs) × (ones (take (position_of m bs) bs) ≤ m) × (position_of m bs < length bs → m < ones (take (suc (position_of m bs)) bs))
unfolding position_of ones
position_is m [] = (omega arith, omega arith, λ h. absurd (omega arith))
position_is m (false ∷ bs) = let q = position_is m bs in (omega (arith, q.0), omega (arith, q.1), λ h. omega (arith, q.2 (omega arith)))
position_is zero (true ∷ bs) = (omega arith, omega arith, λ h. omega arith)
position_is (suc m) (true ∷ bs) = let q = position_is m bs in (omega (arith, q.0), omega (arith, q.1), λ h. omega (arith, q.2 (omega arith)))

-- the m-th one, counted from 0, stands at its select
pub position_select : (s : Bytes) (n m : ℕ) → n ≤ 8 * length s → position_of m (bits s n) ≡ select s n m
position_select s n m l = go (position_is m (bits s n)) (ltb (position_of m (bits s n)) n) refl
  where
    q : ℕ
    q = position_of m (bits s n)

    long : length (bits s n) ≡ n
    long = length_bits s n l

    go : (q ≤ length (bits s n)) × (ones (take q (bits s n)) ≤ m) × (q < length (bits s n) → m < ones (take (suc q) (bits s n))) → (b : Bool) → ltb q n ≡ b → q ≡ select s n m
    go f true e =
        let h = ltb-true q n e in
        let next : suc q ≡ q + 1 = omega arith in
        sym (select_here s n m q (omega arith) (omega (arith, f.1, ones_bits s n q (omega arith)))
        (omega (arith, f.2 (omega (arith, long)), ones_bits s n (suc q) (omega arith), ap (rank s) next)))
    go f false e =
        let w : q ≡ n = omega (arith, ltb-false q n e, f.0, long) in
        w ∙ sym (select_all s n m (omega (arith, f.1, ones_bits s n q (omega (arith, w)), ap (rank s) w)))
