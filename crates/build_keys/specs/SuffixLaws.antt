-- Setting a number's ones from a bit on sets its bits there. Used by the functions that write suffix slots.
use Rattle.std.specs.Prelude.{ℕ, zero, suc, ◌+◌, ◌*◌, ◌-◌, ◌/◌, ◌%◌, ◌^◌, ◌≤◌, ◌<◌, ◌≡◌, refl, Bool, true, false, [], ◌∷◌, length, drop, ltb}
use Rattle.std.proofs.Common.{sym, ap, ap₂, ◌∙◌, arith, add-zero, zero-mul, mul-one, mul_assoc, mul_left_comm, length-drop, drop_of_length-le, ltb-true, ltb-false}
use Rattle.std.proofs.Math.Nat.{mul-mod_left, pow-succ'}
use Rattle.std.proofs.Math.Seq.{drop-nil}
use Rattle.spec.specs.Bytes.{Bytes, Bits, low_first, padded}
use Rattle.spec.specs.Image.{positions}
use Rattle.theory.proofs.KeyLeaves.{length_padded}
use Rattle.bits.specs.Bits.{with_bit, with_ones, with_number}
use Rattle.bits.proofs.NumberLaws.{with_ones_none, with_ones_twice, with_bit_ones, number_set, or_bits, shifted_high, low_drop, low_padded}
use Rattle.build_laws.specs.Passes.{with_bits}

-- a bit that is set at position r of byte q, and the byte's share of the bits behind it
share_one : (q r : ℕ) (bs : Bits) (s : Bytes) → r < 8 → with_ones (with_bit s (8 * q + r)) q (low_first bs * 2 ^ suc r % 2 ^ 8) ≡ with_ones s q (low_first (true ∷ bs) * 2 ^ r % 2 ^ 8)
unfolding low_first
share_one q r bs s h =
    let x : ℕ = low_first bs * 2 ^ suc r % 2 ^ 8 in
    ap (λ (z : Bytes). with_ones z q x) (with_bit_ones s q r h) ∙ with_ones_twice s q (2 ^ r) x ∙ ap (with_ones s q) (or_bits r (low_first bs) h)

-- a bit that is not set
share_zero : (q r : ℕ) (bs : Bits) (s : Bytes) → with_ones s q (low_first bs * 2 ^ suc r % 2 ^ 8) ≡ with_ones s q (low_first (false ∷ bs) * 2 ^ r % 2 ^ 8)
unfolding low_first
share_zero q r bs s =
    let l : ℕ = low_first bs in
    let e : l * 2 ^ suc r ≡ (0 + 2 * l) * 2 ^ r = ap (λ (p : ℕ). l * p) (pow-succ' 2 r) ∙ omega (arith, mul_left_comm l 2 (2 ^ r), mul_assoc 2 l (2 ^ r)) in
    ap (λ (n : ℕ). with_ones s q (n % 2 ^ 8)) e

-- the share of byte q in bits from its position r on
byte_share : (q r : ℕ) (bs : Bits) (s : Bytes) → r ≤ 8 → with_bits (positions (8 * q + r) bs) s ≡ with_bits (positions (8 * (q + 1)) (drop (8 - r) bs)) (with_ones s q (low_first bs * 2 ^ r % 2 ^ 8))
unfolding low_first with_bits positions
byte_share q r [] s h = rw (drop-nil {A = Bool} (8 - r), zero-mul (2 ^ r)) (sym (with_ones_none s q))
byte_share q r (b ∷ bs) s h = go (ltb r 8) refl b (λ z l. byte_share q (suc r) bs z l)
  where
    goal : Bool → Type 0
    goal b = with_bits (positions (8 * q + r) (b ∷ bs)) s ≡ with_bits (positions (8 * (q + 1)) (drop (8 - r) (b ∷ bs))) (with_ones s q (low_first (b ∷ bs) * 2 ^ r % 2 ^ 8))

    go : (v : Bool) → ltb r 8 ≡ v → (b : Bool)
        → ((z : Bytes) → suc r ≤ 8 → with_bits (positions (8 * q + suc r) bs) z ≡ with_bits (positions (8 * (q + 1)) (drop (8 - suc r) bs)) (with_ones z q (low_first bs * 2 ^ suc r % 2 ^ 8)))
        → goal b
    go true e true ih =
        let l : r < 8 = ltb-true r 8 e in
        let w : suc (8 * q + r) ≡ 8 * q + suc r = omega arith in
        let d : suc (8 - suc r) ≡ 8 - r = omega arith in
        ap (λ (k : ℕ). with_bits (positions k bs) (with_bit s (8 * q + r))) w ∙ ih (with_bit s (8 * q + r)) l
        ∙ ap₂ (λ (k : ℕ) (z : Bytes). with_bits (positions (8 * (q + 1)) (drop k (true ∷ bs))) z) d (share_one q r bs s l)
    go true e false ih =
        let l : r < 8 = ltb-true r 8 e in
        let w : suc (8 * q + r) ≡ 8 * q + suc r = omega arith in
        let d : suc (8 - suc r) ≡ 8 - r = omega arith in
        ap (λ (k : ℕ). with_bits (positions k bs) s) w ∙ ih s l
        ∙ ap₂ (λ (k : ℕ) (z : Bytes). with_bits (positions (8 * (q + 1)) (drop k (false ∷ bs))) z) d (share_zero q r bs s)
    go false e b ih =
        let l : 8 ≡ r = omega (arith, ltb-false r 8 e) in
        let w : 8 * q + r ≡ 8 * (q + 1) = omega arith in
        let d : 0 ≡ 8 - r = omega arith in
        let z : 0 ≡ low_first (b ∷ bs) * 2 ^ r % 2 ^ 8 = sym (mul-mod_left (low_first (b ∷ bs)) (2 ^ 8)) ∙ ap (λ (k : ℕ). low_first (b ∷ bs) * 2 ^ k % 2 ^ 8) l in
        ap₂ (λ (k : ℕ) (o : Bytes). with_bits (positions k (b ∷ bs)) o) w (sym (with_ones_none s q))
        ∙ ap₂ (λ (k x : ℕ). with_bits (positions (8 * (q + 1)) (drop k (b ∷ bs))) (with_ones s q x)) d z

-- the share of byte q in bits from its first bit on
whole_share : (q : ℕ) (bs : Bits) (s : Bytes) → with_bits (positions (8 * q) bs) s ≡ with_bits (positions (8 * (q + 1)) (drop 8 bs)) (with_ones s q (low_first bs % 2 ^ 8))
whole_share q bs s =
    let w : 8 * q + 0 ≡ 8 * q = omega arith in
    ap (λ (k : ℕ). with_bits (positions k bs) s) (sym w) ∙ byte_share q 0 bs s (omega arith) ∙ ap (λ (n : ℕ). with_bits (positions (8 * (q + 1)) (drop 8 bs)) (with_ones s q (n % 2 ^ 8))) (mul-one (low_first bs))

-- Setting the ones of the number of at most 16 bits sets these bits.
pub number_bits : (bs : Bits) (base : ℕ) (s : Bytes) → length bs ≤ 16 → with_number s base (low_first bs) ≡ with_bits (positions base bs) s
unfolding with_bits positions
number_bits bs base s h =
    let q : ℕ = base / 8 in
    let r : ℕ = base % 8 in
    let w : ℕ = low_first bs * 2 ^ r in
    let bs₁ : Bits = drop (8 - r) bs in
    let bs₂ : Bits = drop 8 bs₁ in
    let s₁ : Bytes = with_ones s q (w % 256) in
    let at : 8 * q + r ≡ base = omega arith in
    let l₁ : low_first bs₁ ≡ w / 256 = low_drop (8 - r) bs ∙ sym (shifted_high r (low_first bs) (omega arith)) in
    let l₂ : low_first bs₂ ≡ w / 65536 = low_drop 8 bs₁ ∙ omega (arith, l₁) in
    let two : q + 1 + 1 ≡ q + 2 = omega arith in
    let end : drop 8 bs₂ ≡ [] = let l : length bs₂ ≤ 8 = omega (arith, length-drop 8 bs₁, length-drop (8 - r) bs) in drop_of_length-le bs₂ l in
    sym
    (ap (λ (k : ℕ). with_bits (positions k bs) s) (sym at) ∙ byte_share q r bs s (omega arith) ∙ whole_share (q + 1) bs₁ s₁ ∙ whole_share (q + 1 + 1) bs₂ (with_ones s₁ (q + 1) (low_first bs₁ % 256))
    ∙ ap (λ (z : Bits). with_bits (positions (8 * (q + 1 + 1 + 1)) z) (with_ones (with_ones s₁ (q + 1) (low_first bs₁ % 256)) (q + 1 + 1) (low_first bs₂ % 256))) end
    ∙ number_set s s₁ (with_ones s₁ (q + 1) (low_first bs₁ % 256)) _ base (low_first bs) w refl refl (ap (λ (n : ℕ). with_ones s₁ (q + 1) (n % 256)) l₁)
    (ap₂ (λ (k n : ℕ). with_ones (with_ones s₁ (q + 1) (low_first bs₁ % 256)) k (n % 256)) two l₂))

-- bits from a bit on, in two parts
part_bits : (m : ℕ) (bs : Bits) (base : ℕ) (s : Bytes) → with_bits (positions base bs) s ≡ with_bits (positions (base + m) (drop m bs)) (with_bits (positions base (padded m bs)) s)
unfolding with_bits positions padded
part_bits zero bs base s = ap (λ (i : ℕ). with_bits (positions i bs) s) (sym (add-zero base))
part_bits (suc m) [] base s =
    part_bits m [] (suc base) s ∙ ap (λ (bs : Bits). with_bits (positions (suc base + m) bs) (with_bits (positions (suc base) (padded m [])) s)) (drop-nil {A = Bool} m)
part_bits (suc m) (b ∷ bs) base s = go b (λ z. part_bits m bs (suc base) z)
  where
    w : suc base + m ≡ base + suc m
    w = omega arith

    go : (b : Bool) → ((z : Bytes) → with_bits (positions (suc base) bs) z ≡ with_bits (positions (suc base + m) (drop m bs)) (with_bits (positions (suc base) (padded m bs)) z))
        → with_bits (positions base (b ∷ bs)) s ≡ with_bits (positions (base + suc m) (drop m bs)) (with_bits (positions base (b ∷ padded m bs)) s)
    go true ih = ih (with_bit s base) ∙ ap (λ (i : ℕ). with_bits (positions i (drop m bs)) (with_bits (positions (suc base) (padded m bs)) (with_bit s base))) w
    go false ih = ih s ∙ ap (λ (i : ℕ). with_bits (positions i (drop m bs)) (with_bits (positions (suc base) (padded m bs)) s)) w

-- Setting the ones of the low 16 bits of a number of at most 32 bits, and those of the others behind them, sets its bits.
pub wide_bits : (bs : Bits) (base : ℕ) (s : Bytes) → length bs ≤ 32 → with_number (with_number s base (low_first bs % 65536)) (base + 16) (low_first bs / 65536) ≡ with_bits (positions base bs) s
wide_bits bs base s h =
    let a : length (padded 16 bs) ≤ 16 = omega (arith, length_padded 16 bs) in
    let b : length (drop 16 bs) ≤ 16 = omega (arith, length-drop 16 bs) in
    ap₂ (λ (x y : ℕ). with_number (with_number s base x) (base + 16) y) (sym (low_padded 16 bs)) (sym (low_drop 16 bs))
    ∙ number_bits (drop 16 bs) (base + 16) (with_number s base (low_first (padded 16 bs))) b
    ∙ ap (with_bits (positions (base + 16) (drop 16 bs))) (number_bits (padded 16 bs) base s a)
    ∙ sym (part_bits 16 bs base s)

-- Setting the ones of 0 changes nothing.
pub no_number : (s : Bytes) (i : ℕ) → with_number s i 0 ≡ s
unfolding low_first with_bits positions
no_number s i = number_bits [] i s (omega arith)
