-- Spare bits: that no bit is set behind the first n of a body, by the body's last byte. Used by the check of number 13.
use Rattle.std.specs.Prelude.{ℕ, zero, suc, ◌+◌, ◌-◌, ◌*◌, ◌/◌, ◌%◌, ◌^◌, ◌≤◌, ◌<◌, ◌≡◌, refl, Bool, true, false, not, ◌&&◌, [], ◌∷◌, ◌++◌, get_or, drop, eqb}
use Rattle.std.proofs.Common.{sym, ap₂, ◌∙◌, append-nil, mod-lt, drop_of_length-le, shr-shr, shr_lt, eqb-true, eq-eqb, ne_eqb}
use Rattle.std.proofs.Math.Path.{ap}
use native.Mathlib.Omega.{arith}
use Rattle.std.proofs.Math.Nat.{pow-succ'}
use Rattle.std.proofs.Math.ListN.{length}
use Rattle.std.proofs.Math.Seq.{drop-append-add}
use Rattle.std.proofs.lemmas.Bool.{eqb-false}
use Rattle.spec.specs.Bytes.{Bytes, Bits, blocks, clear, low_bits, unpack}
use Rattle.spec.specs.Check.{no_spare}
use Rattle.bits.proofs.ValueLaws.{Small, small_drop}
use Rattle.bits.proofs.UnpackLaws.{length_unpack}

-- a number of k bits has none set where it is 0
clear_number : (k x : ℕ) → x < 2 ^ k → clear (low_bits k x) ≡ eqb x 0
unfolding clear low_bits
clear_number zero x h = sym (eq-eqb x 0 (omega arith))
clear_number (suc k) x h = go (eqb (x % 2) 1) refl (eqb (x / 2) 0) refl (clear_number k (x / 2) (omega (arith, pow-succ' 2 k)))
  where
    go : (b : Bool) → eqb (x % 2) 1 ≡ b → (d : Bool) → eqb (x / 2) 0 ≡ d → clear (low_bits k (x / 2)) ≡ eqb (x / 2) 0 → not b && clear (low_bits k (x / 2)) ≡ eqb x 0
    go true e d f ih = sym (ne_eqb x 0 (λ z. absurd (omega (arith, eqb-true (x % 2) 1 e))))
    go false e true f ih = ih ∙ f ∙ sym (eq-eqb x 0 (small (eqb-false (x % 2) 1 e) (eqb-true (x / 2) 0 f)))
      where
        small : (x % 2 ≡ 1 → ⊥) → x / 2 ≡ 0 → x ≡ 0
        small n z = omega arith
    go false e false f ih = ih ∙ f ∙ sym (ne_eqb x 0 (λ z. eqb-false (x / 2) 0 f (omega arith)))

-- the bits of a number behind its first j
drop_low_bits : (j k x : ℕ) → drop j (low_bits (j + k) x) ≡ low_bits k (x / 2 ^ j)
unfolding low_bits
drop_low_bits zero k x =
    let z : 0 + k ≡ k = omega arith in
    let w : x / 2 ^ 0 ≡ x = omega arith in
    rw (z, w)
drop_low_bits (suc j) k x =
    let z : suc j + k ≡ suc (j + k) = omega arith in
    let w : 1 + j ≡ suc j = omega arith in
    rw z (drop_low_bits j k (x / 2) ∙ ap (low_bits k) (shr-shr x 1 j ∙ ap (λ (n : ℕ). x / 2 ^ n) w))

-- the bits behind a byte's own
behind_byte : (x : ℕ) (bs : Bits) (q j : ℕ) → drop (8 * suc q + j) (low_bits 8 x ++ bs) ≡ drop (8 * q + j) bs
unfolding low_bits
behind_byte x bs q j = let w : 8 * suc q + j ≡ 8 + (8 * q + j) = omega arith in rw w (drop-append-add (low_bits 8 x) bs (8 * q + j))

-- the bits behind j of the last byte
last_byte : (q j : ℕ) (body : Bytes) → j < 8 → length body ≡ q + 1 → Small body → clear (drop (8 * q + j) (unpack body)) ≡ eqb (get_or body q 0 / 2 ^ j) 0
unfolding unpack
last_byte q j [] l e h = absurd (omega arith)
last_byte zero j (x ∷ []) l e h =
    let w : j + (8 - j) ≡ 8 = omega arith in
    let v : (8 - j) + j ≡ 8 = omega arith in
    let z : 8 * 0 + j ≡ j = omega arith in
    ap clear (ap₂ drop z (append-nil (low_bits 8 x)) ∙ ap (λ (k : ℕ). drop j (low_bits k x)) (sym w) ∙ drop_low_bits j (8 - j) x)
    ∙ clear_number (8 - j) (x / 2 ^ j) (shr_lt (8 - j) j (rw v (h 0)))
last_byte zero j (x ∷ y ∷ body) l e h = absurd (omega arith)
last_byte (suc q) j (x ∷ body) l e h = ap clear (behind_byte x (unpack body) q j) ∙ last_byte q j body l (omega arith) (small_drop 1 (x ∷ body) h)

module _ (n : ℕ) (body : Bytes) (l : length body ≡ blocks 8 n) where
  -- n bits fill the body
  pub spare_none : n % 8 ≡ 0 → no_spare n body ≡ true
  unfolding no_spare clear
  spare_none e = let f : length (unpack body) ≤ n = omega (arith, length_unpack body) in ap clear (drop_of_length-le (unpack body) f)

  -- the spare bits are the last byte's high ones
  pub spare_last : Small body → (n % 8 ≡ 0 → ⊥) → no_spare n body ≡ eqb (get_or body (n / 8) 0 / 2 ^ (n % 8)) 0
  unfolding no_spare
  spare_last h e =
      let w : 8 * (n / 8) + n % 8 ≡ n = omega arith in
      ap (λ (k : ℕ). clear (drop k (unpack body))) (sym w) ∙ last_byte (n / 8) (n % 8) body (mod-lt n (omega arith)) (omega arith) h
