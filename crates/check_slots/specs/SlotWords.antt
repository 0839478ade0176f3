-- Zero bits by bytes: a few by one 64-bit number, many in a row by the greatest of their bytes.
use Rattle.std.specs.Prelude.{ℕ, zero, suc, ◌+◌, ◌-◌, ◌*◌, ◌/◌, ◌%◌, ◌^◌, ◌<◌, ◌≤◌, ◌≡◌, refl, Bool, true, false, ◌&&◌, get_or, drop, eqb}
use Rattle.std.proofs.Common.{sym, ap, ap₂, ◌∙◌, arith, mod-lt, shr-shr, shr_lt, pow_pos, eqb-true, eq-eqb, ne_eqb}
use Rattle.std.proofs.Math.Pow.{field, mod-mod-pow}
use Rattle.std.specs.Int.Count.{ones, ones_step}
use Rattle.spec.specs.Bytes.{Bytes}
use Rattle.bits.specs.Bits.{rank, value, word}
use Rattle.bits.proofs.RankLaws.{rank_step}
use Rattle.bits.proofs.ValueLaws.{Small, value_drop, value_byte}
use Rattle.check_slots.specs.SlotBits.{bits_clear, bits_parts, eqb_apart}

-- a number that is not zero has a one
ones_some : (k x : ℕ) → x < 2 ^ k → 0 < x → 0 < ones x
ones_some zero x h l = absurd (omega arith)
ones_some (suc k) x h l = go (x % 2) refl (λ m. ones_some k (x / 2) (shr_lt k 1 (let w : k + 1 ≡ suc k = omega arith in rw w h)) m)
  where
    go : (d : ℕ) → x % 2 ≡ d → (0 < x / 2 → 0 < ones (x / 2)) → 0 < ones x
    go zero e ih = omega (arith, ones_step x, ih (omega arith))
    go (suc d) e ih = omega (arith, ones_step x)

-- at most 32 bits from bit a to bit b, by the 64-bit number from a's byte on
pub few_bits : (s : Bytes) → Small s → (a b : ℕ) → a ≤ b → b ≤ a + 32 → eqb (word s (a / 8) / 2 ^ (a % 8) % 2 ^ (b - a)) 0 ≡ bits_clear s a b
unfolding word ones
few_bits s small a b h l =
    let k : ℕ = b - a in
    let n : ℕ = value (drop (a / 8) s) in
    let e : 8 * (a / 8) + a % 8 ≡ a = omega arith in
    let u : (64 - a % 8) + a % 8 ≡ 64 = omega arith in
    let v : (64 - a % 8 - k) + k ≡ 64 - a % 8 = omega arith in
    let m : a + k ≡ b = omega arith in
    let f : n % 2 ^ 64 / 2 ^ (a % 8) % 2 ^ k ≡ value s / 2 ^ a % 2 ^ k =
    ap (λ (z : ℕ). n % 2 ^ z / 2 ^ (a % 8) % 2 ^ k) (sym u) ∙ ap (λ (z : ℕ). z % 2 ^ k) (field n (64 - a % 8) (a % 8))
    ∙ ap (λ (z : ℕ). n / 2 ^ (a % 8) % 2 ^ z % 2 ^ k) (sym v) ∙ mod-mod-pow (n / 2 ^ (a % 8)) (64 - a % 8 - k) k
    ∙ ap (λ (z : ℕ). z / 2 ^ (a % 8) % 2 ^ k) (sym (value_drop (a / 8) s small)) ∙ ap (λ (z : ℕ). z % 2 ^ k) (shr-shr (value s) (8 * (a / 8)) (a % 8) ∙ ap (λ (z : ℕ). value s / 2 ^ z) e) in
    let step : ones (value s / 2 ^ a % 2 ^ k) + rank s a ≡ rank s b = omega (arith, rank_step s small a k, ap (rank s) m) in
    ap (λ (z : ℕ). eqb z 0) f ∙ none (value s / 2 ^ a % 2 ^ k) (ones_some k (value s / 2 ^ a % 2 ^ k) (mod-lt (value s / 2 ^ a) (pow_pos k)))
    ∙ eqb_apart (ones (value s / 2 ^ a % 2 ^ k)) (rank s a) (rank s b) step
  where
    none : (x : ℕ) → (0 < x → 0 < ones x) → eqb x 0 ≡ eqb (ones x) 0
    none zero p = refl
    none (suc x) p = ne_eqb (suc x) 0 (λ q. omega arith) ∙ sym (ne_eqb (ones (suc x)) 0 (λ q. omega (arith, p (omega arith))))

-- the bits of a byte
clear_byte : (s : Bytes) → Small s → (i : ℕ) → bits_clear s (8 * i) (8 * (i + 1)) ≡ eqb (get_or s i 0) 0
unfolding word
clear_byte s small i =
    let a : 8 * i / 8 ≡ i = omega arith in
    let b : 8 * i % 8 ≡ 0 = omega arith in
    let d : 8 * (i + 1) - 8 * i ≡ 8 = omega arith in
    let e : value (drop i s) % 2 ^ 64 / 2 ^ 0 % 2 ^ 8 ≡ get_or s i 0 = omega (arith, value_byte i s small) in
    sym (few_bits s small (8 * i) (8 * (i + 1)) (omega arith) (omega arith)) ∙ rw (a, b, d) (ap (λ (n : ℕ). eqb n 0) e)

-- the bytes before i are zero by the greatest of them, and the byte at i is at most the greater of both
module _ (s : Bytes) (small : Small s) (from i g : ℕ) (h : from ≤ i) (e : eqb g 0 ≡ bits_clear s (8 * from) (8 * i)) where
  next_byte : bits_clear s (8 * from) (8 * (i + 1)) ≡ eqb g 0 && eqb (get_or s i 0) 0
  next_byte = sym (bits_parts s (8 * from) (8 * i) (8 * (i + 1)) (omega arith) (omega arith)) ∙ ap₂ ◌&&◌ (sym e) (clear_byte s small i)

  -- the byte at i is greater
  pub byte_greater : g < get_or s i 0 → eqb (get_or s i 0) 0 ≡ bits_clear s (8 * from) (8 * (i + 1))
  byte_greater l = go (eqb g 0) ∙ sym next_byte
    where
      go : (t : Bool) → eqb (get_or s i 0) 0 ≡ t && eqb (get_or s i 0) 0
      go true = refl
      go false = ne_eqb (get_or s i 0) 0 (λ z. absurd (omega arith))

  -- it is not
  pub byte_smaller : get_or s i 0 ≤ g → eqb g 0 ≡ bits_clear s (8 * from) (8 * (i + 1))
  byte_smaller l = go (eqb g 0) refl ∙ sym next_byte
    where
      go : (t : Bool) → eqb g 0 ≡ t → t ≡ t && eqb (get_or s i 0) 0
      go true p = sym (eq-eqb (get_or s i 0) 0 (omega (arith, eqb-true g 0 p)))
      go false p = refl
