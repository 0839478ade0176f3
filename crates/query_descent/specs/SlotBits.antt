-- The byte that the bits of a slot make, the first bit highest, from a number whose lowest digits they are.
use Rattle.std.specs.Prelude.{ℕ, zero, suc, ◌+◌, ◌-◌, ◌*◌, ◌/◌, ◌%◌, ◌^◌, ◌<◌, ◌≤◌, ◌≡◌, refl, Bool, true, false, cond, [], ◌∷◌, get_or, drop, eqb}
use Rattle.std.proofs.Common.{sym, ap, ◌∙◌, true≢false, arith, add-one, add-mul, mul_assoc, mul-le-mul_right, get_or-drop, pow_pos, pow-add, eqb-true}
use Rattle.std.proofs.Math.Nat.{pow-succ'}
use Rattle.std.proofs.lemmas.Nat.{mod-pow-add}
use Rattle.std.proofs.Math.Pow.{high}
use Rattle.spec.specs.Bytes.{Bits, bit, low_first, high_first, fill, filled}
use Rattle.bits.specs.Bits.{reversed}
use Rattle.bits.proofs.CoverLaws.{half_bit}
use Rattle.theory.proofs.Intervals.{bytes_filled}

-- the k lowest digits of x in the opposite order
unfoldable pub mirrored : ℕ → ℕ → ℕ
mirrored zero x = zero
mirrored (suc k) x = x % 2 * 2 ^ k + mirrored k (x / 2)

mirrored_lt : (k x : ℕ) → mirrored k x < 2 ^ k
unfolding mirrored
mirrored_lt zero x = omega arith
mirrored_lt (suc k) x =
    let d : x % 2 ≤ 1 = omega arith in
    omega (arith, mul-le-mul_right (2 ^ k) d, pow-succ' 2 k, mirrored_lt k (x / 2))

-- the bytes from b on, so many of them, have their digits mirrored as a byte's bits in the other order
abbrev alike : ℕ → ℕ → Bool
unfolding mirrored low_first high_first
alike b zero = true
alike b (suc k) = cond (eqb (mirrored 8 b) (reversed b)) (alike (suc b) k) false

alike_at : (k b i : ℕ) → alike b k ≡ true → i < k → mirrored 8 (b + i) ≡ reversed (b + i)
unfolding mirrored low_first high_first
alike_at zero b i t h = absurd (omega arith)
alike_at (suc k) b i t h = go (eqb (mirrored 8 b) (reversed b)) refl t i h (alike_at k (suc b))
  where
    go : (v : Bool) → eqb (mirrored 8 b) (reversed b) ≡ v → cond v (alike (suc b) k) false ≡ true → (i : ℕ) → i < suc k
        → ((i : ℕ) → alike (suc b) k ≡ true → i < k → mirrored 8 (suc b + i) ≡ reversed (suc b + i)) → mirrored 8 (b + i) ≡ reversed (b + i)
    go false e t i h rest = absurd (true≢false (sym t))
    go true e t zero h rest = let w : b + 0 ≡ b = omega arith in rw w (eqb-true _ _ e)
    go true e t (suc i) h rest = let w : b + suc i ≡ suc b + i = omega arith in rw w (rest i t (omega arith))

-- the digits above the k lowest do not count
mirrored_low : (k x : ℕ) → mirrored k (x % 2 ^ k) ≡ mirrored k x
unfolding mirrored
mirrored_low zero x = refl
mirrored_low (suc k) x =
    let e : x % 2 ^ suc k ≡ x / 2 % 2 ^ k * 2 + x % 2 = ap (λ (n : ℕ). x % 2 ^ n) (sym (add-one k)) ∙ mod-pow-add x k 1 in
    let a : x % 2 ^ suc k % 2 ≡ x % 2 = omega (arith, e) in
    let b : x % 2 ^ suc k / 2 ≡ x / 2 % 2 ^ k = omega (arith, e) in
    rw (a, b, mirrored_low k (x / 2))

-- the low byte of a number, its bits in the other order
pub mirrored_reversed : (x : ℕ) → reversed (x % 256) ≡ mirrored 8 x
unfolding mirrored low_first high_first
mirrored_reversed x = let w : 0 + x % 256 ≡ x % 256 = omega arith in sym (rw w at (alike_at 256 0 (x % 256) refl (omega arith))) ∙ mirrored_low 8 x

-- a digit d in front of v digits that make m, and u more behind
in_front : (d m v u : ℕ) → (d * 2 ^ v + m) * 2 ^ u ≡ d * 2 ^ (v + u) + m * 2 ^ u
in_front d m v u =
    omega (arith, add-mul (d * 2 ^ v) m (2 ^ u), mul_assoc d (2 ^ v) (2 ^ u), ap (λ (z : ℕ). d * z) (pow-add 2 v u))

-- the first v digits, and the u behind them
mirrored_split : (v u x : ℕ) → mirrored (v + u) x ≡ mirrored v x * 2 ^ u + mirrored u (x / 2 ^ v)
unfolding mirrored
mirrored_split zero u x =
    let z : 0 + u ≡ u = omega arith in
    let e : x / 2 ^ 0 ≡ x = omega arith in
    rw (z, e) (omega arith)
mirrored_split (suc v) u x =
    let w : suc v + u ≡ suc (v + u) = omega arith in
    rw w (omega (arith, mirrored_split v u (x / 2), in_front (x % 2) (mirrored v (x / 2)) v u, ap (mirrored u) (half_bit x v)))

fill_next : (f : Bool) (k : ℕ) (t : Bits) → fill f (suc k) t ≡ bit (get_or t 0 f) * 2 ^ k + fill f k (drop 1 t)
unfolding fill
fill_next f k [] = refl
fill_next f k (b ∷ t) = refl

-- bits that have ended make only filling
pub fill_rest : (f : Bool) (u : ℕ) (t : Bits) → ((j : ℕ) → j < u → get_or t j f ≡ f) → fill f u t + bit f ≡ bit f * 2 ^ u
unfolding fill
fill_rest f zero t h = omega arith
fill_rest true (suc u) t h =
    omega (arith, fill_next true u t, ap (λ (b : Bool). bit b * 2 ^ u) (h 0 (omega arith)), fill_rest true u (drop 1 t) (λ j l. get_or-drop 1 t j true ∙ h (1 + j) (omega arith)), pow-succ' 2 u)
fill_rest false (suc u) t h =
    omega (arith, fill_next false u t, ap (λ (b : Bool). bit b * 2 ^ u) (h 0 (omega arith)), fill_rest false u (drop 1 t) (λ j l. get_or-drop 1 t j false ∙ h (1 + j) (omega arith)))

-- v bits, which are the lowest digits of x, and the filling behind them
fill_digits : (f : Bool) (v u : ℕ) (t : Bits) (x : ℕ) → ((j : ℕ) → j < v → x / 2 ^ j % 2 ≡ bit (get_or t j f)) → ((j : ℕ) → v ≤ j → j < v + u → get_or t j f ≡ f)
    → fill f (v + u) t + bit f ≡ mirrored v x * 2 ^ u + bit f * 2 ^ u
unfolding mirrored
fill_digits f zero u t x d h = let z : 0 + u ≡ u = omega arith in rw z (omega (arith, fill_rest f u t (λ j l. h j (omega arith) (omega arith))))
fill_digits f (suc v) u t x d h =
    let w : suc v + u ≡ suc (v + u) = omega arith in
    let e : x / 2 ^ 0 ≡ x = omega arith in
    let b : x % 2 ≡ bit (get_or t 0 f) = ap (λ (z : ℕ). z % 2) (sym e) ∙ d 0 (omega arith) in
    let ih = fill_digits f v u (drop 1 t) (x / 2) (λ j l. ap (λ (z : ℕ). z % 2) (half_bit x j) ∙ d (suc j) (omega arith) ∙ ap bit (sym (next j))) (λ j l k. next j ∙ h (suc j) (omega arith) (omega arith)) in
    rw w (omega (arith, fill_next f (v + u) t, ih, in_front (x % 2) (mirrored v (x / 2)) v u, ap (λ (z : ℕ). z * 2 ^ (v + u)) b))
  where
    next : (j : ℕ) → get_or (drop 1 t) j f ≡ get_or t (suc j) f
    next j = let w : 1 + j ≡ suc j = omega arith in get_or-drop 1 t j f ∙ ap (λ (z : ℕ). get_or t z f) w

-- the byte of v bits: their number in the opposite order, and the filling below
pub byte_filled : (f : Bool) (v : ℕ) (t : Bits) (x : ℕ) → v ≤ 8 → ((j : ℕ) → j < v → x / 2 ^ j % 2 ≡ bit (get_or t j f)) → ((j : ℕ) → v ≤ j → j < 8 → get_or t j f ≡ f)
    → mirrored 8 x / 2 ^ (8 - v) * 2 ^ (8 - v) + bit f * (2 ^ (8 - v) - 1) ≡ fill f 8 t
byte_filled f v t x l d h =
    let w : v + (8 - v) ≡ 8 = omega arith in
    let s : mirrored 8 x ≡ mirrored v x * 2 ^ (8 - v) + mirrored (8 - v) (x / 2 ^ v) = ap (λ (n : ℕ). mirrored n x) (sym w) ∙ mirrored_split v (8 - v) x in
    let q : mirrored 8 x / 2 ^ (8 - v) ≡ mirrored v x = ap (λ (n : ℕ). n / 2 ^ (8 - v)) s ∙ high (mirrored v x) (8 - v) (mirrored_lt (8 - v) (x / 2 ^ v)) in
    let g : fill f 8 t + bit f ≡ mirrored v x * 2 ^ (8 - v) + bit f * 2 ^ (8 - v) = rw w at (fill_digits f v (8 - v) t x d (λ j a b. h j a (omega arith))) in
    rw q (last f (mirrored v x * 2 ^ (8 - v)) (fill f 8 t) g)
  where
    last : (f : Bool) (m r : ℕ) → r + bit f ≡ m + bit f * 2 ^ (8 - v) → m + bit f * (2 ^ (8 - v) - 1) ≡ r
    last true m r g = omega (arith, pow_pos (8 - v))
    last false m r g = omega arith

-- it is a byte
pub byte_lt : (f : Bool) (t : Bits) → fill f 8 t < 256
unfolding filled
byte_lt f t = (bytes_filled f 1 t).0
