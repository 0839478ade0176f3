-- The digits of a number as tests, and masks: numbers whose digits are the answers of a test. The check goes over the sparse entries by 64-bit words with these.
use Rattle.std.specs.Prelude.{ℕ, zero, suc, ◌+◌, ◌*◌, ◌-◌, ◌/◌, ◌%◌, ◌^◌, ◌≤◌, ◌<◌, ◌≡◌, refl, Bool, true, false, ◌&&◌, ◌||◌, not, eqb}
use Rattle.std.proofs.Common.{sym, ap, ap₂, ◌∙◌, arith, pow-suc, mul_assoc, mod-lt, zero-lt-suc, eqb-true, eq-eqb, ne_eqb, shr-shr, pow_mono}
use Rattle.std.proofs.Math.Nat.{pow-succ', div-eq_of_lt}
use Rattle.std.proofs.lemmas.Bool.{eqb-false}
use Rattle.std.proofs.lemmas.Nat.{shl-shr, and_shr, and_mod, or_shr, or_mod}
use Rattle.std.specs.Int.Bits.{bit_and, bit_or, shifted_half, shifted_even}
use Rattle.check_levels.specs.Ranges.{all_from, from_ext, from_shift}
use Rattle.spec.specs.Bytes.{bit}

-- digit i of a number is set
unfoldable pub digit : ℕ → ℕ → Bool
digit x i = eqb (x / 2 ^ i % 2) 1

-- as the machine's numbers say it
pub digit_is : (x i : ℕ) → digit x i ≡ eqb (x / 2 ^ i % 2) 1
unfolding digit
digit_is x i = refl

-- the digits behind the first
pub digit_half : (x i : ℕ) → digit (x / 2) i ≡ digit x (suc i)
unfolding digit
digit_half x i = let w : 1 + i ≡ suc i = omega arith in ap (λ (n : ℕ). eqb (n % 2) 1) (shr-shr x 1 i ∙ ap (λ (z : ℕ). x / 2 ^ z) w)

-- ---- operations of the machine

two_digits : (a b : ℕ) → a < 2 → b < 2 → (eqb (bit_and a b) 1 ≡ eqb a 1 && eqb b 1) × (eqb (bit_or a b) 1 ≡ (eqb a 1 || eqb b 1))
two_digits zero zero h g = (refl, refl)
two_digits zero (suc zero) h g = (refl, refl)
two_digits (suc zero) zero h g = (refl, refl)
two_digits (suc zero) (suc zero) h g = (refl, refl)
two_digits (suc (suc a)) b h g = absurd (omega arith)
two_digits zero (suc (suc b)) h g = absurd (omega arith)
two_digits (suc zero) (suc (suc b)) h g = absurd (omega arith)

-- a conjunction's digits
pub digit_and : (x y i : ℕ) → digit (bit_and x y) i ≡ digit x i && digit y i
unfolding digit
digit_and x y i =
    ap (λ (n : ℕ). eqb n 1) (ap (λ (n : ℕ). n % 2 ^ 1) (and_shr x y i) ∙ and_mod (x / 2 ^ i) (y / 2 ^ i) 1)
    ∙ (two_digits (x / 2 ^ i % 2) (y / 2 ^ i % 2) (mod-lt (x / 2 ^ i) (zero-lt-suc 1)) (mod-lt (y / 2 ^ i) (zero-lt-suc 1))).0

-- a disjunction's digits
pub digit_or : (x y i : ℕ) → digit (bit_or x y) i ≡ (digit x i || digit y i)
unfolding digit
digit_or x y i =
    ap (λ (n : ℕ). eqb n 1) (ap (λ (n : ℕ). n % 2 ^ 1) (or_shr x y i) ∙ or_mod (x / 2 ^ i) (y / 2 ^ i) 1)
    ∙ (two_digits (x / 2 ^ i % 2) (y / 2 ^ i % 2) (mod-lt (x / 2 ^ i) (zero-lt-suc 1)) (mod-lt (y / 2 ^ i) (zero-lt-suc 1))).1

-- a number shifted down
pub digit_shr : (x k i : ℕ) → digit (x / 2 ^ k) i ≡ digit x (k + i)
unfolding digit
digit_shr x k i = ap (λ (n : ℕ). eqb (n % 2) 1) (shr-shr x k i)

-- the first digit of what is left by 2
pub digit_even : (x : ℕ) → digit (x % 2) 0 ≡ digit x 0
unfolding digit
digit_even x = let e : x % 2 / 2 ^ 0 % 2 ≡ x / 2 ^ 0 % 2 = omega arith in ap (λ (n : ℕ). eqb n 1) e

-- a number shifted up: its digits stand k positions higher
pub digit_shl : (a k : ℕ) → digit (a * 2 ^ k) k ≡ digit a 0
unfolding digit
digit_shl a k = let e : a / 2 ^ 0 ≡ a = omega arith in ap (λ (n : ℕ). eqb (n % 2) 1) (shl-shr a k ∙ sym e)

-- and none is set below
pub digit_below : (k a i : ℕ) → i < k → digit (a * 2 ^ k) i ≡ false
unfolding digit
digit_below zero a i h = absurd (omega arith)
digit_below (suc k) a zero h = let e : a * 2 ^ suc k / 2 ^ 0 ≡ a * 2 ^ suc k = omega arith in rw e (ap (λ (n : ℕ). eqb n 1) (shifted_even a k))
digit_below (suc k) a (suc i) h = sym (digit_half (a * 2 ^ suc k) i) ∙ ap (λ (n : ℕ). digit n i) (shifted_half a k) ∙ digit_below k a i (omega arith)

-- nor is any behind a number's end
pub digit_behind : (k x : ℕ) → x < 2 ^ k → digit x k ≡ false
unfolding digit
digit_behind k x h = ap (λ (n : ℕ). eqb (n % 2) 1) (div-eq_of_lt h)

first_digit : (x y : ℕ) → y % 2 + x % 2 ≡ 1 → digit y 0 ≡ not (digit x 0)
unfolding digit
first_digit x y h = go (x % 2) (y % 2) h (omega arith) (omega arith)
  where
    go : (a b : ℕ) → b + a ≡ 1 → x / 2 ^ 0 % 2 ≡ a → y / 2 ^ 0 % 2 ≡ b → eqb (y / 2 ^ 0 % 2) 1 ≡ not (eqb (x / 2 ^ 0 % 2) 1)
    go zero b h e f = let g : b ≡ 1 = omega arith in rw (e, f, g)
    go (suc zero) b h e f = let g : b ≡ 0 = omega arith in rw (e, f, g)
    go (suc (suc a)) b h e f = absurd (omega arith)

-- the digits of a complement in k digits
pub digit_not : (k x i : ℕ) → x < 2 ^ k → i < k → digit (2 ^ k - 1 - x) i ≡ not (digit x i)
digit_not zero x i h l = absurd (omega arith)
digit_not (suc k) x zero h l = let p = pow-succ' 2 k in first_digit x (2 ^ suc k - 1 - x) (omega arith)
digit_not (suc k) x (suc i) h l =
    let p = pow-succ' 2 k in
    let e : (2 ^ suc k - 1 - x) / 2 ≡ 2 ^ k - 1 - x / 2 = omega arith in
    sym (digit_half (2 ^ suc k - 1 - x) i) ∙ ap (λ (n : ℕ). digit n i) e ∙ digit_not k (x / 2) i (omega arith) (omega arith) ∙ ap not (digit_half x i)

-- ---- masks

-- n digits, of which digit i is the test's answer for i
unfoldable pub mask : (ℕ → Bool) → ℕ → ℕ
mask p zero = zero
mask p (suc n) = mask (λ i. p (suc i)) n * 2 + bit (p zero)

-- no digits
pub mask_none : (p : ℕ → Bool) → mask p 0 ≡ 0
unfolding mask
mask_none p = refl

bit_lt : (b : Bool) → bit b < 2
bit_lt true = omega arith
bit_lt false = omega arith

pub is_bit : (b : Bool) → eqb (bit b) 1 ≡ b
is_bit true = refl
is_bit false = refl

-- it has no more digits
pub mask_lt : (p : ℕ → Bool) (n : ℕ) → mask p n < 2 ^ n
unfolding mask
mask_lt p zero = omega arith
mask_lt p (suc n) = omega (arith, mask_lt (λ i. p (suc i)) n, bit_lt (p 0), pow-succ' 2 n)

-- its digits are the answers
pub digit_mask : (p : ℕ → Bool) (n i : ℕ) → i < n → digit (mask p n) i ≡ p i
unfolding mask digit
digit_mask p zero i h = absurd (omega arith)
digit_mask p (suc n) zero h =
    let e : mask p (suc n) / 2 ^ 0 % 2 ≡ bit (p 0) = omega (arith, bit_lt (p 0)) in
    ap (λ (k : ℕ). eqb k 1) e ∙ is_bit (p 0)
digit_mask p (suc n) (suc i) h =
    let e : mask p (suc n) / 2 ≡ mask (λ j. p (suc j)) n = omega (arith, bit_lt (p 0)) in
    sym (digit_half (mask p (suc n)) i) ∙ ap (λ (k : ℕ). digit k i) e ∙ digit_mask (λ j. p (suc j)) n i (omega arith)

-- tests that agree
mask_ext : (p q : ℕ → Bool) (n : ℕ) → ((i : ℕ) → p i ≡ q i) → mask p n ≡ mask q n
unfolding mask
mask_ext p q zero f = refl
mask_ext p q (suc n) f = ap₂ (λ (a : ℕ) (b : Bool). a * 2 + bit b) (mask_ext (λ i. p (suc i)) (λ i. q (suc i)) n (λ i. f (suc i))) (f 0)

-- some digits and those behind them
mask_parts : (p q : ℕ → Bool) (k n : ℕ) → ((i : ℕ) → p (k + i) ≡ q i) → mask p (k + n) ≡ mask q n * 2 ^ k + mask p k
unfolding mask
mask_parts p q zero n f = let e : zero + n ≡ n = omega arith in ap (mask p) e ∙ mask_ext p q n (λ i. let g : zero + i ≡ i = omega arith in ap p (sym g) ∙ f i) ∙ omega arith
mask_parts p q (suc k) n f =
    let e : suc k + n ≡ suc (k + n) = omega arith in
    ap (mask p) e ∙ ap (λ (m : ℕ). m * 2 + bit (p 0)) (mask_parts (λ i. p (suc i)) q k n (λ i. let g : suc (k + i) ≡ suc k + i = omega arith in ap p g ∙ f i))
    ∙ omega (arith, ap (λ (m : ℕ). mask q n * m) (pow-suc 2 k) ∙ sym (mul_assoc (mask q n) (2 ^ k) 2))

-- eight digits more in front of those from i on, of 64 from a position on
pub mask_eight : (t : ℕ → Bool) (at i m b : ℕ) → 8 ≤ i → i ≤ 64 → m ≡ mask (λ k. t (at + i + k)) (64 - i) → b ≡ mask (λ k. t (at + (i - 8) + k)) 8
    → m * 256 + b ≡ mask (λ k. t (at + (i - 8) + k)) (64 - (i - 8))
mask_eight t at i m b h g e f =
    let n : 64 - (i - 8) ≡ 8 + (64 - i) = omega arith in
    sym (ap (mask (λ k. t (at + (i - 8) + k))) n
    ∙ mask_parts (λ k. t (at + (i - 8) + k)) (λ k. t (at + i + k)) 8 (64 - i) (λ k. let w : at + (i - 8) + (8 + k) ≡ at + i + k = omega arith in ap t w)
    ∙ ap₂ (λ (x y : ℕ). x * 256 + y) (sym e) (sym f))

-- for which there is room
pub mask_room : (p : ℕ → Bool) (i m : ℕ) → 8 ≤ i → m ≡ mask p (64 - i) → m < 72057594037927936
mask_room p i m h e = let l : 64 - i ≤ 56 = omega arith in let g : 2 ^ (64 - i) ≤ 2 ^ 56 = pow_mono l in omega (arith, mask_lt p (64 - i))

-- a number of n digits that are the answers
pub mask_of : (p : ℕ → Bool) (n x : ℕ) → x < 2 ^ n → ((i : ℕ) → i < n → digit x i ≡ p i) → x ≡ mask p n
unfolding mask digit
mask_of p zero x h f = omega arith
mask_of p (suc n) x h f =
    let e : x / 2 ^ 0 % 2 ≡ x % 2 = omega arith in
    split_off (x % 2) (omega arith) (ap (λ (k : ℕ). eqb k 1) (sym e) ∙ f 0 (omega arith)) (mask_of (λ i. p (suc i)) n (x / 2) (omega (arith, pow-succ' 2 n)) (λ i l. digit_half x i ∙ f (suc i) (omega arith)))
  where
    split_off : (d : ℕ) → x ≡ x / 2 * 2 + d → eqb d 1 ≡ p 0 → x / 2 ≡ mask (λ i. p (suc i)) n → x ≡ mask (λ i. p (suc i)) n * 2 + bit (p 0)
    split_off zero k g ih = k ∙ ap₂ (λ (a : ℕ) (b : Bool). a * 2 + bit b) ih g
    split_off (suc zero) k g ih = k ∙ ap₂ (λ (a : ℕ) (b : Bool). a * 2 + bit b) ih g
    split_off (suc (suc d)) k g ih = absurd (omega (arith, k))

-- ---- a number without digits

-- a number of n digits is 0 where none is set
pub zero_digits : (n x : ℕ) → x < 2 ^ n → eqb x 0 ≡ all_from (λ i. not (digit x i)) 0 n
unfolding all_from digit
zero_digits zero x h = eq-eqb x 0 (omega arith)
zero_digits (suc n) x h =
    halves (x % 2) refl
    ∙ ap (λ (t : Bool). not (digit x 0) && t) (zero_digits n (x / 2) (omega (arith, pow-succ' 2 n)) ∙ from_ext (λ i. not (digit (x / 2) i)) (λ i. not (digit x (1 + i))) 0 n (λ i h l. ap not (digit_half x i ∙ next i)) ∙ sym (from_shift (λ i. not (digit x i)) 1 0 n))
  where
    next : (i : ℕ) → digit x (suc i) ≡ digit x (1 + i)
    next i = let e : suc i ≡ 1 + i = omega arith in ap (digit x) e

    halves : (d : ℕ) → x % 2 ≡ d → eqb x 0 ≡ not (digit x 0) && eqb (x / 2) 0
    halves zero e = let f : x / 2 ^ 0 % 2 ≡ 0 = omega arith in rw f (go (eqb (x / 2) 0) refl)
      where
        go : (b : Bool) → eqb (x / 2) 0 ≡ b → eqb x 0 ≡ b
        go true r = eq-eqb x 0 (omega (arith, eqb-true (x / 2) 0 r))
        go false r = let m = eqb-false (x / 2) 0 r in ne_eqb x 0 (λ z. m (omega arith))
    halves (suc zero) e = let f : x / 2 ^ 0 % 2 ≡ 1 = omega arith in rw f (ne_eqb x 0 (λ z. absurd (omega arith)))
    halves (suc (suc d)) e = absurd (omega arith)
