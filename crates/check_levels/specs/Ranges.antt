-- A test of consecutive numbers, as the loops of the check make it: from one number on, in parts, and by the number that fails.
use Prim.Native.Nat.{ℕ, zero, suc, ◌+◌, ◌-◌, ◌<◌, ◌≤◌}
use Rattle.std.specs.Prelude.{◌≡◌, Bool, true, false, ◌&&◌, leb}
use Rattle.std.proofs.Math.Path.{refl}
use Rattle.std.proofs.Common.{sym, ap, ap₂, ◌∙◌, leb-true, leb-false}
use Rattle.std.proofs.Math.Bool.{and_assoc}
use native.Mathlib.Omega.{arith}

-- the k numbers from i on pass the test
unfoldable pub all_from : (ℕ → Bool) → ℕ → ℕ → Bool
all_from f i zero = true
all_from f i (suc k) = f i && all_from f (suc i) k

module _ (f : ℕ → Bool) where
  -- no numbers
  pub from_none : (i : ℕ) → all_from f i 0 ≡ true
  unfolding all_from
  from_none i = refl

  -- one, and those behind it
  pub from_first : (i k : ℕ) → all_from f i (suc k) ≡ f i && all_from f (suc i) k
  unfolding all_from
  from_first i k = refl

  -- numbers in two parts
  pub from_parts : (j i k : ℕ) → all_from f i (j + k) ≡ all_from f i j && all_from f (i + j) k
  unfolding all_from
  from_parts zero i k =
      let a : 0 + k ≡ k = omega arith in
      let b : i + 0 ≡ i = omega arith in
      rw (a, b)
  from_parts (suc j) i k =
      let a : suc j + k ≡ suc (j + k) = omega arith in
      let b : i + suc j ≡ suc i + j = omega arith in
      rw (a, b, from_parts j (suc i) k) (sym (and_assoc (f i) (all_from f (suc i) j) (all_from f (suc i + j) k)))

  -- the number i of those up to n, and those behind it
  pub from_next : (i n : ℕ) → i < n → all_from f i (n - i) ≡ f i && all_from f (i + 1) (n - (i + 1))
  from_next i n h =
      let a : n - i ≡ suc (n - (i + 1)) = omega arith in
      let b : suc i ≡ i + 1 = omega arith in
      ap (all_from f i) a ∙ from_first i (n - (i + 1)) ∙ ap (λ (z : ℕ). f i && all_from f z (n - (i + 1))) b

  -- the number i fails
  pub from_fail : (i n : ℕ) → i < n → f i ≡ false → all_from f i (n - i) ≡ false
  from_fail i n h e = from_next i n h ∙ ap (λ (t : Bool). t && all_from f (i + 1) (n - (i + 1))) e

  -- it passes, and those behind it are to be tested
  pub from_step : (i n : ℕ) → i < n → f i ≡ true → all_from f i (n - i) ≡ all_from f (i + 1) (n - (i + 1))
  from_step i n h e = from_next i n h ∙ ap (λ (t : Bool). t && all_from f (i + 1) (n - (i + 1))) e

  -- none are left up to n
  pub from_end : (i n : ℕ) → n ≤ i → all_from f i (n - i) ≡ true
  from_end i n h = let a : n - i ≡ 0 = omega arith in ap (all_from f i) a ∙ from_none i

  -- all of them pass
  pub from_pass : (i k : ℕ) → ((j : ℕ) → i ≤ j → j < i + k → f j ≡ true) → all_from f i k ≡ true
  unfolding all_from
  from_pass i zero h = refl
  from_pass i (suc k) h = rw (h i (omega arith) (omega arith)) (from_pass (suc i) k (λ j a b. h j (omega arith) (omega arith)))

  -- numbers that pass may be skipped
  pub from_skip : (i m n : ℕ) → i ≤ m → ((j : ℕ) → i ≤ j → j < m → j < n → f j ≡ true) → all_from f i (n - i) ≡ all_from f m (n - m)
  from_skip i m n h g = go (leb m n) refl
    where
      go : (b : Bool) → leb m n ≡ b → all_from f i (n - i) ≡ all_from f m (n - m)
      go true e =
          let l = leb-true m n e in
          let a : (m - i) + (n - m) ≡ n - i = omega arith in
          let b : i + (m - i) ≡ m = omega arith in
          ap (all_from f i) (sym a) ∙ from_parts (m - i) i (n - m)
          ∙ ap₂ (λ (t : Bool) (k : ℕ). t && all_from f k (n - m)) (from_pass i (m - i) (λ j x y. g j x (omega arith) (omega arith))) b
      go false e =
          let l = leb-false m n e in
          from_pass i (n - i) (λ j x y. g j x (omega arith) (omega arith)) ∙ sym (from_end m n (omega arith))

-- two tests that agree on the numbers
pub from_ext : (f g : ℕ → Bool) (i k : ℕ) → ((j : ℕ) → i ≤ j → j < i + k → f j ≡ g j) → all_from f i k ≡ all_from g i k
unfolding all_from
from_ext f g i zero h = refl
from_ext f g i (suc k) h = ap₂ ◌&&◌ (h i (omega arith) (omega arith)) (from_ext f g (suc i) k (λ j a b. h j (omega arith) (omega arith)))

-- the numbers counted from another one
pub from_shift : (f : ℕ → Bool) (d i k : ℕ) → all_from f (d + i) k ≡ all_from (λ j. f (d + j)) i k
unfolding all_from
from_shift f d i zero = refl
from_shift f d i (suc k) = let e : suc (d + i) ≡ d + suc i = omega arith in ap (λ (t : Bool). f (d + i) && t) (ap (λ (n : ℕ). all_from f n k) e ∙ from_shift f d (suc i) k)
