-- Each arm knows the number, or that it is one of two, and the rows of these numbers compute.
use mathlib.Core.Path.{◌≡◌, refl}
use mathlib.Core.Bool.{Bool, true, false}
use Prim.Native.Nat.{ℕ, suc, ◌≤◌}
use native.Mathlib.Omega.{arith}
use borrow.Author.Tests.{eqb-true, eqb-false}
use lib.Dec.{eqb}
use Rattle.spec.specs.Image.{rows}
use Rattle.image.specs.Header.{settings_of, counts_of}
use Rattle.image.specs.Records.{row_at}
use Rattle.image.proofs.table.body_size.Goals as goal

-- what holds at two numbers holds at any that is one of them
one_of_two : (P : ℕ → Type 0) (i k : ℕ) → k ≤ i → i ≤ suc k → P k → P (suc k) → P i
one_of_two P i k a b x y = go (eqb i k) refl
  where
    go : (b : Bool) → eqb i k ≡ b → P i
    go true e = rw (eqb-true i k e) x
    go false e = let n = eqb-false i k e in let w : i ≡ suc k = omega (arith, n) in rw w y

pub returns-in-2 : goal.returns-in-2
unfolding row_at rows
returns-in-2 c =
    (rw c.in-2.is c.bytes_for.ensures, omega (arith, c.bytes_for.ensures))

pub returns-in-4 : goal.returns-in-4
unfolding row_at rows
returns-in-4 c =
    let a = c.args in
    let size = c.bytes_for-in-4.ensures in
    (one_of_two (λ (i : ℕ). c.bytes_for-in-4.result ≡ (row_at i).size (settings_of a.h) (counts_of a.h)) a.i 4 (omega arith) (omega arith) size size, omega (arith, size))

pub returns-in-7 : goal.returns-in-7
unfolding row_at rows
returns-in-7 c =
    let a = c.args in
    let size = c.table_size-in-7.ensures in
    (one_of_two (λ (i : ℕ). c.table_size-in-7.result ≡ (row_at i).size (settings_of a.h) (counts_of a.h)) a.i 7 (omega arith) (omega arith) size size, omega (arith, size))

pub returns-in_default : goal.returns-in_default
unfolding row_at rows
returns-in_default c =
    let e : c.args.i ≡ 11 = omega arith in (rw e c.table_size-in_default.ensures, omega (arith, c.table_size-in_default.ensures))
