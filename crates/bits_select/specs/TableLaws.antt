-- The table of the positions of the ones in a byte: one test over all of its numbers, and the rule at each of them.
use Rattle.std.specs.Prelude.{◌≡◌, refl, Bool, true, false, cond, List, [], ◌∷◌, ℕ, zero, suc, ◌+◌, ◌/◌, ◌%◌, ◌≤◌, ◌<◌, eqb, get_or}
use Rattle.std.proofs.Common.{sym, ap, ◌∙◌, true≢false, mod-lt, arith, eqb-true}
use Rattle.bits.specs.Bits.{rank, select, select_in_byte}

-- the numbers of a table from number k on: number k is that of row k div 8, column k mod 8
abbrev select_table_from : ℕ → List ℕ → Bool
unfolding rank select
select_table_from k [] = eqb k 2048
select_table_from k (x ∷ xs) = cond (eqb x (select_in_byte (k / 8) (k % 8))) (select_table_from (suc k) xs) false

-- the test of the whole table, computed in one pass: 256 rows by 8 columns, each as the rule says
abbrev pub is_select_table : List ℕ → Bool
unfolding rank select
is_select_table xs = select_table_from 0 xs

from_rule : (xs : List ℕ) (i : ℕ) → select_table_from i xs ≡ true → (k : ℕ) → i + k < 2048 → get_or xs k 0 ≡ select_in_byte ((i + k) / 8) ((i + k) % 8)
unfolding rank select
from_rule [] i t k h = absurd (omega (arith, eqb-true i 2048 t))
from_rule (x ∷ xs) i t k h = go (eqb x (select_in_byte (i / 8) (i % 8))) refl t k h (from_rule xs (suc i))
  where
    go : (v : Bool) → eqb x (select_in_byte (i / 8) (i % 8)) ≡ v → cond v (select_table_from (suc i) xs) false ≡ true → (k : ℕ) → i + k < 2048
        → (select_table_from (suc i) xs ≡ true → (k : ℕ) → suc i + k < 2048 → get_or xs k 0 ≡ select_in_byte ((suc i + k) / 8) ((suc i + k) % 8))
        → get_or (x ∷ xs) k 0 ≡ select_in_byte ((i + k) / 8) ((i + k) % 8)
    go false e t k h rest = absurd (true≢false (sym t))
    go true e t zero h rest =
        let w : i + 0 ≡ i = omega arith in
        eqb-true x _ e ∙ sym (ap (λ (n : ℕ). select_in_byte (n / 8) (n % 8)) w)
    go true e t (suc k) h rest =
        let w : i + suc k ≡ suc i + k = omega arith in
        rest t k (omega arith) ∙ sym (ap (λ (n : ℕ). select_in_byte (n / 8) (n % 8)) w)

-- a table that passes the test holds at each of its first m numbers what the rule says
pub select_table_rule : (m : ℕ) → 0 < m → m ≤ 2048 → (xs : List ℕ) (n : ℕ) → get_or xs (n % m) 0 ≡ cond (is_select_table xs) (select_in_byte (n % m / 8) (n % m % 8)) (get_or xs (n % m) 0)
unfolding rank select
select_table_rule m p l xs n = go (is_select_table xs) refl
  where
    go : (v : Bool) → is_select_table xs ≡ v → get_or xs (n % m) 0 ≡ cond v (select_in_byte (n % m / 8) (n % m % 8)) (get_or xs (n % m) 0)
    go false e = refl
    go true e =
        let w : 0 + n % m ≡ n % m = omega arith in
        from_rule xs 0 e (n % m) (omega (arith, mod-lt n p)) ∙ ap (λ (k : ℕ). select_in_byte (k / 8) (k % 8)) w
