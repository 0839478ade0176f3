-- A byte's bits in the other order by one product, one mask and one remainder: tested for each of the 256 bytes.
use Rattle.std.specs.Prelude.{◌≡◌, refl, Bool, true, false, cond, ℕ, zero, suc, ◌+◌, ◌*◌, ◌%◌, ◌<◌, eqb}
use Rattle.std.proofs.Common.{sym, true≢false, arith, eqb-true}
use Rattle.std.specs.Int.Bits.{bit_and}
use Rattle.spec.specs.Bytes.{low_first, high_first}
use Rattle.bits.specs.Bits.{reversed}
use Rattle.bits.proofs.NumberLaws.{low_lt}

-- Five copies of the byte, of which the mask keeps each bit where the remainder by 2^10 - 1 adds it at its new position.
abbrev pub mirror : ℕ → ℕ
mirror b = bit_and (b * 8623620610) 1136090292240 % 1023

-- the bytes from b on, so many of them, are mirrored as they should
abbrev mirrors : ℕ → ℕ → Bool
unfolding low_first high_first
mirrors b zero = true
mirrors b (suc k) = cond (eqb (mirror b) (reversed b)) (mirrors (suc b) k) false

mirrors_at : (k b i : ℕ) → mirrors b k ≡ true → i < k → mirror (b + i) ≡ reversed (b + i)
unfolding low_first high_first
mirrors_at zero b i t h = absurd (omega arith)
mirrors_at (suc k) b i t h = go (eqb (mirror b) (reversed b)) refl t i h (mirrors_at k (suc b))
  where
    go : (v : Bool) → eqb (mirror b) (reversed b) ≡ v → cond v (mirrors (suc b) k) false ≡ true → (i : ℕ) → i < suc k
        → ((i : ℕ) → mirrors (suc b) k ≡ true → i < k → mirror (suc b + i) ≡ reversed (suc b + i)) → mirror (b + i) ≡ reversed (b + i)
    go false e t i h rest = absurd (true≢false (sym t))
    go true e t zero h rest = let w : b + 0 ≡ b = omega arith in rw w (eqb-true _ _ e)
    go true e t (suc i) h rest = let w : b + suc i ≡ suc b + i = omega arith in rw w (rest i t (omega arith))

-- the mirrored byte, for every byte
pub mirror_reversed : (b : ℕ) → b < 256 → mirror b ≡ reversed b
unfolding low_first high_first
mirror_reversed b h = let w : 0 + b ≡ b = omega arith in rw w at (mirrors_at 256 0 b refl h)

-- it is a byte too
pub reversed_small : (b : ℕ) → reversed b < 256
unfolding high_first
reversed_small b = low_lt (high_first 8 b)
