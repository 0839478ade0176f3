-- Bits set in bytes at positions, and what one emission does by cases. Used by the functions that write at a cursor.
use Rattle.std.specs.Prelude.{ℕ, ◌+◌, ◌*◌, ◌-◌, ◌<◌, ◌≡◌, refl, Bool, true, false, cond, List, [], ◌∷◌, length}
use Rattle.std.proofs.Common.{sym, ap, ◌∙◌, true≢false, arith}
use Rattle.spec.specs.Bytes.{Bytes, bit}
use Rattle.bits.specs.Bits.{with_bit}
use Rattle.bits.proofs.BitLaws.{length_with_bit}
use Rattle.build_laws.specs.LevelEntries.{pred}
use Rattle.build_laws.specs.BitPass.{PositionsBelow}
use Rattle.build_laws.specs.DenseRows.{cell, cell_ones}
use Rattle.build_laws.specs.BodyLaws.{bit_at}
use Rattle.build_laws.specs.Passes.{with_bits}
use Rattle.build_laws.specs.KeyLaws.{pred_sub}

-- no position
pub with_none : (s : Bytes) → with_bits [] s ≡ s
unfolding with_bits
with_none s = refl

-- one position, then others
pub with_cons : (i : ℕ) (is : List ℕ) (s : Bytes) → with_bits (i ∷ is) s ≡ with_bits is (with_bit s i)
unfolding with_bits
with_cons i is s = refl

-- setting bits keeps the length
pub length_with_bits : (is : List ℕ) (s : Bytes) → length (with_bits is s) ≡ length s
unfolding with_bits
length_with_bits [] s = refl
length_with_bits (i ∷ is) s = length_with_bits is (with_bit s i) ∙ length_with_bit s i

-- one position
pub with_one : (i : ℕ) (s : Bytes) → with_bit s i ≡ with_bits (i ∷ []) s
with_one i s = sym (with_cons i [] s ∙ with_none (with_bit s i))

-- ---- a bit at the cursor

-- the bit is set
pub bit_set : (out o : Bytes) (i c : ℕ) (x : Bool) → x ≡ true → i ≡ c → o ≡ with_bit out i → o ≡ with_bits (bit_at c x) out
bit_set out o i c x e f g = g ∙ ap (with_bit out) f ∙ with_one c out ∙ ap (λ (b : Bool). with_bits (bit_at c b) out) (sym e)

-- the bit is left
pub bit_kept : (out : Bytes) (c : ℕ) (x : Bool) → x ≡ false → out ≡ with_bits (bit_at c x) out
bit_kept out c x e = sym (ap (λ (b : Bool). with_bits (bit_at c b) out) e ∙ with_none out)

-- the position of a bit that is set is below n
pub bit_below : (n c : ℕ) (x : Bool) → x ≡ true → PositionsBelow n (bit_at c x) → c < n
bit_below n c true e p = p.0
bit_below n c false e p = absurd (true≢false (sym e))

-- ---- a cell

-- the cell's bit is set
pub cell_set : (out o : Bytes) (w rows row c x : ℕ) (b s : Bool) → s ≡ true → rows ≡ c + bit b → row ≡ pred rows → o ≡ with_bit out (w * row + x) → o ≡ with_bits (cell_ones w c (cell b s x)) out
cell_set out o w rows row c x b s e f g h =
    h ∙ ap (λ (r : ℕ). with_bit out (w * r + x)) (g ∙ pred_sub rows ∙ ap (λ (r : ℕ). r - 1) f) ∙ with_one (w * (c + bit b - 1) + x) out
    ∙ ap (λ (t : Bool). with_bits (cond t ((w * (c + bit b - 1) + x) ∷ []) []) out) (sym e)

-- the cell's bit is left
pub cell_kept : (out : Bytes) (w c x : ℕ) (b s : Bool) → s ≡ false → out ≡ with_bits (cell_ones w c (cell b s x)) out
cell_kept out w c x b s e = sym (ap (λ (t : Bool). with_bits (cond t ((w * (c + bit b - 1) + x) ∷ []) []) out) e ∙ with_none out)

-- the position of a cell's bit that is set is below n
pub cell_below : (n w rows row c x : ℕ) (b s : Bool) → s ≡ true → rows ≡ c + bit b → row ≡ pred rows → PositionsBelow n (cell_ones w c (cell b s x)) → w * row + x < n
cell_below n w rows row c x b true e f g p = let q : row ≡ c + bit b - 1 = g ∙ pred_sub rows ∙ ap (λ (r : ℕ). r - 1) f in omega (arith, p.0, ap (λ (r : ℕ). w * r) q)
cell_below n w rows row c x b false e f g p = absurd (true≢false (sym e))
