-- Rank tables: document 01's ranks of the first bits of a body, by the ones before each block of its bytes. Used by the check of a table and by its writer.
use Rattle.std.specs.Prelude.{ℕ, suc, ◌+◌, ◌-◌, ◌*◌, ◌/◌, ◌≤◌, ◌<◌, ◌≡◌, refl, Bool, true, false, ltb, length, take}
use Rattle.std.proofs.Common.{sym, ap, ◌∙◌, arith, suc-mul, mul_comm, le-div_iff_mul-le, ltb-true, ltb-false, length-take-le, take-take}
use Rattle.spec.specs.Bytes.{Bytes, blocks, ones, unpack}
use Rattle.spec.specs.Image.{ranks}
use Rattle.bits.specs.Bits.{rank}
use Rattle.bits.proofs.UnpackLaws.{length_unpack, rank_unpack}
use Rattle.rank_tables.specs.TableEntries.{table_of, table_same}

-- a begun block starts before the end
block_start : (w b n : ℕ) → 0 < w → b < blocks w n → w * b ≤ n
block_start w b n p h =
    let q : suc b ≤ (n + (w - 1)) / w = omega arith in
    let r : suc b * w ≤ n + (w - 1) = (le-div_iff_mul-le p).0 q in
    omega (arith, suc-mul b w, mul_comm w b)

-- a block that starts before the end is begun
pub block_begun : (w b n : ℕ) → 0 < w → w * b < n → b < blocks w n
block_begun w b n p h =
    let r : suc b * w ≤ n + (w - 1) = omega (arith, suc-mul b w, mul_comm w b) in
    let q : suc b ≤ (n + (w - 1)) / w = (le-div_iff_mul-le p).1 r in
    omega arith

-- as many blocks as end at or behind the end, of which none is too many
pub blocks_are : (w b n : ℕ) → 0 < w → b ≤ blocks w n → n ≤ w * b → b ≡ blocks w n
blocks_are w b n p h l = go (ltb b (blocks w n)) refl
  where
    go : (t : Bool) → ltb b (blocks w n) ≡ t → b ≡ blocks w n
    go true e =
        let q : suc b ≤ (n + (w - 1)) / w = omega (arith, ltb-true b (blocks w n) e) in
        let r : suc b * w ≤ n + (w - 1) = (le-div_iff_mul-le p).0 q in
        absurd (omega (arith, suc-mul b w, mul_comm w b))
    go false e = omega (arith, ltb-false b (blocks w n) e)

-- as many as there are
pub length_first : (n : ℕ) (s : Bytes) → n ≤ 8 * length s → length (take n (unpack s)) ≡ n
length_first n s h = length-take-le n (unpack s) (omega (arith, length_unpack s))

-- the ones before bit k, among the first n bits
pub rank_first : (n k : ℕ) (s : Bytes) → k ≤ n → ones (take k (take n (unpack s))) ≡ rank s k
rank_first n k s h = ap ones (take-take k n (unpack s) h) ∙ sym (rank_unpack s k)

-- The ranks of the first n bits of a body: entry b is the ones before block b.
pub ranks_are : (w n : ℕ) (s : Bytes) → 0 < w → n ≤ 8 * length s → ranks w (take n (unpack s)) ≡ table_of (λ b. rank s (w * b)) (blocks w n)
unfolding ranks table_of
ranks_are w n s p h =
    ap (λ (k : ℕ). table_of (λ b. ones (take (w * b) (take n (unpack s)))) (blocks w k)) (length_first n s h)
    ∙ table_same (λ b. ones (take (w * b) (take n (unpack s)))) (λ b. rank s (w * b)) (blocks w n) (λ b l. rank_first n (w * b) s (block_start w b n p l))
