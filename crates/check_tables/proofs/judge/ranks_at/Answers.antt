-- The body and the table lie within the image, so the comparison of the two parts is that of document 01.
use Prim.Native.Nat.{ℕ, ◌+◌, ◌*◌, ◌≤◌, ◌<◌}
use mathlib.Core.Path.{◌≡◌, ◌∙◌}
use native.Mathlib.Omega.{arith}
use mir.Val.{Fits}
use mir.Syntax.{w64}
use Rattle.spec.specs.Bytes.{Bytes, blocks}
use Rattle.bits.specs.Bits.{part}
use Rattle.bits.proofs.PartLaws.{lent_part}
use Rattle.check_tables.specs.Tables.{ranked_parts, ranked_is}
use Rattle.check_tables.proofs.judge.ranks_at.Goals as goal

-- a block of one to eight words has at most 512 bits
block : {w : ℕ} → 0 < w → w ≤ 8 → Fits w64 (64 * w) × (0 < 64 * w) × (64 * w ≤ 512)
block h l = (record { fits = omega arith }, omega arith, omega arith)

short : {n : ℕ} → n < 1099511627776 → n < 9223372036854775808
short h = omega arith

inside : {b l : ℕ} (a : ℕ) → a + b ≤ l → l < 18446744073709551616 → Fits w64 b
inside a h l = record { fits = omega arith }

pub overflow_mul-words : goal.overflow_mul-words
overflow_mul-words c =
    (block c.requires.some c.requires.few).0

pub blocks_for-blocks-requires : goal.blocks_for-blocks-requires
blocks_for-blocks-requires c =
    let b = block c.requires.some c.requires.few in (b.1, b.2, short c.requires.short)

pub part-body-requires : goal.part-body-requires
part-body-requires c =
    rw c.bytes_for.ensures c.requires.body

pub overflow_mul-blocks : goal.overflow_mul-blocks
overflow_mul-blocks c =
    rw c.blocks_for-blocks.ensures (inside c.args.table c.requires.ranks c.well_formed.0.0)

pub part-ranks-requires : goal.part-ranks-requires
part-ranks-requires c =
    rw c.blocks_for-blocks.ensures c.requires.ranks

pub count_ranks-requires : goal.count_ranks-requires
count_ranks-requires c =
    let a = c.args in
    let s : Bytes = a.image.now in
    let body : c.part-body.result.now ≡ part s a.at (blocks 8 a.n) = lent_part s a.at c.part-body.ensures c.bytes_for.ensures in
    rw (body, c.part-ranks.ensures, c.blocks_for-blocks.ensures) (ranked_parts s a.at a.n a.table a.words c.requires)

pub returns : goal.returns
returns c =
    let part-call = c.part-body in
    let a = c.args in
    let s : Bytes = a.image.now in
    let body : part-call.result.now ≡ part s a.at (blocks 8 a.n) = lent_part s a.at part-call.ensures c.bytes_for.ensures in
    let r = rw (body, c.part-ranks.ensures, c.blocks_for-blocks.ensures) at c.count_ranks.ensures in
    (r.0, r.1 ∙ ranked_is s a.at a.n a.table a.words c.requires)
