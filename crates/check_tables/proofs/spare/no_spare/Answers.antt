-- The spare bits of a body are the high bits of its last byte.
use Prim.Native.Nat.{ℕ, ◌/◌, ◌%◌, ◌^◌}
use mathlib.Core.Path.{sym, ap, ◌∙◌}
use native.Mathlib.Omega.{arith}
use lib.Dec.{eqb}
use Rattle.spec.specs.Bytes.{blocks}
use Rattle.bits.proofs.ValueLaws.{Small}
use Rattle.bits.specs.Bits.{part}
use Rattle.check_tables.specs.Spare.{spare_none, spare_last}
use Rattle.bits.proofs.SliceParts.{length_part}
use Rattle.bits.proofs.PartLaws.{byte_part, small_part}
use Rattle.check_tables.proofs.spare.no_spare.Goals as goal

pub returns-then-n-eq0 : goal.returns-then-n-eq0
returns-then-n-eq0 c =
    let a = c.args in
    sym (spare_none a.n (part a.image.now a.at (blocks 8 a.n)) (length_part a.image.now a.at (blocks 8 a.n) c.requires) c.if-n-eq0.true)

pub returns : goal.returns
returns c =
    let a = c.args in
    let k : ℕ = blocks 8 a.n in
    let small : Small a.image.now = λ i. (c.shared_slice_known-2-1.given i).fits in
    let ne = c.if-n-eq0.false in
    ap (λ (x : ℕ). eqb (x / 2 ^ (a.n % 8)) 0) (c.from.ensures ∙ sym (byte_part a.image.now a.at k (a.n / 8) (omega arith)))
    ∙ sym (spare_last a.n (part a.image.now a.at k) (length_part a.image.now a.at k c.requires) (small_part a.image.now a.at k small) ne)
