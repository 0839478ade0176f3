-- The bits are digits of the number from their first byte on.
use Prim.Native.Nat.{◌-◌}
use native.Mathlib.Omega.{arith}
use lib.Pow.{pow_pos}
use Rattle.bits.proofs.ValueLaws.{Small}
use Rattle.bits.proofs.RankLaws.{one_shl}
use Rattle.check_slots.specs.SlotWords.{few_bits}
use Rattle.check_slots.proofs.clear.few_clear.Goals as goal

pub nonzero_rem-result : goal.nonzero_rem-result
nonzero_rem-result c =
    let a = c.args in
    rw (one_shl 64 (a.to.0 - a.from.0) (omega arith)) (pow_pos (a.to.0 - a.from.0))

pub returns : goal.returns
returns c =
    let a = c.args in
    let p = c.requires in
    let small : Small a.s.now = λ i. (c.shared_slice_known-1.given i).fits in
    rw (one_shl 64 (a.to.0 - a.from.0) (omega arith), c.read_from.ensures) (few_bits a.s.now small a.from.0 a.to.0 p.0 p.2)
