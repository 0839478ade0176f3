-- The rest by a power of two is the number of the low bits.
use mathlib.Core.Path.{sym}
use native.Mathlib.Omega.{arith}
use lib.Pow.{pow_pos}
use Rattle.bits.proofs.RankLaws.{one_shl}
use Rattle.bits.proofs.UnpackLaws.{low_number}
use Rattle.walk_cursor.proofs.values.suffix_number.Goals as goal

pub nonzero_rem-result : goal.nonzero_rem-result
nonzero_rem-result c =
    rw (one_shl 64 c.args.width (omega arith)) (pow_pos c.args.width)

pub returns : goal.returns
returns c =
    let a = c.args in
    rw (one_shl 64 a.width (omega arith)) (sym (low_number a.width a.suffix))
