-- The two bytes behind the cut hold all bits of the slot.
use mathlib.Core.Path.{ap, ◌∙◌}
use native.Mathlib.Omega.{arith}
use Rattle.bits.specs.Bits.{reversed}
use Rattle.bits.proofs.RankLaws.{one_shl}
use Rattle.image.specs.SuffixNumbers.{suffix_number}
use Rattle.image.proofs.suffix.real_number.Goals as goal

pub returns : goal.returns
returns c =
    let a = c.args in
    rw (one_shl 64 a.n (omega arith))
    (suffix_number a.n a.cut _ _ a.key.now c.requires.1
    (c.reversed-first.ensures.0 ∙ ap reversed c.byte_or_zero.ensures) (c.reversed-second.ensures.0 ∙ ap reversed c.byte_or_zero-2.ensures))
