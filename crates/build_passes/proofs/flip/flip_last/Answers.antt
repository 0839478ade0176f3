-- The shift is a power of two.
use Rattle.bits.proofs.RankLaws.{one_shl}
use Rattle.build_passes.specs.FlippedBits.{flip_byte}
use Rattle.build_passes.proofs.flip.flip_last.Goals as goal

pub returns : goal.returns
unfolding flip_byte
returns c =
    rw (one_shl 8 c.args.k c.requires.1)
