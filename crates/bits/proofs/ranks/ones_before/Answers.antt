use native.Mathlib.Omega.{arith}
use Rattle.bits.proofs.ValueLaws.{Small}
use Rattle.bits.proofs.RankLaws.{rank_word, one_shl}
use Rattle.bits.proofs.ranks.ones_before.Goals as goal

pub returns : goal.returns
returns c =
    let a = c.args in
    let small : Small a.s.now = λ i. (c.shared_slice_known-1.given i).fits in
    rw (one_shl 64 a.j (omega arith), c.read_word.ensures) (rank_word a.s.now small a.q a.j (omega arith))
