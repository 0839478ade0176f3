use Rattle.bits.proofs.ValueLaws.{Small}
use Rattle.bits.proofs.RankLaws.{rank_whole_word}
use Rattle.bits.proofs.ranks.ones_word.Goals as goal

pub returns : goal.returns
returns c =
    let a = c.args in
    let small : Small a.s.now = λ i. (c.shared_slice_known-1.given i).fits in
    rw c.read64.ensures (rank_whole_word a.s.now small a.q)
