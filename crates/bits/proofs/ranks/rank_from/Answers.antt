-- The ones before the word, and those from it on.
use native.Mathlib.Omega.{arith}
use Rattle.bits.proofs.RankLaws.{rank_le}
use Rattle.bits.proofs.ranks.rank_from.Goals as goal

pub overflow_add-result : goal.overflow_add-result
overflow_add-result c =
    let a = c.args in
    omega (arith, rank_le a.s.now a.k)
