use mathlib.Core.Path.{sym}
use native.Mathlib.Omega.{arith}
use Rattle.bits.proofs.RankLaws.{rank_zero}
use Rattle.bits.proofs.ranks.ones_of.Goals as goal

pub rank_from-requires : goal.rank_from-requires
rank_from-requires c =
    (c.requires, omega arith, sym (rank_zero c.args.s.now))
