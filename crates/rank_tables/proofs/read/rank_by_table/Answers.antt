use Rattle.bits.specs.Bits.{rank}
use Rattle.rank_tables.proofs.read.rank_by_table.Goals as goal

pub returns-then-k-eq0 : goal.returns-then-k-eq0
unfolding rank
returns-then-k-eq0 g c =
    rw c.if-k-eq0.true
