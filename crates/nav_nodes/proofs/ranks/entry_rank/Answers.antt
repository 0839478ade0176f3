use Rattle.nav_nodes.specs.FromCheck.{accepted}
use Rattle.image.specs.Records.{tail_part}
use Rattle.nav_nodes.specs.Tables.{entries_ranked}
use native.Mathlib.Omega.{arith}
use Rattle.nav_nodes.proofs.ranks.entry_rank.Goals as goal

pub rank_by_table-requires : goal.rank_by_table-requires
rank_by_table-requires c =
    let v = c.args.image.now in
    let p = c.requires in
    rw (tail_part v.bytes.now v.frame.sc, tail_part v.bytes.now v.frame.rs) (entries_ranked v.bytes.now v.frame (accepted v), omega arith, omega arith, p)
