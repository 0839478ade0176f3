-- Both are lent from their offsets on.
use Rattle.image.specs.Records.{tail_part}
use native.Mathlib.Omega.{arith}
use Rattle.nav_nodes.proofs.ranks.rank_at.Goals as goal

pub rank_by_table-requires : goal.rank_by_table-requires
rank_by_table-requires c =
    let a = c.args in
    let p = c.requires in
    rw (tail_part a.image.now a.body, tail_part a.image.now a.table) (p.2, omega arith, omega arith, p.3)
