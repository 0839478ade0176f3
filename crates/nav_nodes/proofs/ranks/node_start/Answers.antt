-- Both are lent from their offsets on.
use Rattle.image.specs.Records.{tail_part}
use Rattle.nav_nodes.specs.FromCheck.{accepted}
use Rattle.nav_nodes.specs.Tables.{starts_sampled}
use Rattle.nav_nodes.proofs.ranks.node_start.Goals as goal

pub select_64-requires : goal.select_64-requires
select_64-requires c =
    let v = c.args.image.now in
    rw (tail_part v.bytes.now v.frame.sb, tail_part v.bytes.now v.frame.ts) (starts_sampled v.bytes.now v.frame (accepted v))
