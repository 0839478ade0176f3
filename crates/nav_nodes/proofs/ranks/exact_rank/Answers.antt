use Rattle.nav_nodes.specs.FromCheck.{accepted}
use Rattle.nav_nodes.specs.Tables.{exacts_ranked}
use Rattle.nav_nodes.proofs.ranks.exact_rank.Goals as goal

pub rank_at-requires : goal.rank_at-requires
rank_at-requires c =
    let v = c.args.image.now in
    let p = c.requires in
    ((accepted v).DP.0, (accepted v).RP.0, exacts_ranked v.bytes.now v.frame (accepted v), p)
