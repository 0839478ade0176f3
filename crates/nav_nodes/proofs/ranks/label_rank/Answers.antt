use Rattle.nav_nodes.specs.FromCheck.{accepted}
use Rattle.nav_nodes.specs.Tables.{labels_ranked}
use Rattle.nav_nodes.proofs.ranks.label_rank.Goals as goal

pub rank_at-requires : goal.rank_at-requires
rank_at-requires c =
    let v = c.args.image.now in
    let p = c.requires in
    ((accepted v).DL.0, (accepted v).RL.0, labels_ranked v.bytes.now v.frame (accepted v), p)
