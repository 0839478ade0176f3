use Rattle.nav_nodes.specs.FromCheck.{accepted}
use Rattle.nav_nodes.specs.Tables.{children_ranked}
use Rattle.nav_nodes.proofs.ranks.child_rank.Goals as goal

pub rank_at-requires : goal.rank_at-requires
rank_at-requires c =
    let v = c.args.image.now in
    let p = c.requires in
    ((accepted v).DC.0, (accepted v).RC.0, children_ranked v.bytes.now v.frame (accepted v), p)
