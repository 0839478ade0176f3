use Rattle.query_descent.specs.Seeks.{low_of}
use Rattle.nav_branches.specs.declared.LeafStop.{LeafStop}
use Rattle.nav_nodes.specs.Accepted.{nodes}
use lib.ListN.{take}
use mathlib.Core.Path.{ap}
use Rattle.query_seek.proofs.seek.lowest_key.Goals as goal

pub returns-in-Exact : goal.returns-in-Exact
returns-in-Exact c =
    let v = c.args.image.now in
    let a = c.args in
    record { low_is = ap (λ (stop : LeafStop). low_of v.frame.hash_width v.frame.width (nodes v.bytes.now v.frame) stop (take a.depth a.key.now)) c.in-Exact.is; upto = c.requires.depth_in; key_size = c.requires.key_size }
