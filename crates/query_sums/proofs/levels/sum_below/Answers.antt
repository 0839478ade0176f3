-- Behind a chain, and level by level from there.
use native.Mathlib.Omega.{arith}
use Rattle.nav_nodes.specs.Accepted.{nodes}
use Rattle.nav_nodes.specs.FromCheck.{accepted}
use Rattle.query_descent.specs.LevelSums.{slots_past}
use Rattle.query_sums.specs.Levels.{DownTo, gone_again}
use Rattle.query_sums.proofs.levels.sum_below.Goals as goal
use Rattle.query_sums.proofs.levels.sum_below.Goals.{Start}

-- the bound may go down through all levels
down : (c : Start) → DownTo c.args.image.now.bytes.now c.args.image.now.frame c.args.from 64
down c = let p = c.requires in record { accepted = accepted c.args.image.now; node_in = p.0; from_in = p.1; depth_in = omega arith; small = p.2 }

pub past_chain-requires : goal.past_chain-requires
past_chain-requires c =
    down (goal.at.past_chain-requires c).Start

pub returns : goal.returns
returns c =
    let v = c.args.image.now in
    let r = c.past_chain.result in
    let q = c.past_chain.ensures in
    let g = gone_again v.bytes.now v.frame c.args.from (down (goal.at.returns c).Start) r.depth q.1 r q.2 64 q.0.from_in c.go_down.result c.go_down.ensures in
    (omega (arith, g.sums, slots_past (nodes v.bytes.now v.frame) c.go_down.result.node.0), g.small)
