use Rattle.nav_nodes.specs.FromCheck.{accepted}
use Rattle.query_descent.specs.Leads.{AtByte, root, next}
use Rattle.query_descent.specs.Followed.{leads_way}
use native.Mathlib.Omega.{arith}
use Rattle.query_descent.proofs.follow.follow.Goals as goal

pub loop-depth-init : goal.loop-depth-init
loop-depth-init c =
    root (omega (arith, c.if-image-eq0.false))

pub find-found-requires : goal.find-found-requires
find-found-requires c =
    let v = c.args.image.now in
    (record { accepted = accepted v; inside = (leads_way v.bytes.now v.frame (accepted v) c.args.key.now c.loop-depth.invariant).node_in }, omega arith)

pub child-node-requires : goal.child-node-requires
child-node-requires c =
    record { accepted = accepted c.args.image.now; within = c.find-found.ensures.at_is.within }

pub loop-depth-preserved : goal.loop-depth-preserved
loop-depth-preserved c =
    let v = c.args.image.now in
    let here : AtByte v.bytes.now v.frame c.args.key.now c.loop-depth.depth c.loop-depth.node.0 c.find-found.result = record { more = omega (arith, c.loop-depth-test.true); found = rw c.from.ensures at c.find-found.ensures } in
    next c.loop-depth.invariant (record { branch = c.find-found.result; here = here; continues = c.in-Child.is; child_is = c.child-node.ensures })
