-- On the way down the leaf stays the first behind the branch; the measure is what is left of the 64 levels.
use Prim.Native.Nat.{◌+◌}
use mathlib.Core.Path.{refl}
use lib.ListN.{set}
use Rattle.nav_branches.proofs.BranchTests.{ends_leaf}
use Rattle.nav_branches.specs.PathSteps.{node_in}
use Rattle.nav_nodes.specs.Accepted.{nodes}
use Rattle.nav_nodes.specs.FromCheck.{accepted}
use Rattle.query_descent.specs.FirstLeaf.{leaf_behind}
use Rattle.query_seek.specs.LeafKeys.{FirstBelow, exact_reached, first_behind, open_reached, child_below}
use Rattle.query_seek.proofs.leaf.first_behind.Goals as goal
use Rattle.query_seek.proofs.leaf.first_behind.Goals.{After-child-m}

-- the branch continues to a node
below : (c : After-child-m) → FirstBelow c.args.image.now.bytes.now c.args.image.now.frame (leaf_behind (nodes c.args.image.now.bytes.now c.args.image.now.frame) c.args.key.now c.args.node.0 c.args.depth c.args.branch.label) (set c.loop-b.key c.loop-b.d c.loop-b.b.label) c.child-m.result.0 (c.loop-b.d + 1)
below c = child_below c.loop-b.invariant c.child-m.result c.child-m.ensures c.in-Child.is

pub loop-b-init : goal.loop-b-init
loop-b-init c =
    record { accepted = accepted c.args.image.now; branch = c.requires.0; key_size = c.requires.1; leaf_is = refl }

pub returns-in_default : goal.returns-in_default
returns-in_default c =
    open_reached c.loop-b.invariant c.slot.result c.slot.ensures (ends_leaf c.loop-b.b.kind c.in_default.not-Child c.loop-b.invariant.branch.there)

pub first_branch-next-requires : goal.first_branch-next-requires
first_branch-next-requires c =
    let v = c.args.image.now in
    record { accepted = accepted v; inside = node_in v.bytes.now v.frame (accepted v) _ c.child-m.result.0 (below (goal.at.first_branch-next-requires c).After-child-m).level }

pub returns-then-next : goal.returns-then-next
returns-then-next c =
    exact_reached (below (goal.at.returns-then-next c).After-child-m) c.first_branch-next.result c.first_branch-next.ensures c.if-next.true

pub loop-b-preserved : goal.loop-b-preserved
loop-b-preserved c =
    first_behind (below (goal.at.loop-b-preserved c).After-child-m) c.first_branch-next.result c.first_branch-next.ensures c.if-next.false
