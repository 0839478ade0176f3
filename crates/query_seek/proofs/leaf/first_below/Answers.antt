-- The node is an exact leaf, or the first leaf stands behind its first branch.
use mathlib.Core.Path.{refl}
use Rattle.nav_branches.specs.PathSteps.{node_in}
use Rattle.nav_nodes.specs.Accepted.{nodes}
use Rattle.nav_nodes.specs.FromCheck.{accepted}
use Rattle.query_descent.specs.FirstLeaf.{leaf_below}
use Rattle.query_seek.specs.LeafKeys.{FirstBelow, exact_reached, first_behind}
use Rattle.query_seek.proofs.leaf.first_below.Goals as goal
use Rattle.query_seek.proofs.leaf.first_below.Goals.{Start, Else-first}

-- the leaf is the first at or below the node
below : (c : Start) → FirstBelow c.args.image.now.bytes.now c.args.image.now.frame (leaf_below (nodes c.args.image.now.bytes.now c.args.image.now.frame) c.args.key.now c.args.node.0 c.args.depth) c.args.key.now c.args.node.0 c.args.depth
below c = record { accepted = accepted c.args.image.now; level = c.requires.0; key_size = c.requires.1; leaf_is = refl }

pub first_branch-first-requires : goal.first_branch-first-requires
first_branch-first-requires c =
    let v = c.args.image.now in
    record { accepted = accepted v; inside = node_in v.bytes.now v.frame (accepted v) _ c.args.node.0 c.requires.0 }

pub returns-then-first : goal.returns-then-first
returns-then-first c =
    exact_reached (below (goal.at.returns-then-first c).Start) c.first_branch-first.result c.first_branch-first.ensures c.if-first.true

pub first_behind-requires : goal.first_behind-requires
first_behind-requires c =
    let w = first_behind (below (goal.at.first_behind-requires c).Start) c.first_branch-first.result c.first_branch-first.ensures c.if-first.false in
    (w.branch, w.key_size)

pub returns : goal.returns
returns c =
    let w = first_behind (below (goal.at.returns c).Start) c.first_branch-first.result c.first_branch-first.ensures c.if-first.false in
    rw w.leaf_is c.first_behind.ensures
