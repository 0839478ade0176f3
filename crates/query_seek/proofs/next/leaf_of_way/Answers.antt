use Rattle.query_seek.specs.LeafKeys.{FirstBelow, open_key, same_front, start_below}
use Rattle.query_descent.specs.FirstLeaf.{leaf_below}
use Rattle.query_descent.specs.Seeking.{higher_within, ended_node, ended_leaf}
use Rattle.nav_nodes.specs.Accepted.{nodes}
use Rattle.image.specs.declared.ValuePos.{ValuePos}
use lib.ListN.{length}
use native.Mathlib.Omega.{arith}
use mathlib.Core.Path.{◌∙◌}
use Rattle.query_seek.proofs.next.leaf_of_way.Goals as goal
use Rattle.query_seek.proofs.next.leaf_of_way.Goals.{In-Node}

-- the node where the way ends
below : (c : In-Node) → FirstBelow c.args.image.now.bytes.now c.args.image.now.frame (leaf_below (nodes c.args.image.now.bytes.now c.args.image.now.frame) c.args.start.now c.args.way.bound.level.node.0 c.args.way.bound.level.depth) c.args.key.now c.args.way.bound.level.node.0 c.args.way.bound.level.depth
below c = let p = c.requires in start_below p.accepted p.key_size p.begins p.ended.sums.depth_in (ended_node p.ended c.in-Node.is).1

pub leaf_above-requires : goal.leaf_above-requires
leaf_above-requires c =
    let v = c.args.image.now in
    let p = c.requires in
    record {
      accepted = p.accepted;
      short = p.short;
      key_size = p.key_size;
      begins = p.begins;
      inside = higher_within v.bytes.now v.frame c.args.start.now c.args.way.bound.level.depth (length c.args.start.now) c.args.way.higher p.ended.sums.depth_in p.ended.higher_in;
    }

pub returns-in-Node : goal.returns-in-Node
returns-in-Node c =
    let w = below (goal.at.returns-in-Node c).In-Node in
    rw ((ended_node c.requires.ended c.in-Node.is).0 ∙ w.leaf_is) c.first_below.ensures

pub returns-in-Leaf : goal.returns-in-Leaf
returns-in-Leaf c =
    let v = c.args.image.now in
    let slot : ValuePos = c.in-Leaf.slot in
    let e = c.requires.ended in
    let there = ended_leaf e slot c.in-Leaf.is in
    let d = c.args.way.bound.level.depth in
    let front = same_front c.args.key.now c.args.start.now c.requires.begins d e.sums.depth_in in
    record {
      key_is = rw (there.0, ← front) (open_key v.bytes.now v.frame slot c.args.key.now d (omega (arith, e.sums.depth_in, c.requires.short)) there.1);
      key_size = c.requires.key_size;
    }
