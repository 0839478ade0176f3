-- On the way down the leaf stays the first behind the branch; the measure is what is left of the 64 levels.
use Prim.Native.Nat.{◌-◌}
use Rattle.nav_nodes.specs.Accepted.{nodes}
use Rattle.query_descent.specs.FirstLeaf.{leaf_behind}
use Rattle.query_seek.specs.LeafKeys.{FirstBehind}
use Rattle.query_seek.proofs.leaf.first_behind.Given as goal

abbrev pub invariant-loop-b : goal.invariant-loop-b
invariant-loop-b l = FirstBehind l.image.bytes.now l.image.frame (leaf_behind (nodes l.image.bytes.now l.image.frame) l.initial.key l.initial.m.0 l.depth l.initial.b.label) l.key l.m.0 l.d l.b

abbrev pub decreases-loop-b : goal.decreases-loop-b
decreases-loop-b l = 64 - l.d
