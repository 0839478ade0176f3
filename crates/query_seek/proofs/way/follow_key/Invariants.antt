-- The invariant: the bytes passed lead to the bound's node. Each byte is one step of the laws in `Seeking`.
use Rattle.query_descent.specs.Seeking.{Following}
use lib.ListN.{length}
use Prim.Native.Nat.{◌-◌}
use Rattle.query_seek.proofs.way.follow_key.Given as goal

abbrev pub invariant-loop-level : goal.invariant-loop-level
invariant-loop-level l = Following l.image.bytes.now l.image.frame l.start l.higher l.level.node.0 l.level.depth l.level.sum

abbrev pub decreases-loop-level : goal.decreases-loop-level
decreases-loop-level l = length l.start - l.level.depth
