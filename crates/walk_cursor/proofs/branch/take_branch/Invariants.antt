-- The branch lies in the range, which gets narrower until it has one label.
use Prim.Native.Nat.{◌-◌}
use Rattle.walk_cursor.specs.Located.{Ranges}
use Rattle.walk_cursor.proofs.branch.take_branch.Given as goal

abbrev pub invariant-loop-r : goal.invariant-loop-r
invariant-loop-r l = Ranges l.image.bytes.now l.image.frame l.m.0 l.depth l.skip l.r

abbrev pub decreases-loop-r : goal.decreases-loop-r
decreases-loop-r l = l.r.high - l.r.low.label
