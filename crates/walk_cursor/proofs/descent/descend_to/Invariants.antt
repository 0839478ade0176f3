-- The leaves from the place on are those of the path's node but the ones passed, and those behind the path.
use Prim.Native.Nat.{◌-◌}
use Rattle.walk_cursor.specs.LocateLaws.{Going}
use Rattle.walk_cursor.proofs.descent.descend_to.Given as goal

abbrev pub invariant-loop-p : goal.invariant-loop-p
invariant-loop-p l = Going l.image.bytes.now l.image.frame l.place l.p l.d l.skip

abbrev pub decreases-loop-p : goal.decreases-loop-p
decreases-loop-p l = 64 - l.d
