-- On the way down no leaf is passed; the measure is what is left of the 64 levels.
use Prim.Native.Nat.{◌-◌}
use Rattle.walk_path.specs.DownLaws.{GoesDown}
use Rattle.walk_path.proofs.moves.first_behind.Given as goal

abbrev pub invariant-loop-stop : goal.invariant-loop-stop
invariant-loop-stop l = GoesDown l.image.bytes.now l.image.frame l.initial.trail.nodes l.initial.trail.labels l.initial.d l.initial.b.label l.trail.nodes l.trail.entries l.trail.labels l.d l.b l.c.0

abbrev pub decreases-loop-stop : goal.decreases-loop-stop
decreases-loop-stop l = 64 - l.d
