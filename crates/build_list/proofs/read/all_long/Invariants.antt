-- All keys are long exactly if those of the records left are.
use Prim.Native.Nat.{◌-◌}
use lib.ListN.{length}
use Rattle.build_list.specs.LongKeys.{LongLeft}
use Rattle.build_list.proofs.read.all_long.Given as goal

abbrev pub invariant-loop-at : goal.invariant-loop-at
invariant-loop-at l = LongLeft l.s l.n l.at

abbrev pub decreases-loop-at : goal.decreases-loop-at
decreases-loop-at l = length l.s - l.at
