-- The loop: the levels before the next one agree with LV, and what is left of it decides.
use Prim.Native.Nat.{◌-◌}
use lib.ListN.{length}
use Rattle.check_slots.specs.LevelsLeft.{LevelsLeft}
use Rattle.check_slots.proofs.level_table.starts_equal.Given as goal

abbrev pub invariant-loop-start : goal.invariant-loop-start
invariant-loop-start l = LevelsLeft l.image.bytes.now l.image.frame l.level l.start l.at

abbrev pub decreases-loop-start : goal.decreases-loop-start
decreases-loop-start l = length l.image.bytes.now - l.at
