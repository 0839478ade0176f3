-- Up to the level reached there are entries and nodes.
use mathlib.Core.Path.{◌≡◌}
use Rattle.build_passes.specs.LevelSums.{Summing}
use Rattle.build_passes.proofs.count.sum_levels.Given as goal

abbrev pub invariant-loop-d : goal.invariant-loop-d
invariant-loop-d l = Summing l.initial.counts.entries l.initial.counts.leaves l.d l.counts.entries l.counts.nodes × (l.counts.leaves ≡ l.initial.counts.leaves)
