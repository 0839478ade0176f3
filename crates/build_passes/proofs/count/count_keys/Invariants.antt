-- What the keys left count gives what all keys count, and there is room for it.
use Prim.Native.Nat.{◌-◌}
use mathlib.Core.Path.{◌≡◌}
use lib.ListN.{length}
use Rattle.spec.specs.Keys.{keys_of}
use Rattle.build_keys.specs.CountPass.{list_counts}
use Rattle.build_passes.specs.CountedKeys.{CountingStarts}
use Rattle.build_passes.proofs.count.count_keys.Given as goal

abbrev pub invariant-loop-at : goal.invariant-loop-at
invariant-loop-at l = CountingStarts l.s l.at l.first l.counts.entries l.counts.leaves (list_counts (keys_of l.s)) × (l.counts.nodes ≡ l.initial.counts.nodes)

abbrev pub decreases-loop-at : goal.decreases-loop-at
decreases-loop-at l = length l.s - l.at
