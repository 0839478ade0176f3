-- The loop: k levels behind the level have as many nodes, and so has the one behind these.
use Prim.Native.Nat.{◌+◌, ◌*◌}
use mathlib.Core.Path.{◌≡◌}
use Rattle.query_sums.specs.Chains.{EqualLevels}
use Rattle.query_sums.proofs.chains.equal_levels.Given as goal

abbrev pub invariant-loop-k : goal.invariant-loop-k
invariant-loop-k l = EqualLevels l.image.bytes.now l.image.frame l.level.number l.level.start l.level.width l.k × (l.next ≡ l.level.start + l.k * l.level.width + l.level.width)
