-- The sum so far is that of the levels passed.
use Rattle.build_laws.specs.Cursors.{sums}
use Prim.Native.Nat.{min}
use mathlib.Core.Path.{◌≡◌}
use Rattle.build_passes.proofs.offsets.total.Given as goal

abbrev pub invariant-loop-d : goal.invariant-loop-d
invariant-loop-d l = l.sum ≡ sums l.cnt l.lo (min l.d l.hi)
