-- The whole bytes before i are flipped; the last bits come behind them.
use Prim.Native.Nat.{◌*◌}
use mathlib.Core.Path.{◌≡◌}
use Rattle.build_passes.specs.FlippedBits.{flipped}
use Rattle.build_passes.proofs.flip.flip.Given as goal

abbrev pub invariant-loop-i : goal.invariant-loop-i
invariant-loop-i l = l.out ≡ flipped l.i (8 * l.i) l.initial.out
