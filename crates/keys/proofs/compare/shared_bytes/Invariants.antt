-- The bytes before the index are shared.
use mathlib.Core.Path.{◌≡◌}
use lib.ListN.{take}
use Rattle.keys.proofs.compare.shared_bytes.Given as goal

abbrev pub invariant-loop-i : goal.invariant-loop-i
invariant-loop-i l = take l.i l.p ≡ take l.i l.q
