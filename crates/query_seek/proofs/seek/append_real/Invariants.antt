use Rattle.query_descent.specs.LowestKeys.{Filling}
use Rattle.nav_nodes.specs.Accepted.{real_slot}
use lib.ListN.{length}
use mathlib.Core.Path.{◌≡◌}
use Rattle.query_seek.proofs.seek.append_real.Given as goal

abbrev pub invariant-loop-i : goal.invariant-loop-i
invariant-loop-i l = (length l.key ≡ 64) × Filling l.initial.key l.key l.depth l.end l.i (real_slot l.image.bytes.now l.image.frame l.slot.0)
