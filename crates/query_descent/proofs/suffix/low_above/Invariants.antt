use Rattle.nav_nodes.specs.Accepted.{real_slot}
use Rattle.query_descent.specs.SuffixBytes.{low_from}
use Rattle.query_descent.specs.Bounds.{low_reached}
use lib.ListN.{length, drop}
use mathlib.Core.Bool.{not}
use mathlib.Core.Path.{◌≡◌}
use Rattle.query_descent.proofs.suffix.low_above.Given as goal

abbrev pub invariant-loop-i : goal.invariant-loop-i
invariant-loop-i l = let t = real_slot l.image.bytes.now l.image.frame l.slot.0 in low_reached (length l.key) t (drop l.d l.key) ≡ not (low_from t l.key l.d l.i)
