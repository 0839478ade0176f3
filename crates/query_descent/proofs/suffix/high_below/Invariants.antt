use Rattle.nav_nodes.specs.Accepted.{real_slot}
use Rattle.query_descent.specs.SuffixBytes.{high_from}
use Rattle.query_descent.specs.Bounds.{high_passed}
use lib.ListN.{length, drop}
use mathlib.Core.Path.{◌≡◌}
use Rattle.query_descent.proofs.suffix.high_below.Given as goal

abbrev pub invariant-loop-i : goal.invariant-loop-i
invariant-loop-i l = let t = real_slot l.image.bytes.now l.image.frame l.slot.0 in high_passed (length l.key) t (drop l.d l.key) ≡ high_from t l.key l.d l.i
