use Rattle.nav_nodes.specs.Accepted.{real_slot}
use Rattle.query_point.specs.StemLeaves.{agrees, agrees_from}
use lib.ListN.{drop}
use mathlib.Core.Path.{◌≡◌}
use Rattle.query_point.proofs.stem_suffix.real_agrees.Given as goal

abbrev pub invariant-loop-i : goal.invariant-loop-i
invariant-loop-i l = let t = real_slot l.image.bytes.now l.image.frame l.slot.0 in agrees t (drop l.d l.stem) ≡ agrees_from t l.stem l.d l.i
