-- The loop's invariant: the records left, from where the loop is, end where all of them do.
use Prim.Native.Nat.{◌≤◌}
use mathlib.Core.Path.{◌≡◌}
use lib.ListN.{length, drop}
use Rattle.spec.specs.Image.{rows}
use Rattle.image.specs.Records.{records_end}
use Rattle.check_frame.proofs.twelve_end.Given as goal

abbrev pub invariant-loop-i : goal.invariant-loop-i
invariant-loop-i l = (l.i ≤ 12) × (l.at ≤ length l.image) × (records_end rows l.image 22 ≡ records_end (drop l.i rows) l.image l.at)
