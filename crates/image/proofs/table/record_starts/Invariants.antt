-- The loop's invariant: the starts written and those of the records left are the starts of all.
use Prim.Native.Nat.{◌+◌, ◌*◌, ◌≤◌, ◌^◌}
use mathlib.Core.Path.{◌≡◌}
use mathlib.Core.List.{◌++◌}
use lib.ListN.{length, take, drop}
use Rattle.spec.specs.Image.{rows}
use Rattle.image.specs.Header.{settings_of, counts_of}
use Rattle.image.specs.Records.{starts}
use Rattle.image.proofs.table.record_starts.Given as goal

abbrev pub invariant-loop-i : goal.invariant-loop-i
invariant-loop-i l = (length l.out ≡ 13) × (l.at ≤ 22 + l.i * 2 ^ 41) × (take l.i l.out ++ starts (settings_of l.h) (counts_of l.h) (drop l.i rows) l.at ≡ starts (settings_of l.h) (counts_of l.h) rows 22)
