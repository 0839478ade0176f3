-- The loop's invariant: the records left, from where the loop is, stand up to the end, and all lengths agree if theirs do.
use Prim.Native.Nat.{ℕ, ◌+◌, ◌≤◌, ◌<◌}
use mathlib.Core.Path.{◌≡◌}
use mathlib.Core.Bool.{true}
use mathlib.Core.Option.{some}
use lib.ListN.{length, drop}
use Rattle.spec.specs.Bytes.{Bytes}
use Rattle.spec.specs.Image.{rows}
use Rattle.image.specs.Header.{settings_of, counts_of}
use Rattle.image.specs.Records.{records_end, lengths_agree, row_at, stands, record_end, record_within, rows_from, first_stands}
use Rattle.check_frame.proofs.lengths_valid.Given as goal

module _ (s : Bytes) (i at e : ℕ) (h : i < 12) (l : at ≤ length s) (f : records_end (drop i rows) s at ≡ some e) where
  -- the next record stands
  next_stands : stands (row_at i) s at ≡ true
  next_stands = first_stands (row_at i) (drop (i + 1) rows) s at e (rw (rows_from i h) at f)

  -- it lies within the bytes
  next_within : (at + 6 ≤ length s) × (record_end s at ≤ length s)
  next_within = record_within (row_at i) s at l next_stands

abbrev pub invariant-loop-i : goal.invariant-loop-i
invariant-loop-i l = (l.i ≤ 12) × (l.at ≤ length l.image) × ((e : ℕ) × (records_end (drop l.i rows) l.image l.at ≡ some e))
    × (lengths_agree (settings_of l.h) (counts_of l.h) rows l.image 22 ≡ lengths_agree (settings_of l.h) (counts_of l.h) (drop l.i rows) l.image l.at)
