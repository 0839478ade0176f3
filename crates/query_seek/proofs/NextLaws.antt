-- Bytes at the front of a key.
use Prim.Native.Nat.{◌+◌}
use mathlib.Core.Path.{◌≡◌}
use lib.ListN.{length, take, drop}
use lib.Seq.{take-append_seam}
use Rattle.spec.specs.Bytes.{Bytes}
use Rattle.bits.specs.Bits.{overlaid}

-- bytes that were written at the front
pub overlaid_front : (out xs : Bytes) → take (length xs) (overlaid out 0 xs) ≡ xs
overlaid_front out xs = take-append_seam xs (drop (0 + length xs) out)
