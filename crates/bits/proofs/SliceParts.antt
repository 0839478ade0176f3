-- Parts of a byte string: what stands in one after bytes were written, a part of a part, and a part to the end. Laws for every function that reads or lends a part of a buffer.
use Rattle.std.specs.Prelude.{ℕ, ◌+◌, ◌-◌, ◌≤◌, ◌≡◌, ◌++◌, length, take, drop}
use Rattle.std.proofs.Common.{sym, ap, ◌∙◌, append_assoc, arith, length-drop, take_all, take_at, take-take, take-add, drop_at, drop-drop, length-take-le}
use borrow.Rule.Slice.PartMut.{mid_of}
use Rattle.spec.specs.Bytes.{Bytes}
use Rattle.bits.specs.Bits.{part, overlaid}
use Rattle.bits.proofs.Overlaying.{length_overlaid, take_overlaid}

-- a part by the bytes up to its end
part_take : (s : Bytes) (from m : ℕ) → from ≤ length s → part s from m ≡ drop from (take (from + m) s)
part_take s from m h = sym (ap (drop from) (take-add from m s) ∙ drop_at (take from s) (take m (drop from s)) from (length-take-le from s h))

-- a part within the bytes has its whole length
pub length_part : (s : Bytes) (from m : ℕ) → from + m ≤ length s → length (part s from m) ≡ m
length_part s from m h = length-take-le m (drop from s) (omega (arith, length-drop from s))

-- what stands before an offset is kept
pub part_kept : (out xs : Bytes) (from m at : ℕ) → from + m ≤ at → at + length xs ≤ length out → part (overlaid out at xs) from m ≡ part out from m
part_kept out xs from m at h l =
    part_take (overlaid out at xs) from m (omega (arith, length_overlaid out at xs l)) ∙ ap (drop from) (take_overlaid out xs (from + m) at h (omega arith)) ∙ sym (part_take out from m (omega arith))

-- what was written stands there
pub part_overlaid : (out xs : Bytes) (at m : ℕ) → at ≤ length out → m ≡ length xs → part (overlaid out at xs) at m ≡ xs
part_overlaid out xs at m h e =
    ap (λ (z : Bytes). take m z) (ap (drop at) (append_assoc (take at out) xs (drop (at + length xs) out)) ∙ drop_at (take at out) (xs ++ drop (at + length xs) out) at (length-take-le at out h))
    ∙ take_at xs (drop (at + length xs) out) m (sym e)

-- a part of a part
pub part_part : (s w : Bytes) (from m j k : ℕ) → from + m ≤ length s → part s from m ≡ w → j + k ≤ m → part s (from + j) k ≡ part w j k
part_part s w from m j k h e l =
    ap (take k) (sym (drop-drop j from s))
    ∙ part_take (drop from s) j k (omega (arith, length-drop from s)) ∙ ap (drop j) (sym (take-take (j + k) m (drop from s) l)) ∙ sym (part_take (take m (drop from s)) j k (omega (arith, length-take-le m (drop from s) (omega (arith, length-drop from s)))))
    ∙ ap (λ (z : Bytes). part z j k) e

-- what a part from k to the end is
pub mid_is : (o : Bytes) (k : ℕ) → mid_of k (length o - k) o ≡ drop k o
mid_is o k = take_all (length o - k) (drop k o) (omega (arith, length-drop k o))
