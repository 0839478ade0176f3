-- A reply written part by part, and a reply by value.
use Prim.Native.Nat.{ℕ, ◌+◌, ◌≤◌}
use mathlib.Core.Path.{◌≡◌, refl, ap, ◌∙◌}
use mathlib.Core.List.{[], ◌∷◌, ◌++◌}
use native.Mathlib.Omega.{arith}
use lib.ListN.{length, set, drop, length-take}
use lib.Seq.{length-take-le, sets-eq}
use Rattle.spec.specs.Bytes.{Bytes, le32}
use Rattle.spec.specs.Questions.{reply_bytes}
use Rattle.bits.specs.Bits.{overlaid, part}
use Rattle.bits.proofs.Overlaying.{length_overlaid, overlaid_behind}
use Rattle.ask_files.specs.AskedAt.{KeyPart}
use Rattle.ask_files.specs.ReplyLaws.{answer}
use Rattle.ask_files.specs.ReplyContracts.{reply_mark, reply_head, reply_of, Sized}
use Rattle.ask_files.specs.declared.reply_bytes.Answered.{Answered}

-- the mark, the number behind it, and the length byte behind both
pub head_overlaid : (out marked numbered : Bytes) (at letter number n : ℕ) → at + 8 ≤ length out → marked ≡ overlaid out at (reply_mark letter) → numbered ≡ overlaid marked (at + 3) (le32 number)
    → set numbered (at + 7) n ≡ overlaid out at (reply_head letter number n)
unfolding le32
head_overlaid out marked numbered at letter number n h e f =
    let m : at + 3 + 4 ≤ length out = omega arith in
    let g : numbered ≡ overlaid out at (reply_mark letter ++ le32 number) = overlaid_behind out marked numbered (reply_mark letter) (le32 number) at (at + 3) refl m e f in
    let size : length numbered ≡ length out = ap length g ∙ length_overlaid out at (reply_mark letter ++ le32 number) (omega arith) in
    overlaid_behind out numbered (set numbered (at + 7) n) (reply_mark letter ++ le32 number) (n ∷ []) at (at + 7) refl (omega arith) g (sets-eq (n ∷ []) numbered (at + 7) (omega arith))

-- the key behind the first eight bytes
pub reply_overlaid : (out headed new : Bytes) (at letter number : ℕ) (key : Bytes) → at + 8 + length key ≤ length out → headed ≡ overlaid out at (reply_head letter number (length key)) → new ≡ overlaid headed (at + 8) key
    → new ≡ overlaid out at (reply_bytes (answer letter number key))
unfolding le32 reply_bytes
reply_overlaid out headed new at letter number key h e f = overlaid_behind out headed new (reply_head letter number (length key)) key at (at + 8) refl h e f

-- ---- replies by value

-- the length of the key of a reply by value
pub key_length : (a : Answered) (key : Bytes) → Sized a key → length (reply_of a key).key ≡ a.n
key_length a key s = length-take-le a.n key (omega (arith, s.small, s.buffer))

-- A key of a file has at most 64 bytes.
pub part_short : {file : Bytes} {a n : ℕ} → KeyPart file a n → length (part file a n) ≤ 64
part_short {file} {a} {n} k = omega (arith, length-take n (drop a file), k.small)
