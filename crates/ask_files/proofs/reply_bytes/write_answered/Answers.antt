-- The part of the buffer that holds the key is lent.
use mathlib.Core.Path.{sym, ap, ◌∙◌}
use native.Mathlib.Omega.{arith}
use Prim.Native.Nat.{ℕ, ◌+◌}
use Rattle.ask_files.proofs.OverlaidLaws.{key_length}
use Rattle.ask_files.proofs.reply_bytes.write_answered.Goals as goal

pub slice_bounds-write_reply-end : goal.slice_bounds-write_reply-end
slice_bounds-write_reply-end c =
    sym (key_length c.args.a c.args.key.now c.requires.0)

pub write_reply-requires : goal.write_reply-requires
write_reply-requires c =
    let size = key_length c.args.a c.args.key.now c.requires.0 in
    let small = c.requires.0.small in
    (omega arith, omega arith)

pub returns : goal.returns
returns c =
    let a = c.args in
    let w = c.write_reply.ensures in
    (w.0 ∙ ap (λ (k : ℕ). a.at + 8 + k) (key_length a.a a.key.now c.requires.0), w.1)
