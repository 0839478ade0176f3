-- The key behind the first eight bytes.
use mathlib.Core.Path.{refl}
use Rattle.ask_files.proofs.OverlaidLaws.{reply_overlaid}
use Rattle.ask_files.proofs.reply_bytes.write_reply.Goals as goal

pub returns : goal.returns
returns c =
    let a = c.args in
    (refl, reply_overlaid a.out.now _ _ a.at a.letter a.number a.key.now c.requires.0 c.write_head.ensures c.write_bytes.ensures)
