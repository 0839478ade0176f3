-- The mark, the number and the length byte, one behind the other.
use native.Mathlib.Omega.{arith}
use lib.ListN.{length-set}
use Rattle.ask_files.proofs.OverlaidLaws.{head_overlaid}
use Rattle.ask_files.proofs.reply_bytes.write_head.Goals as goal

pub shape_of-out : goal.shape_of-out
shape_of-out c =
    simp length-set (omega arith)

pub returns : goal.returns
returns c =
    let a = c.args in
    head_overlaid a.out.now _ _ a.at a.letter a.number a.n c.requires.0 c.write_mark.ensures c.write32.ensures
