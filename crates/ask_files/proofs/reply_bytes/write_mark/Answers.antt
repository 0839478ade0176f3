-- Three stores, one behind the other.
use native.Mathlib.Omega.{arith}
use native.Mathlib.Numerals.{add-one, add-two}
use lib.ListN.{length-set}
use lib.Seq.{sets-eq}
use Rattle.ask_files.specs.ReplyContracts.{reply_mark}
use Rattle.ask_files.proofs.reply_bytes.write_mark.Goals as goal

pub bounds-out-at-2 : goal.bounds-out-at-2
bounds-out-at-2 c =
    simp length-set (omega arith)

pub bounds-out-at-3 : goal.bounds-out-at-3
bounds-out-at-3 c =
    simp length-set (omega arith)

pub returns : goal.returns
returns c =
    let a = c.args in
    simp (add-one, add-two) (sets-eq (reply_mark a.letter) a.out.now a.at (omega arith))
