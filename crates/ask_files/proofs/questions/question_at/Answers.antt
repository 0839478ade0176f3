-- The letter tells the keys, and the file is known to hold them.
use native.Mathlib.Omega.{arith}
use Prim.Native.Nat.{◌+◌}
use lib.ListN.{get_or}
use Rattle.spec.specs.Questions.{QP, QS, QB, QR, QC}
use Rattle.ask_files.specs.QuestionAt.{letter_point, letter_seek, letter_begins, letter_range}
use Rattle.ask_files.specs.AskedAt.{first_key, one_asked, two_asked, count_left, upper_key, upper_fits}
use Rattle.ask_files.proofs.OverlaidLaws.{part_short}
use Rattle.ask_files.proofs.questions.question_at.Goals as goal

pub bounds-file-at : goal.bounds-file-at
bounds-file-at c =
    let k = first_key c.args.file.now c.args.at c.requires.0 c.requires.1 in
    omega (arith, k.inside)

pub bounds-file-at-2 : goal.bounds-file-at-2
bounds-file-at-2 c =
    let k = first_key c.args.file.now c.args.at c.requires.0 c.requires.1 in
    omega (arith, k.inside)

pub part-lower-requires : goal.part-lower-requires
part-lower-requires c =
    let k = first_key c.args.file.now c.args.at c.requires.0 c.requires.1 in
    omega (arith, k.fits)

pub returns-then-letter-eq80 : goal.returns-then-letter-eq80
returns-then-letter-eq80 c =
    let a = c.args in
    let r = one_asked a.file.now a.at c.requires.0 c.requires.1 QP c.from-n.result (letter_point (get_or a.file.now (a.at + 1) 0) c.if-letter-eq80.true) (omega arith) in
    record { short = rw c.part-lower.ensures (part_short r.0); followed = rw c.part-lower.ensures r.1 }

pub returns-then-letter-eq83 : goal.returns-then-letter-eq83
returns-then-letter-eq83 c =
    let a = c.args in
    let r = one_asked a.file.now a.at c.requires.0 c.requires.1 QS c.from-n.result (letter_seek (get_or a.file.now (a.at + 1) 0) c.if-letter-eq83.true) (omega arith) in
    record { short = rw c.part-lower.ensures (part_short r.0); followed = rw c.part-lower.ensures r.1 }

pub returns-then-letter-eq66 : goal.returns-then-letter-eq66
returns-then-letter-eq66 c =
    let a = c.args in
    let r = one_asked a.file.now a.at c.requires.0 c.requires.1 QB c.from-n.result (letter_begins (get_or a.file.now (a.at + 1) 0) c.if-letter-eq66.true) (omega arith) in
    record { short = rw c.part-lower.ensures (part_short r.0); followed = rw c.part-lower.ensures r.1 }

pub bounds-file-next : goal.bounds-file-next
bounds-file-next c =
    let a = c.args in
    upper_key a.file.now a.at c.requires.0 c.requires.1 c.from-n.result c.if-letter-eq80.false c.if-letter-eq83.false c.if-letter-eq66.false (omega arith)

pub part-upper-requires : goal.part-upper-requires
part-upper-requires c =
    let a = c.args in
    upper_fits a.file.now a.at c.requires.0 c.requires.1 c.from-n.result c.from-m.result c.if-letter-eq80.false c.if-letter-eq83.false c.if-letter-eq66.false (omega arith) (omega arith)

pub returns-then-letter-eq82 : goal.returns-then-letter-eq82
returns-then-letter-eq82 c =
    let a = c.args in
    let r = two_asked a.file.now a.at c.requires.0 c.requires.1 QR c.from-n.result c.from-m.result (letter_range (get_or a.file.now (a.at + 1) 0) c.if-letter-eq82.true) (omega arith) (omega arith) in
    record { short = rw (c.part-lower.ensures, c.part-upper.ensures) (part_short r.0, part_short r.1, r.2); followed = rw (c.part-lower.ensures, c.part-upper.ensures) r.3 }

pub returns : goal.returns
returns c =
    let a = c.args in
    let r = two_asked a.file.now a.at c.requires.0 c.requires.1 QC c.from-n.result c.from-m.result (count_left a.file.now a.at c.requires.0 c.requires.1 c.if-letter-eq80.false c.if-letter-eq83.false c.if-letter-eq66.false c.if-letter-eq82.false) (omega arith) (omega arith) in
    record { short = rw (c.part-lower.ensures, c.part-upper.ensures) (part_short r.0, part_short r.1, r.2); followed = rw (c.part-lower.ensures, c.part-upper.ensures) r.3 }
