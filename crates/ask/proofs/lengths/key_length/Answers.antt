-- Only a seek is answered; a point's reply has a key of one byte, and that to any other question has none.
use native.Mathlib.Omega.{arith}
use Rattle.spec.specs.Nodes.{read_leaves}
use Rattle.ask_files.proofs.AnswerLaws.{reply_key, point_length, begins_length, range_length, count_length}
use Rattle.ask_files.specs.declared.questions.Question.TheVariants.{Seek}
use Rattle.ask.proofs.lengths.key_length.Goals as goal

pub returns-in-Seek : goal.returns-in-Seek
returns-in-Seek c =
    let v = c.args.image.now in
    let r = c.seek_reply in
    rw c.in-Seek.is (reply_key v.frame.hash_width (read_leaves v.bytes.now) r.result _ (Seek c.in-Seek.start) r.ensures.0 r.ensures.1, r.ensures.0.small)

pub returns-in-Point : goal.returns-in-Point
returns-in-Point c =
    let v = c.args.image.now in
    rw c.in-Point.is (point_length v.frame.hash_width (read_leaves v.bytes.now) _, omega arith)

pub returns-in-Begins : goal.returns-in-Begins
returns-in-Begins c =
    let v = c.args.image.now in
    rw c.in-Begins.is (begins_length v.frame.hash_width (read_leaves v.bytes.now) _, omega arith)

pub returns-in-Range : goal.returns-in-Range
returns-in-Range c =
    let v = c.args.image.now in
    rw c.in-Range.is (range_length v.frame.hash_width (read_leaves v.bytes.now) _ _, omega arith)

pub returns-in-Count : goal.returns-in-Count
returns-in-Count c =
    let v = c.args.image.now in
    rw c.in-Count.is (count_length v.frame.hash_width (read_leaves v.bytes.now) _ _, omega arith)
