-- The replies to the questions passed are summed, and the sum stays small.
use native.Mathlib.Omega.{arith}
use Rattle.spec.specs.Nodes.{read_leaves}
use Rattle.ask_files.specs.ReplyLaws.{measured_start, measured_more, measured_end}
use Rattle.ask_files.specs.Questions.{question_of}
use Rattle.ask.proofs.lengths.replies_length.Goals as goal

pub loop-at-init : goal.loop-at-init
loop-at-init c =
    let a = c.args in
    (omega arith, measured_start a.image.now.frame.hash_width (read_leaves a.image.now.bytes.now) a.file.now _ c.requires)

pub question_at-asked-requires : goal.question_at-asked-requires
question_at-asked-requires c =
    (c.loop-at-test.true, c.loop-at.invariant.1.taken_here)

pub overflow_add-total : goal.overflow_add-total
overflow_add-total c =
    omega (arith, c.loop-at.invariant.1.small)

pub key_length-requires : goal.key_length-requires
key_length-requires c =
    (c.empty_key_sum-base.ensures, c.question_at-asked.ensures.short)

pub overflow_add-total-in-loop-at : goal.overflow_add-total-in-loop-at
overflow_add-total-in-loop-at c =
    omega (arith, c.loop-at.invariant.1.small, c.key_length.ensures.1)

pub loop-at-smaller : goal.loop-at-smaller
loop-at-smaller c =
    let w = c.question_at-asked.ensures.followed in
    omega (arith, w.later, w.inside)

pub loop-at-preserved : goal.loop-at-preserved
loop-at-preserved c =
    let a = c.args in
    let l = c.loop-at in
    let q = c.question_at-asked in
    let w = q.ensures.followed in
    let k = c.key_length in
    (w.inside, measured_more a.image.now.frame.hash_width (read_leaves a.image.now.bytes.now) a.file.now l.at l.total q.result.next k.result (question_of q.result.question) l.invariant.1 w k.ensures.0 k.ensures.1)

pub returns : goal.returns
returns c =
    let a = c.args in
    let l = c.loop-at in
    measured_end a.image.now.frame.hash_width (read_leaves a.image.now.bytes.now) a.file.now l.at l.total l.invariant.1 c.loop-at-test.false
