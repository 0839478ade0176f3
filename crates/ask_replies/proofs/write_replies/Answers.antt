-- The replies to the questions passed stand in the buffer, one behind the other.
use mathlib.Core.Path.{sym, ap, ◌∙◌}
use mathlib.Core.List.{◌++◌}
use Prim.Native.Nat.{ℕ}
use native.Mathlib.Omega.{arith}
use borrow.Author.Rules.{rules}
use lib.ListN.{drop}
use Rattle.spec.specs.Nodes.{read_leaves}
use Rattle.ask_files.specs.ReplyLaws.{replied_start, replied_length, replied_size, replied_end}
use Rattle.ask_replies.specs.Replies.{file_replies}
use Rattle.ask_files.proofs.AnswerLaws.{answered_room, answered_more}
use Rattle.ask_replies.proofs.write_replies.Goals as goal

pub loop-at-init : goal.loop-at-init
loop-at-init c =
    let a = c.args in
    (omega arith, replied_start a.image.now.frame.hash_width (read_leaves a.image.now.bytes.now) a.file.now a.out.now _ c.requires.0, search rules)

pub question_at-asked-requires : goal.question_at-asked-requires
question_at-asked-requires c =
    (c.loop-at-test.true, c.loop-at.invariant.1.taken_here)

pub reply_to-a-requires : goal.reply_to-a-requires
reply_to-a-requires c =
    (c.empty_key_sum-base.ensures, c.question_at-asked.ensures.short, c.loop-at.invariant.2)

pub write_answered-to-requires : goal.write_answered-to-requires
write_answered-to-requires c =
    let a = c.args in
    let p = c.requires in
    let l = c.loop-at in
    let q = c.question_at-asked in
    let r = c.reply_to-a in
    (r.ensures.0, answered_room a.image.now.frame.hash_width (read_leaves a.image.now.bytes.now) a.file.now a.out.now p.1 l.at l.to l.out l.invariant.1 q.result.next q.result.question q.ensures.followed r.result _ r.ensures.0 r.ensures.1)

pub loop-at-smaller : goal.loop-at-smaller
loop-at-smaller c =
    let w = c.question_at-asked.ensures.followed in
    omega (arith, w.later, w.inside)

pub loop-at-preserved : goal.loop-at-preserved
loop-at-preserved c =
    let a = c.args in
    let p = c.requires in
    let l = c.loop-at in
    let q = c.question_at-asked in
    let r = c.reply_to-a in
    let w = c.write_answered-to.ensures in
    (q.ensures.followed.inside, answered_more a.image.now.frame.hash_width (read_leaves a.image.now.bytes.now) a.file.now a.out.now p.1 l.at l.to l.out l.invariant.1 q.result.next q.result.question q.ensures.followed r.result _ r.ensures.0 r.ensures.1 _ _ w.0 w.1, r.ensures.0.buffer)

pub shape_of-out : goal.shape_of-out
shape_of-out c =
    let a = c.args in
    let l = c.loop-at in
    replied_length a.image.now.frame.hash_width (read_leaves a.image.now.bytes.now) a.file.now a.out.now c.requires.1 l.at l.to l.out l.invariant.1

pub returns : goal.returns
returns c =
    let a = c.args in
    let l = c.loop-at in
    let e = replied_size a.image.now.frame.hash_width (read_leaves a.image.now.bytes.now) a.file.now a.out.now l.at l.to l.out l.invariant.1 c.loop-at-test.false in
    record {
      sized = e;
      bytes = replied_end a.image.now.frame.hash_width (read_leaves a.image.now.bytes.now) a.file.now a.out.now l.at l.to l.out l.invariant.1 c.loop-at-test.false
          ∙ ap (λ (n : ℕ). file_replies a.image.now.frame.hash_width a.image.now.bytes.now a.file.now ++ drop n a.out.now) (sym e);
    }
