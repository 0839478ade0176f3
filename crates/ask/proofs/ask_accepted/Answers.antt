-- The questions, then the length of the replies decide; then the replies are written.
use mathlib.Core.Path.{sym, ◌∙◌}
use native.Mathlib.Omega.{arith}
use lib.ListN.{length}
use borrow.Author.Tests.{leb-true, leb-false}
use Rattle.std.proofs.lemmas.Result.{err_from_is_err_and}
use Rattle.spec.specs.Questions.{questions_of}
use Rattle.nav_nodes.specs.FromCheck.{accepted}
use Rattle.ask.specs.AskJoined.{ask_joined}
use Rattle.ask_files.proofs.JudgeLaws.{file_taken, file_refused}
use Rattle.ask_replies.specs.Replies.{file_replies}
use Rattle.ask.proofs.ask_accepted.Goals as goal

pub returns-in_err-count : goal.returns-in_err-count
returns-in_err-count c =
    let a = c.args in
    let v = a.image.now in
    let p = err_from_is_err_and c.from_residual.result c.from_residual.ensures.1 in
    rw (p.1, p.2) (sym ((ask_joined v.bytes.now a.questions.now a.replies.now).turned_down _ c.requires (file_refused a.questions.now _ c.in_err-count.ensures)))

pub replies_fit-requires : goal.replies_fit-requires
replies_fit-requires c =
    let t = file_taken c.args.questions.now _ c.in_ok-count.ensures in
    (t.0, sym t.1)

pub returns-then-not-replies_fit : goal.returns-then-not-replies_fit
returns-then-not-replies_fit c =
    let a = c.args in
    let v = a.image.now in
    let t = file_taken a.questions.now _ c.in_ok-count.ensures in
    let short = leb-false _ _ (sym c.replies_fit.ensures ∙ c.if-not-replies_fit.true) in
    let h = (accepted v).hash_is in
    sym ((ask_joined v.bytes.now a.questions.now a.replies.now).too_long (questions_of a.questions.now) c.requires t.0 (rw h short))

pub write_replies-requires : goal.write_replies-requires
write_replies-requires c =
    let t = file_taken c.args.questions.now _ c.in_ok-count.ensures in
    (t.0, leb-true _ _ (sym c.replies_fit.ensures ∙ c.if-not-replies_fit.false))

pub returns : goal.returns
returns c =
    let a = c.args in
    let v = a.image.now in
    let t = file_taken a.questions.now _ c.in_ok-count.ensures in
    let room = leb-true (length (file_replies v.frame.hash_width v.bytes.now a.questions.now)) (length a.replies.now) (sym c.replies_fit.ensures ∙ c.if-not-replies_fit.false) in
    let w = c.write_replies.ensures in
    let h = (accepted v).hash_is in
    sym ((ask_joined v.bytes.now a.questions.now a.replies.now).answered (questions_of a.questions.now) _ _ c.requires t.0 (rw h w.sized) (omega (arith, w.sized, room)) (rw h w.bytes))
