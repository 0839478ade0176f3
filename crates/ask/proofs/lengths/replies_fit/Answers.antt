-- Room for 72 bytes a question is room for all replies; else their length decides.
use mathlib.Core.Path.{sym, ap}
use Prim.Native.Nat.{ℕ}
use native.Mathlib.Omega.{arith}
use borrow.Author.Tests.{le-leb}
use lib.ListN.{length}
use lib.Dec.{leb}
use Rattle.spec.specs.Nodes.{read_leaves}
use Rattle.spec.specs.Questions.{questions_of}
use Rattle.nav_nodes.specs.Accepted.{real_sized}
use Rattle.nav_nodes.specs.FromCheck.{accepted}
use Rattle.query_descent.specs.Answers.{all_small}
use Rattle.ask_files.specs.FileLaws.{few_questions}
use Rattle.theory.proofs.LengthBounds.{replies_bound}
use Rattle.ask_replies.specs.Replies.{file_replies}
use Rattle.ask.proofs.lengths.replies_fit.Goals as goal

pub overflow_mul-count : goal.overflow_mul-count
overflow_mul-count c =
    let p = c.requires in
    omega (arith, p.1, few_questions c.args.file.now (questions_of c.args.file.now) p.0)

pub returns-then-count-room : goal.returns-then-count-room
returns-then-count-room c =
    let a = c.args in
    let v = a.image.now in
    let p = c.requires in
    let small = all_small a.file.now (λ i. omega (arith, c.type_inv.file i)) in
    let most = replies_bound v.frame.hash_width v.frame.real_width (read_leaves v.bytes.now) a.file.now (questions_of a.file.now) (real_sized v.bytes.now v.frame (accepted v)) small p.0 in
    sym (le-leb (length (file_replies v.frame.hash_width v.bytes.now a.file.now)) a.room (omega (arith, p.1, c.if-count-room.true, most)))

pub returns : goal.returns
returns c =
    ap (λ (n : ℕ). leb n c.args.room) c.replies_length.ensures
