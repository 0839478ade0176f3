-- Each kind of question.
use mathlib.Core.Path.{sym, ◌∙◌}
use Rattle.spec.specs.Nodes.{read_leaves}
use Rattle.ask_files.proofs.AnswerLaws.{keyless_sized, keyless_of, begins_keyless, range_keyless, count_keyless}
use Rattle.ask_replies.proofs.reply_to.Goals as goal

pub returns-in-Begins : goal.returns-in-Begins
returns-in-Begins c =
    let v = c.args.image.now in
    let t = c.keyless in
    rw c.in-Begins.is (keyless_sized t.result _ t.ensures.0 c.requires.2, keyless_of t.result _ t.ensures.0 t.ensures.1 ∙ begins_keyless v.frame.hash_width (read_leaves v.bytes.now) _ _ (c.from.ensures ∙ sym c.begins_with.ensures))

pub returns-in-Range : goal.returns-in-Range
returns-in-Range c =
    let v = c.args.image.now in
    let t = c.keyless-in-Range in
    rw c.in-Range.is (keyless_sized t.result _ t.ensures.0 c.requires.2, keyless_of t.result _ t.ensures.0 t.ensures.1 ∙ range_keyless v.frame.hash_width (read_leaves v.bytes.now) _ _ _ (c.from-in-Range.ensures ∙ sym c.range.ensures))

pub returns-in-Count : goal.returns-in-Count
returns-in-Count c =
    let v = c.args.image.now in
    let t = c.keyless-in-Count in
    rw c.in-Count.is (keyless_sized t.result _ t.ensures.0 c.requires.2, keyless_of t.result _ t.ensures.0 t.ensures.1 ∙ count_keyless v.frame.hash_width (read_leaves v.bytes.now) _ _ _ c.count.ensures)
