-- None, or the leaf that the seek found.
use mathlib.Core.Path.{◌∙◌}
use Rattle.spec.specs.Nodes.{read_leaves}
use Rattle.ask_files.proofs.AnswerLaws.{keyless_sized, keyless_of}
use Rattle.ask_replies.proofs.SoughtLaws.{none_sought, some_sought}
use Rattle.ask_replies.proofs.seek_reply.Goals as goal

pub returns-in-None : goal.returns-in-None
returns-in-None c =
    let v = c.args.image.now in
    let t = c.keyless in
    let s = c.seek.ensures in
    (keyless_sized t.result _ t.ensures.0 s.1, keyless_of t.result _ t.ensures.0 t.ensures.1 ∙ none_sought v.frame.hash_width (read_leaves v.bytes.now) c.args.start.now _ _ s.0.answer c.in-None.is)

pub returns-in-Some : goal.returns-in-Some
returns-in-Some c =
    let v = c.args.image.now in
    let s = c.seek.ensures in
    let k = rw c.in-Some.is at s.0.key_in in
    (record { small = k; buffer = s.1 }, some_sought v.frame.hash_width (read_leaves v.bytes.now) c.args.start.now _ _ s.0.answer c.in-Some.sought c.in-Some.is)
