-- The key is judged, then asked.
use mathlib.Core.Path.{sym, ap, ◌∙◌}
use Rattle.std.proofs.lemmas.Result.{err_from_is_err_and}
use Rattle.spec.specs.Questions.{QB, Reply}
use Rattle.theory.proofs.OneQuestionLaws.{key_long, key_fits, stem_keys}
use Rattle.spec.specs.Nodes.{read_leaves}
use Rattle.ask_files.specs.ReplyLaws.{begins_reply}
use Rattle.nav_nodes.specs.FromCheck.{accepted}
use Rattle.accepted.proofs.NumberLaws.{refused_number, replied_number}
use Rattle.accepted.proofs.begins_with.Goals as goal

pub returns : goal.returns
returns c =
    let a = c.args in
    let v = c.accepted_image.result in
    rw (← c.accepted_image.ensures.bytes)
    (replied_number v.bytes.now (QB a.stem.now) (stem_keys a.stem.now ∙ key_fits a.stem.now c.in_ok-judge_key.ensures) v.frame (accepted v) _
    (c.from.ensures ∙ sym c.begins_with-held.ensures ∙ sym (ap (λ (r : Reply). r.number) (begins_reply v.frame.hash_width (read_leaves v.bytes.now) a.stem.now))))

pub returns-in_err-judge_key : goal.returns-in_err-judge_key
returns-in_err-judge_key c =
    let a = c.args in
    let p = err_from_is_err_and c.from_residual.result c.from_residual.ensures.1 in
    let k = c.in_err-judge_key.ensures in
    rw (p.1, p.2) (refused_number a.image.now (QB a.stem.now) _ (k.1 ∙ sym (stem_keys a.stem.now ∙ key_long a.stem.now k.0)))
