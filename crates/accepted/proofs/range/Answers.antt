-- The bounds are judged, then asked.
use mathlib.Core.Path.{sym, ap, ◌∙◌}
use Rattle.std.proofs.lemmas.Result.{err_from_is_err_and}
use Rattle.spec.specs.Nodes.{read_leaves}
use Rattle.spec.specs.Questions.{QR, Reply}
use Rattle.theory.proofs.OneQuestionLaws.{range_keys, bounds_short}
use Rattle.ask_files.specs.ReplyLaws.{range_reply}
use Rattle.nav_nodes.specs.FromCheck.{accepted}
use Rattle.accepted.proofs.NumberLaws.{refused_number, replied_number}
use Rattle.accepted.proofs.range.Goals as goal

pub returns-in_err-judge_bounds : goal.returns-in_err-judge_bounds
returns-in_err-judge_bounds c =
    let a = c.args in
    let p = err_from_is_err_and c.from_residual.result c.from_residual.ensures.1 in
    rw (p.1, p.2) (refused_number a.image.now (QR a.lo.now a.hi.now) _ (sym (range_keys a.lo.now a.hi.now ∙ c.in_err-judge_bounds.ensures)))

pub range-held-requires : goal.range-held-requires
range-held-requires c =
    let s = bounds_short c.args.lo.now c.args.hi.now c.in_ok-judge_bounds.ensures in
    (s.0, s.1)

pub returns : goal.returns
returns c =
    let a = c.args in
    let v = c.accepted_image.result in
    rw (← c.accepted_image.ensures.bytes)
    (replied_number v.bytes.now (QR a.lo.now a.hi.now) (range_keys a.lo.now a.hi.now ∙ c.in_ok-judge_bounds.ensures) v.frame (accepted v) _
    (c.from.ensures ∙ sym c.range-held.ensures ∙ sym (ap (λ (r : Reply). r.number) (range_reply v.frame.hash_width (read_leaves v.bytes.now) a.lo.now a.hi.now))))
