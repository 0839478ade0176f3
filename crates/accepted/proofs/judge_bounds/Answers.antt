-- The lengths of both bounds, then their order.
use mathlib.Core.Path.{sym, ◌∙◌}
use mathlib.Core.Logic.{inl, inr}
use Rattle.std.proofs.lemmas.Result.{err_from_is_err_and}
use Rattle.keys.proofs.OrderLaws.{order_is_below, order_not_below}
use Rattle.theory.proofs.OneQuestionLaws.{lower_long, upper_long, bounds_reversed, bounds_fit}
use Rattle.accepted.proofs.judge_bounds.Goals as goal

pub returns-in_err-judge_key : goal.returns-in_err-judge_key
returns-in_err-judge_key c =
    let p = err_from_is_err_and c.from_residual.result c.from_residual.ensures.1 in
    let k = c.in_err-judge_key.ensures in
    rw (p.1, p.2) (lower_long c.args.lo.now c.args.hi.now k.0 ∙ sym k.1)

pub returns-in_err-judge_key-2 : goal.returns-in_err-judge_key-2
returns-in_err-judge_key-2 c =
    let p = err_from_is_err_and c.from_residual-in_err-judge_key-2.result c.from_residual-in_err-judge_key-2.ensures.1 in
    let k = c.in_err-judge_key-2.ensures in
    rw (p.1, p.2) (upper_long c.args.lo.now c.args.hi.now c.in_ok-judge_key.ensures k.0 ∙ sym k.1)

pub returns-in-Less : goal.returns-in-Less
returns-in-Less c =
    bounds_reversed _ _ c.in_ok-judge_key.ensures c.in_ok-judge_key-2.ensures (order_is_below _ _ (sym c.compare.ensures ∙ c.in-Less.is))

pub returns-in-Equal : goal.returns-in-Equal
returns-in-Equal c =
    bounds_fit _ _ c.in_ok-judge_key.ensures c.in_ok-judge_key-2.ensures (order_not_below _ _ (elim c.in-Equal.is [ inl h ↦ inl (sym c.compare.ensures ∙ h) | inr h ↦ inr (sym c.compare.ensures ∙ h) ]))
