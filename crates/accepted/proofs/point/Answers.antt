-- The key is judged, then asked.
use mathlib.Core.Path.{sym, ap, ◌∙◌}
use native.Mathlib.Omega.{arith}
use Rattle.std.proofs.lemmas.Result.{err_from_is_err_and}
use Rattle.spec.specs.Questions.{QP}
use Rattle.theory.proofs.OneQuestionLaws.{key_long, key_fits, point_keys}
use Rattle.spec.specs.Rules.{rule_says}
use Rattle.query_descent.specs.Answers.{all_small}
use Rattle.accepted.proofs.NumberLaws.{refused_number, point_number}
use Rattle.accepted.proofs.point.Goals as goal

pub returns-in_err-judge_key : goal.returns-in_err-judge_key
returns-in_err-judge_key c =
    let a = c.args in
    let p = err_from_is_err_and c.from_residual.result c.from_residual.ensures.1 in
    let k = c.in_err-judge_key.ensures in
    rw (p.1, p.2) (refused_number a.image.now (QP a.key.now) _ (k.1 ∙ sym (point_keys a.key.now ∙ key_long a.key.now k.0)))

pub returns : goal.returns
returns c =
    let a = c.args in
    point_number a.image.now a.key.now (point_keys a.key.now ∙ key_fits a.key.now c.in_ok-judge_key.ensures) (all_small a.image.now (λ i. omega (arith, c.type_inv.image i))) c.requires c.in_ok-judge_key.ensures _
    (c.from.ensures ∙ sym c.says.ensures ∙ ap rule_says c.rule_behind.ensures)
