-- The settings and the records decide, in this order.
use mathlib.Core.Path.{sym, ◌∙◌}
use Rattle.std.proofs.lemmas.Result.{err_from_is_err_and}
use Rattle.image.specs.Header.{asked}
use Rattle.build.proofs.JudgeLaws.{out_of_range, list_refused, list_accepted}
use Rattle.build.proofs.judge.Goals as goal

pub returns-then-not-settings_in_range : goal.returns-then-not-settings_in_range
returns-then-not-settings_in_range c =
    let a = c.args in
    out_of_range a.list.now (asked a.settings) (sym c.settings_in_range.ensures ∙ c.if-not-settings_in_range.true)

pub returns-in_err-count : goal.returns-in_err-count
returns-in_err-count c =
    let a = c.args in
    let e = err_from_is_err_and c.from_residual.result c.from_residual.ensures.1 in
    let ranged = sym c.settings_in_range.ensures ∙ c.if-not-settings_in_range.false in
    rw (e.1, e.2) (list_refused a.list.now (asked a.settings) ranged _ c.in_err-count.ensures)

pub invariant_of-result-clause-judged : goal.invariant_of-result-clause-judged
invariant_of-result-clause-judged c =
    let a = c.args in
    let ranged = sym c.settings_in_range.ensures ∙ c.if-not-settings_in_range.false in
    (list_accepted a.list.now (asked a.settings) ranged _ c.in_ok-count.ensures).0

pub invariant_of-result-clause-counted : goal.invariant_of-result-clause-counted
invariant_of-result-clause-counted c =
    let a = c.args in
    let ranged = sym c.settings_in_range.ensures ∙ c.if-not-settings_in_range.false in
    (list_accepted a.list.now (asked a.settings) ranged _ c.in_ok-count.ensures).1
