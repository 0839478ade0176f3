-- The rule as one number, which is small enough to decode.
use Rattle.range_filter_accepted.proofs.NumberLaws.{coded_number, rule_short}
use Rattle.range_filter_accepted.proofs.range_filter_accepted_rule.Goals as goal

pub returns : goal.returns
returns c =
    let a = c.args in
    coded_number c.rule.result _ _ _ c.rule.ensures c.by_number.ensures c.code.ensures (rule_short a.image.now a.key.now)
