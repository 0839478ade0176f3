-- The number of the reply as one number, which is small enough to decode.
use Rattle.spec.specs.Questions.{QS}
use Rattle.query_descent.specs.Answers.{all_small}
use Rattle.range_filter_accepted.proofs.NumberLaws.{coded_number, number_short}
use Rattle.range_filter_accepted.proofs.range_filter_accepted_seek.Goals as goal

pub returns : goal.returns
returns c =
    let a = c.args in
    (coded_number c.seek.result _ _ _ c.seek.ensures.0 c.by_number.ensures c.code.ensures (number_short a.image.now (all_small a.image.now (λ i. (c.shared_slice_known-1.given i).fits)) c.requires (QS a.start.now)), c.seek.ensures.1)
