-- The answer is one number, and replies are short enough that it decodes.
use Rattle.theory.proofs.LengthBounds.{ask_short}
use Rattle.query_descent.specs.Answers.{all_small}
use Rattle.image.proofs.CodedLaws.{coded_by_number}
use Rattle.range_filter.proofs.range_filter_ask.Goals as goal

pub returns : goal.returns
returns c =
    let a = c.args in
    coded_by_number c.ask.result _ _ _ _ c.ask.ensures c.by_number.ensures c.code.ensures
    (ask_short a.image.now a.questions.now (all_small a.image.now (λ i. (c.shared_slice_known-1.given i).fits)) (all_small a.questions.now (λ i. (c.shared_slice_known-2-1.given i).fits)) a.replies.now)
