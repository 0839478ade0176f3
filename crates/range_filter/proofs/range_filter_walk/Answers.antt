-- The answer is one number, and records are short enough that it decodes.
use Rattle.theory.proofs.LengthBounds.{walk_records_short}
use Rattle.query_descent.specs.Answers.{all_small}
use Rattle.image.proofs.CodedLaws.{coded_by_number}
use Rattle.range_filter.proofs.range_filter_walk.Goals as goal

pub returns : goal.returns
returns c =
    let a = c.args in
    coded_by_number c.write_records.result _ _ _ _ c.write_records.ensures c.by_number.ensures c.code.ensures (walk_records_short a.image.now (all_small a.image.now (λ i. (c.shared_slice_known-1.given i).fits)) _ a.records.now)
