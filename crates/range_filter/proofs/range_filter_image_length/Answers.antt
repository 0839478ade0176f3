-- The length is one number, and an image is short enough that it decodes.
use mathlib.Core.Path.{ap, ◌∙◌}
use Rattle.spec.specs.Build.{image_length}
use Rattle.theory.proofs.LengthBounds.{length_short}
use Rattle.query_descent.specs.Answers.{all_small}
use Rattle.range_filter.proofs.LengthLaws.{coded_length}
use Rattle.range_filter.proofs.range_filter_image_length.Goals as goal

pub returns : goal.returns
returns c =
    let a = c.args in
    coded_length c.image_length.result _ _ _ (c.image_length.ensures ∙ ap (image_length a.list.now) c.settings_of.ensures) c.by_number.ensures c.code.ensures (length_short a.list.now (all_small a.list.now (λ i. (c.shared_slice_known-1.given i).fits)) _)
