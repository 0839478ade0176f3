-- The answer is one number, and an image is short enough that it decodes.
use mathlib.Core.Path.{ap, ◌∙◌}
use Rattle.spec.specs.Image.{Settings}
use Rattle.spec.specs.Build.{build}
use Rattle.theory.proofs.LengthBounds.{build_short}
use Rattle.query_descent.specs.Answers.{all_small}
use Rattle.image.proofs.CodedLaws.{coded_by_number}
use Rattle.range_filter.proofs.range_filter_build.Goals as goal

pub returns : goal.returns
returns c =
    let a = c.args in
    coded_by_number c.build.result _ _ _ _ (c.build.ensures ∙ ap (λ (st : Settings). build a.list.now st a.stated a.out.now) c.settings_of.ensures) c.by_number.ensures c.code.ensures (build_short a.list.now (all_small a.list.now (λ i. (c.shared_slice_known-1.given i).fits)) _ a.stated a.out.now)
