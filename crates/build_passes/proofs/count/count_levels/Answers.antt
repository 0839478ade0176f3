-- Where keys start and end gives each level's counts.
use mathlib.Core.Path.{◌∙◌}
use Rattle.build_passes.specs.LevelSums.{balanced_sums}
use Rattle.build_passes.proofs.count.count_levels.Goals as goal

pub returns : goal.returns
returns c =
    let counted = c.count_keys.ensures in
    let sum = c.sum_levels.ensures in
    balanced_sums _ _ counted.1 _ _ _ (sum.1 ∙ counted.0) (rw sum.1 sum.0)
