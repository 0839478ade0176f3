-- Byte by byte.
use mathlib.Core.Path.{refl}
use Rattle.spec.specs.Build.{settings_from}
use Rattle.image.proofs.codes.settings_of.Goals as goal

pub returns : goal.returns
unfolding settings_from
returns c =
    refl
