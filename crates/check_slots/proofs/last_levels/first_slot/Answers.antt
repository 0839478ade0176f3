use mathlib.Core.Path.{refl}
use Rattle.check_slots.proofs.last_levels.first_slot.Goals as goal

pub returns : goal.returns
returns c =
    refl
