-- The arrays of the cursor at the next place.
use mathlib.Core.Path.{refl}
use Rattle.walk_cursor.proofs.step.Goals as goal

pub advance-end-requires : goal.advance-end-requires
advance-end-requires c =
    record { place = c.args.c.place; at = c.requires }

pub returns : goal.returns
returns c =
    record { stands = c.advance-end.ensures.stands c.args.c.place c.requires; place_is = refl }
