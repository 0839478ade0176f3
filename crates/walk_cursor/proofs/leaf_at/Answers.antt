-- The leaf where the path ends is the one at the place.
use Rattle.walk_cursor.specs.Places.{leaf_read}
use Rattle.walk_cursor.proofs.leaf_at.Goals as goal

pub leaf_of-requires : goal.leaf_of-requires
leaf_of-requires c =
    λ v e. (c.requires.stands.ends.open_end v e).1

pub returns : goal.returns
returns c =
    leaf_read c.args.image.now.bytes.now c.args.image.now.frame c.args.c c.requires c.leaf_of.result c.leaf_of.ensures
