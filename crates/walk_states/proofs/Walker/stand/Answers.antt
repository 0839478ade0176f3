-- The leaf at the cursor, or none behind the last one.
use Rattle.std.proofs.Common.{arith}
use Rattle.image.specs.Value.{leaf_of}
use Rattle.walk_states.specs.StateLaws.{says_done, can_step, says_leaf}
use Rattle.walk_states.proofs.Walker.stand.Goals as goal

pub leaf_at-requires : goal.leaf_at-requires
leaf_at-requires c = can_step c.args.self.now c.requires (omega arith)

pub returns-then-self : goal.returns-then-self
returns-then-self c = says_leaf c.args.self.now c.requires (omega arith) (leaf_of c.leaf_at.result) c.leaf_at.ensures.leaf_is c.padded.result c.padded.ensures

pub returns : goal.returns
returns c = says_done c.args.self.now c.requires (omega arith)
