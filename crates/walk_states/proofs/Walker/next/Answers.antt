-- Done stays; from a leaf the cursor steps.
use Rattle.std.proofs.Common.{arith}
use Rattle.walk_states.specs.StateLaws.{stays_done, can_step, steps}
use Rattle.walk_states.proofs.Walker.next.Goals as goal

pub returns-then-self : goal.returns-then-self
returns-then-self c = stays_done c.args.self c.requires (omega arith)

pub step-requires : goal.step-requires
step-requires c = can_step c.args.self c.requires (omega (arith, c.requires.stands.within))

pub returns : goal.returns
returns c = steps c.args.self c.requires (omega (arith, c.requires.stands.within)) c.step.result c.step.ensures
