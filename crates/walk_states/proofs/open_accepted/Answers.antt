-- 17, or the cursor at the place.
use Rattle.std.proofs.Common.{arith}
use Rattle.nav_nodes.specs.FromCheck.{accepted}
use Rattle.walk_states.specs.StateLaws.{opened_past}
use Rattle.walk_states.proofs.open_accepted.Goals as goal

pub returns-then-image-place-clause-opens : goal.returns-then-image-place-clause-opens
returns-then-image-place-clause-opens c =
    let v = c.args.image.now in
    opened_past v.bytes.now v.frame (accepted v) c.requires c.args.place (omega arith)
