-- LV has four bytes for each level.
use native.Mathlib.Omega.{arith}
use Rattle.query_sums.specs.LevelTable.{table_length}
use Rattle.nav_nodes.specs.FromCheck.{accepted}
use Rattle.query_sums.proofs.chains.level_count.Goals as goal

pub returns : goal.returns
returns c =
    let v = c.args.image.now in
    omega (arith, table_length v.bytes.now v.frame (accepted v) c.requires)
