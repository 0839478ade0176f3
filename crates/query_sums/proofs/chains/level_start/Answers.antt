-- The number in LV, or the node count behind its end.
use mathlib.Core.Path.{sym, ◌∙◌}
use native.Mathlib.Omega.{arith}
use Rattle.query_sums.specs.LevelTable.{table_length, table_entry, level_behind}
use Rattle.nav_nodes.specs.FromCheck.{accepted}
use Rattle.query_sums.proofs.chains.level_start.Goals as goal

pub returns-then-level_count-t : goal.returns-then-level_count-t
returns-then-level_count-t c =
    let v = c.args.image.now in
    sym (level_behind v.bytes.now v.frame (accepted v) c.args.t (omega (arith, c.level_count.ensures, c.if-level_count-t.true)))

pub read32-requires : goal.read32-requires
read32-requires c =
    let v = c.args.image.now in
    omega (arith, table_length v.bytes.now v.frame (accepted v) c.requires.0, c.level_count.ensures, c.if-level_count-t.false)

pub returns : goal.returns
returns c =
    let v = c.args.image.now in
    c.read32.ensures.0 ∙ table_entry v.bytes.now v.frame (accepted v) c.requires.0 c.args.t (omega (arith, c.level_count.ensures, c.if-level_count-t.false))
