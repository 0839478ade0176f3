-- In another version nothing is asked; without leaves LV is empty.
use mathlib.Core.Path.{sym, ◌∙◌}
use native.Mathlib.Omega.{arith}
use Rattle.check_slots.specs.LevelBytes.{starts_test, starts_empty, starts_free}
use Rattle.check_slots.proofs.level_table.starts_valid.Goals as goal

pub returns-then-f-ne-LEVELED_VERSION : goal.returns-then-f-ne-LEVELED_VERSION
returns-then-f-ne-LEVELED_VERSION c =
    sym (starts_free c.args.image.now.bytes.now c.args.image.now.frame c.requires c.if-f-ne-LEVELED_VERSION.true)

pub returns-then-f-eq0 : goal.returns-then-f-eq0
returns-then-f-eq0 c =
    sym (starts_empty c.args.image.now.bytes.now c.args.image.now.frame c.requires (omega arith) c.if-f-eq0.true)

pub returns : goal.returns
returns c =
    c.starts_equal.ensures ∙ sym (starts_test c.args.image.now.bytes.now c.args.image.now.frame c.requires (omega arith))
