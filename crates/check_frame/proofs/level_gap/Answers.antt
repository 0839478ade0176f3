-- The version is compared with the one that has LV.
use borrow.Author.Tests.{eq-eqb, ne_eqb}
use Rattle.check_frame.proofs.level_gap.Goals as goal

pub returns-then-version-eq-LEVELED_VERSION : goal.returns-then-version-eq-LEVELED_VERSION
returns-then-version-eq-LEVELED_VERSION c =
    rw (eq-eqb c.args.version 2 c.if-version-eq-LEVELED_VERSION.true)

pub returns : goal.returns
returns c =
    rw (ne_eqb c.args.version 2 c.if-version-eq-LEVELED_VERSION.false)
