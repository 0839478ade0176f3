-- The node starts behind the last one of its level, and its first branch stands at its start or behind the extra FF of an exact leaf.
use mathlib.Core.Path.{sym, ◌∙◌}
use native.Mathlib.Omega.{arith}
use Rattle.nav_nodes.specs.FromCheck.{accepted}
use Rattle.walk_path.specs.LevelLaws.{enters_sparse}
use Rattle.walk_path.proofs.moves.enter.Goals as goal

pub first_at-first-requires : goal.first_at-first-requires
first_at-first-requires c =
    (record { accepted = accepted c.args.image.now; inside = c.requires.1.inside }, λ h. (c.start_at-start.ensures h).entry_is)

pub child_at-child-requires : goal.child_at-child-requires
child_at-child-requires c =
    let n = c.first_at-first.ensures in
    (record { accepted = accepted c.args.image.now; within = (n.branch_is.there (λ e. c.requires.1.there (sym n.branch_is.kind_is ∙ e))).at_is.within }, λ z. absurd (omega arith))

pub returns-then-m-image : goal.returns-then-m-image
returns-then-m-image c =
    record { first_is = c.first_at-first.ensures; child_is = c.child_at-child.ensures; next = λ e. record { sparse = λ z. absurd (omega arith); entry_is = λ z. absurd (omega arith); behind = λ z. absurd (omega arith) }; from = λ z. absurd (omega arith) }

pub returns : goal.returns
returns c =
    let a = c.args in
    let d = c.if-m-image.false in
    enters_sparse a.image.now.bytes.now a.image.now.frame (accepted a.image.now) a.m.0 (omega arith) c.requires.1.inside c.requires.1 c.first_at-first.result c.first_at-first.ensures c.start_at-start.result (c.start_at-start.ensures (omega arith))

pub start_at-start-requires : goal.start_at-start-requires
start_at-start-requires c =
    (record { accepted = accepted c.args.image.now; inside = c.requires.1.inside }, c.requires.0, c.requires.2)
