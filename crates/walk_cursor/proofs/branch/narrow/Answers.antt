-- The range is halved, by what stands from its middle on.
use mathlib.Core.Path.{◌≡◌, refl, sym, ◌∙◌}
use native.Mathlib.Omega.{arith}
use Rattle.nav_nodes.specs.declared.BranchKind.TheVariants.{Absent}
use Rattle.nav_nodes.specs.NextLabel.{there_not, not_there}
use Rattle.walk_cursor.specs.LocateLaws.{node_inside, summable, start_below, between_counted, narrowed_none, narrowed_behind, narrowed_high, narrowed_low}
use Rattle.walk_cursor.proofs.branch.narrow.Goals as goal

pub next_branch-b-requires : goal.next_branch-b-requires
next_branch-b-requires c =
    let a = c.args in
    (record { accepted = c.requires.0.accepted; inside = node_inside a.image.now.bytes.now a.image.now.frame a.m.0 a.depth a.skip c.requires.0 }, omega (arith, c.requires.1.labels, c.requires.1.order))

pub returns-then-not-is_there : goal.returns-then-not-is_there
returns-then-not-is_there c =
    let a = c.args in
    let none = not_there c.next_branch-b.result.kind (sym c.is_there.ensures ∙ c.if-not-is_there.true) in
    rw c.lowered.ensures (narrowed_none a.image.now.bytes.now a.image.now.frame a.m.0 a.depth a.skip c.requires.0 a.r c.requires.1 c.requires.2 _ refl c.next_branch-b.result c.next_branch-b.ensures none)

pub returns-then-r-b : goal.returns-then-r-b
returns-then-r-b c =
    let there : c.next_branch-b.result.kind ≡ Absent → ⊥ = there_not c.next_branch-b.result.kind (sym c.is_there.ensures ∙ c.if-not-is_there.false) in
    let a = c.args in
    rw c.lowered-then-r-b.ensures (narrowed_behind a.image.now.bytes.now a.image.now.frame a.m.0 a.depth a.skip c.requires.0 a.r c.requires.1 c.requires.2 _ refl c.next_branch-b.result c.next_branch-b.ensures there c.if-r-b.true)

pub branch_sum-start-requires : goal.branch_sum-start-requires
branch_sum-start-requires c =
    let a = c.args in
    summable a.image.now.bytes.now a.image.now.frame a.m.0 a.depth a.skip c.requires.0 _ _ c.requires.1.first_at

pub branch_sum-requires : goal.branch_sum-requires
branch_sum-requires c =
    let there : c.next_branch-b.result.kind ≡ Absent → ⊥ = there_not c.next_branch-b.result.kind (sym c.is_there.ensures ∙ c.if-not-is_there.false) in
    let a = c.args in
    summable a.image.now.bytes.now a.image.now.frame a.m.0 a.depth a.skip c.requires.0 _ _ (c.next_branch-b.ensures.there there).at_is

pub overflow_sub-before : goal.overflow_sub-before
overflow_sub-before c =
    let there : c.next_branch-b.result.kind ≡ Absent → ⊥ = there_not c.next_branch-b.result.kind (sym c.is_there.ensures ∙ c.if-not-is_there.false) in
    let a = c.args in
    start_below a.image.now.bytes.now a.image.now.frame a.m.0 a.depth a.skip c.requires.0 _ _ _ _ _ (c.next_branch-b.ensures.there there).at_is c.requires.1.first_at c.branch_sum-start.ensures c.branch_sum.ensures

pub returns-then-skip-before : goal.returns-then-skip-before
returns-then-skip-before c =
    let there : c.next_branch-b.result.kind ≡ Absent → ⊥ = there_not c.next_branch-b.result.kind (sym c.is_there.ensures ∙ c.if-not-is_there.false) in
    let a = c.args in
    let counted = between_counted a.image.now.bytes.now a.image.now.frame a.m.0 a.depth a.skip c.requires.0 _ _ _ _ _ (c.next_branch-b.ensures.there there).at_is c.requires.1.first_at c.branch_sum-start.ensures c.branch_sum.ensures in
    rw c.lowered-then-skip-before.ensures (narrowed_high a.image.now.bytes.now a.image.now.frame a.m.0 a.depth a.skip c.requires.0 a.r c.requires.1 c.requires.2 _ refl c.next_branch-b.result c.next_branch-b.ensures there _ counted c.if-skip-before.true)

pub returns : goal.returns
returns c =
    let there : c.next_branch-b.result.kind ≡ Absent → ⊥ = there_not c.next_branch-b.result.kind (sym c.is_there.ensures ∙ c.if-not-is_there.false) in
    let a = c.args in
    let counted = between_counted a.image.now.bytes.now a.image.now.frame a.m.0 a.depth a.skip c.requires.0 _ _ _ _ _ (c.next_branch-b.ensures.there there).at_is c.requires.1.first_at c.branch_sum-start.ensures c.branch_sum.ensures in
    narrowed_low a.image.now.bytes.now a.image.now.frame a.m.0 a.depth a.skip c.requires.0 a.r c.requires.1 c.requires.2 _ refl c.next_branch-b.result c.next_branch-b.ensures there _ counted c.if-skip-before.false c.if-r-b.false
