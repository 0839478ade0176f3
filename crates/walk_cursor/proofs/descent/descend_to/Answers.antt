-- The leaves from the place on are those of the path's node but the ones passed, and those behind the path.
use mathlib.Core.Path.{sym, ◌∙◌}
use native.Mathlib.Omega.{arith}
use Rattle.nav_nodes.specs.FromCheck.{accepted}
use Rattle.nav_branches.proofs.BranchTests.{ends_leaf}
use Rattle.nav_branches.specs.PathSteps.{node_in}
use Rattle.walk_cursor.specs.LocateLaws.{going_root, has_more, branch_position, label_small, leads_open, next_deep, next_on, leads_exact, own_passed, none_passed}
use Rattle.walk_cursor.proofs.descent.descend_to.Goals as goal

pub loop-p-init : goal.loop-p-init
loop-p-init c =
    let a = c.args in
    going_root a.image.now.bytes.now a.image.now.frame (accepted a.image.now) a.place c.requires c.root_path-p.result c.root_path-p.ensures

pub offset_bounds-p-d : goal.offset_bounds-p-d
offset_bounds-p-d c =
    omega (arith, c.loop-p.invariant.deep)

pub bounds-p-d : goal.bounds-p-d
bounds-p-d c =
    omega (arith, c.loop-p.invariant.deep, c.loop-p.invariant.nodes_room)

pub take_branch-taken-requires : goal.take_branch-taken-requires
take_branch-taken-requires c =
    let a = c.args in
    has_more a.image.now.bytes.now a.image.now.frame (accepted a.image.now) a.place c.loop-p.p c.loop-p.d c.loop-p.skip c.loop-p.invariant

pub overflow_sub-skip : goal.overflow_sub-skip
overflow_sub-skip c =
    c.take_branch-taken.ensures.ranges.reached

pub overflow_cast-p : goal.overflow_cast-p
overflow_cast-p c =
    let a = c.args in
    let t = c.take_branch-taken in
    omega (arith, label_small a.image.now.bytes.now a.image.now.frame (accepted a.image.now) a.place c.loop-p.p c.loop-p.d c.loop-p.skip c.loop-p.invariant t.result t.ensures)

pub bounds-p-d-in-loop-p : goal.bounds-p-d-in-loop-p
bounds-p-d-in-loop-p c =
    c.loop-p.invariant.deep

pub overflow_add-d : goal.overflow_add-d
overflow_add-d c =
    omega (arith, c.loop-p.invariant.deep)

pub slot-requires : goal.slot-requires
slot-requires c =
    let a = c.args in
    let t = c.take_branch-taken in
    branch_position a.image.now.bytes.now a.image.now.frame (accepted a.image.now) a.place c.loop-p.p c.loop-p.d c.loop-p.skip c.loop-p.invariant t.result t.ensures

pub returns-in_default : goal.returns-in_default
returns-in_default c =
    let a = c.args in
    let t = c.take_branch-taken in
    leads_open a.image.now.bytes.now a.image.now.frame (accepted a.image.now) a.place c.loop-p.p c.loop-p.d c.loop-p.skip c.loop-p.invariant t.result t.ensures c.slot.result c.slot.ensures (ends_leaf t.result.low.kind c.in_default.not-Child t.ensures.ranges.there)

pub child-c-requires : goal.child-c-requires
child-c-requires c =
    let a = c.args in
    let t = c.take_branch-taken in
    branch_position a.image.now.bytes.now a.image.now.frame (accepted a.image.now) a.place c.loop-p.p c.loop-p.d c.loop-p.skip c.loop-p.invariant t.result t.ensures

pub offset_bounds-p-d-in-loop-p : goal.offset_bounds-p-d-in-loop-p
offset_bounds-p-d-in-loop-p c =
    omega (arith, c.loop-p.invariant.deep)

pub bounds-p-d-in-loop-p-2 : goal.bounds-p-d-in-loop-p-2
bounds-p-d-in-loop-p-2 c =
    let a = c.args in
    let t = c.take_branch-taken in
    next_deep a.image.now.bytes.now a.image.now.frame (accepted a.image.now) a.place c.loop-p.p c.loop-p.d c.loop-p.skip c.loop-p.invariant t.result t.ensures c.child-c.result c.child-c.ensures c.in-Child.is

pub is_exact-requires : goal.is_exact-requires
is_exact-requires c =
    let a = c.args in
    let t = c.take_branch-taken in
    let on = next_on a.image.now.bytes.now a.image.now.frame (accepted a.image.now) a.place c.loop-p.p c.loop-p.d c.loop-p.skip c.loop-p.invariant t.result t.ensures c.child-c.result c.child-c.ensures c.in-Child.is in
    record { accepted = (accepted a.image.now); inside = node_in a.image.now.bytes.now a.image.now.frame (accepted a.image.now) _ c.child-c.result.0 on }

pub returns-then-skip-eq0 : goal.returns-then-skip-eq0
returns-then-skip-eq0 c =
    let a = c.args in
    let t = c.take_branch-taken in
    leads_exact a.image.now.bytes.now a.image.now.frame (accepted a.image.now) a.place c.loop-p.p c.loop-p.d c.loop-p.skip c.loop-p.invariant t.result t.ensures c.child-c.result c.child-c.ensures c.in-Child.is (sym c.is_exact.ensures ∙ c.if-is_exact.true) c.if-skip-eq0.true

pub overflow_sub-skip-then-is_exact : goal.overflow_sub-skip-then-is_exact
overflow_sub-skip-then-is_exact c =
    let z = c.if-skip-eq0.false in omega arith

pub loop-p-smaller-then-is_exact : goal.loop-p-smaller-then-is_exact
loop-p-smaller-then-is_exact c =
    omega (arith, c.loop-p.invariant.deep)

pub loop-p-preserved-then-is_exact : goal.loop-p-preserved-then-is_exact
loop-p-preserved-then-is_exact c =
    let a = c.args in
    let t = c.take_branch-taken in
    own_passed a.image.now.bytes.now a.image.now.frame (accepted a.image.now) a.place c.loop-p.p c.loop-p.d c.loop-p.skip c.loop-p.invariant t.result t.ensures c.child-c.result c.child-c.ensures c.in-Child.is (sym c.is_exact.ensures ∙ c.if-is_exact.true) c.if-skip-eq0.false

pub loop-p-smaller : goal.loop-p-smaller
loop-p-smaller c =
    omega (arith, c.loop-p.invariant.deep)

pub loop-p-preserved : goal.loop-p-preserved
loop-p-preserved c =
    let a = c.args in
    let t = c.take_branch-taken in
    none_passed a.image.now.bytes.now a.image.now.frame (accepted a.image.now) a.place c.loop-p.p c.loop-p.d c.loop-p.skip c.loop-p.invariant t.result t.ensures c.child-c.result c.child-c.ensures c.in-Child.is (sym c.is_exact.ensures ∙ c.if-is_exact.false)
