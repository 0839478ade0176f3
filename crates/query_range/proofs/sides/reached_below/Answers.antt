use Rattle.query_range.specs.RangeWays.{group_behind, key_node, child_key, open_in, reached_here, reached_under, next_under, next_over, first_there, reached_empty, reached_leaf, reached_child, reached_stop}
use Rattle.query_range.proofs.SideLaws.{first_on, first_own}
use mathlib.Core.Logic.{⊎_elim}
use Prim.Native.Nat.{◌+◌}
use mathlib.Core.Path.{sym, ◌∙◌}
use native.Mathlib.Omega.{arith}
use Rattle.query_range.proofs.sides.reached_below.Goals as goal

pub first_branch-first-requires : goal.first_branch-first-requires
first_branch-first-requires c =
    key_node c.loop-d.invariant.0

pub returns-then-first : goal.returns-then-first
returns-then-first c =
    let e = c.first_branch-first.ensures in
    let n = c.loop-d.invariant.0 in
    sym (c.loop-d.invariant.1
    ∙ ⊎_elim (λ t. reached_here n (omega arith) (sym e.exact_is ∙ t)) (λ t. reached_under n (omega arith) (next_under n (omega arith) e.branch_is (omega arith) (first_there n e.branch_is) (omega (arith, t, c.from-y.ensures)))) c.then-first.either)

pub returns-then-y-branch : goal.returns-then-y-branch
returns-then-y-branch c =
    let v = c.args.image.now in
    let e = c.first_branch-first.ensures in
    let n = c.loop-d.invariant.0 in
    let on = first_on n (omega arith) e c.if-first.false (omega (arith, c.if-branch-y.false, c.from-y.ensures)) in
    let over = next_over n (omega arith) e.branch_is (omega arith) (first_there n e.branch_is) (omega (arith, c.if-y-branch.true, c.from-y.ensures)) in
    sym (c.loop-d.invariant.1 ∙ on ∙ reached_empty v.frame c.args.hi.now (c.loop-d.d + 1) (group_behind v.bytes.now v.frame c.args.hi.now c.loop-d.m.0 c.loop-d.d) over)

pub returns-in-Absent : goal.returns-in-Absent
returns-in-Absent c =
    absurd (first_there c.loop-d.invariant.0 c.first_branch-first.ensures.branch_is c.in-Absent.is)

pub low_above-requires : goal.low_above-requires
low_above-requires c =
    let b = first_own c.loop-d.invariant.0 (omega arith) c.first_branch-first.ensures (omega (arith, c.if-branch-y.false, c.if-y-branch.false, c.from-y.ensures)) in
    (open_in b c.slot.result.0 c.slot.ensures c.in-Leaf.is, omega arith, c.loop-d.invariant.0.short)

pub returns-in-Leaf : goal.returns-in-Leaf
returns-in-Leaf c =
    let n = c.loop-d.invariant.0 in
    let on = first_on n (omega arith) c.first_branch-first.ensures c.if-first.false (omega (arith, c.if-branch-y.false, c.from-y.ensures)) in
    let b = first_own n (omega arith) c.first_branch-first.ensures (omega (arith, c.if-branch-y.false, c.if-y-branch.false, c.from-y.ensures)) in
    sym (c.loop-d.invariant.1 ∙ on ∙ reached_leaf b c.slot.result.0 c.slot.ensures c.in-Leaf.is ∙ c.low_above.ensures)

pub loop-d-preserved : goal.loop-d-preserved
loop-d-preserved c =
    let n = c.loop-d.invariant.0 in
    let on = first_on n (omega arith) c.first_branch-first.ensures c.if-first.false (omega (arith, c.if-branch-y.false, c.from-y.ensures)) in
    let b = first_own n (omega arith) c.first_branch-first.ensures (omega (arith, c.if-branch-y.false, c.if-y-branch.false, c.from-y.ensures)) in
    let h = c.in-Child.is in
    (child_key b c.child-m.result.0 c.child-m.ensures h, c.loop-d.invariant.1 ∙ on ∙ reached_child b c.child-m.result.0 c.child-m.ensures h)

pub is_exact-requires : goal.is_exact-requires
is_exact-requires c =
    key_node c.loop-d.invariant.0

pub returns : goal.returns
returns c =
    c.is_exact.ensures ∙ sym (c.loop-d.invariant.1 ∙ reached_stop c.loop-d.invariant.0 (omega arith))
