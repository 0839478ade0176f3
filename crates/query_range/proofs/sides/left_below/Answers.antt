use Rattle.query_range.specs.RangeWays.{key_node, child_key, open_in, left_above, left_nothing, left_leaf, left_child, left_stop}
use Rattle.query_range.proofs.SideLaws.{last_on}
use mathlib.Core.Bool.{not}
use mathlib.Core.Path.{sym, ap, ◌∙◌}
use native.Mathlib.Omega.{arith}
use Rattle.query_range.proofs.sides.left_below.Goals as goal

pub last_branch-last-requires : goal.last_branch-last-requires
last_branch-last-requires c =
    (key_node c.loop-d.invariant.0, omega arith)

pub returns-then-last : goal.returns-then-last
returns-then-last c =
    let last = rw c.from.ensures at c.last_branch-last.ensures in
    sym (c.loop-d.invariant.1 ∙ left_above c.loop-d.invariant.0 (omega arith) (sym last.higher_is ∙ c.if-last.true))

pub returns-in-Absent : goal.returns-in-Absent
returns-in-Absent c =
    let w = last_on c.loop-d.invariant.0 (omega arith) (rw c.from.ensures at c.last_branch-last.ensures) c.if-last.false in
    sym (c.loop-d.invariant.1 ∙ w.1 ∙ left_nothing w.0 c.in-Absent.is)

pub high_below-requires : goal.high_below-requires
high_below-requires c =
    let w = last_on c.loop-d.invariant.0 (omega arith) (rw c.from.ensures at c.last_branch-last.ensures) c.if-last.false in
    (open_in w.0 c.slot.result.0 c.slot.ensures c.in-Leaf.is, omega arith, c.loop-d.invariant.0.short)

pub returns-in-Leaf : goal.returns-in-Leaf
returns-in-Leaf c =
    let w = last_on c.loop-d.invariant.0 (omega arith) (rw c.from.ensures at c.last_branch-last.ensures) c.if-last.false in
    ap not c.high_below.ensures ∙ sym (c.loop-d.invariant.1 ∙ w.1 ∙ left_leaf w.0 c.slot.result.0 c.slot.ensures c.in-Leaf.is)

pub loop-d-preserved : goal.loop-d-preserved
loop-d-preserved c =
    let w = last_on c.loop-d.invariant.0 (omega arith) (rw c.from.ensures at c.last_branch-last.ensures) c.if-last.false in
    let k = c.in-Child.is in
    (child_key w.0 c.child-m.result.0 c.child-m.ensures k, c.loop-d.invariant.1 ∙ w.1 ∙ left_child w.0 c.child-m.result.0 c.child-m.ensures k)

pub returns : goal.returns
returns c =
    sym (c.loop-d.invariant.1 ∙ left_stop c.loop-d.invariant.0 (omega arith))
