use Rattle.query_range.specs.RangeWays.{child_key, open_in, left_nothing, left_leaf, left_child}
use mathlib.Core.Bool.{not}
use mathlib.Core.Path.{sym, ap, ◌∙◌}
use native.Mathlib.Omega.{arith}
use Rattle.query_range.proofs.sides.left_behind.Goals as goal

pub high_below-requires : goal.high_below-requires
high_below-requires c =
    (open_in c.requires c.slot.result.0 c.slot.ensures c.in-Leaf.is, omega (arith, c.requires.more), c.requires.from.short)

pub left_below-requires : goal.left_below-requires
left_below-requires c =
    child_key c.requires c.child.result.0 c.child.ensures c.in-Child.is

pub returns-in-Absent : goal.returns-in-Absent
returns-in-Absent c =
    sym (left_nothing c.requires c.in-Absent.is)

pub returns-in-Leaf : goal.returns-in-Leaf
returns-in-Leaf c =
    ap not c.high_below.ensures ∙ sym (left_leaf c.requires c.slot.result.0 c.slot.ensures c.in-Leaf.is)

pub returns-in-Child : goal.returns-in-Child
returns-in-Child c =
    c.left_below.ensures ∙ sym (left_child c.requires c.child.result.0 c.child.ensures c.in-Child.is)
