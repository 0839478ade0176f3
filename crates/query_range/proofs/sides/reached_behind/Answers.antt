use Rattle.query_range.specs.RangeWays.{child_key, open_in, reached_nothing, reached_leaf, reached_child}
use mathlib.Core.Path.{sym, ◌∙◌}
use native.Mathlib.Omega.{arith}
use Rattle.query_range.proofs.sides.reached_behind.Goals as goal

pub low_above-requires : goal.low_above-requires
low_above-requires c =
    (open_in c.requires c.slot.result.0 c.slot.ensures c.in-Leaf.is, omega (arith, c.requires.more), c.requires.from.short)

pub reached_below-requires : goal.reached_below-requires
reached_below-requires c =
    child_key c.requires c.child.result.0 c.child.ensures c.in-Child.is

pub returns-in-Absent : goal.returns-in-Absent
returns-in-Absent c =
    sym (reached_nothing c.requires c.in-Absent.is)

pub returns-in-Leaf : goal.returns-in-Leaf
returns-in-Leaf c =
    sym (reached_leaf c.requires c.slot.result.0 c.slot.ensures c.in-Leaf.is ∙ c.low_above.ensures)

pub returns-in-Child : goal.returns-in-Child
returns-in-Child c =
    c.reached_below.ensures ∙ sym (reached_child c.requires c.child.result.0 c.child.ensures c.in-Child.is)
