use Rattle.query_range.specs.RangeWays.{KeyAt, group_below, left_of}
use mathlib.Core.Path.{◌≡◌}
use Rattle.query_range.proofs.sides.left_below.Given as goal

-- The bytes passed lead to the node, and what is left below it decides.
abbrev pub invariant-loop-d : goal.invariant-loop-d
invariant-loop-d l = let s = l.image.bytes.now in
    let f = l.image.frame in
    KeyAt s f l.lo l.m.0 l.d × (left_of f l.lo l.depth (group_below s f l.initial.m.0 l.depth) ≡ left_of f l.lo l.d (group_below s f l.m.0 l.d))
