use Rattle.query_range.specs.RangeWays.{KeyAt, group_below, reached_of}
use mathlib.Core.Path.{◌≡◌}
use Rattle.query_range.proofs.sides.reached_below.Given as goal

-- The bytes passed lead to the node, and what is reached below it decides.
abbrev pub invariant-loop-d : goal.invariant-loop-d
invariant-loop-d l = let s = l.image.bytes.now in
    let f = l.image.frame in
    KeyAt s f l.hi l.m.0 l.d × (reached_of f l.hi l.depth (group_below s f l.initial.m.0 l.depth) ≡ reached_of f l.hi l.d (group_below s f l.m.0 l.d))
