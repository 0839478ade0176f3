-- By cases of an exact leaf.
use native.Mathlib.Omega.{arith}
use Rattle.build_laws.specs.LevelEntries.{pred}
use Rattle.build_laws.specs.NeighbourLeaves.{cut_exact, cut_open}
use Rattle.build_laws.specs.KeyLaws.{level_exact, level_open}
use Rattle.build_keys.proofs.numbers.cut_length.Goals as goal

pub returns-then-k : goal.returns-then-k
returns-then-k c =
    let k = c.args.k in
    let p = pred k.first in
    let e = c.if-k.true in
    (omega (arith, c.leaf_level-leaf.ensures.0, level_exact p k.next k.len e, cut_exact p k.next k.len e), omega (arith, c.leaf_level-leaf.ensures.0, level_exact p k.next k.len e))

pub returns-else-k : goal.returns-else-k
returns-else-k c =
    let k = c.args.k in
    let p = pred k.first in
    let e = c.if-k.false in
    let pre = c.requires in
    (omega (arith, c.leaf_level-leaf.ensures.0, level_open p k.next k.len e, cut_open p k.next k.len e), omega (arith, c.leaf_level-leaf.ensures.0, level_open p k.next k.len e, pre.before, pre.behind, e))
