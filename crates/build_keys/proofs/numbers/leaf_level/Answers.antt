-- By cases of an exact leaf.
use Rattle.build_laws.specs.KeyLaws.{level_exact, level_open}
use Rattle.build_laws.specs.LevelEntries.{pred}
use native.Mathlib.Omega.{arith}
use Rattle.build_keys.proofs.numbers.leaf_level.Goals as goal

pub returns-then-k : goal.returns-then-k
returns-then-k c =
    let k = c.args.k in
    (level_exact (pred k.first) k.next k.len c.if-k.true, c.requires.exact c.if-k.true)

pub returns-else-k : goal.returns-else-k
returns-else-k c =
    let k = c.args.k in
    let pre = c.requires in
    (omega (arith, c.max.ensures, c.split_level.ensures, level_open (pred k.first) k.next k.len c.if-k.false), omega (arith, pre.before, pre.behind, pre.size, c.max.ensures, c.split_level.ensures, c.if-k.false))
