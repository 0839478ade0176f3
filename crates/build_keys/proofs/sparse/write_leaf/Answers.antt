-- The cursors up to the leaf's level move on, and the bit there is set.
use mathlib.Core.Path.{sym, ◌∙◌}
use native.Mathlib.Omega.{arith}
use lib.ListN.{length}
use Rattle.build_keys.specs.KeySparseBits.{leaf_cursors, leaf_room, leaf_does, leaf_none}
use Rattle.build_keys.proofs.sparse.write_leaf.Goals as goal

pub move_on-requires : goal.move_on-requires
move_on-requires c =
    let a = c.args in
    let b = c.split_level in
    leaf_cursors a.l a.k b.result _ b.ensures c.leaf_level-d.ensures.0 (omega (arith, b.ensures, c.requires.0.before)) _ _ c.max.ensures c.min.ensures (length a.out.now) a.cur.now c.requires.1

pub put_bit-requires : goal.put_bit-requires
put_bit-requires c =
    let a = c.args in
    let b = c.split_level in
    leaf_room a.l a.k b.result _ b.ensures c.leaf_level-d.ensures.0 (omega (arith, b.ensures, c.requires.0.before)) _ _ c.max.ensures c.min.ensures (length a.out.now) a.cur.now _
    c.requires.1 c.move_on.ensures (sym c.is_among.ensures ∙ c.if-is_among.true)

pub returns-then-is_among : goal.returns-then-is_among
returns-then-is_among c =
    let a = c.args in
    let b = c.split_level in
    leaf_does a.l a.k b.result _ b.ensures c.leaf_level-d.ensures.0 (omega (arith, b.ensures, c.requires.0.before)) _ _ c.max.ensures c.min.ensures a.out.now a.cur.now _ _
    c.move_on.ensures (sym c.is_among.ensures ∙ c.if-is_among.true) c.put_bit.ensures

pub returns-else-is_among : goal.returns-else-is_among
returns-else-is_among c =
    let a = c.args in
    let b = c.split_level in
    leaf_none a.l a.k b.result _ b.ensures c.leaf_level-d.ensures.0 (omega (arith, b.ensures, c.requires.0.before)) _ _ c.max.ensures c.min.ensures a.out.now a.cur.now _
    c.move_on.ensures (sym c.is_among.ensures ∙ c.if-is_among.false)
