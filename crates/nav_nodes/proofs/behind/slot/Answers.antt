use Rattle.nav_nodes.specs.Positions.{slot_at, dense_leaves, dense_totals}
use borrow.Author.Tests.{lt-ltb, le-ltb}
use native.Mathlib.Omega.{arith}
use Rattle.nav_nodes.proofs.BehindLaws.{dense_slot_room, sparse_slot_room}
use Rattle.nav_nodes.proofs.behind.slot.Goals as goal

pub overflow_add-result : goal.overflow_add-result
overflow_add-result c =
    let a = c.args in
    omega (arith, c.label_rank-labels.ensures, c.exact_rank.ensures, dense_slot_room a.image.now.bytes.now a.image.now.frame a.m.0 a.at.0 c.requires (omega arith))

pub returns-then-m-image : goal.returns-then-m-image
unfolding slot_at
returns-then-m-image c =
    let a = c.args in
    let v = a.image.now in
    rw (lt-ltb a.m.0 v.frame.dense.nodes (omega arith)) (omega (arith, c.label_rank-labels.ensures, c.child_rank-children.ensures, c.exact_rank.ensures))

pub overflow_sub-result-2 : goal.overflow_sub-result-2
overflow_sub-result-2 c =
    let a = c.args in
    omega (arith, sparse_slot_room a.image.now.bytes.now a.image.now.frame a.m.0 a.at.0 c.requires (omega arith))

pub overflow_sub-result-3 : goal.overflow_sub-result-3
overflow_sub-result-3 c =
    let a = c.args in
    omega (arith, c.entry_rank.ensures, sparse_slot_room a.image.now.bytes.now a.image.now.frame a.m.0 a.at.0 c.requires (omega arith))

pub overflow_add-result-2 : goal.overflow_add-result-2
overflow_add-result-2 c =
    let a = c.args in
    omega (arith, sparse_slot_room a.image.now.bytes.now a.image.now.frame a.m.0 a.at.0 c.requires (omega arith))

pub returns : goal.returns
unfolding slot_at
returns c =
    let a = c.args in
    let v = a.image.now in
    let p = c.requires.accepted in
    rw (le-ltb a.m.0 v.frame.dense.nodes (omega arith)) (omega (arith, (dense_totals v.bytes.now v.frame p).1, c.entry_rank.ensures, dense_leaves v.bytes.now v.frame p))
