use Rattle.nav_nodes.specs.Positions.{child_at, slot_at, dense_kids, dense_leaves, dense_totals}
use borrow.Author.Tests.{lt-ltb, le-ltb}
use native.Mathlib.Omega.{arith}
use Rattle.nav_nodes.proofs.BehindLaws.{dense_child_room, dense_slot_room, sparse_child_room, sparse_slot_room}
use Rattle.nav_nodes.proofs.behind.child_and_slot.Goals as goal

pub overflow_add-result : goal.overflow_add-result
overflow_add-result c =
    let a = c.args in
    omega (arith, c.child_rank-children.ensures, dense_child_room a.image.now.bytes.now a.image.now.frame a.m.0 a.at.0 c.requires (omega arith))

pub overflow_add-result-then-m-image : goal.overflow_add-result-then-m-image
overflow_add-result-then-m-image c =
    let a = c.args in
    omega (arith, c.label_rank-labels.ensures, c.exact_rank-exacts.ensures, dense_slot_room a.image.now.bytes.now a.image.now.frame a.m.0 a.at.0 c.requires (omega arith))

pub returns-then-m-image : goal.returns-then-m-image
unfolding child_at slot_at
returns-then-m-image c =
    let a = c.args in
    let v = a.image.now in
    let l = lt-ltb a.m.0 v.frame.dense.nodes (omega arith) in
    record { child_is = rw l (omega (arith, c.child_rank-children.ensures)); slot_is = rw l (omega (arith, c.label_rank-labels.ensures, c.child_rank-children.ensures, c.exact_rank-exacts.ensures)) }

pub overflow_add-result-2 : goal.overflow_add-result-2
overflow_add-result-2 c =
    let a = c.args in
    omega (arith, c.entry_rank-children.ensures, sparse_child_room a.image.now.bytes.now a.image.now.frame a.m.0 a.at.0 c.requires (omega arith))

pub overflow_add-result-3 : goal.overflow_add-result-3
overflow_add-result-3 c =
    let a = c.args in
    omega (arith, c.entry_rank-children.ensures, sparse_child_room a.image.now.bytes.now a.image.now.frame a.m.0 a.at.0 c.requires (omega arith))

pub overflow_sub-result-2 : goal.overflow_sub-result-2
overflow_sub-result-2 c =
    let a = c.args in
    omega (arith, sparse_slot_room a.image.now.bytes.now a.image.now.frame a.m.0 a.at.0 c.requires (omega arith))

pub overflow_sub-result-3 : goal.overflow_sub-result-3
overflow_sub-result-3 c =
    let a = c.args in
    omega (arith, c.entry_rank-children.ensures, sparse_slot_room a.image.now.bytes.now a.image.now.frame a.m.0 a.at.0 c.requires (omega arith))

pub overflow_add-result-4 : goal.overflow_add-result-4
overflow_add-result-4 c =
    let a = c.args in
    omega (arith, sparse_slot_room a.image.now.bytes.now a.image.now.frame a.m.0 a.at.0 c.requires (omega arith))

pub returns : goal.returns
unfolding child_at slot_at
returns c =
    let a = c.args in
    let v = a.image.now in
    let p = c.requires.accepted in
    let d = dense_totals v.bytes.now v.frame p in
    let e = c.entry_rank-children.ensures in
    let l = le-ltb a.m.0 v.frame.dense.nodes (omega arith) in
    record { child_is = rw l (omega (arith, d.0, e, dense_kids v.bytes.now v.frame p)); slot_is = rw l (omega (arith, d.1, e, dense_leaves v.bytes.now v.frame p)) }
