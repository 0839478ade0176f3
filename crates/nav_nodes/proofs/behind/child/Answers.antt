use Rattle.nav_nodes.specs.Positions.{child_at, dense_kids, dense_totals}
use borrow.Author.Tests.{lt-ltb, le-ltb}
use native.Mathlib.Omega.{arith}
use Rattle.nav_nodes.proofs.BehindLaws.{dense_child_room, sparse_child_room}
use Rattle.nav_nodes.proofs.behind.child.Goals as goal

pub overflow_add-result : goal.overflow_add-result
overflow_add-result c =
    let a = c.args in
    omega (arith, c.child_rank.ensures, dense_child_room a.image.now.bytes.now a.image.now.frame a.m.0 a.at.0 c.requires (omega arith))

pub returns-then-m-image : goal.returns-then-m-image
unfolding child_at
returns-then-m-image c =
    let a = c.args in
    let v = a.image.now in
    rw (lt-ltb a.m.0 v.frame.dense.nodes (omega arith)) (omega (arith, c.child_rank.ensures))

pub overflow_add-result-2 : goal.overflow_add-result-2
overflow_add-result-2 c =
    let a = c.args in
    omega (arith, c.entry_rank.ensures, sparse_child_room a.image.now.bytes.now a.image.now.frame a.m.0 a.at.0 c.requires (omega arith))

pub overflow_add-result-3 : goal.overflow_add-result-3
overflow_add-result-3 c =
    let a = c.args in
    omega (arith, c.entry_rank.ensures, sparse_child_room a.image.now.bytes.now a.image.now.frame a.m.0 a.at.0 c.requires (omega arith))

pub returns : goal.returns
unfolding child_at
returns c =
    let a = c.args in
    let v = a.image.now in
    let p = c.requires.accepted in
    rw (le-ltb a.m.0 v.frame.dense.nodes (omega arith)) (omega (arith, (dense_totals v.bytes.now v.frame p).0, c.entry_rank.ensures, dense_kids v.bytes.now v.frame p))
