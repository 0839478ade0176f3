use Rattle.nav_nodes.specs.FromCheck.{accepted}
use Rattle.nav_nodes.specs.Positions.{before_dense}
use Rattle.nav_nodes.specs.Accepted.{nodes}
use Rattle.nav_nodes.specs.NumberBounds.{leaves_all}
use native.Mathlib.Omega.{arith}
use Rattle.nav_nodes.proofs.nodes.dense_before.Goals as goal

pub overflow_sub-result : goal.overflow_sub-result
overflow_sub-result c =
    let a = c.args in
    let v = a.image.now in
    let q = before_dense v.bytes.now v.frame (accepted v) a.m.0 c.requires in
    let l = c.label_rank-labels.ensures in
    let k = c.child_rank-children.ensures in
    omega arith

pub overflow_add-result : goal.overflow_add-result
overflow_add-result c =
    let a = c.args in
    let v = a.image.now in
    let q = before_dense v.bytes.now v.frame (accepted v) a.m.0 c.requires in
    let l = c.label_rank-labels.ensures in
    let k = c.child_rank-children.ensures in
    let x = c.exact_rank-exacts.ensures in
    let w = leaves_all (nodes v.bytes.now v.frame) a.m.0 in
    let t = (accepted v).writable in
    omega (arith, t.leaf_total, t.few)

pub returns : goal.returns
returns c =
    let a = c.args in
    let v = a.image.now in
    let q = before_dense v.bytes.now v.frame (accepted v) a.m.0 c.requires in
    let l = c.label_rank-labels.ensures in
    let k = c.child_rank-children.ensures in
    let x = c.exact_rank-exacts.ensures in
    record { children_are = omega arith; leaves_are = omega arith }
