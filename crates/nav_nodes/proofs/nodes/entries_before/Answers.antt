-- The entries before a dense node are its labels and exact leaves; before a sparse one, the dense ones and those before its start.
use Rattle.nav_nodes.specs.FromCheck.{accepted}
use Prim.Native.Nat.{◌-◌}
use native.Mathlib.Omega.{arith}
use lib.ListN.{drop}
use Rattle.bits.specs.Bits.{select}
use Rattle.bits.proofs.RankLaws.{rank_le}
use Rattle.nav_nodes.specs.Accepted.{nodes}
use Rattle.nav_nodes.specs.NumberBounds.{leaves_all}
use Rattle.nav_nodes.specs.Positions.{before_dense, before_sparse, few_children, dense_totals}
use Rattle.nav_nodes.proofs.nodes.entries_before.Goals as goal

pub overflow_add-result : goal.overflow_add-result
overflow_add-result c =
    let a = c.args in
    let v = a.image.now in
    let q = before_dense v.bytes.now v.frame (accepted v) a.m.0 (omega (arith, c.if-m-image.true)) in
    let w = (accepted v).writable in
    omega (arith, c.label_rank-labels.ensures, c.exact_rank-exacts.ensures, q.0, q.1, leaves_all (nodes v.bytes.now v.frame) a.m.0, few_children v.bytes.now v.frame (accepted v) a.m.0 (omega (arith, c.if-m-image.true)), w.leaf_total, w.few)

pub returns-then-m-image : goal.returns-then-m-image
returns-then-m-image c =
    let a = c.args in
    let v = a.image.now in
    let q = before_dense v.bytes.now v.frame (accepted v) a.m.0 (omega (arith, c.if-m-image.true)) in
    omega (arith, c.label_rank-labels.ensures, c.exact_rank-exacts.ensures, q.0, q.1, q.2)

pub overflow_add-result-2 : goal.overflow_add-result-2
overflow_add-result-2 c =
    let v = c.args.image.now in
    let p = accepted v in
    let d = dense_totals v.bytes.now v.frame p in
    omega (arith, c.node_start-start.ensures.1, d.0, d.1, leaves_all (nodes v.bytes.now v.frame) v.frame.dense.nodes, few_children v.bytes.now v.frame p v.frame.dense.nodes (omega arith), p.writable.leaf_total, p.writable.few, p.writable.few_entries, p.entry_size)

pub returns : goal.returns
returns c =
    let a = c.args in
    let v = a.image.now in
    let d = dense_totals v.bytes.now v.frame (accepted v) in
    let q = before_sparse v.bytes.now v.frame (accepted v) a.m.0 c.if-m-image.false c.requires in
    omega (arith, c.node_start-start.ensures.0, d.0, d.1, q.0, q.1, rank_le (drop v.frame.sc v.bytes.now) (select (drop v.frame.sb v.bytes.now) v.frame.sparse.entries (a.m.0 - v.frame.dense.nodes)))
