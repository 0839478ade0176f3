use Rattle.nav_nodes.specs.FromCheck.{accepted}
use Rattle.nav_nodes.specs.Positions.{before_sparse, few_children, dense_totals}
use lib.ListN.{drop}
use Rattle.nav_nodes.specs.Accepted.{nodes}
use Rattle.nav_nodes.specs.NumberBounds.{leaves_all}
use Rattle.bits.proofs.RankLaws.{rank_le}
use Rattle.bits.specs.Bits.{rank}
use native.Mathlib.Omega.{arith}
use mathlib.Core.Path.{ap}
use Rattle.nav_nodes.proofs.nodes.sparse_before.Goals as goal

pub overflow_add-result : goal.overflow_add-result
overflow_add-result c =
    let v = c.args.image.now in
    let p = accepted v in
    let n = c.node_start-start in
    omega (arith, (dense_totals v.bytes.now v.frame p).0, few_children v.bytes.now v.frame p v.frame.dense.nodes (omega arith), c.entry_rank-children.ensures, rank_le (drop v.frame.sc v.bytes.now) n.result.0, n.ensures.1, p.writable.few_entries, p.entry_size)

pub overflow_sub-result : goal.overflow_sub-result
overflow_sub-result c =
    let v = c.args.image.now in
    omega (arith, (dense_totals v.bytes.now v.frame (accepted v)).1)

pub overflow_sub-result-2 : goal.overflow_sub-result-2
overflow_sub-result-2 c =
    let v = c.args.image.now in
    omega (arith, c.entry_rank-children.ensures, rank_le (drop v.frame.sc v.bytes.now) c.node_start-start.result.0)

pub overflow_add-result-2 : goal.overflow_add-result-2
overflow_add-result-2 c =
    let v = c.args.image.now in
    let p = accepted v in
    omega (arith, (dense_totals v.bytes.now v.frame p).1, leaves_all (nodes v.bytes.now v.frame) v.frame.dense.nodes, p.writable.leaf_total, p.writable.few, c.node_start-start.ensures.1, p.writable.few_entries, p.entry_size)

pub returns : goal.returns
returns c =
    let a = c.args in
    let v = a.image.now in
    let p = c.requires in
    let d = dense_totals v.bytes.now v.frame (accepted v) in
    let k = c.entry_rank-children.ensures in
    let n = c.node_start-start.ensures.0 in
    let q = before_sparse v.bytes.now v.frame (accepted v) a.m.0 p.0 p.1 in
    let e = ap (rank (drop v.frame.sc v.bytes.now)) n in
    record { children_are = omega (arith, q.0); leaves_are = omega (arith, q.1) }
