-- The child tells how many branches before it continue.
use mathlib.Core.Path.{◌≡◌}
use native.Mathlib.Omega.{arith}
use lib.ListN.{drop}
use Prim.Native.Nat.{◌+◌}
use borrow.Author.Tests.{lt-ltb, le-ltb}
use Rattle.bits.proofs.RankLaws.{rank_le}
use Rattle.nav_nodes.specs.Accepted.{nodes}
use Rattle.nav_nodes.specs.NumberBounds.{leaves_all}
use Rattle.nav_nodes.specs.Positions.{child_at, slot_at, dense_kids, dense_leaves, dense_totals, few_children}
use Rattle.walk_path.specs.Entries.{child_from}
use Rattle.bits.specs.Bits.{rank}
use Rattle.walk_path.proofs.entries.slot_at.Goals as goal

pub label_rank-labels-requires : goal.label_rank-labels-requires
label_rank-labels-requires c =
    (c.requires.0.within.dense (omega (arith, c.if-m-image.true))).0

pub overflow_add-result : goal.overflow_add-result
overflow_add-result c =
    let a = c.args in
    omega (arith, c.label_rank-labels.ensures, rank_le (drop a.image.now.frame.dl a.image.now.bytes.now) a.at.0, (c.requires.0.within.dense (omega (arith, c.if-m-image.true))).0, c.requires.0.accepted.dense_size, c.requires.0.accepted.writable.few_dense)

pub overflow_sub-result : goal.overflow_sub-result
unfolding child_at
overflow_sub-result c =
    let child_dense : c.args.child.0 ≡ 1 + rank (drop c.args.image.now.frame.dc c.args.image.now.bytes.now) c.args.at.0 = let a = c.args in rw (lt-ltb a.m.0 a.image.now.frame.dense.nodes (omega (arith, c.if-m-image.true))) at c.requires.1 in
    omega (arith, c.label_rank-labels.ensures, child_dense, (c.requires.0.within.dense (omega (arith, c.if-m-image.true))).1)

pub overflow_add-result-then-m-image : goal.overflow_add-result-then-m-image
overflow_add-result-then-m-image c =
    let a = c.args in
    omega (arith, c.label_rank-labels.ensures, rank_le (drop a.image.now.frame.dl a.image.now.bytes.now) a.at.0, c.exact_rank.ensures, rank_le (drop a.image.now.frame.dp a.image.now.bytes.now) (a.m.0 + 1), (c.requires.0.within.dense (omega (arith, c.if-m-image.true))).0, c.requires.0.accepted.dense_size, c.requires.0.accepted.writable.few_dense)

pub returns-then-m-image : goal.returns-then-m-image
unfolding child_at slot_at
returns-then-m-image c =
    let child_dense : c.args.child.0 ≡ 1 + rank (drop c.args.image.now.frame.dc c.args.image.now.bytes.now) c.args.at.0 = let a = c.args in rw (lt-ltb a.m.0 a.image.now.frame.dense.nodes (omega (arith, c.if-m-image.true))) at c.requires.1 in
    let a = c.args in
    rw (lt-ltb a.m.0 a.image.now.frame.dense.nodes (omega (arith, c.if-m-image.true))) (omega (arith, c.label_rank-labels.ensures, child_dense, c.exact_rank.ensures, (c.requires.0.within.dense (omega (arith, c.if-m-image.true))).1))

pub overflow_add-result-2 : goal.overflow_add-result-2
overflow_add-result-2 c =
    let a = c.args in
    let n = c.if-m-image.false in
    let p = c.requires.0.accepted in
    omega (arith, dense_totals a.image.now.bytes.now a.image.now.frame p, few_children a.image.now.bytes.now a.image.now.frame p a.image.now.frame.dense.nodes (omega arith), leaves_all (nodes a.image.now.bytes.now a.image.now.frame) a.image.now.frame.dense.nodes, p.writable.leaf_total, p.writable.few, c.requires.0.within.sparse (omega arith), p.writable.few_entries, p.entry_size)

pub overflow_add-result-3 : goal.overflow_add-result-3
overflow_add-result-3 c =
    let a = c.args in
    let n = c.if-m-image.false in
    let p = c.requires.0.accepted in
    omega (arith, dense_totals a.image.now.bytes.now a.image.now.frame p, few_children a.image.now.bytes.now a.image.now.frame p a.image.now.frame.dense.nodes (omega arith), leaves_all (nodes a.image.now.bytes.now a.image.now.frame) a.image.now.frame.dense.nodes, p.writable.leaf_total, p.writable.few, c.requires.0.within.sparse (omega arith), p.writable.few_entries, p.entry_size)

pub overflow_sub-result-2 : goal.overflow_sub-result-2
unfolding child_at
overflow_sub-result-2 c =
    let child_sparse : c.args.child.0 ≡ child_from c.args.image.now.bytes.now c.args.image.now.frame c.args.at.0 = let a = c.args in let n = c.if-m-image.false in rw (le-ltb a.m.0 a.image.now.frame.dense.nodes (omega arith)) at c.requires.1 in
    let a = c.args in
    let p = c.requires.0.accepted in
    omega (arith, dense_totals a.image.now.bytes.now a.image.now.frame p, dense_kids a.image.now.bytes.now a.image.now.frame p, child_sparse, rank_le (drop a.image.now.frame.sc a.image.now.bytes.now) a.at.0)

pub returns : goal.returns
unfolding child_at slot_at
returns c =
    let child_sparse : c.args.child.0 ≡ child_from c.args.image.now.bytes.now c.args.image.now.frame c.args.at.0 = let a = c.args in let n = c.if-m-image.false in rw (le-ltb a.m.0 a.image.now.frame.dense.nodes (omega arith)) at c.requires.1 in
    let a = c.args in
    let n = c.if-m-image.false in
    let p = c.requires.0.accepted in
    rw (le-ltb a.m.0 a.image.now.frame.dense.nodes (omega arith)) (omega (arith, dense_totals a.image.now.bytes.now a.image.now.frame p, dense_kids a.image.now.bytes.now a.image.now.frame p, dense_leaves a.image.now.bytes.now a.image.now.frame p, child_sparse, rank_le (drop a.image.now.frame.sc a.image.now.bytes.now) a.at.0))
