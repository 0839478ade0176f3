-- The loop: the nodes before i are judged.
use mathlib.Core.Path.{◌≡◌, sym, ◌∙◌}
use Prim.Native.Nat.{ℕ, ◌+◌, ◌*◌, ◌≤◌, ◌<◌}
use native.Mathlib.Omega.{arith}
use Rattle.bits.proofs.SliceParts.{length_part}
use Rattle.check_levels.specs.Ranges.{from_fail, from_step, from_end}
use Rattle.check_trie.specs.DensePositions.{dense_node_valid, dense_all, row_judged}
use Rattle.check_trie.proofs.dense.dense_valid.Goals as goal

-- node i has its 32 bytes
node_room : {i n l : ℕ} → i < n → l ≡ 32 * n → 32 * i + 32 ≤ l
node_room h e = omega arith

bit_room : {i n m : ℕ} → i < n → n ≤ m → i < m
bit_room h l = omega arith

next : {i n : ℕ} → i < n → i + 1 ≤ n
next h = omega arith

pub loop-i-init : goal.loop-i-init
loop-i-init c =
    let a = c.args in
    (omega arith, dense_all a.dl.now a.dc.now a.dp.now a.n c.requires)

pub overflow_mul-i : goal.overflow_mul-i
overflow_mul-i c =
    omega (arith, node_room c.loop-i-test.true c.requires.labels)

pub part-labels-requires : goal.part-labels-requires
part-labels-requires c =
    node_room c.loop-i-test.true c.requires.labels

pub overflow_mul-i-in-loop-i : goal.overflow_mul-i-in-loop-i
overflow_mul-i-in-loop-i c =
    omega (arith, node_room c.loop-i-test.true c.requires.children)

pub part-children-requires : goal.part-children-requires
part-children-requires c =
    node_room c.loop-i-test.true c.requires.children

pub bit_at-exact-requires : goal.bit_at-exact-requires
bit_at-exact-requires c =
    bit_room c.loop-i-test.true c.requires.exacts

pub node_valid-requires : goal.node_valid-requires
node_valid-requires c =
    let a = c.args in
    let p = c.requires in
    let t = c.loop-i-test.true in
    let i = c.loop-i.i in
    rw (c.part-labels.ensures, c.part-children.ensures) (length_part a.dl.now (32 * i) 32 (node_room t p.labels), length_part a.dc.now (32 * i) 32 (node_room t p.children))

pub returns-then-not-node_valid : goal.returns-then-not-node_valid
returns-then-not-node_valid c =
    let a = c.args in
    let l = c.loop-i in
    let e = row_judged a.dl.now a.dc.now a.dp.now l.i c.part-labels.ensures c.part-children.ensures c.bit_at-exact.ensures c.node_valid.ensures in
    sym (l.invariant.1 ∙ from_fail (dense_node_valid a.dl.now a.dc.now a.dp.now) l.i a.n c.loop-i-test.true (e ∙ c.if-not-node_valid.true))

pub loop-i-preserved : goal.loop-i-preserved
loop-i-preserved c =
    let loop-test = c.loop-i-test in
    let a = c.args in
    let l = c.loop-i in
    let e = row_judged a.dl.now a.dc.now a.dp.now l.i c.part-labels.ensures c.part-children.ensures c.bit_at-exact.ensures c.node_valid.ensures in
    (next loop-test.true, l.invariant.1 ∙ from_step (dense_node_valid a.dl.now a.dc.now a.dp.now) l.i a.n loop-test.true (e ∙ c.if-not-node_valid.false))

pub returns : goal.returns
returns c =
    let a = c.args in
    let l = c.loop-i in
    sym (l.invariant.1 ∙ from_end (dense_node_valid a.dl.now a.dc.now a.dp.now) l.i a.n c.loop-i-test.false)
