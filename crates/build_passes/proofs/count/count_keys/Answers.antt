-- What the keys left count gives what all keys count, and there is room for it.
use Rattle.std.proofs.Common.{arith, ◌+◌}
use mathlib.Core.Path.{refl, ap, ◌∙◌}
use lib.ListN.{length}
use Rattle.build_keys.specs.declared.LevelCounts.{LevelCounts}
use Rattle.build_passes.specs.CountedKeys.{starts_same, starts_key, starts_reads, starts_done, starts_begin}
use Rattle.build_passes.proofs.count.count_keys.Goals as goal

pub loop-at-init : goal.loop-at-init
loop-at-init c =
    let pre = c.requires in
    (starts_begin c.args.s.now _ _ pre.0 pre.1 (ap (λ (x : LevelCounts). x.entries) pre.2) (ap (λ (x : LevelCounts). x.leaves) pre.2), refl)

pub read_key-k-requires : goal.read_key-k-requires
read_key-k-requires c =
    starts_reads c.args.s.now c.loop-at.at c.loop-at.first _ _ _ c.loop-at.invariant.0 c.loop-at-test.true

pub count_key-requires-clause-key_numbers : goal.count_key-requires-clause-key_numbers
count_key-requires-clause-key_numbers c =
    let l = c.loop-at in
    (starts_key c.args.s.now l.at l.first _ _ _ l.invariant.0 c.read_key-k.result c.read_key-k.ensures c.loop-at-test.true).listed.numbers

pub count_key-requires-clause-first_bound : goal.count_key-requires-clause-first_bound
count_key-requires-clause-first_bound c =
    let l = c.loop-at in
    let t = starts_key c.args.s.now l.at l.first _ _ _ l.invariant.0 c.read_key-k.result c.read_key-k.ensures c.loop-at-test.true in
    (t.start_room, t.leaf_room)

pub overflow_add-first : goal.overflow_add-first
overflow_add-first c =
    let l = c.loop-at in
    let t = starts_key c.args.s.now l.at l.first _ _ _ l.invariant.0 c.read_key-k.result c.read_key-k.ensures c.loop-at-test.true in
    omega (arith, t.listed.numbers.behind, t.listed.numbers.size)

pub loop-at-preserved : goal.loop-at-preserved
loop-at-preserved c =
    let l = c.loop-at in
    let k = c.read_key-k.result in
    let t = starts_key c.args.s.now l.at l.first _ _ _ l.invariant.0 k c.read_key-k.ensures c.loop-at-test.true in
    let e = c.count_key.ensures in
    (starts_same c.args.s.now (k.at + k.len) (k.next + 1) _ _ _ _ _ (ap (λ (x : LevelCounts). x.entries) e) (ap (λ (x : LevelCounts). x.leaves) e) t.behind, ap (λ (x : LevelCounts). x.nodes) e ∙ l.invariant.1)

pub returns : goal.returns
returns c =
    let l = c.loop-at in
    let t = starts_done c.args.s.now l.at l.first _ _ _ l.invariant.0 c.loop-at-test.false in
    (t.0, t.1, t.2, ap length l.invariant.1 ∙ ap (λ (x : LevelCounts). length x.nodes) c.requires.2)
