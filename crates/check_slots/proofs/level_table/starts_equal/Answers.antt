-- The loop: the levels before the next one agree with LV, and what is left of it decides.
use Prim.Native.Nat.{◌+◌}
use mathlib.Core.Path.{refl, sym, ◌∙◌}
use native.Mathlib.Omega.{arith}
use Rattle.bits.proofs.ValueLaws.{Small}
use Rattle.check_tables.specs.Tables.{dense_agrees, sparse_agrees, tables_are}
use Rattle.check_slots.specs.Passed.{bits_pass}
use Rattle.check_slots.specs.LevelsLeft.{LevelsLeft, left_first, left_done, left_short, left_other, left_next}
use Rattle.theory.proofs.Lists.{and_both}
use Rattle.check_slots.proofs.level_table.starts_equal.Goals as goal

pub overflow_add-nodes : goal.overflow_add-nodes
overflow_add-nodes c =
    let o = c.requires.0.frame in omega (arith, o.dense, o.sparse)

pub loop-start-init : goal.loop-start-init
loop-start-init c =
    left_first c.args.image.now.bytes.now c.args.image.now.frame c.requires.0 c.requires.1 _ refl refl refl

pub overflow_sub-image : goal.overflow_sub-image
overflow_sub-image c =
    c.loop-start.invariant.room

pub returns-then-image-at-lt-LEVEL_START_BYTES : goal.returns-then-image-at-lt-LEVEL_START_BYTES
returns-then-image-at-lt-LEVEL_START_BYTES c =
    sym (left_short c.args.image.now.bytes.now c.args.image.now.frame c.requires.0 c.requires.1 c.loop-start.level c.loop-start.start c.loop-start.at c.loop-start.invariant c.loop-start-test.true c.if-image-at-lt-LEVEL_START_BYTES.true)

pub read32-requires : goal.read32-requires
read32-requires c =
    omega (arith, c.loop-start.invariant.room, c.if-image-at-lt-LEVEL_START_BYTES.false)

pub returns-then-read32-start : goal.returns-then-read32-start
returns-then-read32-start c =
    sym (left_other c.args.image.now.bytes.now c.args.image.now.frame c.requires.0 c.requires.1 c.loop-start.level c.loop-start.start c.loop-start.at c.loop-start.invariant c.loop-start-test.true (λ e. c.if-read32-start.true (c.read32.ensures.0 ∙ e)))

pub next_level-level-requires : goal.next_level-level-requires
next_level-level-requires c =
    let s = c.args.image.now.bytes.now in
    let f = c.args.image.now.frame in
    let j = c.requires.0 in
    ((bits_pass s f j).louds, sym (and_both (dense_agrees s f) (sparse_agrees s f) (sym (tables_are s f j.frame) ∙ j.ranks)).1, c.loop-start.invariant.known, c.loop-start.invariant.before, c.loop-start-test.true)

pub overflow_add-start : goal.overflow_add-start
overflow_add-start c =
    let found : LevelsLeft c.args.image.now.bytes.now c.args.image.now.frame c.next_level-level.result (c.next_level-level.result.branches + 1) (c.loop-start.at + 4) = let s = c.args.image.now.bytes.now in
    let small : Small s = c.args.image.now.in_range in
    left_next s c.args.image.now.frame c.requires.0 c.requires.1 c.loop-start.level c.loop-start.start c.loop-start.at c.loop-start.invariant c.loop-start-test.true small c.if-image-at-lt-LEVEL_START_BYTES.false (sym c.read32.ensures.0 ∙ c.if-read32-start.false) c.next_level-level.result c.next_level-level.ensures.0 c.next_level-level.ensures.1 in
    let o = c.requires.0.frame in
    omega (arith, found.start_in, o.dense, o.sparse)

pub overflow_add-at : goal.overflow_add-at
overflow_add-at c =
    let found : LevelsLeft c.args.image.now.bytes.now c.args.image.now.frame c.next_level-level.result (c.next_level-level.result.branches + 1) (c.loop-start.at + 4) = let s = c.args.image.now.bytes.now in
    let small : Small s = c.args.image.now.in_range in
    left_next s c.args.image.now.frame c.requires.0 c.requires.1 c.loop-start.level c.loop-start.start c.loop-start.at c.loop-start.invariant c.loop-start-test.true small c.if-image-at-lt-LEVEL_START_BYTES.false (sym c.read32.ensures.0 ∙ c.if-read32-start.false) c.next_level-level.result c.next_level-level.ensures.0 c.next_level-level.ensures.1 in
    omega (arith, found.room)

pub loop-start-smaller : goal.loop-start-smaller
loop-start-smaller c =
    let found : LevelsLeft c.args.image.now.bytes.now c.args.image.now.frame c.next_level-level.result (c.next_level-level.result.branches + 1) (c.loop-start.at + 4) = let s = c.args.image.now.bytes.now in
    let small : Small s = c.args.image.now.in_range in
    left_next s c.args.image.now.frame c.requires.0 c.requires.1 c.loop-start.level c.loop-start.start c.loop-start.at c.loop-start.invariant c.loop-start-test.true small c.if-image-at-lt-LEVEL_START_BYTES.false (sym c.read32.ensures.0 ∙ c.if-read32-start.false) c.next_level-level.result c.next_level-level.ensures.0 c.next_level-level.ensures.1 in
    omega (arith, found.room)

pub loop-start-preserved : goal.loop-start-preserved
loop-start-preserved c =
    let found : LevelsLeft c.args.image.now.bytes.now c.args.image.now.frame c.next_level-level.result (c.next_level-level.result.branches + 1) (c.loop-start.at + 4) = let s = c.args.image.now.bytes.now in
    let small : Small s = c.args.image.now.in_range in
    left_next s c.args.image.now.frame c.requires.0 c.requires.1 c.loop-start.level c.loop-start.start c.loop-start.at c.loop-start.invariant c.loop-start-test.true small c.if-image-at-lt-LEVEL_START_BYTES.false (sym c.read32.ensures.0 ∙ c.if-read32-start.false) c.next_level-level.result c.next_level-level.ensures.0 c.next_level-level.ensures.1 in
    found

pub returns : goal.returns
returns c =
    sym (left_done c.args.image.now.bytes.now c.args.image.now.frame c.requires.0 c.requires.1 c.loop-start.level c.loop-start.start c.loop-start.at c.loop-start.invariant c.loop-start-test.false)
