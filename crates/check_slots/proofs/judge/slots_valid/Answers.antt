-- Without leaves or without bits nothing is set; else the three tests are those of number 16.
use mathlib.Core.Path.{sym, ◌∙◌}
use Rattle.check_levels.specs.BodyTests.{some_nodes}
use Rattle.check_slots.specs.SlotTests.{no_leaves}
use Rattle.check_slots.proofs.NumberTests.{no_bits, dense_fails, sparse_fails, levels_decide}
use Rattle.check_slots.proofs.judge.slots_valid.Goals as goal

pub returns-then-f-eq0 : goal.returns-then-f-eq0
returns-then-f-eq0 c =
    let a = c.args in
    sym (no_leaves a.image.now.bytes.now a.image.now.frame c.requires c.if-f-eq0.true)

pub returns-then-f-eq0-2 : goal.returns-then-f-eq0-2
returns-then-f-eq0-2 c =
    let a = c.args in
    sym (no_bits a.image.now.bytes.now a.image.now.frame c.requires (some_nodes a.image.now.frame.leaves c.if-f-eq0.false) c.if-f-eq0-2.true)

pub dense_clear-requires : goal.dense_clear-requires
dense_clear-requires c =
    (c.requires, some_nodes c.args.image.now.frame.leaves c.if-f-eq0.false)

pub returns-then-not-dense_clear : goal.returns-then-not-dense_clear
returns-then-not-dense_clear c =
    let a = c.args in
    sym (dense_fails a.image.now.bytes.now a.image.now.frame c.requires (some_nodes a.image.now.frame.leaves c.if-f-eq0.false) (sym c.dense_clear.ensures ∙ c.if-not-dense_clear.true))

pub sparse_clear-requires : goal.sparse_clear-requires
sparse_clear-requires c =
    (c.requires, some_nodes c.args.image.now.frame.leaves c.if-f-eq0.false)

pub returns-then-not-sparse_clear : goal.returns-then-not-sparse_clear
returns-then-not-sparse_clear c =
    let a = c.args in
    let d = sym c.dense_clear.ensures ∙ c.if-not-dense_clear.false in
    sym (sparse_fails a.image.now.bytes.now a.image.now.frame c.requires (some_nodes a.image.now.frame.leaves c.if-f-eq0.false) d (sym c.sparse_clear.ensures ∙ c.if-not-sparse_clear.true))

pub last_levels_clear-requires : goal.last_levels_clear-requires
last_levels_clear-requires c =
    (c.requires, some_nodes c.args.image.now.frame.leaves c.if-f-eq0.false)

pub returns : goal.returns
returns c =
    let a = c.args in
    let d = sym c.dense_clear.ensures ∙ c.if-not-dense_clear.false in
    let e = sym c.sparse_clear.ensures ∙ c.if-not-sparse_clear.false in
    c.last_levels_clear.ensures ∙ sym (levels_decide a.image.now.bytes.now a.image.now.frame c.requires (some_nodes a.image.now.frame.leaves c.if-f-eq0.false) d e)
