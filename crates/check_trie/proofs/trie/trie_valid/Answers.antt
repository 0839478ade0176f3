-- Where S-LOUDS passes, the other tests are those of number 14.
use mathlib.Core.Path.{◌≡◌, sym, ap, ap₂, ◌∙◌}
use mathlib.Core.Bool.{Bool, true, false, ◌&&◌}
use Rattle.check_levels.specs.BodyTests.{louds_test, dense_test, sparse_test, louds_valid, louds_fails, louds_passes}
use Rattle.image.specs.FrameOf.{frame_parts}
use Rattle.check_levels.specs.BitTests.{counts_valid}
use Rattle.check_trie.proofs.trie.trie_valid.Goals as goal

pub louds_valid-requires : goal.louds_valid-requires
louds_valid-requires c =
    c.requires.starts

pub returns-then-not-louds_valid : goal.returns-then-not-louds_valid
returns-then-not-louds_valid c =
    let a = c.args in
    sym (louds_fails a.image.now.bytes.now a.image.now.frame c.args.image.now.framed (sym c.louds_valid.ensures ∙ c.if-not-louds_valid.true))

pub returns-then-not-dense_part_valid : goal.returns-then-not-dense_part_valid
returns-then-not-dense_part_valid c =
    let s = c.args.image.now.bytes.now in
    let f = c.args.image.now.frame in
    let passed : louds_test s f ≡ true = sym c.louds_valid.ensures ∙ c.if-not-louds_valid.false in
    let dense : dense_test s f ≡ false = sym c.dense_part_valid.ensures ∙ c.if-not-dense_part_valid.true in
    sym (louds_passes s f c.args.image.now.framed passed ∙ ap (λ (t : Bool). (t && sparse_test s f) && counts_valid (frame_parts s f)) dense)

pub returns-then-not-sparse_part_valid : goal.returns-then-not-sparse_part_valid
returns-then-not-sparse_part_valid c =
    let s = c.args.image.now.bytes.now in
    let f = c.args.image.now.frame in
    let passed : louds_test s f ≡ true = sym c.louds_valid.ensures ∙ c.if-not-louds_valid.false in
    let dense : dense_test s f ≡ true = sym c.dense_part_valid.ensures ∙ c.if-not-dense_part_valid.false in
    let sparse : sparse_test s f ≡ false = sym c.sparse_part_valid.ensures ∙ c.if-not-sparse_part_valid.true in
    sym (louds_passes s f c.args.image.now.framed passed ∙ ap₂ (λ (t u : Bool). (t && u) && counts_valid (frame_parts s f)) dense sparse)

pub counts_valid-requires : goal.counts_valid-requires
counts_valid-requires c =
    let passed : louds_test c.args.image.now.bytes.now c.args.image.now.frame ≡ true = sym c.louds_valid.ensures ∙ c.if-not-louds_valid.false in
    (louds_valid c.args.image.now.bytes.now c.args.image.now.frame c.args.image.now.framed passed, c.requires)

pub returns : goal.returns
returns c =
    let s = c.args.image.now.bytes.now in
    let f = c.args.image.now.frame in
    let passed : louds_test s f ≡ true = sym c.louds_valid.ensures ∙ c.if-not-louds_valid.false in
    let dense : dense_test s f ≡ true = sym c.dense_part_valid.ensures ∙ c.if-not-dense_part_valid.false in
    let sparse : sparse_test s f ≡ true = sym c.sparse_part_valid.ensures ∙ c.if-not-sparse_part_valid.false in
    c.counts_valid.ensures ∙ sym (louds_passes s f c.args.image.now.framed passed ∙ ap₂ (λ (t u : Bool). (t && u) && counts_valid (frame_parts s f)) dense sparse)
