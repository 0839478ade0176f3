-- The stages in their order: each test that fails gives its number, and where all pass the verdict is 0.
use mathlib.Core.Path.{◌≡◌, refl, sym, ap, ap₂, ◌∙◌}
use mathlib.Core.Bool.{Bool, true, false, ◌&&◌}
use Rattle.std.proofs.Common.{◌⊎◌, inl, inr, true≢false}
use Rattle.spec.specs.Bytes.{Bytes}
use Rattle.spec.specs.Frame.{parts}
use Rattle.spec.specs.Trie.{builders_trie}
use Rattle.spec.specs.Check.{spare_clear, ranks_valid, starts_valid, tables_valid}
use Rattle.theory.specs.Demands.{Passes13, Passes14, Passes15, spare_set, no_trie, table_wrong, slot_set}
use Rattle.theory.proofs.CheckStages.{passes_verdict}
use Rattle.image.specs.FrameOf.{FrameOf, frame_parts, frame_bodies, frame_named}
use Rattle.image.specs.declared.Frame.{Frame}
use Rattle.check_tables.specs.Tables.{dense_agrees, sparse_agrees, tables_are}
use Rattle.check_frame.specs.FrameLaws.{frame_passes}
use Rattle.check_slots.specs.Passed.{PassedTo15}
use Rattle.check_image.specs.Answers.{refuses}
use Rattle.image.specs.declared.refusals.Refusal.TheVariants.{SpareBitSet, TrieWrong, TableWrong, SlotWrong}
use Rattle.check_image.proofs.judge.Goals as goal
use Rattle.check_image.proofs.judge.Goals.{then-read, else-read}

-- the two answers joined
both : (d t v : Bool) → ((d ≡ true) × (v ≡ t)) ⊎ ((d ≡ false) × (v ≡ d)) → (d && t) ≡ v
both true t v (inl h) = sym h.1
both true t v (inr h) = absurd (true≢false h.0)
both false t v (inl h) = absurd (true≢false (sym h.0))
both false t v (inr h) = sym h.1

module _ (s : Bytes) (f : Frame) (o : FrameOf s f) where
  -- the stages up to 13 and 14, by the answers of the tests
  to_13 : {a : Bool} → a ≡ spare_clear (parts s (frame_named s f)) (frame_named s f) → a ≡ true → Passes13 s (frame_bodies s f)
  to_13 e t = record { before = frame_passes s f o; spare = sym e ∙ t }

  to_14 : {a b : Bool} → a ≡ spare_clear (parts s (frame_named s f)) (frame_named s f) → a ≡ true → b ≡ builders_trie (frame_parts s f) → b ≡ true → Passes14 s (frame_bodies s f)
  to_14 e t d u = record { before = to_13 e t; trie = ap builders_trie o.parts_are ∙ sym d ∙ u }

  -- the verdict on the ranks and samples, by what was found where the ones were counted
  ranks_found : {d t : Bool} → d ≡ dense_agrees s f → t ≡ sparse_agrees s f → ranks_valid (parts s (frame_named s f)) (frame_named s f) ≡ (d && t)
  ranks_found d t = tables_are s f o ∙ sym (ap₂ ◌&&◌ d t)

  -- the verdict on all tables, by those on ranks and samples and on LV
  tables : {a b : Bool} → ranks_valid (parts s (frame_named s f)) (frame_named s f) ≡ a → starts_valid (parts s (frame_named s f)) (frame_bodies s f) ≡ b → tables_valid (parts s (frame_named s f)) (frame_bodies s f) ≡ (a && b)
  unfolding tables_valid
  tables a b = ap₂ ◌&&◌ a b

  -- passed up to the ranks of number 15, and up to all of it
  to_ranks : {a b v : Bool} → a ≡ spare_clear (parts s (frame_named s f)) (frame_named s f) → a ≡ true → b ≡ builders_trie (frame_parts s f) → b ≡ true → ranks_valid (parts s (frame_named s f)) (frame_named s f) ≡ v → v ≡ true → PassedTo15 s f
  to_ranks e t d u r v = record { frame = o; trie = (to_14 e t d u).trie; ranks = r ∙ v }

  to_15 : {a b v w : Bool} → a ≡ spare_clear (parts s (frame_named s f)) (frame_named s f) → a ≡ true → b ≡ builders_trie (frame_parts s f) → b ≡ true → ranks_valid (parts s (frame_named s f)) (frame_named s f) ≡ v → v ≡ true
      → w ≡ starts_valid (parts s (frame_named s f)) (frame_bodies s f) → w ≡ true → Passes15 s (frame_bodies s f)
  to_15 e t d u r v q w = record { before = to_14 e t d u; tables = tables (r ∙ v) (sym q ∙ w) }

pub returns-then-not-spare_clear : goal.returns-then-not-spare_clear
returns-then-not-spare_clear c =
    let s = c.args.read.now.image.bytes.now in
    let f = c.args.read.now.image.frame in
    refuses SpareBitSet (spare_set (frame_bodies s f) (frame_passes s f c.args.read.now.image.framed) (sym c.spare_clear.ensures ∙ c.if-not-spare_clear.true))

pub returns-then-not-trie_valid : goal.returns-then-not-trie_valid
returns-then-not-trie_valid c =
    let s = c.args.read.now.image.bytes.now in
    let f = c.args.read.now.image.frame in
    refuses TrieWrong (no_trie (frame_bodies s f) (to_13 s f c.args.read.now.image.framed c.spare_clear.ensures c.if-not-spare_clear.false) (ap builders_trie c.args.read.now.image.framed.parts_are ∙ sym c.trie_valid.ensures ∙ c.if-not-trie_valid.true))

pub returns-then-not-counts : goal.returns-then-not-counts
returns-then-not-counts c =
    let s = c.args.read.now.image.bytes.now in
    let f = c.args.read.now.image.frame in
    let r = ranks_found s f c.args.read.now.image.framed c.args.read.now.judged c.count_sparse-counts.ensures.agrees ∙ both c.args.read.now.agrees c.count_sparse-counts.result.agrees c.if-read.value (elim c.if-read.branch [ then-read w ↦ inl (w.if-read.true, w.value-is) | else-read w ↦ inr (w.if-read.false, w.value-is) ]) in
    refuses TableWrong (table_wrong (frame_bodies s f) (to_14 s f c.args.read.now.image.framed c.spare_clear.ensures c.if-not-spare_clear.false c.trie_valid.ensures c.if-not-trie_valid.false) (tables s f c.args.read.now.image.framed (r ∙ c.if-not-counts.true) refl))

pub starts_valid-requires : goal.starts_valid-requires
starts_valid-requires c =
    let s = c.args.read.now.image.bytes.now in
    let f = c.args.read.now.image.frame in
    let r = ranks_found s f c.args.read.now.image.framed c.args.read.now.judged c.count_sparse-counts.ensures.agrees ∙ both c.args.read.now.agrees c.count_sparse-counts.result.agrees c.if-read.value (elim c.if-read.branch [ then-read w ↦ inl (w.if-read.true, w.value-is) | else-read w ↦ inr (w.if-read.false, w.value-is) ]) in
    to_ranks s f c.args.read.now.image.framed c.spare_clear.ensures c.if-not-spare_clear.false c.trie_valid.ensures c.if-not-trie_valid.false r c.if-not-counts.false

pub returns-then-not-starts_valid : goal.returns-then-not-starts_valid
returns-then-not-starts_valid c =
    let s = c.args.read.now.image.bytes.now in
    let f = c.args.read.now.image.frame in
    let r = ranks_found s f c.args.read.now.image.framed c.args.read.now.judged c.count_sparse-counts.ensures.agrees ∙ both c.args.read.now.agrees c.count_sparse-counts.result.agrees c.if-read.value (elim c.if-read.branch [ then-read w ↦ inl (w.if-read.true, w.value-is) | else-read w ↦ inr (w.if-read.false, w.value-is) ]) in
    refuses TableWrong (table_wrong (frame_bodies s f) (to_14 s f c.args.read.now.image.framed c.spare_clear.ensures c.if-not-spare_clear.false c.trie_valid.ensures c.if-not-trie_valid.false) (tables s f c.args.read.now.image.framed (r ∙ c.if-not-counts.false) (sym c.starts_valid.ensures ∙ c.if-not-starts_valid.true)))

pub slots_valid-requires : goal.slots_valid-requires
slots_valid-requires c =
    let s = c.args.read.now.image.bytes.now in
    let f = c.args.read.now.image.frame in
    let r = ranks_found s f c.args.read.now.image.framed c.args.read.now.judged c.count_sparse-counts.ensures.agrees ∙ both c.args.read.now.agrees c.count_sparse-counts.result.agrees c.if-read.value (elim c.if-read.branch [ then-read w ↦ inl (w.if-read.true, w.value-is) | else-read w ↦ inr (w.if-read.false, w.value-is) ]) in
    to_ranks s f c.args.read.now.image.framed c.spare_clear.ensures c.if-not-spare_clear.false c.trie_valid.ensures c.if-not-trie_valid.false r c.if-not-counts.false

pub returns-then-not-slots_valid : goal.returns-then-not-slots_valid
returns-then-not-slots_valid c =
    let s = c.args.read.now.image.bytes.now in
    let f = c.args.read.now.image.frame in
    let r = ranks_found s f c.args.read.now.image.framed c.args.read.now.judged c.count_sparse-counts.ensures.agrees ∙ both c.args.read.now.agrees c.count_sparse-counts.result.agrees c.if-read.value (elim c.if-read.branch [ then-read w ↦ inl (w.if-read.true, w.value-is) | else-read w ↦ inr (w.if-read.false, w.value-is) ]) in
    refuses SlotWrong (slot_set (frame_bodies s f) (to_15 s f c.args.read.now.image.framed c.spare_clear.ensures c.if-not-spare_clear.false c.trie_valid.ensures c.if-not-trie_valid.false r c.if-not-counts.false c.starts_valid.ensures c.if-not-starts_valid.false) (sym c.slots_valid.ensures ∙ c.if-not-slots_valid.true))

pub returns : goal.returns
returns c =
    let s = c.args.read.now.image.bytes.now in
    let f = c.args.read.now.image.frame in
    let r = ranks_found s f c.args.read.now.image.framed c.args.read.now.judged c.count_sparse-counts.ensures.agrees ∙ both c.args.read.now.agrees c.count_sparse-counts.result.agrees c.if-read.value (elim c.if-read.branch [ then-read w ↦ inl (w.if-read.true, w.value-is) | else-read w ↦ inr (w.if-read.false, w.value-is) ]) in
    passes_verdict s (frame_bodies s f) (record { before = to_15 s f c.args.read.now.image.framed c.spare_clear.ensures c.if-not-spare_clear.false c.trie_valid.ensures c.if-not-trie_valid.false r c.if-not-counts.false c.starts_valid.ensures c.if-not-starts_valid.false; slots = sym c.slots_valid.ensures ∙ c.if-not-slots_valid.false })
