-- The loop: the words before `number` are judged; a word without candidates passes. The last word is judged behind it.
use mathlib.Core.Path.{◌≡◌, refl, sym, ap, ◌∙◌}
use mathlib.Core.Bool.{Bool, true, false}
use Prim.Native.Nat.{ℕ, zero, suc, ◌+◌, ◌*◌, ◌-◌, ◌/◌, ◌≤◌, ◌<◌}
use native.Mathlib.Omega.{arith}
use mir.Val.{Fits}
use mir.Syntax.{w64}
use Rattle.spec.specs.Bytes.{Bytes}
use Rattle.bits.proofs.PartLaws.{bits_room, lent_part}
use Rattle.image.specs.declared.Frame.{Frame}
use Rattle.image.specs.FrameOf.{within}
use Rattle.check_levels.specs.Bodies.{sl_body, sc_body, sb_body, bodies_sized}
use Rattle.check_levels.specs.Ranges.{all_from, from_none, from_end}
use Rattle.check_slots.specs.LevelStarts.{dense_leaf_count}
use Rattle.check_slots.specs.SparseWords.{RangeJudged, all_kept, starts_kept, starts_none}
use Rattle.check_slots.specs.SlotTests.{clear_at, sparse_test}
use Rattle.check_slots.proofs.sparse.sparse_clear.Goals.{else-starts-ne0-via-then-starts-ne0+else-not-word_clear, else-starts-ne0-via-else-starts-ne0}
use Rattle.check_slots.proofs.sparse.sparse_clear.Goals as goal

-- the entries from one on
abbrev left : Bytes → Frame → ℕ → Bool
left s f i = all_from (sparse_test s f) i (f.sparse.entries - i)

closer : (q m : ℕ) → q < m → m - (q + 1) < m - q
closer q m h = omega arith

next_word : (q : ℕ) → 64 * q + 64 ≡ 64 * (q + 1)
next_word q = omega arith

next_below : (q m : ℕ) → q < m → q + 1 ≤ m
next_below q m h = omega arith

-- a whole word before the last, and the last word, of n entries
before_last : (q n : ℕ) → q < (n - 1) / 64 → (64 * q + 64 ≤ n) × (64 * q + 64 < n)
before_last q n h = (omega arith, omega arith)

last_word : (n : ℕ) → 1 ≤ n → (64 * ((n - 1) / 64) < n) × (n ≤ 64 * ((n - 1) / 64) + 64)
last_word n h = (omega arith, omega arith)

next_fits : {n : ℕ} (q : ℕ) → q < (n - 1) / 64 → n < 4294967296 → Fits w64 (q + 1)
next_fits q h l = record { fits = omega arith }

some : (n : ℕ) → (n ≡ 0 → ⊥) → 1 ≤ n
some zero h = absurd (h refl)
some (suc n) h = omega arith

at_end : {q m : ℕ} → q ≤ m → m ≤ q → q ≡ m
at_end h l = omega arith

-- the numbers judged up to the end
judged : (f : ℕ → Bool) (i k n : ℕ) (r : Bool) → n ≤ k → RangeJudged f i k n r → r ≡ all_from f i (n - i)
judged f i k n true h j = sym (j.passed refl ∙ from_end f k n h)
judged f i k n false h j = sym (j.failed refl)

pub part-sl-requires : goal.part-sl-requires
part-sl-requires c =
    (within c.args.image.now.bytes.now c.args.image.now.frame c.requires.0.frame).sl

pub part-sb-requires : goal.part-sb-requires
part-sb-requires c =
    let a = c.args in
    rw c.bytes_for.ensures (within a.image.now.bytes.now a.image.now.frame c.requires.0.frame).sb

pub returns-then-entries-eq0 : goal.returns-then-entries-eq0
returns-then-entries-eq0 c =
    let a = c.args in
    sym (ap (all_from (sparse_test a.image.now.bytes.now a.image.now.frame) 0) c.if-entries-eq0.true ∙ from_none (sparse_test a.image.now.bytes.now a.image.now.frame) 0)

pub overflow_sub-last : goal.overflow_sub-last
overflow_sub-last c =
    some _ c.if-entries-eq0.false

pub loop-number-init : goal.loop-number-init
loop-number-init c =
    let a = c.args in
    let e : a.image.now.frame.sparse.entries ≡ a.image.now.frame.sparse.entries - 0 = omega arith in
    (ap (all_from (sparse_test a.image.now.bytes.now a.image.now.frame) 0) e, omega arith)

pub candidates-starts-requires : goal.candidates-starts-requires
candidates-starts-requires c =
    let a = c.args in
    let p = c.requires in
    let s : Bytes = a.image.now.bytes.now in
    let part2 = c.part-sb in
    let sb : part2.result.now ≡ sb_body s a.image.now.frame = lent_part s a.image.now.frame.sb part2.ensures c.bytes_for.ensures in
    let z = bodies_sized s a.image.now.frame p.0.frame in
    let r = bits_room a.image.now.frame.sparse.entries (sb_body s a.image.now.frame) z.sb in
    let t = before_last c.loop-number.number a.image.now.frame.sparse.entries c.loop-number-test.true in
    rw (c.part-sl.ensures, sb) (omega (arith, z.sl, t.0), omega (arith, t.1))

pub word_clear-requires : goal.word_clear-requires
word_clear-requires c =
    let a = c.args in
    let p = c.requires in
    let s : Bytes = a.image.now.bytes.now in
    let part2 = c.part-sb in
    let sb : part2.result.now ≡ sb_body s a.image.now.frame = lent_part s a.image.now.frame.sb part2.ensures c.bytes_for.ensures in
    let t = before_last c.loop-number.number a.image.now.frame.sparse.entries c.loop-number-test.true in
    (p.0, p.1, omega (arith, t.0), rw (c.part-sl.ensures, sb) at c.candidates-starts.ensures)

pub returns-then-not-word_clear : goal.returns-then-not-word_clear
returns-then-not-word_clear c =
    let l = c.loop-number in
    sym (l.invariant.0 ∙ c.word_clear.ensures.failed (c.if-not-word_clear.true))

pub loop-number-preserved : goal.loop-number-preserved
loop-number-preserved c =
    let a = c.args in
    let s : Bytes = a.image.now.bytes.now in
    let part2 = c.part-sb in
    let sb : part2.result.now ≡ sb_body s a.image.now.frame = lent_part s a.image.now.frame.sb part2.ensures c.bytes_for.ensures in
    let cs = rw (c.part-sl.ensures, sb) at c.candidates-starts.ensures in
    let l = c.loop-number in
    let e : 64 * l.number + 64 ≡ 64 * (l.number + 1) = next_word l.number in
    let passed : left s a.image.now.frame (64 * l.number) ≡ left s a.image.now.frame (64 * l.number + 64) = elim c.else-starts-ne0.branch [
      | else-starts-ne0-via-then-starts-ne0+else-not-word_clear w ↦ w.word_clear.ensures.passed w.if-not-word_clear.false
      | else-starts-ne0-via-else-starts-ne0 w ↦ starts_none (clear_at s a.image.now.frame 0) (sl_body s a.image.now.frame) (sc_body s a.image.now.frame) (sb_body s a.image.now.frame) a.image.now.frame.sparse.entries (dense_leaf_count a.image.now.frame) l.number _ cs w.if-starts-ne0.false
    ] in
    (l.invariant.0 ∙ passed ∙ ap (left s a.image.now.frame) e, next_below l.number _ c.loop-number-test.true)

pub last_several-requires : goal.last_several-requires
last_several-requires c =
    let a = c.args in
    let p = c.requires in
    let s : Bytes = a.image.now.bytes.now in
    let part2 = c.part-sb in
    let sb : part2.result.now ≡ sb_body s a.image.now.frame = lent_part s a.image.now.frame.sb part2.ensures c.bytes_for.ensures in
    let z = bodies_sized s a.image.now.frame p.0.frame in
    let r = bits_room a.image.now.frame.sparse.entries (sb_body s a.image.now.frame) z.sb in
    let t = last_word a.image.now.frame.sparse.entries (some _ c.if-entries-eq0.false) in
    rw sb (omega (arith, t.0), omega (arith, t.1, z.sb))

pub word_clear-requires-2 : goal.word_clear-requires-2
word_clear-requires-2 c =
    let a = c.args in
    let p = c.requires in
    let s : Bytes = a.image.now.bytes.now in
    let part2 = c.part-sb in
    let sb : part2.result.now ≡ sb_body s a.image.now.frame = lent_part s a.image.now.frame.sb part2.ensures c.bytes_for.ensures in
    let t = last_word a.image.now.frame.sparse.entries (some _ c.if-entries-eq0.false) in
    (p.0, p.1, t.0, starts_kept (sl_body s a.image.now.frame) (sb_body s a.image.now.frame) ((a.image.now.frame.sparse.entries - 1) / 64) _ c.last_several.result (rw sb at c.last_several.ensures) (all_kept (sl_body s a.image.now.frame) ((a.image.now.frame.sparse.entries - 1) / 64) c.last_several.result c.last_several.ensures.few))

pub returns : goal.returns
returns c =
    let a = c.args in
    let s : Bytes = a.image.now.bytes.now in
    let n : ℕ = a.image.now.frame.sparse.entries in
    let l = c.loop-number in
    let t = last_word n (some _ c.if-entries-eq0.false) in
    let e : l.number ≡ (n - 1) / 64 = at_end l.invariant.1 c.loop-number-test.false in
    judged (sparse_test s a.image.now.frame) (64 * ((n - 1) / 64)) (64 * ((n - 1) / 64) + 64) n c.word_clear-2.result t.1 c.word_clear-2.ensures ∙ sym (l.invariant.0 ∙ ap (λ (q : ℕ). left s a.image.now.frame (64 * q)) e)
