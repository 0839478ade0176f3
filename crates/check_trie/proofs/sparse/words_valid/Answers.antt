-- The loop: the words before q are judged.
use mathlib.Core.Path.{◌≡◌, refl, sym, ap, ◌∙◌}
use Prim.Native.Nat.{◌*◌, ◌-◌}
use native.Mathlib.Omega.{arith}
use Rattle.check_levels.specs.Ranges.{from_none}
use Rattle.check_trie.specs.WordEntries.{later_entry_valid, range_valid, word_fails, word_passes}
use Rattle.check_trie.proofs.sparse.words_valid.Goals as goal

pub loop-q-init : goal.loop-q-init
loop-q-init c =
    (omega arith, omega arith, refl)

pub returns-then-not-word_valid : goal.returns-then-not-word_valid
returns-then-not-word_valid c =
    let a = c.args in
    let l = c.loop-q in
    sym (l.invariant.2 ∙ word_fails a.bodies.now.labels.now a.bodies.now.children.now a.bodies.now.starts.now l.q a.to c.word_valid.result c.loop-q-test.true c.word_valid.ensures (c.if-not-word_valid.true))

pub loop-q-preserved : goal.loop-q-preserved
loop-q-preserved c =
    let a = c.args in
    let l = c.loop-q in
    (omega arith, omega arith, l.invariant.2 ∙ word_passes a.bodies.now.labels.now a.bodies.now.children.now a.bodies.now.starts.now l.q a.to c.word_valid.result c.loop-q-test.true c.word_valid.ensures (c.if-not-word_valid.false))

pub returns : goal.returns
returns c =
    let a = c.args in
    let l = c.loop-q in
    let e : 64 * (a.to - l.q) ≡ 0 = omega arith in
    sym (l.invariant.2 ∙ ap (range_valid a.bodies.now.labels.now a.bodies.now.children.now a.bodies.now.starts.now (64 * l.q)) e ∙ from_none (later_entry_valid a.bodies.now.labels.now a.bodies.now.children.now a.bodies.now.starts.now) (64 * l.q))
