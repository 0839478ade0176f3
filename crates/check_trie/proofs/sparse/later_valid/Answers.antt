-- The rest of the first word, the whole words behind it, and what is left of the last one.
use mathlib.Core.Path.{◌≡◌}
use Prim.Native.Nat.{ℕ, ◌*◌, ◌/◌, ◌≤◌, ◌<◌}
use native.Mathlib.Omega.{arith}
use Rattle.check_trie.specs.WordEntries.{later_few, later_words}
use Rattle.check_trie.proofs.sparse.later_valid.Goals as goal

-- whole words behind the first
words : (n : ℕ) → (n / 64 ≡ 0 → ⊥) → (0 < n / 64) × (64 * (n / 64) ≤ n)
words n h = (omega arith, omega arith)

pub returns-then-words-eq0 : goal.returns-then-words-eq0
returns-then-words-eq0 c =
    let a = c.args in
    let e = c.last_valid-end in
    later_few a.bodies.now.labels.now a.bodies.now.children.now a.bodies.now.starts.now a.last.0 e.result c.requires.0 e.ensures c.range_valid.result c.range_valid.ensures

pub returns : goal.returns
returns c =
    let range-valid2 = c.range_valid-first in
    let a = c.args in
    let e = c.last_valid-end in
    let w = words a.last.0 c.if-words-eq0.false in
    later_words a.bodies.now.labels.now a.bodies.now.children.now a.bodies.now.starts.now a.last.0 e.result c.requires.0 e.ensures (a.last.0 / 64) range-valid2.result c.words_valid-middle.result c.range_valid-rest.result
    w.0 w.1 range-valid2.ensures c.words_valid-middle.ensures c.range_valid-rest.ensures
