-- The first entry, which may be in the root, goes by itself.
use mathlib.Core.Path.{◌≡◌, sym, ap, ◌∙◌}
use Prim.Native.Nat.{ℕ, ◌-◌, ◌<◌}
use mathlib.Core.Bool.{true, ◌||◌}
use native.Mathlib.Omega.{arith}
use lib.Dec.{eqb}
use Rattle.check_levels.specs.EntryPositions.{entries_from, entries_last, sparse_none, sparse_some}
use Rattle.check_trie.specs.WordEntries.{first_later}
use Rattle.check_trie.proofs.sparse.sparse_valid.Goals as goal

one : {n : ℕ} → n ≡ 1 → (0 < n) × (n - 1 - 0 ≡ 0)
one e = (omega arith, omega arith)

several : (n : ℕ) → (n ≡ 0 → ⊥) → (n ≡ 1 → ⊥) → (0 < n) × (1 < n)
several n h l = (omega arith, omega arith)

pub returns-then-n-eq0 : goal.returns-then-n-eq0
returns-then-n-eq0 c =
    let a = c.args in
    let z = c.requires in
    sym (sparse_none a.bodies.now.labels.now a.bodies.now.children.now a.bodies.now.starts.now a.n z.labels z.children z.starts a.root c.if-n-eq0.true)

pub returns-then-n-eq1 : goal.returns-then-n-eq1
returns-then-n-eq1 c =
    let a = c.args in
    let z = c.requires in
    let k = one c.if-n-eq1.true in
    ap (λ (k : ℕ). eqb k 1 || a.root) c.bit_at.ensures
    ∙ sym (sparse_some a.bodies.now.labels.now a.bodies.now.children.now a.bodies.now.starts.now a.n z.labels z.children z.starts a.root k.0 ∙ ap (entries_from a.bodies.now.labels.now a.bodies.now.children.now a.bodies.now.starts.now a.root true 0) k.1 ∙ entries_last a.bodies.now.labels.now a.bodies.now.children.now a.bodies.now.starts.now a.root true 0)

pub returns : goal.returns
returns c =
    let bit-at2 = c.bit_at-begins in
    let a = c.args in
    let z = c.requires in
    let k = several a.n c.if-n-eq0.false c.if-n-eq1.false in
    first_later a.bodies.now.labels.now a.bodies.now.children.now a.bodies.now.starts.now a.root c.entry_valid-valid.result c.later_valid.result a.n bit-at2.result k.1 bit-at2.ensures c.entry_valid-valid.ensures c.later_valid.ensures
    ∙ sym (sparse_some a.bodies.now.labels.now a.bodies.now.children.now a.bodies.now.starts.now a.n z.labels z.children z.starts a.root k.0)
