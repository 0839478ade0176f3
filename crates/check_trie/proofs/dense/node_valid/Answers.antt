-- By the tests in their order; what continues is no more than the labels, so a sole label continues where anything does.
use mathlib.Core.Path.{◌≡◌, sym, ap, ◌∙◌}
use mathlib.Core.Bool.{Bool, true, not, ◌||◌}
use Prim.Native.Nat.{ℕ}
use lib.Dec.{ltb, eqb}
use Rattle.bits.specs.Bits.{rank}
use Rattle.check_trie.specs.DensePositions.{row_stray, row_none, row_root, row_kept, row_leaves}
use Rattle.check_trie.proofs.dense.node_valid.Goals as goal

pub returns-then-not-covered : goal.returns-then-not-covered
returns-then-not-covered c =
    let a = c.args in
    sym (row_stray a.root a.exact a.labels.now a.children.now (sym c.covered.ensures ∙ c.if-not-covered.true))

pub returns-then-not-some_set : goal.returns-then-not-some_set
returns-then-not-some_set c =
    let a = c.args in
    sym (row_none a.root a.exact a.labels.now a.children.now (sym c.some_set.ensures ∙ c.if-not-some_set.true))

pub returns-then-root : goal.returns-then-root
returns-then-root c =
    let a = c.args in
    let w = sym c.covered.ensures ∙ c.if-not-covered.false in
    let some : ltb 0 (rank a.labels.now 256) ≡ true = cc in
    rw c.if-root.true (sym (row_root a.labels.now a.children.now w some a.exact))

pub returns-then-exact-some_set : goal.returns-then-exact-some_set
returns-then-exact-some_set c =
    let a = c.args in
    let p = c.requires in
    let w = sym c.covered.ensures ∙ c.if-not-covered.false in
    let some : ltb 0 (rank a.labels.now 256) ≡ true = cc in
    let kept = ap (λ (t : Bool). a.exact || t) (sym c.some_set-2.ensures) ∙ c.if-exact-some_set.true in
    rw c.if-root.false (sym (row_kept a.labels.now a.children.now w some p.0 p.1 a.exact kept))

pub returns : goal.returns
returns c =
    let a = c.args in
    let w = sym c.covered.ensures ∙ c.if-not-covered.false in
    let some : ltb 0 (rank a.labels.now 256) ≡ true = cc in
    let ends = ap (λ (t : Bool). a.exact || t) (sym c.some_set-2.ensures) ∙ c.if-exact-some_set.false in
    rw c.if-root.false (ap (λ (k : ℕ). not (eqb k 1)) c.ones_of.ensures ∙ sym (row_leaves a.labels.now a.children.now w some a.exact ends))
