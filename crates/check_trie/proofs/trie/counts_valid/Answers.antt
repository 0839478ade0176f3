-- The sums of the counts are those of the frame's totals and the entries that continue; where they hold, the levels decide.
use mathlib.Core.Path.{◌≡◌, sym, ap, ◌∙◌}
use Prim.Native.Nat.{ℕ, ◌+◌, ◌<◌}
use native.Mathlib.Omega.{arith}
use mir.Val.{Fits}
use mir.Syntax.{w64}
use Rattle.check_levels.specs.Levels.{node_count}
use Rattle.check_levels.specs.BodyTests.{sums_test, counts_few, counts_none, sums_fail, sums_pass, some_nodes}
use Rattle.check_trie.proofs.trie.counts_valid.Goals as goal

nodes_fit : {d n : ℕ} → d < 4294967296 → n < 4294967296 → Fits w64 (d + n)
nodes_fit h l = record { fits = omega arith }

children_fit : (a : ℕ) {b c : ℕ} → a + b < 1103806595072 → c ≡ b → Fits w64 (a + c)
children_fit a h e = record { fits = omega arith }

pub overflow_add-f : goal.overflow_add-f
overflow_add-f c =
    let o = c.requires.0.frame in nodes_fit o.dense o.sparse

pub returns-then-f-eq0 : goal.returns-then-f-eq0
returns-then-f-eq0 c =
    sym (counts_none c.args.image.now.bytes.now c.args.image.now.frame c.requires.0.frame c.if-f-eq0.true)

pub overflow_add-children : goal.overflow_add-children
overflow_add-children c =
    let a = c.args in
    children_fit a.image.now.frame.totals.children (counts_few a.image.now.bytes.now a.image.now.frame c.requires.0.frame).children c.requires.1.children

pub sums_valid-requires : goal.sums_valid-requires
sums_valid-requires c =
    let a = c.args in
    rw c.requires.1.children (counts_few a.image.now.bytes.now a.image.now.frame c.requires.0.frame)

pub returns-then-not-sums_valid : goal.returns-then-not-sums_valid
returns-then-not-sums_valid c =
    let a = c.args in
    let e = ap (λ (k : ℕ). sums_test a.image.now.frame (a.image.now.frame.totals.children + k)) c.requires.1.children in
    sym (sums_fail a.image.now.bytes.now a.image.now.frame c.requires.0.frame (some_nodes (node_count a.image.now.frame) c.if-f-eq0.false) (sym (c.sums_valid.ensures ∙ e) ∙ c.if-not-sums_valid.true))

pub levels_valid-requires : goal.levels_valid-requires
levels_valid-requires c =
    (c.requires.0, some_nodes (node_count c.args.image.now.frame) c.if-f-eq0.false, c.requires.1.agrees)

pub returns : goal.returns
returns c =
    let a = c.args in
    let e = ap (λ (k : ℕ). sums_test a.image.now.frame (a.image.now.frame.totals.children + k)) c.requires.1.children in
    c.levels_valid.ensures
    ∙ sym (sums_pass a.image.now.bytes.now a.image.now.frame c.requires.0.frame (some_nodes (node_count a.image.now.frame) c.if-f-eq0.false) (sym (c.sums_valid.ensures ∙ e) ∙ c.if-not-sums_valid.false))
