-- The loop: the first `depth` levels have `end` nodes, and a level at or before that node is known.
use mathlib.Core.Path.{◌≡◌, refl, sym, ap, ◌∙◌}
use Prim.Native.Nat.{ℕ, ◌+◌, ◌-◌, ◌*◌, ◌≤◌, ◌<◌}
use native.Mathlib.Omega.{arith}
use Rattle.std.specs.Prelude.{cond, eqb, leb}
use Rattle.std.proofs.Common.{le-leb, eq-eqb, ne_eqb}
use Rattle.std.proofs.lemmas.Bool.{lt-leb}
use mir.Val.{Fits}
use mir.Syntax.{w64}
use Rattle.spec.specs.Bytes.{Bytes}
use Rattle.image.specs.declared.Frame.{Frame}
use Rattle.check_levels.specs.Bodies.{dc_body, sc_body, sb_body}
use Rattle.check_levels.specs.NodeBranches.{branches_le}
use Rattle.check_levels.specs.LevelTests.{EndsTo, ends_first, ends_next, ends_level_64, ends_stuck, ends_over, ends_last}
use Rattle.check_levels.specs.Levels.{node_count, branches_before, level_root}
use Rattle.check_levels.proofs.judge.levels_valid.Goals.{then-depth-f, else-depth-f, then-depth-f-2, else-depth-f-2}
use Rattle.check_levels.proofs.judge.levels_valid.Goals as goal

-- what is known of the levels that were passed
abbrev Passed : Bytes → Frame → ℕ → ℕ → ℕ → Type 0
Passed s f = EndsTo (branches_before s f) (node_count f) f.dense.levels f.dense.nodes

nodes_fit : {d n : ℕ} → d < 4294967296 → n < 4294967296 → Fits w64 (d + n)
nodes_fit h l = record { fits = omega arith }

branches_fit : {b k d e : ℕ} → b ≡ k → k ≤ 256 * d + e → d < 4294967296 → e < 4294967296 → Fits w64 (b + 1)
branches_fit a h l m = record { fits = omega arith }

depth_fits : {d : ℕ} → d ≤ 64 → Fits w64 (d + 1)
depth_fits h = record { fits = omega arith }

some : {n : ℕ} → 0 < n → 1 ≤ n
some h = omega arith

at_64 : {d : ℕ} → d ≡ 64 → 64 ≤ d
at_64 e = omega arith

closer : {e k n : ℕ} → e < k → k ≤ n → e < n → n - k < n - e
closer h l g = omega arith

behind : {n e k : ℕ} → n ≡ e → e < k → n ≤ k
behind a h = omega arith

pub overflow_add-nodes : goal.overflow_add-nodes
overflow_add-nodes c =
    let o = c.requires.0.frame in nodes_fit o.dense o.sparse

pub loop-end-init : goal.loop-end-init
loop-end-init c =
    let a = c.args in
    let p = c.requires in (
      ends_first (branches_before a.image.now.bytes.now a.image.now.frame) (node_count a.image.now.frame) a.image.now.frame.dense.levels a.image.now.frame.dense.nodes (some p.1),
      level_root a.image.now.bytes.now a.image.now.frame p.0 _ refl refl refl,
      omega arith,
    )

pub returns-then-depth-eq-MAX_LEVELS : goal.returns-then-depth-eq-MAX_LEVELS
returns-then-depth-eq-MAX_LEVELS c =
    let a = c.args in
    let l = c.loop-end in
    sym (ends_level_64 (branches_before a.image.now.bytes.now a.image.now.frame) (node_count a.image.now.frame) a.image.now.frame.dense.levels a.image.now.frame.dense.nodes l.depth l.end l.above _ l.invariant.0 refl c.loop-end-test.true (at_64 c.if-depth-eq-MAX_LEVELS.true))

pub next_level-level-requires : goal.next_level-level-requires
next_level-level-requires c =
    let l = c.loop-end in
    let p = c.requires in
    (p.0, p.2, l.invariant.1, l.invariant.2, c.loop-end-test.true)

pub overflow_add-next : goal.overflow_add-next
overflow_add-next c =
    let a = c.args in
    let o = c.requires.0.frame in
    let s : Bytes = a.image.now.bytes.now in
    let r = c.next_level-level in
    branches_fit r.ensures.0.branches (branches_le a.image.now.frame.dense.nodes a.image.now.frame.sparse.entries (dc_body s a.image.now.frame) (sc_body s a.image.now.frame) (sb_body s a.image.now.frame) r.result.node.0) o.dense o.entries

pub returns-then-next-end : goal.returns-then-next-end
returns-then-next-end c =
    let a = c.args in
    let l = c.loop-end in
    let deep : l.depth < 64 = omega (arith, l.invariant.0.most) in
    let r = c.next_level-level in
    let k = r.ensures.0.branches ∙ ap (branches_before a.image.now.bytes.now a.image.now.frame) r.ensures.1 in
    sym (ends_stuck (branches_before a.image.now.bytes.now a.image.now.frame) (node_count a.image.now.frame) a.image.now.frame.dense.levels a.image.now.frame.dense.nodes l.depth l.end l.above r.result.branches l.invariant.0 k c.loop-end-test.true deep c.if-next-end.true)

pub returns-then-nodes-next : goal.returns-then-nodes-next
returns-then-nodes-next c =
    let a = c.args in
    let l = c.loop-end in
    let deep : l.depth < 64 = omega (arith, l.invariant.0.most) in
    let r = c.next_level-level in
    let k = r.ensures.0.branches ∙ ap (branches_before a.image.now.bytes.now a.image.now.frame) r.ensures.1 in
    sym (ends_over (branches_before a.image.now.bytes.now a.image.now.frame) (node_count a.image.now.frame) a.image.now.frame.dense.levels a.image.now.frame.dense.nodes l.depth l.end l.above r.result.branches l.invariant.0 k c.loop-end-test.true deep c.if-nodes-next.true)

pub overflow_add-depth : goal.overflow_add-depth
overflow_add-depth c =
    depth_fits c.loop-end.invariant.0.most

pub loop-end-smaller : goal.loop-end-smaller
loop-end-smaller c =
    closer c.if-next-end.false c.if-nodes-next.false c.loop-end-test.true

pub loop-end-preserved : goal.loop-end-preserved
loop-end-preserved c =
    let if2 = c.if-next-end in
    let a = c.args in
    let l = c.loop-end in
    let deep : l.depth < 64 = omega (arith, l.invariant.0.most) in
    let r = c.next_level-level in
    let k = r.ensures.0.branches ∙ ap (branches_before a.image.now.bytes.now a.image.now.frame) r.ensures.1 in
    let next = ends_next (branches_before a.image.now.bytes.now a.image.now.frame) (node_count a.image.now.frame) a.image.now.frame.dense.levels a.image.now.frame.dense.nodes l.depth l.end l.above r.result.branches l.invariant.0 k c.loop-end-test.true deep if2.false c.if-nodes-next.false in
    let above : c.if-depth-f.above ≡ cond (eqb l.depth a.image.now.frame.dense.levels) l.end l.above = elim c.if-depth-f.branch [ then-depth-f w ↦ rw (eq-eqb l.depth a.image.now.frame.dense.levels w.if-depth-f.true) w.above-is | else-depth-f w ↦ rw (ne_eqb l.depth a.image.now.frame.dense.levels w.if-depth-f.false) w.above-is ] in
    (rw above next, r.ensures.0, behind r.ensures.1 if2.false)

pub returns : goal.returns
returns c =
    let a = c.args in
    let l = c.loop-end in
    let last : c.if-depth-f-2.last ≡ cond (leb l.depth a.image.now.frame.dense.levels) l.end l.above = elim c.if-depth-f-2.branch [ then-depth-f-2 w ↦ rw (le-leb l.depth a.image.now.frame.dense.levels w.if-depth-f-2.true) w.last-is | else-depth-f-2 w ↦ rw (lt-leb l.depth a.image.now.frame.dense.levels w.if-depth-f-2.false) w.last-is ] in
    rw last (sym (ends_last (branches_before a.image.now.bytes.now a.image.now.frame) (node_count a.image.now.frame) a.image.now.frame.dense.levels a.image.now.frame.dense.nodes l.depth l.end l.above l.invariant.0 c.loop-end-test.false))
