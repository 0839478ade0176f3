-- The loop: the nodes before `node` are judged, it is an exact leaf or the end, and so many exact leaves stand before it.
use mir.Val.{Fits}
use mir.Syntax.{w64}
use mathlib.Core.Path.{◌≡◌, sym, ap, ◌∙◌}
use mathlib.Core.Bool.{Bool}
use Prim.Native.Nat.{ℕ, ◌+◌, ◌-◌, ◌≤◌, ◌<◌}
use native.Mathlib.Omega.{arith}
use Rattle.spec.specs.Bytes.{Bytes}
use Rattle.bits.proofs.RankLaws.{rank_zero}
use Rattle.image.specs.declared.Frame.{Frame}
use Rattle.check_levels.specs.Bodies.{dl_body, dc_body, dp_body}
use Rattle.check_levels.specs.Ranges.{all_from, from_end}
use Rattle.check_slots.specs.DenseExact.{dense_exact}
use Rattle.check_slots.specs.DenseSlots.{skip_clear, exact_fails, exact_passes, exact_count, exact_few}
use Rattle.check_slots.specs.SlotTests.{clear_at}
use Rattle.check_slots.proofs.dense.dense_clear.Goals as goal

-- the nodes from one on
abbrev left : Bytes → Frame → ℕ → Bool
left s f i = all_from (dense_exact (clear_at s f 0) (dl_body s f) (dc_body s f) (dp_body s f)) i (f.dense.nodes - i)

fit : {n : ℕ} → n < 4294967297 → Fits w64 n
fit h = record { fits = omega arith }

behind : {m n : ℕ} → m < n → m + 1 ≤ n
behind h = omega arith

less : {m next n : ℕ} → m < n → m + 1 ≤ next → n - next < n - m
less h l = omega arith

pub next_exact-node-requires : goal.next_exact-node-requires
next_exact-node-requires c =
    (c.requires.0, omega arith)

pub loop-node-init : goal.loop-node-init
loop-node-init c =
    let a = c.args in
    let s : Bytes = a.image.now.bytes.now in
    let e = c.next_exact-node.ensures in
    let z : a.image.now.frame.dense.nodes - 0 ≡ a.image.now.frame.dense.nodes = omega arith in (
      e.high,
      sym (e.none ∙ rank_zero (dp_body s a.image.now.frame)),
      e.set,
      ap (all_from (dense_exact (clear_at s a.image.now.frame 0) (dl_body s a.image.now.frame) (dc_body s a.image.now.frame) (dp_body s a.image.now.frame)) 0) (sym z)
          ∙ skip_clear (clear_at s a.image.now.frame 0) (dl_body s a.image.now.frame) (dc_body s a.image.now.frame) (dp_body s a.image.now.frame) 0 c.next_exact-node.result.0 a.image.now.frame.dense.nodes e.low e.high e.none,
    )

pub exact_clear-requires : goal.exact_clear-requires
exact_clear-requires c =
    let p = c.requires in
    (p.0, p.1, record { within = c.loop-node-test.true; exacts_before = c.loop-node.invariant.1 })

pub returns-then-not-exact_clear : goal.returns-then-not-exact_clear
returns-then-not-exact_clear c =
    let a = c.args in
    let s : Bytes = a.image.now.bytes.now in
    let l = c.loop-node in
    let t = c.loop-node-test.true in
    sym (l.invariant.3 ∙ exact_fails (clear_at s a.image.now.frame 0) (dl_body s a.image.now.frame) (dc_body s a.image.now.frame) (dp_body s a.image.now.frame) a.image.now.frame.dense.nodes l.node.0 t (l.invariant.2 t) (sym c.exact_clear.ensures ∙ c.if-not-exact_clear.true))

pub overflow_add-exacts : goal.overflow_add-exacts
overflow_add-exacts c =
    let a = c.args in
    let p = c.requires in
    let l = c.loop-node in
    fit (exact_few (dp_body a.image.now.bytes.now a.image.now.frame) a.image.now.frame.dense.nodes l.node.0 l.exacts c.loop-node-test.true p.0.frame.dense l.invariant.1).1

pub overflow_add-node : goal.overflow_add-node
overflow_add-node c =
    let a = c.args in
    let p = c.requires in
    let l = c.loop-node in
    fit (exact_few (dp_body a.image.now.bytes.now a.image.now.frame) a.image.now.frame.dense.nodes l.node.0 l.exacts c.loop-node-test.true p.0.frame.dense l.invariant.1).0

pub next_exact-node-requires-in-loop-node : goal.next_exact-node-requires-in-loop-node
next_exact-node-requires-in-loop-node c =
    (c.requires.0, behind c.loop-node-test.true)

pub loop-node-smaller : goal.loop-node-smaller
loop-node-smaller c =
    less c.loop-node-test.true c.next_exact-node-in-loop-node.ensures.low

pub loop-node-preserved : goal.loop-node-preserved
loop-node-preserved c =
    let a = c.args in
    let s : Bytes = a.image.now.bytes.now in
    let l = c.loop-node in
    let t = c.loop-node-test.true in
    let e = c.next_exact-node-in-loop-node.ensures in (
      e.high,
      exact_count (clear_at s a.image.now.frame 0) (dl_body s a.image.now.frame) (dc_body s a.image.now.frame) (dp_body s a.image.now.frame) a.image.now.frame.dense.nodes l.node.0 t (l.invariant.2 t) c.next_exact-node-in-loop-node.result.0 l.exacts l.invariant.1 e.none,
      e.set,
      l.invariant.3 ∙ exact_passes (clear_at s a.image.now.frame 0) (dl_body s a.image.now.frame) (dc_body s a.image.now.frame) (dp_body s a.image.now.frame) a.image.now.frame.dense.nodes l.node.0 t (l.invariant.2 t) c.next_exact-node-in-loop-node.result.0 e.low e.high e.none (sym c.exact_clear.ensures ∙ c.if-not-exact_clear.false),
    )

pub returns : goal.returns
returns c =
    let a = c.args in
    let s : Bytes = a.image.now.bytes.now in
    let l = c.loop-node in
    sym (l.invariant.3 ∙ from_end (dense_exact (clear_at s a.image.now.frame 0) (dl_body s a.image.now.frame) (dc_body s a.image.now.frame) (dp_body s a.image.now.frame)) l.node.0 a.image.now.frame.dense.nodes c.loop-node-test.false)
