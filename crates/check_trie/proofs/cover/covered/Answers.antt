-- The loop: the words before q are covered.
use mathlib.Core.Path.{sym, ap₂, ◌∙◌}
use Prim.Native.Nat.{◌*◌}
use native.Mathlib.Omega.{arith}
use Rattle.bits.proofs.ValueLaws.{Small}
use lib.Bits.{bit_and}
use Rattle.bits.proofs.CoverLaws.{covers_more, covers_not, covered_true, covered_false}
use Rattle.check_trie.proofs.cover.covered.Goals as goal

pub loop-q-init : goal.loop-q-init
loop-q-init c =
    (omega arith, λ i h. absurd (omega arith))

pub returns-then-x-y : goal.returns-then-x-y
returns-then-x-y c =
    let a = c.args in
    let l = c.loop-q in
    let small₁ : Small a.xs.now = λ i. (c.shared_slice_known-1.given i).fits in
    let small₂ : Small a.ys.now = λ i. (c.shared_slice_known-2-1.given i).fits in
    let e₁ = c.read64-x.ensures in
    let e₂ = c.read64-y.ensures in
    sym (covered_false a.xs.now a.ys.now (64 * a.w) (covers_not a.xs.now a.ys.now small₁ small₂ l.q a.w (omega arith) (λ z. c.if-x-y.true (ap₂ bit_and e₁ e₂ ∙ z ∙ sym e₁))))

pub loop-q-preserved : goal.loop-q-preserved
loop-q-preserved c =
    let a = c.args in
    let l = c.loop-q in
    let small₁ : Small a.xs.now = λ i. (c.shared_slice_known-1.given i).fits in
    let small₂ : Small a.ys.now = λ i. (c.shared_slice_known-2-1.given i).fits in
    let e₁ = c.read64-x.ensures in
    let e₂ = c.read64-y.ensures in
    (omega arith, covers_more a.xs.now a.ys.now small₁ small₂ l.q l.invariant.1 (ap₂ bit_and (sym e₁) (sym e₂) ∙ c.if-x-y.false ∙ e₁))

pub returns : goal.returns
returns c =
    let a = c.args in
    let l = c.loop-q in
    sym (covered_true a.xs.now a.ys.now (64 * l.q) (omega arith) l.invariant.1)
