use mathlib.Core.Path.{◌≡◌, sym, ap, ◌∙◌}
use Prim.Native.Nat.{ℕ, ◌+◌, ◌-◌}
use Rattle.bits.proofs.ValueLaws.{Small, value_front, value_end, word_end}
use native.Mathlib.Omega.{arith}
use lib.ListN.{drop}
use lib.Seq.{drop-length}
use Rattle.bits.specs.Bits.{value}
use Rattle.bits.proofs.numbers.read_end.Goals as goal

pub loop-i-init : goal.loop-i-init
unfolding value
loop-i-init c =
    (omega arith, omega arith, ap value (sym (drop-length c.args.s.now)))

pub overflow_mul-w : goal.overflow_mul-w
overflow_mul-w c =
    let a = c.args in
    let small : Small a.s.now = λ i. (c.shared_slice_known-1.given i).fits in
    omega (arith, value_end 7 c.loop-i.i a.s.now small (omega arith))

pub overflow_add-w : goal.overflow_add-w
overflow_add-w c =
    let a = c.args in
    let small : Small a.s.now = λ i. (c.shared_slice_known-1.given i).fits in
    omega (arith, value_end 7 c.loop-i.i a.s.now small (omega arith))

pub loop-i-preserved : goal.loop-i-preserved
loop-i-preserved c =
    let a = c.args in
    let i = c.loop-i.i in
    let e : i - 1 + 1 ≡ i = omega arith in
    (omega arith, omega arith, omega (arith, value_front a.s.now (i - 1) (omega arith), ap (λ (k : ℕ). value (drop k a.s.now)) e))

pub returns : goal.returns
returns c =
    let a = c.args in
    let l = c.loop-i in
    let small : Small a.s.now = λ i. (c.shared_slice_known-1.given i).fits in
    let e : l.i ≡ a.at = omega arith in
    l.invariant.2 ∙ ap (λ (k : ℕ). value (drop k a.s.now)) e ∙ sym (word_end a.s.now a.at small (omega arith))
