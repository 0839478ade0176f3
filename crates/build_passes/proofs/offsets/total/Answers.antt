-- The sum so far is that of the levels passed.
use Rattle.build_laws.specs.Cursors.{sums}
use Rattle.build_passes.specs.CounterSums.{sums_before, sums_in, sums_le}
use mathlib.Core.Path.{◌≡◌, ap, ◌∙◌}
use Prim.Native.Nat.{◌+◌, min}
use native.Mathlib.Omega.{arith}
use Rattle.build_laws.specs.Limits.{counters}
use Rattle.build_passes.proofs.offsets.total.Goals as goal

pub loop-d-init : goal.loop-d-init
loop-d-init c =
    sums_before c.args.cnt.now c.args.lo (min c.args.lo c.args.hi) (omega arith)

pub overflow_add-sum : goal.overflow_add-sum
overflow_add-sum c =
    let l = c.loop-d in
    let a = c.args in
    let here : min l.d a.hi ≡ l.d = omega arith in
    omega (arith, l.invariant, ap (sums a.cnt.now a.lo) here, sums_in a.cnt.now a.lo l.d (omega arith), sums_le a.cnt.now a.lo (l.d + 1) counters (omega arith))

pub loop-d-preserved : goal.loop-d-preserved
loop-d-preserved c =
    let l = c.loop-d in
    let a = c.args in
    let here : min l.d a.hi ≡ l.d = omega arith in
    let next : min (l.d + 1) a.hi ≡ l.d + 1 = omega arith in
    omega (arith, l.invariant, ap (sums a.cnt.now a.lo) here, ap (sums a.cnt.now a.lo) next, sums_in a.cnt.now a.lo l.d (omega arith))

pub returns : goal.returns
returns c =
    let all : min c.loop-d.d c.args.hi ≡ c.args.hi = omega arith in
    c.loop-d.invariant ∙ ap (sums c.args.cnt.now c.args.lo) all
