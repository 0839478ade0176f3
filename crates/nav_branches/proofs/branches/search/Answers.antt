use Prim.Native.Nat.{◌+◌, ◌-◌, ◌/◌}
use native.Mathlib.Omega.{arith}
use mathlib.Core.Path.{◌≡◌}
use Rattle.nav_branches.proofs.branches.search.Goals as goal

pub loop-lo-init : goal.loop-lo-init
loop-lo-init c =
    (omega arith, omega arith, omega arith, λ h. absurd (omega arith), λ h. absurd (omega arith))

pub loop-lo-preserved-then-from-y : goal.loop-lo-preserved-then-from-y
loop-lo-preserved-then-from-y c =
    let l = c.loop-lo in
    let e : l.lo + (l.hi - l.lo) / 2 + 1 - 1 ≡ l.lo + (l.hi - l.lo) / 2 = omega arith in
    (omega arith, omega arith, omega arith, λ h. rw e (omega (arith, c.from.ensures)), l.invariant.4)

pub loop-lo-preserved : goal.loop-lo-preserved
loop-lo-preserved c =
    let l = c.loop-lo in
    (omega arith, omega arith, omega arith, l.invariant.3, λ h. omega (arith, c.from.ensures))

pub returns : goal.returns
returns c =
    let l = c.loop-lo in
    let e : l.lo ≡ l.hi = omega arith in
    (omega arith, omega arith, l.invariant.3, λ h. rw e (l.invariant.4 (omega arith)))
