-- All keys are long exactly if those of the records left are.
use Prim.Native.Nat.{◌+◌}
use mathlib.Core.Path.{◌≡◌, sym, subst}
use native.Mathlib.Omega.{arith}
use Rattle.build_list.specs.LongKeys.{LongLeft, long_here, long_short, long_next, long_done}
use Rattle.build_list.proofs.read.all_long.Goals as goal

pub bounds-s-at : goal.bounds-s-at
bounds-s-at c =
    let a = c.args in
    let l = c.loop-at in
    omega (arith, long_here a.s.now a.n l.at l.invariant c.loop-at-test.true)

pub returns-then-m-n : goal.returns-then-m-n
returns-then-m-n c =
    let a = c.args in
    let l = c.loop-at in
    sym (long_short a.s.now a.n l.at l.invariant c.loop-at-test.true (omega (arith, c.from-m.ensures, c.if-m-n.true)))

pub loop-at-preserved : goal.loop-at-preserved
loop-at-preserved c =
    let a = c.args in
    let l = c.loop-at in
    let e = c.from-m.ensures in
    let at : l.at + 3 + c.from-m.result ≡ l.at + (3 + c.from-m.result) = omega arith in
    subst (LongLeft a.s.now a.n) at (rw e (long_next a.s.now a.n l.at l.invariant c.loop-at-test.true (omega (arith, e, c.if-m-n.false))))

pub returns : goal.returns
returns c =
    let a = c.args in
    let l = c.loop-at in
    sym (long_done a.s.now a.n l.at l.invariant c.loop-at-test.false)
