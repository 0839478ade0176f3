-- The cursors passed stand at the sums before them.
use lib.ListN.{length-set}
use Rattle.build_laws.specs.Cursors.{sums, sums_none}
use Rattle.build_passes.specs.CounterSums.{sums_le, cursor_more}
use mathlib.Core.Path.{sym, ◌∙◌}
use Prim.Native.Nat.{◌+◌}
use native.Mathlib.Omega.{arith}
use Rattle.build_laws.specs.Limits.{counters}
use Rattle.build_passes.proofs.offsets.set_offsets.Goals as goal

pub loop-d-init : goal.loop-d-init
loop-d-init c =
    (c.told-cur, sym (sums_none c.args.cnt.now c.args.lo), λ e h. absurd (omega arith))

pub overflow_add-sum : goal.overflow_add-sum
overflow_add-sum c =
    let l = c.loop-d in
    let a = c.args in
    omega (arith, c.count_from-sum.ensures, l.invariant.1, sums_le a.cnt.now a.lo (l.d + 1) counters (omega arith))

pub loop-d-preserved : goal.loop-d-preserved
loop-d-preserved c =
    let a = c.args in
    let l = c.loop-d in
    (length-set l.cur l.d l.sum ∙ l.invariant.0, omega (arith, c.count_from-sum.ensures, l.invariant.1), cursor_more l.cur (sums a.cnt.now a.lo) l.d l.sum (omega (arith, l.invariant.0)) l.invariant.1 l.invariant.2)

pub returns : goal.returns
returns c =
    let l = c.loop-d in
    ((λ d h. l.invariant.2 d (omega arith)), l.invariant.0)
