-- The whole bytes before i are flipped; the last bits come behind them.
use Prim.Native.Nat.{◌/◌}
use mathlib.Core.Path.{◌≡◌, refl, ◌∙◌}
use native.Mathlib.Omega.{arith}
use Rattle.build_passes.specs.FlippedBits.{flip_none, flip_whole, flip_rest}
use Rattle.build_passes.proofs.flip.flip.Goals as goal

pub loop-i-init : goal.loop-i-init
loop-i-init c =
    flip_none c.args.out.now

pub loop-i-preserved : goal.loop-i-preserved
loop-i-preserved c =
    let l = c.loop-i in
    flip_whole l.i c.args.out.now l.out (omega arith) (omega arith) l.invariant

pub returns-then-n-gt0 : goal.returns-then-n-gt0
returns-then-n-gt0 c =
    let l = c.loop-i in
    let a = c.args in
    let whole : l.i ≡ a.n / 8 = omega arith in
    c.flip_last.ensures ∙ flip_rest a.n (a.n / 8) a.out.now l.out refl (omega arith) c.if-n-gt0.true (rw whole at l.invariant)
