use mathlib.Core.List.{List, ◌++◌}
use mathlib.Core.Path.{◌≡◌, ap, ◌∙◌}
use Prim.Native.Nat.{ℕ, ◌+◌}
use native.Mathlib.Numerals.{add-one}
use native.Mathlib.Omega.{arith}
use lib.ListN.{length, drop, get_or, set}
use lib.Seq.{paste, paste-zero, paste-suc, length-paste, take_all}
use Rattle.query_seek.proofs.start.write_start.Goals as goal

pub loop-i-init : goal.loop-i-init
loop-i-init c =
    let a = c.args in
    (omega arith, paste-zero a.key.now 0 a.start.now)

pub bounds-key-i : goal.bounds-key-i
bounds-key-i c =
    let a = c.args in
    let l = c.loop-i in
    omega (arith, ap length l.invariant.1, length-paste a.key.now 0 a.start.now l.i (omega arith) l.invariant.0)

pub loop-i-preserved : goal.loop-i-preserved
loop-i-preserved c =
    let a = c.args in
    let l = c.loop-i in
    let at : l.i ≡ 0 + l.i = omega arith in (
      omega arith,
      rw (l.invariant.1, add-one l.i) (ap (λ (k : ℕ). set (paste a.key.now 0 a.start.now l.i) k (get_or a.start.now l.i 0)) at ∙ paste-suc a.key.now 0 a.start.now l.i 0 (omega arith) (omega arith)),
    )

pub returns : goal.returns
returns c =
    let a = c.args in
    let l = c.loop-i in
    let e : l.i ≡ length a.start.now = omega arith in
    l.invariant.1 ∙ ap (λ (n : ℕ). paste a.key.now 0 a.start.now n) e ∙ ap (λ (t : List ℕ). t ++ drop (0 + length a.start.now) a.key.now) (take_all (length a.start.now) a.start.now (omega arith))
