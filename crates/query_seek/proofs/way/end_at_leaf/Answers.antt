use Rattle.query_descent.specs.Seeking.{leaf_end}
use Rattle.spec.specs.Bytes.{bit}
use mathlib.Core.Bool.{Bool}
use mathlib.Core.Path.{refl, sym, ap, ◌∙◌}
use native.Mathlib.Omega.{arith}
use Rattle.query_seek.proofs.way.end_at_leaf.Goals as goal

pub returns-then-high_below : goal.returns-then-high_below
returns-then-high_below c =
    let h = c.high_below in
    let passed = sym h.ensures ∙ c.if-high_below.true in
    let a = c.args in
    record { end_is = ap (λ (t : Bool). leaf_end t a.slot) (sym passed); node_is = refl; depth_is = refl; sum_is = omega (arith, ap bit passed) }

pub returns : goal.returns
returns c =
    let h = c.high_below in
    let unpassed = sym h.ensures ∙ c.if-high_below.false in
    let a = c.args in
    record { end_is = ap (λ (t : Bool). leaf_end t a.slot) (sym unpassed); node_is = refl; depth_is = refl; sum_is = omega (arith, ap bit unpassed) }
