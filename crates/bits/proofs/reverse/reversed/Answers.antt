-- The test of all bytes is in the law.
use mathlib.Core.Path.{◌≡◌, ap, ◌∙◌}
use native.Mathlib.Omega.{arith}
use Rattle.bits.specs.Bits.{reversed}
use Rattle.bits.proofs.ReverseLaws.{mirror, mirror_reversed, reversed_small}
use Rattle.bits.proofs.reverse.reversed.Goals as goal

pub returns : goal.returns
returns c =
    let b = c.args.b in
    let e : mirror c.from.result ≡ reversed b = ap mirror c.from.ensures ∙ mirror_reversed b (omega (arith, c.from.ensures)) in
    (e, omega (arith, e, reversed_small b))
