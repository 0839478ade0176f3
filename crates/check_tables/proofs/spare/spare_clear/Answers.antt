-- Each body lies within the image, so its spare bits are judged as document 01 asks.
use Prim.Native.Nat.{◌≤◌}
use mir.Val.{Fits}
use mir.Syntax.{w64}
use mathlib.Core.Path.{sym, ap₂, ◌∙◌}
use mathlib.Core.Bool.{◌&&◌}
use native.Mathlib.Omega.{arith}
use Rattle.image.specs.FrameOf.{within}
use Rattle.check_tables.specs.Tables.{spare_is}
use Rattle.check_tables.proofs.spare.spare_clear.Goals as goal

pub returns : goal.returns
returns c =
    let a = c.args in
    ap₂ ◌&&◌ (ap₂ ◌&&◌ (ap₂ ◌&&◌ c.no_spare.ensures c.no_spare-2.ensures) c.no_spare-3.ensures) c.no_spare-4.ensures
    ∙ sym (spare_is a.image.now.bytes.now a.image.now.frame a.image.now.framed)

pub no_spare-requires : goal.no_spare-requires
no_spare-requires c =
    let a = c.args in (within a.image.now.bytes.now a.image.now.frame a.image.now.framed).dp

pub no_spare-requires-2 : goal.no_spare-requires-2
no_spare-requires-2 c =
    let a = c.args in (within a.image.now.bytes.now a.image.now.frame a.image.now.framed).sc

pub no_spare-requires-3 : goal.no_spare-requires-3
no_spare-requires-3 c =
    let a = c.args in (within a.image.now.bytes.now a.image.now.frame a.image.now.framed).sb

pub overflow_mul-f : goal.overflow_mul-f
overflow_mul-f c =
    let a = c.args in
    let h = a.image.now.framed in
    fits (within a.image.now.bytes.now a.image.now.frame h).slots
  where
    fits : {n : _} → n ≤ 2097120 → Fits w64 n
    fits l = record { fits = omega arith }

pub no_spare-requires-4 : goal.no_spare-requires-4
no_spare-requires-4 c =
    let a = c.args in
    (within a.image.now.bytes.now a.image.now.frame a.image.now.framed).sv
