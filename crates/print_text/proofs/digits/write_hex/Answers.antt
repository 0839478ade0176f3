use native.Mathlib.Numerals.{add-one}
use lib.Seq.{take_all}
use mathlib.Core.Path.{refl, sym, ap, ◌∙◌}
use Prim.Native.Nat.{ℕ}
use native.Mathlib.Omega.{arith}
use lib.ListN.{take}
use Rattle.print_text.specs.Writing.{written_none, written_append, written_as}
use Rattle.spec.specs.Print.{hex}
use Rattle.print_text.specs.Texts.{hex_none, hex_more, length_hex_take}
use Rattle.print_text.proofs.digits.write_hex.Goals as goal

pub loop-byte-init : goal.loop-byte-init
loop-byte-init c =
    (omega arith, refl, written_as (written_none c.args.out.now c.args.at (omega arith)) (sym hex_none))

pub write_hex_byte-next-requires : goal.write_hex_byte-next-requires
write_hex_byte-next-requires c =
    let a = c.args in
    let l = c.loop-byte in
    omega (arith, length_hex_take a.key.now l.byte-index (omega arith))

pub loop-byte-preserved : goal.loop-byte-preserved
loop-byte-preserved c =
    let a = c.args in
    let l = c.loop-byte in (
      omega arith,
      c.write_hex_byte-next.auto.out ∙ l.invariant.1,
      written_as (written_append (omega (arith, length_hex_take a.key.now l.byte-index (omega arith))) l.invariant.2 c.write_hex_byte-next.ensures) (sym (ap (λ (k : ℕ). hex (take k a.key.now)) (add-one l.byte-index) ∙ hex_more a.key.now l.byte-index (omega arith))),
    )

pub returns : goal.returns
returns c =
    let a = c.args in
    let l = c.loop-byte in
    written_as l.invariant.2 (ap hex (take_all l.byte-index a.key.now (omega arith)))
