use mathlib.Core.Path.{◌≡◌, refl, sym, ap, ◌∙◌}
use mathlib.Core.List.{[], ◌∷◌, ◌++◌, map}
use Prim.Native.Nat.{ℕ}
use native.Mathlib.Omega.{arith}
use native.Mathlib.Numerals.{add-one}
use Rattle.spec.specs.Bytes.{low_bits}
use Rattle.print_text.specs.Writing.{written_none, written_append, written_as}
use Rattle.print_text.specs.Texts.{bit_digit, bit_digits_none, bit_digits_more, length_bit_digits}
use Rattle.print_text.proofs.lines.write_bits.Goals as goal

pub loop-i-init : goal.loop-i-init
loop-i-init c =
    let a = c.args in
    (omega arith, refl, written_as (written_none a.out.now a.at (omega arith)) (sym (bit_digits_none a.suffix)))

pub overflow_shr-suffix : goal.overflow_shr-suffix
overflow_shr-suffix c =
    omega arith

pub digit-requires : goal.digit-requires
digit-requires c =
    omega arith

pub write_byte-next-requires : goal.write_byte-next-requires
write_byte-next-requires c =
    let a = c.args in
    let l = c.loop-i in
    omega (arith, length_bit_digits l.i a.suffix)

pub loop-i-preserved : goal.loop-i-preserved
loop-i-preserved c =
    let a = c.args in
    let l = c.loop-i in (
      omega arith,
      c.write_byte-next.auto.out ∙ l.invariant.1,
      written_as (written_append (omega (arith, length_bit_digits l.i a.suffix)) l.invariant.2 c.write_byte-next.ensures)
          (ap (λ (x : ℕ). map bit_digit (low_bits l.i a.suffix) ++ x ∷ []) c.digit.ensures
          ∙ sym (ap (λ (k : ℕ). map bit_digit (low_bits k a.suffix)) (add-one l.i) ∙ bit_digits_more l.i a.suffix)),
    )

pub returns : goal.returns
returns c =
    let a = c.args in
    let l = c.loop-i in
    let e : l.i ≡ a.width = omega arith in
    written_as l.invariant.2 (ap (λ (k : ℕ). map bit_digit (low_bits k a.suffix)) e)
