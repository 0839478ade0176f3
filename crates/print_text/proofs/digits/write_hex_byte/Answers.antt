use mathlib.Core.Path.{sym, ap₂, ◌∙◌}
use mathlib.Core.List.{[], ◌∷◌}
use Prim.Native.Nat.{ℕ}
use native.Mathlib.Omega.{arith}
use Rattle.print_text.specs.Writing.{written_append, written_as}
use Rattle.print_text.specs.Texts.{hex_byte}
use Rattle.print_text.proofs.digits.write_hex_byte.Goals as goal

pub returns : goal.returns
returns c =
    let a = c.args in
    written_as (written_append (omega arith) c.write_byte-next.ensures c.write_byte.ensures)
    (ap₂ (λ (x y : ℕ). x ∷ y ∷ []) c.hex_digit.ensures c.hex_digit-2.ensures ∙ sym (hex_byte a.x))
