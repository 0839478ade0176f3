use Rattle.std.proofs.Common.{◌≡◌, true, ◌⊎◌, inl, inr, length, sym, ap, arith}
use Rattle.print_text.specs.Writing.{written_as}
use Rattle.print_text.specs.Texts.{suffix_none, suffix_open, length_bit_digits}
use Rattle.print_text.proofs.lines.write_suffix.Goals as goal
use Rattle.print_text.proofs.lines.write_suffix.Goals.{then-exact-via-then-exact, then-exact-via-else-exact+then-width-eq0}

pub write_byte-requires : goal.write_byte-requires
write_byte-requires c =
    let a = c.args in
    let none : (a.exact ≡ true) ⊎ (a.width ≡ 0) = elim c.then-exact.branch [ then-exact-via-then-exact w ↦ inl w.if-exact.true | then-exact-via-else-exact+then-width-eq0 w ↦ inr w.if-width-eq0.true ] in
    omega (arith, ap length (suffix_none a.exact a.width a.suffix none))

pub returns-then-exact : goal.returns-then-exact
returns-then-exact c =
    let a = c.args in
    let none : (a.exact ≡ true) ⊎ (a.width ≡ 0) = elim c.then-exact.branch [ then-exact-via-then-exact w ↦ inl w.if-exact.true | then-exact-via-else-exact+then-width-eq0 w ↦ inr w.if-width-eq0.true ] in
    written_as c.write_byte.ensures (sym (suffix_none a.exact a.width a.suffix none))

pub write_bits-requires : goal.write_bits-requires
write_bits-requires c =
    let a = c.args in
    (omega arith, omega (arith, ap length (suffix_open a.exact a.width a.suffix c.if-exact.false c.if-width-eq0.false), length_bit_digits a.width a.suffix))

pub returns : goal.returns
returns c =
    let a = c.args in
    written_as c.write_bits.ensures (sym (suffix_open a.exact a.width a.suffix c.if-exact.false c.if-width-eq0.false))
