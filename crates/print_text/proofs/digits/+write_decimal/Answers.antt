-- A number of one digit is that digit; otherwise the digits of its tenth stand in front of its last.
use Rattle.std.proofs.Common.{ℕ, [], ◌∷◌, ◌++◌, ◌≤◌, ◌/◌, sym, ap, ◌∙◌, arith}
use Rattle.spec.specs.Print.{decimal}
use Rattle.print_text.specs.Writing.{written_append, written_as}
use Rattle.print_text.specs.Texts.{decimal_one, decimal_last, length_decimal_one, length_decimal_last}
use Rattle.print_text.proofs.digits.+write_decimal.Goals as goal

pub write_byte-requires : goal.write_byte-requires
write_byte-requires t c = omega (arith, length_decimal_one c.args.n c.if-n-lt10.true)

pub returns-then-n-lt10 : goal.returns-then-n-lt10
returns-then-n-lt10 t c = written_as c.write_byte.ensures (ap (λ (x : ℕ). x ∷ []) c.digit.ensures ∙ sym (decimal_one c.args.n c.if-n-lt10.true))

pub write_decimal-next-requires : goal.write_decimal-next-requires
write_decimal-next-requires t c =
    let l : 10 ≤ c.args.n = c.if-n-lt10.false in
    (omega arith, omega (arith, length_decimal_last c.args.n l))

pub write_byte-requires-2 : goal.write_byte-requires-2
write_byte-requires-2 t c = omega (arith, length_decimal_last c.args.n c.if-n-lt10.false)

pub returns : goal.returns
returns t c =
    let a = c.args in
    let l : 10 ≤ a.n = c.if-n-lt10.false in
    written_as (written_append (omega (arith, length_decimal_last a.n l)) c.write_decimal-next.ensures c.write_byte-2.ensures)
    (ap (λ (x : ℕ). decimal (a.n / 10) ++ x ∷ []) c.digit-2.ensures ∙ sym (decimal_last a.n l))
