use native.Mathlib.Omega.{arith}
use lib.ListN.{length-append}
use Rattle.spec.specs.Print.{decimal}
use Rattle.print_text.specs.Writing.{written_append}
use Rattle.print_text.specs.Texts.{length_decimal}
use Rattle.print_text.proofs.lines.write_count.Goals as goal

pub write_decimal-end-requires : goal.write_decimal-end-requires
write_decimal-end-requires c =
    omega (arith, length_decimal 9 c.args.n c.requires.0)

pub write_byte-requires : goal.write_byte-requires
write_byte-requires c =
    omega (arith, length_decimal 9 c.args.n c.requires.0, c.requires.1)

pub returns : goal.returns
returns c =
    let a = c.args in
    let d = length_decimal 9 a.n c.requires.0 in
    let w = written_append (omega (arith, c.requires.1)) c.write_text-number.ensures c.write_decimal-end.ensures in
    written_append (omega (arith, c.requires.1, length-append a.word.now (decimal a.n))) w c.write_byte.ensures
