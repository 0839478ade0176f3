use native.Mathlib.Omega.{arith}
use Rattle.print_text.specs.Writing.{written_byte}
use Rattle.print_text.proofs.digits.write_byte.Goals as goal

pub returns : goal.returns
returns c =
    written_byte c.args.out.now c.args.at c.args.x (omega arith)
