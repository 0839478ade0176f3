use native.Mathlib.Omega.{arith}
use Rattle.print_text.specs.Writing.{written_append}
use Rattle.print_text.proofs.lines.write_slot.Goals as goal

pub returns : goal.returns
returns c =
    written_append (omega arith) c.write_byte-next.ensures c.write_suffix.ensures
