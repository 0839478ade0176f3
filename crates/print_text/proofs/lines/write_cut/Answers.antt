use native.Mathlib.Omega.{arith}
use lib.ListN.{take}
use Rattle.print_text.specs.Writing.{written_append}
use Rattle.print_text.specs.Texts.{length_hex}
use Rattle.print_text.proofs.lines.write_cut.Goals as goal

pub write_hex-requires : goal.write_hex-requires
write_hex-requires c =
    let a = c.args in
    omega (arith, length_hex (take a.l.len a.l.cut))

pub returns : goal.returns
returns c =
    written_append (omega arith) c.write_kind-next.ensures c.write_hex.ensures
