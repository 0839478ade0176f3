-- The text is copied.
use Rattle.print_text.specs.Writing.{written_overlaid}
use Rattle.print_text.proofs.digits.write_text.Goals as goal

pub returns : goal.returns
returns c =
    written_overlaid c.args.out.now c.args.at c.args.text.now _ c.requires c.write_bytes.ensures
