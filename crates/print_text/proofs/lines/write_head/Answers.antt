use Rattle.spec.specs.Bytes.{ascii}
use Rattle.print_text.proofs.lines.write_head.Goals as goal

pub returns : goal.returns
unfolding ascii
returns c =
    c.write_count.ensures
