-- The opening and the pages written so far, one behind the other, are the first bytes of the text; the lines of the leaves from the walker's place on are left.
use Rattle.std.proofs.Common.{◌-◌, ◌≤◌, length}
use Rattle.spec.specs.Nodes.{read_leaves}
use Rattle.print_text.specs.Texts.{longest_line}
use Rattle.print_pages.specs.Printing.{Progress}
use Rattle.print_pages.proofs.output.write_pages.Given as goal

abbrev pub invariant-loop-written : goal.invariant-loop-written
invariant-loop-written g l = record { progress : Progress l.from.image.bytes.now l.at l.bytes; room : longest_line ≤ length l.page }

abbrev pub decreases-loop-written : goal.decreases-loop-written
decreases-loop-written g l = length (read_leaves l.from.image.bytes.now) - l.at.cursor.place
