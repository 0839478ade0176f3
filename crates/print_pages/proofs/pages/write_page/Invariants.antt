-- The page begins with the lines of the leaves passed.
use Rattle.std.proofs.Common.{◌-◌, length}
use Rattle.spec.specs.Nodes.{read_leaves}
use Rattle.print_pages.specs.PrintLaws.{Filled}
use Rattle.print_pages.proofs.pages.write_page.Given as goal

abbrev pub invariant-loop-page : goal.invariant-loop-page
invariant-loop-page l = Filled l.from l.initial.page l.at l.page l.len

abbrev pub decreases-loop-page : goal.decreases-loop-page
decreases-loop-page l = length (read_leaves l.from.image.bytes.now) - l.at.cursor.place
