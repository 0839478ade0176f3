-- Too long, refused, or a listing.
use Rattle.std.proofs.Common.{sym, ap, ◌∙◌}
use Rattle.spec.specs.Walk.{refused}
use Rattle.print_pages.specs.PrintLaws.{opened_too_long, opened_refused, opened_listing}
use Rattle.print_pages.proofs.opening.open.Goals as goal

pub returns-then-input-gt-LONGEST_INPUT-clause-opened : goal.returns-then-input-gt-LONGEST_INPUT-clause-opened
returns-then-input-gt-LONGEST_INPUT-clause-opened c =
    opened_too_long c.args.input.now _ _ _ c.if-input-gt-LONGEST_INPUT.true c.write_too_long.ensures

pub returns-in-Err-clause-opened : goal.returns-in-Err-clause-opened
returns-in-Err-clause-opened c =
    opened_refused c.args.input.now _ _ _ c.if-input-gt-LONGEST_INPUT.false c.number.result ((rw c.in-Err.is at c.open.ensures.1) ∙ ap refused (sym c.number.ensures)) c.write_refused.ensures

pub returns-in-Ok-clause-opened : goal.returns-in-Ok-clause-opened
returns-in-Ok-clause-opened c =
    opened_listing c.args.input.now _ _ _ c.if-input-gt-LONGEST_INPUT.false c.in-Ok.at (rw c.in-Ok.is at c.open.ensures.1) c.write_head.ensures

pub returns-in-Ok-clause-frame : goal.returns-in-Ok-clause-frame
returns-in-Ok-clause-frame c = (rw c.in-Ok.is at c.open.ensures.0).1
