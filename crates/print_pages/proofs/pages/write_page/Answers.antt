-- The page begins with the lines of the leaves passed.
use Rattle.std.proofs.Common.{arith}
use Rattle.walk_states.specs.StateLaws.{moved_on}
use Rattle.print_pages.specs.PrintLaws.{filled_none, filled_more, finished_full, finished_done, leaf_left}
use Rattle.print_pages.proofs.pages.write_page.Goals as goal

pub loop-page-init : goal.loop-page-init
loop-page-init c = filled_none c.args.from c.args.page.now c.requires.0

pub returns-in_default : goal.returns-in_default
returns-in_default c =
    let l = c.loop-page in
    finished_done c.args.from c.args.page.now l.at l.page l.len l.invariant (rw c.in_default.is at c.stand.ensures)

pub loop-page-smaller : goal.loop-page-smaller
loop-page-smaller c =
    let l = c.loop-page in
    let s = rw c.in-Some.is at c.stand.ensures in
    omega (arith, leaf_left c.args.from c.args.page.now l.at l.page l.len l.invariant c.in-Some.leaf s, moved_on l.at l.invariant.walks c.in-Some.leaf s c.next-at.result c.next-at.ensures)

pub loop-page-preserved : goal.loop-page-preserved
loop-page-preserved c =
    let l = c.loop-page in
    filled_more c.args.from c.args.page.now l.at l.page l.len l.invariant c.in-Some.leaf (rw c.in-Some.is at c.stand.ensures) c.next-at.result c.next-at.ensures _ _ c.write_line-len.auto.out (omega (arith, l.invariant.text.within, c.loop-page-test.true)) c.write_line-len.ensures

pub returns : goal.returns
returns c =
    let l = c.loop-page in
    finished_full c.args.from c.args.page.now l.at l.page l.len l.invariant c.requires.1 (omega (arith, c.loop-page-test.false))
