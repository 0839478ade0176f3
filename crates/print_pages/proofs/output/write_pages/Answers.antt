-- A page that is handed on stands behind those before it.
use Rattle.std.proofs.Common.{rules, arith, sym, true≢false}
use Rattle.walk_states.specs.StateLaws.{place_small}
use Rattle.print_pages.specs.PrintLaws.{page_sent, all_sent, fewer_left, sent_within}
use Rattle.print_pages.proofs.output.write_pages.Goals as goal

pub returns-then-written-eq0 : goal.returns-then-written-eq0
returns-then-written-eq0 g c =
    let l = c.loop-written in
    let w = c.write_page-written in
    let e = all_sent c.args.from.image.bytes.now l.at l.bytes l.invariant.progress _ w.result w.ensures (omega arith) in
    record { within = omega arith; whole = λ _. e }

pub returns-in-Err : goal.returns-in-Err
returns-in-Err g c = record { within = sent_within c.args.from.image.bytes.now c.loop-written.at c.loop-written.bytes c.loop-written.invariant.progress; whole = λ q. absurd (true≢false (sym q)) }

pub overflow_add-bytes : goal.overflow_add-bytes
overflow_add-bytes g c =
    let l = c.loop-written in
    let w = c.write_page-written in
    let n = page_sent c.args.from.image.bytes.now l.at l.bytes l.invariant.progress _ w.result w.ensures in
    omega (arith, n.short, place_small w.result.next n.walks)

pub loop-written-smaller : goal.loop-written-smaller
loop-written-smaller g c =
    let l = c.loop-written in
    let w = c.write_page-written in
    fewer_left c.args.from.image.bytes.now l.at l.bytes l.invariant.progress _ w.result w.ensures c.if-written-eq0.false

pub loop-written-preserved : goal.loop-written-preserved
loop-written-preserved g c =
    let l = c.loop-written in
    let w = c.write_page-written in
    record { progress = page_sent c.args.from.image.bytes.now l.at l.bytes l.invariant.progress _ w.result w.ensures; room = search rules }
