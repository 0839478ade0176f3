-- The header gives the frame but for the totals of the dense nodes, which their tables give.
use native.Mathlib.Omega.{arith}
use Rattle.theory.proofs.CheckStages.{verdict_passes}
use Rattle.image.specs.Inside.{accepted_inside}
use Rattle.check_frame.specs.FrameLaws.{header_long}
use Rattle.query_descent.specs.Answers.{all_small}
use Rattle.accepted.specs.Uncounted.{header_frame, counted_is, counted_frame}
use Rattle.accepted.proofs.frame.accepted_image.Goals as goal

pub read_header-requires : goal.read_header-requires
read_header-requires c =
    header_long c.args.image.now (verdict_passes c.args.image.now c.requires).1.before.before.before.before.before.header

pub dense_totals-frame-requires : goal.dense_totals-frame-requires
dense_totals-frame-requires c =
    header_frame c.args.image.now c.read_header.result c.requires c.read_header.ensures (all_small c.args.image.now (λ i. omega (arith, c.type_inv.image i))) _ c.frame_at-frame.ensures

pub invariant_of-result : goal.invariant_of-result
invariant_of-result c =
    let s = c.args.image.now in
    let e = rw c.frame_at-frame.ensures at c.dense_totals-frame.ensures in
    let a = counted_frame s c.read_header.result c.requires c.read_header.ensures (all_small s (λ i. omega (arith, c.type_inv.image i))) c.dense_totals-frame.result e in
    rw c.frame_at-frame.ensures (record { in_range = λ i. omega (arith, c.type_inv.image i); inside = accepted_inside s _ a; accepted = a })

pub returns-clause-frame : goal.returns-clause-frame
returns-clause-frame c =
    let s = c.args.image.now in
    let e = rw c.frame_at-frame.ensures at c.dense_totals-frame.ensures in
    rw c.frame_at-frame.ensures (counted_is s c.read_header.result c.requires c.read_header.ensures (all_small s (λ i. omega (arith, c.type_inv.image i))) c.dense_totals-frame.result e)
