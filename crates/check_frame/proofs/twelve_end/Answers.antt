-- The loop's invariant: the records left, from where the loop is, end where all of them do.
use Prim.Native.Nat.{◌<◌, ◌+◌}
use mathlib.Core.Path.{◌≡◌, refl, sym, ap, ◌∙◌}
use native.Mathlib.Omega.{arith}
use lib.ListN.{drop}
use Rattle.spec.specs.Image.{rows}
use Rattle.image.specs.Records.{records_end, row_at, record_within, rows_from, rows_end, end_more, end_none}
use Rattle.check_frame.proofs.twelve_end.Goals as goal

pub loop-i-init : goal.loop-i-init
loop-i-init c =
    (omega arith, omega arith, refl)

pub record_end-requires : goal.record_end-requires
record_end-requires c =
    (omega arith, omega arith)

pub returns-in_err-at : goal.returns-in_err-at
returns-in_err-at c =
    let l = c.loop-i in
    let s = c.args.image.now in
    let h : l.i < 12 = c.loop-i-test.true in
    rw c.from_residual.ensures (l.invariant.2 ∙ rw (rows_from l.i h) (end_none (row_at l.i) (drop (l.i + 1) rows) s l.at (rw c.in_err-at.was at c.record_end.ensures)))

pub loop-i-preserved : goal.loop-i-preserved
loop-i-preserved c =
    let l = c.loop-i in
    let s = c.args.image.now in
    let h : l.i < 12 = c.loop-i-test.true in
    let q = rw c.in_ok-at.was at c.record_end.ensures in (
      omega arith,
      rw q.1 (record_within (row_at l.i) s l.at l.invariant.1 q.0).1,
      l.invariant.2 ∙ rw (rows_from l.i h) (end_more (row_at l.i) (drop (l.i + 1) rows) s l.at q.0 ∙ ap (records_end (drop (l.i + 1) rows) s) (sym q.1)),
    )

pub returns : goal.returns
unfolding records_end
returns c =
    let l = c.loop-i in
    let e : l.i ≡ 12 = omega arith in
    (l.invariant.2 ∙ rw (e, rows_end), l.invariant.1)
