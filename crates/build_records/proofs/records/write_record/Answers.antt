-- The mark and the length are written, and the body behind them.
use mathlib.Core.Path.{sym, subst, ◌∙◌}
use mathlib.Core.List.{◌++◌}
use Rattle.spec.specs.Bytes.{le32}
use Rattle.image.specs.Header.{mark_bytes}
use Rattle.build_records.specs.RecordsWritten.{length_begin, record_done}
use Rattle.build_records.specs.Plan.{body_at, start_at, body_size, plan_short, Writing, record_room, record_begun}
use native.Mathlib.Omega.{arith}
use Rattle.build_records.proofs.records.write_record.Goals as goal

pub body_size-requires : goal.body_size-requires
body_size-requires c =
    let a = c.args in
    let w = c.requires.0 in
    (plan_short a.list.now a.plan w.planned, w.below)

pub begin_record-requires : goal.begin_record-requires
begin_record-requires c =
    let a = c.args in
    omega (arith, record_room a.list.now a.plan a.i a.out.now c.requires.0)

pub fill_body-requires : goal.fill_body-requires
fill_body-requires c =
    let a = c.args in
    let mark = c.mark.result in
    let size = c.body_size.result in
    (subst (Writing a.list.now a.plan a.i) (sym c.begin_record.ensures) (record_begun a.list.now a.plan a.i a.out.now c.requires.0 (mark_bytes mark ++ le32 size) (length_begin mark size)), c.requires.1)

pub returns : goal.returns
returns c =
    let a = c.args in
    let w = c.requires.0 in
    let sized = body_size a.list.now a.plan w.planned a.i in
    record_done a.out.now _ _ a.i (start_at a.plan a.i) _ (body_at a.list.now a.plan a.i) _ c.mark.ensures (c.body_size.ensures.0 ∙ sym sized)
    (omega (arith, record_room a.list.now a.plan a.i a.out.now w, sized)) c.begin_record.ensures c.fill_body.ensures
