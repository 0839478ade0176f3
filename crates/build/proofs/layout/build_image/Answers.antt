-- The plan decides 8 and 7, and the image is written where neither applies.
use native.Mathlib.Omega.{arith}
use Rattle.build_records.specs.Plan.{plan_fits}
use Rattle.image.specs.Header.{asked}
use Rattle.build.proofs.ImageLaws.{length_not_stated, too_long, image_room, image_built}
use Rattle.build.proofs.layout.build_image.Goals as goal

pub image_end-end-requires : goal.image_end-end-requires
image_end-end-requires c =
    let a = c.args in
    let laid = c.lay_out-plan in
    plan_fits a.list.now.bytes.now laid.result laid.ensures.0 _ laid.ensures.2

pub returns-then-stated-end : goal.returns-then-stated-end
returns-then-stated-end c =
    let a = c.args in
    let laid = c.lay_out-plan in
    let end = c.image_end-end in
    length_not_stated a.list.now.bytes.now laid.result laid.ensures.0 _ laid.ensures.2 (asked a.list.now.settings) laid.ensures.1 end.result end.ensures a.stated a.out.now c.if-stated-end.true

pub returns-then-out-end : goal.returns-then-out-end
returns-then-out-end c =
    let a = c.args in
    let laid = c.lay_out-plan in
    let end = c.image_end-end in
    too_long a.list.now.bytes.now laid.result laid.ensures.0 _ laid.ensures.2 (asked a.list.now.settings) laid.ensures.1 end.result end.ensures a.stated a.out.now (omega arith) c.if-out-end.true

pub write_image-requires : goal.write_image-requires
write_image-requires c =
    let a = c.args in
    let laid = c.lay_out-plan in
    let end = c.image_end-end in
    (laid.ensures.0, image_room a.list.now.bytes.now laid.result laid.ensures.0 _ laid.ensures.2 (asked a.list.now.settings) laid.ensures.1 end.result end.ensures a.stated a.out.now c.if-out-end.false, laid.ensures.2)

pub returns : goal.returns
returns c =
    let a = c.args in
    let laid = c.lay_out-plan in
    let end = c.image_end-end in
    image_built a.list.now.bytes.now laid.result laid.ensures.0 _ laid.ensures.2 (asked a.list.now.settings) laid.ensures.1 end.result end.ensures a.stated a.out.now _ c.if-stated-end.false c.if-out-end.false c.write_image.ensures
