-- The plan's end is the image's length.
use Rattle.build_records.specs.Plan.{plan_fits}
use Rattle.image.specs.Header.{asked}
use Rattle.build.proofs.ImageLaws.{image_end}
use Rattle.build.proofs.layout.measure_image.Goals as goal

pub image_end-requires : goal.image_end-requires
image_end-requires c =
    let a = c.args in
    let laid = c.lay_out-plan in
    plan_fits a.list.now.bytes.now laid.result laid.ensures.0 _ laid.ensures.2

pub returns : goal.returns
returns c =
    let a = c.args in
    let laid = c.lay_out-plan in
    image_end a.list.now.bytes.now laid.result laid.ensures.0 _ laid.ensures.2 (asked a.list.now.settings) laid.ensures.1 _ c.image_end.ensures
