-- The header, the twelve records and those of the version make the image.
use Rattle.build_laws.specs.Limits.{counters}
use Rattle.build_records.specs.Plan.{plan_settings, plan_short, header_room, plan_end, node_sums, image_written}
use native.Mathlib.Omega.{arith}
use Rattle.build.proofs.layout.write_image.Goals as goal

pub write_header-requires : goal.write_header-requires
write_header-requires c =
    let a = c.args in
    let pre = c.requires in
    (plan_short a.list.now a.plan pre.0, omega (arith, header_room a.list.now a.plan pre.0, pre.1, plan_end a.list.now a.plan pre.0 _ pre.2))

pub write_records-requires : goal.write_records-requires
write_records-requires c =
    let a = c.args in
    let pre = c.requires in
    (pre.0, omega (arith, pre.1, plan_end a.list.now a.plan pre.0 _ pre.2, c.write_header.auto.out), pre.2)

pub write_levels-requires : goal.write_levels-requires
write_levels-requires c =
    let a = c.args in
    let pre = c.requires in
    let kept = c.write_records.auto.out in
    (node_sums a.list.now (plan_settings a.plan) pre.0.ready _ pre.2 0 counters (omega arith), omega (arith, pre.1, plan_end a.list.now a.plan pre.0 _ pre.2, kept, c.write_header.auto.out))

pub returns : goal.returns
returns c =
    let a = c.args in
    let pre = c.requires in
    image_written a.list.now a.plan pre.0 _ pre.2 a.out.now _ _ _ pre.1 c.write_header.ensures c.write_records.ensures c.write_levels.ensures
