-- D-IsPrefixKey lies within the image, and its next set bit is the next exact leaf.
use mathlib.Core.Path.{◌≡◌}
use Rattle.spec.specs.Bytes.{Bytes}
use Rattle.bits.proofs.PartLaws.{bits_room, lent_part}
use Rattle.image.specs.FrameOf.{within}
use Rattle.check_levels.specs.Bodies.{dp_body, bodies_sized}
use Rattle.check_slots.specs.DenseSlots.{exact_select}
use Rattle.check_slots.proofs.dense.next_exact.Goals as goal

pub part-dp-requires : goal.part-dp-requires
part-dp-requires c =
    let a = c.args in
    rw c.bytes_for.ensures (within a.image.now.bytes.now a.image.now.frame c.requires.0.frame).dp

pub next_one-requires : goal.next_one-requires
next_one-requires c =
    let a = c.args in
    let p = c.requires in
    let s : Bytes = a.image.now.bytes.now in
    let dp : c.part-dp.result.now ≡ dp_body s a.image.now.frame = lent_part s a.image.now.frame.dp c.part-dp.ensures c.bytes_for.ensures in
    rw dp (bits_room a.image.now.frame.dense.nodes (dp_body s a.image.now.frame) (bodies_sized s a.image.now.frame p.0.frame).dp, p.1)

pub returns : goal.returns
returns c =
    let a = c.args in
    let p = c.requires in
    let s : Bytes = a.image.now.bytes.now in
    let dp : c.part-dp.result.now ≡ dp_body s a.image.now.frame = lent_part s a.image.now.frame.dp c.part-dp.ensures c.bytes_for.ensures in
    let e = rw dp at c.next_one.ensures in
    exact_select (dp_body s a.image.now.frame) a.image.now.frame.dense.nodes a.from.0 _ p.1 e.0 e.1 e.2
