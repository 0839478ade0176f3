-- The three bodies lie within the image and have the lengths that the counts give.
use mathlib.Core.Path.{◌≡◌}
use Prim.Native.Nat.{ℕ, ◌*◌, ◌<◌}
use native.Mathlib.Omega.{arith}
use mir.Val.{Fits}
use mir.Syntax.{w64}
use Rattle.spec.specs.Bytes.{Bytes}
use Rattle.bits.proofs.PartLaws.{bits_room, lent_part}
use Rattle.image.specs.FrameOf.{within}
use Rattle.check_levels.specs.Bodies.{dp_body, bodies_sized}
use Rattle.check_trie.proofs.trie.dense_part_valid.Goals as goal

few : {d : ℕ} → d < 4294967296 → Fits w64 (32 * d)
few h = record { fits = omega arith }

pub overflow_mul-nodes : goal.overflow_mul-nodes
overflow_mul-nodes c =
    few c.args.image.now.framed.dense

pub part-dl-requires : goal.part-dl-requires
part-dl-requires c =
    (within c.args.image.now.bytes.now c.args.image.now.frame c.args.image.now.framed).dl

pub overflow_mul-nodes-2 : goal.overflow_mul-nodes-2
overflow_mul-nodes-2 c =
    few c.args.image.now.framed.dense

pub part-dc-requires : goal.part-dc-requires
part-dc-requires c =
    let a = c.args in
    (within a.image.now.bytes.now a.image.now.frame c.args.image.now.framed).dc

pub part-dp-requires : goal.part-dp-requires
part-dp-requires c =
    let a = c.args in
    rw c.bytes_for.ensures (within a.image.now.bytes.now a.image.now.frame c.args.image.now.framed).dp

pub dense_valid-requires : goal.dense_valid-requires
dense_valid-requires c =
    let a = c.args in
    let s : Bytes = a.image.now.bytes.now in
    let z = bodies_sized a.image.now.bytes.now a.image.now.frame c.args.image.now.framed in
    let dp : c.part-dp.result.now ≡ dp_body s a.image.now.frame = lent_part s a.image.now.frame.dp c.part-dp.ensures c.bytes_for.ensures in
    rw (c.part-dc.ensures, c.part-dl.ensures, dp) (record { labels = z.dl; children = z.dc; exacts = bits_room a.image.now.frame.dense.nodes (dp_body s a.image.now.frame) z.dp })

pub returns : goal.returns
returns c =
    let part3 = c.part-dp in
    let a = c.args in
    let s : Bytes = a.image.now.bytes.now in
    let dp : part3.result.now ≡ dp_body s a.image.now.frame = lent_part s a.image.now.frame.dp part3.ensures c.bytes_for.ensures in
    rw (c.part-dc.ensures, c.part-dl.ensures, dp) at c.dense_valid.ensures
