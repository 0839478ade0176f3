-- The three bodies lie within the image and have the lengths that the counts give.
use mathlib.Core.Path.{◌≡◌}
use Rattle.spec.specs.Bytes.{Bytes}
use Rattle.bits.proofs.PartLaws.{bits_room, lent_part}
use Rattle.image.specs.FrameOf.{within}
use Rattle.check_levels.specs.Bodies.{sc_body, sb_body, bodies_sized}
use Rattle.check_trie.proofs.trie.sparse_part_valid.Goals as goal

pub part-sl-requires : goal.part-sl-requires
part-sl-requires c =
    (within c.args.image.now.bytes.now c.args.image.now.frame c.args.image.now.framed).sl

pub part-sc-requires : goal.part-sc-requires
part-sc-requires c =
    let a = c.args in
    rw c.bytes_for.ensures (within a.image.now.bytes.now a.image.now.frame c.args.image.now.framed).sc

pub part-sb-requires : goal.part-sb-requires
part-sb-requires c =
    let a = c.args in
    rw c.bytes_for-2.ensures (within a.image.now.bytes.now a.image.now.frame c.args.image.now.framed).sb

pub sparse_valid-requires : goal.sparse_valid-requires
sparse_valid-requires c =
    let part2 = c.part-sc in
    let a = c.args in
    let s : Bytes = a.image.now.bytes.now in
    let z = bodies_sized s a.image.now.frame c.args.image.now.framed in
    let sc : part2.result.now ≡ sc_body s a.image.now.frame = lent_part s a.image.now.frame.sc part2.ensures c.bytes_for.ensures in
    let sb : c.part-sb.result.now ≡ sb_body s a.image.now.frame = lent_part s a.image.now.frame.sb c.part-sb.ensures c.bytes_for-2.ensures in
    rw (c.part-sl.ensures, sc, sb) (record { labels = z.sl; children = bits_room a.image.now.frame.sparse.entries (sc_body s a.image.now.frame) z.sc; starts = bits_room a.image.now.frame.sparse.entries (sb_body s a.image.now.frame) z.sb })

pub returns : goal.returns
returns c =
    let part2 = c.part-sc in
    let part3 = c.part-sb in
    let a = c.args in
    let s : Bytes = a.image.now.bytes.now in
    let sc : part2.result.now ≡ sc_body s a.image.now.frame = lent_part s a.image.now.frame.sc part2.ensures c.bytes_for.ensures in
    let sb : part3.result.now ≡ sb_body s a.image.now.frame = lent_part s a.image.now.frame.sb part3.ensures c.bytes_for-2.ensures in
    rw (c.part-sl.ensures, sc, sb) at c.sparse_valid.ensures
