-- The body and the samples lie within the image, so the comparison of the two parts is that of document 01.
use mathlib.Core.Path.{◌≡◌, ◌∙◌}
use Rattle.spec.specs.Bytes.{Bytes, blocks}
use Rattle.bits.specs.Bits.{part}
use Rattle.bits.proofs.SliceParts.{length_part}
use Rattle.bits.proofs.PartLaws.{bits_room, lent_part}
use Rattle.check_tables.specs.Tables.{sampled_is}
use Rattle.check_tables.proofs.judge.samples_at.Goals as goal

pub part-body-requires : goal.part-body-requires
part-body-requires c =
    rw c.bytes_for.ensures c.requires.body

pub part-samples-requires : goal.part-samples-requires
part-samples-requires c =
    c.requires.samples

pub count_samples-requires : goal.count_samples-requires
count_samples-requires c =
    let a = c.args in
    let p = c.requires in
    let s : Bytes = a.image.now in
    let body : c.part-body.result.now ≡ part s a.at (blocks 8 a.n) = lent_part s a.at c.part-body.ensures c.bytes_for.ensures in
    rw body (bits_room a.n (part s a.at (blocks 8 a.n)) (length_part s a.at (blocks 8 a.n) p.body), p.short)

pub returns : goal.returns
returns c =
    let part-call = c.part-body in
    let a = c.args in
    let s : Bytes = a.image.now in
    let body : part-call.result.now ≡ part s a.at (blocks 8 a.n) = lent_part s a.at part-call.ensures c.bytes_for.ensures in
    let r = rw (body, c.part-samples.ensures) at c.count_samples.ensures in
    (r.0, r.1 ∙ sampled_is s a.at a.n a.table a.m c.requires.body)
