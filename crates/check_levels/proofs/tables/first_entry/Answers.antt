-- Both are lent as parts of the image.
use Rattle.spec.specs.Bytes.{Bytes}
use Rattle.bits.proofs.ValueLaws.{Small}
use Rattle.image.specs.FrameOf.{within}
use Rattle.check_levels.specs.Indexed.{starts_sampled}
use Rattle.check_levels.proofs.tables.first_entry.Goals as goal

pub part-sb-requires : goal.part-sb-requires
part-sb-requires c =
    rw c.bytes_for.ensures (within c.args.image.now.bytes.now c.args.image.now.frame c.requires.louds.frame).sb

pub part-samples-requires : goal.part-samples-requires
part-samples-requires c =
    rw c.blocks_for.ensures (within c.args.image.now.bytes.now c.args.image.now.frame c.requires.louds.frame).ts

pub select_64-requires : goal.select_64-requires
select_64-requires c =
    let a = c.args in
    let s : Bytes = a.image.now.bytes.now in
    let small : Small s = c.args.image.now.in_range in
    rw (c.part-sb.ensures, c.bytes_for.ensures, c.part-samples.ensures, c.blocks_for.ensures) (starts_sampled s a.image.now.frame c.requires small)

pub returns : goal.returns
returns c =
    (rw (c.part-sb.ensures, c.bytes_for.ensures) at c.select_64.ensures).0
