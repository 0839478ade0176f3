-- The frame of the header is that of the image, once its dense nodes are counted.
use Rattle.check_frame.specs.FrameLaws.{uncounted, frame_laid, dense_laid}
use Rattle.check_frame.proofs.laid_out.Goals as goal

pub count_dense-counts-requires : goal.count_dense-counts-requires
count_dense-counts-requires c =
    rw c.frame_at-frame.ensures (dense_laid c.args.image.now c.args.h uncounted c.requires)

pub invariant_of-framed-clause-framed : goal.invariant_of-framed-clause-framed
invariant_of-framed-clause-framed c =
    let e = rw c.frame_at-frame.ensures at c.count_dense-counts.ensures in
    rw c.frame_at-frame.ensures (frame_laid c.args.image.now c.args.h c.count_dense-counts.result.totals c.requires e.0)
