-- The ones of the bodies, each counted beside its table; the sum fits, since there are no more ones than bits.
use Prim.Native.Nat.{◌+◌, ◌*◌}
use mathlib.Core.Path.{ap₂, ◌∙◌}
use mathlib.Core.Bool.{◌&&◌}
use native.Mathlib.Omega.{arith}
use Rattle.bits.specs.Bits.{part}
use Rattle.bits.proofs.RankLaws.{rank_le}
use Rattle.bits.proofs.PartLaws.{rank_part}
use Rattle.spec.specs.Bytes.{blocks}
use Rattle.check_frame.proofs.count_dense.Goals as goal

pub overflow_add-entries : goal.overflow_add-entries
overflow_add-entries c =
    let s = c.args.image.now in
    let f = c.args.f in
    let labels = c.ranks_at-labels.ensures.0 in
    let exacts = c.ranks_at-exacts.ensures.0 in
    omega (arith, c.requires.few, rank_le (part s f.dl (blocks 8 (256 * f.dense.nodes))) (256 * f.dense.nodes), rank_le (part s f.dp (blocks 8 f.dense.nodes)) f.dense.nodes)

pub returns : goal.returns
returns c =
    let s = c.args.image.now in
    let f = c.args.f in
    let n = f.dense.nodes in
    let labels = c.ranks_at-labels.ensures in
    let children = c.ranks_at-children.ensures in
    let exacts = c.ranks_at-exacts.ensures in (
      record {
        children = children.0 ∙ rank_part s f.dc (blocks 8 (256 * n)) (256 * n) (omega arith);
        entries = ap₂ ◌+◌ (labels.0 ∙ rank_part s f.dl (blocks 8 (256 * n)) (256 * n) (omega arith)) (exacts.0 ∙ rank_part s f.dp (blocks 8 n) n (omega arith));
      },
      ap₂ ◌&&◌ (ap₂ ◌&&◌ labels.1 children.1) exacts.1,
    )
