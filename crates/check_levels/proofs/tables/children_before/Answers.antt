-- Both are lent as parts of the image.
use Prim.Native.Nat.{ℕ, ◌*◌, ◌<◌}
use mathlib.Core.Path.{◌≡◌}
use native.Mathlib.Omega.{arith}
use mir.Val.{Fits}
use mir.Syntax.{w64}
use Rattle.spec.specs.Bytes.{Bytes, blocks}
use Rattle.bits.proofs.ValueLaws.{Small}
use Rattle.image.specs.FrameOf.{within}
use Rattle.check_levels.specs.Indexed.{entries_ranked}
use Rattle.check_levels.proofs.tables.children_before.Goals as goal

few : {n k : ℕ} → k ≡ blocks 512 n → n < 4294967296 → Fits w64 (4 * k)
few e h = record { fits = omega arith }

pub part-sc-requires : goal.part-sc-requires
part-sc-requires c =
    rw c.bytes_for.ensures (within c.args.image.now.bytes.now c.args.image.now.frame c.requires.0.louds.frame).sc

pub overflow_mul-blocks_for : goal.overflow_mul-blocks_for
overflow_mul-blocks_for c =
    few c.blocks_for.ensures c.requires.0.louds.frame.entries

pub part-ranks-requires : goal.part-ranks-requires
part-ranks-requires c =
    rw c.blocks_for.ensures (within c.args.image.now.bytes.now c.args.image.now.frame c.requires.0.louds.frame).rs

pub rank_by_table-requires : goal.rank_by_table-requires
rank_by_table-requires c =
    let a = c.args in
    let s : Bytes = a.image.now.bytes.now in
    let small : Small s = c.args.image.now.in_range in
    rw (c.part-sc.ensures, c.bytes_for.ensures, c.part-ranks.ensures, c.blocks_for.ensures) (entries_ranked s a.image.now.frame c.requires.0 small, omega arith, omega arith, omega arith)

pub returns : goal.returns
returns c =
    rw (c.part-sc.ensures, c.bytes_for.ensures) at c.rank_by_table.ensures
