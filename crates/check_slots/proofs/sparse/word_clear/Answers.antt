-- The three bodies lie within the image and have the lengths that the counts give.
use mathlib.Core.Path.{◌≡◌}
use Prim.Native.Nat.{ℕ, ◌≤◌}
use native.Mathlib.Omega.{arith}
use mir.Val.{Fits}
use mir.Syntax.{w64}
use Rattle.spec.specs.Bytes.{Bytes}
use Rattle.bits.proofs.PartLaws.{bits_room, lent_part}
use Rattle.image.specs.FrameOf.{within}
use Rattle.check_levels.specs.Bodies.{sc_body, sb_body, sv_body, bodies_sized}
use Rattle.check_slots.specs.LevelStarts.{dense_room, dense_few}
use Rattle.check_slots.specs.SlotTests.{slots_sized}
use Rattle.check_slots.specs.Tables.{indexed}
use Rattle.check_slots.proofs.sparse.word_clear.Goals as goal

bits_fit : {n : ℕ} → n ≤ 2097120 → Fits w64 n
bits_fit h = record { fits = omega arith }

pub part-sl-requires : goal.part-sl-requires
part-sl-requires c =
    (within c.args.image.now.bytes.now c.args.image.now.frame c.requires.0.frame).sl

pub part-sc-requires : goal.part-sc-requires
part-sc-requires c =
    let a = c.args in
    rw c.bytes_for.ensures (within a.image.now.bytes.now a.image.now.frame c.requires.0.frame).sc

pub overflow_mul-f : goal.overflow_mul-f
overflow_mul-f c =
    let a = c.args in
    bits_fit (within a.image.now.bytes.now a.image.now.frame c.requires.0.frame).slots

pub part-sv-requires : goal.part-sv-requires
part-sv-requires c =
    let a = c.args in
    rw c.bytes_for-2.ensures (within a.image.now.bytes.now a.image.now.frame c.requires.0.frame).sv

pub overflow_sub-z : goal.overflow_sub-z
overflow_sub-z c =
    let a = c.args in
    let p = c.requires in
    dense_room a.image.now.bytes.now a.image.now.frame p.0 p.1

pub children_before-children-requires : goal.children_before-children-requires
children_before-children-requires c =
    let a = c.args in
    let p = c.requires in
    (indexed a.image.now.bytes.now a.image.now.frame p.0, p.2)

pub starts_clear-requires : goal.starts_clear-requires
starts_clear-requires c =
    let part2 = c.part-sc in
    let part3 = c.part-sv in
    let a = c.args in
    let s : Bytes = a.image.now.bytes.now in
    let sc : part2.result.now ≡ sc_body s a.image.now.frame = lent_part s a.image.now.frame.sc part2.ensures c.bytes_for.ensures in
    let sv : part3.result.now ≡ sv_body s a.image.now.frame = lent_part s a.image.now.frame.sv part3.ensures c.bytes_for-2.ensures in
    let p = c.requires in
    let z = bodies_sized s a.image.now.frame p.0.frame in
    rw (c.part-sl.ensures, sc, sv) (
      record {
        labels = z.sl;
        children = bits_room a.image.now.frame.sparse.entries (sc_body s a.image.now.frame) z.sc;
        slots = slots_sized s a.image.now.frame p.0.frame;
        few_entries = p.0.frame.entries;
        few_dense = dense_few s a.image.now.frame p.0 p.1;
      },
      record { some = p.2; children = c.children_before-children.ensures },
    )

pub returns : goal.returns
returns c =
    let part2 = c.part-sc in
    let part3 = c.part-sv in
    let a = c.args in
    let s : Bytes = a.image.now.bytes.now in
    let sc : part2.result.now ≡ sc_body s a.image.now.frame = lent_part s a.image.now.frame.sc part2.ensures c.bytes_for.ensures in
    let sv : part3.result.now ≡ sv_body s a.image.now.frame = lent_part s a.image.now.frame.sv part3.ensures c.bytes_for-2.ensures in
    let p = c.requires in
    (rw (c.part-sl.ensures, sc, sv) at c.starts_clear.ensures) (sb_body s a.image.now.frame) p.3
