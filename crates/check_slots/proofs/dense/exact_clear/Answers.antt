-- The slots lie within the image, and the slot is the one of the leaf.
use mathlib.Core.Path.{◌≡◌, ap, ◌∙◌}
use Prim.Native.Nat.{ℕ, ◌≤◌}
use native.Mathlib.Omega.{arith}
use mir.Val.{Fits}
use mir.Syntax.{w64}
use Rattle.spec.specs.Bytes.{Bytes}
use Rattle.bits.proofs.PartLaws.{lent_part}
use Rattle.image.specs.FrameOf.{within}
use Rattle.check_levels.specs.Bodies.{sv_body}
use Rattle.check_slots.specs.SlotTests.{clear_at, slots_sized}
use Rattle.check_slots.proofs.dense.exact_clear.Goals as goal

bits_fit : {n : ℕ} → n ≤ 2097120 → Fits w64 n
bits_fit h = record { fits = omega arith }

pub overflow_mul-f : goal.overflow_mul-f
overflow_mul-f c =
    let a = c.args in
    bits_fit (within a.image.now.bytes.now a.image.now.frame c.requires.0.frame).slots

pub part-sv-requires : goal.part-sv-requires
part-sv-requires c =
    let a = c.args in
    rw c.bytes_for.ensures (within a.image.now.bytes.now a.image.now.frame c.requires.0.frame).sv

pub slot_clear-requires : goal.slot_clear-requires
slot_clear-requires c =
    let a = c.args in
    let s : Bytes = a.image.now.bytes.now in
    let sv : c.part-sv.result.now ≡ sv_body s a.image.now.frame = lent_part s a.image.now.frame.sv c.part-sv.ensures c.bytes_for.ensures in
    rw sv (slots_sized s a.image.now.frame c.requires.0.frame)

pub returns : goal.returns
returns c =
    let a = c.args in
    let s : Bytes = a.image.now.bytes.now in
    let sv : c.part-sv.result.now ≡ sv_body s a.image.now.frame = lent_part s a.image.now.frame.sv c.part-sv.ensures c.bytes_for.ensures in
    (rw sv at c.slot_clear.ensures) ∙ ap (clear_at s a.image.now.frame 0) c.dense_slot-slot.ensures
