-- By cases of an exact leaf.
use mathlib.Core.Path.{refl, sym, ap, ◌∙◌}
use Prim.Native.Nat.{ℕ, ◌*◌}
use native.Mathlib.Omega.{arith}
use lib.ListN.{get_or}
use Rattle.spec.specs.Bytes.{Bits}
use Rattle.spec.specs.Image.{positions}
use Rattle.bits.specs.Bits.{key}
use Rattle.build_laws.specs.SlotWidths.{width_of}
use Rattle.build_laws.specs.LevelEntries.{pred}
use Rattle.build_laws.specs.PassEmissions.{leaf_level, key_slot}
use Rattle.build_laws.specs.Passes.{with_bits}
use Rattle.build_laws.specs.KeyLaws.{key_length}
use Rattle.build_keys.specs.SlotLaws.{slot_open, slot_exact, slot_done}
use Rattle.build_keys.proofs.slots.SlotWriterKeyWriter.write.Goals as goal

pub returns-then-k : goal.returns-then-k
returns-then-k c =
    let a = c.args in
    let k = a.k in
    let w = a.self.now.slot in
    let n = key_length a.s.now k.at k.len c.requires.0.within in
    let d = c.leaf_level-d.ensures.0 ∙ ap (leaf_level (pred k.first) k.next) (sym n) in
    let base = c.slot_bit-base in
    slot_done a.cur.now a.out.now _ _ _ (width_of w) base.result.0 (key_slot w (pred k.first) k.next (key a.s.now k.at k.len)) d base.ensures.0
    (c.write_suffix.ensures ∙ ap (λ (z : Bits). with_bits (positions base.result.0 z) a.out.now) (slot_open w (pred k.first) k.next k.len (key a.s.now k.at k.len) n (λ e. omega arith)))

pub returns-else-k : goal.returns-else-k
returns-else-k c =
    let a = c.args in
    let k = a.k in
    let w = a.self.now.slot in
    let n = key_length a.s.now k.at k.len c.requires.0.within in
    let d = c.leaf_level-d.ensures.0 ∙ ap (leaf_level (pred k.first) k.next) (sym n) in
    let base : ℕ = width_of w * get_or a.cur.now c.leaf_level-d.result 0 in
    slot_done a.cur.now a.out.now a.out.now _ _ (width_of w) base (key_slot w (pred k.first) k.next (key a.s.now k.at k.len)) d refl
    (slot_exact w (pred k.first) k.next k.len base (key a.s.now k.at k.len) a.out.now n c.if-k.false)
