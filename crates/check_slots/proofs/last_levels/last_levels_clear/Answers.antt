-- Both levels are found, and their slots are consecutive; a trie with fewer levels has none there.
use mathlib.Core.Path.{◌≡◌, refl, sym, ap₂, ◌∙◌}
use mathlib.Core.Bool.{◌&&◌}
use Prim.Native.Nat.{ℕ, ◌+◌, ◌-◌, ◌≤◌, ◌<◌}
use native.Mathlib.Omega.{arith}
use mir.Val.{Fits}
use mir.Syntax.{w64}
use Rattle.spec.specs.Bytes.{Bytes}
use Rattle.bits.proofs.PartLaws.{lent_part}
use Rattle.image.specs.declared.Frame.{Frame}
use Rattle.image.specs.FrameOf.{within}
use Rattle.check_levels.specs.declared.Level.{Level}
use Rattle.check_levels.specs.Bodies.{sv_body}
use Rattle.check_levels.specs.Levels.{node_count, LevelOf}
use Rattle.check_levels.specs.Ranges.{all_from}
use Rattle.check_slots.specs.Passed.{PassedTo15}
use Rattle.check_slots.specs.SlotTests.{clear_at, level_slot, slots_up, slots_within, slots_sized}
use Rattle.check_slots.specs.LastLevels.{LevelAt, SlotRoom, slot_of, next_behind, level_first, level_below, slot_room, slot_is, last_levels_none}
use Rattle.check_slots.proofs.last_levels.last_levels_clear.Goals as goal

nodes_fit : {d n : ℕ} → d < 4294967296 → n < 4294967296 → Fits w64 (d + n)
nodes_fit h l = record { fits = omega arith }

bits_fit : {n : ℕ} → n ≤ 2097120 → Fits w64 n
bits_fit h = record { fits = omega arith }

same_order : {x y v w : ℕ} → x ≡ v → y ≡ w → v ≤ w → x ≤ y
same_order a b h = omega arith

-- the dense levels are above level 62
shallow : {l : ℕ} → l ≤ 4 → (l ≤ 62) × (l ≤ 63)
shallow h = (omega arith, omega arith)

-- level 62 and the one below it
module _ (s : Bytes) (f : Frame) (j : PassedTo15 s f) (some : 0 < f.leaves) (l : Level) (a : LevelAt s f 62 l) (m : l.node.0 < node_count f) (n : Level) (o : LevelOf s f n) (e : n.node.0 ≡ l.branches + 1) where
  low : (f.dense.levels ≤ 62) × (f.dense.levels ≤ 63)
  low = shallow j.frame.dense_range

  under : LevelAt s f 63 n
  under = level_below s f j some 62 (omega arith) l a m n o e

  rooms : SlotRoom f l × SlotRoom f n
  rooms = (slot_room s f j some 62 low.0 (omega arith) l a, slot_room s f j some 63 low.1 (omega arith) n under)

  starts : (slot_of f l ≡ level_slot s f 62) × (slot_of f n ≡ level_slot s f 63)
  starts = (slot_is s f j some 62 low.0 (omega arith) l a, slot_is s f j some 63 low.1 (omega arith) n under)

pub find_level-level-requires : goal.find_level-level-requires
find_level-level-requires c =
    let p = c.requires in
    (p.0, p.1, (shallow p.0.frame.dense_range).0, omega arith)

pub overflow_add-f : goal.overflow_add-f
overflow_add-f c =
    let o = c.requires.0.frame in nodes_fit o.dense o.sparse

pub returns-then-f-level : goal.returns-then-f-level
returns-then-f-level c =
    let a = c.args in
    let p = c.requires in
    sym (last_levels_none a.image.now.bytes.now a.image.now.frame p.0 p.1 (rw c.find_level-level.ensures.start at c.if-f-level.true))

pub level_below-below-requires : goal.level_below-below-requires
level_below-below-requires c =
    let a = c.args in
    let p = c.requires in
    let r = c.find_level-level in
    let low = (shallow p.0.frame.dense_range).0 in (
      p.0,
      p.1,
      next_behind a.image.now.bytes.now a.image.now.frame p.0 p.1 62 (omega arith) r.result r.ensures c.if-f-level.false,
      level_first a.image.now.bytes.now a.image.now.frame p.0 p.1 62 low (omega arith) r.result r.ensures,
    )

pub first_slot-from-requires : goal.first_slot-from-requires
first_slot-from-requires c =
    let a = c.args in
    let p = c.requires in
    let r = c.find_level-level in
    let n = c.level_below-below in
    (rooms a.image.now.bytes.now a.image.now.frame p.0 p.1 r.result r.ensures c.if-f-level.false n.result n.ensures.0 n.ensures.1).0

pub first_slot-to-requires : goal.first_slot-to-requires
first_slot-to-requires c =
    let a = c.args in
    let p = c.requires in
    let r = c.find_level-level in
    let n = c.level_below-below in
    (rooms a.image.now.bytes.now a.image.now.frame p.0 p.1 r.result r.ensures c.if-f-level.false n.result n.ensures.0 n.ensures.1).1

pub overflow_mul-f : goal.overflow_mul-f
overflow_mul-f c =
    let a = c.args in
    bits_fit (within a.image.now.bytes.now a.image.now.frame c.requires.0.frame).slots

pub part-sv-requires : goal.part-sv-requires
part-sv-requires c =
    let a = c.args in
    rw c.bytes_for.ensures (within a.image.now.bytes.now a.image.now.frame c.requires.0.frame).sv

pub overflow_add-f-2 : goal.overflow_add-f-2
overflow_add-f-2 c =
    let o = c.requires.0.frame in omega (arith, o.real_range, o.hash_range, o.width)

pub past_clear-requires : goal.past_clear-requires
past_clear-requires c =
    let lent : c.part-sv.result.now ≡ sv_body c.args.image.now.bytes.now c.args.image.now.frame = lent_part c.args.image.now.bytes.now c.args.image.now.frame.sv c.part-sv.ensures c.bytes_for.ensures in
    let slots : (c.first_slot-from.result.0 ≡ level_slot c.args.image.now.bytes.now c.args.image.now.frame 62) × (c.first_slot-to.result.0 ≡ level_slot c.args.image.now.bytes.now c.args.image.now.frame 63) = let p = c.requires in
    let r = c.find_level-level in
    let n = c.level_below-below in
    let t = starts c.args.image.now.bytes.now c.args.image.now.frame p.0 p.1 r.result r.ensures c.if-f-level.false n.result n.ensures.0 n.ensures.1 in
    (c.first_slot-from.ensures ∙ t.0, c.first_slot-to.ensures ∙ t.1) in
    let p = c.requires in
    (rw lent (slots_sized c.args.image.now.bytes.now c.args.image.now.frame p.0.frame), same_order slots.0 slots.1 (slots_up c.args.image.now.bytes.now c.args.image.now.frame p.0 p.1), same_order slots.1 refl (slots_within c.args.image.now.bytes.now c.args.image.now.frame p.0 p.1))

pub past_clear-requires-2 : goal.past_clear-requires-2
past_clear-requires-2 c =
    let lent : c.part-sv.result.now ≡ sv_body c.args.image.now.bytes.now c.args.image.now.frame = lent_part c.args.image.now.bytes.now c.args.image.now.frame.sv c.part-sv.ensures c.bytes_for.ensures in
    let slots : (c.first_slot-from.result.0 ≡ level_slot c.args.image.now.bytes.now c.args.image.now.frame 62) × (c.first_slot-to.result.0 ≡ level_slot c.args.image.now.bytes.now c.args.image.now.frame 63) = let p = c.requires in
    let r = c.find_level-level in
    let n = c.level_below-below in
    let t = starts c.args.image.now.bytes.now c.args.image.now.frame p.0 p.1 r.result r.ensures c.if-f-level.false n.result n.ensures.0 n.ensures.1 in
    (c.first_slot-from.ensures ∙ t.0, c.first_slot-to.ensures ∙ t.1) in
    let p = c.requires in
    (rw lent (slots_sized c.args.image.now.bytes.now c.args.image.now.frame p.0.frame), same_order slots.1 refl (slots_within c.args.image.now.bytes.now c.args.image.now.frame p.0 p.1), omega arith)

pub returns : goal.returns
returns c =
    let lent : c.part-sv.result.now ≡ sv_body c.args.image.now.bytes.now c.args.image.now.frame = lent_part c.args.image.now.bytes.now c.args.image.now.frame.sv c.part-sv.ensures c.bytes_for.ensures in
    let slots : (c.first_slot-from.result.0 ≡ level_slot c.args.image.now.bytes.now c.args.image.now.frame 62) × (c.first_slot-to.result.0 ≡ level_slot c.args.image.now.bytes.now c.args.image.now.frame 63) = let p = c.requires in
    let r = c.find_level-level in
    let n = c.level_below-below in
    let t = starts c.args.image.now.bytes.now c.args.image.now.frame p.0 p.1 r.result r.ensures c.if-f-level.false n.result n.ensures.0 n.ensures.1 in
    (c.first_slot-from.ensures ∙ t.0, c.first_slot-to.ensures ∙ t.1) in
    let s = c.args.image.now.bytes.now in
    let f = c.args.image.now.frame in
    ap₂ ◌&&◌ (rw lent at c.past_clear.ensures) (rw lent at c.past_clear-2.ensures)
    ∙ ap₂ (λ (v w : ℕ). all_from (clear_at s f (f.hash_width + 8)) v (w - v) && all_from (clear_at s f f.hash_width) w (f.leaves - w)) slots.0 slots.1
