-- A slot ends within the bits of all slots.
use mathlib.Core.Path.{sym, ◌∙◌}
use Prim.Native.Nat.{ℕ, ◌+◌, ◌*◌, ◌≤◌}
use native.Mathlib.Omega.{arith}
use mir.Val.{Fits}
use mir.Syntax.{w64}
use Rattle.check_slots.specs.SlotBits.{slot_fits, slot_past, slot_whole}
use Rattle.check_slots.proofs.clear.slot_clear.Goals as goal

few : {n : ℕ} (a w : ℕ) → a + w ≤ n → n ≤ 2097120 → Fits w64 a × Fits w64 (a + w)
few a w h l = (record { fits = omega arith }, record { fits = omega arith })

room : {x n m : ℕ} → x ≤ n → n ≤ m → x ≤ m
room h l = omega arith

narrow : {w : ℕ} (a : ℕ) → w ≤ 32 → a + w ≤ a + 32
narrow a h = omega arith

pub returns-then-leaves-slot : goal.returns-then-leaves-slot
returns-then-leaves-slot c =
    let a = c.args in
    sym (slot_past a.sv.now a.leaves a.width 0 a.slot.0 c.if-leaves-slot.true)

pub overflow_mul-at : goal.overflow_mul-at
overflow_mul-at c =
    let a = c.args in
    let p = c.requires in
    let t = slot_fits a.leaves a.width a.slot.0 c.if-leaves-slot.false p.few_leaves p.narrow in
    (few (a.slot.0 * a.width) a.width t.0 t.1).0

pub overflow_add-at : goal.overflow_add-at
overflow_add-at c =
    let a = c.args in
    let p = c.requires in
    let t = slot_fits a.leaves a.width a.slot.0 c.if-leaves-slot.false p.few_leaves p.narrow in
    (few (a.slot.0 * a.width) a.width t.0 t.1).1

pub few_clear-requires : goal.few_clear-requires
few_clear-requires c =
    let a = c.args in
    let p = c.requires in
    let t = slot_fits a.leaves a.width a.slot.0 c.if-leaves-slot.false p.few_leaves p.narrow in
    (omega arith, room t.0 p.room, narrow (a.slot.0 * a.width) p.narrow)

pub returns : goal.returns
returns c =
    let a = c.args in
    let p = c.requires in
    c.few_clear.ensures ∙ slot_whole a.sv.now a.leaves a.width a.slot.0 c.if-leaves-slot.false p.few_leaves p.narrow
