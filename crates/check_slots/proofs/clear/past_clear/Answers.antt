-- The loop: the slots before v are clear behind the bits that are skipped.
use mathlib.Core.Path.{refl, sym, ap, ◌∙◌}
use mathlib.Core.Bool.{Bool}
use Prim.Native.Nat.{ℕ, ◌+◌, ◌*◌, ◌-◌, ◌≤◌, ◌<◌}
use native.Mathlib.Omega.{arith}
use native.Mathlib.Nat.{mul-le-mul, mul-le-mul_right}
use mir.Val.{Fits}
use mir.Syntax.{w64}
use Rattle.spec.specs.Bytes.{Bytes}
use Rattle.check_levels.specs.Positions.{bits}
use Rattle.check_levels.specs.Ranges.{all_from, from_pass, from_fail, from_step, from_end}
use Rattle.check_slots.specs.NodeSlots.{slot_clear}
use Rattle.check_slots.specs.SlotBits.{slots_in_row, slot_fits, slot_within, slot_behind}
use Rattle.check_slots.proofs.clear.past_clear.Goals as goal

-- the test of a slot
abbrev test : Bytes → ℕ → ℕ → ℕ → ℕ → Bool
test sv leaves width skip = slot_clear skip width (bits sv (leaves * width))

-- the slots before one among so many have few bits
bits_fit : {v n w : ℕ} → v ≤ n → n ≤ 65535 → w ≤ 32 → Fits w64 (v * w)
bits_fit {v} {n} {w} h l m = record { fits = omega (arith, mul-le-mul {n₁ = v} {m₁ = w} {n₂ = 65535} {m₂ = 32} (omega arith) m) }

few : {n : ℕ} (a w k : ℕ) → a + w ≤ n → n ≤ 2097120 → k < w → Fits w64 a × Fits w64 (a + k) × Fits w64 (a + w)
few a w k h l m = (record { fits = omega arith }, record { fits = omega arith }, record { fits = omega arith })

inside : {v to n : ℕ} → v < to → to ≤ n → v < n
inside h l = omega arith

room : {x n m : ℕ} → x ≤ n → n ≤ m → x ≤ m
room h l = omega arith

narrow : {w : ℕ} (a k : ℕ) → w ≤ 32 → a + w ≤ a + k + 32
narrow a k h = omega arith

behind : {w k : ℕ} (a : ℕ) → k < w → a + k ≤ a + w
behind a h = omega arith

pub overflow_mul-from : goal.overflow_mul-from
overflow_mul-from c =
    let p = c.requires in bits_fit (room p.1 p.2) p.0.few_leaves p.0.narrow

pub overflow_mul-to : goal.overflow_mul-to
overflow_mul-to c =
    let p = c.requires in bits_fit p.2 p.0.few_leaves p.0.narrow

pub bits_clear-requires : goal.bits_clear-requires
bits_clear-requires c =
    let a = c.args in
    let p = c.requires in
    (mul-le-mul_right {m = a.from.0} {n = a.to.0} a.width p.1, room (mul-le-mul_right {m = a.to.0} {n = a.leaves} a.width p.2) p.0.room)

pub returns-then-skip-eq0 : goal.returns-then-skip-eq0
returns-then-skip-eq0 c =
    let a = c.args in
    let p = c.requires in
    let e = c.if-skip-eq0.true in
    c.bits_clear.ensures ∙ slots_in_row a.sv.now a.leaves a.width a.from.0 a.to.0 p.1 p.2
    ∙ ap (λ (k : ℕ). all_from (test a.sv.now a.leaves a.width k) a.from.0 (a.to.0 - a.from.0)) (sym e)

pub returns-then-width-skip : goal.returns-then-width-skip
returns-then-width-skip c =
    let a = c.args in
    sym (from_pass (test a.sv.now a.leaves a.width a.skip) a.from.0 (a.to.0 - a.from.0) (λ i x y. slot_within a.sv.now (a.leaves * a.width) a.width a.skip i c.if-width-skip.true))

pub loop-v-init : goal.loop-v-init
loop-v-init c =
    (c.if-width-skip.false, refl)

pub overflow_mul-at : goal.overflow_mul-at
overflow_mul-at c =
    let a = c.args in
    let p = c.requires in
    let l = c.loop-v in
    let t = slot_fits a.leaves a.width l.v (inside c.loop-v-test.true p.2) p.0.few_leaves p.0.narrow in
    (few (l.v * a.width) a.width a.skip t.0 t.1 l.invariant.0).0

pub overflow_add-at : goal.overflow_add-at
overflow_add-at c =
    let a = c.args in
    let p = c.requires in
    let l = c.loop-v in
    let t = slot_fits a.leaves a.width l.v (inside c.loop-v-test.true p.2) p.0.few_leaves p.0.narrow in
    (few (l.v * a.width) a.width a.skip t.0 t.1 l.invariant.0).1

pub overflow_add-at-in-loop-v : goal.overflow_add-at-in-loop-v
overflow_add-at-in-loop-v c =
    let a = c.args in
    let p = c.requires in
    let l = c.loop-v in
    let t = slot_fits a.leaves a.width l.v (inside c.loop-v-test.true p.2) p.0.few_leaves p.0.narrow in
    (few (l.v * a.width) a.width a.skip t.0 t.1 l.invariant.0).2

pub few_clear-requires : goal.few_clear-requires
few_clear-requires c =
    let a = c.args in
    let p = c.requires in
    let l = c.loop-v in
    let t = slot_fits a.leaves a.width l.v (inside c.loop-v-test.true p.2) p.0.few_leaves p.0.narrow in
    (behind (l.v * a.width) l.invariant.0, room t.0 p.0.room, narrow (l.v * a.width) a.skip p.0.narrow)

pub returns-then-not-few_clear : goal.returns-then-not-few_clear
returns-then-not-few_clear c =
    let a = c.args in
    let p = c.requires in
    let l = c.loop-v in
    let t = c.loop-v-test.true in
    sym (l.invariant.1 ∙ from_fail (test a.sv.now a.leaves a.width a.skip) l.v a.to.0 t
    (sym (slot_behind a.sv.now a.leaves a.width l.v (inside t p.2) p.0.few_leaves p.0.narrow a.skip l.invariant.0) ∙ sym c.few_clear.ensures ∙ c.if-not-few_clear.true))

pub loop-v-preserved : goal.loop-v-preserved
loop-v-preserved c =
    let a = c.args in
    let p = c.requires in
    let l = c.loop-v in
    let t = c.loop-v-test.true in (
      l.invariant.0,
      l.invariant.1 ∙ from_step (test a.sv.now a.leaves a.width a.skip) l.v a.to.0 t
          (sym (slot_behind a.sv.now a.leaves a.width l.v (inside t p.2) p.0.few_leaves p.0.narrow a.skip l.invariant.0) ∙ sym c.few_clear.ensures ∙ c.if-not-few_clear.false),
    )

pub returns : goal.returns
returns c =
    let a = c.args in
    let l = c.loop-v in
    sym (l.invariant.1 ∙ from_end (test a.sv.now a.leaves a.width a.skip) l.v a.to.0 c.loop-v-test.false)
