-- The slot is the entries before it that end, behind the slots of the dense leaves.
use mathlib.Core.Path.{◌≡◌, sym, ap, ◌∙◌}
use mathlib.Core.Bool.{Bool, not, ◌||◌}
use Prim.Native.Nat.{ℕ, ◌+◌, ◌*◌, ◌-◌, ◌≤◌, ◌<◌}
use native.Mathlib.Omega.{arith}
use lib.ListN.{get_or}
use mir.Val.{Fits}
use mir.Syntax.{w64}
use borrow.Author.Tests.{eq-eqb, ne_eqb}
use Rattle.spec.specs.Bytes.{Bytes}
use Rattle.bits.specs.Bits.{rank}
use Rattle.bits.proofs.RankLaws.{rank_le}
use Rattle.check_slots.specs.SparseExact.{sparse_slot}
use Rattle.check_slots.specs.Entries.{clear_slot}
use Rattle.check_slots.proofs.sparse.entry_clear.Goals as goal

-- the entries that continue before position p, of which so many before its word and so many in it
counted : (sc : Bytes) (q j b o : ℕ) → b ≡ rank sc (64 * q) → rank sc (64 * q + j) ≡ rank sc (64 * q) + o → b + o ≡ rank sc (64 * q + j)
counted sc q j b o e h = omega arith

-- they are no more than the entries
few : {p n d r : ℕ} (b o : ℕ) → b + o ≡ r → r ≤ p → p < n → n < 4294967296 → d ≤ 65535 → Fits w64 (b + o) × (b + o ≤ p) × Fits w64 (d + (p - (b + o)))
few b o e h l k m = (record { fits = omega arith }, omega arith, record { fits = omega arith })

pub returns-then-sl-p : goal.returns-then-sl-p
returns-then-sl-p c =
    let a = c.args in
    sym (ap (λ (t : Bool). not t || clear_slot a.sv.now a.z (sparse_slot a.sc.now a.z.first.0 (64 * a.word.number + a.at.0))) (ne_eqb (get_or a.sl.now (64 * a.word.number + a.at.0) 0) 255 c.if-sl-p.true))

pub overflow_add-slot : goal.overflow_add-slot
overflow_add-slot c =
    let a = c.args in
    let p = c.requires in
    let o = c.ones_before in
    let e = counted a.sc.now a.word.number a.at.0 a.word.children o.result p.1.word.children o.ensures.0 in
    (few a.word.children o.result e (rank_le a.sc.now (64 * a.word.number + a.at.0)) p.1.some p.0.few_entries p.0.few_dense).0

pub overflow_sub-slot : goal.overflow_sub-slot
overflow_sub-slot c =
    let a = c.args in
    let p = c.requires in
    let o = c.ones_before in
    let e = counted a.sc.now a.word.number a.at.0 a.word.children o.result p.1.word.children o.ensures.0 in
    (few a.word.children o.result e (rank_le a.sc.now (64 * a.word.number + a.at.0)) p.1.some p.0.few_entries p.0.few_dense).1

pub overflow_add-slot-2 : goal.overflow_add-slot-2
overflow_add-slot-2 c =
    let a = c.args in
    let p = c.requires in
    let o = c.ones_before in
    let e = counted a.sc.now a.word.number a.at.0 a.word.children o.result p.1.word.children o.ensures.0 in
    (few a.word.children o.result e (rank_le a.sc.now (64 * a.word.number + a.at.0)) p.1.some p.0.few_entries p.0.few_dense).2

pub slot_clear-requires : goal.slot_clear-requires
slot_clear-requires c =
    c.requires.0.slots

pub returns : goal.returns
returns c =
    let a = c.args in
    let p = c.requires in
    let o = c.ones_before in
    let e = counted a.sc.now a.word.number a.at.0 a.word.children o.result p.1.word.children o.ensures.0 in
    c.slot_clear.ensures ∙ ap (λ (k : ℕ). clear_slot a.sv.now a.z (a.z.first.0 + (64 * a.word.number + a.at.0 - k))) e
    ∙ sym (ap (λ (t : Bool). not t || clear_slot a.sv.now a.z (sparse_slot a.sc.now a.z.first.0 (64 * a.word.number + a.at.0))) (eq-eqb (get_or a.sl.now (64 * a.word.number + a.at.0) 0) 255 c.if-sl-p.false))
