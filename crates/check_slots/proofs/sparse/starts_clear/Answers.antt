-- The loop: the entries of the word before j are judged, and the starts from j on are left.
use Rattle.spec.specs.Bytes.{Bytes}
use mathlib.Core.Path.{◌≡◌, sym, ap, ◌∙◌}
use Prim.Native.Nat.{ℕ, ◌+◌, ◌*◌, ◌-◌, ◌/◌, ◌≤◌, ◌<◌}
use native.Mathlib.Omega.{arith}
use mathlib.Core.Bool.{Bool, true≢false}
use lib.Count.{count_trailing_zeros}
use Rattle.check_levels.specs.Ranges.{all_from}
use Rattle.check_slots.specs.WordDigits.{lowest_within, lowest_rest}
use Rattle.check_slots.specs.SparseWords.{starts_end, start_last, start_fail, start_pass}
use Rattle.check_slots.specs.Entries.{clear_slot, exact_test}
use Rattle.check_slots.specs.declared.sparse.SparseSlots.{SparseSlots}
use mir.Val.{Fits}
use mir.Syntax.{w64}
use Rattle.check_slots.proofs.sparse.starts_clear.Goals as goal

-- the entries from one on
abbrev left : Bytes → Bytes → Bytes → Bytes → SparseSlots → ℕ → Bool
left sl sc sb sv z i = all_from (exact_test sl sc sb sv z) i (z.entries - i)

fits_few : (j : ℕ) {t : ℕ} → j + t < 64 → Fits w64 t × Fits w64 (j + t)
fits_few j h = (record { fits = omega arith }, record { fits = omega arith })

fits_entry : (q n : ℕ) {i : ℕ} → 64 * q < n → n < 4294967296 → i < 64 → Fits w64 (64 * q) × Fits w64 (64 * q + i) × Fits w64 (64 * q + i + 1)
fits_entry q n h l k = (record { fits = omega arith }, record { fits = omega arith }, record { fits = omega arith })

fits_next : (j t : ℕ) → j + t < 64 → Fits w64 (j + t + 1)
fits_next j t h = record { fits = omega arith }

entry_below : {p n : ℕ} → p + 1 < n → p < n
entry_below h = omega arith

closer : (j t : ℕ) → j + t < 64 → 64 - (j + t + 1) < 64 - j
closer j t h = omega arith

below_end : (j t : ℕ) → j + t < 64 → j + t + 1 ≤ 64
below_end j t h = omega arith

step_below : (j t : ℕ) → j + t < 64 → t < 64
step_below j t h = omega arith

pub loop-rest-init : goal.loop-rest-init
loop-rest-init c =
    let a = c.args in
    let e : 64 * a.word.number ≡ 64 * a.word.number + 0 = omega arith in
    let d : a.starts / 1 ≡ a.starts = omega arith in
    (omega arith, sym d, λ sb s. ap (left a.sl.now a.sc.now sb a.sv.now a.z) e)

pub overflow_cast-step : goal.overflow_cast-step
overflow_cast-step c =
    let a = c.args in
    let l = c.loop-rest in
    let some = c.loop-rest-test.true in
    let w = lowest_within a.starts l.j l.rest l.invariant.1 (omega arith) some in
    (fits_few l.j w).0

pub overflow_add-at : goal.overflow_add-at
overflow_add-at c =
    let a = c.args in
    let l = c.loop-rest in
    let some = c.loop-rest-test.true in
    let w = lowest_within a.starts l.j l.rest l.invariant.1 (omega arith) some in
    (fits_few l.j w).1

pub overflow_mul-word : goal.overflow_mul-word
overflow_mul-word c =
    let a = c.args in
    let l = c.loop-rest in
    let some = c.loop-rest-test.true in
    let p = c.requires in
    let w = lowest_within a.starts l.j l.rest l.invariant.1 (omega arith) some in
    (fits_entry a.word.number a.z.entries p.1.some p.0.few_entries w).0

pub overflow_add-word : goal.overflow_add-word
overflow_add-word c =
    let a = c.args in
    let l = c.loop-rest in
    let some = c.loop-rest-test.true in
    let p = c.requires in
    let w = lowest_within a.starts l.j l.rest l.invariant.1 (omega arith) some in
    (fits_entry a.word.number a.z.entries p.1.some p.0.few_entries w).1

pub overflow_add-word-in-loop-rest : goal.overflow_add-word-in-loop-rest
overflow_add-word-in-loop-rest c =
    let a = c.args in
    let l = c.loop-rest in
    let some = c.loop-rest-test.true in
    let p = c.requires in
    let w = lowest_within a.starts l.j l.rest l.invariant.1 (omega arith) some in
    (fits_entry a.word.number a.z.entries p.1.some p.0.few_entries w).2

pub returns-then-z-word : goal.returns-then-z-word
returns-then-z-word c =
    let a = c.args in
    let l = c.loop-rest in
    let some = c.loop-rest-test.true in
    λ sb s. record { passed = λ t. l.invariant.2 sb s ∙ start_last (clear_slot a.sv.now a.z) a.sl.now a.sc.now sb a.z.entries a.z.first.0 a.word.number a.starts s l.j l.rest l.invariant.0 l.invariant.1 some c.if-z-word.true; failed = λ t. absurd (true≢false t) }

pub entry_clear-requires : goal.entry_clear-requires
entry_clear-requires c =
    let a = c.args in
    let l = c.loop-rest in
    let some = c.loop-rest-test.true in
    let p = c.requires in
    let w = lowest_within a.starts l.j l.rest l.invariant.1 (omega arith) some in
    (p.0, record { word = p.1; inside = w; some = entry_below c.if-z-word.false })

pub returns-then-not-entry_clear : goal.returns-then-not-entry_clear
returns-then-not-entry_clear c =
    let a = c.args in
    let l = c.loop-rest in
    let some = c.loop-rest-test.true in
    λ sb s. record { passed = λ t. absurd (true≢false (sym t)); failed = λ t. l.invariant.2 sb s ∙ start_fail (clear_slot a.sv.now a.z) a.sl.now a.sc.now sb a.z.entries a.z.first.0 a.word.number a.starts s l.j l.rest l.invariant.0 l.invariant.1 some c.if-z-word.false (sym c.entry_clear.ensures ∙ c.if-not-entry_clear.true) }

pub overflow_shr-rest : goal.overflow_shr-rest
overflow_shr-rest c =
    let a = c.args in
    let l = c.loop-rest in
    let some = c.loop-rest-test.true in
    let w = lowest_within a.starts l.j l.rest l.invariant.1 (omega arith) some in
    step_below l.j (count_trailing_zeros 64 l.rest) w

pub overflow_add-j : goal.overflow_add-j
overflow_add-j c =
    let a = c.args in
    let l = c.loop-rest in
    let some = c.loop-rest-test.true in
    let w = lowest_within a.starts l.j l.rest l.invariant.1 (omega arith) some in
    fits_next l.j (count_trailing_zeros 64 l.rest) w

pub loop-rest-smaller : goal.loop-rest-smaller
loop-rest-smaller c =
    let a = c.args in
    let l = c.loop-rest in
    let some = c.loop-rest-test.true in
    let w = lowest_within a.starts l.j l.rest l.invariant.1 (omega arith) some in
    closer l.j (count_trailing_zeros 64 l.rest) w

pub loop-rest-preserved : goal.loop-rest-preserved
loop-rest-preserved c =
    let a = c.args in
    let l = c.loop-rest in
    let some = c.loop-rest-test.true in
    let w = lowest_within a.starts l.j l.rest l.invariant.1 (omega arith) some in (
      below_end l.j (count_trailing_zeros 64 l.rest) w,
      lowest_rest a.starts l.j l.rest l.invariant.1 (omega arith) some,
      λ sb s. l.invariant.2 sb s ∙ start_pass (clear_slot a.sv.now a.z) a.sl.now a.sc.now sb a.z.entries a.z.first.0 a.word.number a.starts s l.j l.rest l.invariant.0 l.invariant.1 some c.if-z-word.false (sym c.entry_clear.ensures ∙ c.if-not-entry_clear.false),
    )

pub returns : goal.returns
returns c =
    let a = c.args in
    let l = c.loop-rest in
    λ sb s. record { passed = λ t. l.invariant.2 sb s ∙ starts_end (clear_slot a.sv.now a.z) a.sl.now a.sc.now sb a.z.entries a.z.first.0 a.word.number a.starts s l.j l.rest l.invariant.0 l.invariant.1 c.loop-rest-test.false; failed = λ t. absurd (true≢false t) }
