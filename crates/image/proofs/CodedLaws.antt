-- An answer as one number decodes, because no call writes 2^32 bytes.
use Prim.Native.Nat.{ℕ, ◌<◌}
use mathlib.Core.Path.{◌≡◌, refl, ap, ◌∙◌}
use native.Mathlib.Omega.{arith}
use Rattle.spec.specs.Bytes.{Bytes}
use Rattle.spec.specs.Answer.{Answer, Outcome, written, refused, bytes_written, refusal_weight, answer_code}
use Rattle.std.specs.Prelude.{Result}
use Rattle.image.specs.declared.refusals.Refusal.{Refusal}
use Rattle.image.specs.Refusals.{by_number}
use Rattle.image.specs.Outcomes.{answer_of, numbered_outcome, outcome}
use Rattle.image.specs.Codes.{Coded}

-- the bytes of an answer are few, where those of a success are
few_bytes : (a : Answer) → ((n : ℕ) → a ≡ written n → n < refusal_weight) → bytes_written a < refusal_weight
few_bytes (written n) h = h n refl
few_bytes (refused r) h = omega arith

-- The number of an outcome whose bytes are few decodes.
pub coded : (w : Result ℕ ℕ) (final : Bytes) (o : Outcome) (r : ℕ) → numbered_outcome w final ≡ o → r ≡ answer_code (answer_of w) → ((n : ℕ) → o.answer ≡ written n → n < refusal_weight) → Coded r final o
coded w final o r e f h =
    let c : r ≡ answer_code o.answer = f ∙ ap (λ (p : Outcome). answer_code p.answer) e in
    let few = few_bytes o.answer h in
    record { code = c; refusal = omega arith; written = omega arith; buffer = ap (λ (p : Outcome). p.final) e }

-- So does that of a call's outcome, whose refusal is given by its number.
pub coded_by_number : (w : Result ℕ Refusal) (j : Result ℕ ℕ) (final : Bytes) (o : Outcome) (r : ℕ) → outcome w final ≡ o → j ≡ by_number w → r ≡ answer_code (answer_of j) → ((n : ℕ) → o.answer ≡ written n → n < refusal_weight) → Coded r final o
coded_by_number w j final o r e i f h = coded j final o r (ap (λ (k : Result ℕ ℕ). numbered_outcome k final) i ∙ e) f h
