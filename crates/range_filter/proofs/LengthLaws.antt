-- A length as one number decodes, because no image has 2^32 bytes.
use Prim.Native.Nat.{ℕ, ◌<◌}
use mathlib.Core.Path.{◌≡◌, refl, ap, ◌∙◌}
use native.Mathlib.Omega.{arith}
use Rattle.spec.specs.Answer.{refusal_weight}
use Rattle.spec.specs.Build.{length_bytes, length_code}
use Rattle.std.specs.Prelude.{Result, Ok, Err}
use Rattle.spec.specs.Answer.{answer_code}
use Rattle.image.specs.declared.refusals.Refusal.{Refusal}
use Rattle.image.specs.Refusals.{by_number}
use Rattle.image.specs.Outcomes.{answer_of}
use Rattle.build.specs.Build.{length_of}
use Rattle.range_filter.specs.Filter.{CodedLength}
use Rattle.spec.specs.Build as Build

-- the bytes of a length are few, where those that are given are
few_length_bytes : (l : Build.Length) → ((n : ℕ) → l ≡ Build.bytes n → n < refusal_weight) → length_bytes l < refusal_weight
few_length_bytes (Build.bytes n) h = h n refl
few_length_bytes (Build.refused r) h = omega arith

-- A length and an answer of the same bytes or refusal are the same number.
same_code : (w : Result ℕ Refusal) → answer_code (answer_of (by_number w)) ≡ length_code (length_of w)
same_code (Ok n) = refl
same_code (Err r) = refl

-- The number of a length whose bytes are few decodes.
pub coded_length : (w : Result ℕ Refusal) (j : Result ℕ ℕ) (l : Build.Length) (r : ℕ) → length_of w ≡ l → j ≡ by_number w → r ≡ answer_code (answer_of j) → ((n : ℕ) → l ≡ Build.bytes n → n < refusal_weight) → CodedLength r l
coded_length w j l r e i f h =
    let c : r ≡ length_code l = f ∙ ap (λ (k : Result ℕ ℕ). answer_code (answer_of k)) i ∙ same_code w ∙ ap length_code e in
    let few = few_length_bytes l h in
    record { code = c; refusal = omega arith; bytes = omega arith }
