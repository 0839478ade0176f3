-- How a call for programs in other languages gives an answer as one number.
use Rattle.std.specs.Prelude.{ℕ, ◌/◌, ◌%◌, ◌≡◌}
use Rattle.spec.specs.Bytes.{Bytes}
use Rattle.spec.specs.Answer.{Outcome, number, bytes_written, refusal_weight, answer_code}

-- The number r and the buffer's final bytes are those of the outcome, and r decodes.
pub record Coded (r : ℕ) (final : Bytes) (o : Outcome) : Type 0 where
  pub code : r ≡ answer_code o.answer
  -- the quotient by 2^32 is the number of the refusal, 0 for success
  pub refusal : r / refusal_weight ≡ number o.answer
  -- the rest is the bytes written, 0 for a refusal
  pub written : r % refusal_weight ≡ bytes_written o.answer
  pub buffer : final ≡ o.final
