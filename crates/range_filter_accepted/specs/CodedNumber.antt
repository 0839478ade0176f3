-- How a call over an accepted image gives the answer to one question as one number.
use Rattle.std.specs.Prelude.{ℕ, ◌/◌, ◌%◌, ◌≡◌}
use Rattle.spec.specs.Answer.{refusal_weight}
use Rattle.spec.specs.OneQuestion.{Numbered, refusal_number, given_number, numbered_code}

-- The number r is that of the answer to one question, and it decodes.
pub record CodedNumber (r : ℕ) (a : Numbered) : Type 0 where
  pub code : r ≡ numbered_code a
  -- the quotient by 2^32 is the number of the refusal, 0 for a number of a reply
  pub refusal : r / refusal_weight ≡ refusal_number a
  -- the rest is the number of a reply, 0 for a refusal
  pub number : r % refusal_weight ≡ given_number a
