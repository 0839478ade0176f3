-- How the public calls for programs in other languages give a length and a verdict as one number.
use Rattle.std.specs.Prelude.{ℕ, ◌/◌, ◌%◌, ◌≡◌}
use Rattle.spec.specs.Answer.{refusal_weight}
use Rattle.spec.specs.Build.{Length, length_number, length_bytes, length_code}
use Rattle.spec.specs.Check.{Checked, accepted, refused}

-- The number r is that of the length, and it decodes.
pub record CodedLength (r : ℕ) (l : Length) : Type 0 where
  pub code : r ≡ length_code l
  -- the quotient by 2^32 is the number of the refusal, 0 for a length
  pub refusal : r / refusal_weight ≡ length_number l
  -- the rest is the bytes of the image, 0 for a refusal
  pub bytes : r % refusal_weight ≡ length_bytes l

-- the number of what check says, 0 for an accepted image
abbrev pub number_of : Checked → ℕ
number_of accepted = 0
number_of (refused r) = r
