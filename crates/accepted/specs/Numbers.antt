-- What a call over an accepted image answers, as the definition's number or refusal, and what judging keys says.
use Rattle.std.specs.Prelude.{ℕ, ◌<◌, ◌≤◌, ◌≡◌, Result, Ok, Err, length}
use Rattle.spec.specs.Bytes.{Bytes}
use Rattle.spec.specs.OneQuestion.{bounds_refusal, Numbered, number, refused_with}
use Rattle.image.specs.declared.refusals.Refusal.{Refusal}
use Rattle.image.specs.Refusals.{number_of}

-- what judging a key says: it has at most 64 bytes; or it is turned down with 22
abbrev pub KeyJudged : Bytes → Result (Unit {0}) Refusal → Type 0
KeyJudged k (Ok _) = length k ≤ 64
KeyJudged k (Err r) = (64 < length k) × (number_of r ≡ 22)

-- what judging two bounds says: they are taken; or the number with which they are turned down
abbrev pub BoundsJudged : Bytes → Bytes → Result (Unit {0}) Refusal → Type 0
BoundsJudged lo hi (Ok _) = bounds_refusal lo hi ≡ 0
BoundsJudged lo hi (Err r) = bounds_refusal lo hi ≡ number_of r

-- the number and the values of each case of the answer
abbrev pub numbered_of : Result ℕ Refusal → Numbered
numbered_of (Ok n) = number n
numbered_of (Err r) = refused_with (number_of r)
