-- What a call that writes into a buffer answers, as document 01's answer and outcome.
use Rattle.std.specs.Prelude.{ℕ, Result, Ok, Err}
use Rattle.spec.specs.Bytes.{Bytes}
use Rattle.spec.specs.Answer.{Answer, written, refused, Outcome}
use Rattle.image.specs.declared.refusals.Refusal.{Refusal}
use Rattle.image.specs.Refusals.{by_number}

-- the number and the values of each case of the answer, in which a refusal is given by its number
abbrev pub answer_of : Result ℕ ℕ → Answer
answer_of (Ok n) = written n
answer_of (Err r) = refused r

-- such an answer, and the buffer's final bytes
abbrev pub numbered_outcome : Result ℕ ℕ → Bytes → Outcome
numbered_outcome w out = record { answer = answer_of w; final = out }

-- an answer, and the buffer's final bytes
abbrev pub outcome : Result ℕ Refusal → Bytes → Outcome
outcome w out = numbered_outcome (by_number w) out
