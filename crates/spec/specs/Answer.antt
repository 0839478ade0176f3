-- Document 01, "Turning a file down": what build, ask and the walk that writes records answer, and what they leave in the buffer lent to them.
use Rattle.std.specs.Prelude.{ℕ, ◌+◌, ◌*◌, true, false, ◌++◌, length, drop, ltb}
use Rattle.spec.specs.Bytes.{Bytes}

-- so many bytes written, or a refusal's number
pub data Answer : Type 0 where
  written : ℕ → Answer
  refused : ℕ → Answer

-- the number of a refusal; 0, which is no refusal's, for success
abbrev pub number : Answer → ℕ
number (written n) = 0
number (refused r) = r

-- the bytes written; a refusal writes 0
abbrev pub bytes_written : Answer → ℕ
bytes_written (written n) = n
bytes_written (refused r) = 0

-- 2^32: what a refusal's number is multiplied with where an answer is given as one number
abbrev pub refusal_weight : ℕ
refusal_weight = 4294967296

-- An answer as one number, for programs in other languages: the number of a refusal, 0 for success, times 2^32, plus the bytes written.
abbrev pub answer_code : Answer → ℕ
answer_code a = number a * refusal_weight + bytes_written a

-- the answer, and the buffer's final bytes
pub record Outcome : Type 0 where
  pub answer : Answer
  pub final : Bytes

-- a refusal is its number with 0 bytes written
unfoldable pub refuse : ℕ → Bytes → Outcome
refuse r out = record { answer = refused r; final = out }

-- success gives the bytes written, and bytes behind them keep their values
unfoldable pub success : Bytes → Bytes → Outcome
success b out = record { answer = written (length b); final = b ++ drop (length b) out }

-- the bytes written into the buffer, or the number r where they are longer than it
unfoldable pub write : ℕ → Bytes → Bytes → Outcome
unfolding refuse success
write r b out = elim (ltb (length out) (length b)) [ true ↦ refuse r out | false ↦ success b out ]
