-- The replies to a question file.
use Rattle.std.specs.Prelude.{ℕ, ◌≡◌, ◌++◌, length, drop}
use Rattle.spec.specs.Bytes.{Bytes}
use Rattle.spec.specs.Nodes.{read_leaves}
use Rattle.spec.specs.Questions.{replies, questions_of}

-- the replies to the questions of a file over an image with h hash bits
abbrev pub file_replies : ℕ → Bytes → Bytes → Bytes
file_replies h image file = replies h (read_leaves image) (questions_of file)

-- the replies to the questions of a file over an image stand at the start of a buffer that held `out` before
pub record RepliesWritten (h : ℕ) (image file out new : Bytes) (size : ℕ) : Type 0 where
  pub sized : size ≡ length (file_replies h image file)  -- so many bytes are written
  pub bytes : new ≡ file_replies h image file ++ drop size out  -- the bytes behind them stay
