-- A reply's bytes, and a reply by value as document 01's.
use Rattle.std.specs.Prelude.{ℕ, ◌≤◌, ◌≡◌, [], ◌∷◌, ◌++◌, length, take}
use Rattle.spec.specs.Bytes.{Bytes, le32}
use Rattle.spec.specs.Questions.{Reply}
use Rattle.ask_files.specs.ReplyLaws.{answer}
use Rattle.ask_files.specs.declared.reply_bytes.Answered.{Answered}

-- a reply's mark and letter
abbrev pub reply_mark : ℕ → Bytes
reply_mark letter = 65 ∷ 78 ∷ letter ∷ []

-- a reply's bytes before a key of n bytes
abbrev pub reply_head : ℕ → ℕ → ℕ → Bytes
reply_head letter number n = reply_mark letter ++ le32 number ++ (n ∷ [])

-- a reply by value, its key at the front of a buffer, as document 01's reply
abbrev pub reply_of : Answered → Bytes → Reply
reply_of a key = answer a.letter a.number (take a.n key)

-- its key stands in a buffer of 64 bytes
pub record Sized (a : Answered) (key : Bytes) : Type 0 where
  pub small : a.n ≤ 64
  pub buffer : length key ≡ 64
