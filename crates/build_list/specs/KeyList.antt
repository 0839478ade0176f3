-- What the judge of a key list answers, by document 01's definitions.
use Rattle.std.specs.Prelude.{ℕ, suc, ◌+◌, ◌≤◌, ◌<◌, ◌≡◌, true, false, length, drop, Result, Ok, Err}
use Rattle.spec.specs.Bytes.{Bytes}
use Rattle.spec.specs.Keys.{below, ParsedKeys, refused, keys, with_key, parse_records}
use Rattle.bits.specs.Bits.{key}
use Rattle.image.specs.declared.refusals.Refusal.{Refusal}
use Rattle.image.specs.Refusals.{number_of}

-- an answer, with the number of its refusal
abbrev pub numbered : Result ℕ Refusal → Result ℕ ℕ
numbered (Ok n) = Ok n
numbered (Err r) = Err (number_of r)

-- a list whose first n records are read, by what the rest of it is
unfoldable pub counted : ℕ → ParsedKeys → Result ℕ ℕ
counted n (refused r) = Err r
counted n (keys ks) = Ok (n + length ks)

-- the answer to a list: how many keys it has, or the number that turns it down
unfoldable pub key_list : ParsedKeys → Result ℕ ℕ
unfolding counted
key_list p = counted 0 p

-- what is known of a record that has a key of n bytes at an offset, behind `done` others: that key and the last one decide
pub record KeyRead (s : Bytes) (at done n : ℕ) : Type 0 where
  pub within : at + 3 + n ≤ length s  -- its bytes are there
  pub few : done < 65535  -- a list may have one record more
  pub low : (f : ℕ) (last : Bytes) → below last (key s (at + 3) n) ≡ false → parse_records (suc f) done last (drop at s) ≡ refused 3  -- a key not above the last is number 3
  pub high : (f : ℕ) (last : Bytes) → below last (key s (at + 3) n) ≡ true
      → parse_records (suc f) done last (drop at s) ≡ with_key (key s (at + 3) n) (parse_records f (suc done) (key s (at + 3) n) (drop (at + 3 + n) s))  -- a key above it is taken, and the records behind decide

-- what reading the record at an offset, behind `done` others, tells: the number that turns the list down whatever key stood last, or its key
abbrev pub RecordRead : Bytes → ℕ → ℕ → Result ℕ Refusal → Type 0
RecordRead s at done (Err r) = (f : ℕ) (last : Bytes) → parse_records (suc f) done last (drop at s) ≡ refused (number_of r)
RecordRead s at done (Ok n) = KeyRead s at done n

-- what is known of a record whose key of n bytes is above the last: it is taken, and the records behind decide
pub record KeyTaken (s : Bytes) (at done : ℕ) (last : Bytes) (n : ℕ) : Type 0 where
  pub within : at + 3 + n ≤ length s  -- its bytes are there
  pub few : done < 65535  -- a list may have one record more
  pub high : (f : ℕ) → parse_records (suc f) done last (drop at s) ≡ with_key (key s (at + 3) n) (parse_records f (suc done) (key s (at + 3) n) (drop (at + 3 + n) s))  -- the records behind decide

-- what judging the record at an offset, behind `done` others, the last of them with the key `last`, tells: the number that turns the list down, or its key
abbrev pub RecordJudged : Bytes → ℕ → ℕ → Bytes → Result ℕ Refusal → Type 0
RecordJudged s at done last (Err r) = (f : ℕ) → parse_records (suc f) done last (drop at s) ≡ refused (number_of r)
RecordJudged s at done last (Ok n) = KeyTaken s at done last n
