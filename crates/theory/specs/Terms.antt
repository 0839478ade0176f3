-- The words that the demands are said in, beside those of crate `spec`: definitions only.
-- Demands stands on this file and on `spec`; the files with laws import these words from here.
use Rattle.std.specs.Prelude.{ℕ, suc, ◌<◌, ◌≤◌, ◌≡◌, true, false, List, [], ◌∷◌, ◌++◌, map, length}
use Rattle.spec.specs.Bytes.{Bytes, concat, letter}
use Rattle.spec.specs.Keys.{below, write_keys}
use Rattle.spec.specs.Leaves.{Leaf}
use Rattle.spec.specs.Questions.{Question, QP, QS, QB, QR, QC, Reply, reply_at}
use Rattle.spec.specs.Answer.{written, refused, refuse}
use Rattle.spec.specs.Check.{accepted, check}
use Rattle.spec.specs.Ask.{ask}
use Rattle.spec.specs.Walk.{done, stand_at, open_walk, next}
use Rattle.spec.specs.Check as Check
use Rattle.spec.specs.Walk as Walk

-- P holds of every member
abbrev pub All : {A : Type 0} → (A → Type 0) → List A → Type 0
All P [] = Unit
All P (x ∷ xs) = P x × All P xs

-- a is a member
pub data In {A : Type 0} (a : A) : List A → Type 0 where
  here : {l : List A} → In a (a ∷ l)
  there : {b : A} {l : List A} → In a l → In a (b ∷ l)

-- a byte string: every number is below 256
abbrev pub IsBytes : Bytes → Type 0
IsBytes = All (λ x. x < 256)

-- ---- keys and key lists

-- a key has 1 to 64 bytes
pub record Key (k : Bytes) : Type 0 where
  pub least : 0 < length k
  pub fits : length k ≤ 64
  pub bytes : IsBytes k

-- a list of keys
abbrev pub Keys : List Bytes → Type 0
Keys = All Key

-- k is below each of the keys
abbrev pub BelowAll : Bytes → List Bytes → Type 0
BelowAll k = All (λ m. below k m ≡ true)

-- the keys ascend strictly
abbrev pub Ascending : List Bytes → Type 0
Ascending [] = Unit
Ascending (k ∷ ks) = BelowAll k ks × Ascending ks

-- The bytes are a key list, and these are its keys: the records of at most 65,535 keys, strictly ascending.
pub record KeyList (s : Bytes) (ks : List Bytes) : Type 0 where
  pub bytes : s ≡ write_keys ks
  pub each : Keys ks
  pub up : Ascending ks
  pub few : length ks ≤ 65535

-- No key list has more trie entries: 65 for each of 65,535 keys.
abbrev pub most_entries : ℕ
most_entries = 4259775

-- ---- questions and question files

-- a key or a bound of a question has at most 64 bytes
pub record Bound (k : Bytes) : Type 0 where
  pub fits : length k ≤ 64
  pub bytes : IsBytes k

-- a range the right way round
pub record Range (lo hi : Bytes) : Type 0 where
  pub lower : Bound lo
  pub upper : Bound hi
  pub order : below hi lo ≡ false

-- keys and bounds of at most 64 bytes, ranges the right way round
abbrev pub Proper : Question → Type 0
Proper (QP k) = Bound k
Proper (QS start) = Bound start
Proper (QB stem) = Bound stem
Proper (QR lo hi) = Range lo hi
Proper (QC lo hi) = Range lo hi

-- a key or bound as a question has it: a length byte and bytes
abbrev pub key_bytes : Bytes → Bytes
key_bytes k = length k ∷ k

-- a question's mark ("QP" and so on) and keys
unfoldable pub question_bytes : Question → Bytes
question_bytes (QP k) = letter "Q" ∷ letter "P" ∷ key_bytes k
question_bytes (QS start) = letter "Q" ∷ letter "S" ∷ key_bytes start
question_bytes (QB stem) = letter "Q" ∷ letter "B" ∷ key_bytes stem
question_bytes (QR lo hi) = letter "Q" ∷ letter "R" ∷ key_bytes lo ++ key_bytes hi
question_bytes (QC lo hi) = letter "Q" ∷ letter "C" ∷ key_bytes lo ++ key_bytes hi

-- the questions one behind the other
unfoldable pub file_bytes : List Question → Bytes
unfolding concat question_bytes
file_bytes qs = concat (map question_bytes qs)

-- A question file of one question alone. No byte holds the length of a key of over 255; like any over 64 it is refused with 22.
abbrev pub alone : Question → Bytes
alone q = file_bytes (q ∷ [])

-- The bytes are a question file, and these are its questions: at most 1,024.
pub record QuestionFile (s : Bytes) (qs : List Question) : Type 0 where
  pub bytes : s ≡ file_bytes qs
  pub each : All Proper qs
  pub few : length qs ≤ 1024

-- the bytes of the buffer that a seek over an accepted image is lent for its key: a length byte and a key of at most 64
abbrev pub found_size : ℕ
found_size = 65

-- ---- ask, the walk and the check

-- A question file is taken if ask refuses nothing.
abbrev pub Taken : Bytes → Bytes → Bytes → Type 0
Taken b file out = (n : ℕ) × ((ask b file out).answer ≡ written n)

-- the reply that ask writes for a file of one question alone
abbrev pub reply_alone : Bytes → Question → Bytes → Reply
reply_alone b q out = reply_at 0 (ask b (alone q) out).final

-- The walk over an image with these leaves stands at the leaf whose number is the place, and goes to the next;
-- at the leaf count it is done, and stays there; a place beyond is refused with 17.
pub record WalkCorrect (b : Bytes) (ls : List Leaf) : Type 0 where
  pub stands : (place : ℕ) → place ≤ length ls → open_walk b place ≡ stand_at ls place
  pub goes_on : (place : ℕ) → place < length ls → next b place ≡ stand_at ls (suc place)
  pub ends : (open_walk b (length ls) ≡ done) × (next b (length ls) ≡ done)
  pub beyond : (place : ℕ) → length ls < place → open_walk b place ≡ Walk.refused 17

-- a number from the first to the last, both included
abbrev pub From : ℕ → ℕ → ℕ → Type 0
From first last r = (first ≤ r) × (r ≤ last)

-- Ask and walk judge a byte string as the check does: what it refuses they refuse with its number, and what it accepts they refuse for other reasons only.
pub record JudgedAlike (b : Bytes) : Type 0 where
  pub ask_refused : (r : ℕ) → check b ≡ Check.refused r → (file out : Bytes) → ask b file out ≡ refuse r out
  pub walk_refused : (r : ℕ) → check b ≡ Check.refused r → (place : ℕ) → open_walk b place ≡ Walk.refused r
  pub ask_accepted : check b ≡ accepted → (file out : Bytes) (r : ℕ) → (ask b file out).answer ≡ refused r → From 21 25 r
  pub walk_accepted : check b ≡ accepted → (place r : ℕ) → open_walk b place ≡ Walk.refused r → r ≡ 17
