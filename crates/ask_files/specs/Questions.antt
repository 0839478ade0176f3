-- What the answers of this crate's functions say of document 01's question files.
use Rattle.std.specs.Prelude.{ℕ, ◌+◌, ◌-◌, ◌≤◌, ◌<◌, ◌≡◌, false, length, drop, Option, Some, None, Result, Ok, Err}
use Rattle.spec.specs.Bytes.{Bytes}
use Rattle.spec.specs.Keys.{below}
use Rattle.spec.specs.Questions.{Question, QP, QS, QB, QR, QC, bad, got, read_key, two_keys, read_question, ParsedQuestions, refused, taken}
use Rattle.bits.specs.Bits.{key}
use Rattle.ask_files.specs.QuestionAt.{OneKey, TwoKeys, NoKeys}
use Rattle.ask_files.specs.AskedAt.{Followed}
use Rattle.image.specs.declared.refusals.Refusal.{Refusal}
use Rattle.image.specs.Refusals.{number_of}
use Rattle.ask_files.specs.declared.questions.KeyCount.{KeyCount}
use Rattle.ask_files.specs.declared.questions.KeyCount.TheVariants.{One, Two}
use Rattle.ask_files.specs.declared.questions.Question.{Question as Asking}
use Rattle.ask_files.specs.declared.questions.Question.TheVariants.{Point, Seek, Begins, Range, Count}
use Rattle.ask_files.specs.declared.questions.Asked.{Asked}

-- the bytes from a to e
abbrev pub part : Bytes → ℕ → ℕ → Bytes
part s a e = key s a (e - a)

-- what reading says of the key at `at`
abbrev pub ReadsKey : Bytes → ℕ → Result ℕ Refusal → Type 0
ReadsKey s at (Err r) = read_key (drop at s) ≡ bad (number_of r)
ReadsKey s at (Ok e) = (at < e) × (e ≤ length s) × (read_key (drop at s) ≡ got (part s (at + 1) e) (drop e s))

-- what reading says of the upper bound at m, behind the lower bound from a to m: of every byte string that begins with that lower bound
abbrev pub ReadsUpper : Bytes → ℕ → ℕ → Result ℕ Refusal → Type 0
ReadsUpper s a m (Err r) = (c : Bytes → Bytes → Question) (t : Bytes) → read_key t ≡ got (part s a m) (drop m s) → two_keys c t ≡ bad (number_of r)
ReadsUpper s a m (Ok e) =
    (m < e) × (e ≤ length s)
    × ((c : Bytes → Bytes → Question) (t : Bytes) → read_key t ≡ got (part s a m) (drop m s) → two_keys c t ≡ got (c (part s a m) (part s (m + 1) e)) (drop e s))

-- what reading says of the two bounds at `at`
abbrev pub ReadsBounds : Bytes → ℕ → Result ℕ Refusal → Type 0
ReadsBounds s at (Err r) = (c : Bytes → Bytes → Question) → two_keys c (drop at s) ≡ bad (number_of r)
ReadsBounds s at (Ok e) = (lo hi : Bytes) × (at < e) × (e ≤ length s) × ((c : Bytes → Bytes → Question) → two_keys c (drop at s) ≡ got (c lo hi) (drop e s))

-- what the keys asked for say of a letter
abbrev pub Asks : ℕ → Option KeyCount → Type 0
Asks x (Some One) = OneKey x
Asks x (Some Two) = TwoKeys x
Asks x None = NoKeys x

-- what reading says of the question at `at`
abbrev pub ReadsQuestion : Bytes → ℕ → Result ℕ Refusal → Type 0
ReadsQuestion s at (Err r) = read_question (drop at s) ≡ bad (number_of r)
ReadsQuestion s at (Ok e) = (q : Question) × (at < e) × (e ≤ length s) × (read_question (drop at s) ≡ got q (drop e s))

-- the questions read so far, and what the rest of the file is
unfoldable pub counted : ℕ → ParsedQuestions → Result ℕ ℕ
counted n (refused r) = Err r
counted n (taken qs) = Ok (n + length qs)

-- the answer to a file: how many questions it has, or the number that turns it down
unfoldable pub question_file : ParsedQuestions → Result ℕ ℕ
unfolding counted
question_file p = counted 0 p

-- ---- a question by its keys

-- the question
abbrev pub question_of : Asking → Question
question_of (Point k) = QP k.now
question_of (Seek k) = QS k.now
question_of (Begins k) = QB k.now
question_of (Range lo hi) = QR lo.now hi.now
question_of (Count lo hi) = QC lo.now hi.now

-- two bounds of at most 64 bytes each, the lower not above the upper
abbrev pub Bounds : Bytes → Bytes → Type 0
Bounds lo hi = (length lo ≤ 64) × (length hi ≤ 64) × (below hi lo ≡ false)

-- its keys have at most 64 bytes each, and bounds are the right way round
abbrev pub Short : Asking → Type 0
Short (Point k) = length k.now ≤ 64
Short (Seek k) = length k.now ≤ 64
Short (Begins k) = length k.now ≤ 64
Short (Range lo hi) = Bounds lo.now hi.now
Short (Count lo hi) = Bounds lo.now hi.now

-- what reading the question at `at` says
pub record Located (file : Bytes) (at : ℕ) (r : Asked) : Type 0 where
  pub short : Short r.question
  pub followed : Followed file at (question_of r.question) r.next
