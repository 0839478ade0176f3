-- One question at a time over an accepted image, without a question file: what the calls answer that ask their caller for an image which the check has accepted.
use Rattle.std.specs.Prelude.{ℕ, suc, ◌+◌, ◌*◌, true, false, ◌∷◌, ◌++◌, length, get_or, drop, ltb, eqb}
use Rattle.spec.specs.Bytes.{Bytes}
use Rattle.spec.specs.Keys.{below}
use Rattle.spec.specs.Frame.{read_settings}
use Rattle.spec.specs.Nodes.{read_leaves}
use Rattle.spec.specs.Questions.{Question, QP, QS, QB, QR, QC, Reply, reply}
use Rattle.spec.specs.Answer.{refusal_weight}

-- ---- a question by value

-- 22, the key is longer than 64 bytes; 0 for a key that is taken
unfoldable pub key_refusal : Bytes → ℕ
key_refusal k = elim (ltb 64 (length k)) [ true ↦ 22 | false ↦ 0 ]

-- 22, a bound is longer than 64 bytes; 23, lower bound above upper; 0 for bounds that are taken
unfoldable pub bounds_refusal : Bytes → Bytes → ℕ
unfolding below
bounds_refusal lo hi =
    elim (ltb 64 (length lo)) [
      | true ↦ 22
      | false ↦
          elim (ltb 64 (length hi)) [
            | true ↦ 22
            | false ↦
                elim (below hi lo) [ true ↦ 23 | false ↦ 0 ]
          ]
    ]

-- the number with which a question is turned down, as it is in a question file; 0 for one that is taken
unfoldable pub question_refusal : Question → ℕ
unfolding key_refusal bounds_refusal
question_refusal (QP k) = key_refusal k
question_refusal (QS start) = key_refusal start
question_refusal (QB stem) = key_refusal stem
question_refusal (QR lo hi) = bounds_refusal lo hi
question_refusal (QC lo hi) = bounds_refusal lo hi

-- ---- its answer

-- the reply to a question, or the number of its refusal
pub data Answered : Type 0 where
  replied : Reply → Answered
  refused : ℕ → Answered

-- The answer to one question over an accepted image: 22, then 23, then the reply that a question file would get.
unfoldable pub ask_one : Bytes → Question → Answered
unfolding read_settings read_leaves reply question_refusal
ask_one b q =
    let r : ℕ = question_refusal q in
    elim (eqb r 0) [ true ↦ replied (reply (read_settings b).hash_width (read_leaves b) q) | false ↦ refused r ]

-- ---- what a call gives of the answer

-- a number of the reply, or the number of a refusal
pub data Numbered : Type 0 where
  number : ℕ → Numbered
  refused_with : ℕ → Numbered

-- the number in the reply
abbrev pub reply_number : Answered → Numbered
reply_number (replied r) = number r.number
reply_number (refused n) = refused_with n

-- the rule behind a point's reply: the one byte of the reply's key
abbrev pub reply_rule : Answered → Numbered
reply_rule (replied r) = number (get_or r.key 0 0)
reply_rule (refused n) = refused_with n

-- What the buffer lent for the reply's key holds after the call: a length byte and the key, as reply bytes end with them, and behind these what it held before. After a refusal no byte has changed.
abbrev pub key_written : Answered → Bytes → Bytes
key_written (replied r) out = length r.key ∷ (r.key ++ drop (suc (length r.key)) out)
key_written (refused n) out = out

-- the number of a refusal; 0, which is no refusal's, for a number of a reply
abbrev pub refusal_number : Numbered → ℕ
refusal_number (number x) = 0
refusal_number (refused_with n) = n

-- the number of a reply; 0 for a refusal
abbrev pub given_number : Numbered → ℕ
given_number (number x) = x
given_number (refused_with n) = 0

-- Both as one number, for programs in other languages: the number of a refusal times 2^32, plus the number of a reply.
abbrev pub numbered_code : Numbered → ℕ
numbered_code a = refusal_number a * refusal_weight + given_number a
