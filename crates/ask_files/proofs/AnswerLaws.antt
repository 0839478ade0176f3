-- A question that was matched: its keys as they are lent, and the reply by value that its number makes. The functions that answer a question of a file rest on it.
use mathlib.Core.Path.{◌≡◌, sym, ap, subst, ◌∙◌}
use mathlib.Core.List.{List, [], ◌∷◌}
use Prim.Native.Nat.{ℕ, ◌+◌, ◌≤◌}
use native.Mathlib.Omega.{arith}
use lib.ListN.{length, take}
use Rattle.spec.specs.Bytes.{Bytes}
use Rattle.spec.specs.Leaves.{Leaf, reals}
use Rattle.spec.specs.Rules.{rule, rule_number, rule_says}
use Rattle.spec.specs.Questions.{QP, QB, QR, QC, Reply, point, begins_with, range, counted, reply, reply_bytes, replies, questions_of}
use Rattle.theory.proofs.LeafLists.{Realizable, AllWellSized}
use Rattle.theory.proofs.Rules.{point_rule}
use Rattle.bits.specs.Bits.{overlaid}
use Rattle.ask_files.specs.AskedAt.{Followed}
use Rattle.ask_files.specs.ReplyLaws.{answer, point_reply, begins_reply, range_reply, count_reply, Replied, replied_room, replied_more}
use Rattle.ask_files.specs.Questions.{question_of}
use Rattle.ask_files.specs.ReplyContracts.{Sized, reply_of}
use Rattle.ask_files.specs.declared.questions.Question.{Question}
use Rattle.ask_files.specs.declared.reply_bytes.Answered.{Answered}
use Rattle.ask_files.proofs.OverlaidLaws.{key_length}

-- a reply without a key, whatever the buffer holds
module _ (a : Answered) (buffer : Bytes) (none : a.n ≡ 0) where
  pub keyless_sized : length buffer ≡ 64 → Sized a buffer
  keyless_sized h = record { small = omega arith; buffer = h }

  pub keyless_of : {letter number : ℕ} → reply_of a [] ≡ answer letter number [] → reply_of a buffer ≡ answer letter number []
  keyless_of e = ap (λ (n : ℕ). answer a.letter a.number (take n buffer)) none ∙ sym (ap (λ (n : ℕ). answer a.letter a.number (take n [])) none) ∙ e

-- A reply by value is a point's, if its number is what the key's rule says and the byte at the front of its buffer is the rule's number.
pub point_answered : {w : ℕ} (H : ℕ) (ls : List Leaf) → Realizable w ls → AllWellSized w ls → (k : Bytes) → length k ≤ 64 → (a : Answered) (buffer : Bytes)
    → a.letter ≡ 80 → a.number ≡ rule_says (rule H ls k) → a.n ≡ 1 → take 1 buffer ≡ rule_number (rule H ls k) ∷ [] → reply_of a buffer ≡ reply H ls (QP k)
point_answered H ls g o k short a buffer letter number one byte =
    let key_is : take a.n buffer ≡ rule_number (rule H ls k) ∷ [] = ap (λ (m : ℕ). take m buffer) one ∙ byte in
    let number_is : a.number ≡ point H ls k = number ∙ sym (point_rule H ls g o k short) in
    (λ i. answer (letter i) (number_is i) (key_is i)) ∙ sym (point_reply H ls k)

module _ (H : ℕ) (ls : List Leaf) where
  -- the length of the key of a reply by value
  pub reply_key : (a : Answered) (buffer : Bytes) (q : Question) → Sized a buffer → reply_of a buffer ≡ reply H ls (question_of q) → a.n ≡ length (reply H ls (question_of q)).key
  reply_key a buffer q s e = sym (key_length a buffer s) ∙ ap (λ r. length r.key) e

  -- the replies without a key
  module _ (k : Bytes) where
    pub begins_keyless : (x : ℕ) → x ≡ begins_with (reals H ls) k → answer 66 x [] ≡ reply H ls (QB k)
    begins_keyless x h = ap (λ (m : ℕ). answer 66 m []) h ∙ sym (begins_reply H ls k)

    pub range_keyless : (l : Bytes) (x : ℕ) → x ≡ range (reals H ls) k l → answer 82 x [] ≡ reply H ls (QR k l)
    range_keyless l x h = ap (λ (i : ℕ). answer 82 i []) h ∙ sym (range_reply H ls k l)

    pub count_keyless : (l : Bytes) (x : ℕ) → x ≡ counted (reals H ls) k l → answer 67 x [] ≡ reply H ls (QC k l)
    count_keyless l x h = ap (λ (i : ℕ). answer 67 i []) h ∙ sym (count_reply H ls k l)

    -- the lengths of their keys
    pub begins_length : 0 ≡ length (reply H ls (QB k)).key
    begins_length = sym (ap (λ r. length r.key) (begins_reply H ls k))

    pub range_length : (l : Bytes) → 0 ≡ length (reply H ls (QR k l)).key
    range_length l = sym (ap (λ r. length r.key) (range_reply H ls k l))

    pub count_length : (l : Bytes) → 0 ≡ length (reply H ls (QC k l)).key
    count_length l = sym (ap (λ r. length r.key) (count_reply H ls k l))

    -- The key of a point's reply is one byte.
    pub point_length : 1 ≡ length (reply H ls (QP k)).key
    point_length = sym (ap (λ r. length r.key) (point_reply H ls k))

-- ask's second pass with replies by value: room for the next one, and the buffer with it
module _ (H : ℕ) (ls : List Leaf) (file out : Bytes) (room : length (replies H ls (questions_of file)) ≤ length out) (at to : ℕ) (new : Bytes) (p : Replied H ls file out at to new) (next : ℕ) (q : Question) (w : Followed file at (question_of q) next) (a : Answered) (buffer : Bytes) (s : Sized a buffer) (e : reply_of a buffer ≡ reply H ls (question_of q)) where
  pub answered_room : to + 8 + a.n ≤ length new
  answered_room = omega (arith, reply_key H ls a buffer q s e, replied_room H ls file out room at to new p next (question_of q) w)

  pub answered_more : (end : ℕ) (written : Bytes) → end ≡ to + 8 + a.n → written ≡ overlaid new to (reply_bytes (reply_of a buffer)) → Replied H ls file out next end written
  answered_more end written f g =
      let h : to + 8 + length (reply H ls (question_of q)).key ≡ end = ap (λ (k : ℕ). to + 8 + k) (sym (reply_key H ls a buffer q s e)) ∙ sym f in
      let i : overlaid new to (reply_bytes (reply H ls (question_of q))) ≡ written = ap (λ (r : Reply). overlaid new to (reply_bytes r)) (sym e) ∙ sym g in
      subst (λ (z : Bytes). Replied H ls file out next end z) i
      (subst (λ (k : ℕ). Replied H ls file out next k (overlaid new to (reply_bytes (reply H ls (question_of q))))) h (replied_more H ls file out room at to new p next (question_of q) w))
