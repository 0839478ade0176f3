-- Reply bytes: the reply to each kind of question, lengths, and what ask's two passes over the questions keep: the sum of the lengths, then the buffer with the replies so far.
use Rattle.std.specs.Prelude.{ℕ, ◌+◌, ◌*◌, ◌≤◌, ◌≡◌, List, [], ◌∷◌, ◌++◌, length, take, drop}
use Rattle.std.proofs.Math.Path.{refl, ap}
use Rattle.std.proofs.Common.{sym, ap₂, ◌∙◌, arith, length-append, length-drop, length-take-le, take_all, take_at, drop_at, drop-drop, take-add}
use Rattle.std.proofs.Math.Seq.{take-append_seam, drop-append_seam}
use Rattle.spec.specs.Bytes.{Bytes, concat, le32}
use Rattle.spec.specs.Leaves.{Leaf, reals}
use Rattle.spec.specs.Rules.{rule, rule_number}
use Rattle.spec.specs.Questions.{Question, QP, QS, QB, QR, QC, Reply, keyless, sought, none, found, point, seek, begins_with, range, counted, reply, reply_bytes, replies, taken, parse_questions, questions_of}
use Rattle.bits.specs.Bits.{overlaid}
use Rattle.ask_files.specs.FileLaws.{questions_from, TakenFrom, taken_start, taken_end, few_questions, questions_are}
use Rattle.ask_files.specs.AskedAt.{Followed}

-- a reply's letter, number and key, as they are handed to a writer
abbrev pub answer : ℕ → ℕ → Bytes → Reply
answer letter number key = record { letter = letter; number = number; key = key }

-- ---- the reply to each kind of question

module _ (H : ℕ) (ls : List Leaf) where
  -- a point's key is one byte, the number of the rule behind the reply
  pub point_reply : (k : Bytes) → reply H ls (QP k) ≡ answer 80 (point H ls k) (rule_number (rule H ls k) ∷ [])
  unfolding reply
  point_reply k = refl

  pub begins_reply : (stem : Bytes) → reply H ls (QB stem) ≡ answer 66 (begins_with (reals H ls) stem) []
  unfolding reply keyless
  begins_reply stem = refl

  pub range_reply : (lo hi : Bytes) → reply H ls (QR lo hi) ≡ answer 82 (range (reals H ls) lo hi) []
  unfolding reply keyless
  range_reply lo hi = refl

  pub count_reply : (lo hi : Bytes) → reply H ls (QC lo hi) ≡ answer 67 (counted (reals H ls) lo hi) []
  unfolding reply keyless
  count_reply lo hi = refl

  pub seek_reply_found : (start : Bytes) (i : ℕ) (k : Bytes) → seek (reals H ls) start ≡ found i k → reply H ls (QS start) ≡ answer 83 i k
  unfolding reply sought
  seek_reply_found start i k h = ap sought h

  pub seek_reply_none : (start : Bytes) → seek (reals H ls) start ≡ none → reply H ls (QS start) ≡ answer 83 0xFFFFFFFF []
  unfolding reply sought keyless
  seek_reply_none start h = ap sought h

  -- ---- replies, one behind the other

  pub replies_none : replies H ls [] ≡ []
  unfolding replies concat
  replies_none = refl

  pub replies_more : (q : Question) (qs : List Question) → replies H ls (q ∷ qs) ≡ reply_bytes (reply H ls q) ++ replies H ls qs
  unfolding replies concat
  replies_more q qs = refl

-- a reply's length
pub reply_length : (r : Reply) → length (reply_bytes r) ≡ 8 + length r.key
unfolding reply_bytes le32
reply_length r = omega arith

-- ---- the first pass: the length of all replies

-- The replies to the questions before `at` have `total` bytes; with at most 72 bytes for each question left, the sum stays small.
pub record Measured (H : ℕ) (ls : List Leaf) (file : Bytes) (at total : ℕ) : Type 0 where
  pub taken_here : TakenFrom file at
  pub sum : total + length (replies H ls (questions_from file at)) ≡ length (replies H ls (questions_of file))
  pub small : total + 72 * length (questions_from file at) ≤ 73728

module _ (H : ℕ) (ls : List Leaf) (file : Bytes) where
  -- before the first question
  pub measured_start : (qs : List Question) → parse_questions file ≡ taken qs → Measured H ls file 0 0
  measured_start qs h = record {
    taken_here = taken_start file qs h;
    sum = omega arith;
    small = omega (arith, few_questions file qs h, ap length (questions_are file qs h));
  }

  -- a question whose reply has a key of k bytes
  pub measured_more : (at total next k : ℕ) (q : Question) → Measured H ls file at total → Followed file at q next → k ≡ length (reply H ls q).key → k ≤ 64 → Measured H ls file next (total + 8 + k)
  measured_more at total next k q m w size l =
      let from = w.from in
      let e : length (replies H ls (questions_from file at)) ≡ length (reply_bytes (reply H ls q)) + length (replies H ls (questions_from file next)) =
      ap (λ (qs : List Question). length (replies H ls qs)) from ∙ ap length (replies_more H ls q (questions_from file next)) ∙ length-append (reply_bytes (reply H ls q)) (replies H ls (questions_from file next)) in
      record {
        taken_here = w.taken_next;
        sum = omega (arith, e, m.sum, reply_length (reply H ls q));
        small = omega (arith, m.small, ap length from);
      }

  -- behind the last question
  pub measured_end : (at total : ℕ) → Measured H ls file at total → length file ≤ at → total ≡ length (replies H ls (questions_of file))
  measured_end at total m h =
      omega (arith, m.sum, ap (λ (qs : List Question). length (replies H ls qs)) (taken_end file at h) ∙ ap length (replies_none H ls))

-- ---- the second pass: the replies in the buffer

-- The replies to the questions before `at` stand in the buffer's first `to` bytes; the bytes behind them are still those of `out`.
pub record Replied (H : ℕ) (ls : List Leaf) (file out : Bytes) (at to : ℕ) (new : Bytes) : Type 0 where
  pub taken_here : TakenFrom file at
  pub inside : to ≤ length (replies H ls (questions_of file))
  pub left : drop to (replies H ls (questions_of file)) ≡ replies H ls (questions_from file at)
  pub bytes : new ≡ take to (replies H ls (questions_of file)) ++ drop to out

-- the first bytes of r over those of out, and b behind them
module _ (r out b rest : Bytes) (to : ℕ) (left : drop to r ≡ b ++ rest) (inside : to ≤ length r) where
  -- b's last byte is one of r
  pub overlaid_inside : to + length b ≤ length r
  overlaid_inside = omega (arith, length-drop to r, ap length left, length-append b rest)

  pub overlaid_left : drop (to + length b) r ≡ rest
  overlaid_left = sym (drop-drop (length b) to r) ∙ ap (drop (length b)) left ∙ drop-append_seam b rest

  pub overlaid_bytes : length r ≤ length out → overlaid (take to r ++ drop to out) to b ≡ take (to + length b) r ++ drop (to + length b) out
  overlaid_bytes room =
      let size : length (take to r) ≡ to = length-take-le to r inside in
      let front : take to (take to r ++ drop to out) ≡ take to r = take_at (take to r) (drop to out) to size in
      let back : drop (to + length b) (take to r ++ drop to out) ≡ drop (to + length b) out =
      sym (drop-drop (length b) to (take to r ++ drop to out)) ∙ ap (drop (length b)) (drop_at (take to r) (drop to out) to size) ∙ drop-drop (length b) to out in
      let more : take (to + length b) r ≡ take to r ++ b = take-add to (length b) r ∙ ap (λ (t : Bytes). take to r ++ take (length b) t) left ∙ ap (λ (t : Bytes). take to r ++ t) (take-append_seam b rest) in
      ap₂ (λ (x y : Bytes). x ++ b ++ y) front back ∙ ap (λ (x : Bytes). x ++ drop (to + length b) out) (sym more)

module _ (H : ℕ) (ls : List Leaf) (file out : Bytes) where
  -- before the first question
  pub replied_start : (qs : List Question) → parse_questions file ≡ taken qs → Replied H ls file out 0 0 out
  replied_start qs h = record { taken_here = taken_start file qs h; inside = omega arith; left = refl; bytes = refl }

  module _ (room : length (replies H ls (questions_of file)) ≤ length out) (at to : ℕ) (new : Bytes) (p : Replied H ls file out at to new) where
    -- the buffer keeps its length
    pub replied_length : length new ≡ length out
    replied_length =
        let size = length-take-le to (replies H ls (questions_of file)) p.inside in
        omega (arith, p.inside, size, ap length p.bytes, length-append (take to (replies H ls (questions_of file))) (drop to out), length-drop to out)

    module _ (next : ℕ) (q : Question) (w : Followed file at q next) where
      split : drop to (replies H ls (questions_of file)) ≡ reply_bytes (reply H ls q) ++ replies H ls (questions_from file next)
      split = p.left ∙ ap (replies H ls) w.from ∙ replies_more H ls q (questions_from file next)

      -- the buffer has room for the next reply
      pub replied_room : to + 8 + length (reply H ls q).key ≤ length new
      replied_room =
          let e = overlaid_inside (replies H ls (questions_of file)) out (reply_bytes (reply H ls q)) (replies H ls (questions_from file next)) to split p.inside in
          omega (arith, e, reply_length (reply H ls q), replied_length)

      -- one reply more
      pub replied_more : Replied H ls file out next (to + 8 + length (reply H ls q).key) (overlaid new to (reply_bytes (reply H ls q)))
      replied_more =
          let r : Bytes = replies H ls (questions_of file) in
          let b : Bytes = reply_bytes (reply H ls q) in
          let rest : Bytes = replies H ls (questions_from file next) in
          let e : to + length b ≡ to + 8 + length (reply H ls q).key = omega (arith, reply_length (reply H ls q)) in
          rw (← e) (record {
            taken_here = w.taken_next;
            inside = overlaid_inside r out b rest to split p.inside;
            left = overlaid_left r out b rest to split p.inside;
            bytes = ap (λ (x : Bytes). overlaid x to b) p.bytes ∙ overlaid_bytes r out b rest to split p.inside room;
          })

  -- behind the last question: all replies are written
  pub replied_size : (at to : ℕ) (new : Bytes) → Replied H ls file out at to new → length file ≤ at → to ≡ length (replies H ls (questions_of file))
  replied_size at to new p h =
      let none : drop to (replies H ls (questions_of file)) ≡ [] = p.left ∙ ap (replies H ls) (taken_end file at h) ∙ replies_none H ls in
      omega (arith, p.inside, ap length none, length-drop to (replies H ls (questions_of file)))

  -- the buffer as success leaves it
  pub replied_end : (at to : ℕ) (new : Bytes) → Replied H ls file out at to new → length file ≤ at
      → new ≡ replies H ls (questions_of file) ++ drop (length (replies H ls (questions_of file))) out
  replied_end at to new p h =
      let r : Bytes = replies H ls (questions_of file) in
      let e : to ≡ length r = replied_size at to new p h in
      p.bytes ∙ ap₂ (λ (x : Bytes) (n : ℕ). x ++ drop n out) (take_all to r (omega arith)) e
