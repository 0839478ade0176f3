-- One question at a time over an accepted image: its answer by what it is turned down for, and that a file of this question alone gets the same reply.
use Rattle.std.specs.Prelude.{ℕ, ◌<◌, ◌≤◌, ◌≡◌, refl, Bool, true, false, List, [], ◌∷◌, ◌++◌, ◌↔◌, length, get_or, take, drop, eqb}
use Rattle.std.proofs.Common.{sym, ap, ap₂, subst, ◌∙◌, append_assoc, append-nil, arith, length-append, length-drop}
use Rattle.std.proofs.Math.Seq.{take-append_seam, drop-append_seam}
use borrow.Author.Tests.{lt-ltb, le-ltb, ne_eqb}
use Rattle.spec.specs.Bytes.{Bytes, concat}
use Rattle.spec.specs.Keys.{below}
use Rattle.spec.specs.Leaves.{Leaf, reals}
use Rattle.spec.specs.Frame.{read_settings}
use Rattle.spec.specs.Nodes.{read_leaves}
use Rattle.spec.specs.Rules.{Rule, rule, rule_number}
use Rattle.spec.specs.Questions.{Question, QP, QS, QB, QR, QC, seek, Reply, reply, reply_bytes, replies, reply_at, taken, parse_questions}
use Rattle.spec.specs.Answer.{Outcome, refuse, write}
use Rattle.spec.specs.Check.{verdict}
use Rattle.spec.specs.Ask.{ask}
use Rattle.spec.specs.OneQuestion.{key_refusal, bounds_refusal, question_refusal, Answered, replied, refused, ask_one, number, reply_rule}
use Rattle.theory.specs.Terms.{In, here, there, key_bytes, question_bytes, file_bytes, alone, found_size, Taken, reply_alone, From}
use Rattle.theory.proofs.Lists.{le_or_lt, in_valid}
use Rattle.theory.proofs.QuestionFiles.{file_refuses, file_taken}
use Rattle.theory.proofs.AskLaws.{reply_written, ask_is}
use Rattle.theory.proofs.LeafLists.{AllRealSized}
use Rattle.theory.proofs.OutcomeLaws.{write_fits, write_short, no_written, success_answer, refuse_answer, write_answer, final_is}
use Rattle.theory.proofs.LengthBounds.{sought_small}
use Rattle.theory.specs.Demands.{QuestionFits, Passes24, one_key_letters, two_key_letters, KeyDue, behind_mark, behind_bound, QuestionRefusal, length_over, bounds_crossed, KeyKept}
use Rattle.spec.specs.Answer as Answer
use Rattle.spec.specs.Questions as Questions

-- ---- what a question is turned down for

-- a key of over 64 bytes: 22
pub key_long : (k : Bytes) → 64 < length k → key_refusal k ≡ 22
unfolding key_refusal
key_long k h = rw (lt-ltb 64 (length k) h, key_refusal)

-- a key of at most 64 is taken
pub key_fits : (k : Bytes) → length k ≤ 64 → key_refusal k ≡ 0
unfolding key_refusal
key_fits k h = rw (le-ltb 64 (length k) h, key_refusal)

module _ (lo hi : Bytes) where
  -- a lower bound of over 64 bytes: 22
  pub lower_long : 64 < length lo → bounds_refusal lo hi ≡ 22
  unfolding bounds_refusal
  lower_long h = rw (lt-ltb 64 (length lo) h, bounds_refusal)

  -- an upper one: 22
  pub upper_long : length lo ≤ 64 → 64 < length hi → bounds_refusal lo hi ≡ 22
  unfolding bounds_refusal
  upper_long l h = rw (le-ltb 64 (length lo) l, lt-ltb 64 (length hi) h, bounds_refusal)

  -- a lower bound above the upper: 23
  pub bounds_reversed : length lo ≤ 64 → length hi ≤ 64 → below hi lo ≡ true → bounds_refusal lo hi ≡ 23
  unfolding bounds_refusal
  bounds_reversed l h e = rw (le-ltb 64 (length lo) l, le-ltb 64 (length hi) h, e, bounds_refusal)

  -- bounds of at most 64 bytes, the right way round, are taken
  pub bounds_fit : length lo ≤ 64 → length hi ≤ 64 → below hi lo ≡ false → bounds_refusal lo hi ≡ 0
  unfolding bounds_refusal
  bounds_fit l h e = rw (le-ltb 64 (length lo) l, le-ltb 64 (length hi) h, e, bounds_refusal)

-- each question by its keys
pub point_keys : (k : Bytes) → question_refusal (QP k) ≡ key_refusal k
unfolding question_refusal
point_keys k = refl

pub seek_keys : (start : Bytes) → question_refusal (QS start) ≡ key_refusal start
unfolding question_refusal
seek_keys start = refl

pub stem_keys : (stem : Bytes) → question_refusal (QB stem) ≡ key_refusal stem
unfolding question_refusal
stem_keys stem = refl

pub range_keys : (lo hi : Bytes) → question_refusal (QR lo hi) ≡ bounds_refusal lo hi
unfolding question_refusal
range_keys lo hi = refl

pub count_keys : (lo hi : Bytes) → question_refusal (QC lo hi) ≡ bounds_refusal lo hi
unfolding question_refusal
count_keys lo hi = refl

-- ---- the answer

-- the answer, by the number with which the question is turned down
one_is : (b : Bytes) (q : Question) (r : ℕ) → question_refusal q ≡ r → ask_one b q ≡ elim (eqb r 0) [ true ↦ replied (reply (read_settings b).hash_width (read_leaves b) q) | false ↦ refused r ]
unfolding ask_one
one_is b q r e = ap {B = Answered} (λ (r : ℕ). elim (eqb r 0) [ true ↦ replied (reply (read_settings b).hash_width (read_leaves b) q) | false ↦ refused r ]) e

-- A question that is turned down is answered with the number.
pub one_refused : (b : Bytes) (q : Question) (r : ℕ) → question_refusal q ≡ r → 0 < r → ask_one b q ≡ refused r
one_refused b q r e h = one_is b q r e ∙ rw (ne_eqb r 0 (λ z. omega arith))

-- One that is taken is answered with the reply over the image's leaves.
pub one_replied : (b : Bytes) (q : Question) → question_refusal q ≡ 0 → ask_one b q ≡ replied (reply (read_settings b).hash_width (read_leaves b) q)
one_replied b q e = one_is b q 0 e

-- Bounds by what they are turned down for.
by_bounds : {A : Type 0} (lo hi : Bytes) → (64 < length lo → A) → (length lo ≤ 64 → 64 < length hi → A) → (length lo ≤ 64 → length hi ≤ 64 → (t : Bool) → below hi lo ≡ t → A) → A
by_bounds lo hi f g k = le_or_lt (length lo) 64 (λ l. le_or_lt (length hi) 64 (λ h. k l h (below hi lo) refl) (g l)) f

-- Bounds that are taken have at most 64 bytes each, and stand the right way round.
pub bounds_short : (lo hi : Bytes) → bounds_refusal lo hi ≡ 0 → (length lo ≤ 64) × (length hi ≤ 64) × (below hi lo ≡ false)
bounds_short lo hi e = by_bounds lo hi (λ l. absurd (omega (arith, e, lower_long lo hi l))) (λ l h. absurd (omega (arith, e, upper_long lo hi l h))) ordered
  where
    ordered : length lo ≤ 64 → length hi ≤ 64 → (t : Bool) → below hi lo ≡ t → (length lo ≤ 64) × (length hi ≤ 64) × (below hi lo ≡ false)
    ordered l h true b = absurd (omega (arith, e, bounds_reversed lo hi l h b))
    ordered l h false b = (l, h, b)

-- a key that is taken has at most 64 bytes
key_short : (k : Bytes) → key_refusal k ≡ 0 → length k ≤ 64
key_short k e = le_or_lt (length k) 64 (λ h. h) (λ h. absurd (omega (arith, e, key_long k h)))

-- ---- a file of one question

-- a question that is taken
question_fit : (q : Question) → question_refusal q ≡ 0 → QuestionFits q
unfolding question_refusal
question_fit (QP k) e = key_short k e
question_fit (QS start) e = key_short start e
question_fit (QB stem) e = key_short stem e
question_fit (QR lo hi) e = bounds_short lo hi e
question_fit (QC lo hi) e = bounds_short lo hi e

-- is the file's question.
alone_taken : (q : Question) → question_refusal q ≡ 0 → parse_questions (alone q) ≡ taken (q ∷ [])
alone_taken q e = (file_taken (alone q) (q ∷ [])).1 (record { bytes = sym (append-nil (alone q)); each = (question_fit q e, tt); few = omega arith })

-- no question stands before the first
at_first : (file : Bytes) → Passes24 file [] file
unfolding file_bytes concat
at_first file = record { before = record { bytes = refl; each = tt; few = omega arith }; room = omega arith }

-- the number with which a question is turned down, 22 or 23, and the sentence that names it for a file that begins with the question
abbrev TurnedDown : Bytes → ℕ → Type 0
TurnedDown file r = QuestionRefusal file r × From 22 23 r

-- a length of over 64
over_down : (s : Bytes) (n : ℕ) (t : Bytes) → KeyDue s (n ∷ t) → 64 < n → TurnedDown s 22
over_down s n t d h = (length_over [] s n t (at_first s) d h, omega arith)

-- a question with one key, with two bounds, and any question
key_down : (x : ℕ) (k t : Bytes) → In x (one_key_letters ++ two_key_letters) → 0 < key_refusal k → TurnedDown (81 ∷ x ∷ key_bytes k ++ t) (key_refusal k)
key_down x k t i z = le_or_lt (length k) 64 (λ h. absurd (omega (arith, key_fits k h))) (λ h. rw (key_long k h) (over_down (81 ∷ x ∷ key_bytes k ++ t) (length k) (k ++ t) (behind_mark x (key_bytes k ++ t) i) h))

bounds_down : (x : ℕ) (lo hi t : Bytes) → In x two_key_letters → 0 < bounds_refusal lo hi → TurnedDown (81 ∷ x ∷ (key_bytes lo ++ key_bytes hi) ++ t) (bounds_refusal lo hi)
bounds_down x lo hi t i z =
    let s : Bytes = (key_bytes lo ++ key_bytes hi) ++ t in
    by_bounds lo hi (λ l. rw (lower_long lo hi l) (over_down (81 ∷ x ∷ s) (length lo) ((lo ++ key_bytes hi) ++ t) (behind_mark x s (in_valid one_key_letters two_key_letters i)) l))
    (λ l h. rw (upper_long lo hi l h, append_assoc (key_bytes lo) (key_bytes hi) t) (over_down (81 ∷ x ∷ key_bytes lo ++ (key_bytes hi ++ t)) (length hi) (hi ++ t) (behind_bound x lo (key_bytes hi ++ t) i l) h)) ordered
  where
    ordered : length lo ≤ 64 → length hi ≤ 64 → (b : Bool) → below hi lo ≡ b → TurnedDown (81 ∷ x ∷ (key_bytes lo ++ key_bytes hi) ++ t) (bounds_refusal lo hi)
    ordered l h true e = rw (bounds_reversed lo hi l h e) (bounds_crossed [] x lo hi t (at_first (81 ∷ x ∷ (key_bytes lo ++ key_bytes hi) ++ t)) i l h e, omega arith)
    ordered l h false e = absurd (omega (arith, bounds_fit lo hi l h e))

alone_down : (q : Question) → 0 < question_refusal q → TurnedDown (alone q) (question_refusal q)
unfolding question_refusal question_bytes file_bytes concat
alone_down (QP k) z = key_down 80 k [] here z
alone_down (QS start) z = key_down 83 start [] (there here) z
alone_down (QB stem) z = key_down 66 stem [] (there (there here)) z
alone_down (QR lo hi) z = bounds_down 82 lo hi [] here z
alone_down (QC lo hi) z = bounds_down 67 lo hi [] (there here) z

-- ---- the answer, and what ask does with a file of the question

-- the reply to a question over an image's leaves
abbrev reply_over : Bytes → Question → Reply
reply_over b q = reply (read_settings b).hash_width (read_leaves b) q

-- the bytes that ask writes for a file of one question
abbrev alone_replies : Bytes → Question → Bytes
alone_replies b q = replies (read_settings b).hash_width (read_leaves b) (q ∷ [])

-- are the reply's
alone_bytes : (b : Bytes) (q : Question) → alone_replies b q ≡ reply_bytes (reply_over b q)
unfolding replies concat
alone_bytes b q = append-nil (reply_bytes (reply_over b q))

-- Images with as many hash bits and the same leaves answer alike.
pub same_one : (b c : Bytes) → (read_settings b).hash_width ≡ (read_settings c).hash_width → read_leaves b ≡ read_leaves c → (q : Question) → ask_one b q ≡ ask_one c q
unfolding ask_one
same_one b c d e q = ap₂ {C = Answered} (λ (h : ℕ) (ls : List Leaf). elim (eqb (question_refusal q) 0) [ true ↦ replied (reply h ls q) | false ↦ refused (question_refusal q) ]) d e

module _ (b : Bytes) (v : verdict b ≡ 0) (q : Question) where
  -- Over an accepted image, a question that is taken is answered with the reply that ask writes for a file of this question alone.
  pub one_asked : question_refusal q ≡ 0 → (ask_one b q ≡ replied (reply_over b q)) × ((out : Bytes) → ask b (alone q) out ≡ write 25 (alone_replies b q) out)
  one_asked e = (one_replied b q e, λ out. ask_is b (alone q) out 0 (taken (q ∷ [])) v (alone_taken q e))

  -- One that is turned down is refused with the number with which ask refuses the file.
  one_turned_down : 0 < question_refusal q → (ask_one b q ≡ refused (question_refusal q)) × ((out : Bytes) → ask b (alone q) out ≡ refuse (question_refusal q) out)
  one_turned_down h = (one_refused b q (question_refusal q) refl h, λ out. ask_is b (alone q) out 0 (Questions.refused (question_refusal q)) v ((file_refuses (alone q) (question_refusal q)).1 (alone_down q h).0))

  -- every question is one or the other
  by_refusal : {A : Type 0} → (question_refusal q ≡ 0 → A) → (0 < question_refusal q → A) → A
  by_refusal f g = le_or_lt (question_refusal q) 0 (λ h. f (omega arith)) g

  -- The reply of an answer, for a question that is taken.
  answered_with : (x : Reply) → ask_one b q ≡ replied x → (question_refusal q ≡ 0) × (reply_over b q ≡ x)
  answered_with x e = by_refusal
      (λ z. let a = (one_asked z).0 in (z, cc))
      (λ z. let a = (one_turned_down z).0 in let y : ◌≡◌ {A = ℕ} 0 1 = cc in absurd (omega arith))

  -- A question is refused with just the number, of 22 and 23, with which ask refuses the file.
  pub one_refuses : (out : Bytes) (r : ℕ) → (ask_one b q ≡ refused r) ↔ (((ask b (alone q) out).answer ≡ Answer.refused r) × From 22 23 r)
  one_refuses out r = (to, from)
    where
      to : ask_one b q ≡ refused r → ((ask b (alone q) out).answer ≡ Answer.refused r) × From 22 23 r
      to e = by_refusal
          (λ z. let a = (one_asked z).0 in let y : ◌≡◌ {A = ℕ} 0 1 = cc in absurd (omega arith))
          (λ z. let a = one_turned_down z in
          let f = a.0 in
          let s : question_refusal q ≡ r = cc in
          ((refuse_answer (question_refusal q) r out (ask b (alone q) out) (a.1 out)).1 s, subst (From 22 23) s (alone_down q z).1))

      from : ((ask b (alone q) out).answer ≡ Answer.refused r) × From 22 23 r → ask_one b q ≡ refused r
      from w = by_refusal
          (λ z. absurd (omega (arith, ((write_answer 25 r (alone_replies b q) out (ask b (alone q) out) ((one_asked z).1 out)).0 w.0).0, w.1.1)))
          (λ z. let a = one_turned_down z in a.0 ∙ ap refused ((refuse_answer (question_refusal q) r out (ask b (alone q) out) (a.1 out)).0 w.0))

  -- what ask writes for a file that it takes of the question alone
  alone_written : length (read_leaves b) ≤ 65535 → question_refusal q ≡ 0 → (out : Bytes) → length (alone_replies b q) ≤ length out → Taken b (alone q) out × (reply_alone b q out ≡ reply_over b q)
  alone_written few z out l =
      let w = (one_asked z).1 out ∙ write_fits 25 (alone_replies b q) out l in (
        (length (alone_replies b q), ap (λ (o : Outcome). o.answer) w ∙ success_answer (alone_replies b q) out),
        ap (reply_at 0) (final_is (alone_replies b q) out (ask b (alone q) out) w) ∙ reply_written (read_settings b).hash_width (read_leaves b) few 0 (q ∷ []) q (drop (length (alone_replies b q)) out) refl,
      )

  -- The answer is a reply, and a buffer holds its bytes, exactly if ask takes the file with this buffer and writes this reply.
  pub one_replies : length (read_leaves b) ≤ 65535 → (x : Reply) (out : Bytes)
      → ((ask_one b q ≡ replied x) × (length (reply_bytes x) ≤ length out)) ↔ (Taken b (alone q) out × (reply_alone b q out ≡ x))
  one_replies few x out = (to, from)
    where
      to : (ask_one b q ≡ replied x) × (length (reply_bytes x) ≤ length out) → Taken b (alone q) out × (reply_alone b q out ≡ x)
      to w =
          let a = answered_with x w.0 in
          let r = alone_written few a.0 out (omega (arith, ap length (alone_bytes b q), ap (λ (y : Reply). length (reply_bytes y)) a.1, w.1)) in
          (r.0, r.1 ∙ a.1)

      from : Taken b (alone q) out × (reply_alone b q out ≡ x) → (ask_one b q ≡ replied x) × (length (reply_bytes x) ≤ length out)
      from t = by_refusal
          (λ z. le_or_lt (length (alone_replies b q)) (length out)
          (λ l. let e : reply_over b q ≡ x = sym (alone_written few z out l).1 ∙ t.1 in
          ((one_asked z).0 ∙ ap replied e, omega (arith, ap length (alone_bytes b q), ap (λ (y : Reply). length (reply_bytes y)) e, l)))
          (λ l. no_written 25 t.0.0 out (ask b (alone q) out) ((one_asked z).1 out ∙ write_short 25 (alone_replies b q) out l) t.0.1))
          (λ z. no_written (question_refusal q) t.0.0 out (ask b (alone q) out) ((one_turned_down z).1 out) t.0.1)

-- ---- a point's rule, and a seek's key

-- The rule of a point is the one byte of its reply's key.
pub one_rule_byte : (b : Bytes) → verdict b ≡ 0 → (k : Bytes) (x : Reply) → ask_one b (QP k) ≡ replied x → (r : Rule) × (x.key ≡ rule_number r ∷ []) × (reply_rule (ask_one b (QP k)) ≡ number (rule_number r))
unfolding reply
one_rule_byte b v k x e =
    let r : Rule = rule (read_settings b).hash_width (read_leaves b) k in
    let f : x.key ≡ rule_number r ∷ [] = sym (ap (λ (y : Reply). y.key) (answered_with b v (QP k) x e).1) in
    (r, f, ap reply_rule e ∙ ap (λ (s : Bytes). number (get_or s 0 0)) f)

-- what is left of a buffer that is longer than the reply's key
kept_by : (a : Answered) (found : Bytes) → ((x : Reply) → a ≡ replied x → length x.key < length found) → KeyKept found a
kept_by (refused n) found f = record {
  refusal = λ r e. refl;
  success = λ x e. let z : ◌≡◌ {A = ℕ} 0 1 = cc in absurd (omega arith);
}
kept_by (replied y) found f = record {
  refusal = λ r e. let z : ◌≡◌ {A = ℕ} 0 1 = cc in absurd (omega arith);
  success = λ x e.
      let s : y ≡ x = cc in
      let k : Bytes = key_bytes y.key in
      let rest : Bytes = drop (length k) found in
      subst (λ (x : Reply). (take (length (key_bytes x.key)) (k ++ rest) ≡ key_bytes x.key) × (length (k ++ rest) ≡ length found) × (drop (length (key_bytes x.key)) (k ++ rest) ≡ drop (length (key_bytes x.key)) found)) s
      (take-append_seam k rest, omega (arith, length-append k rest, length-drop (length k) found, f y refl), drop-append_seam k rest);
}

-- The buffer that is lent for a seek's key is kept.
pub seek_kept : (w : ℕ) (b : Bytes) → verdict b ≡ 0 → AllRealSized w (reals (read_settings b).hash_width (read_leaves b)) → (start found : Bytes) → found_size ≤ length found → KeyKept found (ask_one b (QS start))
unfolding reply seek
seek_kept w b v o start found l = kept_by (ask_one b (QS start)) found (λ x e.
    let a = answered_with b v (QS start) x e in
    let h = sought_small w 0 (reals (read_settings b).hash_width (read_leaves b)) start o (key_short start (sym (seek_keys start) ∙ a.0)) in
    omega (arith, h, ap (λ (y : Reply). length y.key) a.1))
