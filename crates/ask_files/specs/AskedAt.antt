-- The question at an offset of a file that is taken, by its letter and its length bytes: what reading it without judging it again rests on.
use Rattle.std.specs.Prelude.{ℕ, ◌+◌, ◌≤◌, ◌<◌, ◌≡◌, refl, Bool, true, false, ◌∷◌, length, get_or, drop, eqb}
use Rattle.std.proofs.Common.{sym, ap, ap₂, ◌∙◌, arith, eqb-true}
use Rattle.std.proofs.lemmas.Bool.{eqb-false}
use Rattle.spec.specs.Bytes.{Bytes}
use Rattle.spec.specs.Keys.{below}
use Rattle.spec.specs.Questions.{Question, QR, QC, one_key, two_keys, read_keys, taken, parse_questions, questions_of}
use Rattle.bits.specs.Bits.{key}
use Rattle.ask_files.specs.KeyAt.{KeyAt, no_got}
use Rattle.ask_files.specs.QuestionAt.{letter_range, letter_count, letter_none, one_read, two_read, upper_at, Marked, marked_read, question_ends}
use Rattle.ask_files.specs.FileLaws.{questions_from, TakenFrom, NextQuestion, next_question}

-- the questions from `at` on are q and those from `next` on
pub record Followed (file : Bytes) (at : ℕ) (q : Question) (next : ℕ) : Type 0 where
  pub later : at < next
  pub inside : next ≤ length file
  pub from : questions_from file at ≡ q ∷ questions_from file next
  pub taken_next : TakenFrom file next

-- a key of n bytes from a, as a question has it
pub record KeyPart (file : Bytes) (a n : ℕ) : Type 0 where
  pub fits : a + n ≤ length file
  pub small : n ≤ 64

module _ (file : Bytes) (at : ℕ) (inside : at < length file) (here : TakenFrom file at) where
  asked : NextQuestion file at
  asked = next_question file at inside here

  marked : Marked file at asked.question (drop asked.next file)
  marked = marked_read file at asked.question (drop asked.next file) inside asked.read

  -- the mark and the first key are whole
  pub first_key : KeyAt file (at + 2)
  first_key = (question_ends file at asked.question (drop asked.next file) marked).first

  -- the question read is q, and it ends at `end`
  followed : (q : Question) (end : ℕ) → asked.question ≡ q → drop asked.next file ≡ drop end file → at < end → end ≤ length file → Followed file at q end
  followed q end e d l m = record {
    later = l;
    inside = m;
    from = asked.from ∙ ap₂ (λ (p : Question) (t : Bytes). p ∷ questions_of t) e d;
    taken_next = ap parse_questions (sym d) ∙ asked.taken_next ∙ ap (λ (t : Bytes). taken (questions_of t)) d;
  }

  -- a question with one key
  pub one_asked : (c : Bytes → Question) (n : ℕ) → ((t : Bytes) → read_keys (get_or file (at + 1) 0) t ≡ one_key c t) → n ≡ get_or file (at + 2) 0
      → KeyPart file (at + 3) n × Followed file at (c (key file (at + 3) n)) (at + 3 + n)
  one_asked c n letter size =
      let r = one_read file (at + 2) c asked.question (drop asked.next file) (sym (letter (drop (at + 2) file)) ∙ marked.letter) in
      let e : at + 2 + 1 ≡ at + 3 = omega arith in
      let w = r.whole in (
        record { fits = omega (arith, w.fits); small = omega (arith, w.small) },
        followed (c (key file (at + 3) n)) (at + 3 + n) (r.question_is ∙ ap₂ (λ (a m : ℕ). c (key file a m)) e (sym size)) (r.rest_is ∙ ap₂ (λ (a m : ℕ). drop (a + m) file) e (sym size)) (omega arith) (omega (arith, w.fits)),
      )

  -- a question with two bounds
  pub two_asked : (c : Bytes → Bytes → Question) (n m : ℕ) → ((t : Bytes) → read_keys (get_or file (at + 1) 0) t ≡ two_keys c t) → n ≡ get_or file (at + 2) 0 → m ≡ get_or file (at + 3 + n) 0
      → KeyPart file (at + 3) n × KeyPart file (at + 3 + n + 1) m × (below (key file (at + 3 + n + 1) m) (key file (at + 3) n) ≡ false)
      × Followed file at (c (key file (at + 3) n) (key file (at + 3 + n + 1) m)) (at + 3 + n + 1 + m)
  two_asked c n m letter size above =
      let r = two_read file (at + 2) c asked.question (drop asked.next file) (sym (letter (drop (at + 2) file)) ∙ marked.letter) in
      let e : at + 2 + 1 ≡ at + 3 = omega arith in
      let u : upper_at file (at + 2) ≡ at + 3 + n = ap₂ ◌+◌ e (sym size) in
      let v : get_or file (upper_at file (at + 2)) 0 ≡ m = ap (λ (a : ℕ). get_or file a 0) u ∙ sym above in
      let lo : key file (at + 2 + 1) (get_or file (at + 2) 0) ≡ key file (at + 3) n = ap₂ (key file) e (sym size) in
      let hi : key file (upper_at file (at + 2) + 1) (get_or file (upper_at file (at + 2)) 0) ≡ key file (at + 3 + n + 1) m = ap₂ (λ (a i : ℕ). key file (a + 1) i) u v in
      let l = r.lower in
      let w = r.upper in (
        record { fits = omega (arith, l.fits); small = omega (arith, l.small) },
        record { fits = omega (arith, w.fits, u, v); small = omega (arith, w.small, v) },
        ap₂ below (sym hi) (sym lo) ∙ r.order,
        followed (c (key file (at + 3) n) (key file (at + 3 + n + 1) m)) (at + 3 + n + 1 + m) (r.question_is ∙ ap₂ c lo hi) (r.rest_is ∙ ap₂ (λ (a i : ℕ). drop (a + 1 + i) file) u v) (omega arith) (omega (arith, w.fits, u, v)),
      )

  -- the letters that are left
  pub count_left : (get_or file (at + 1) 0 ≡ 80 → ⊥) → (get_or file (at + 1) 0 ≡ 83 → ⊥) → (get_or file (at + 1) 0 ≡ 66 → ⊥) → (get_or file (at + 1) 0 ≡ 82 → ⊥)
      → (t : Bytes) → read_keys (get_or file (at + 1) 0) t ≡ two_keys QC t
  count_left p s b r = go (eqb (get_or file (at + 1) 0) 67) refl
    where
      go : (z : Bool) → eqb (get_or file (at + 1) 0) 67 ≡ z → (t : Bytes) → read_keys (get_or file (at + 1) 0) t ≡ two_keys QC t
      go true e = letter_count (get_or file (at + 1) 0) (eqb-true _ _ e)
      go false e = no_got (sym (letter_none (get_or file (at + 1) 0) p s b r (eqb-false _ _ e) (drop (at + 2) file)) ∙ marked.letter)

  -- where the letter asks for no single key, two bounds stand there
  pub upper_key : (n : ℕ) → (get_or file (at + 1) 0 ≡ 80 → ⊥) → (get_or file (at + 1) 0 ≡ 83 → ⊥) → (get_or file (at + 1) 0 ≡ 66 → ⊥) → n ≡ get_or file (at + 2) 0 → at + 3 + n < length file
  upper_key n p s b size = go (eqb (get_or file (at + 1) 0) 82) refl
    where
      two : (c : Bytes → Bytes → Question) → ((t : Bytes) → read_keys (get_or file (at + 1) 0) t ≡ two_keys c t) → at + 3 + n < length file
      two c letter = let w = (two_asked c n (get_or file (at + 3 + n) 0) letter size refl).1 in omega (arith, w.fits)

      go : (z : Bool) → eqb (get_or file (at + 1) 0) 82 ≡ z → at + 3 + n < length file
      go true e = two QR (letter_range (get_or file (at + 1) 0) (eqb-true _ _ e))
      go false e = two QC (count_left p s b (eqb-false _ _ e))

  -- and the upper bound is whole
  pub upper_fits : (n m : ℕ) → (get_or file (at + 1) 0 ≡ 80 → ⊥) → (get_or file (at + 1) 0 ≡ 83 → ⊥) → (get_or file (at + 1) 0 ≡ 66 → ⊥) → n ≡ get_or file (at + 2) 0 → m ≡ get_or file (at + 3 + n) 0 → at + 3 + n + 1 + m ≤ length file
  upper_fits n m p s b size above = go (eqb (get_or file (at + 1) 0) 82) refl
    where
      two : (c : Bytes → Bytes → Question) → ((t : Bytes) → read_keys (get_or file (at + 1) 0) t ≡ two_keys c t) → at + 3 + n + 1 + m ≤ length file
      two c letter = (two_asked c n m letter size above).1.fits

      go : (z : Bool) → eqb (get_or file (at + 1) 0) 82 ≡ z → at + 3 + n + 1 + m ≤ length file
      go true e = two QR (letter_range (get_or file (at + 1) 0) (eqb-true _ _ e))
      go false e = two QC (count_left p s b (eqb-false _ _ e))
