-- Question files read question by question, and the questions that stand from an offset on: what the judge of question files and ask's passes over the questions rest on.
use Rattle.std.specs.Prelude.{ℕ, zero, suc, ◌+◌, ◌≤◌, ◌<◌, ◌≡◌, refl, Bool, true, false, drop, eqb}
use Rattle.std.proofs.Common.{sym, ap, ◌∙◌, arith, eq-eqb, ne_eqb, eqb-true, length-drop, drop_of_length-le}
use mathlib.Core.List.{List, [], ◌∷◌}
use Rattle.std.proofs.lemmas.Bool.{eqb-false}
use Rattle.std.proofs.Math.ListN.{length}
use Rattle.spec.specs.Bytes.{Bytes}
use Rattle.spec.specs.Questions.{Question, Front, bad, got, read_question, ParsedQuestions, refused, taken, with_question, parse_from, parse_questions, questions_of}
use Rattle.ask_files.specs.QuestionAt.{marked_read, Ended, question_ends}

-- the questions from `at` on
abbrev pub questions_from : Bytes → ℕ → List Question
questions_from file at = questions_of (drop at file)

-- the bytes from `at` on are a question file that is taken
abbrev pub TakenFrom : Bytes → ℕ → Type 0
TakenFrom file at = parse_questions (drop at file) ≡ taken (questions_from file at)

-- ---- the first question of bytes

-- no bytes, no questions
pub parse_none : (f done : ℕ) → parse_from f done [] ≡ taken []
unfolding parse_from
parse_none zero done = refl
parse_none (suc f) done = refl

module _ (f done : ℕ) (s : Bytes) (some : 0 < length s) where
  -- 24, a question follows 1,024 others
  pub parse_many : done ≡ 1024 → parse_from (suc f) done s ≡ refused 24
  unfolding parse_from
  parse_many h = go s some
    where
      go : (s : Bytes) → 0 < length s → parse_from (suc f) done s ≡ refused 24
      go [] l = absurd (omega arith)
      go (b ∷ t) l = rw (eq-eqb done 1024 h, parse_from)

  module _ (room : done ≡ 1024 → ⊥) where
    -- the question's own number
    pub parse_bad : {r : ℕ} → read_question s ≡ bad r → parse_from (suc f) done s ≡ refused r
    unfolding parse_from
    parse_bad {r} h = go s some h
      where
        go : (s : Bytes) → 0 < length s → read_question s ≡ bad r → parse_from (suc f) done s ≡ refused r
        go [] l e = absurd (omega arith)
        go (b ∷ t) l e = rw (ne_eqb done 1024 room, e, parse_from)

    -- a question, and those behind it
    pub parse_got : {q : Question} {u : Bytes} → read_question s ≡ got q u → parse_from (suc f) done s ≡ with_question q (parse_from f (suc done) u)
    unfolding parse_from
    parse_got {q} {u} h = go s some h
      where
        go : (s : Bytes) → 0 < length s → read_question s ≡ got q u → parse_from (suc f) done s ≡ with_question q (parse_from f (suc done) u)
        go [] l e = absurd (omega arith)
        go (b ∷ t) l e = rw (ne_eqb done 1024 room, e, parse_from)

-- ---- a file that is taken

-- a refusal is no list of questions
pub no_taken : {A : Type 0} {r : ℕ} {qs : List Question} → refused r ≡ taken qs → A
no_taken h = let z : ◌≡◌ {A = ℕ} 0 1 = cc in absurd (omega arith)

with_question_is : (q : Question) (a : ParsedQuestions) (qs : List Question) → with_question q a ≡ taken qs → (ps : List Question) × (a ≡ taken ps) × (qs ≡ q ∷ ps)
unfolding with_question
with_question_is q (refused r) qs h = no_taken h
with_question_is q (taken ps) qs h = (ps, refl, cc)

-- the first of the questions that are taken from s, behind `done` others
record First (f done : ℕ) (s : Bytes) (qs : List Question) : Type 0 where
  question : Question
  behind : Bytes
  others : List Question
  room : done ≡ 1024 → ⊥
  read : read_question s ≡ got question behind
  ended : Ended s 0 behind
  later : parse_from f (suc done) behind ≡ taken others
  are : qs ≡ question ∷ others

first : (f done : ℕ) (s : Bytes) (qs : List Question) → 0 < length s → parse_from (suc f) done s ≡ taken qs → First f done s qs
first f done s qs some h = one (eqb done 1024) refl
  where
    two : (done ≡ 1024 → ⊥) → (g : Front Question) → read_question s ≡ g → First f done s qs
    two room (bad r) e = no_taken (sym (parse_bad f done s some room e) ∙ h)
    two room (got q t) e =
        let w = with_question_is q (parse_from f (suc done) t) qs (sym (parse_got f done s some room e) ∙ h) in
        record { question = q; behind = t; others = w.0; room = room; read = e; ended = question_ends s 0 q t (marked_read s 0 q t some e); later = w.1; are = w.2 }

    one : (b : Bool) → eqb done 1024 ≡ b → First f done s qs
    one true e = no_taken (sym (parse_many f done s some (eqb-true _ _ e)) ∙ h)
    one false e = two (eqb-false _ _ e) (read_question s) refl

-- fewer bytes behind the first question
shorter : {s t : Bytes} → 0 < length s → Ended s 0 t → length t < length s
shorter {s} {t} some e = omega (arith, ap length e.rest_is, length-drop e.end s, e.later, e.inside)

with_taken : (q : Question) (ps : List Question) → with_question q (taken ps) ≡ taken (q ∷ ps)
unfolding with_question
with_taken q ps = refl

-- a question with those behind it, behind `fewer` others
again_one : (done g fewer : ℕ) (s t : Bytes) (q : Question) (ps qs : List Question) → length t < length s → read_question s ≡ got q t → done < 1024 → fewer ≤ done → length s ≤ g → qs ≡ q ∷ ps
    → ((g : ℕ) → length t ≤ g → parse_from g (suc fewer) t ≡ taken ps) → parse_from g fewer s ≡ taken qs
again_one done zero fewer s t q ps qs less read inner l m e k = absurd (omega arith)
again_one done (suc g) fewer s t q ps qs less read inner l m e k =
    parse_got g fewer s (omega arith) (λ z. omega arith) read ∙ ap (with_question q) (k g (omega arith)) ∙ with_taken q ps ∙ ap taken (sym e)

-- Questions that are taken behind `done` others are at most 1,024 with them, and are taken behind fewer, whatever the fuel.
record TakenBehind (done : ℕ) (s : Bytes) (qs : List Question) : Type 0 where
  few : done + length qs ≤ 1024
  again : (g fewer : ℕ) → fewer ≤ done → length s ≤ g → parse_from g fewer s ≡ taken qs

behind_none : (f done : ℕ) (qs : List Question) → done ≤ 1024 → parse_from f done [] ≡ taken qs → TakenBehind done [] qs
behind_none f done qs a h =
    let e : taken [] ≡ taken qs = sym (parse_none f done) ∙ h in
    let z : qs ≡ [] = cc in
    record { few = omega (arith, ap length z); again = λ g fewer l m. parse_none g fewer ∙ e }

-- by the law for what stands behind the first question
behind_one : (f done : ℕ) (s : Bytes) (qs : List Question) → done ≤ 1024 → 0 < length s → length s ≤ suc f → parse_from (suc f) done s ≡ taken qs
    → ((t : Bytes) (ps : List Question) → suc done ≤ 1024 → length t ≤ f → parse_from f (suc done) t ≡ taken ps → TakenBehind (suc done) t ps) → TakenBehind done s qs
behind_one f done s qs a some l h ih =
    let i = first f done s qs some h in
    let less = shorter some i.ended in
    let room = i.room in
    let inner : done < 1024 = omega arith in
    let j = ih i.behind i.others inner (omega arith) i.later in
    record {
      few = omega (arith, j.few, ap length i.are);
      again = λ g fewer k m. again_one done g fewer s i.behind i.question i.others qs less i.read inner k m i.are (λ g n. j.again g (suc fewer) (omega arith) n);
    }

behind : (f done : ℕ) (s : Bytes) (qs : List Question) → done ≤ 1024 → length s ≤ f → parse_from f done s ≡ taken qs → TakenBehind done s qs
behind zero done s qs a l h = go s l h
  where
    go : (s : Bytes) → length s ≤ 0 → parse_from zero done s ≡ taken qs → TakenBehind done s qs
    go [] m e = behind_none zero done qs a e
    go (x ∷ t) m e = absurd (omega arith)
behind (suc f) done s qs a l h = go s l h (λ t ps. behind f (suc done) t ps)
  where
    go : (s : Bytes) → length s ≤ suc f → parse_from (suc f) done s ≡ taken qs
        → ((t : Bytes) (ps : List Question) → suc done ≤ 1024 → length t ≤ f → parse_from f (suc done) t ≡ taken ps → TakenBehind (suc done) t ps) → TakenBehind done s qs
    go [] m e ih = behind_none (suc f) done qs a e
    go (x ∷ t) m e ih = behind_one f done (x ∷ t) qs a (omega arith) m e ih

-- at most 1,024 questions
pub few_questions : (file : Bytes) (qs : List Question) → parse_questions file ≡ taken qs → length qs ≤ 1024
unfolding parse_questions
few_questions file qs h = omega (arith, (behind (length file) 0 file qs (omega arith) (omega arith) h).few)

-- the questions of a file that is taken
pub questions_are : (file : Bytes) (qs : List Question) → parse_questions file ≡ taken qs → questions_of file ≡ qs
unfolding questions_of
questions_are file qs h = ap {B = List Question} (λ (a : ParsedQuestions). elim a [ refused r ↦ [] | taken qs ↦ qs ]) h

-- a file that is taken, from its first question on
pub taken_start : (file : Bytes) (qs : List Question) → parse_questions file ≡ taken qs → TakenFrom file 0
taken_start file qs h = h ∙ ap taken (sym (questions_are file qs h))

-- behind the last question
pub taken_end : (file : Bytes) (at : ℕ) → length file ≤ at → questions_from file at ≡ []
unfolding parse_questions
taken_end file at h = questions_are (drop at file) [] (ap parse_questions (drop_of_length-le file h) ∙ parse_none 0 0)

-- the question at `at`, and those behind it
pub record NextQuestion (file : Bytes) (at : ℕ) : Type 0 where
  pub question : Question
  pub next : ℕ
  pub later : at < next
  pub inside : next ≤ length file
  pub read : read_question (drop at file) ≡ got question (drop next file)
  pub from : questions_from file at ≡ question ∷ questions_from file next
  pub taken_next : TakenFrom file next

-- the rest of a file that is taken is a file that is taken
rest_taken : (s : Bytes) (qs : List Question) → 0 < length s → parse_questions s ≡ taken qs
    → (q : Question) × (t : Bytes) × (ps : List Question) × (read_question s ≡ got q t) × (parse_questions t ≡ taken ps) × (qs ≡ q ∷ ps)
unfolding parse_questions
rest_taken [] qs some h = absurd (omega arith)
rest_taken (x ∷ s) qs some h =
    let i = first (length s) 0 (x ∷ s) qs some h in
    let less = shorter some i.ended in
    (i.question, i.behind, i.others, i.read, (behind (length s) 1 i.behind i.others (omega arith) (omega arith) i.later).again (length i.behind) 0 (omega arith) (omega arith), i.are)

-- by what is read at `at` and the questions of the bytes behind it
next_from : (file : Bytes) (at : ℕ) (q : Question) (t : Bytes) (ps : List Question) → at < length file → read_question (drop at file) ≡ got q t → parse_questions t ≡ taken ps → questions_from file at ≡ q ∷ ps
    → Ended file at t → NextQuestion file at
next_from file at q t ps inside read h are e =
    let p : parse_questions (drop e.end file) ≡ taken ps = ap parse_questions (sym e.rest_is) ∙ h in
    let r : questions_from file e.end ≡ ps = questions_are (drop e.end file) ps p in
    record {
      question = q;
      next = e.end;
      later = e.later;
      inside = e.inside;
      read = read ∙ ap (got q) e.rest_is;
      from = are ∙ ap (λ (qs : List Question). q ∷ qs) (sym r);
      taken_next = p ∙ ap taken (sym r);
    }

-- the question at an offset inside a file that is taken from there on
pub next_question : (file : Bytes) (at : ℕ) → at < length file → TakenFrom file at → NextQuestion file at
next_question file at inside h =
    let some : 0 < length (drop at file) = omega (arith, length-drop at file) in
    let i = rest_taken (drop at file) (questions_from file at) some h in
    next_from file at i.0 i.1 i.2 inside i.3 i.4 i.5 (question_ends file at i.0 i.1 (marked_read file at i.0 i.1 inside i.3))
