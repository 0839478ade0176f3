-- A question file judged question by question, by position: the count of its questions or its number.
use mathlib.Core.Path.{◌≡◌, refl, sym, ap, ap₂, ◌∙◌}
use Prim.Native.Nat.{ℕ, zero, suc, ◌+◌, ◌-◌, ◌≤◌, ◌<◌}
use native.Mathlib.Omega.{arith}
use lib.ListN.{length, drop, length-drop, drop_of_length-le}
use Rattle.spec.specs.Bytes.{Bytes}
use Rattle.spec.specs.Questions.{Question, ParsedQuestions, refused, taken, with_question, parse_from, parse_questions, questions_of}
use Rattle.ask_files.specs.FileLaws.{questions_are, parse_none, parse_many, parse_bad, parse_got}
use Rattle.ask_files.specs.Questions.{ReadsQuestion, counted, question_file}
use Rattle.std.specs.Prelude.{Ok, Err}
use Rattle.image.specs.declared.refusals.Refusal.{Refusal}
use Rattle.image.specs.Refusals.{number_of}

-- the whole file, before its first question
pub judge_start : (s : Bytes) → question_file (parse_questions s) ≡ counted 0 (parse_from (length s - 0) 0 (drop 0 s))
unfolding question_file parse_questions
judge_start s = let e : length s ≡ length s - 0 = omega arith in ap (λ (f : ℕ). counted 0 (parse_from f 0 s)) e

counted_refused : (n r : ℕ) → counted n (refused r) ≡ Err r
unfolding counted
counted_refused n r = refl

-- a question more in front
counted_question : (n : ℕ) (q : Question) (p : ParsedQuestions) → counted n (with_question q p) ≡ counted (n + 1) p
unfolding counted with_question
counted_question n q (refused r) = refl
counted_question n q (taken qs) = let e : n + suc (length qs) ≡ n + 1 + length qs = omega arith in ap Ok e

module _ (s : Bytes) (at count : ℕ) where
  -- behind the last question
  pub judge_end : (f : ℕ) → length s ≤ at → counted count (parse_from f count (drop at s)) ≡ Ok count
  unfolding counted
  judge_end f h = let e : count + 0 ≡ count = omega arith in ap (λ (t : Bytes). counted count (parse_from f count t)) (drop_of_length-le s h) ∙ ap (counted count) (parse_none f count) ∙ ap Ok e

  module _ (inside : at < length s) where
    some : 0 < length (drop at s)
    some = omega (arith, length-drop at s)

    -- 24, a question follows 1,024 others
    pub judge_many : (f : ℕ) → 0 < f → count ≡ 1024 → counted count (parse_from f count (drop at s)) ≡ Err 24
    judge_many zero l h = absurd (omega arith)
    judge_many (suc f) l h = ap (counted count) (parse_many f count (drop at s) some h) ∙ counted_refused count 24

    module _ (room : count ≡ 1024 → ⊥) where
      -- a question that turns the file down
      pub judge_refused : (f : ℕ) (r : Refusal) → 0 < f → ReadsQuestion s at (Err r) → counted count (parse_from f count (drop at s)) ≡ Err (number_of r)
      judge_refused zero r l h = absurd (omega arith)
      judge_refused (suc f) r l h = ap (counted count) (parse_bad f count (drop at s) some room h) ∙ counted_refused count (number_of r)

      -- a question that is taken
      pub judge_more : (f e : ℕ) → 0 < f → ReadsQuestion s at (Ok e) → counted count (parse_from f count (drop at s)) ≡ counted (count + 1) (parse_from (f - 1) (count + 1) (drop e s))
      judge_more zero e l h = absurd (omega arith)
      judge_more (suc f) e l h =
          let d : f ≡ suc f - 1 = omega arith in
          let n : suc count ≡ count + 1 = omega arith in
          ap (counted count) (parse_got f count (drop at s) some room h.3) ∙ counted_question count h.0 (parse_from f (suc count) (drop e s))
          ∙ ap₂ (λ (g c : ℕ). counted (count + 1) (parse_from g c (drop e s))) d n

-- an answer with a count comes from a file whose questions are taken, so many of them
pub file_taken : (file : Bytes) (n : ℕ) → Ok n ≡ question_file (parse_questions file) → (parse_questions file ≡ taken (questions_of file)) × (length (questions_of file) ≡ n)
unfolding question_file counted
file_taken file n h = go (parse_questions file) refl h
  where
    go : (p : ParsedQuestions) → parse_questions file ≡ p → Ok n ≡ question_file p → (parse_questions file ≡ taken (questions_of file)) × (length (questions_of file) ≡ n)
    go (refused r) e f = let z : ◌≡◌ {A = ℕ} 0 1 = cc in absurd (omega arith)
    go (taken qs) e f =
        let are = questions_are file qs e in
        let z : n ≡ 0 + length qs = cc in
        (e ∙ ap taken (sym are), omega (arith, ap length are))

-- an answer with a number comes from a file that the number turns down
pub file_refused : (file : Bytes) (r : ℕ) → Err r ≡ question_file (parse_questions file) → parse_questions file ≡ refused r
unfolding question_file counted
file_refused file r h = go (parse_questions file) h
  where
    go : (p : ParsedQuestions) → Err r ≡ question_file p → p ≡ refused r
    go (refused q) f = let z : r ≡ q = cc in ap refused (sym z)
    go (taken qs) f = let z : ◌≡◌ {A = ℕ} 0 1 = cc in absurd (omega arith)
