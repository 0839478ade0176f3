-- Question files, written and read. A byte string is at most 1,024 questions with keys and bounds of at most 64 bytes and ranges the right way round, or the sentences on questions name the one number that turns it down;
-- what is read from it is those questions, or that number.
use Rattle.std.specs.Prelude.{ℕ, zero, suc, ◌+◌, ◌<◌, ◌≤◌, ◌≡◌, refl, Bool, true, false, ◌↔◌, length, take, drop, ltb, eqb}
use Rattle.std.proofs.Common.{sym, ap, subst, ◌∙◌, ⊎_elim, length-append, take-append-drop, length-take-le, ltb-true, ltb-false, eqb-true, lt-ltb, le-ltb, eq-eqb, ne_eqb}
use mathlib.Core.List.{List, [], ◌∷◌, ◌++◌, map, append_assoc, append-nil, map-append}
use native.Mathlib.Omega.{arith}
use Rattle.std.proofs.Math.Seq.{take-append_seam, drop-append_seam}
use Rattle.std.proofs.lemmas.Bool.{eqb-false}
use Rattle.spec.specs.Bytes.{Bytes, concat}
use Rattle.spec.specs.Keys.{below}
use Rattle.spec.specs.Questions.{Question, QP, QS, QB, QR, QC, bad, got, read_key, one_key, two_keys, read_keys, read_question, ParsedQuestions, refused, taken, with_question, parse_from, parse_questions}
use Rattle.theory.specs.Terms.{All, In, here, there, From, IsBytes, Range, file_bytes, question_bytes, QuestionFile, key_bytes, Proper}
use Rattle.theory.specs.Demands.{QuestionFits, QuestionsTaken, Passes24, one_key_letters, two_key_letters, KeyDue, behind_mark, behind_bound, QuestionRefusal, question_too_many, question_unmarked, question_short, no_length, key_cut_off, length_over, bounds_crossed}
use Rattle.theory.proofs.Lists.{none_in, in_cons, in_valid, all_in, all_append, all_split, all_weaken, concat_append}

-- ---- a key, read

key_read : (k t : Bytes) → length k ≤ 64 → read_key (key_bytes k ++ t) ≡ got k t
unfolding read_key
key_read k t h = rw (le-ltb 64 (length k) h, le-ltb (length (k ++ t)) (length k) (omega (arith, length-append k t)), take-append_seam k t, drop-append_seam k t, read_key)

no_length_read : read_key [] ≡ bad 21
unfolding read_key
no_length_read = refl

cut_off_read : (n : ℕ) (s : Bytes) → n ≤ 64 → length s < n → read_key (n ∷ s) ≡ bad 21
unfolding read_key
cut_off_read n s h l = rw (le-ltb 64 n h, lt-ltb (length s) n l, read_key)

over_read : (n : ℕ) (s : Bytes) → 64 < n → read_key (n ∷ s) ≡ bad 22
unfolding read_key
over_read n s h = rw (lt-ltb 64 n h, read_key)

-- ---- a question, read

one_read : (q : Bytes → Question) (k t : Bytes) → length k ≤ 64 → one_key q (key_bytes k ++ t) ≡ got (q k) t
unfolding one_key
one_read q k t h = rw (key_read k t h, one_key)

two_read : (q : Bytes → Bytes → Question) (lo hi t : Bytes) → (length lo ≤ 64) × (length hi ≤ 64) × (below hi lo ≡ false) → two_keys q ((key_bytes lo ++ key_bytes hi) ++ t) ≡ got (q lo hi) t
unfolding two_keys
two_read q lo hi t r =
    ap (two_keys q) (append_assoc (key_bytes lo) (key_bytes hi) t) ∙ rw (key_read lo (key_bytes hi ++ t) r.0, key_read hi t r.1, r.2, two_keys)

question_read : (q : Question) (t : Bytes) → QuestionFits q → read_question (question_bytes q ++ t) ≡ got q t
unfolding read_question read_keys question_bytes
question_read (QP k) t p = one_read QP k t p
question_read (QS k) t p = one_read QS k t p
question_read (QB k) t p = one_read QB k t p
question_read (QR lo hi) t p = two_read QR lo hi t p
question_read (QC lo hi) t p = two_read QC lo hi t p

one_bad : (q : Bytes → Question) (s : Bytes) (r : ℕ) → read_key s ≡ bad r → one_key q s ≡ bad r
unfolding one_key
one_bad q s r h = rw (h, one_key)

lower_bad : (q : Bytes → Bytes → Question) (s : Bytes) (r : ℕ) → read_key s ≡ bad r → two_keys q s ≡ bad r
unfolding two_keys
lower_bad q s r h = rw (h, two_keys)

upper_bad : (q : Bytes → Bytes → Question) (lo s : Bytes) (r : ℕ) → length lo ≤ 64 → read_key s ≡ bad r → two_keys q (key_bytes lo ++ s) ≡ bad r
unfolding two_keys
upper_bad q lo s r l h = rw (key_read lo s l, h, two_keys)

crossed_bad : (q : Bytes → Bytes → Question) (lo hi s : Bytes) → length lo ≤ 64 → length hi ≤ 64 → below hi lo ≡ true → two_keys q ((key_bytes lo ++ key_bytes hi) ++ s) ≡ bad 23
unfolding two_keys
crossed_bad q lo hi s l m h = ap (two_keys q) (append_assoc (key_bytes lo) (key_bytes hi) s) ∙ rw (key_read lo (key_bytes hi ++ s) l, key_read hi s m, h, two_keys)

-- a number that is read where a key is due is the question's
due_read : {rest s : Bytes} → KeyDue rest s → (r : ℕ) → read_key s ≡ bad r → read_question rest ≡ bad r
unfolding read_question read_keys
due_read (behind_mark x s i) r h = all_in (λ x. read_question (81 ∷ x ∷ s) ≡ bad r) (one_bad QP s r h, (one_bad QS s r h, (one_bad QB s r h, (lower_bad QR s r h, (lower_bad QC s r h, tt))))) i
due_read (behind_bound x lo s i l) r h = all_in (λ x. read_question (81 ∷ x ∷ key_bytes lo ++ s) ≡ bad r) (upper_bad QR lo s r l h, (upper_bad QC lo s r l h, tt)) i

crossed_read : (x : ℕ) (lo hi s : Bytes) → In x two_key_letters → length lo ≤ 64 → length hi ≤ 64 → below hi lo ≡ true → read_question (81 ∷ x ∷ (key_bytes lo ++ key_bytes hi) ++ s) ≡ bad 23
unfolding read_question read_keys
crossed_read x lo hi s i l m h = all_in (λ x. read_question (81 ∷ x ∷ (key_bytes lo ++ key_bytes hi) ++ s) ≡ bad 23) (crossed_bad QR lo hi s l m h, (crossed_bad QC lo hi s l m h, tt)) i

unmarked_read : (a x : ℕ) (s : Bytes) → (a ≡ 81 → In x (one_key_letters ++ two_key_letters) → ⊥) → read_question (a ∷ x ∷ s) ≡ bad 21
unfolding read_question read_keys
unmarked_read a x s h = go (eqb a 81) refl
  where
    go : (t : Bool) → eqb a 81 ≡ t → read_question (a ∷ x ∷ s) ≡ bad 21
    go false e = rw (e, read_question)
    go true e =
        let no = h (eqb-true a 81 e) in
        rw (
          e,
          ne_eqb x 80 (λ y. no (rw y here)),
          ne_eqb x 83 (λ y. no (rw y (there here))),
          ne_eqb x 66 (λ y. no (rw y (there (there here)))),
          ne_eqb x 82 (λ y. no (rw y (there (there (there here))))),
          ne_eqb x 67 (λ y. no (rw y (there (there (there (there here)))))),
          read_question,
          read_keys,
        )

-- ---- questions that are taken, then what stands behind them

-- questions before those behind them
abbrev with_questions : List Question → ParsedQuestions → ParsedQuestions
with_questions [] p = p
with_questions (q ∷ qs) p = with_question q (with_questions qs p)

with_questions_refused : (qs : List Question) (r : ℕ) → with_questions qs (refused r) ≡ refused r
unfolding with_question
with_questions_refused [] r = refl
with_questions_refused (q ∷ qs) r = ap (with_question q) (with_questions_refused qs r)

with_questions_all : (qs : List Question) → with_questions qs (taken []) ≡ taken qs
unfolding with_question
with_questions_all [] = refl
with_questions_all (q ∷ qs) = ap (with_question q) (with_questions_all qs)

question_size : (q : Question) (t : Bytes) → length t < length (question_bytes q ++ t)
unfolding question_bytes
question_size (QP k) t = omega (arith, length-append k t)
question_size (QS k) t = omega (arith, length-append k t)
question_size (QB k) t = omega (arith, length-append k t)
question_size (QR lo hi) t = omega (arith, length-append (lo ++ key_bytes hi) t)
question_size (QC lo hi) t = omega (arith, length-append (lo ++ key_bytes hi) t)

questions_front : (f done : ℕ) (s : Bytes) (q : Question) (t : Bytes) → done < 1024 → 0 < length s → read_question s ≡ got q t → parse_from (suc f) done s ≡ with_question q (parse_from f (suc done) t)
unfolding parse_from
questions_front f done [] q t d l h = absurd (omega arith)
questions_front f done (b ∷ s) q t d l h = rw (ne_eqb done 1024 (λ e. omega arith), h, parse_from)

questions_read : (f done : ℕ) (qs : List Question) (rest : Bytes) (p : ParsedQuestions) (total : ℕ) → All QuestionFits qs → done + length qs ≡ total → total ≤ 1024
    → length (file_bytes qs ++ rest) ≤ f → ((g : ℕ) → length rest ≤ g → parse_from g total rest ≡ p) → parse_from f done (file_bytes qs ++ rest) ≡ with_questions qs p
unfolding file_bytes concat
questions_read f done [] rest p total q e d l h = let z : done ≡ total = omega arith in rw z (h f l)
questions_read zero done (q ∷ qs) rest p total w e d l h =
    absurd (omega (arith, ap length (append_assoc (question_bytes q) (concat (map question_bytes qs)) rest), question_size q (concat (map question_bytes qs) ++ rest)))
questions_read (suc f) done (q ∷ qs) rest p total w e d l h =
    let behind : Bytes = concat (map question_bytes qs) ++ rest in
    let a = append_assoc (question_bytes q) (concat (map question_bytes qs)) rest in
    let n = question_size q behind in
    ap (parse_from (suc f) done) a
    ∙ questions_front f done (question_bytes q ++ behind) q behind (omega arith) (omega arith) (question_read q behind w.0)
    ∙ ap (with_question q) (questions_read f (suc done) qs rest p total w.1 (omega arith) d (omega (arith, ap length a)) h)

-- What is read from a question file whose first questions are taken.
taken_read : {file : Bytes} {qs : List Question} {rest : Bytes} → QuestionsTaken file qs rest → (p : ParsedQuestions) → ((g : ℕ) → length rest ≤ g → parse_from g (length qs) rest ≡ p) → parse_questions file ≡ with_questions qs p
unfolding parse_questions
taken_read {qs = qs} {rest = rest} t p h = rw t.bytes (questions_read (length (file_bytes qs ++ rest)) 0 qs rest p (length qs) t.each (omega arith) t.few (omega arith) h)

-- a number that is read at the next question is the file's
refused_read : {file : Bytes} {qs : List Question} {rest : Bytes} → QuestionsTaken file qs rest → (r : ℕ) → 0 < length rest → ((f : ℕ) → parse_from (suc f) (length qs) rest ≡ refused r) → parse_questions file ≡ refused r
refused_read {qs = qs} {rest = rest} t r l h = taken_read t (refused r) go ∙ with_questions_refused qs r
  where
    go : (g : ℕ) → length rest ≤ g → parse_from g (length qs) rest ≡ refused r
    go zero m = absurd (omega arith)
    go (suc f) m = h f

bad_read : {file : Bytes} {qs : List Question} {rest : Bytes} → Passes24 file qs rest → (r : ℕ) → 0 < length rest → read_question rest ≡ bad r → parse_questions file ≡ refused r
unfolding parse_from
bad_read {rest = []} p r l h = absurd (omega arith)
bad_read {qs = qs} {rest = b ∷ s} p r l h = refused_read p.before r l (λ f. rw (ne_eqb (length qs) 1024 (λ e. omega (arith, p.room)), h, parse_from))

due_size : {rest s : Bytes} → KeyDue rest s → 0 < length rest
due_size (behind_mark x s i) = omega arith
due_size (behind_bound x lo s i l) = omega arith

-- The number of a refusal is the one that is read.
refusal_read : {file : Bytes} {r : ℕ} → QuestionRefusal file r → parse_questions file ≡ refused r
unfolding parse_from read_question
refusal_read (question_too_many qs b rest t e) = refused_read t 24 (omega arith) (λ f. rw (eq-eqb (length qs) 1024 e, parse_from))
refusal_read (question_unmarked qs a x rest p h) = bad_read p 21 (omega arith) (unmarked_read a x rest h)
refusal_read (question_short qs b p) = bad_read p 21 (omega arith) refl
refusal_read (no_length qs rest p d) = bad_read p 21 (due_size d) (due_read d 21 no_length_read)
refusal_read (key_cut_off qs rest n s p d h l) = bad_read p 21 (due_size d) (due_read d 21 (cut_off_read n s (omega arith) l))
refusal_read (length_over qs rest n s p d h) = bad_read p 22 (due_size d) (due_read d 22 (over_read n s h))
refusal_read (bounds_crossed qs x lo hi rest p i l m h) = bad_read p 23 (omega arith) (crossed_read x lo hi rest i l m h)

-- It is from 21 to 24.
pub refusal_number : {file : Bytes} {r : ℕ} → QuestionRefusal file r → From 21 24 r
refusal_number (question_too_many qs b rest t e) = omega arith
refusal_number (question_unmarked qs a x rest p h) = omega arith
refusal_number (question_short qs b p) = omega arith
refusal_number (no_length qs rest p d) = omega arith
refusal_number (key_cut_off qs rest n s p d h l) = omega arith
refusal_number (length_over qs rest n s p d h) = omega arith
refusal_number (bounds_crossed qs x lo hi rest p i l m h) = omega arith

-- The questions of a file that is taken are those that are read.
file_read : {file : Bytes} {qs : List Question} → QuestionsTaken file qs [] → parse_questions file ≡ taken qs
unfolding parse_from
file_read {qs = qs} t = taken_read t (taken []) none ∙ with_questions_all qs
  where
    none : (g : ℕ) → 0 ≤ g → parse_from g (length qs) [] ≡ taken []
    none zero l = refl
    none (suc g) l = refl

-- ---- every byte string is taken, or is turned down

file_bytes_append : (qs ps : List Question) → file_bytes (qs ++ ps) ≡ file_bytes qs ++ file_bytes ps
unfolding file_bytes
file_bytes_append qs ps = ap concat (map-append question_bytes qs ps) ∙ concat_append (map question_bytes qs) (map question_bytes ps)

-- one more question is taken
question_taken : {file : Bytes} {qs : List Question} (q : Question) (s : Bytes) → Passes24 file qs (question_bytes q ++ s) → QuestionFits q → QuestionsTaken file (qs ++ (q ∷ [])) s
unfolding file_bytes concat
question_taken {qs = qs} q s p f =
    let t = p.before in
    record {
      bytes = t.bytes ∙ ap (λ (z : Bytes). file_bytes qs ++ (z ++ s)) (sym (append-nil (question_bytes q))) ∙ sym (append_assoc (file_bytes qs) (file_bytes (q ∷ [])) s) ∙ ap (λ (z : Bytes). z ++ s) (sym (file_bytes_append qs (q ∷ [])));
      each = all_append QuestionFits qs (q ∷ []) t.each (f, tt);
      few = omega (arith, p.room, length-append qs (q ∷ []));
    }

-- a number is in a list, or is not
in_or_not : {A : Type 0} (x : ℕ) (xs : List ℕ) → (In x xs → A) → ((In x xs → ⊥) → A) → A
in_or_not x [] f g = g none_in
in_or_not {A} x (y ∷ xs) f g = go (eqb x y) refl (λ h. in_or_not x xs (λ i. f (there i)) h)
  where
    go : (t : Bool) → eqb x y ≡ t → (((In x xs → ⊥) → A) → A) → A
    go true e behind = f (rw (eqb-true x y e) here)
    go false e behind = behind (λ h. g (λ i. ⊎_elim (λ z. eqb-false x y e (sym z)) h (in_cons i)))

module _ {A : Type 0} (file : Bytes) (accepts : (qs : List Question) → QuestionsTaken file qs [] → A) (refuses : (r : ℕ) → QuestionRefusal file r → A) where
  -- the next question, and what is done with it where it is taken
  module _ (qs : List Question) (next : (q : Question) (t : Bytes) → Passes24 file qs (question_bytes q ++ t) → QuestionFits q → A) where
    from_due : (rest s : Bytes) → Passes24 file qs rest → KeyDue rest s → ((k t : Bytes) → length k ≤ 64 → s ≡ key_bytes k ++ t → A) → A
    from_due rest [] p d f = refuses 21 (no_length qs rest p d)
    from_due rest (n ∷ s) p d f = go (ltb 64 n) (ltb (length s) n) refl refl
      where
        go : (t u : Bool) → ltb 64 n ≡ t → ltb (length s) n ≡ u → A
        go true u e h = refuses 22 (length_over qs rest n s p d (ltb-true 64 n e))
        go false true e h = refuses 21 (key_cut_off qs rest n s p d (omega (arith, ltb-false 64 n e)) (ltb-true (length s) n h))
        go false false e h =
            let size : length (take n s) ≡ n = length-take-le n s (ltb-false (length s) n h) in
            f (take n s) (drop n s) (omega (arith, ltb-false 64 n e)) (rw (size, take-append-drop n s))

    from_one : (c : Bytes → Question) (x : ℕ) (s : Bytes) → ((k : Bytes) → question_bytes (c k) ≡ 81 ∷ x ∷ key_bytes k) → ((k : Bytes) → length k ≤ 64 → QuestionFits (c k))
        → In x (one_key_letters ++ two_key_letters) → Passes24 file qs (81 ∷ x ∷ s) → A
    from_one c x s b w i p =
        from_due (81 ∷ x ∷ s) s p (behind_mark x s i) (λ k t l e. next (c k) t (subst (Passes24 file qs) (ap (λ (z : Bytes). 81 ∷ x ∷ z) e ∙ ap (λ (z : Bytes). z ++ t) (sym (b k))) p) (w k l))

    from_two : (c : Bytes → Bytes → Question) (x : ℕ) (s : Bytes) → ((lo hi : Bytes) → question_bytes (c lo hi) ≡ 81 ∷ x ∷ key_bytes lo ++ key_bytes hi)
        → ((lo hi : Bytes) → length lo ≤ 64 → length hi ≤ 64 → below hi lo ≡ false → QuestionFits (c lo hi)) → In x two_key_letters → Passes24 file qs (81 ∷ x ∷ s) → A
    from_two c x s b w i p =
        from_due (81 ∷ x ∷ s) s p (behind_mark x s (in_valid one_key_letters two_key_letters i)) (λ lo t l e.
        let q : Passes24 file qs (81 ∷ x ∷ key_bytes lo ++ t) = subst (λ (z : Bytes). Passes24 file qs (81 ∷ x ∷ z)) e p in
        from_due (81 ∷ x ∷ key_bytes lo ++ t) t q (behind_bound x lo t i l) (λ hi u m h.
        let both : key_bytes lo ++ t ≡ (key_bytes lo ++ key_bytes hi) ++ u = ap (λ (z : Bytes). key_bytes lo ++ z) h ∙ sym (append_assoc (key_bytes lo) (key_bytes hi) u) in
        go lo hi u l m (subst (λ (z : Bytes). Passes24 file qs (81 ∷ x ∷ z)) both q) (below hi lo) refl))
      where
        go : (lo hi u : Bytes) → length lo ≤ 64 → length hi ≤ 64 → Passes24 file qs (81 ∷ x ∷ (key_bytes lo ++ key_bytes hi) ++ u) → (t : Bool) → below hi lo ≡ t → A
        go lo hi u l m q true h = refuses 23 (bounds_crossed qs x lo hi u q i l m h)
        go lo hi u l m q false h = next (c lo hi) u (subst (Passes24 file qs) (ap (λ (z : Bytes). z ++ u) (sym (b lo hi))) q) (w lo hi l m h)

    from_letter : (x : ℕ) (s : Bytes) → Passes24 file qs (81 ∷ x ∷ s) → In x (one_key_letters ++ two_key_letters) → A
    unfolding question_bytes
    from_letter x s p i =
        let one : All (λ x. Passes24 file qs (81 ∷ x ∷ s) → A) one_key_letters
        = (from_one QP 80 s (λ k. refl) (λ k l. l) here, (from_one QS 83 s (λ k. refl) (λ k l. l) (there here), (from_one QB 66 s (λ k. refl) (λ k l. l) (there (there here)), tt))) in
        let two : All (λ x. Passes24 file qs (81 ∷ x ∷ s) → A) two_key_letters
        = (from_two QR 82 s (λ lo hi. refl) (λ lo hi l m h. (l, m, h)) here, (from_two QC 67 s (λ lo hi. refl) (λ lo hi l m h. (l, m, h)) (there here), tt)) in
        all_in (λ x. Passes24 file qs (81 ∷ x ∷ s) → A) (all_append (λ x. Passes24 file qs (81 ∷ x ∷ s) → A) one_key_letters two_key_letters one two) i p

    from_24 : (b : ℕ) (s : Bytes) → Passes24 file qs (b ∷ s) → A
    from_24 b [] p = refuses 21 (question_short qs b p)
    from_24 b (x ∷ s) p = go (eqb b 81) refl
      where
        go : (t : Bool) → eqb b 81 ≡ t → A
        go false e = refuses 21 (question_unmarked qs b x s p (λ y i. eqb-false b 81 e y))
        go true e = in_or_not x (one_key_letters ++ two_key_letters) (from_letter x s (rw (eqb-true b 81 e) at p)) (λ h. refuses 21 (question_unmarked qs b x s p (λ y i. h i)))

    from_question : (b : ℕ) (s : Bytes) → QuestionsTaken file qs (b ∷ s) → (t : Bool) → eqb (length qs) 1024 ≡ t → A
    from_question b s t true e = refuses 24 (question_too_many qs b s t (eqb-true (length qs) 1024 e))
    from_question b s t false e = from_24 b s (record { before = t; room = omega (arith, t.few, eqb-false (length qs) 1024 e) })

  from_questions : (f : ℕ) (qs : List Question) (s : Bytes) → length s ≤ f → QuestionsTaken file qs s → A
  from_questions zero qs [] l t = accepts qs t
  from_questions zero qs (b ∷ s) l t = absurd (omega arith)
  from_questions (suc f) qs [] l t = accepts qs t
  from_questions (suc f) qs (b ∷ s) l t =
      from_question qs
      (λ q v p w. from_questions f (qs ++ (q ∷ [])) v
      (omega (arith, ap length t.bytes, length-append (file_bytes qs) (b ∷ s), ap length p.before.bytes, length-append (file_bytes qs) (question_bytes q ++ v), question_size q v))
      (question_taken q v p w))
      b s t (eqb (length qs) 1024) refl

  -- A question file is taken whole, or is turned down at a question.
  by_questions : A
  unfolding file_bytes concat
  by_questions = from_questions (length file) [] file (omega arith) (record { bytes = refl; each = tt; few = omega arith })

-- ---- both ways

-- a refusal is no question
no_taken : {A : Type 0} {r : ℕ} {qs : List Question} → refused r ≡ taken qs → A
no_taken h = let z : ◌≡◌ {A = ℕ} 0 1 = cc in absurd (omega arith)

-- A question file is refused with the number that the sentences on questions name, and with no other.
pub file_refuses : (file : Bytes) (r : ℕ) → (parse_questions file ≡ refused r) ↔ QuestionRefusal file r
file_refuses file r = (to, refusal_read)
  where
    to : parse_questions file ≡ refused r → QuestionRefusal file r
    to h = by_questions file (λ qs t. no_taken (sym h ∙ file_read t)) (λ q l. let e : refused q ≡ refused r = sym (refusal_read l) ∙ h in let n : q ≡ r = cc in subst (QuestionRefusal file) n l)

-- It is read as questions exactly where it is taken whole, and they are those that stand in it.
pub file_taken : (file : Bytes) (qs : List Question) → (parse_questions file ≡ taken qs) ↔ QuestionsTaken file qs []
file_taken file qs = (to, file_read)
  where
    to : parse_questions file ≡ taken qs → QuestionsTaken file qs []
    to h = by_questions file (λ ps t. let e : taken ps ≡ taken qs = sym (file_read t) ∙ h in let n : ps ≡ qs = cc in subst (λ (z : List Question). QuestionsTaken file z []) n t) (λ q l. no_taken (sym (refusal_read l) ∙ h))

-- a question that is taken, of bytes, is a proper one, and the other way round
range_bytes : (lo hi : Bytes) → (length lo ≤ 64) × (length hi ≤ 64) × (below hi lo ≡ false) → IsBytes (key_bytes lo ++ key_bytes hi) → Range lo hi
range_bytes lo hi f w =
    let b = all_split (λ x. x < 256) (key_bytes lo) (key_bytes hi) w in
    record { lower = record { fits = f.0; bytes = b.0.1 }; upper = record { fits = f.1; bytes = b.1.1 }; order = f.2 }

proper_bytes : (q : Question) → QuestionFits q → IsBytes (question_bytes q) → Proper q
unfolding question_bytes
proper_bytes (QP k) f w = record { fits = f; bytes = w.1.1.1 }
proper_bytes (QS k) f w = record { fits = f; bytes = w.1.1.1 }
proper_bytes (QB k) f w = record { fits = f; bytes = w.1.1.1 }
proper_bytes (QR lo hi) f w = range_bytes lo hi f w.1.1
proper_bytes (QC lo hi) f w = range_bytes lo hi f w.1.1

proper_fits : (q : Question) → Proper q → QuestionFits q
proper_fits (QP k) p = p.fits
proper_fits (QS k) p = p.fits
proper_fits (QB k) p = p.fits
proper_fits (QR lo hi) p = (p.lower.fits, p.upper.fits, p.order)
proper_fits (QC lo hi) p = (p.lower.fits, p.upper.fits, p.order)

questions_proper : (qs : List Question) → All QuestionFits qs → IsBytes (file_bytes qs) → All Proper qs
unfolding file_bytes concat
questions_proper [] f w = tt
questions_proper (q ∷ qs) f w = let b = all_split (λ x. x < 256) (question_bytes q) (concat (map question_bytes qs)) w in (proper_bytes q f.0 b.0, questions_proper qs f.1 b.1)

-- None of 21 to 24 applies to a byte string exactly when it is such questions.
pub questions_exactly : (s : Bytes) (qs : List Question) → IsBytes s → (parse_questions s ≡ taken qs) ↔ QuestionFile s qs
questions_exactly s qs w = (to, from)
  where
    to : parse_questions s ≡ taken qs → QuestionFile s qs
    to h =
        let t = (file_taken s qs).0 h in
        let e : s ≡ file_bytes qs = t.bytes ∙ append-nil (file_bytes qs) in
        record { bytes = e; each = questions_proper qs t.each (subst IsBytes e w); few = t.few }

    from : QuestionFile s qs → parse_questions s ≡ taken qs
    from k = (file_taken s qs).1 (record { bytes = k.bytes ∙ sym (append-nil (file_bytes qs)); each = all_weaken Proper QuestionFits proper_fits qs k.each; few = k.few })
