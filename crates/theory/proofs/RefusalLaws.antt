-- Demand 1: when each call refuses and with which number, and what it leaves of the buffers lent to it.
use Rattle.std.specs.Prelude.{ℕ, suc, ◌<◌, ◌≡◌, refl, Bool, true, false, List, ◌↔◌, length, take, ltb, eqb}
use Rattle.std.proofs.Common.{sym, ap, subst, ◌∙◌, arith, ltb-true, lt-ltb, eqb-true, ne_eqb}
use Rattle.std.proofs.Math.Option.{Option, none, some}
use Rattle.std.proofs.Math.ListN.{get_elem?}
use Rattle.std.proofs.lemmas.Bool.{eqb-false}
use Rattle.spec.specs.Bytes.{Bytes}
use Rattle.spec.specs.Keys.{ParsedKeys, refused, keys, parse_keys}
use Rattle.spec.specs.Leaves.{Leaf, leaves}
use Rattle.spec.specs.Image.{Settings, image}
use Rattle.spec.specs.Frame.{read_settings}
use Rattle.spec.specs.Nodes.{read_leaves}
use Rattle.spec.specs.Questions.{ParsedQuestions, taken, parse_questions, replies, questions_of}
use Rattle.spec.specs.Answer.{written, Outcome, refuse, write}
use Rattle.spec.specs.Build.{in_range, Judged, turned_down, to_build, judge, bytes, image_length, build}
use Rattle.spec.specs.Check.{verdict, accepted, check}
use Rattle.spec.specs.Ask.{ask}
use Rattle.spec.specs.Walk.{stand_at, open_walk, next}
use Rattle.theory.specs.Terms.{From, JudgedAlike}
use Rattle.theory.specs.Demands.{LengthRefusal, BuildRefusal, AskRefusal, WalkRefusal, setting_refused, record_refused, judged_again, length_wrong, image_too_long, image_refused, question_refused, replies_too_long, refused_image, place_refused, Kept}
use Rattle.theory.proofs.KeyFiles.{list_refuses, list_taken}
use Rattle.theory.proofs.QuestionFiles.{file_refuses, file_taken, refusal_number}
use Rattle.theory.proofs.OutcomeLaws.{no_written, refuse_answer, write_answer, success_written, refuse_kept, write_kept}
use Rattle.theory.proofs.Judged.{judge_is}
use Rattle.theory.proofs.BuildLaws.{judge_keys, judged_keys, length_is, build_is, stated_wrong, stated_right}
use Rattle.theory.proofs.AskLaws.{ask_is, ask_answers, walk_is, step_is}
use Rattle.theory.proofs.RefusalNumbers.{check_accepts, check_refused, check_number, check_cases}
use Rattle.spec.specs.Answer as Answer
use Rattle.spec.specs.Build as Build
use Rattle.spec.specs.Check as Check
use Rattle.spec.specs.Questions as Questions
use Rattle.spec.specs.Walk as Walk

-- ---- build

-- a key list and settings are turned down with the number that the order of checks names
turned_down_refusal : (list : Bytes) (st : Settings) (r : ℕ) → judge list st ≡ turned_down r → LengthRefusal list st r
turned_down_refusal list st r h = one (in_range st) refl (parse_keys list) refl
  where
    named : (q : ℕ) → judge list st ≡ turned_down q → LengthRefusal list st q → LengthRefusal list st r
    named q e l = let s : q ≡ r = cc in subst (LengthRefusal list st) s l

    one : (t : Bool) → in_range st ≡ t → (p : ParsedKeys) → parse_keys list ≡ p → LengthRefusal list st r
    one false e p f = named 5 (judge_is list st false p e f) (setting_refused e)
    one true e (refused q) f = named q (judge_is list st true (refused q) e f) (record_refused e ((list_refuses list q).0 f))
    one true e (keys ks) f = let j = judge_keys list st ks e f in let z : ◌≡◌ {A = ℕ} 0 1 = cc in absurd (omega arith)

-- and with no other
refusal_turned_down : (list : Bytes) (st : Settings) (r : ℕ) → LengthRefusal list st r → judge list st ≡ turned_down r
refusal_turned_down list st r (setting_refused e) = judge_is list st false (parse_keys list) e refl
refusal_turned_down list st r (record_refused e f) = judge_is list st true (refused r) e ((list_refuses list r).1 f)

-- The first call refuses with the number that the order of checks names, and with no other.
pub length_refuses : (list : Bytes) (st : Settings) (r : ℕ) → (image_length list st ≡ Build.refused r) ↔ LengthRefusal list st r
length_refuses list st r = (λ h. to (judge list st) refl h, λ l. length_is list st (turned_down r) (refusal_turned_down list st r l))
  where
    to : (j : Judged) → judge list st ≡ j → image_length list st ≡ Build.refused r → LengthRefusal list st r
    to (turned_down q) e h =
        let l : image_length list st ≡ Build.refused q = length_is list st (turned_down q) e in
        let s : q ≡ r = cc in
        subst (LengthRefusal list st) s (turned_down_refusal list st q e)
    to (to_build b) e h =
        let l : image_length list st ≡ bytes (length b) = length_is list st (to_build b) e in
        let z : ◌≡◌ {A = ℕ} 0 1 = cc in
        absurd (omega arith)

module _ (list : Bytes) (st : Settings) (stated : ℕ) (out : Bytes) (r : ℕ) where
  -- The second refuses with the number that the order of checks names, and with no other.
  pub build_refuses : ((build list st stated out).answer ≡ Answer.refused r) ↔ BuildRefusal list st stated out r
  build_refuses = (λ h. to h (judge list st) refl, from r)
    where
      over_image : (build list st stated out).answer ≡ Answer.refused r → (ks : List Bytes) → in_range st ≡ true → parse_keys list ≡ keys ks
          → (t : Bool) → eqb stated (length (image st (leaves st.hash_width st.real_width ks))) ≡ t → BuildRefusal list st stated out r
      over_image h ks e f false g =
          let b : Bytes = image st (leaves st.hash_width st.real_width ks) in
          let w = eqb-false stated (length b) g in
          subst (BuildRefusal list st stated out) ((refuse_answer 8 r out _ (build_is list st stated out (to_build b) (judge_keys list st ks e f) ∙ stated_wrong stated b out w)).0 h) (length_wrong e ks ((list_taken list ks).0 f) w)
      over_image h ks e f true g =
          let b : Bytes = image st (leaves st.hash_width st.real_width ks) in
          let w = eqb-true stated (length b) g in
          let a = (write_answer 7 r b out _ (build_is list st stated out (to_build b) (judge_keys list st ks e f) ∙ stated_right stated b out w)).0 h in
          subst (BuildRefusal list st stated out) a.0 (image_too_long e ks ((list_taken list ks).0 f) w a.1)

      to : (build list st stated out).answer ≡ Answer.refused r → (j : Judged) → judge list st ≡ j → BuildRefusal list st stated out r
      to h (turned_down q) j = subst (BuildRefusal list st stated out) ((refuse_answer q r out _ (build_is list st stated out (turned_down q) j)).0 h) (judged_again (turned_down_refusal list st q j))
      to h (to_build b) j = let k = judged_keys list st b j in over_image h k.1 k.0 k.2 (eqb stated (length (image st (leaves st.hash_width st.real_width k.1)))) refl

      from : (q : ℕ) → BuildRefusal list st stated out q → (build list st stated out).answer ≡ Answer.refused q
      from q (judged_again l) = (refuse_answer q q out _ (build_is list st stated out (turned_down q) (refusal_turned_down list st q l))).1 refl
      from q (length_wrong e ks f w) =
          let b : Bytes = image st (leaves st.hash_width st.real_width ks) in
          (refuse_answer 8 8 out _ (build_is list st stated out (to_build b) (judge_keys list st ks e ((list_taken list ks).1 f)) ∙ stated_wrong stated b out w)).1 refl
      from q (image_too_long e ks f w l) =
          let b : Bytes = image st (leaves st.hash_width st.real_width ks) in
          (write_answer 7 7 b out _ (build_is list st stated out (to_build b) (judge_keys list st ks e ((list_taken list ks).1 f)) ∙ stated_right stated b out w)).1 (refl, l)

-- ---- ask

-- ask over a byte string that the check refuses, and over one that it accepts
ask_over_refused : (b file out : Bytes) (r : ℕ) → check b ≡ Check.refused r → ask b file out ≡ refuse r out
ask_over_refused b file out r h =
    let v = (check_refused b r).0 h in
    ask_is b file out r (parse_questions file) v.0 refl
    ∙ ap {B = Outcome} (λ (t : Bool). elim t [ false ↦ refuse r out | true ↦ elim (parse_questions file) [ Questions.refused q ↦ refuse q out | taken qs ↦ write 25 (replies (read_settings b).hash_width (read_leaves b) qs) out ] ]) (ne_eqb r 0 (λ e. omega (arith, v)))

ask_over_accepted : (b file out : Bytes) → check b ≡ accepted → (p : ParsedQuestions) → parse_questions file ≡ p
    → ask b file out ≡ elim p [ Questions.refused q ↦ refuse q out | taken qs ↦ write 25 (replies (read_settings b).hash_width (read_leaves b) qs) out ]
ask_over_accepted b file out h p f = ask_is b file out 0 p ((check_accepts b).0 h) f

module _ (b file out : Bytes) (r : ℕ) where
  -- Ask refuses with the number that the order of checks names, and with no other.
  pub ask_refuses : ((ask b file out).answer ≡ Answer.refused r) ↔ AskRefusal b file out r
  ask_refuses = (λ h. check_cases b (λ c. over_accepted h c (parse_questions file) refl) (λ q c. over_refused h q c), from r)
    where
      over_refused : (ask b file out).answer ≡ Answer.refused r → (q : ℕ) → check b ≡ Check.refused q → AskRefusal b file out r
      over_refused h q c = subst (AskRefusal b file out) ((refuse_answer q r out _ (ask_over_refused b file out q c)).0 h) (image_refused c (check_number b q c))

      over_accepted : (ask b file out).answer ≡ Answer.refused r → check b ≡ accepted → (p : ParsedQuestions) → parse_questions file ≡ p → AskRefusal b file out r
      over_accepted h c (Questions.refused q) f =
          subst (AskRefusal b file out) ((refuse_answer q r out _ (ask_over_accepted b file out c (Questions.refused q) f)).0 h) (question_refused c ((file_refuses file q).0 f))
      over_accepted h c (taken qs) f =
          let a = (write_answer 25 r (replies (read_settings b).hash_width (read_leaves b) qs) out _ (ask_over_accepted b file out c (taken qs) f)).0 h in
          subst (AskRefusal b file out) a.0 (replies_too_long c qs ((file_taken file qs).0 f) a.1)

      from : (q : ℕ) → AskRefusal b file out q → (ask b file out).answer ≡ Answer.refused q
      from q (image_refused c n) = (refuse_answer q q out _ (ask_over_refused b file out q c)).1 refl
      from q (question_refused c f) = (refuse_answer q q out _ (ask_over_accepted b file out c (Questions.refused q) ((file_refuses file q).1 f))).1 refl
      from q (replies_too_long c qs f l) = (write_answer 25 25 (replies (read_settings b).hash_width (read_leaves b) qs) out _ (ask_over_accepted b file out c (taken qs) ((file_taken file qs).1 f))).1 (refl, l)

-- what ask writes is the replies to the questions of the file, over an accepted image
pub ask_writes_replies : (b file out : Bytes) (n : ℕ) → (ask b file out).answer ≡ written n
    → (check b ≡ accepted) × (parse_questions file ≡ taken (questions_of file)) × (take n (ask b file out).final ≡ replies (read_settings b).hash_width (read_leaves b) (questions_of file))
ask_writes_replies b file out n h = check_cases b over_accepted (λ r c. no_written r n out _ (ask_over_refused b file out r c) h)
  where
    over_accepted : check b ≡ accepted
        → (check b ≡ accepted) × (parse_questions file ≡ taken (questions_of file)) × (take n (ask b file out).final ≡ replies (read_settings b).hash_width (read_leaves b) (questions_of file))
    over_accepted c =
        let a = ask_answers b file out ((check_accepts b).0 c) (n, h) in
        (c, a.questions_are, success_written (replies (read_settings b).hash_width (read_leaves b) (questions_of file)) out n _ a.writes h)

-- ---- the walk

walk_over_refused : (b : Bytes) (place r : ℕ) → check b ≡ Check.refused r → open_walk b place ≡ Walk.refused r
walk_over_refused b place r h =
    let v = (check_refused b r).0 h in
    walk_is b place r (read_leaves b) v.0 refl
    ∙ ap {B = Walk.Stand} (λ (t : Bool). elim t [ false ↦ Walk.refused r | true ↦ elim (ltb (length (read_leaves b)) place) [ true ↦ Walk.refused 17 | false ↦ stand_at (read_leaves b) place ] ]) (ne_eqb r 0 (λ e. omega (arith, v)))

walk_over_accepted : (b : Bytes) (place : ℕ) → check b ≡ accepted → (t : Bool) → ltb (length (read_leaves b)) place ≡ t
    → open_walk b place ≡ elim t [ true ↦ Walk.refused 17 | false ↦ stand_at (read_leaves b) place ]
walk_over_accepted b place h t e =
    walk_is b place 0 (read_leaves b) ((check_accepts b).0 h) refl
    ∙ ap {B = Walk.Stand} (λ (t : Bool). elim t [ true ↦ Walk.refused 17 | false ↦ stand_at (read_leaves b) place ]) e

-- a leaf, or done, is no refusal
no_refusal : {A : Type 0} (ls : List Leaf) (place r : ℕ) → stand_at ls place ≡ Walk.refused r → A
unfolding stand_at
no_refusal {A} ls place r h = go (get_elem? ls place) h
  where
    go : (l : Option Leaf) → elim l [ none ↦ Walk.done | some l ↦ Walk.leaf l ] ≡ Walk.refused r → A
    go none h = let z : ◌≡◌ {A = ℕ} 0 1 = cc in absurd (omega arith)
    go (some l) h = let z : ◌≡◌ {A = ℕ} 0 1 = cc in absurd (omega arith)

module _ (b : Bytes) (place r : ℕ) where
  -- A walk refuses with the number that the order of checks names, and with no other.
  pub walk_refuses : (open_walk b place ≡ Walk.refused r) ↔ WalkRefusal b place r
  walk_refuses = (λ h. check_cases b (λ c. over_accepted h c (ltb (length (read_leaves b)) place) refl) (λ q c. over_refused h q c), from r)
    where
      over_refused : open_walk b place ≡ Walk.refused r → (q : ℕ) → check b ≡ Check.refused q → WalkRefusal b place r
      over_refused h q c =
          let w = walk_over_refused b place q c in
          let e : q ≡ r = cc in
          subst (WalkRefusal b place) e (refused_image c (check_number b q c))

      over_accepted : open_walk b place ≡ Walk.refused r → check b ≡ accepted → (t : Bool) → ltb (length (read_leaves b)) place ≡ t → WalkRefusal b place r
      over_accepted h c true e =
          let w : open_walk b place ≡ Walk.refused 17 = walk_over_accepted b place c true e in
          let n : 17 ≡ r = cc in
          subst (WalkRefusal b place) n (place_refused c (ltb-true (length (read_leaves b)) place e))
      over_accepted h c false e = no_refusal (read_leaves b) place r (sym (walk_over_accepted b place c false e) ∙ h)

      from : (q : ℕ) → WalkRefusal b place q → open_walk b place ≡ Walk.refused q
      from q (refused_image c n) = walk_over_refused b place q c
      from q (place_refused c l) = walk_over_accepted b place c true (lt-ltb (length (read_leaves b)) place l)

-- a walk that goes on refuses just the places that it refuses to stand at
pub next_refuses : (b : Bytes) (place r : ℕ) → (next b place ≡ Walk.refused r) ↔ WalkRefusal b place r
next_refuses b place r = go (ltb place (length (read_leaves b))) refl
  where
    other_place : (p q n : ℕ) → (length (read_leaves b) < p → length (read_leaves b) < q) → WalkRefusal b p n → WalkRefusal b q n
    other_place p q n f (refused_image c h) = refused_image c h
    other_place p q n f (place_refused c l) = place_refused c (f l)

    go : (t : Bool) → ltb place (length (read_leaves b)) ≡ t → (next b place ≡ Walk.refused r) ↔ WalkRefusal b place r
    go true e =
        let l = ltb-true place (length (read_leaves b)) e in
        let w = walk_refuses b (suc place) r in
        rw (step_is b place true e) (λ h. other_place (suc place) place r (λ z. absurd (omega arith)) (w.0 h), λ h. w.1 (other_place place (suc place) r (λ z. absurd (omega arith)) h))
    go false e = rw (step_is b place false e) (walk_refuses b place r)

-- ---- ask and walk judge alike

-- Ask and walk judge a byte string as the check does.
pub judged_alike : (b : Bytes) → JudgedAlike b
judged_alike b = record {
  ask_refused = λ r h file out. ask_over_refused b file out r h;
  walk_refused = λ r h place. walk_over_refused b place r h;
  ask_accepted = λ c file out r h. asked file out r c ((ask_refuses b file out r).0 h);
  walk_accepted = λ c place r h. walked place r c ((walk_refuses b place r).0 h);
}
  where
    never : {A : Type 0} {r : ℕ} → check b ≡ accepted → check b ≡ Check.refused r → A
    never c d = let z : ◌≡◌ {A = ℕ} 0 1 = cc in absurd (omega arith)

    asked : (file out : Bytes) (r : ℕ) → check b ≡ accepted → AskRefusal b file out r → From 21 25 r
    asked file out r c (image_refused d n) = never c d
    asked file out r c (question_refused d f) = omega (arith, refusal_number f)
    asked file out r c (replies_too_long d qs f l) = omega arith

    walked : (place r : ℕ) → check b ≡ accepted → WalkRefusal b place r → r ≡ 17
    walked place r c (refused_image d n) = never c d
    walked place r c (place_refused d l) = refl

-- ---- buffers

-- build, of any list, settings, stated length and output
pub build_kept : (list : Bytes) (st : Settings) (stated : ℕ) (out : Bytes) → Kept out (build list st stated out)
build_kept list st stated out = one (judge list st) refl
  where
    two : (b : Bytes) → judge list st ≡ to_build b → (t : Bool) → eqb stated (length b) ≡ t → Kept out (build list st stated out)
    two b e false f = subst (Kept out) (sym (build_is list st stated out (to_build b) e ∙ stated_wrong stated b out (eqb-false stated (length b) f))) (refuse_kept 8 out)
    two b e true f = subst (Kept out) (sym (build_is list st stated out (to_build b) e ∙ stated_right stated b out (eqb-true stated (length b) f))) (write_kept 7 b out)

    one : (j : Judged) → judge list st ≡ j → Kept out (build list st stated out)
    one (turned_down r) e = subst (Kept out) (sym (build_is list st stated out (turned_down r) e)) (refuse_kept r out)
    one (to_build b) e = two b e (eqb stated (length b)) refl

-- ask, of any image, question file and reply buffer
pub ask_kept : (b file out : Bytes) → Kept out (ask b file out)
ask_kept b file out = go (parse_questions file) refl (eqb (verdict b) 0) refl
  where
    by : ParsedQuestions → Bool → Outcome
    by a t = elim t [ false ↦ refuse (verdict b) out | true ↦ elim a [ Questions.refused r ↦ refuse r out | taken qs ↦ write 25 (replies (read_settings b).hash_width (read_leaves b) qs) out ] ]

    each : (a : ParsedQuestions) (t : Bool) → Kept out (by a t)
    each a false = refuse_kept (verdict b) out
    each (Questions.refused r) true = refuse_kept r out
    each (taken qs) true = write_kept 25 (replies (read_settings b).hash_width (read_leaves b) qs) out

    go : (a : ParsedQuestions) → parse_questions file ≡ a → (t : Bool) → eqb (verdict b) 0 ≡ t → Kept out (ask b file out)
    go a e t f = subst (Kept out) (sym (ask_is b file out (verdict b) a refl e ∙ ap (by a) f)) (each a t)
