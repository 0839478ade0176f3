-- A question of a question file by position: its mark, and its one or two keys. The judge of question files and the reader of a question rest on it.
use Rattle.std.specs.Prelude.{ℕ, suc, ◌+◌, ◌-◌, ◌≤◌, ◌<◌, ◌≡◌, Bool, true, false, get_or, drop, ltb, eqb}
use Rattle.std.proofs.Math.Path.{refl, ap}
use Rattle.std.proofs.Common.{sym, ◌∙◌, arith, drop-cons}
use mathlib.Core.List.{[], ◌∷◌}
use borrow.Author.Tests.{eq-eqb, ne_eqb, eqb-true, eqb-false, ltb-true, ltb-false}
use Rattle.std.proofs.Math.ListN.{length, length-drop}
use Rattle.spec.specs.Bytes.{Bytes}
use Rattle.spec.specs.Keys.{below}
use Rattle.spec.specs.Questions.{Question, QP, QS, QB, QR, QC, Front, bad, got, read_key, one_key, two_keys, read_keys, read_question}
use Rattle.bits.specs.Bits.{key}
use Rattle.ask_files.specs.KeyAt.{KeyAt, KeyRead, key_read, no_got}

-- ---- the keys that a mark's second letter asks for

-- a letter that asks for one key, and the question that the key makes
abbrev pub OneKey : ℕ → Type 0
OneKey x = (c : Bytes → Question) × ((t : Bytes) → read_keys x t ≡ one_key c t)

-- a letter that asks for two bounds, and the question that they make
abbrev pub TwoKeys : ℕ → Type 0
TwoKeys x = (c : Bytes → Bytes → Question) × ((t : Bytes) → read_keys x t ≡ two_keys c t)

-- a letter that stands in no mark
abbrev pub NoKeys : ℕ → Type 0
NoKeys x = (t : Bytes) → read_keys x t ≡ bad 21

module _ (x : ℕ) where
  pub letter_point : x ≡ 80 → (t : Bytes) → read_keys x t ≡ one_key QP t
  unfolding read_keys
  letter_point h t = rw h

  pub letter_seek : x ≡ 83 → (t : Bytes) → read_keys x t ≡ one_key QS t
  unfolding read_keys
  letter_seek h t = rw h

  pub letter_begins : x ≡ 66 → (t : Bytes) → read_keys x t ≡ one_key QB t
  unfolding read_keys
  letter_begins h t = rw h

  pub letter_range : x ≡ 82 → (t : Bytes) → read_keys x t ≡ two_keys QR t
  unfolding read_keys
  letter_range h t = rw h

  pub letter_count : x ≡ 67 → (t : Bytes) → read_keys x t ≡ two_keys QC t
  unfolding read_keys
  letter_count h t = rw h

  -- 21, a wrong letter
  pub letter_none : (x ≡ 80 → ⊥) → (x ≡ 83 → ⊥) → (x ≡ 66 → ⊥) → (x ≡ 82 → ⊥) → (x ≡ 67 → ⊥) → NoKeys x
  unfolding read_keys
  letter_none p s b r c t = rw (ne_eqb x 80 p, ne_eqb x 83 s, ne_eqb x 66 b, ne_eqb x 82 r, ne_eqb x 67 c, read_keys)

-- ---- keys to questions

module _ (c : Bytes → Question) (t : Bytes) where
  pub one_bad : {r : ℕ} → read_key t ≡ bad r → one_key c t ≡ bad r
  unfolding one_key
  one_bad h = rw (h, one_key)

  pub one_got : {k u : Bytes} → read_key t ≡ got k u → one_key c t ≡ got (c k) u
  unfolding one_key
  one_got h = rw (h, one_key)

module _ (c : Bytes → Bytes → Question) (t : Bytes) where
  pub two_bad : {r : ℕ} → read_key t ≡ bad r → two_keys c t ≡ bad r
  unfolding two_keys
  two_bad h = rw (h, two_keys)

  module _ {lo u : Bytes} (h : read_key t ≡ got lo u) where
    pub two_bad_upper : {r : ℕ} → read_key u ≡ bad r → two_keys c t ≡ bad r
    unfolding two_keys
    two_bad_upper g = rw (h, g, two_keys)

    module _ {hi v : Bytes} (g : read_key u ≡ got hi v) where
      -- 23, lower bound above upper
      pub two_turned : below hi lo ≡ true → two_keys c t ≡ bad 23
      unfolding two_keys
      two_turned b = rw (h, g, b, two_keys)

      pub two_got : below hi lo ≡ false → two_keys c t ≡ got (c lo hi) v
      unfolding two_keys
      two_got b = rw (h, g, b, two_keys)

-- ---- a question's mark

module _ (s : Bytes) (at : ℕ) where
  -- 21, fewer than two bytes
  pub question_short : length s - at < 2 → read_question (drop at s) ≡ bad 21
  unfolding read_question
  question_short h = few (drop at s) (omega (arith, length-drop at s))
    where
      few : (t : Bytes) → length t < 2 → read_question t ≡ bad 21
      few [] l = refl
      few (a ∷ []) l = refl
      few (a ∷ x ∷ t) l = absurd (omega arith)

  module _ (two : 2 ≤ length s - at) where
    marked : drop at s ≡ get_or s at 0 ∷ get_or s (at + 1) 0 ∷ drop (at + 2) s
    marked =
        let e : suc at ≡ at + 1 = omega arith in
        let f : suc (at + 1) ≡ at + 2 = omega arith in
        drop-cons s at 0 (omega arith)
        ∙ ap (λ (t : Bytes). get_or s at 0 ∷ t) (ap (λ (i : ℕ). drop i s) e ∙ drop-cons s (at + 1) 0 (omega arith) ∙ ap (λ (i : ℕ). get_or s (at + 1) 0 ∷ drop i s) f)

    -- 21, a wrong mark
    pub question_unmarked : (get_or s at 0 ≡ 81 → ⊥) → read_question (drop at s) ≡ bad 21
    unfolding read_question
    question_unmarked h = ap read_question marked ∙ rw (ne_eqb (get_or s at 0) 81 h, read_question)

    -- the second letter decides
    pub question_marked : get_or s at 0 ≡ 81 → read_question (drop at s) ≡ read_keys (get_or s (at + 1) 0) (drop (at + 2) s)
    unfolding read_question
    question_marked h = ap read_question marked ∙ rw (eq-eqb (get_or s at 0) 81 h, read_question)

-- ---- what a question that is read says of the bytes

-- what one key that is read says
pub record OneRead (s : Bytes) (at : ℕ) (c : Bytes → Question) (q : Question) (t : Bytes) : Type 0 where
  pub whole : KeyAt s at
  pub question_is : q ≡ c (key s (at + 1) (get_or s at 0))
  pub rest_is : t ≡ drop (at + 1 + get_or s at 0) s

pub one_read : (s : Bytes) (at : ℕ) (c : Bytes → Question) (q : Question) (t : Bytes) → one_key c (drop at s) ≡ got q t → OneRead s at c q t
one_read s at c q t h = go (read_key (drop at s)) refl
  where
    go : (g : Front Bytes) → read_key (drop at s) ≡ g → OneRead s at c q t
    go (bad r) e = no_got (sym (one_bad c (drop at s) e) ∙ h)
    go (got k u) e =
        let f : got (c k) u ≡ got q t = sym (one_got c (drop at s) e) ∙ h in
        let r = key_read s at k u e in
        let y : u ≡ t = cc in
        let x : c k ≡ q = cc in
        record { whole = r.whole; question_is = sym x ∙ ap c r.key_is; rest_is = sym y ∙ r.rest_is }

-- where the upper bound's length byte stands
abbrev pub upper_at : Bytes → ℕ → ℕ
upper_at s at = at + 1 + get_or s at 0

-- what two bounds that are read say
pub record TwoRead (s : Bytes) (at : ℕ) (c : Bytes → Bytes → Question) (q : Question) (t : Bytes) : Type 0 where
  pub lower : KeyAt s at
  pub upper : KeyAt s (upper_at s at)
  pub order : below (key s (upper_at s at + 1) (get_or s (upper_at s at) 0)) (key s (at + 1) (get_or s at 0)) ≡ false
  pub question_is : q ≡ c (key s (at + 1) (get_or s at 0)) (key s (upper_at s at + 1) (get_or s (upper_at s at) 0))
  pub rest_is : t ≡ drop (upper_at s at + 1 + get_or s (upper_at s at) 0) s

pub two_read : (s : Bytes) (at : ℕ) (c : Bytes → Bytes → Question) (q : Question) (t : Bytes) → two_keys c (drop at s) ≡ got q t → TwoRead s at c q t
two_read s at c q t h = one (read_key (drop at s)) refl
  where
    three : (lo u hi v : Bytes) → read_key (drop at s) ≡ got lo u → read_key u ≡ got hi v → KeyRead s at lo u → KeyRead s (upper_at s at) hi v → (b : Bool) → below hi lo ≡ b → TwoRead s at c q t
    three lo u hi v e f m n true b = no_got (sym (two_turned c (drop at s) e f b) ∙ h)
    three lo u hi v e f m n false b =
        let g : got (c lo hi) v ≡ got q t = sym (two_got c (drop at s) e f b) ∙ h in
        let y : v ≡ t = cc in
        let x : c lo hi ≡ q = cc in
        record {
          lower = m.whole;
          upper = n.whole;
          order = rw (← m.key_is, ← n.key_is) b;
          question_is = rw (← m.key_is, ← n.key_is) (sym x);
          rest_is = sym y ∙ n.rest_is;
        }

    two : (lo u : Bytes) → read_key (drop at s) ≡ got lo u → KeyRead s at lo u → (g : Front Bytes) → read_key u ≡ g → TwoRead s at c q t
    two lo u e m (bad r) f = no_got (sym (two_bad_upper c (drop at s) e f) ∙ h)
    two lo u e m (got hi v) f = three lo u hi v e f m (key_read s (upper_at s at) hi v (ap read_key (sym m.rest_is) ∙ f)) (below hi lo) refl

    one : (g : Front Bytes) → read_key (drop at s) ≡ g → TwoRead s at c q t
    one (bad r) e = no_got (sym (two_bad c (drop at s) e) ∙ h)
    one (got lo u) e = two lo u e (key_read s at lo u e) (read_key u) refl

-- a question that is read has a whole mark
pub record Marked (s : Bytes) (at : ℕ) (q : Question) (t : Bytes) : Type 0 where
  pub two : at + 2 ≤ length s
  pub letter : read_keys (get_or s (at + 1) 0) (drop (at + 2) s) ≡ got q t

pub marked_read : (s : Bytes) (at : ℕ) (q : Question) (t : Bytes) → at < length s → read_question (drop at s) ≡ got q t → Marked s at q t
marked_read s at q t inside h = one (ltb (length s - at) 2) refl
  where
    two : 2 ≤ length s - at → (b : Bool) → eqb (get_or s at 0) 81 ≡ b → Marked s at q t
    two l true e = record { two = omega arith; letter = sym (question_marked s at l (eqb-true _ _ e)) ∙ h }
    two l false e = no_got (sym (question_unmarked s at l (eqb-false _ _ e)) ∙ h)

    one : (b : Bool) → ltb (length s - at) 2 ≡ b → Marked s at q t
    one true e = no_got (sym (question_short s at (ltb-true _ _ e)) ∙ h)
    one false e = two (ltb-false _ _ e) (eqb (get_or s at 0) 81) refl

-- Where a question that is read ends, and that its first key is whole.
pub record Ended (s : Bytes) (at : ℕ) (t : Bytes) : Type 0 where
  pub first : KeyAt s (at + 2)
  pub end : ℕ
  pub later : at < end
  pub inside : end ≤ length s
  pub rest_is : t ≡ drop end s

-- the keys that are read by any letter
letters : (x : ℕ) (A : Type 0) → ((c : Bytes → Question) → ((t : Bytes) → read_keys x t ≡ one_key c t) → A) → ((c : Bytes → Bytes → Question) → ((t : Bytes) → read_keys x t ≡ two_keys c t) → A) → (NoKeys x → A) → A
letters x A one two none = point (eqb x 80) refl
  where
    counts : (x ≡ 80 → ⊥) → (x ≡ 83 → ⊥) → (x ≡ 66 → ⊥) → (x ≡ 82 → ⊥) → (b : Bool) → eqb x 67 ≡ b → A
    counts p s b r true e = two QC (letter_count x (eqb-true _ _ e))
    counts p s b r false e = none (letter_none x p s b r (eqb-false _ _ e))

    ranges : (x ≡ 80 → ⊥) → (x ≡ 83 → ⊥) → (x ≡ 66 → ⊥) → (b : Bool) → eqb x 82 ≡ b → A
    ranges p s b true e = two QR (letter_range x (eqb-true _ _ e))
    ranges p s b false e = counts p s b (eqb-false _ _ e) (eqb x 67) refl

    stems : (x ≡ 80 → ⊥) → (x ≡ 83 → ⊥) → (b : Bool) → eqb x 66 ≡ b → A
    stems p s true e = one QB (letter_begins x (eqb-true _ _ e))
    stems p s false e = ranges p s (eqb-false _ _ e) (eqb x 82) refl

    seeks : (x ≡ 80 → ⊥) → (b : Bool) → eqb x 83 ≡ b → A
    seeks p true e = one QS (letter_seek x (eqb-true _ _ e))
    seeks p false e = stems p (eqb-false _ _ e) (eqb x 66) refl

    point : (b : Bool) → eqb x 80 ≡ b → A
    point true e = one QP (letter_point x (eqb-true _ _ e))
    point false e = seeks (eqb-false _ _ e) (eqb x 83) refl

pub question_ends : (s : Bytes) (at : ℕ) (q : Question) (t : Bytes) → Marked s at q t → Ended s at t
question_ends s at q t m = letters (get_or s (at + 1) 0) (Ended s at t) one two (λ n. no_got (sym (n (drop (at + 2) s)) ∙ m.letter))
  where
    one : (c : Bytes → Question) → ((t : Bytes) → read_keys (get_or s (at + 1) 0) t ≡ one_key c t) → Ended s at t
    one c e =
        let r = one_read s (at + 2) c q t (sym (e (drop (at + 2) s)) ∙ m.letter) in
        record { first = r.whole; end = at + 2 + 1 + get_or s (at + 2) 0; later = omega arith; inside = r.whole.fits; rest_is = r.rest_is }

    two : (c : Bytes → Bytes → Question) → ((t : Bytes) → read_keys (get_or s (at + 1) 0) t ≡ two_keys c t) → Ended s at t
    two c e =
        let r = two_read s (at + 2) c q t (sym (e (drop (at + 2) s)) ∙ m.letter) in
        record { first = r.lower; end = upper_at s (at + 2) + 1 + get_or s (upper_at s (at + 2)) 0; later = omega arith; inside = r.upper.fits; rest_is = r.rest_is }
