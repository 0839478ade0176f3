-- A pass over the keys that sets bits at one cursor a level. Each emission sets the bits that its level's cursor and its value give, and moves the cursor on.
-- However the levels are mixed, the bits set are those of the values level by level. Used by the bodies of bits.
use Prim.Native.Nat.{ℕ, zero, suc, ◌+◌, ◌*◌, ◌<◌, ◌≤◌}
use Rattle.std.specs.Prelude.{◌≡◌, Bool, true, false, ◌||◌, ◌⊎◌, get_or, eqb}
use Rattle.std.proofs.Math.Path.{refl, sym, ap, ap₂}
use Rattle.std.proofs.Common.{◌∙◌, inl, inr, mul-add, get_or-set_same, get_or-set_other, eqb-true, eq-eqb}
use Rattle.std.proofs.Math.Bool.{or_assoc, or-true}
use mathlib.Core.List.{List, [], ◌∷◌, ◌++◌, map, append_assoc}
use Rattle.std.proofs.Math.Logic.{⊎_elim}
use native.Mathlib.Omega.{arith}
use Rattle.std.proofs.Math.ListN.{length, set, length-set}
use Rattle.std.proofs.lemmas.Bool.{eqb-false}
use Rattle.spec.specs.Bytes.{Bits, any, concat}
use Rattle.spec.specs.Image.{has, positions}
use Rattle.theory.specs.Terms.{All}
use Rattle.build_laws.specs.Emissions.{Emission, emission, level_values, values_below, LevelsBelow, level_none, level_here, level_else}
use Rattle.build_laws.specs.Cursors.{sum_of, counts, level_offset, offset_sum}
use Rattle.build_laws.specs.SetBits.{set_bits, set_none, set_append, has_append, has_nil, positions_append}

-- the bits of the output, and a cursor for each level
pub record BitState : Type 0 where
  pub bits : Bits
  pub cursors : List ℕ

-- such a state
abbrev pub bit_state : Bits → List ℕ → BitState
bit_state b c = record { bits = b; cursors = c }

-- every position is below n
abbrev pub PositionsBelow : ℕ → List ℕ → Type 0
PositionsBelow n [] = Unit
PositionsBelow n (i ∷ is) = (i < n) × PositionsBelow n is

below_of : (n : ℕ) (is : List ℕ) → ((j : ℕ) → has is j ≡ true → j < n) → PositionsBelow n is
unfolding has any
below_of n [] f = tt
below_of n (i ∷ is) f = (f i (ap (λ (b : Bool). b || has is i) (eq-eqb i i refl)), below_of n is (λ j h. f j (ap (λ (b : Bool). eqb j i || b) h ∙ or-true (eqb j i))))

-- some level below m passes
unfoldable some_level : ℕ → (ℕ → Bool) → Bool
some_level zero f = false
some_level (suc m) f = some_level m f || f m

some_none : (m : ℕ) (f : ℕ → Bool) → ((d : ℕ) → f d ≡ false) → some_level m f ≡ false
unfolding some_level
some_none zero f h = refl
some_none (suc m) f h = ap₂ ◌||◌ (some_none m f h) (h m)

some_same : (m : ℕ) (f g : ℕ → Bool) → ((d : ℕ) → d < m → f d ≡ g d) → some_level m f ≡ some_level m g
unfolding some_level
some_same zero f g h = refl
some_same (suc m) f g h = ap₂ ◌||◌ (some_same m f g (λ d l. h d (omega arith))) (h m (omega arith))

-- one level's test gains a case
some_gains : (m e : ℕ) (f g : ℕ → Bool) (a : Bool) → e < m → f e ≡ a || g e → ((d : ℕ) → (d ≡ e → ⊥) → f d ≡ g d) → some_level m f ≡ a || some_level m g
unfolding some_level
some_gains zero e f g a l h o = absurd (omega arith)
some_gains (suc m) e f g a l h o = go (eqb e m) refl (λ k. some_gains m e f g a k h o)
  where
    swap : (a b c : Bool) → b || (a || c) ≡ a || (b || c)
    swap true b c = or-true b
    swap false b c = refl

    go : (b : Bool) → eqb e m ≡ b → (e < m → some_level m f ≡ a || some_level m g) → some_level m f || f m ≡ a || (some_level m g || g m)
    go true q ih =
        let r : e ≡ m = eqb-true e m q in
        ap₂ ◌||◌ (some_same m f g (λ d k. o d (λ z. omega arith))) (rw r at h) ∙ swap a (some_level m g) (g m)
    go false q ih =
        let r : e ≡ m → ⊥ = eqb-false e m q in
        ap₂ ◌||◌ (ih (less r)) (o m (λ z. r (sym z))) ∙ or_assoc a (some_level m g) (g m)
      where
        less : (e ≡ m → ⊥) → e < m
        less r = omega arith

module _ {A : Type 0} (inc : A → ℕ) (ones-at : ℕ → A → List ℕ) where
  -- an emission sets the bits that its level's cursor and its value give, and moves the cursor on
  abbrev pub write_bits : Emission A → BitState → BitState
  write_bits (emission d x) s = record {
    bits = set_bits (ones-at (get_or s.cursors d 0) x) s.bits;
    cursors = set s.cursors d (get_or s.cursors d 0 + inc x);
  }

  -- emissions one after the other
  unfoldable pub write_all_bits : List (Emission A) → BitState → BitState
  write_all_bits [] s = s
  write_all_bits (e ∷ es) s = write_all_bits es (write_bits e s)

  -- the positions that values set, from a cursor on
  unfoldable pub cursor_ones : ℕ → List A → List ℕ
  cursor_ones c [] = []
  cursor_ones c (x ∷ xs) = ones-at c x ++ cursor_ones (c + inc x) xs

  -- the positions that emissions set, from these cursors on
  unfoldable pub emitted_ones : List (Emission A) → List ℕ → List ℕ
  emitted_ones [] c = []
  emitted_ones (emission d x ∷ es) c = ones-at (get_or c d 0) x ++ emitted_ones es (set c d (get_or c d 0 + inc x))

  -- the state behind emissions: these positions set, the cursors moved on
  pub write_all_is : (es : List (Emission A)) (bs : Bits) (c : List ℕ) → write_all_bits es (bit_state bs c) ≡ bit_state (set_bits (emitted_ones es c) bs) (counts inc es c)
  unfolding write_all_bits emitted_ones counts
  write_all_is [] bs c = ap (λ (b : Bits). bit_state b c) (sym (set_none bs))
  write_all_is (emission d x ∷ es) bs c =
      write_all_is es (set_bits (ones-at (get_or c d 0) x) bs) (set c d (get_or c d 0 + inc x))
      ∙ ap (λ (b : Bits). bit_state b (counts inc es (set c d (get_or c d 0 + inc x)))) (sym (set_append (ones-at (get_or c d 0) x) (emitted_ones es (set c d (get_or c d 0 + inc x))) bs))

  -- ---- level by level

  level_ones : List (Emission A) → List ℕ → ℕ → ℕ → Bool
  level_ones es c j d = has (cursor_ones (get_or c d 0) (level_values d es)) j

  ones_levels : (es : List (Emission A)) (c : List ℕ) (j : ℕ) → 64 ≤ length c → LevelsBelow 64 es → has (emitted_ones es c) j ≡ some_level 64 (level_ones es c j)
  unfolding emitted_ones level_ones cursor_ones
  ones_levels [] c j h l = has_nil j ∙ sym (some_none 64 (level_ones [] c j) (λ d. ap (λ (xs : List A). has (cursor_ones (get_or c d 0) xs) j) (level_none d) ∙ has_nil j))
  ones_levels (emission e x ∷ es) c j h l =
      let c' : List ℕ = set c e (get_or c e 0 + inc x) in
      has_append (ones-at (get_or c e 0) x) (emitted_ones es c') j
      ∙ ap (λ (b : Bool). has (ones-at (get_or c e 0) x) j || b) (ones_levels es c' j (omega (arith, length-set c e (get_or c e 0 + inc x))) l.1)
      ∙ sym (some_gains 64 e (level_ones (emission e x ∷ es) c j) (level_ones es c' j) (has (ones-at (get_or c e 0) x) j) l.0
      (ap (λ (xs : List A). has (cursor_ones (get_or c e 0) xs) j) (level_here e x es)
      ∙ has_append (ones-at (get_or c e 0) x) (cursor_ones (get_or c e 0 + inc x) (level_values e es)) j
      ∙ ap (λ (k : ℕ). has (ones-at (get_or c e 0) x) j || has (cursor_ones k (level_values e es)) j) (sym (get_or-set_same c e (get_or c e 0 + inc x) 0 (omega (arith, l.0)))))
      (λ d n. ap₂ (λ (k : ℕ) (xs : List A). has (cursor_ones k xs) j) (sym (get_or-set_other c e d (get_or c e 0 + inc x) 0 n)) (level_else d e x es n)))

  -- the positions that two lists of values set
  pub cursor_append : (c : ℕ) (a b : List A) → cursor_ones c (a ++ b) ≡ cursor_ones c a ++ cursor_ones (c + sum_of inc a) b
  unfolding cursor_ones sum_of
  cursor_append c [] b = let w : c ≡ c + 0 = omega arith in ap (λ (k : ℕ). cursor_ones k b) w
  cursor_append c (x ∷ a) b =
      let w : c + inc x + sum_of inc a ≡ c + (inc x + sum_of inc a) = omega arith in
      ap (λ (z : List ℕ). ones-at c x ++ z) (cursor_append (c + inc x) a b ∙ ap (λ (k : ℕ). cursor_ones (c + inc x) a ++ cursor_ones k b) w)
      ∙ sym (append_assoc (ones-at c x) (cursor_ones (c + inc x) a) (cursor_ones (c + (inc x + sum_of inc a)) b))

  below_levels : (es : List (Emission A)) (j m : ℕ) → has (cursor_ones 0 (values_below es m)) j ≡ some_level m (λ d. has (cursor_ones (level_offset inc es d) (level_values d es)) j)
  unfolding values_below some_level cursor_ones
  below_levels es j zero = has_nil j
  below_levels es j (suc m) =
      ap (λ (is : List ℕ). has is j) (cursor_append 0 (values_below es m) (level_values m es)) ∙ has_append (cursor_ones 0 (values_below es m)) (cursor_ones (0 + sum_of inc (values_below es m)) (level_values m es)) j
      ∙ ap₂ (λ (a : Bool) (k : ℕ). a || has (cursor_ones k (level_values m es)) j) (below_levels es j m) (start m)
    where
      start : (m : ℕ) → 0 + sum_of inc (values_below es m) ≡ level_offset inc es m
      start m = let e = offset_sum inc es m in omega (arith, e)

  -- each level that has values has its cursor at its start
  abbrev pub Started : List (Emission A) → List ℕ → Type 0
  Started es c = (d : ℕ) → d < 64 → (level_values d es ≡ []) ⊎ (get_or c d 0 ≡ level_offset inc es d)

  -- The positions that emissions set are those of their values level by level.
  pub ones_by_level : (es : List (Emission A)) (c : List ℕ) → 64 ≤ length c → LevelsBelow 64 es → Started es c → (j : ℕ) → has (emitted_ones es c) j ≡ has (cursor_ones 0 (values_below es 64)) j
  unfolding level_ones cursor_ones
  ones_by_level es c h l s j =
      ones_levels es c j h l
      ∙ some_same 64 (level_ones es c j) (λ d. has (cursor_ones (level_offset inc es d) (level_values d es)) j)
      (λ d k. ⊎_elim (λ e. none d e) (λ e. ap (λ (n : ℕ). has (cursor_ones n (level_values d es)) j) e) (s d k))
      ∙ sym (below_levels es j 64)
    where
      none : (d : ℕ) → level_values d es ≡ [] → has (cursor_ones (get_or c d 0) (level_values d es)) j ≡ has (cursor_ones (level_offset inc es d) (level_values d es)) j
      none d e = rw e refl

  -- ---- room for what is to be written

  -- each emission sets bits below n only, and its cursor stays within top
  abbrev pub Room : ℕ → ℕ → List (Emission A) → List ℕ → Type 0
  Room n top [] c = Unit
  Room n top (emission d x ∷ es) c = (d < 64) × (get_or c d 0 + inc x ≤ top) × PositionsBelow n (ones-at (get_or c d 0) x) × Room n top es (set c d (get_or c d 0 + inc x))

  -- room for two lists is room for the first, and then for the second
  pub room_append : (n top : ℕ) (a b : List (Emission A)) (c : List ℕ) → Room n top (a ++ b) c → Room n top a c × Room n top b (counts inc a c)
  unfolding counts
  room_append n top [] b c r = (tt, r)
  room_append n top (emission d x ∷ a) b c r = let q = room_append n top a b (set c d (get_or c d 0 + inc x)) r.3 in ((r.0, r.1, r.2, q.0), q.1)

  -- each level's cursor stays within top
  abbrev pub EndsWithin : ℕ → List (Emission A) → List ℕ → Type 0
  EndsWithin top es c = (d : ℕ) → d < 64 → (level_values d es ≡ []) ⊎ (get_or c d 0 + sum_of inc (level_values d es) ≤ top)

  ends_step : (top e : ℕ) (x : A) (es : List (Emission A)) (c : List ℕ) → e < length c → EndsWithin top (emission e x ∷ es) c → EndsWithin top es (set c e (get_or c e 0 + inc x))
  unfolding sum_of
  ends_step top e x es c h w d l = go (eqb d e) refl
    where
      cons_nil : (xs ys : List A) → x ∷ xs ≡ ys → ys ≡ [] → ⊥
      cons_nil xs ys p q = let z : length (x ∷ xs) ≡ length ys = ap length p in let y : length ys ≡ length {A = A} [] = ap length q in omega arith

      go : (b : Bool) → eqb d e ≡ b → (level_values d es ≡ []) ⊎ (get_or (set c e (get_or c e 0 + inc x)) d 0 + sum_of inc (level_values d es) ≤ top)
      go true q =
          let r : d ≡ e = eqb-true d e q in
          let u : get_or (set c e (get_or c e 0 + inc x)) d 0 ≡ get_or c d 0 + inc x = rw r (get_or-set_same c e (get_or c e 0 + inc x) 0 h) in
          let v : x ∷ level_values d es ≡ level_values d (emission e x ∷ es) = rw r (sym (level_here e x es)) in
          ⊎_elim (λ z. absurd (cons_nil (level_values d es) (level_values d (emission e x ∷ es)) v z)) (λ z. inr (omega (arith, u, ap (sum_of inc) v))) (w d l)
      go false q =
          let r : d ≡ e → ⊥ = eqb-false d e q in
          ⊎_elim (λ z. inl (sym (level_else d e x es r) ∙ z)) (λ z. inr (omega (arith, get_or-set_other c e d (get_or c e 0 + inc x) 0 r, ap (sum_of inc) (level_else d e x es r)))) (w d l)

  -- Room for emissions whose positions are below n and whose levels end within top.
  pub room_of : (n top : ℕ) (es : List (Emission A)) (c : List ℕ) → 64 ≤ length c → LevelsBelow 64 es → EndsWithin top es c → ((j : ℕ) → has (emitted_ones es c) j ≡ true → j < n) → Room n top es c
  unfolding emitted_ones sum_of
  room_of n top [] c h l w f = tt
  room_of n top (emission e x ∷ es) c h l w f = (
    l.0,
    ⊎_elim (λ z. absurd (some (level_values e es) (sym (level_here e x es) ∙ z))) (λ z. omega (arith, ap (sum_of inc) (level_here e x es))) (w e l.0),
    below_of n (ones-at (get_or c e 0) x) (λ j q. f j (has_append (ones-at (get_or c e 0) x) (emitted_ones es (set c e (get_or c e 0 + inc x))) j ∙ ap (λ (b : Bool). b || has (emitted_ones es (set c e (get_or c e 0 + inc x))) j) q)),
    room_of n top es (set c e (get_or c e 0 + inc x)) (omega (arith, length-set c e (get_or c e 0 + inc x))) l.1 (ends_step top e x es c (omega (arith, l.0)) w)
        (λ j q. f j (has_append (ones-at (get_or c e 0) x) (emitted_ones es (set c e (get_or c e 0 + inc x))) j ∙ ap (λ (b : Bool). has (ones-at (get_or c e 0) x) j || b) q ∙ or-true (has (ones-at (get_or c e 0) x) j))),
  )
    where
      some : (xs : List A) → x ∷ xs ≡ [] → ⊥
      some xs q = let z : length (x ∷ xs) ≡ length {A = A} [] = ap length q in omega arith

-- ---- values with bits of their own

-- any values at all
pub every : {A : Type 0} (xs : List A) → All (λ (x : A). Unit) xs
every [] = tt
every (x ∷ xs) = (tt, every xs)

-- Values that set the positions of the ones of their own bits, w bits for each step of the cursor, set those of all their bits.
pub ones_of_bits : {A : Type 0} (inc : A → ℕ) (ones-at : ℕ → A → List ℕ) (w : ℕ) (bits_of : A → Bits) → ((c : ℕ) (x : A) → ones-at c x ≡ positions (w * c) (bits_of x))
    → (P : A → Type 0) → ((x : A) → P x → length (bits_of x) ≡ w * inc x)
    → (xs : List A) → All P xs → (c : ℕ) → cursor_ones inc ones-at c xs ≡ positions (w * c) (concat (map bits_of xs))
unfolding cursor_ones concat positions
ones_of_bits inc ones-at w bits_of f P g [] a c = refl
ones_of_bits inc ones-at w bits_of f P g (x ∷ xs) a c =
    ap₂ ◌++◌ (f c x) (ones_of_bits inc ones-at w bits_of f P g xs a.1 (c + inc x) ∙ ap (λ (k : ℕ). positions k (concat (map bits_of xs))) (mul-add w c (inc x) ∙ ap (λ (k : ℕ). w * c + k) (sym (g x a.0))))
    ∙ sym (positions_append (w * c) (bits_of x) (concat (map bits_of xs)))
