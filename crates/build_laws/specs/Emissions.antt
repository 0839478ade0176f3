-- Emissions: values with the levels that they belong to, in key order. Their values level by level, and what one key emits on its levels. Used by every pass over the keys.
use Prim.Native.Nat.{ℕ, zero, suc, ◌+◌, ◌-◌, ◌<◌, ◌≤◌, max, min}
use Rattle.std.specs.Prelude.{◌≡◌, Bool, ◌&&◌, length}
use Rattle.std.proofs.Math.Path.{refl, ap, ap₂}
use Rattle.std.proofs.Common.{sym, ◌∙◌}
use Rattle.std.proofs.Math.Bool.{true, false, cond}
use mathlib.Core.List.{List, [], ◌∷◌, ◌++◌, map}
use native.Mathlib.Omega.{arith}
use Rattle.std.proofs.Math.Dec.{leb, ltb, eqb}
use borrow.Author.Tests.{ltb-true, ltb-false, leb-true, leb-false, eq-eqb, ne_eqb, eqb-true, eqb-false}
use Rattle.spec.specs.Bytes.{Bytes}
use Rattle.build_laws.specs.LevelEntries.{pred}
use Rattle.theory.proofs.Neighbours.{next_shared}
use Rattle.build_laws.specs.NeighbourLeaves.{cut_length}

-- a level and a value
pub data Emission (A : Type 0) : Type 0 where
  emission : ℕ → A → Emission A

-- the values on level d, in their order
unfoldable pub level_values : {A : Type 0} → ℕ → List (Emission A) → List A
level_values d [] = []
level_values d (emission e x ∷ es) = cond (eqb d e) (x ∷ level_values d es) (level_values d es)

-- the values of the levels below d, level by level
unfoldable pub values_below : {A : Type 0} → List (Emission A) → ℕ → List A
unfolding level_values
values_below es zero = []
values_below es (suc d) = values_below es d ++ level_values d es

-- every level is below b
abbrev pub LevelsBelow : {A : Type 0} → ℕ → List (Emission A) → Type 0
LevelsBelow b [] = Unit
LevelsBelow b (emission d x ∷ es) = (d < b) × LevelsBelow b es

-- emissions with a function of their values
unfoldable pub map_emissions : {A B : Type 0} → (A → B) → List (Emission A) → List (Emission B)
map_emissions f [] = []
map_emissions f (emission d x ∷ es) = emission d (f x) ∷ map_emissions f es

-- m emissions from level d on, one a level
unfoldable pub consecutive : {A : Type 0} → (ℕ → A) → ℕ → ℕ → List (Emission A)
consecutive v d zero = []
consecutive v d (suc m) = emission d (v d) ∷ consecutive v (suc d) m

-- What a key of n bytes emits on the levels from lo to below hi, p and q the prefixes shared with the keys before and behind:
-- v d on each level d from p to the end of its cut key, and t on level n if it is an exact leaf.
unfoldable pub key_emissions : {A : Type 0} → ℕ → ℕ → (ℕ → A) → A → ℕ → ℕ → ℕ → List (Emission A)
unfolding consecutive cut_length
key_emissions lo hi v t p q n =
    consecutive v (max p lo) (min (cut_length p q n) hi - max p lo) ++ cond (eqb q n && (leb lo n && ltb n hi)) (emission n t ∷ []) []

-- What keys emit, F p q k d the value of key k on level d. p is 0 for the first key, else one more than the prefix shared with the key before:
-- the first level on which the key starts a node. q is the prefix shared with the key behind.
unfoldable pub emissions : {A : Type 0} → ℕ → ℕ → (ℕ → ℕ → Bytes → ℕ → A) → A → ℕ → List Bytes → List (Emission A)
unfolding key_emissions next_shared
emissions lo hi F t p [] = []
emissions lo hi F t p (k ∷ ks) = key_emissions lo hi (F p (next_shared k ks) k) t (pred p) (next_shared k ks) (length k) ++ emissions lo hi F t (suc (next_shared k ks)) ks

-- ---- levels

module _ {A : Type 0} where
  -- the values of two lists of emissions
  pub level_append : (d : ℕ) (a b : List (Emission A)) → level_values d (a ++ b) ≡ level_values d a ++ level_values d b
  unfolding level_values
  level_append d [] b = refl
  level_append d (emission e x ∷ a) b = go (eqb d e) (level_append d a b)
    where
      go : (c : Bool) → level_values d (a ++ b) ≡ level_values d a ++ level_values d b → cond c (x ∷ level_values d (a ++ b)) (level_values d (a ++ b)) ≡ cond c (x ∷ level_values d a) (level_values d a) ++ level_values d b
      go true ih = ap (λ (z : List A). x ∷ z) ih
      go false ih = ih

  -- no emission, no value
  pub level_none : (d : ℕ) → level_values {A = A} d [] ≡ []
  unfolding level_values
  level_none d = refl

  -- the first emission is on level d
  pub level_here : (d : ℕ) (x : A) (es : List (Emission A)) → level_values d (emission d x ∷ es) ≡ x ∷ level_values d es
  unfolding level_values
  level_here d x es = rw (eq-eqb d d refl)

  -- the first emission is on another level
  pub level_else : (d e : ℕ) (x : A) (es : List (Emission A)) → (d ≡ e → ⊥) → level_values d (emission e x ∷ es) ≡ level_values d es
  unfolding level_values
  level_else d e x es n = rw (ne_eqb d e n)

  -- two lists of emissions on levels below b
  pub below_append : (b : ℕ) (u v : List (Emission A)) → LevelsBelow b u → LevelsBelow b v → LevelsBelow b (u ++ v)
  below_append b [] v p q = q
  below_append b (emission d x ∷ u) v p q = (p.0, below_append b u v p.1 q)

  consecutive_none : (v : ℕ → A) (d a : ℕ) → level_values d (consecutive v a 0) ≡ []
  unfolding level_values consecutive
  consecutive_none v d a = refl

  consecutive_before : (v : ℕ → A) (d a m : ℕ) → d < a → level_values d (consecutive v a m) ≡ []
  unfolding level_values consecutive
  consecutive_before v d a zero h = refl
  consecutive_before v d a (suc m) h = rw (ne_eqb d a (λ e. omega arith)) (consecutive_before v d (suc a) m (omega arith))

  consecutive_past : (v : ℕ → A) (d a m : ℕ) → a + m ≤ d → level_values d (consecutive v a m) ≡ []
  unfolding level_values consecutive
  consecutive_past v d a zero h = refl
  consecutive_past v d a (suc m) h = rw (ne_eqb d a (λ e. omega arith)) (consecutive_past v d (suc a) m (omega arith))

  consecutive_in : (v : ℕ → A) (d a m : ℕ) → a ≤ d → d < a + m → level_values d (consecutive v a m) ≡ v d ∷ []
  unfolding level_values consecutive
  consecutive_in v d a zero h l = absurd (omega arith)
  consecutive_in v d a (suc m) h l = go (eqb d a) refl (λ q. consecutive_in v d (suc a) m (omega arith) (omega arith))
    where
      go : (b : Bool) → eqb d a ≡ b → ((d ≡ a → ⊥) → level_values d (consecutive v (suc a) m) ≡ v d ∷ []) → cond b (v a ∷ level_values d (consecutive v (suc a) m)) (level_values d (consecutive v (suc a) m)) ≡ v d ∷ []
      go true e f = ap₂ ◌∷◌ (ap v (sym (eqb-true d a e))) (consecutive_before v d (suc a) m (omega (arith, eqb-true d a e)))
      go false e f = f (eqb-false d a e)

  consecutive_below : (b : ℕ) (v : ℕ → A) (a m : ℕ) → (0 < m → a + m ≤ b) → LevelsBelow b (consecutive v a m)
  unfolding consecutive
  consecutive_below b v a zero h = tt
  consecutive_below b v a (suc m) h = let w = h (omega arith) in (omega arith, consecutive_below b v (suc a) m (λ z. omega arith))

  module _ (lo hi : ℕ) (v : ℕ → A) (t : A) (p q n d : ℕ) where
    labels_in : (c : ℕ) → lo ≤ d → d < hi → level_values d (consecutive v (max p lo) (min c hi - max p lo)) ≡ cond (leb p d && ltb d c) (v d ∷ []) []
    labels_in c h l = go (leb p d) refl (ltb d c) refl
      where
        go : (a : Bool) → leb p d ≡ a → (b : Bool) → ltb d c ≡ b → level_values d (consecutive v (max p lo) (min c hi - max p lo)) ≡ cond (a && b) (v d ∷ []) []
        go true e true f = consecutive_in v d (max p lo) (min c hi - max p lo) (omega (arith, leb-true p d e)) (omega (arith, leb-true p d e, ltb-true d c f))
        go true e false f = consecutive_past v d (max p lo) (min c hi - max p lo) (less (leb-true p d e) (ltb-false d c f))
          where
            less : p ≤ d → c ≤ d → max p lo + (min c hi - max p lo) ≤ d
            less x y = omega arith
        go false e b f = consecutive_before v d (max p lo) (min c hi - max p lo) (omega (arith, leb-false p d e))

    exact_in : (x : Bool) → lo ≤ d → d < hi → level_values d (cond (x && (leb lo n && ltb n hi)) (emission n t ∷ []) []) ≡ cond (x && eqb d n) (t ∷ []) []
    unfolding level_values
    exact_in false h l = refl
    exact_in true h l = go (leb lo n) refl (ltb n hi) refl
      where
        go : (a : Bool) → leb lo n ≡ a → (b : Bool) → ltb n hi ≡ b → level_values d (cond (a && b) (emission n t ∷ []) []) ≡ cond (eqb d n) (t ∷ []) []
        go true e true f = refl
        go true e false f = rw (ne_eqb d n (λ z. omega (arith, ltb-false n hi f)))
        go false e b f = rw (ne_eqb d n (λ z. omega (arith, leb-false lo n e)))

    exact_out : (x : Bool) → (lo ≤ d → d < hi → ⊥) → level_values d (cond (x && (leb lo n && ltb n hi)) (emission n t ∷ []) []) ≡ []
    unfolding level_values
    exact_out false h = refl
    exact_out true h = go (leb lo n) refl (ltb n hi) refl
      where
        go : (a : Bool) → leb lo n ≡ a → (b : Bool) → ltb n hi ≡ b → level_values d (cond (a && b) (emission n t ∷ []) []) ≡ []
        go true e true f = rw (ne_eqb d n (λ z. h (omega (arith, leb-true lo n e)) (omega (arith, ltb-true n hi f))))
        go true e false f = refl
        go false e b f = refl

    -- a key's values on a level from lo to below hi
    pub key_level : lo ≤ d → d < hi → level_values d (key_emissions lo hi v t p q n) ≡ cond (leb p d && ltb d (cut_length p q n)) (v d ∷ []) [] ++ cond (eqb q n && eqb d n) (t ∷ []) []
    unfolding key_emissions
    key_level h l = level_append d (consecutive v (max p lo) (min (cut_length p q n) hi - max p lo)) _ ∙ ap₂ ◌++◌ (labels_in (cut_length p q n) h l) (exact_in (eqb q n) h l)

    -- below lo there are none
    pub key_low : d < lo → level_values d (key_emissions lo hi v t p q n) ≡ []
    unfolding key_emissions
    key_low h =
        level_append d (consecutive v (max p lo) (min (cut_length p q n) hi - max p lo)) _
        ∙ ap₂ ◌++◌ (consecutive_before v d (max p lo) (min (cut_length p q n) hi - max p lo) (omega arith)) (exact_out (eqb q n) (λ x y. omega arith))

    -- nor from hi on
    pub key_high : hi ≤ d → level_values d (key_emissions lo hi v t p q n) ≡ []
    unfolding key_emissions
    key_high h =
        level_append d (consecutive v (max p lo) (min (cut_length p q n) hi - max p lo)) _
        ∙ ap₂ ◌++◌ (past (cut_length p q n) (leb (min (cut_length p q n) hi) (max p lo)) refl) (exact_out (eqb q n) (λ x y. omega arith))
      where
        past : (c : ℕ) (b : Bool) → leb (min c hi) (max p lo) ≡ b → level_values d (consecutive v (max p lo) (min c hi - max p lo)) ≡ []
        past c true e =
            let w : min c hi - max p lo ≡ 0 = omega (arith, leb-true (min c hi) (max p lo) e) in
            ap (λ (m : ℕ). level_values d (consecutive v (max p lo) m)) w ∙ consecutive_none v d (max p lo)
        past c false e = consecutive_past v d (max p lo) (min c hi - max p lo) (omega (arith, leb-false (min c hi) (max p lo) e))

  -- a key's levels are below 64
  pub key_below : (lo hi : ℕ) (v : ℕ → A) (t : A) (p q n : ℕ) → cut_length p q n ≤ 64 → (q ≡ n → n < 64) → LevelsBelow 64 (key_emissions lo hi v t p q n)
  unfolding key_emissions
  key_below lo hi v t p q n h k =
      below_append 64 (consecutive v (max p lo) (min (cut_length p q n) hi - max p lo)) _ (consecutive_below 64 v (max p lo) (min (cut_length p q n) hi - max p lo) (λ z. omega arith))
      (go (eqb q n) refl (leb lo n && ltb n hi))
    where
      go : (b : Bool) → eqb q n ≡ b → (c : Bool) → LevelsBelow 64 (cond (b && c) (emission n t ∷ []) [])
      go true e true = (k (eqb-true q n e), tt)
      go true e false = tt
      go false e c = tt

-- ---- a function of the values

module _ {A B : Type 0} (f : A → B) where
  map_append_emissions : (a b : List (Emission A)) → map_emissions f (a ++ b) ≡ map_emissions f a ++ map_emissions f b
  unfolding map_emissions
  map_append_emissions [] b = refl
  map_append_emissions (emission d x ∷ a) b = ap (λ (z : List (Emission B)). emission d (f x) ∷ z) (map_append_emissions a b)

  -- the values on a level, mapped
  pub level_map : (d : ℕ) (es : List (Emission A)) → level_values d (map_emissions f es) ≡ map f (level_values d es)
  unfolding level_values map_emissions
  level_map d [] = refl
  level_map d (emission e x ∷ es) = go (eqb d e) (level_map d es)
    where
      go : (b : Bool) → level_values d (map_emissions f es) ≡ map f (level_values d es) → cond b (f x ∷ level_values d (map_emissions f es)) (level_values d (map_emissions f es)) ≡ map f (cond b (x ∷ level_values d es) (level_values d es))
      go true ih = ap (λ (z : List B). f x ∷ z) ih
      go false ih = ih

  map_consecutive : (v : ℕ → A) (d m : ℕ) → map_emissions f (consecutive v d m) ≡ consecutive (λ e. f (v e)) d m
  unfolding map_emissions consecutive
  map_consecutive v d zero = refl
  map_consecutive v d (suc m) = ap (λ (z : List (Emission B)). emission d (f (v d)) ∷ z) (map_consecutive v (suc d) m)

  map_exact : (b : Bool) (n : ℕ) (t : A) → map_emissions f (cond b (emission n t ∷ []) []) ≡ cond b (emission n (f t) ∷ []) []
  unfolding map_emissions
  map_exact true n t = refl
  map_exact false n t = refl

  -- a key's emissions, mapped
  pub map_key : (lo hi : ℕ) (v : ℕ → A) (t : A) (p q n : ℕ) → map_emissions f (key_emissions lo hi v t p q n) ≡ key_emissions lo hi (λ d. f (v d)) (f t) p q n
  unfolding key_emissions
  map_key lo hi v t p q n =
      map_append_emissions (consecutive v (max p lo) (min (cut_length p q n) hi - max p lo)) _
      ∙ ap₂ ◌++◌ (map_consecutive v (max p lo) (min (cut_length p q n) hi - max p lo)) (map_exact (eqb q n && (leb lo n && ltb n hi)) n t)

  -- what keys emit, mapped
  pub map_keys : (lo hi : ℕ) (F : ℕ → ℕ → Bytes → ℕ → A) (t : A) (p : ℕ) (ks : List Bytes) → map_emissions f (emissions lo hi F t p ks) ≡ emissions lo hi (λ p q k d. f (F p q k d)) (f t) p ks
  unfolding emissions map_emissions
  map_keys lo hi F t p [] = refl
  map_keys lo hi F t p (k ∷ ks) =
      map_append_emissions (key_emissions lo hi (F p (next_shared k ks) k) t (pred p) (next_shared k ks) (length k)) _
      ∙ ap₂ ◌++◌ (map_key lo hi (F p (next_shared k ks) k) t (pred p) (next_shared k ks) (length k)) (map_keys lo hi F t (suc (next_shared k ks)) ks)
