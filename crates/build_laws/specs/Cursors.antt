-- Counters of one number a level: what they are after emissions have been counted, and the offset of each level. Used by every pass over the keys.
use Prim.Native.Nat.{ℕ, zero, suc, ◌+◌, ◌<◌, ◌≤◌}
use Rattle.std.specs.Prelude.{◌≡◌, Bool, cond, length, set, leb}
use Rattle.std.proofs.Math.Path.{refl, ap}
use Rattle.std.proofs.Common.{sym, ap₂, ◌∙◌, get_or-set_same}
use Rattle.std.proofs.Math.Bool.{true, false}
use mathlib.Core.List.{List, [], ◌∷◌, ◌++◌}
use native.Mathlib.Omega.{arith}
use Rattle.std.proofs.Math.ListN.{get_or, length-set}
use Rattle.std.proofs.Math.Seq.{get_or-set_other}
use Rattle.std.proofs.Math.Dec.{eqb}
use borrow.Author.Tests.{eqb-true, eqb-false, leb-true, leb-false}
use Rattle.build_laws.specs.Emissions.{Emission, emission, level_values, values_below, level_here, level_else, level_none}

module _ {A : Type 0} (inc : A → ℕ) where
  -- the sum of the increments
  unfoldable pub sum_of : List A → ℕ
  sum_of [] = 0
  sum_of (x ∷ xs) = inc x + sum_of xs

  -- each emission adds its increment to its level's counter
  unfoldable pub counts : List (Emission A) → List ℕ → List ℕ
  counts [] c = c
  counts (emission d x ∷ es) c = counts es (set c d (get_or c d 0 + inc x))

  -- the sum of the increments on the levels below d: the offset of level d
  unfoldable pub level_offset : List (Emission A) → ℕ → ℕ
  unfolding sum_of level_values
  level_offset es zero = 0
  level_offset es (suc d) = level_offset es d + sum_of (level_values d es)

  -- two lists
  pub sum_append : (a b : List A) → sum_of (a ++ b) ≡ sum_of a + sum_of b
  unfolding sum_of
  sum_append [] b = omega arith
  sum_append (x ∷ a) b = omega (arith, sum_append a b)

  -- two lists of emissions
  pub counts_append : (a b : List (Emission A)) (c : List ℕ) → counts (a ++ b) c ≡ counts b (counts a c)
  unfolding counts
  counts_append [] b c = refl
  counts_append (emission d x ∷ a) b c = counts_append a b (set c d (get_or c d 0 + inc x))

  -- counting keeps the number of counters
  pub length_counts : (es : List (Emission A)) (c : List ℕ) → length (counts es c) ≡ length c
  unfolding counts
  length_counts [] c = refl
  length_counts (emission d x ∷ es) c = length_counts es (set c d (get_or c d 0 + inc x)) ∙ length-set c d (get_or c d 0 + inc x)

  -- a level's counter, after counting
  pub counts_at : (es : List (Emission A)) (c : List ℕ) (d : ℕ) → d < length c → get_or (counts es c) d 0 ≡ get_or c d 0 + sum_of (level_values d es)
  unfolding counts sum_of
  counts_at [] c d h = omega (arith, ap sum_of (level_none {A = A} d))
  counts_at (emission e x ∷ es) c d h = go (counts_at es (set c e (get_or c e 0 + inc x)) d (omega (arith, length-set c e (get_or c e 0 + inc x)))) (eqb d e) refl
    where
      go : get_or (counts es (set c e (get_or c e 0 + inc x))) d 0 ≡ get_or (set c e (get_or c e 0 + inc x)) d 0 + sum_of (level_values d es) → (b : Bool) → eqb d e ≡ b
          → get_or (counts es (set c e (get_or c e 0 + inc x))) d 0 ≡ get_or c d 0 + sum_of (level_values d (emission e x ∷ es))
      go ih true q =
          let r : d ≡ e = eqb-true d e q in
          let u : get_or (set c e (get_or c e 0 + inc x)) d 0 ≡ get_or c d 0 + inc x = rw r (get_or-set_same c e (get_or c e 0 + inc x) 0 (omega arith)) in
          let v : sum_of (level_values d (emission e x ∷ es)) ≡ inc x + sum_of (level_values d es) = rw r (ap sum_of (level_here e x es)) in
          omega (arith, ih, u, v)
      go ih false q =
          let r : d ≡ e → ⊥ = eqb-false d e q in
          omega (arith, ih, get_or-set_other c e d (get_or c e 0 + inc x) 0 r, ap sum_of (level_else d e x es r))

  -- the levels below d, one behind the other
  pub offset_sum : (es : List (Emission A)) (d : ℕ) → sum_of (values_below es d) ≡ level_offset es d
  unfolding level_offset values_below sum_of
  offset_sum es zero = refl
  offset_sum es (suc d) = sum_append (values_below es d) (level_values d es) ∙ ap (λ (n : ℕ). n + sum_of (level_values d es)) (offset_sum es d)

  -- a later level has no smaller offset, and lies behind the level
  pub offset_grows : (es : List (Emission A)) (d e : ℕ) → d < e → level_offset es d + sum_of (level_values d es) ≤ level_offset es e
  unfolding level_offset
  offset_grows es d zero h = absurd (omega arith)
  offset_grows es d (suc e) h = go (eqb d e) refl (λ l. offset_grows es d e l)
    where
      go : (b : Bool) → eqb d e ≡ b → (d < e → level_offset es d + sum_of (level_values d es) ≤ level_offset es e) → level_offset es d + sum_of (level_values d es) ≤ level_offset es e + sum_of (level_values e es)
      go true q f = let r : d ≡ e = eqb-true d e q in rw r (omega arith)
      go false q f = let r : d ≡ e → ⊥ = eqb-false d e q in omega (arith, f (less r))
        where
          less : (d ≡ e → ⊥) → d < e
          less r = omega arith

-- ---- the offsets from the counters

-- the sum of the counters of the levels from lo to below d
unfoldable pub sums : List ℕ → ℕ → ℕ → ℕ
sums c lo zero = 0
sums c lo (suc d) = sums c lo d + cond (leb lo d) (get_or c d 0) 0

-- one more level
pub sums_more : (c : List ℕ) (lo d : ℕ) → sums c lo (suc d) ≡ sums c lo d + cond (leb lo d) (get_or c d 0) 0
unfolding sums
sums_more c lo d = refl

-- no level
pub sums_none : (c : List ℕ) (lo : ℕ) → sums c lo 0 ≡ 0
unfolding sums
sums_none c lo = refl

-- The offsets of the levels from lo to below hi, by counters of all levels.
pub offset_sums : {A : Type 0} (inc : A → ℕ) (es : List (Emission A)) (c : List ℕ) (lo hi : ℕ) → ((d : ℕ) → d < lo → level_values d es ≡ [])
    → ((d : ℕ) → lo ≤ d → d < hi → get_or c d 0 ≡ sum_of inc (level_values d es)) → (d : ℕ) → d ≤ hi → level_offset inc es d ≡ sums c lo d
unfolding level_offset sums sum_of
offset_sums inc es c lo hi low mid zero h = refl
offset_sums inc es c lo hi low mid (suc d) h = ap₂ ◌+◌ (offset_sums inc es c lo hi low mid d (omega arith)) (go (leb lo d) refl)
  where
    go : (b : Bool) → leb lo d ≡ b → sum_of inc (level_values d es) ≡ cond b (get_or c d 0) 0
    go true e = sym (mid d (leb-true lo d e) (omega arith))
    go false e = ap (sum_of inc) (low d (leb-false lo d e))
