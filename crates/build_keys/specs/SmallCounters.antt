-- Counters of a pass stay small, and a function of the emitted values needs no more room.
use Rattle.std.specs.Prelude.{ℕ, suc, ◌+◌, ◌*◌, ◌≤◌, ◌≡◌, refl, Bool, true, false, cond, ◌&&◌, List, [], ◌∷◌, length, get_or, set, leb, ltb, eqb}
use Rattle.std.proofs.Common.{ap, arith, length-append, leb-true, leb-false, ltb-true, ltb-false}
use Rattle.spec.specs.Bytes.{Bytes}
use Rattle.build_laws.specs.LevelEntries.{pred}
use Rattle.theory.proofs.Neighbours.{next_shared}
use Rattle.build_laws.specs.NeighbourLeaves.{cut_length}
use Rattle.build_laws.specs.Emissions.{Emission, emission, level_values, map_emissions, key_emissions, emissions, level_append, level_none, key_level, key_low, key_high}
use Rattle.build_laws.specs.BitPass.{Room}

-- ---- counters stay small

one_or_none : {A : Type 0} (b : Bool) (x : A) → length (cond b (x ∷ []) []) ≤ 1
one_or_none true x = omega arith
one_or_none false x = omega arith

-- a key has at most two emissions on a level
key_few : {A : Type 0} (lo hi : ℕ) (v : ℕ → A) (t : A) (p q n d : ℕ) → length (level_values d (key_emissions lo hi v t p q n)) ≤ 2
key_few {A} lo hi v t p q n d = go (leb lo d) refl (ltb d hi) refl
  where
    none : length {A = A} [] ≤ 2
    none = omega arith

    go : (a : Bool) → leb lo d ≡ a → (b : Bool) → ltb d hi ≡ b → length (level_values d (key_emissions lo hi v t p q n)) ≤ 2
    go true x true y =
        omega (
          arith,
          ap length (key_level lo hi v t p q n d (leb-true lo d x) (ltb-true d hi y)),
          length-append (cond (leb p d && ltb d (cut_length p q n)) (v d ∷ []) []) (cond (eqb q n && eqb d n) (t ∷ []) []),
          one_or_none (leb p d && ltb d (cut_length p q n)) (v d),
          one_or_none (eqb q n && eqb d n) t,
        )
    go true x false y = omega (arith, ap length (key_high lo hi v t p q n d (ltb-false d hi y)), none)
    go false x b y = omega (arith, ap length (key_low lo hi v t p q n d (leb-false lo d x)), none)

-- so a list has at most two a key
pub keys_few : {A : Type 0} (lo hi : ℕ) (F : ℕ → ℕ → Bytes → ℕ → A) (t : A) (p : ℕ) (ks : List Bytes) (d : ℕ) → length (level_values d (emissions lo hi F t p ks)) ≤ 2 * length ks
unfolding emissions
keys_few {A} lo hi F t p [] d = omega (arith, ap length (level_none {A = A} d), none)
  where
    none : length {A = A} [] ≤ 0
    none = omega arith
keys_few lo hi F t p (k ∷ ks) d =
    let q : ℕ = next_shared k ks in
    omega (
      arith,
      ap length (level_append d (key_emissions lo hi (F p q k) t (pred p) q (length k)) (emissions lo hi F t (suc q) ks)),
      length-append (level_values d (key_emissions lo hi (F p q k) t (pred p) q (length k))) (level_values d (emissions lo hi F t (suc q) ks)),
      key_few lo hi (F p q k) t (pred p) q (length k) d,
      keys_few lo hi F t (suc q) ks d,
    )

-- ---- a function of the emitted values

-- room for the values is room for what they come from
pub room_map : {A B : Type 0} (f : A → B) (inc : B → ℕ) (ones-at : ℕ → B → List ℕ) (n top : ℕ) (es : List (Emission A)) (c : List ℕ) → Room inc ones-at n top (map_emissions f es) c
    → Room (λ x. inc (f x)) (λ c x. ones-at c (f x)) n top es c
unfolding map_emissions
room_map f inc ones-at n top [] c r = tt
room_map f inc ones-at n top (emission d x ∷ es) c r = (r.0, r.1, r.2, room_map f inc ones-at n top es (set c d (get_or c d 0 + inc (f x))) r.3)
