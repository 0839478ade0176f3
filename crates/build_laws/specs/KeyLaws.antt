-- The numbers of a key by cases. Used by the small functions of `build_keys` and by the passes.
use Rattle.std.specs.Prelude.{ℕ, zero, suc, ◌+◌, ◌-◌, ◌≤◌, ◌<◌, max, ◌≡◌, refl, length, get_or, take, drop, leb, ltb, eqb}
use Rattle.std.proofs.Common.{sym, ◌∙◌, arith, length-drop, get_or-take, get_or-drop, length-take-le, lt-ltb, le-ltb, eq-eqb, ne_eqb, le-leb}
use Rattle.std.proofs.lemmas.Bool.{lt-leb}
use Rattle.spec.specs.Bytes.{Bytes, shared}
use Rattle.bits.specs.Bits.{key}
use Rattle.image.specs.Records.{tail_part}
use Rattle.build_laws.specs.LevelEntries.{pred}
use Rattle.build_laws.specs.PassEmissions.{leaf_level}
use Rattle.build_laws.specs.KeyRecords.{shared_behind}
use Rattle.build_laws.specs.Passes.{key_exact}

-- one less than a number that is not 0
pub pred_less : (p : ℕ) → (p ≡ 0 → ⊥) → p - 1 ≡ pred p
pred_less zero h = absurd (h refl)
pred_less (suc p) h = omega arith

-- one less, 0 for 0
pub pred_sub : (p : ℕ) → pred p ≡ p - 1
pred_sub zero = refl
pred_sub (suc p) = omega arith

-- the leaf's level of an exact leaf, and of an open one
pub level_exact : (p q n : ℕ) → q ≡ n → n ≡ leaf_level p q n
unfolding leaf_level
level_exact p q n e = rw (eq-eqb q n e)

pub level_open : (p q n : ℕ) → (q ≡ n → ⊥) → max p q ≡ leaf_level p q n
unfolding leaf_level
level_open p q n e = rw (ne_eqb q n e)

-- no record behind
pub behind_none : (s : Bytes) (a n : ℕ) → length s ≤ a + n → 0 ≡ shared_behind s a n
unfolding shared_behind
behind_none s a n h = rw (le-ltb (a + n) (length s) h)

-- a record behind
pub behind_some : (s : Bytes) (a n m r : ℕ) → a + n < length s → m ≡ get_or s (a + n + 2) 0
    → r ≡ shared (take n (take (length s - a) (drop a s))) (take m (take (length s - (a + n + 3)) (drop (a + n + 3) s))) → r ≡ shared_behind s a n
unfolding shared_behind
behind_some s a n m r h e f = f ∙ rw (tail_part s a, tail_part s (a + n + 3), e, lt-ltb (a + n) (length s) h)

-- a byte of a key
pub key_byte : (s : Bytes) (a n d : ℕ) → d < n → get_or s (a + d) 0 ≡ get_or (key s a n) d 0
key_byte s a n d h = sym (get_or-take n (drop a s) d 0 h ∙ get_or-drop a s d 0)

-- an exact leaf below lo, or from hi on, and no exact leaf
pub exact_within : (q n lo hi : ℕ) → q ≡ n → lo ≤ n → ltb n hi ≡ key_exact q n lo hi
exact_within q n lo hi e h = rw (eq-eqb q n e, le-leb lo n h)

pub exact_below : (q n lo hi : ℕ) → q ≡ n → n < lo → leb lo n ≡ key_exact q n lo hi
exact_below q n lo hi e h = rw (eq-eqb q n e, lt-leb lo n h)

pub exact_not : (q n lo hi : ℕ) → (q ≡ n → ⊥) → eqb q n ≡ key_exact q n lo hi
exact_not q n lo hi e = rw (ne_eqb q n e)

-- how long a key in the list is
pub key_length : (s : Bytes) (a n : ℕ) → a + n ≤ length s → length (key s a n) ≡ n
key_length s a n h = length-take-le n (drop a s) (omega (arith, length-drop a s))
