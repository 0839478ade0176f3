-- LV, of an image that passed all else up to number 15: its bytes against the first nodes of the levels, number by number.
use Rattle.std.specs.Prelude.{ℕ, zero, suc, ◌+◌, ◌<◌, ◌≤◌, ◌≡◌, Bool, drop, eqb}
use Rattle.std.proofs.Math.Path.{refl, sym, ap}
use Rattle.std.proofs.Common.{◌∙◌, arith, length-drop}
use Rattle.std.proofs.Math.Bool.{true, false}
use mathlib.Core.List.{List, [], ◌∷◌, ◌++◌, map}
use Rattle.std.proofs.Math.ListN.{length, length-append}
use Rattle.std.proofs.Math.Dec.{ltb}
use borrow.Author.Tests.{eqb-true, eqb-false, eq-eqb, ne_eqb, ltb-true, ltb-false, lt-ltb, le-ltb}
use Rattle.spec.specs.Bytes.{Bytes, equal, concat, filter, le32, from32}
use Rattle.spec.specs.Image.{first_nodes, level_starts}
use Rattle.spec.specs.Frame.{parts}
use Rattle.spec.specs.Nodes.{Node, nodes_of, levels_of, levels, total}
use Rattle.spec.specs.Trie.{nodes_valid}
use Rattle.spec.specs.Check.{starts_valid}
use Rattle.bits.proofs.ValueLaws.{Small}
use Rattle.image.specs.FrameOf.{frame_bodies, frame_named, frame_parts}
use Rattle.image.specs.declared.Frame.{Frame}
use Rattle.check_levels.specs.Levels.{node_count, branches_before}
use Rattle.check_slots.specs.Passed.{PassedTo15, bits_pass}
use Rattle.check_slots.specs.LevelStarts.{nodes_long, starts_are}
use Rattle.theory.proofs.Order.{equal_true}
use Rattle.theory.proofs.Frame.{from32_le32, le32_from32}
use Rattle.theory.proofs.LevelStarts.{starts_from}
use Rattle.theory.proofs.TrieTests.{nodes_valid_true}

-- ---- numbers one behind the other

-- the bytes of numbers, four each
abbrev pub numbers : List ℕ → Bytes
numbers xs = concat (map le32 xs)

le32_length : (n : ℕ) → length (le32 n) ≡ 4
unfolding le32
le32_length n = refl

-- two byte strings that are not the same
differ : (x y : Bytes) → (x ≡ y → ⊥) → equal x y ≡ false
differ x y h = go (equal x y) refl
  where
    go : (t : Bool) → equal x y ≡ t → t ≡ false
    go true e = absurd (h (equal_true x y e))
    go false e = refl

module _ (x : Bytes) (n : ℕ) (xs : List ℕ) where
  -- the bytes end before the number does
  pub numbers_short : length x < 4 → equal x (numbers (n ∷ xs)) ≡ false
  unfolding concat
  numbers_short h = differ x (le32 n ++ numbers xs) (λ e. omega (arith, ap length e, length-append (le32 n) (numbers xs), le32_length n))

  -- another number stands there
  pub numbers_other : n < 4294967296 → (from32 x ≡ n → ⊥) → equal x (numbers (n ∷ xs)) ≡ false
  unfolding concat
  numbers_other l h = differ x (le32 n ++ numbers xs) (λ e. h (ap from32 e ∙ from32_le32 n (numbers xs) l))

  -- the number stands there: what is behind it decides
  pub numbers_more : Small x → 4 ≤ length x → from32 x ≡ n → equal x (numbers (n ∷ xs)) ≡ equal (drop 4 x) (numbers xs)
  unfolding concat equal
  numbers_more s h e = go x s h e
    where
      same : (a b c d : ℕ) (r y : Bytes) → equal (a ∷ b ∷ c ∷ d ∷ r) (a ∷ b ∷ c ∷ d ∷ y) ≡ equal r y
      same a b c d r y = rw (eq-eqb a a refl, eq-eqb b b refl, eq-eqb c c refl, eq-eqb d d refl)

      go : (x : Bytes) → Small x → 4 ≤ length x → from32 x ≡ n → equal x (le32 n ++ numbers xs) ≡ equal (drop 4 x) (numbers xs)
      go [] s h e = absurd (omega arith)
      go (a ∷ []) s h e = absurd (omega arith)
      go (a ∷ b ∷ []) s h e = absurd (omega arith)
      go (a ∷ b ∷ c ∷ []) s h e = absurd (omega arith)
      go (a ∷ b ∷ c ∷ d ∷ r) s h e = rw (sym e) (rw (le32_from32 a b c d r (s 0) (s 1) (s 2) (s 3)) (same a b c d r (numbers xs)))

-- no number is left
pub numbers_none : (x : Bytes) → equal x (numbers []) ≡ eqb (length x) 0
unfolding concat equal
numbers_none [] = refl
numbers_none (b ∷ x) = sym (ne_eqb (suc (length x)) 0 (λ e. omega arith))

-- nothing is left behind an offset that is the end
pub rest_empty : (s : Bytes) (at : ℕ) → at ≤ length s → eqb (length (drop at s)) 0 ≡ eqb at (length s)
rest_empty s at h = go (eqb at (length s)) refl
  where
    go : (t : Bool) → eqb at (length s) ≡ t → eqb (length (drop at s)) 0 ≡ t
    go true e = eq-eqb (length (drop at s)) 0 (omega (arith, length-drop at s, eqb-true at (length s) e))
    go false e = ne_eqb (length (drop at s)) 0 (λ q. eqb-false at (length s) e (omega (arith, length-drop at s)))

-- ---- LV

-- the first nodes from node e on, at most k of them
abbrev pub starts_left : Bytes → Frame → ℕ → ℕ → List ℕ
starts_left s f k e = starts_from (branches_before s f) (node_count f) k e

-- one more level, or none
pub starts_more : (s : Bytes) (f : Frame) (k e : ℕ) → e < node_count f → starts_left s f (suc k) e ≡ e ∷ starts_left s f k (branches_before s f e + 1)
unfolding starts_from
starts_more s f k e h = rw (lt-ltb e (node_count f) h)

pub starts_none : (s : Bytes) (f : Frame) (k e : ℕ) → node_count f ≤ e → starts_left s f k e ≡ []
unfolding starts_from
starts_none s f zero e h = refl
starts_none s f (suc k) e h = rw (le-ltb e (node_count f) h)

module _ (s : Bytes) (f : Frame) (j : PassedTo15 s f) where
  -- no leaves, no nodes
  nodes_none : f.leaves ≡ 0 → nodes_of (frame_parts s f) ≡ []
  nodes_none h = go (nodes_of (frame_parts s f)) (bits_pass s f j).nodes
    where
      go : (ns : List Node) → nodes_valid f.dense.levels f.dense.nodes f.leaves ns ≡ true → ns ≡ []
      go [] v = refl
      go (r ∷ ns) v = absurd (omega (arith, (nodes_valid_true f.dense.levels f.dense.nodes f.leaves r ns v).some_leaf))

  no_starts : level_starts (map length (levels_of [])) ≡ []
  unfolding level_starts levels_of levels total filter first_nodes concat
  no_starts = refl

  -- LV is to hold the first nodes of the levels
  pub starts_whole : level_starts (map length (levels_of (nodes_of (frame_parts s f)))) ≡ numbers (starts_left s f 64 0)
  unfolding concat
  starts_whole = go (ltb 0 f.leaves) refl
    where
      go : (t : Bool) → ltb 0 f.leaves ≡ t → level_starts (map length (levels_of (nodes_of (frame_parts s f)))) ≡ numbers (starts_left s f 64 0)
      go true e = starts_are s f j (ltb-true 0 f.leaves e)
      go false e =
          let n = nodes_none (omega (arith, ltb-false 0 f.leaves e)) in
          let c : node_count f ≤ 0 = omega (arith, nodes_long s f j, ap length n) in
          ap (λ (ns : List Node). level_starts (map length (levels_of ns))) n ∙ no_starts ∙ sym (ap (λ (xs : List ℕ). concat (map le32 xs)) (starts_none s f 64 0 c))

  -- the test of LV, in the version that has it
  pub starts_test : f.version ≡ 2 → starts_valid (parts s (frame_named s f)) (frame_bodies s f) ≡ equal (drop f.lv s) (numbers (starts_left s f 64 0))
  unfolding starts_valid
  starts_test v = rw (j.frame.parts_are, v, starts_whole)

  -- without leaves there is no level, and LV is empty
  pub starts_empty : f.version ≡ 2 → f.leaves ≡ 0 → starts_valid (parts s (frame_named s f)) (frame_bodies s f) ≡ eqb f.lv (length s)
  starts_empty v h =
      let c : node_count f ≤ 0 = omega (arith, nodes_long s f j, ap length (nodes_none h)) in
      starts_test v ∙ ap (λ (xs : List ℕ). equal (drop f.lv s) (numbers xs)) (starts_none s f 64 0 c) ∙ numbers_none (drop f.lv s) ∙ rest_empty s f.lv j.frame.end

  -- no test in another
  pub starts_free : (f.version ≡ 2 → ⊥) → starts_valid (parts s (frame_named s f)) (frame_bodies s f) ≡ true
  unfolding starts_valid
  starts_free v = rw (j.frame.parts_are, ne_eqb f.version 2 v)
