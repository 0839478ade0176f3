-- What a walk over an image says at a place, and at the next, by the tests of its code.
use Rattle.std.specs.Prelude.{ℕ, zero, suc, ◌+◌, ◌≤◌, ◌<◌, ◌≡◌, refl, Bool, true, false, List, length, ltb}
use Rattle.std.proofs.Common.{sym, ◌∙◌, arith, add-one, lt-ltb, le-ltb, ltb-true, ltb-false, ne_eqb}
use Rattle.std.proofs.Math.Path.{ap}
use Rattle.std.proofs.Math.Option.{Option, none, some}
use Rattle.std.proofs.Math.ListN.{get_elem?}
use Rattle.spec.specs.Bytes.{Bytes}
use Rattle.spec.specs.Check.{verdict}
use Rattle.spec.specs.Leaves.{Leaf}
use Rattle.spec.specs.Nodes.{read_leaves}
use Rattle.spec.specs.Walk.{Stand, refused, leaf, done, stand_at, open_walk, next_place, next}
use Rattle.theory.proofs.AskLaws.{walk_is, walk_correct}

-- an image that the check refuses
pub check_refuses : (s : Bytes) (place n : ℕ) → verdict s ≡ n → 1 ≤ n → open_walk s place ≡ refused n
check_refuses s place n v h =
    walk_is s place n (read_leaves s) v refl
    ∙ ap {B = Stand} (λ (t : Bool). elim t [ false ↦ refused n | true ↦ elim (ltb (length (read_leaves s)) place) [ true ↦ refused 17 | false ↦ stand_at (read_leaves s) place ] ]) (ne_eqb n 0 (λ e. omega arith))

module _ (s : Bytes) (v : verdict s ≡ 0) where
  -- 17: a place past done
  pub place_refused : (place : ℕ) → length (read_leaves s) < place → open_walk s place ≡ refused 17
  place_refused = (walk_correct s (read_leaves s) v refl).beyond

  -- a leaf's place
  pub at_leaf : (place : ℕ) (l : Leaf) → place ≤ length (read_leaves s) → get_elem? (read_leaves s) place ≡ some l → open_walk s place ≡ leaf l
  unfolding stand_at
  at_leaf place l h e = (walk_correct s (read_leaves s) v refl).stands place h ∙ ap {B = Stand} (λ (o : Option Leaf). elim o [ none ↦ done | some l ↦ leaf l ]) e

  -- behind the last leaf
  pub at_done : (place : ℕ) → place ≡ length (read_leaves s) → open_walk s place ≡ done
  at_done place e = ap (open_walk s) e ∙ (walk_correct s (read_leaves s) v refl).ends.0

-- the place behind a leaf
pub next_leaf : (s : Bytes) (place : ℕ) → place < length (read_leaves s) → next_place s place ≡ place + 1
unfolding next_place
next_leaf s place h = ap {B = ℕ} (λ (t : Bool). elim t [ true ↦ suc place | false ↦ place ]) (lt-ltb place (length (read_leaves s)) h) ∙ sym (add-one place)

-- done stays, and so does a place past it
pub next_stays : (s : Bytes) (place : ℕ) → length (read_leaves s) ≤ place → next_place s place ≡ place
unfolding next_place
next_stays s place h = ap {B = ℕ} (λ (t : Bool). elim t [ true ↦ suc place | false ↦ place ]) (le-ltb place (length (read_leaves s)) h)

-- what the walk says at the next place
pub next_at : (s : Bytes) (place k : ℕ) → next_place s place ≡ k → open_walk s k ≡ next s place
unfolding next
next_at s place k e = ap (open_walk s) (sym e)

-- at a leaf's place or done a walk is not refused
not_refused : (ls : List Leaf) (place n : ℕ) → stand_at ls place ≡ refused n → ⊥
unfolding stand_at
not_refused ls place n e = by_leaf (get_elem? ls place) e
  where
    by_leaf : (o : Option Leaf) → elim o [ none ↦ done | some l ↦ leaf l ] ≡ refused n → ⊥
    by_leaf none e = let z : ◌≡◌ {A = ℕ} 0 1 = cc in omega arith
    by_leaf (some l) e = let z : ◌≡◌ {A = ℕ} 0 1 = cc in omega arith

-- a walk that is refused at the first place is refused with the check's number
pub refused_first : (s : Bytes) (n : ℕ) → open_walk s 0 ≡ refused n → (verdict s ≡ n) × (1 ≤ n)
refused_first s n e = by_check (verdict s) refl
  where
    by_check : (k : ℕ) → verdict s ≡ k → (verdict s ≡ n) × (1 ≤ n)
    by_check zero v = absurd (not_refused (read_leaves s) 0 n (sym ((walk_correct s (read_leaves s) v refl).stands 0 (omega arith)) ∙ e))
    by_check (suc k) v =
        let r = check_refuses s 0 (suc k) v (omega arith) in
        let same : suc k ≡ n = cc in
        (v ∙ same, omega arith)

-- a refusal stays
pub next_refused : (s : Bytes) (place n : ℕ) → open_walk s place ≡ refused n → open_walk s place ≡ next s place
next_refused s place n e = by_check (verdict s) refl
  where
    by_place : verdict s ≡ 0 → (t : Bool) → ltb (length (read_leaves s)) place ≡ t → open_walk s place ≡ next s place
    by_place v true f = next_at s place place (next_stays s place (omega (arith, ltb-true (length (read_leaves s)) place f)))
    by_place v false f = absurd (not_refused (read_leaves s) place n (sym ((walk_correct s (read_leaves s) v refl).stands place (ltb-false (length (read_leaves s)) place f)) ∙ e))

    by_check : (k : ℕ) → verdict s ≡ k → open_walk s place ≡ next s place
    by_check zero v = by_place v (ltb (length (read_leaves s)) place) refl
    by_check (suc k) v = check_refuses s place (suc k) v (omega arith) ∙ sym (check_refuses s (next_place s place) (suc k) v (omega arith)) ∙ next_at s place (next_place s place) refl
