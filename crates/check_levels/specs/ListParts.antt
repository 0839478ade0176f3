-- Parts of a list: the members from one position to another, and a total over them.
use Rattle.std.specs.Prelude.{ℕ, zero, suc, ◌+◌, ◌≡◌, List, [], ◌∷◌, take, drop}
use Rattle.std.proofs.Common.{ap, ap₂, ◌∙◌, arith, take-take}
use Rattle.std.proofs.Math.Seq.{take-nil}
use Rattle.spec.specs.Nodes.{total}
use Rattle.theory.proofs.Levels.{total_split}

-- a part of a part
pub drop_take : {A : Type 0} (i w : ℕ) (xs : List A) → drop i (take (i + w) xs) ≡ take w (drop i xs)
drop_take zero w xs = let e : 0 + w ≡ w = omega arith in ap (λ (n : ℕ). take n xs) e
drop_take {A} (suc i) w [] = let e : suc i + w ≡ suc (i + w) = omega arith in rw (e, take-nil {A = A} w)
drop_take (suc i) w (x ∷ xs) = let e : suc i + w ≡ suc (i + w) = omega arith in rw e (drop_take i w xs)

-- a total up to a position, in two parts
pub total_part : {A : Type 0} (f : A → ℕ) (xs : List A) (i w : ℕ) → total f (take (i + w) xs) ≡ total f (take i xs) + total f (take w (drop i xs))
total_part f xs i w = total_split f i (take (i + w) xs) ∙ ap₂ ◌+◌ (ap (total f) (take-take i (i + w) xs (omega arith))) (ap (total f) (drop_take i w xs))
