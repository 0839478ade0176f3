-- Cut keys of which one begins another: an open leaf's begins no other leaf's.
use Rattle.std.specs.Prelude.{◌≡◌, Bool, T, eqb}
use Rattle.std.proofs.Common.{sym, subst, ◌∙◌}
use Rattle.std.proofs.Math.Bool.{true, false, true≢false}
use mathlib.Core.List.{List, [], ◌∷◌}
use Rattle.std.proofs.Math.Logic.{⊎_elim}
use Rattle.spec.specs.Bytes.{Bytes, begins}
use Rattle.spec.specs.Leaves.{Leaf}
use Rattle.theory.specs.Terms.{In}
use Rattle.theory.proofs.Lists.{lt_eqb, gt_eqb, none_in, in_cons, all_in, and_both}
use Rattle.theory.proofs.LeafLists.{Before, inner, less, step, Ordered}

-- ---- cut keys of which one begins another

-- where a cut key begins one behind it, its leaf is exact
before_begun : {e : Bool} {c d : Bytes} → Before e c d → begins c d ≡ true → T e
unfolding begins
before_begun (inner h) q = h
before_begun (less {x} {y} {xs} {ys} h) q = absurd (true≢false (sym (and_both (eqb x y) (begins xs ys) q).0 ∙ lt_eqb x y h))
before_begun (step {x} {xs} {ys} b) q = before_begun b (and_both (eqb x x) (begins xs ys) q).1

-- no cut key begins one before it
before_not_begun : {e : Bool} {c d : Bytes} → Before e c d → begins d c ≡ true → ⊥
unfolding begins
before_not_begun (inner h) q = true≢false (sym q)
before_not_begun (less {x} {y} {xs} {ys} h) q = true≢false (sym (and_both (eqb y x) (begins ys xs) q).0 ∙ gt_eqb x y h)
before_not_begun (step {x} {xs} {ys} b) q = before_not_begun b (and_both (eqb x x) (begins ys xs) q).1

-- An open leaf's cut key begins no other leaf's.
pub open_alone : (ls : List Leaf) → Ordered ls → {l m : Leaf} → In l ls → In m ls → l.exact ≡ false → begins l.cut m.cut ≡ true → l ≡ m
open_alone [] w i j e b = none_in i
open_alone (x ∷ ls) w {l} {m} i j e b = ⊎_elim first (λ k. behind k (λ r. open_alone ls w.1 k r e b)) (in_cons i)
  where
    before : x ≡ l → In m ls → Before l.exact l.cut m.cut
    before p k = subst (λ (y : Leaf). Before y.exact y.cut m.cut) p (all_in (λ (y : Leaf). Before x.exact x.cut y.cut) w.0 k)

    first : x ≡ l → l ≡ m
    first p = ⊎_elim (λ q. sym p ∙ q) (λ k. absurd (rw e at (before_begun (before p k) b))) (in_cons j)

    behind : In l ls → (In m ls → l ≡ m) → l ≡ m
    behind k f = ⊎_elim (λ q. absurd (before_not_begun (all_in (λ (y : Leaf). Before x.exact x.cut y.cut) w.0 k) (rw (← q) at b))) f (in_cons j)
