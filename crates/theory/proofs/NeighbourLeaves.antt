-- The leaves of an ascending key list, from each key and its neighbours.
use Prim.Native.Nat.{ℕ, ◌<◌, ◌≤◌}
use Rattle.std.specs.Prelude.{◌≡◌, ◌⊎◌}
use Rattle.std.proofs.Math.Path.{refl}
use Rattle.std.proofs.Common.{ap, ap₂, inl, inr}
use Rattle.std.proofs.Math.Bool.{true}
use mathlib.Core.List.{List, [], ◌∷◌, map}
use Rattle.std.proofs.Math.Logic.{⊎_elim}
use native.Mathlib.Omega.{arith}
use Rattle.std.proofs.Math.ListN.{length}
use Rattle.spec.specs.Bytes.{Bytes, shared}
use Rattle.spec.specs.Keys.{below}
use Rattle.spec.specs.Leaves.{Leaf, leaf, leaves}
use Rattle.theory.specs.Terms.{In, here, there, Ascending}
use Rattle.theory.proofs.Order.{below_asym, below_lt_le, shared_comm, above_short}
use Rattle.theory.proofs.Neighbours.{Position, next_shared, neighbour_leaf, neighbour_leaves, Nonempty, far_valid, kind, shared_most}

leaf_by_neighbours : (ks : List Bytes) (k : Bytes) (ms : List Bytes) (p : ℕ) (w : Position ks k ms p) (h n : ℕ) → leaf h n ks k ≡ neighbour_leaf h n p (next_shared k ms) k
unfolding leaf neighbour_leaf
leaf_by_neighbours ks k ms p w h n = rw (kind ks k ms p w, shared_most ks k ms p w)

step : (ks : List Bytes) (k m : Bytes) (ms : List Bytes) (p : ℕ) → 0 < length m → Position ks k (m ∷ ms) p → Position ks m ms (shared k m)
step ks k m ms p z w = record {
  some = z;
  into = λ o i. w.into o (there i);
  seen = λ o i. ⊎_elim (λ j. kin o j) (λ s. inr (below_lt_le o k m s.0 (below_asym k m w.asc.0.0), omega (arith, far_valid o k m s.0 w.asc.0.0, shared_comm k m))) (w.seen o i);
  wit = inr (k, w.into k here, w.asc.0.0, shared_comm m k);
  short = omega (arith, above_short k m w.asc.0.0, shared_comm k m);
  asc = w.asc.1;
}
  where
    kin : (o : Bytes) → In o (k ∷ m ∷ ms) → In o (m ∷ ms) ⊎ ((below o m ≡ true) × (shared m o ≤ shared k m))
    kin o here = inr (w.asc.0.0, omega (arith, shared_comm k m))
    kin o (there i) = inl i

-- the position of the first key
position_first : (k : Bytes) (ks : List Bytes) → 0 < length k → Ascending (k ∷ ks) → Position (k ∷ ks) k ks 0
position_first k ks s a = record { some = s; into = λ o i. i; seen = λ o i. inl i; wit = inl refl; short = s; asc = a }

leaves_from : (h n : ℕ) (ks : List Bytes) (k : Bytes) (ms : List Bytes) (p : ℕ) → Nonempty (k ∷ ms) → Position ks k ms p → map (leaf h n ks) (k ∷ ms) ≡ neighbour_leaves h n p (k ∷ ms)
unfolding neighbour_leaves next_shared
leaves_from h n ks k [] p s w = ap (λ (l : Leaf). l ∷ []) (leaf_by_neighbours ks k [] p w h n)
leaves_from h n ks k (m ∷ ms) p s w = ap₂ ◌∷◌ (leaf_by_neighbours ks k (m ∷ ms) p w h n) (leaves_from h n ks m ms (shared k m) s.1 (step ks k m ms p s.1.0 w))

-- the leaves of an ascending list, from each key and its neighbours
pub leaves_by_neighbours : (h n : ℕ) (ks : List Bytes) → Nonempty ks → Ascending ks → leaves h n ks ≡ neighbour_leaves h n 0 ks
unfolding leaves neighbour_leaves
leaves_by_neighbours h n [] s a = refl
leaves_by_neighbours h n (k ∷ ks) s a = leaves_from h n (k ∷ ks) k ks 0 s (position_first k ks s.0 a)
