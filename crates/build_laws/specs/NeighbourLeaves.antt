-- The leaves of an ascending key list, each from its key and two neighbours: their cut keys, kinds and lengths, and that each one follows the one before. Used by KeyEntries.
use Rattle.std.specs.Prelude.{ℕ, zero, suc, ◌<◌, ◌≤◌, max, ◌≡◌, refl, Bool, true, false, cond, List, [], ◌∷◌, length, take, replicate, eqb}
use Rattle.std.proofs.Common.{sym, ap, ◌∙◌, true≢false, inl, inr, ⊎_elim, arith, take_all, length-take-le, ne_eqb, eqb-true, eq-eqb}
use Rattle.std.proofs.Math.Dec.{eqb-zero-suc, eqb-suc-suc}
use Rattle.std.proofs.lemmas.Bool.{eqb-false}
use Rattle.spec.specs.Bytes.{Bytes, shared}
use Rattle.spec.specs.Keys.{below}
use Rattle.spec.specs.Leaves.{Leaf, leaves, suffix_bits}
use Rattle.theory.specs.Terms.{Ascending}
use Rattle.theory.proofs.Order.{shared_comm, below_cons, shared_eq, shared_ne, above_short, shared_le}
use Rattle.build_laws.specs.SlotWidths.{width_of}
use Rattle.build_laws.specs.LevelEntries.{Follows, AllFollow, NodeLeaf}
use Rattle.build_laws.specs.TrieEntries.{Rooted}
use Rattle.theory.proofs.Neighbours.{next_shared, neighbour_leaf, neighbour_leaves, next_shared_le, Nonempty}
use Rattle.theory.proofs.NeighbourLeaves.{leaves_by_neighbours}
use Rattle.build_laws.specs.declared.SlotBits.{SlotBits}

-- how long the cut key of a key of n bytes is that shares p bytes with the key before and q with the next
unfoldable pub cut_length : ℕ → ℕ → ℕ → ℕ
cut_length p q n = cond (eqb q n) n (suc (max p q))

-- of an exact leaf
pub cut_exact : (p q n : ℕ) → q ≡ n → cut_length p q n ≡ n
unfolding cut_length
cut_exact p q n e = rw (eq-eqb q n e)

-- of an open leaf
pub cut_open : (p q n : ℕ) → (q ≡ n → ⊥) → cut_length p q n ≡ suc (max p q)
unfolding cut_length
cut_open p q n e = rw (ne_eqb q n e)

-- a cut key is no longer than its key
pub cut_le : (p q n : ℕ) → p < n → q ≤ n → cut_length p q n ≤ n
cut_le p q n h l = go (eqb q n) refl
  where
    go : (b : Bool) → eqb q n ≡ b → cut_length p q n ≤ n
    go true e = omega (arith, cut_exact p q n (eqb-true q n e))
    go false e = let z : q ≡ n → ⊥ = eqb-false q n e in strict z (cut_open p q n z)
      where
        strict : (q ≡ n → ⊥) → cut_length p q n ≡ suc (max p q) → cut_length p q n ≤ n
        strict z f = omega arith

-- how many bytes of its key a cut key takes: an exact leaf's has no limit
unfoldable pub taken : ℕ → ℕ → ℕ → ℕ
taken p q n = cond (eqb q n) (suc n) (suc (max p q))

-- the cut key
pub neighbour_cut : (w : SlotBits) (p q : ℕ) (k : Bytes) → (neighbour_leaf w.hash_width w.real_width p q k).cut ≡ take (taken p q (length k)) k
unfolding neighbour_leaf taken
neighbour_cut w p q k = go (eqb q (length k))
  where
    go : (b : Bool) → (cond {A = Leaf} b (record { cut = k; exact = true; suffix = replicate (width_of w) false }) (record { cut = take (suc (max p q)) k; exact = false; suffix = suffix_bits w.hash_width w.real_width (suc (max p q)) k })).cut
        ≡ take (cond b (suc (length k)) (suc (max p q))) k
    go true = sym (take_all (suc (length k)) k (omega arith))
    go false = refl

-- the kind
pub neighbour_exact : (w : SlotBits) (p q : ℕ) (k : Bytes) → (neighbour_leaf w.hash_width w.real_width p q k).exact ≡ eqb q (length k)
unfolding neighbour_leaf
neighbour_exact w p q k = go (eqb q (length k))
  where
    go : (b : Bool) → (cond {A = Leaf} b (record { cut = k; exact = true; suffix = replicate (width_of w) false }) (record { cut = take (suc (max p q)) k; exact = false; suffix = suffix_bits w.hash_width w.real_width (suc (max p q)) k })).exact ≡ b
    go true = refl
    go false = refl

taken_before : (p q n : ℕ) → p < n → p < taken p q n
unfolding taken
taken_before p q n h = go (eqb q n)
  where
    go : (b : Bool) → p < cond b (suc n) (suc (max p q))
    go true = omega arith
    go false = omega arith

taken_behind : (p q n : ℕ) → q ≤ n → q < taken p q n
unfolding taken
taken_behind p q n h = go (eqb q n)
  where
    go : (b : Bool) → q < cond b (suc n) (suc (max p q))
    go true = omega arith
    go false = omega arith

cuts_follow : (e : Bool) (a b : Bytes) (u v : ℕ) → below a b ≡ true → shared a b < u → shared a b < v → e ≡ eqb (shared a b) (length a) → Follows e (take u a) (take v b)
unfolding below shared
cuts_follow e [] [] u v h p q f = absurd (true≢false (sym h))
cuts_follow e [] (y ∷ b) u zero h p q f = absurd (omega arith)
cuts_follow e [] (y ∷ b) zero (suc v) h p q f = f
cuts_follow e [] (y ∷ b) (suc u) (suc v) h p q f = f
cuts_follow e (x ∷ a) [] u v h p q f = absurd (true≢false (sym h))
cuts_follow e (x ∷ a) (y ∷ b) zero v h p q f = absurd (omega arith)
cuts_follow e (x ∷ a) (y ∷ b) (suc u) zero h p q f = absurd (omega arith)
cuts_follow e (x ∷ a) (y ∷ b) (suc u) (suc v) h p q f = ⊎_elim (λ w. inl (ne_eqb x y (λ z. omega arith), f ∙ ap (λ (s : ℕ). eqb s (suc (length a))) (shared_ne x y a b (λ z. omega arith)) ∙ eqb-zero-suc (length a)))
    (λ w. inr (w.0, cuts_follow e a b u v w.1 (omega (arith, shared_eq x y a b w.0)) (omega (arith, shared_eq x y a b w.0)) (f ∙ ap (λ (s : ℕ). eqb s (suc (length a))) (shared_eq x y a b w.0) ∙ eqb-suc-suc (shared a b) (length a)))) (below_cons x y a b h)

shared_take : (a b : Bytes) (u v : ℕ) → shared a b < u → shared a b < v → shared (take u a) (take v b) ≡ shared a b
unfolding shared
shared_take [] b zero v p q = refl
shared_take [] b (suc u) v p q = refl
shared_take (x ∷ a) [] zero v p q = refl
shared_take (x ∷ a) [] (suc u) zero p q = refl
shared_take (x ∷ a) [] (suc u) (suc v) p q = refl
shared_take (x ∷ a) (y ∷ b) zero v p q = absurd (omega arith)
shared_take (x ∷ a) (y ∷ b) (suc u) zero p q = absurd (omega arith)
shared_take (x ∷ a) (y ∷ b) (suc u) (suc v) p q = go (eqb x y) p q (λ h k. shared_take a b u v h k)
  where
    go : (e : Bool) → cond e (suc (shared a b)) 0 < suc u → cond e (suc (shared a b)) 0 < suc v → (shared a b < u → shared a b < v → shared (take u a) (take v b) ≡ shared a b)
        → cond e (suc (shared (take u a) (take v b))) 0 ≡ cond e (suc (shared a b)) 0
    go true p q ih = ap suc (ih (omega arith) (omega arith))
    go false p q ih = refl

-- a key and its next: p and q shared before and behind the key, r behind the next
module _ (w : SlotBits) (p r : ℕ) (k m : Bytes) (h : below k m ≡ true) (l : p < length k) (s : r ≤ length m) where
  neighbours_follow : Follows (neighbour_leaf w.hash_width w.real_width p (shared k m) k).exact (neighbour_leaf w.hash_width w.real_width p (shared k m) k).cut (neighbour_leaf w.hash_width w.real_width (shared k m) r m).cut
  neighbours_follow = rw (neighbour_cut w p (shared k m) k, neighbour_cut w (shared k m) r m)
      (cuts_follow _ k m (taken p (shared k m) (length k)) (taken (shared k m) r (length m)) h
      (taken_behind p (shared k m) (length k) (shared_le k m)) (taken_before (shared k m) r (length m) (omega (arith, above_short k m h, shared_comm k m))) (neighbour_exact w p (shared k m) k))

  -- the cut keys of neighbours share what the keys share
  pub neighbours_shared : shared (neighbour_leaf w.hash_width w.real_width p (shared k m) k).cut (neighbour_leaf w.hash_width w.real_width (shared k m) r m).cut ≡ shared k m
  neighbours_shared = rw (neighbour_cut w p (shared k m) k, neighbour_cut w (shared k m) r m)
      (shared_take k m (taken p (shared k m) (length k)) (taken (shared k m) r (length m))
      (taken_behind p (shared k m) (length k) (shared_le k m)) (taken_before (shared k m) r (length m) (omega (arith, above_short k m h, shared_comm k m))))

all_neighbours_follow : (w : SlotBits) (p : ℕ) (k : Bytes) (ks : List Bytes) → p < length k → Ascending (k ∷ ks) → AllFollow (neighbour_leaves w.hash_width w.real_width p (k ∷ ks))
unfolding neighbour_leaves next_shared
all_neighbours_follow w p k [] l a = (neighbour_exact w p 0 k ∙ ne_eqb 0 (length k) (λ z. omega arith), tt)
all_neighbours_follow w p k (m ∷ ms) l a = (neighbours_follow w p (next_shared m ms) k m a.0.0 l (next_shared_le m ms), all_neighbours_follow w (shared k m) m ms (omega (arith, above_short k m a.0.0, shared_comm k m)) a.1)

-- ---- one key's entries
pub neighbour_length : (w : SlotBits) (p q : ℕ) (k : Bytes) → p < length k → q ≤ length k → length (neighbour_leaf w.hash_width w.real_width p q k).cut ≡ cut_length p q (length k)
unfolding neighbour_leaf cut_length
neighbour_length w p q k h l = go (eqb q (length k)) refl
  where
    go : (b : Bool) → eqb q (length k) ≡ b
        → length (cond {A = Leaf} b (record { cut = k; exact = true; suffix = replicate (width_of w) false }) (record { cut = take (suc (max p q)) k; exact = false; suffix = suffix_bits w.hash_width w.real_width (suc (max p q)) k })).cut
        ≡ cond b (length k) (suc (max p q))
    go true e = refl
    go false e =
        let z : q ≡ length k → ⊥ = eqb-false q (length k) e in
        length-take-le (suc (max p q)) k (less z)
      where
        less : (q ≡ length k → ⊥) → suc (max p q) ≤ length k
        less z = omega arith

-- a cut key has no more bytes than are taken
pub cut_taken : (p q n : ℕ) → cut_length p q n ≤ taken p q n
unfolding cut_length taken
cut_taken p q n = go (eqb q n)
  where
    go : (b : Bool) → cond b n (suc (max p q)) ≤ cond b (suc n) (suc (max p q))
    go true = omega arith
    go false = omega arith

-- an open leaf's suffix stands behind its cut key
pub neighbour_suffix : (w : SlotBits) (p q : ℕ) (k : Bytes) → (q ≡ length k → ⊥) → (neighbour_leaf w.hash_width w.real_width p q k).suffix ≡ suffix_bits w.hash_width w.real_width (cut_length p q (length k)) k
unfolding neighbour_leaf cut_length
neighbour_suffix w p q k e = rw (ne_eqb q (length k) e)

-- an exact leaf's slot is zero
pub neighbour_slot : (w : SlotBits) (p q : ℕ) (k : Bytes) → q ≡ length k → (neighbour_leaf w.hash_width w.real_width p q k).suffix ≡ replicate (width_of w) false
unfolding neighbour_leaf
neighbour_slot w p q k e = rw (eq-eqb q (length k) e)

cut_some : (p q n : ℕ) → 0 < n → 0 ≡ cut_length p q n → ⊥
unfolding cut_length
cut_some p q n h e = go (eqb q n) e
  where
    go : (b : Bool) → 0 ≡ cond b n (suc (max p q)) → ⊥
    go true e = omega arith
    go false e = omega arith

rooted : (w : SlotBits) (ks : List Bytes) → Nonempty ks → Ascending ks → AllFollow (neighbour_leaves w.hash_width w.real_width 0 ks) × Rooted (neighbour_leaves w.hash_width w.real_width 0 ks)
unfolding neighbour_leaves
rooted w [] s a = (tt, tt)
rooted w (k ∷ ks) s a = (all_neighbours_follow w 0 k ks s.0 a, go (neighbour_leaf w.hash_width w.real_width 0 (next_shared k ks) k).cut (neighbour_length w 0 (next_shared k ks) k s.0 (next_shared_le k ks)))
  where
    go : (c : Bytes) → length c ≡ cut_length 0 (next_shared k ks) (length k) → NodeLeaf (neighbour_leaf w.hash_width w.real_width 0 (next_shared k ks) k).exact c
    go [] e = absurd (cut_some 0 (next_shared k ks) (length k) s.0 e)
    go (x ∷ c) e = tt

-- so are the leaves as document 01 has them
pub leaves_follow : (w : SlotBits) (ks : List Bytes) → Nonempty ks → Ascending ks → AllFollow (leaves w.hash_width w.real_width ks) × Rooted (leaves w.hash_width w.real_width ks)
leaves_follow w ks s a = let e = leaves_by_neighbours w.hash_width w.real_width ks s a in rw e (rooted w ks s a)
