-- A leaf's witness is another leaf that shows why it is cut where it is. Ordered leaves with a witness each are a realizable leaf list, and each leaf of a realizable list that is not alone has one.
-- Used in both directions between realizable leaf lists and tries: WitnessedLevels and TrieGroups.
use Rattle.std.specs.Prelude.{suc, ◌<◌, ℕ, ◌≡◌, refl, false, true, Bool, cond, not, List, [], ◌∷◌, map, ◌⊎◌, length, replicate}
use Rattle.std.proofs.Common.{sym, ◌∙◌, ap, true≢false, inl, inr, ⊎_elim, arith}
use Rattle.std.proofs.lemmas.Bool.{not-true}
use Rattle.spec.specs.Bytes.{equal, begins, shared, Bytes, any, filter, maximum}
use Rattle.spec.specs.Leaves.{Leaf, others}
use Rattle.spec.specs.Nodes.{Group}
use Rattle.theory.proofs.Order.{equal_self}
use Rattle.theory.proofs.LeafLists.{Before, less, step, inner, BeforeAll, Ordered, cut_key, Shortest, Realizable}
use Rattle.theory.specs.Terms.{In, here, there, All}
use Rattle.theory.proofs.Lists.{in_any, none_in, any_in, lt_eqb, eqb_self, gt_eqb, in_filter, maximum_bound, maximum_below, filter_in, maximum_at, map_in, in_map}

-- another leaf that shows why this one is cut where it is: an exact leaf begins it, an open leaf parts from it at its last byte
pub record Witness (g : Group) (l : Leaf) : Type 0 where
  pub other : Leaf
  pub mem : In other g
  pub apart : equal l.cut other.cut ≡ false
  pub grows : l.exact ≡ true → begins l.cut other.cut ≡ true
  pub parts : l.exact ≡ false → suc (shared l.cut other.cut) ≡ length l.cut

-- ---- from witnesses to a realizable list

open_shared : {c d : Bytes} → Before false c d → (shared c d < length c) × (begins c d ≡ false)
unfolding shared begins
open_shared (less {x} {y} h) = rw (lt_eqb x y h) (omega arith, refl)
open_shared (step {x} r) = let ih = open_shared r in rw (eqb_self x) (omega (arith, ih.0), ih.1)
open_shared (inner h) = absurd h

late_shared : {e : Bool} {c d : Bytes} → Before e d c → (shared c d < length c) × (begins c d ≡ false)
unfolding shared begins
late_shared (less {x} {y} h) = rw (gt_eqb x y h) (omega arith, refl)
late_shared (step {x} r) = let ih = late_shared r in rw (eqb_self x) (omega (arith, ih.0), ih.1)
late_shared (inner h) = (omega arith, refl)

-- A leaf before all of a list is before each member.
pub first_in : (l : Leaf) {m : Leaf} {ls : List Leaf} → BeforeAll l ls → In m ls → Before l.exact l.cut m.cut
first_in l f here = f.0
first_in l f (there i) = first_in l f.1 i

ordered_pair : {l m : Leaf} {ls : List Leaf} → Ordered ls → In l ls → In m ls
    → (l ≡ m) ⊎ (Before l.exact l.cut m.cut ⊎ Before m.exact m.cut l.cut)
ordered_pair o here here = inl refl
ordered_pair {l} {m} o here (there j) = inr (inl (first_in l o.0 j))
ordered_pair {l} {m} o (there i) here = inr (inr (first_in m o.0 i))
ordered_pair o (there i) (there j) = ordered_pair o.1 i j

any_none : {A : Type 0} (p q : A → Bool) (xs : List A) → ((o : A) → In o xs → p o ≡ true → q o ≡ false) → any q (filter p xs) ≡ false
unfolding any filter
any_none p q [] f = refl
any_none p q (x ∷ xs) f = go (p x) refl (any_none p q xs (λ o i h. f o (there i) h))
  where
    go : (c : Bool) → p x ≡ c → any q (filter p xs) ≡ false → any q (cond c (x ∷ filter p xs) (filter p xs)) ≡ false
    go true e h = rw (f x here e) h
    go false e h = h

open_other : {l : Leaf} {ls : List Leaf} → Ordered ls → In l ls → l.exact ≡ false → (d : Bytes) → In d (map cut_key ls) → not (equal l.cut d) ≡ true
    → (shared l.cut d < length l.cut) × (begins l.cut d ≡ false)
open_other {l} {ls} o i e d j h =
    let m = map_in cut_key ls j in
    rw m.2 (⊎_elim (λ q. absurd (true≢false (sym (equal_self l.cut) ∙ ap (equal l.cut) (ap cut_key q ∙ sym m.2) ∙ not-true _ h)))
    (λ q. ⊎_elim (λ b. open_shared (rw e at b)) (λ b. late_shared b) q) (ordered_pair o i m.1))

-- A leaf of an ordered list with a witness is cut as the list asks.
witness_shortest : {n : ℕ} (ls : List Leaf) (l : Leaf) → Ordered ls → In l ls → Witness ls l → (l.exact ≡ true → l.suffix ≡ replicate n false) → Shortest n ls l
unfolding others
witness_shortest ls l o i w b = record { kind = kind l.exact refl; size = size; blank = b }
  where
    cs : List Bytes
    cs = map cut_key ls

    p : Bytes → Bool
    p d = not (equal l.cut d)

    kind : (x : Bool) → l.exact ≡ x → any (begins l.cut) (filter (λ d. not (equal l.cut d)) cs) ≡ l.exact
    kind true e = rw e (in_any (begins l.cut) (in_filter (λ d. not (equal l.cut d)) (in_map cut_key w.mem) (rw w.apart refl)) (w.grows e))
    kind false e = rw e (any_none (λ d. not (equal l.cut d)) (begins l.cut) cs (λ d j h. (open_other o i e d j h).1))

    size : l.exact ≡ false → suc (maximum (map (shared l.cut) (filter (λ d. not (equal l.cut d)) cs))) ≡ length l.cut
    size e =
        let z = w.parts e in
        let lower = maximum_bound (λ d. not (equal l.cut d)) (shared l.cut) (in_map cut_key w.mem) (rw w.apart refl) in
        let upper = maximum_below (λ d. not (equal l.cut d)) (shared l.cut) (length l.cut) cs (omega arith) (λ d j h. (open_other o i e d j h).0) in
        omega arith

-- an exact leaf's slot is zero
abbrev pub BlankSlot : ℕ → Leaf → Type 0
BlankSlot n l = l.exact ≡ true → l.suffix ≡ replicate n false

-- Ordered leaves, each with a witness, and exact ones with zero slots, are a realizable list.
pub witnesses_realizable : (n : ℕ) (ls : List Leaf) → Ordered ls → All (Witness ls) ls → All (BlankSlot n) ls → Realizable n ls
witnesses_realizable n ls o w b = record { ordered = o; shortest = go ls (λ m i. i) w b }
  where
    go : (ms : List Leaf) → ((m : Leaf) → In m ms → In m ls) → All (Witness ls) ms → All (BlankSlot n) ms → All (Shortest n ls) ms
    go [] u w b = tt
    go (m ∷ ms) u w b = (witness_shortest ls m o (u m here) w.0 b.0, go ms (λ x i. u x (there i)) w.1 b.1)

-- ---- from a realizable list to witnesses

-- Two leaves in order have different cut keys.
before_apart : {e : Bool} {c d : Bytes} → Before e c d → (equal c d ≡ false) × (equal d c ≡ false)
unfolding equal
before_apart (inner h) = (refl, refl)
before_apart (less {x} {y} h) = rw (lt_eqb x y h, gt_eqb x y h) (refl, refl)
before_apart (step {x} r) = rw (eqb_self x) (before_apart r)

-- another leaf of the list, with a different cut key
record OtherLeaf (ls : Group) (l : Leaf) : Type 0 where
  leaf : Leaf
  mem : In leaf ls
  apart : equal l.cut leaf.cut ≡ false

other_leaf_in : (ls : Group) (l : Leaf) (d : Bytes) → In d (others (map cut_key ls) l.cut) → (m : Leaf) × In m ls × (m.cut ≡ d) × (equal l.cut m.cut ≡ false)
unfolding others
other_leaf_in ls l d i =
    let r = filter_in (λ o. not (equal l.cut o)) (map cut_key ls) i in
    let m = map_in cut_key ls r.1 in
    (m.0, m.1, sym m.2, rw (← m.2) (not-true _ r.0))

-- A leaf that is cut as the list asks has its witness, if there is another leaf.
shortest_witness : {n : ℕ} (ls : Group) (l : Leaf) → Shortest n ls l → OtherLeaf ls l → Witness ls l
unfolding others
shortest_witness ls l t p = go l.exact refl
  where
    of : (d : Bytes) → In d (others (map cut_key ls) l.cut) → (l.exact ≡ true → begins l.cut d ≡ true) → (l.exact ≡ false → suc (shared l.cut d) ≡ length l.cut) → Witness ls l
    of d i g q = let m = other_leaf_in ls l d i in record { other = m.0; mem = m.1; apart = m.3; grows = λ e. rw m.2 (g e); parts = λ e. rw m.2 (q e) }

    farthest : (xs : List Bytes) → In p.leaf.cut xs → (d : Bytes) × In d xs × (shared l.cut d ≡ maximum (map (shared l.cut) xs))
    farthest [] i = none_in i
    farthest (x ∷ xs) i = maximum_at (shared l.cut) x xs

    go : (b : Bool) → l.exact ≡ b → Witness ls l
    go true e = let r = any_in (begins l.cut) (others (map cut_key ls) l.cut) (t.kind ∙ e) in of r.0 r.1 (λ _. r.2) (λ f. absurd (true≢false (sym e ∙ f)))
    go false e =
        let r = farthest (others (map cut_key ls) l.cut) (in_filter (λ o. not (equal l.cut o)) (in_map cut_key p.mem) (rw p.apart refl)) in
        of r.0 r.1 (λ f. absurd (true≢false (sym f ∙ e))) (λ _. ap suc r.2 ∙ t.size e)

shortest_witnesses : (n : ℕ) (ls ms : Group) → ((m : Leaf) → In m ms → OtherLeaf ls m) → All (Shortest n ls) ms → All (Witness ls) ms
shortest_witnesses n ls [] u t = tt
shortest_witnesses n ls (m ∷ ms) u t = (shortest_witness ls m t.0 (u m here), shortest_witnesses n ls ms (λ k i. u k (there i)) t.1)

other_leaf : (l m : Leaf) (ls : Group) → Ordered (l ∷ m ∷ ls) → (k : Leaf) → In k (l ∷ m ∷ ls) → OtherLeaf (l ∷ m ∷ ls) k
other_leaf l m ls o k here = record { leaf = m; mem = there here; apart = (before_apart o.0.0).0 }
other_leaf l m ls o k (there i) = record { leaf = l; mem = here; apart = (before_apart (first_in l o.0 i)).1 }

-- Each leaf of a realizable list of two or more has its witness.
pub realizable_witnesses : {n : ℕ} (l m : Leaf) (ls : Group) → Realizable n (l ∷ m ∷ ls) → All (Witness (l ∷ m ∷ ls)) (l ∷ m ∷ ls)
realizable_witnesses {n} l m ls g = shortest_witnesses n (l ∷ m ∷ ls) (l ∷ m ∷ ls) (other_leaf l m ls g.ordered) g.shortest
