-- The seek over a leaf list, and the key lists that have these leaves: none exactly when no such list holds a key at or after the start,
-- else the smallest such key with its place in every list that holds it. DemandsMet carries this over to images.
use Prim.Native.Nat.{ℕ, suc, ◌+◌, ◌<◌}
use Rattle.std.specs.Prelude.{◌≡◌, Bool, ◌||◌, ◌↔◌, get_or}
use Rattle.std.proofs.Math.Path.{refl}
use Rattle.std.proofs.Common.{sym, ◌∙◌, ap, true≢false}
use Rattle.std.proofs.Math.Bool.{cond, true, false, or-true}
use mathlib.Core.List.{List, [], ◌∷◌}
use Rattle.std.proofs.Math.Logic.{⊎_elim}
use native.Mathlib.Omega.{arith}
use Rattle.std.proofs.Math.ListN.{length}
use Rattle.spec.specs.Bytes.{Bytes, any, bit}
use Rattle.spec.specs.Keys.{below}
use Rattle.spec.specs.Leaves.{Leaf, lowest, highest, possible}
use Rattle.spec.specs.Questions.{seek_from, greater, Sought, none, found, meets, seek}
use Rattle.theory.specs.Terms.{In, here, there, Key, Keys, Bound}
use Rattle.theory.proofs.Lists.{none_in, in_cons, all_in}
use Rattle.theory.proofs.Order.{below_asym, below_irrefl, below_le_lt}
use Rattle.theory.proofs.LeafLists.{PossibleKey, PossibleKeys, done, also, Ordered, RealSized, AllRealSized, Realizable, possible_key_below}
use Rattle.theory.proofs.Intervals.{lowest_possible, lowest_key, possible_interval_exactly}
use Rattle.theory.proofs.Choices.{split_possible, possible_split, has_leaves_possible, HasLeaves}
use Rattle.theory.proofs.RangeLaws.{point_possible, point_key, SomeHolds, chosen_in_range}

-- what a seek's result says of the keys of a list
abbrev SeekSays : Bytes → List Bytes → Sought → Type 0
SeekSays start ks none = (k : Bytes) → In k ks → below k start ≡ true
SeekSays start ks (found j r) = (below r start ≡ false) × ((k : Bytes) → In k ks → below k start ≡ false → below k r ≡ false)

module _ (start : Bytes) where
  -- a possible key is from the lowest to the highest
  between_ends : {n : ℕ} (l : Leaf) (k : Bytes) → RealSized n l → Key k → PossibleKey 0 n l k → (below (highest l) k ≡ false) × (below k (lowest l) ≡ false)
  between_ends l k o q p = let b = (possible_interval_exactly l o k q.bytes).0 (split_possible l k o.slot q.fits p) in (b.2, b.1)

  -- the greater of the start and a key is not below the start
  greater_not_below : (low : Bytes) → below (greater start low) start ≡ false
  unfolding greater
  greater_not_below low = go (below start low) refl
    where
      go : (b : Bool) → below start low ≡ b → below (cond b low start) start ≡ false
      go true e = below_asym start low e
      go false e = below_irrefl start

  -- and at most every key that is below neither
  greater_least : (low k : Bytes) → below k low ≡ false → below k start ≡ false → below k (greater start low) ≡ false
  unfolding greater
  greater_least low k a b = go (below start low)
    where
      go : (c : Bool) → below k (cond c low start) ≡ false
      go true = a
      go false = b

  -- of every list that has the leaves
  seek_least : {n : ℕ} (i : ℕ) {ls : List Leaf} {ks : List Bytes} → AllRealSized n ls → Keys ks → Ordered ls → PossibleKeys 0 n ls ks → SeekSays start ks (seek_from i ls start)
  unfolding seek_from
  seek_least i o a w done = λ k q. none_in q
  seek_least {n} i o a w (also {l = l} {k = k} {ls = ls} {ks = ks} p ps) =
      go (below (highest l) start) refl (seek_from (suc i) ls start) (seek_least (suc i) o.1 a.1 w.1 ps)
    where
      hk : (below (highest l) k ≡ false) × (below k (lowest l) ≡ false)
      hk = between_ends l k o.0 a.0 p

      low : PossibleKey 0 n l (lowest l)
      low = possible_split l (lowest l) o.0.slot (lowest_possible l o.0)

      past : (b : Sought) → below (highest l) start ≡ true → SeekSays start ks b → SeekSays start (k ∷ ks) b
      past none e t = rest
        where
          rest : (m : Bytes) → In m (k ∷ ks) → below m start ≡ true
          rest m here = below_le_lt k (highest l) start hk.0 e
          rest m (there j) = t m j
      past (found j r) e t = (t.0, rest)
        where
          rest : (m : Bytes) → In m (k ∷ ks) → below m start ≡ false → below m r ≡ false
          rest m here h = absurd (true≢false (sym (below_le_lt k (highest l) start hk.0 e) ∙ h))
          rest m (there q) h = t.1 m q h

      least : (m : Bytes) → In m (k ∷ ks) → below m start ≡ false → below m (greater start (lowest l)) ≡ false
      least m here h = greater_least (lowest l) k hk.1 h
      least m (there q) h = greater_least (lowest l) m (below_asym (lowest l) m (all_in (λ o. below (lowest l) o ≡ true) (possible_key_below l (lowest l) low w.0 ps) q)) h

      go : (b : Bool) → below (highest l) start ≡ b → (r : Sought) → SeekSays start ks r → SeekSays start (k ∷ ks) (cond b r (found i (greater start (lowest l))))
      go true e r t = past r e t
      go false e r t = (greater_not_below (lowest l), least)

-- ---- points

-- ---- seeks

none_found : {j : ℕ} {r : Bytes} → none ≡ found j r → ⊥
none_found h = let z : ◌≡◌ {A = ℕ} 0 1 = cc in omega arith

module _ (start : Bytes) (q : Bound start) where
  -- the leaf that seek stops at has the reply's key among its possible keys
  stopped_at : {n : ℕ} (l : Leaf) → RealSized n l → below (highest l) start ≡ false → Key (greater start (lowest l)) × (possible l (greater start (lowest l)) ≡ true)
  unfolding meets
  stopped_at l o e =
      let low = between_ends start l (lowest l) o (lowest_key l o) (possible_split l (lowest l) o.slot (lowest_possible l o)) in
      let c = chosen_in_range start (highest l) q.fits q.bytes e l o (rw (low.0, e)) in
      (c.0, c.1)

  -- the key that a seek finds is a key, and possible
  pub sought_possible : (n i : ℕ) (ls : List Leaf) → AllRealSized n ls → (j : ℕ) (r : Bytes) → seek_from i ls start ≡ found j r → Key r × (any (λ l. possible l r) ls ≡ true)
  unfolding seek_from any
  sought_possible n i [] o j r h = absurd (none_found h)
  sought_possible n i (l ∷ ls) o j r h = go (below (highest l) start) refl h (λ e. sought_possible n (suc i) ls o.1 j r e)
    where
      go : (b : Bool) → below (highest l) start ≡ b → cond b (seek_from (suc i) ls start) (found i (greater start (lowest l))) ≡ found j r
          → (seek_from (suc i) ls start ≡ found j r → Key r × (any (λ l. possible l r) ls ≡ true)) → Key r × (possible l r || any (λ l. possible l r) ls ≡ true)
      go true e h f = let t = f h in (t.0, rw t.1 (or-true (possible l r)))
      go false e h f =
          let w : greater start (lowest l) ≡ r = cc in
          let t = stopped_at l o.0 e in
          rw (← w) (t.0, rw t.1)

  -- the same of the seek over all leaves
  seek_says : {n : ℕ} (ls : List Leaf) (ks : List Bytes) → Realizable n ls → AllRealSized n ls → HasLeaves n ks ls → SeekSays start ks (seek ls start)
  unfolding seek
  seek_says ls ks g o b = seek_least start 0 o b.keys g.ordered (has_leaves_possible ks ls b)

  -- the reply's key, where a list holds it, stands at the reply's number
  sought_place : {n : ℕ} (i : ℕ) {ls : List Leaf} {ks : List Bytes} → AllRealSized n ls → Keys ks → Ordered ls → PossibleKeys 0 n ls ks
      → (j : ℕ) (r : Bytes) → seek_from i ls start ≡ found j r → below r start ≡ false → In r ks → (p : ℕ) × (j ≡ i + p) × (p < length ks) × (get_or ks p [] ≡ r)
  unfolding seek_from
  sought_place i o a w done j r h s m = none_in m
  sought_place {n} i o a w (also {l = l} {k = k} {ls = ls} {ks = ks} p ps) j r h s m =
      go (below (highest l) start) refl h m (λ e i'. sought_place (suc i) o.1 a.1 w.1 ps j r e s i')
    where
      go : (b : Bool) → below (highest l) start ≡ b → cond b (seek_from (suc i) ls start) (found i (greater start (lowest l))) ≡ found j r → In r (k ∷ ks)
          → (seek_from (suc i) ls start ≡ found j r → In r ks → (p : ℕ) × (j ≡ suc i + p) × (p < length ks) × (get_or ks p [] ≡ r))
          → (p : ℕ) × (j ≡ i + p) × (p < length (k ∷ ks)) × (get_or (k ∷ ks) p [] ≡ r)
      go true e h m f =
          ⊎_elim (λ c. absurd (true≢false (sym (below_le_lt k (highest l) start (between_ends start l k o.0 a.0 p).0 e) ∙ rw (← c) at s)))
          (λ i'. let t = f h i' in (suc t.0, omega (arith, t.1), omega (arith, t.2), t.3)) (in_cons m)
      go false e h m f =
          let x : greater start (lowest l) ≡ r = cc in
          let y : i ≡ j = cc in
          let t : possible l r ≡ true = rw x at (stopped_at l o.0 e).1 in
          ⊎_elim (λ c. (0, omega arith, omega arith, c))
          (λ i'. absurd (true≢false (sym (all_in (λ o. below r o ≡ true) (possible_key_below l r (possible_split l r o.0.slot t) w.0 ps) i') ∙ below_irrefl r))) (in_cons m)

-- A seek's key and place: the smallest key at or after the start that any list that has the leaves holds, with its place, from 0, in every such list that holds it.
pub record SeekCorrect (n : ℕ) (ls : List Leaf) (start : Bytes) (place : ℕ) (key : Bytes) : Type 0 where
  pub after : below key start ≡ false
  pub held : SomeHolds n ls key
  pub smallest : (ks : List Bytes) → HasLeaves n ks ls → (k : Bytes) → In k ks → below k start ≡ false → below k key ≡ false
  pub placed : (ks : List Bytes) → HasLeaves n ks ls → In key ks → (place < length ks) × (get_or ks place [] ≡ key)

-- The reply to a seek question that is not none.
pub seek_found : {n : ℕ} (ls : List Leaf) (start : Bytes) → Realizable n ls → AllRealSized n ls → Bound start → (j : ℕ) (r : Bytes) → seek ls start ≡ found j r → SeekCorrect n ls start j r
unfolding seek
seek_found {n} ls start g o q j r h = record { after = after; held = held; smallest = λ ks b. (says ks b).1; placed = placed }
  where
    t : Key r × (any (λ l. possible l r) ls ≡ true)
    t = sought_possible start q n 0 ls o j r h

    held : SomeHolds n ls r
    held = (point_key ls r g o t.0).0 (point_possible ls r ∙ ap bit t.1)

    says : (ks : List Bytes) → HasLeaves n ks ls → SeekSays start ks (found j r)
    says ks b = rw h at (seek_says start q ls ks g o b)

    after : below r start ≡ false
    after = (says held.0 held.1).0

    placed : (ks : List Bytes) → HasLeaves n ks ls → In r ks → (j < length ks) × (get_or ks j [] ≡ r)
    placed ks b i =
        let p = sought_place start q 0 o b.keys g.ordered (has_leaves_possible ks ls b) j r h after i in
        let e : j ≡ p.0 = omega (arith, p.1) in
        rw e (p.2, p.3)

-- A seek gives none exactly when no list that has the leaves holds a key at or after its start.
pub seek_none : {n : ℕ} (ls : List Leaf) (start : Bytes) → Realizable n ls → AllRealSized n ls → Bound start
    → (seek ls start ≡ none) ↔ ((ks : List Bytes) → HasLeaves n ks ls → (k : Bytes) → In k ks → below k start ≡ true)
seek_none {n} ls start g o q = (λ h ks b. rw h at (seek_says start q ls ks g o b), λ f. go (seek ls start) refl f)
  where
    go : (s : Sought) → seek ls start ≡ s → ((ks : List Bytes) → HasLeaves n ks ls → (k : Bytes) → In k ks → below k start ≡ true) → s ≡ none
    go none e f = refl
    go (found j r) e f =
        let w = seek_found ls start g o q j r e in
        absurd (true≢false (sym (f w.held.0 w.held.1 r w.held.2) ∙ w.after))
