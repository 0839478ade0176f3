-- The leaves of a key list: they are realizable and well sized, and each key is a possible key of its leaf.
use Rattle.std.specs.Prelude.{ℕ, zero, suc, ◌+◌, ◌/◌, ◌<◌, ◌≤◌, ◌-◌, ◌≡◌, cond, Bool, not, ◌&&◌, ◌||◌, ◌↔◌, take, replicate, T, ltb, eqb}
use Rattle.std.proofs.Common.{suc-le-suc, sym, ap₂, subst, ◌∙◌, true≢false, arith, take-append-drop, drop_of_length-le, length-append, take_all, take_at, drop_at, ltb-true, eqb-true}
use Rattle.std.proofs.Math.Path.{refl, ap}
use Rattle.std.proofs.Math.Bool.{true, false}
use mathlib.Core.List.{List, [], ◌∷◌, map, ◌++◌}
use Rattle.std.proofs.Math.ListN.{length, drop, length-drop}
use Rattle.std.proofs.lemmas.List.{length-map, length-replicate, replicate-append-replicate}
use Rattle.std.proofs.Math.Seq.{length-take-le, drop-nil}
use Rattle.std.proofs.lemmas.Bool.{not-true}
use Rattle.spec.specs.Bytes.{Bytes, any, maximum, equal, begins, shared, Bits, low_bits, bits_of, high_first, padded, clear}
use Rattle.spec.specs.Fnv.{hash}
use Rattle.spec.specs.Keys.{below}
use Rattle.spec.specs.Leaves.{Leaf, others, hash_bits, bits_behind, suffix_bits, leaf, leaves, real, reals, possible, lowest, highest}
use Rattle.theory.specs.Terms.{All, BelowAll, Ascending, Key, Keys, In, here, there, IsBytes}
use Rattle.theory.proofs.Lists.{any_none, all_in, maximum_below, maximum_bound, in_filter, bytes_take}
use Rattle.theory.proofs.Order.{shared_le, below_unequal, equal_comm, shared_lt, shared_comm}
use Rattle.theory.proofs.LeafLists.{Before, inner, less, step, PossibleKey, PossibleKeys, done, also, BeforeAll, Ordered, Shortest, Realizable, AllAlike, line, all_alike, alike_maximum, alike_any, ClearPast, WellSized, AllWellSized, SpareClear, RealSized, AllRealSized, cut_key}
use Rattle.theory.proofs.Intervals.{possible_interval_exactly}

-- ---- what a cut is long enough for

-- two keys, cut behind what they share
cut_before : (e : Bool) (a b : Bytes) (u v : ℕ) → below a b ≡ true → shared a b < u → shared a b < v → (begins a b ≡ true → T e) → Before e (take u a) (take v b)
unfolding shared begins below
cut_before e [] [] u v h p q f = absurd (true≢false (sym h))
cut_before e [] (y ∷ b) u zero h p q f = absurd (omega arith)
cut_before e [] (y ∷ b) zero (suc v) h p q f = inner (f refl)
cut_before e [] (y ∷ b) (suc u) (suc v) h p q f = inner (f refl)
cut_before e (x ∷ a) [] u v h p q f = absurd (true≢false (sym h))
cut_before e (x ∷ a) (y ∷ b) zero v h p q f = absurd (omega arith)
cut_before e (x ∷ a) (y ∷ b) (suc u) zero h p q f = absurd (omega arith)
cut_before e (x ∷ a) (y ∷ b) (suc u) (suc v) h p q f =
    go (λ h' p' q' f'. cut_before e a b u v h' p' q' f') (ltb x y) refl (eqb x y) refl h p q f
  where
    go : (below a b ≡ true → shared a b < u → shared a b < v → (begins a b ≡ true → T e) → Before e (take u a) (take v b))
        → (l : Bool) → ltb x y ≡ l → (s : Bool) → eqb x y ≡ s
        → l || (s && below a b) ≡ true → cond s (suc (shared a b)) 0 < suc u → cond s (suc (shared a b)) 0 < suc v → (s && begins a b ≡ true → T e)
        → Before e (x ∷ take u a) (y ∷ take v b)
    go ih true i s j h p q f = less (ltb-true x y i)
    go ih false i true j h p q f = rw (← eqb-true x y j) (step (ih h (omega arith) (omega arith) f))
    go ih false i false j h p q f = absurd (true≢false (sym h))

-- ---- a leaf of a key list

-- l is the leaf of the key k of ks, which is cut behind its first bytes, as many as `size`
record CutOf (h n : ℕ) (ks : List Bytes) (k : Bytes) (l : Leaf) : Type 0 where
  size : ℕ
  cut_is : l.cut ≡ take size k
  kind : any (begins k) (others ks k) ≡ l.exact
  whole : T l.exact → length k ≤ size
  part : l.exact ≡ false → (size ≤ length k) × (size ≡ suc (maximum (map (shared k) (others ks k)))) × (l.suffix ≡ suffix_bits h n size k)
  blank : l.exact ≡ true → l.suffix ≡ replicate (h + n) false
  wide : (o : Bytes) → In o ks → equal k o ≡ false → (shared k o < size) × (begins k o ≡ true → T l.exact)

leaf_exact : (h n : ℕ) (ks : List Bytes) (k : Bytes) → any (begins k) (others ks k) ≡ true
    → leaf h n ks k ≡ record { cut = k; exact = true; suffix = replicate (h + n) false }
unfolding leaf
leaf_exact h n ks k e = rw e

leaf_open : (h n : ℕ) (ks : List Bytes) (k : Bytes) → any (begins k) (others ks k) ≡ false
    → leaf h n ks k ≡ record { cut = take (suc (maximum (map (shared k) (others ks k)))) k; exact = false; suffix = suffix_bits h n (suc (maximum (map (shared k) (others ks k)))) k }
unfolding leaf
leaf_open h n ks k e = rw e

-- the leaf of each key is cut so
cut_of_key : (h n : ℕ) (ks : List Bytes) (k : Bytes) → 0 < length k → CutOf h n ks k (leaf h n ks k)
unfolding others
cut_of_key h n ks k z = go (any (begins k) (others ks k)) refl
  where
    S : ℕ
    S = maximum (map (shared k) (others ks k))

    go : (b : Bool) → any (begins k) (others ks k) ≡ b → CutOf h n ks k (leaf h n ks k)
    go true e = rw (leaf_exact h n ks k e) (record {
      size = suc (length k);
      cut_is = sym (take_all (suc (length k)) k (omega arith));
      kind = e;
      whole = λ _. omega arith;
      part = λ h. absurd (true≢false h);
      blank = λ _. refl;
      wide = λ o i h. (omega (arith, shared_le k o), λ _. tt);
    })
    go false e =
        let none : (o : Bytes) → In o ks → equal k o ≡ false → begins k o ≡ false = λ o i h. any_none (begins k) e (in_filter (λ o. not (equal k o)) i (rw h refl)) in
        rw (leaf_open h n ks k e) (record {
          size = suc S;
          cut_is = refl;
          kind = e;
          whole = λ h. absurd h;
          part = λ _. (maximum_below (λ o. not (equal k o)) (shared k) (length k) ks z (λ o i h. shared_lt k o (none o i (not-true (equal k o) h))), refl, refl);
          blank = λ h. absurd (true≢false (sym h));
          wide = λ o i h. (suc-le-suc (maximum_bound (λ o. not (equal k o)) (shared k) i (rw h refl)), λ g. absurd (true≢false (sym g ∙ none o i h)));
        })

-- ---- all of them

key_possible : (l : Leaf) (k : Bytes) {h n : ℕ} {ks : List Bytes} → CutOf h n ks k l → PossibleKey h n l k
key_possible l k {h} {n} {ks} c = record {
  rest = drop c.size k;
  split = rw c.cut_is (sym (take-append-drop c.size k));
  ends = λ h. drop_of_length-le k (c.whole h);
  bits = λ h. rw (c.cut_is, length-take-le c.size k (c.part h).0) (sym (c.part h).2);
}

before : (k m : Bytes) (l r : Leaf) {h n : ℕ} {ks : List Bytes} → CutOf h n ks k l → CutOf h n ks m r → In k ks → In m ks → below k m ≡ true → Before l.exact l.cut r.cut
before k m l r c d i j h =
    let s : equal k m ≡ false = below_unequal k m h in
    rw (c.cut_is, d.cut_is) (cut_before l.exact k m c.size d.size h (c.wide m j s).0 (rw (shared_comm k m) (d.wide k i (sym (equal_comm k m) ∙ s)).0) (c.wide m j s).1)

module _ (h n : ℕ) (ks : List Bytes) (z : (k : Bytes) → In k ks → 0 < length k) where
  before_all : (k : Bytes) → In k ks → (ms : List Bytes) → ((m : Bytes) → In m ms → In m ks) → BelowAll k ms → BeforeAll (leaf h n ks k) (map (leaf h n ks) ms)
  before_all k i [] u a = tt
  before_all k i (m ∷ ms) u a = (before k m (leaf h n ks k) (leaf h n ks m) (cut_of_key h n ks k (z k i)) (cut_of_key h n ks m (z m (u m here))) i (u m here) a.0, before_all k i ms (λ o j. u o (there j)) a.1)

  ordered : (ms : List Bytes) → ((m : Bytes) → In m ms → In m ks) → Ascending ms → Ordered (map (leaf h n ks) ms)
  ordered [] u a = tt
  ordered (m ∷ ms) u a = (before_all m (u m here) ms (λ o j. u o (there j)) a.0, ordered ms (λ o j. u o (there j)) a.1)

  possible_all : (ms : List Bytes) → ((m : Bytes) → In m ms → In m ks) → PossibleKeys h n (map (leaf h n ks) ms) ms
  possible_all [] u = done
  possible_all (m ∷ ms) u = also (key_possible (leaf h n ks m) m (cut_of_key h n ks m (z m (u m here)))) (possible_all ms (λ o j. u o (there j)))

  shortest : (ms : List Bytes) → ((m : Bytes) → In m ms → In m ks) → AllAlike (leaves h n ks) ks (map (leaf h n ks) ms) ms → All (Shortest (h + n) (leaves h n ks)) (map (leaf h n ks) ms)
  shortest [] u r = tt
  shortest (m ∷ ms) u (line q qs) = (one (cut_of_key h n ks m (z m (u m here))), shortest ms (λ o j. u o (there j)) qs)
    where
      one : CutOf h n ks m (leaf h n ks m) → Shortest (h + n) (leaves h n ks) (leaf h n ks m)
      one c = record {
        kind = sym (alike_any q) ∙ c.kind;
        size = λ h. ap suc (sym (alike_maximum q)) ∙ sym (c.part h).1 ∙ rw c.cut_is (sym (length-take-le c.size m (c.part h).0));
        blank = c.blank;
      }

  realizable : Ascending ks → Realizable (h + n) (leaves h n ks)
  unfolding leaves
  realizable a = record { ordered = ordered ks (λ m i. i) a; shortest = shortest ks (λ m i. i) (all_alike (ordered ks (λ m i. i) a) (possible_all ks (λ m i. i))) }

-- The keys of a list are possible keys of its leaves, one for each.
pub leaves_possible_keys : (h n : ℕ) (ks : List Bytes) → Keys ks → PossibleKeys h n (leaves h n ks) ks
unfolding leaves
leaves_possible_keys h n ks q = possible_all h n ks (λ k i. (all_in Key q i).least) ks (λ m i. i)

-- The leaves of an ascending list of keys are in order, and each is cut one byte behind what it shares with another.
pub leaves_realizable : (h n : ℕ) (ks : List Bytes) → Keys ks → Ascending ks → Realizable (h + n) (leaves h n ks)
leaves_realizable h n ks q a = realizable h n ks (λ k i. (all_in Key q i).least) a

-- ---- sizes

pub length_padded : (n : ℕ) (bs : Bits) → length (padded n bs) ≡ n
unfolding padded
length_padded zero bs = refl
length_padded (suc n) [] = ap suc (length_padded n [])
length_padded (suc n) (b ∷ bs) = ap suc (length_padded n bs)

padded_nil : (n : ℕ) → padded n [] ≡ replicate n false
unfolding padded
padded_nil zero = refl
padded_nil (suc n) = ap (λ (z : Bits). false ∷ z) (padded_nil n)

drop_padded : (k n : ℕ) (bs : Bits) → (m : ℕ) × (drop k (padded n bs) ≡ padded m (drop k bs))
unfolding padded
drop_padded zero n bs = (n, refl)
drop_padded (suc k) zero bs = (0, refl)
drop_padded (suc k) (suc n) [] = let r = drop_padded k n [] in (r.0, r.1 ∙ ap (padded r.0) (drop-nil {A = Bool} k))
drop_padded (suc k) (suc n) (b ∷ bs) = drop_padded k n bs

clear_past_nil : (R n : ℕ) → ClearPast R (padded n [])
unfolding clear padded
clear_past_nil zero zero = refl
clear_past_nil zero (suc n) = clear_past_nil zero n
clear_past_nil (suc R) n = let r = drop_padded 8 n [] in rw r.1 (clear_past_nil R r.0)

-- the suffix of r, of at most R bytes, has no bit set past the byte R
clear_past_suffix : (n R : ℕ) (r : Bytes) → length r ≤ R → ClearPast R (padded n (bits_of r))
unfolding bits_of high_first
clear_past_suffix n R [] h = clear_past_nil R n
clear_past_suffix n zero (x ∷ r) h = absurd (omega arith)
clear_past_suffix n (suc R) (x ∷ r) h = let d = drop_padded 8 n (high_first 8 x ++ bits_of r) in rw d.1 (clear_past_suffix d.0 R r (omega arith))

-- zeros behind zeros
zeros_behind : (h n : ℕ) → drop h (replicate (h + n) false) ≡ padded n []
zeros_behind h n = ap (drop h) (sym (replicate-append-replicate h n false)) ∙ drop_at (replicate h false) (replicate n false) h (length-replicate h false) ∙ sym (padded_nil n)

-- A key has as many hash bits as are asked for.
pub length_hash_bits : (h : ℕ) (k : Bytes) → length (hash_bits h k) ≡ h
unfolding hash_bits
length_hash_bits h k = go h (hash k)
  where
    go : (h x : ℕ) → length (low_bits h x) ≡ h
    go zero x = refl
    go (suc h) x = ap suc (go h (x / 2))

-- Behind the hash bits of a key's suffix stand its real bits.
pub real_suffix : (h n c : ℕ) (k : Bytes) → drop h (suffix_bits h n c k) ≡ bits_behind n c k
unfolding suffix_bits
real_suffix h n c k = drop_at (hash_bits h k) (bits_behind n c k) h (length_hash_bits h k)

-- Before them stand its hash bits.
pub hash_suffix : (h n c : ℕ) (k : Bytes) → take h (suffix_bits h n c k) ≡ hash_bits h k
unfolding suffix_bits
hash_suffix h n c k = take_at (hash_bits h k) (bits_behind n c k) h (length_hash_bits h k)

-- A key's suffix has h + n bits.
pub length_suffix : (h n c : ℕ) (k : Bytes) → length (suffix_bits h n c k) ≡ h + n
unfolding suffix_bits bits_behind
length_suffix h n c k = length-append (hash_bits h k) (bits_behind n c k) ∙ omega (arith, length_hash_bits h k, length_padded n (bits_of (drop c k)))

-- A leaf of a key list, by its cut.
module _ (h n : ℕ) (ks : List Bytes) (k : Bytes) (l : Leaf) (q : Key k) (c : CutOf h n ks k l) where
  well_sized : WellSized (h + n) l
  well_sized = go l.exact refl
    where
      go : (b : Bool) → l.exact ≡ b → WellSized (h + n) l
      go true e =
          let w : l.cut ≡ k = c.cut_is ∙ take_all c.size k (c.whole (rw e tt)) in
          record { key = rw w q; slot = ap length (c.blank e) ∙ length-replicate (h + n) false }
      go false e =
          let p = c.part e in
          let w : length l.cut ≡ c.size = ap length c.cut_is ∙ length-take-le c.size k p.0 in
          record {
            key = record { least = omega arith; fits = omega (arith, q.fits); bytes = rw c.cut_is (bytes_take c.size k q.bytes) };
            slot = ap length p.2 ∙ length_suffix h n c.size k;
          }

  spare_clear : SpareClear h l
  unfolding bits_behind
  spare_clear = go l.exact refl
    where
      go : (b : Bool) → l.exact ≡ b → SpareClear h l
      go true e =
          let z : drop h l.suffix ≡ padded n [] = ap (drop h) (c.blank e) ∙ zeros_behind h n in
          rw z (clear_past_nil (64 - length l.cut) n)
      go false e =
          let p = c.part e in
          let z : drop h l.suffix ≡ padded n (bits_of (drop c.size k)) = ap (drop h) p.2 ∙ real_suffix h n c.size k in
          let w : length l.cut ≡ c.size = ap length c.cut_is ∙ length-take-le c.size k p.0 in
          rw z (clear_past_suffix n (64 - length l.cut) (drop c.size k) (omega (arith, length-drop c.size k, q.fits)))

-- The leaves of a list of keys: each has a cut key of 1 to 64 bytes and a slot of h hash bits and n real bits.
pub leaves_well_sized : (h n : ℕ) (ks : List Bytes) → Keys ks → AllWellSized (h + n) (leaves h n ks)
unfolding leaves
leaves_well_sized h n ks q = go ks q
  where
    go : (ms : List Bytes) → Keys ms → AllWellSized (h + n) (map (leaf h n ks) ms)
    go [] q = tt
    go (m ∷ ms) q = (well_sized h n ks m (leaf h n ks m) q.0 (cut_of_key h n ks m q.0.least), go ms q.1)

-- No real bit is set past the 64th byte.
pub leaves_spare_clear : (h n : ℕ) (ks : List Bytes) → Keys ks → All (SpareClear h) (leaves h n ks)
unfolding leaves
leaves_spare_clear h n ks q = go ks q
  where
    go : (ms : List Bytes) → Keys ms → All (SpareClear h) (map (leaf h n ks) ms)
    go [] q = tt
    go (m ∷ ms) q = (spare_clear h n ks m (leaf h n ks m) q.0 (cut_of_key h n ks m q.0.least), go ms q.1)

-- a list has as many leaves as keys
pub leaves_length : (h n : ℕ) (ks : List Bytes) → length (leaves h n ks) ≡ length ks
unfolding leaves
leaves_length h n ks = length-map ks (leaf h n ks)

-- ---- leaves with their hash bits struck out

-- Realizable leaves whose cut keys and slots are sized are, with their hash bits struck out, realizable leaves of real bits alone.
pub reals_sized : (h n : ℕ) (ls : List Leaf) → AllWellSized (h + n) ls → All (SpareClear h) ls → AllRealSized n (reals h ls)
unfolding reals real
reals_sized h n [] o c = tt
reals_sized h n (l ∷ ls) o c = (record { key = o.0.key; spare = c.0; slot = omega (arith, length-drop h l.suffix, o.0.slot) }, reals_sized h n ls o.1 c.1)

cuts_real : (h : ℕ) (ls : List Leaf) → map cut_key (reals h ls) ≡ map cut_key ls
unfolding reals real
cuts_real h [] = refl
cuts_real h (l ∷ ls) = ap (λ (z : List Bytes). l.cut ∷ z) (cuts_real h ls)

pub reals_realizable : (h n : ℕ) (ls : List Leaf) → Realizable (h + n) ls → Realizable n (reals h ls)
unfolding reals real
reals_realizable h n ls g = record { ordered = in_order ls g.ordered; shortest = each ls g.shortest }
  where
    before : (l : Leaf) (ms : List Leaf) → BeforeAll l ms → BeforeAll (real h l) (map (real h) ms)
    before l [] b = tt
    before l (m ∷ ms) b = (b.0, before l ms b.1)

    in_order : (ms : List Leaf) → Ordered ms → Ordered (map (real h) ms)
    in_order [] o = tt
    in_order (m ∷ ms) o = (before m ms o.0, in_order ms o.1)

    zeros : drop h (replicate (h + n) false) ≡ replicate n false
    zeros = zeros_behind h n ∙ padded_nil n

    one : (l : Leaf) → Shortest (h + n) ls l → Shortest n (reals h ls) (real h l)
    one l t = record { kind = rw (cuts_real h ls) t.kind; size = rw (cuts_real h ls) t.size; blank = λ e. ap (drop h) (t.blank e) ∙ zeros }

    each : (ms : List Leaf) → All (Shortest (h + n) ls) ms → All (Shortest n (reals h ls)) (map (real h) ms)
    each [] t = tt
    each (m ∷ ms) t = (one m t.0, each ms t.1)

-- Leaves without hash bits have none to strike out.
pub reals_none : (ls : List Leaf) → reals 0 ls ≡ ls
unfolding reals real
reals_none [] = refl
reals_none (l ∷ ls) = ap (λ (z : List Leaf). l ∷ z) (reals_none ls)

-- The leaves of a key list with their hash bits struck out are its leaves without hash bits.
pub reals_leaves : (h n : ℕ) (ks : List Bytes) → reals h (leaves h n ks) ≡ leaves 0 n ks
unfolding reals real leaves
reals_leaves h n ks = go ks
  where
    z : n ≡ 0 + n
    z = omega arith

    one : (k : Bytes) (b : Bool) → any (begins k) (others ks k) ≡ b → real h (leaf h n ks k) ≡ leaf 0 n ks k
    one k true e =
        ap (real h) (leaf_exact h n ks k e)
        ∙ ap (λ (s : Bits). record { cut = k; exact = true; suffix = s }) (zeros_behind h n ∙ padded_nil n ∙ ap (λ (m : ℕ). replicate m false) z)
        ∙ sym (leaf_exact 0 n ks k e)
    one k false e =
        let c : ℕ = suc (maximum (map (shared k) (others ks k))) in
        ap (real h) (leaf_open h n ks k e)
        ∙ ap (λ (s : Bits). record { cut = take c k; exact = false; suffix = s }) (real_suffix h n c k ∙ sym (real_suffix 0 n c k))
        ∙ sym (leaf_open 0 n ks k e)

    go : (ms : List Bytes) → map (real h) (map (leaf h n ks) ms) ≡ map (leaf 0 n ks) ms
    go [] = refl
    go (m ∷ ms) = ap₂ ◌∷◌ (one m (any (begins m) (others ks m)) refl) (go ms)

-- The leaves of a list of keys without hash bits, as an accepted image has them.
pub leaves_real_sized : (n : ℕ) (ks : List Bytes) → Keys ks → AllRealSized n (leaves 0 n ks)
leaves_real_sized n ks q = subst (AllRealSized n) (reals_none (leaves 0 n ks)) (reals_sized 0 n (leaves 0 n ks) (leaves_well_sized 0 n ks q) (leaves_spare_clear 0 n ks q))

-- The leaves of an ascending list of keys without hash bits are realizable.
pub leaves_real_realizable : (n : ℕ) (ks : List Bytes) → Keys ks → Ascending ks → Realizable n (leaves 0 n ks)
leaves_real_realizable n ks q a = subst (Realizable n) (reals_none (leaves 0 n ks)) (reals_realizable 0 n (leaves 0 n ks) (leaves_realizable 0 n ks q a))

-- ---- possible keys

-- The possible keys of a leaf of a key list without hash bits are exactly the keys of at most 64 bytes from its lowest to its highest.
pub leaves_interval : (n : ℕ) (ks : List Bytes) → Keys ks → (l : Leaf) → In l (leaves 0 n ks) → (k : Bytes) → IsBytes k
    → (possible l k ≡ true) ↔ ((length k ≤ 64) × (below k (lowest l) ≡ false) × (below (highest l) k ≡ false))
leaves_interval n ks q l i k w = possible_interval_exactly l (all_in (RealSized n) (leaves_real_sized n ks q) i) k w
