-- What a key does in S-HasChild and S-LOUDS, which a pass leaves flipped: it sets one bit, on the level of its leaf or where it leaves the key before it, and moves the cursors of its other levels on. Used by the functions that write a key's bits.
use Prim.Native.Nat.{ℕ, zero, suc, ◌+◌, ◌*◌, ◌-◌, ◌≤◌, ◌<◌, max, min}
use Rattle.std.specs.Prelude.{◌≡◌, Bool, not, ◌&&◌, length, get_or, set, leb}
use Rattle.std.proofs.Math.Path.{refl, ap, ap₂}
use Rattle.std.proofs.Common.{sym, subst, ◌∙◌, arith, add-zero, add-one}
use Rattle.std.proofs.Math.Bool.{true, false, cond}
use mathlib.Core.List.{List, [], ◌∷◌, ◌++◌, append-nil}
use Rattle.std.proofs.Math.Dec.{ltb, eqb}
use borrow.Author.Tests.{ltb-true, ltb-false, leb-true, leb-false, le-leb, lt-ltb, le-ltb, eqb-true, eqb-false}
use Rattle.spec.specs.Bytes.{Bytes}
use Rattle.build_laws.specs.LevelEntries.{pred}
use Rattle.build_laws.specs.NeighbourLeaves.{cut_length, cut_exact, cut_open}
use Rattle.build_laws.specs.Emissions.{Emission, emission, map_emissions, consecutive, key_emissions, map_key}
use Rattle.build_laws.specs.Cursors.{counts}
use Rattle.build_laws.specs.BitPass.{Room, room_append}
use Rattle.build_laws.specs.BytePass.{ByteState, byte_state, one_step}
use Rattle.build_laws.specs.KeyEntries.{continues_at, entry_at, exact_entry}
use Rattle.build_laws.specs.PassEmissions.{leaf_level}
use Rattle.build_laws.specs.BodyLaws.{bit_at}
use Rattle.build_laws.specs.declared.Key.{Key}
use Rattle.build_laws.specs.declared.LevelRange.{LevelRange}
use Rattle.build_laws.specs.declared.Entry.{Entry}
use Rattle.build_laws.specs.declared.Kind.TheVariants.{SC, SB}
use Rattle.build_laws.specs.KeyLaws.{level_exact, level_open, pred_sub}
use Rattle.build_keys.specs.CountPass.{CounterRoom, leaf_level_of}
use Rattle.build_laws.specs.Passes.{with_bits, set_all, set_at_cursor, write_entries, listed_entries, listed_leaves, listed_later, EntriesRoom, BitsRoom}
use Rattle.build_keys.specs.ByteLevel.{leaves_set, later_set}
use Rattle.build_laws.specs.Limits.{counter_max}

-- m levels from a on, on which no bit is set
abbrev pub blank : ℕ → ℕ → List (Emission Bool)
blank a m = consecutive (λ d. false) a m

-- the levels have d among them
abbrev pub among : LevelRange → ℕ → Bool
among l d = leb l.lo d && ltb d l.hi

-- ---- consecutive levels

consecutive_same : {A : Type 0} (v u : ℕ → A) (a m : ℕ) → ((d : ℕ) → a ≤ d → d < a + m → v d ≡ u d) → consecutive v a m ≡ consecutive u a m
unfolding consecutive
consecutive_same v u a zero f = refl
consecutive_same v u a (suc m) f = ap₂ (λ x (es : List (Emission _)). emission a x ∷ es) (f a (omega arith) (omega arith)) (consecutive_same v u (suc a) m (λ d g h. f d (omega arith) (omega arith)))

consecutive_last : {A : Type 0} (v : ℕ → A) (a m : ℕ) → consecutive v a (suc m) ≡ consecutive v a m ++ emission (a + m) (v (a + m)) ∷ []
unfolding consecutive
consecutive_last v a zero = ap (λ (d : ℕ). emission d (v d) ∷ []) (sym (add-zero a))
consecutive_last v a (suc m) =
    let w : suc a + m ≡ a + suc m = omega arith in
    ap (λ (es : List (Emission _)). emission a (v a) ∷ es) (consecutive_last v (suc a) m ∙ ap (λ (d : ℕ). consecutive v (suc a) m ++ emission d (v d) ∷ []) w)

consecutive_first : {A : Type 0} (v : ℕ → A) (a m : ℕ) → consecutive v a (suc m) ≡ emission a (v a) ∷ consecutive v (suc a) m
unfolding consecutive
consecutive_first v a m = refl

consecutive_none : {A : Type 0} (v : ℕ → A) (a m : ℕ) → m ≡ 0 → consecutive v a m ≡ []
unfolding consecutive
consecutive_none v a m e = rw e

module _ {A : Type 0} (lo hi : ℕ) (v : ℕ → A) where
  -- one level more behind consecutive ones, if it is among the levels
  consecutive_more : (t : A) (p n : ℕ) → p ≤ n → v n ≡ t → consecutive v (max p lo) (min n hi - max p lo) ++ cond (leb lo n && ltb n hi) (emission n t ∷ []) [] ≡ consecutive v (max p lo) (min (suc n) hi - max p lo)
  consecutive_more t p n h f = go (leb lo n) refl (ltb n hi) refl
    where
      go : (x : Bool) → leb lo n ≡ x → (y : Bool) → ltb n hi ≡ y → consecutive v (max p lo) (min n hi - max p lo) ++ cond (x && y) (emission n t ∷ []) [] ≡ consecutive v (max p lo) (min (suc n) hi - max p lo)
      go true e true g =
          let le : lo ≤ n = leb-true lo n e in
          let lt : n < hi = ltb-true n hi g in
          let u : min n hi - max p lo ≡ n - max p lo = omega arith in
          let w : min (suc n) hi - max p lo ≡ suc (n - max p lo) = omega arith in
          let x : max p lo + (n - max p lo) ≡ n = omega arith in
          ap₂ (λ (m : ℕ) (y : A). consecutive v (max p lo) m ++ emission n y ∷ []) u (sym f) ∙ ap (λ (d : ℕ). consecutive v (max p lo) (n - max p lo) ++ emission d (v d) ∷ []) (sym x)
          ∙ sym (consecutive_last v (max p lo) (n - max p lo)) ∙ ap (consecutive v (max p lo)) (sym w)
      go true e false g =
          let le : hi ≤ n = ltb-false n hi g in
          let w : min n hi - max p lo ≡ min (suc n) hi - max p lo = omega arith in
          append-nil (consecutive v (max p lo) (min n hi - max p lo)) ∙ ap (consecutive v (max p lo)) w
      go false e y g =
          let lt : n < lo = leb-false lo n e in
          append-nil (consecutive v (max p lo) (min n hi - max p lo)) ∙ consecutive_none v (max p lo) (min n hi - max p lo) (omega arith) ∙ sym (consecutive_none v (max p lo) (min (suc n) hi - max p lo) (omega arith))

  -- a key's emissions are on consecutive levels up to the level of its leaf
  key_consecutive : (t : A) (p q n : ℕ) → p < n → (q ≡ n → v n ≡ t) → key_emissions lo hi v t p q n ≡ consecutive v (max p lo) (min (suc (leaf_level p q n)) hi - max p lo)
  unfolding key_emissions
  key_consecutive t p q n h f = go (eqb q n) refl
    where
      go : (b : Bool) → eqb q n ≡ b → consecutive v (max p lo) (min (cut_length p q n) hi - max p lo) ++ cond (eqb q n && (leb lo n && ltb n hi)) (emission n t ∷ []) [] ≡ consecutive v (max p lo) (min (suc (leaf_level p q n)) hi - max p lo)
      go true e =
          let z : q ≡ n = eqb-true q n e in
          ap₂ (λ (c : ℕ) (b : Bool). consecutive v (max p lo) (min c hi - max p lo) ++ cond (b && (leb lo n && ltb n hi)) (emission n t ∷ []) []) (cut_exact p q n z) e
          ∙ consecutive_more t p n (omega arith) (f z) ∙ ap (λ (d : ℕ). consecutive v (max p lo) (min (suc d) hi - max p lo)) (level_exact p q n z)
      go false e =
          let z : q ≡ n → ⊥ = eqb-false q n e in
          ap₂ (λ (c : ℕ) (b : Bool). consecutive v (max p lo) (min c hi - max p lo) ++ cond (b && (leb lo n && ltb n hi)) (emission n t ∷ []) []) (cut_open p q n z) e
          ∙ append-nil (consecutive v (max p lo) (min (suc (max p q)) hi - max p lo)) ∙ ap (λ (d : ℕ). consecutive v (max p lo) (min (suc d) hi - max p lo)) (level_open p q n z)

  -- such emissions, with other values that are the same up to there
  key_same : (u : ℕ → A) (t : A) (p q n : ℕ) → ((d : ℕ) → d < cut_length p q n → v d ≡ u d) → key_emissions lo hi v t p q n ≡ key_emissions lo hi u t p q n
  unfolding key_emissions
  key_same u t p q n f = ap (λ (es : List (Emission A)). es ++ cond (eqb q n && (leb lo n && ltb n hi)) (emission n t ∷ []) []) (consecutive_same v u (max p lo) (min (cut_length p q n) hi - max p lo) (λ d g h. f d (omega arith)))

-- ---- a key's bits

leaf_from : (p q n : ℕ) → p < n → p ≤ leaf_level p q n
leaf_from p q n h = go (eqb q n) refl
  where
    go : (b : Bool) → eqb q n ≡ b → p ≤ leaf_level p q n
    go true e = omega (arith, level_exact p q n (eqb-true q n e))
    go false e = omega (arith, level_open p q n (eqb-false q n e))

not_below : (d m : ℕ) → m ≤ d → not (ltb d m) ≡ true
not_below d m h = ap not (le-ltb d m h)

below : (d m : ℕ) → d < m → not (ltb d m) ≡ false
below d m h = ap not (lt-ltb d m h)

-- the first level on which a key starts a node is behind b, or it is not
pub behind_level : (a b : ℕ) → ltb b a ≡ not (leb a b)
behind_level a b = go (leb a b) refl
  where
    go : (x : Bool) → leb a b ≡ x → ltb b a ≡ not x
    go true e = le-ltb b a (leb-true a b e)
    go false e = lt-ltb b a (leb-false a b e)

-- a branch continues above the level of the leaf
pub continues_above : (p q n d : ℕ) → d < cut_length (pred p) q n → continues_at p q n d ≡ ltb d (leaf_level (pred p) q n)
continues_above p q n d h = go (eqb q n) refl (ltb d (leaf_level (pred p) q n)) refl
  where
    go : (b : Bool) → eqb q n ≡ b → (x : Bool) → ltb d (leaf_level (pred p) q n) ≡ x → continues_at p q n d ≡ x
    go true e true g = rw e
    go true e false g =
        let z : q ≡ n = eqb-true q n e in
        absurd (omega (arith, ltb-false d (leaf_level (pred p) q n) g, level_exact (pred p) q n z, cut_exact (pred p) q n z))
    go false e true g =
        let z : q ≡ n → ⊥ = eqb-false q n e in
        let w : suc d < cut_length (pred p) q n = less z (ltb-true d (leaf_level (pred p) q n) g) in
        rw (e, lt-ltb (suc d) (cut_length (pred p) q n) w)
      where
        less : (q ≡ n → ⊥) → d < leaf_level (pred p) q n → suc d < cut_length (pred p) q n
        less z i = omega (arith, i, level_open (pred p) q n z, cut_open (pred p) q n z)
    go false e false g =
        let z : q ≡ n → ⊥ = eqb-false q n e in
        let w : cut_length (pred p) q n ≤ suc d = less z (ltb-false d (leaf_level (pred p) q n) g) in
        rw (e, le-ltb (suc d) (cut_length (pred p) q n) w)
      where
        less : (q ≡ n → ⊥) → leaf_level (pred p) q n ≤ d → cut_length (pred p) q n ≤ suc d
        less z i = omega (arith, i, level_open (pred p) q n z, cut_open (pred p) q n z)

module _ (l : LevelRange) (k : Key) (b d : ℕ) (e : b ≡ pred k.first) (level : d ≡ leaf_level_of k) (h : b < k.len) where
  level_is : leaf_level (pred k.first) k.next k.len ≡ d
  level_is = sym level

  f : d ≡ leaf_level b k.next k.len
  f = level ∙ ap (λ (i : ℕ). leaf_level i k.next k.len) (sym e)

  -- no bit up to the level of its leaf, d, and one there
  leaves_are : listed_leaves l k ≡ blank (max b l.lo) (min d l.hi - max b l.lo) ++ cond (among l d) (emission d true ∷ []) []
  leaves_are =
      let u : ℕ → Bool = λ i. not (ltb i d) in
      key_same l.lo l.hi (λ i. not (continues_at k.first k.next k.len i)) u true (pred k.first) k.next k.len (λ i g. ap not (continues_above k.first k.next k.len i g ∙ ap (ltb i) level_is))
      ∙ ap (λ (i : ℕ). key_emissions l.lo l.hi u true i k.next k.len) (sym e)
      ∙ key_consecutive l.lo l.hi u true b k.next k.len h (λ z. not_below k.len d (omega (arith, f, level_exact b k.next k.len z)))
      ∙ ap (λ (i : ℕ). consecutive u (max b l.lo) (min (suc i) l.hi - max b l.lo)) (sym f)
      ∙ sym (consecutive_more l.lo l.hi u true b d (omega (arith, f, leaf_from b k.next k.len h)) (not_below d d (omega arith)))
      ∙ ap (λ (es : List (Emission Bool)). es ++ cond (among l d) (emission d true ∷ []) []) (consecutive_same u (λ i. false) (max b l.lo) (min d l.hi - max b l.lo) (λ i g j. below i d (omega arith)))

  later_no : (i : ℕ) → suc b ≤ i → not (leb k.first i) ≡ false
  later_no i g = ap not (le-leb k.first i (omega (arith, pred_sub k.first, e)))

  -- one on the level where it leaves the key before it, b, if there is one, and none behind
  later_are : listed_later l k ≡ cond (among l b) (emission b (not (leb k.first b)) ∷ []) [] ++ blank (max (suc b) l.lo) (min (suc d) l.hi - max (suc b) l.lo)
  later_are =
      ap (λ (i : ℕ). key_emissions l.lo l.hi v false i k.next k.len) (sym e)
      ∙ key_consecutive l.lo l.hi v false b k.next k.len h (λ z. later_no k.len h)
      ∙ ap (λ (i : ℕ). consecutive v (max b l.lo) (min (suc i) l.hi - max b l.lo)) (sym f)
      ∙ go (leb l.lo b) refl (ltb b l.hi) refl
    where
      v : ℕ → Bool
      v i = not (leb k.first i)

      from : b ≤ d
      from = omega (arith, f, leaf_from b k.next k.len h)

      blanks : (a m : ℕ) → suc b ≤ a → consecutive v a m ≡ blank a m
      blanks a m g = consecutive_same v (λ i. false) a m (λ i j o. later_no i (omega arith))

      go : (x : Bool) → leb l.lo b ≡ x → (y : Bool) → ltb b l.hi ≡ y
          → consecutive v (max b l.lo) (min (suc d) l.hi - max b l.lo) ≡ cond (x && y) (emission b (v b) ∷ []) [] ++ blank (max (suc b) l.lo) (min (suc d) l.hi - max (suc b) l.lo)
      go true g true o =
          let le : l.lo ≤ b = leb-true l.lo b g in
          let lt : b < l.hi = ltb-true b l.hi o in
          let w : min (suc d) l.hi - max b l.lo ≡ suc (min (suc d) l.hi - max (suc b) l.lo) = omega (arith, from) in
          let x : max b l.lo ≡ b = omega arith in
          let z : suc b ≡ max (suc b) l.lo = omega arith in
          ap₂ (λ (i m : ℕ). consecutive v i m) x w ∙ consecutive_first v b (min (suc d) l.hi - max (suc b) l.lo)
          ∙ ap (λ (es : List (Emission Bool)). emission b (v b) ∷ es) (blanks (suc b) (min (suc d) l.hi - max (suc b) l.lo) (omega arith) ∙ ap (λ (i : ℕ). blank i (min (suc d) l.hi - max (suc b) l.lo)) z)
      go true g false o =
          let le : l.hi ≤ b = ltb-false b l.hi o in
          consecutive_none v (max b l.lo) (min (suc d) l.hi - max b l.lo) (omega arith) ∙ sym (consecutive_none (λ i. false) (max (suc b) l.lo) (min (suc d) l.hi - max (suc b) l.lo) (omega arith))
      go false g y o =
          let lt : b < l.lo = leb-false l.lo b g in
          let x : max b l.lo ≡ max (suc b) l.lo = omega arith in
          ap (λ (i : ℕ). consecutive v i (min (suc d) l.hi - i)) x ∙ blanks (max (suc b) l.lo) (min (suc d) l.hi - max (suc b) l.lo) (omega arith)

-- ---- what they do

-- one level, and those behind it
pub blank_more : (d to : ℕ) → d < to → blank d (to - d) ≡ emission d false ∷ blank (d + 1) (to - (d + 1))
blank_more d to h =
    let w : to - d ≡ suc (to - (d + 1)) = omega arith in
    ap (blank d) w ∙ consecutive_first (λ i. false) d (to - (d + 1)) ∙ ap (λ (i : ℕ). emission d false ∷ blank i (to - (d + 1))) (sym (add-one d))

-- no level
pub blank_none : (d to : ℕ) → to ≤ d → blank d (to - d) ≡ []
blank_none d to h = consecutive_none (λ i. false) d (to - d) (omega arith)

-- consecutive levels without bits move the cursors on
blank_set : (a m : ℕ) (es : List (Emission Bool)) (o c : List ℕ) → set_all one_step bit_at (blank a m ++ es) (byte_state o c) ≡ set_all one_step bit_at es (byte_state o (counts one_step (blank a m) c))
unfolding consecutive set_all with_bits counts
blank_set a zero es o c = refl
blank_set a (suc m) es o c = blank_set (suc a) m es o (set c a (get_or c a 0 + 1))

-- there is room for that
blank_room : (n a m : ℕ) (c : List ℕ) → Room one_step bit_at n counter_max (blank a m) c → CounterRoom one_step (blank a m) c
unfolding consecutive
blank_room n a zero c r = tt
blank_room n a (suc m) c r = (r.0, r.1, tt, blank_room n (suc a) m (set c a (get_or c a 0 + 1)) r.3)

-- one bit
one_set : (e : Emission Bool) (z : ByteState) → set_all one_step bit_at (e ∷ []) z ≡ set_at_cursor one_step bit_at e z
unfolding set_all
one_set e z = refl

-- no bit
none_set : (z : ByteState) → set_all one_step bit_at [] z ≡ z
unfolding set_all
none_set z = refl

-- one bit, then others
next_set : (e : Emission Bool) (es : List (Emission Bool)) (z : ByteState) → set_all one_step bit_at (e ∷ es) z ≡ set_all one_step bit_at es (set_at_cursor one_step bit_at e z)
unfolding set_all
next_set e es z = refl

blank_alone : (a m : ℕ) (o c : List ℕ) → set_all one_step bit_at (blank a m) (byte_state o c) ≡ byte_state o (counts one_step (blank a m) c)
blank_alone a m o c = ap (λ (es : List (Emission Bool)). set_all one_step bit_at es (byte_state o c)) (sym (append-nil (blank a m))) ∙ blank_set a m [] o c ∙ none_set (byte_state o (counts one_step (blank a m) c))

module _ (l : LevelRange) (k : Key) (b d : ℕ) (e : b ≡ pred k.first) (level : d ≡ leaf_level_of k) (h : b < k.len) where
  module _ (x y : ℕ) (from : x ≡ max b l.lo) (to : y ≡ min d l.hi) where
    leaves_split : listed_leaves l k ≡ blank x (y - x) ++ cond (among l d) (emission d true ∷ []) []
    leaves_split = leaves_are l k b d e level h ∙ ap₂ (λ (i j : ℕ). blank i (j - i) ++ cond (among l d) (emission d true ∷ []) []) (sym from) (sym to)

    -- room for the cursors up to the leaf's level
    pub leaf_cursors : (size : ℕ) (c : List ℕ) → BitsRoom (listed_leaves l k) size c → CounterRoom one_step (blank x (y - x)) c
    leaf_cursors size c r = blank_room (8 * size) x (y - x) c (room_append one_step bit_at (8 * size) counter_max (blank x (y - x)) (cond (among l d) (emission d true ∷ []) []) c (rw leaves_split at r)).0

    -- room for the bit on the leaf's level
    pub leaf_room : (size : ℕ) (c c' : List ℕ) → BitsRoom (listed_leaves l k) size c → c' ≡ counts one_step (blank x (y - x)) c → among l d ≡ true → BitsRoom (emission d true ∷ []) size c'
    leaf_room size c c' r q g =
        let t = (room_append one_step bit_at (8 * size) counter_max (blank x (y - x)) (cond (among l d) (emission d true ∷ []) []) c (rw leaves_split at r)).1 in
        subst (λ (i : List ℕ). BitsRoom (emission d true ∷ []) size i) (sym q) (subst (λ (i : Bool). BitsRoom (cond i (emission d true ∷ []) []) size (counts one_step (blank x (y - x)) c)) g t)

    -- what the bit and the cursors leave
    pub leaf_does : (o c c' : List ℕ) (z : ByteState) → c' ≡ counts one_step (blank x (y - x)) c → among l d ≡ true → z ≡ set_at_cursor one_step bit_at (emission d true) (byte_state o c') → z ≡ set_all one_step bit_at (listed_leaves l k) (byte_state o c)
    leaf_does o c c' z q g w =
        w ∙ ap (λ (i : List ℕ). set_at_cursor one_step bit_at (emission d true) (byte_state o i)) q ∙ sym (one_set (emission d true) (byte_state o (counts one_step (blank x (y - x)) c)))
        ∙ ap (λ (i : Bool). set_all one_step bit_at (cond i (emission d true ∷ []) []) (byte_state o (counts one_step (blank x (y - x)) c))) (sym g)
        ∙ sym (ap (λ (es : List (Emission Bool)). set_all one_step bit_at es (byte_state o c)) leaves_split ∙ blank_set x (y - x) (cond (among l d) (emission d true ∷ []) []) o c)

    -- what the cursors leave where no bit is set
    pub leaf_none : (o c c' : List ℕ) → c' ≡ counts one_step (blank x (y - x)) c → among l d ≡ false → byte_state o c' ≡ set_all one_step bit_at (listed_leaves l k) (byte_state o c)
    leaf_none o c c' q g =
        ap (byte_state o) q ∙ sym (none_set (byte_state o (counts one_step (blank x (y - x)) c)))
        ∙ ap (λ (i : Bool). set_all one_step bit_at (cond i (emission d true ∷ []) []) (byte_state o (counts one_step (blank x (y - x)) c))) (sym g)
        ∙ sym (ap (λ (es : List (Emission Bool)). set_all one_step bit_at es (byte_state o c)) leaves_split ∙ blank_set x (y - x) (cond (among l d) (emission d true ∷ []) []) o c)

  -- room for the bit on the level where a key leaves the key before it
  pub later_room : (size : ℕ) (c : List ℕ) → BitsRoom (listed_later l k) size c → among l b ≡ true → BitsRoom (emission b (not (leb k.first b)) ∷ []) size c
  later_room size c r g =
      subst (λ (i : Bool). BitsRoom (cond i (emission b (not (leb k.first b)) ∷ []) []) size c) g
      (room_append one_step bit_at (8 * size) counter_max (cond (among l b) (emission b (not (leb k.first b)) ∷ []) []) (blank (max (suc b) l.lo) (min (suc d) l.hi - max (suc b) l.lo)) c (rw (later_are l k b d e level h) at r)).0

  module _ (x y : ℕ) (from : x ≡ max (b + 1) l.lo) (to : y ≡ min (d + 1) l.hi) where
    later_split : (i : Bool) → among l b ≡ i → listed_later l k ≡ cond i (emission b (not (leb k.first b)) ∷ []) [] ++ blank x (y - x)
    later_split i g =
        let u : max (suc b) l.lo ≡ x = omega arith in
        let v : min (suc d) l.hi ≡ y = omega arith in
        later_are l k b d e level h ∙ ap (λ (j : Bool). cond j (emission b (not (leb k.first b)) ∷ []) [] ++ blank (max (suc b) l.lo) (min (suc d) l.hi - max (suc b) l.lo)) g
        ∙ ap₂ (λ (m n : ℕ). cond i (emission b (not (leb k.first b)) ∷ []) [] ++ blank m (n - m)) u v

    -- room for the cursors behind the bit
    pub later_cursors : (size : ℕ) (o o' c c' : List ℕ) → BitsRoom (listed_later l k) size c → among l b ≡ true → byte_state o' c' ≡ set_at_cursor one_step bit_at (emission b (not (leb k.first b))) (byte_state o c) → CounterRoom one_step (blank x (y - x)) c'
    later_cursors size o o' c c' r g w =
        let q : BitsRoom (emission b (not (leb k.first b)) ∷ blank x (y - x)) size c = rw (later_split true g) at r in
        blank_room (8 * size) x (y - x) c' (subst (λ (i : List ℕ). BitsRoom (blank x (y - x)) size i) (sym (ap (λ (z : ByteState). z.cursors) w)) q.3)

    -- and where there is none
    pub later_cursors_only : (size : ℕ) (c : List ℕ) → BitsRoom (listed_later l k) size c → among l b ≡ false → CounterRoom one_step (blank x (y - x)) c
    later_cursors_only size c r g = blank_room (8 * size) x (y - x) c (rw (later_split false g) at r)

    -- what the bit and the cursors leave
    pub later_does : (o o' c c' c'' : List ℕ) → among l b ≡ true → byte_state o' c' ≡ set_at_cursor one_step bit_at (emission b (not (leb k.first b))) (byte_state o c) → c'' ≡ counts one_step (blank x (y - x)) c'
        → byte_state o' c'' ≡ set_all one_step bit_at (listed_later l k) (byte_state o c)
    later_does o o' c c' c'' g w q =
        ap (byte_state o') q ∙ sym (blank_alone x (y - x) o' c') ∙ ap (set_all one_step bit_at (blank x (y - x))) w
        ∙ sym (ap (λ (es : List (Emission Bool)). set_all one_step bit_at es (byte_state o c)) (later_split true g) ∙ next_set (emission b (not (leb k.first b))) (blank x (y - x)) (byte_state o c))

    -- what the cursors leave where no bit is set
    pub later_none : (o c c'' : List ℕ) → among l b ≡ false → c'' ≡ counts one_step (blank x (y - x)) c → byte_state o c'' ≡ set_all one_step bit_at (listed_later l k) (byte_state o c)
    later_none o c c'' g q = ap (byte_state o) q ∙ sym (blank_alone x (y - x) o c) ∙ sym (ap (λ (es : List (Emission Bool)). set_all one_step bit_at es (byte_state o c)) (later_split false g))

room_mapped : {A B : Type 0} (f : A → B) (inc : B → ℕ) (ones-at : ℕ → B → List ℕ) (n top : ℕ) (es : List (Emission A)) (c : List ℕ) → Room (λ x. inc (f x)) (λ c x. ones-at c (f x)) n top es c → Room inc ones-at n top (map_emissions f es) c
unfolding map_emissions
room_mapped f inc ones-at n top [] c r = tt
room_mapped f inc ones-at n top (emission d x ∷ es) c r = (r.0, r.1, r.2, room_mapped f inc ones-at n top es (set c d (get_or c d 0 + inc (f x))) r.3)

module _ (l : LevelRange) (k : Key) (b : Bytes) (e : length b ≡ k.len) where
  leaves_listed : map_emissions (λ (x : Entry). not x.child) (listed_entries l k b) ≡ listed_leaves l k
  leaves_listed =
      map_key (λ (x : Entry). not x.child) l.lo l.hi (entry_at k.first k.next b) exact_entry (pred k.first) k.next (length b)
      ∙ ap (λ (n : ℕ). key_emissions l.lo l.hi (λ d. not (continues_at k.first k.next n d)) true (pred k.first) k.next n) e

  later_listed : map_emissions (λ (x : Entry). not x.start) (listed_entries l k b) ≡ listed_later l k
  later_listed =
      map_key (λ (x : Entry). not x.start) l.lo l.hi (entry_at k.first k.next b) exact_entry (pred k.first) k.next (length b)
      ∙ ap (λ (n : ℕ). key_emissions l.lo l.hi (λ d. not (leb k.first d)) false (pred k.first) k.next n) e

  -- a key's entries in S-HasChild
  pub leaves_written : (z : ByteState) → set_all one_step bit_at (listed_leaves l k) z ≡ write_entries SC (listed_entries l k b) z
  leaves_written z = sym (leaves_set (listed_entries l k b) z ∙ ap (λ (es : List (Emission Bool)). set_all one_step bit_at es z) leaves_listed)

  -- room for them
  pub leaves_ask : (size : ℕ) (c : List ℕ) → EntriesRoom SC (listed_entries l k b) size c → BitsRoom (listed_leaves l k) size c
  leaves_ask size c r = subst (λ (es : List (Emission Bool)). BitsRoom es size c) leaves_listed (room_mapped (λ (x : Entry). not x.child) one_step bit_at (8 * size) counter_max (listed_entries l k b) c r)

  -- its entries in S-LOUDS
  pub later_written : (z : ByteState) → set_all one_step bit_at (listed_later l k) z ≡ write_entries SB (listed_entries l k b) z
  later_written z = sym (later_set (listed_entries l k b) z ∙ ap (λ (es : List (Emission Bool)). set_all one_step bit_at es z) later_listed)

  -- room for them
  pub later_ask : (size : ℕ) (c : List ℕ) → EntriesRoom SB (listed_entries l k b) size c → BitsRoom (listed_later l k) size c
  later_ask size c r = subst (λ (es : List (Emission Bool)). BitsRoom es size c) later_listed (room_mapped (λ (x : Entry). not x.start) one_step bit_at (8 * size) counter_max (listed_entries l k b) c r)
