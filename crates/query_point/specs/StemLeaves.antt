-- A stem against a leaf: the leaf has a possible key that begins with the stem exactly if its cut key does, or if the leaf is open, its cut key begins the stem and its suffix agrees with the rest of the stem.
use Rattle.std.specs.Prelude.{ℕ, zero, suc, ◌+◌, ◌-◌, ◌*◌, ◌<◌, ◌≤◌, ◌≡◌, Bool, cond, ◌&&◌, ◌||◌, List, [], ◌∷◌, ◌++◌, get_or, drop, replicate, leb, ltb, eqb}
use Rattle.std.proofs.Math.Path.{refl, ap}
use Rattle.std.proofs.Common.{sym, ap₂, ◌∙◌, true≢false, append_assoc, append-nil, arith, length-append, length-drop, drop_of_length-le}
use Rattle.std.proofs.Math.Bool.{true, false, not, and-false, and_comm}
use Rattle.std.proofs.Math.ListN.{length}
use borrow.Author.Tests.{le-leb, lt-leb, eq-eqb, lt-ltb, le-ltb, not-true}
use Rattle.spec.specs.Bytes.{Bytes, Bits, any, bit, begins, fill, filled}
use Rattle.spec.specs.Keys.{below, within}
use Rattle.spec.specs.Leaves.{Leaf, real, reals, trimmed, lowest, highest}
use Rattle.spec.specs.Questions.{meets, range, stem_end, begins_with}
use Rattle.theory.specs.Terms.{IsBytes, Key, Bound}
use Rattle.theory.proofs.Lists.{and_both, le_or_lt, bytes_drop}
use Rattle.theory.proofs.Order.{below_nil, below_append, prefix_append, begins_append, begins_through}
use Rattle.theory.proofs.LeafLists.{RealSized, AllRealSized}
use Rattle.theory.proofs.Intervals.{fill_order, fill_tight, trimmed_below, combine, bytes_filled, bytes_trimmed, trimmed_length, lowest_key, highest_key}
use Rattle.theory.proofs.Stems.{below_ff, stem_exactly}
use Rattle.query_descent.specs.Bounds.{high_rest, low_rest}
use Rattle.query_descent.specs.SuffixBytes.{high_filled, low_filled, next_bits, key_next}
use Rattle.query_descent.specs.LowestKeys.{filled_length}

-- The suffix agrees with the bytes of a stem behind the cut key, as far as both go: each of these bytes lies between the suffix's byte filled with zeros and the same filled with ones.
unfoldable pub agrees : Bits → Bytes → Bool
unfolding fill
agrees s [] = true
agrees s (y ∷ r) = (leb (fill false 8 s) y && leb y (fill true 8 s)) && agrees (drop 8 s) r

-- The same of a slot whose real bits stand behind h hash bits.
abbrev pub slot_agrees : ℕ → Bits → Bytes → Bool
slot_agrees h s r = agrees (drop h s) r

-- The leaf has a possible key that begins with the stem, by its cut key, and by a test q of an open leaf's suffix against the rest of the stem.
unfoldable pub covers : (Bits → Bytes → Bool) → Bytes → Leaf → Bool
unfolding begins
covers q stem l = begins stem l.cut || (not l.exact && (begins l.cut stem && q l.suffix (drop (length l.cut) stem)))

-- ---- the suffix

-- bits that have ended agree with all bytes
agrees_none : (s : Bits) (r : Bytes) → length s ≡ 0 → IsBytes r → agrees s r ≡ true
unfolding agrees fill
agrees_none s [] h b = refl
agrees_none [] (y ∷ r) h b = rw (le-leb 0 y (omega arith), le-leb y 255 (omega (arith, b.0)), agrees_none [] r refl b.1)
agrees_none (a ∷ s) (y ∷ r) h b = absurd (omega arith)

-- what is left to compare at byte i of the stem, d of its bytes being the cut key
abbrev pub agrees_from : Bits → Bytes → ℕ → ℕ → Bool
agrees_from s k d i = agrees (drop (8 * (i - d)) s) (drop i k)

-- from the cut on
pub agrees_whole : (s : Bits) (k : Bytes) (d : ℕ) → agrees s (drop d k) ≡ agrees_from s k d d
agrees_whole s k d = let e : 8 * (d - d) ≡ 0 = omega arith in rw e refl

module _ (s : Bits) (k : Bytes) (d i : ℕ) where
  -- the stem has ended
  pub agrees_ended : length k ≤ i → agrees_from s k d i ≡ true
  unfolding agrees
  agrees_ended h = ap (agrees (drop (8 * (i - d)) s)) (drop_of_length-le k {i = i} h)

  -- the suffix has ended
  pub agrees_past : length s ≤ 8 * (i - d) → IsBytes k → agrees_from s k d i ≡ true
  agrees_past h b = agrees_none (drop (8 * (i - d)) s) (drop i k) (omega (arith, length-drop (8 * (i - d)) s)) (bytes_drop i k b)

  module _ (h : i < length k) where
    -- by the stem's byte
    byte_agrees : agrees_from s k d i ≡ (leb (fill false 8 (drop (8 * (i - d)) s)) (get_or k i 0) && leb (get_or k i 0) (fill true 8 (drop (8 * (i - d)) s))) && agrees (drop 8 (drop (8 * (i - d)) s)) (drop (i + 1) k)
    unfolding agrees
    byte_agrees = ap (agrees (drop (8 * (i - d)) s)) (key_next k i h)

    -- the stem's byte is below the suffix's
    pub agrees_less : get_or k i 0 < fill false 8 (drop (8 * (i - d)) s) → agrees_from s k d i ≡ false
    agrees_less l = byte_agrees ∙ rw (lt-leb (fill false 8 (drop (8 * (i - d)) s)) (get_or k i 0) l)

    -- it is above it
    pub agrees_more : fill true 8 (drop (8 * (i - d)) s) < get_or k i 0 → agrees_from s k d i ≡ false
    agrees_more l = byte_agrees ∙ rw (lt-leb (get_or k i 0) (fill true 8 (drop (8 * (i - d)) s)) l, and-false (leb (fill false 8 (drop (8 * (i - d)) s)) (get_or k i 0)))

    -- it is neither
    pub agrees_next : d ≤ i → fill false 8 (drop (8 * (i - d)) s) ≤ get_or k i 0 → get_or k i 0 ≤ fill true 8 (drop (8 * (i - d)) s) → agrees_from s k d i ≡ agrees_from s k d (i + 1)
    agrees_next lo l u =
        byte_agrees ∙ rw (le-leb (fill false 8 (drop (8 * (i - d)) s)) (get_or k i 0) l, le-leb (get_or k i 0) (fill true 8 (drop (8 * (i - d)) s)) u)
        (ap (λ (z : Bits). agrees z (drop (i + 1) k)) (next_bits s k d i lo))

-- Behind the cut key, with k bytes left of 64: the stem filled with FF is not below the lowest key, nor the highest key below the stem, exactly if the suffix agrees.
agreed : (k m : ℕ) (s : Bits) (r : Bytes) → IsBytes r → k ≡ length r + m
    → not (below (r ++ replicate m 255) (trimmed (filled false k s))) && not (below (filled true k s) r) ≡ agrees s r
unfolding agrees filled below
agreed k m s [] b e =
    let l = below_ff m (trimmed (filled false k s)) (omega (arith, trimmed_length (filled false k s), filled_length false k s)) (bytes_trimmed (filled false k s) (bytes_filled false k s)) in
    rw (l, below_nil (filled true k s))
agreed zero m s (y ∷ r) b e = absurd (omega arith)
agreed (suc k) m s (y ∷ r) b e =
    let ih = agreed k m (drop 8 s) r b.1 (omega arith) in
    let low : Bool = below (r ++ replicate m 255) (trimmed (filled false k (drop 8 s))) in
    let high : Bool = below (filled true k (drop 8 s)) r in
    let free : (fill false 8 s ≡ fill true 8 s → ⊥) → agrees (drop 8 s) r ≡ true = λ ne. le_or_lt 8 (length s) (λ c. absurd (ne (fill_tight 8 s c))) (λ c. agrees_none (drop 8 s) r (omega (arith, length-drop 8 s)) b.1) in
    rw (trimmed_below y (r ++ replicate m 255) (fill false 8 s) (filled false k (drop 8 s)))
    (sym (combine (fill false 8 s) (fill true 8 s) y low high (fill_order 8 s).0 (λ ne. ih ∙ free ne)) ∙ ap (λ (t : Bool). (leb (fill false 8 s) y && leb y (fill true 8 s)) && t) ih)

-- ---- prefixes

-- where neither of two keys begins the other, all that begins with one lies on one side of all that begins with the other
apart : (c p t u v : Bytes) → begins c p ≡ false → begins p c ≡ false → not (below (p ++ v) (c ++ t)) && not (below (c ++ u) p) ≡ false
unfolding below begins
apart [] p t u v g h = absurd (true≢false g)
apart (x ∷ c) [] t u v g h = absurd (true≢false h)
apart (x ∷ c) (y ∷ p) t u v g h =
    le_or_lt x y
    (λ a. le_or_lt y x
    (λ b. let e : x ≡ y = omega arith in let f : y ≡ x = sym e in
    rw (le-ltb x y b, le-ltb y x a, eq-eqb x y e, eq-eqb y x f) (apart c p t u v (rw (eq-eqb x y e) at g) (rw (eq-eqb y x f) at h)))
    (λ b. rw (lt-ltb x y b) (and-false (not (ltb y x || (eqb y x && below (p ++ v) (c ++ t)))))))
    (λ a. rw (lt-ltb y x a))

-- ---- the leaf

-- the cut key begins the lowest key
low_begins : (l : Leaf) → begins l.cut (lowest l) ≡ true
unfolding lowest low_rest
low_begins l = go l.exact
  where
    go : (e : Bool) → begins l.cut (cond e l.cut (l.cut ++ low_rest (length l.cut) l.suffix)) ≡ true
    go true = rw (append-nil l.cut) at (begins_append l.cut [])
    go false = begins_append l.cut (low_rest (length l.cut) l.suffix)

-- and the highest
high_begins : (l : Leaf) → begins l.cut (highest l) ≡ true
unfolding highest high_rest
high_begins l = go l.exact
  where
    go : (e : Bool) → begins l.cut (cond e l.cut (l.cut ++ high_rest (length l.cut) l.suffix)) ≡ true
    go true = rw (append-nil l.cut) at (begins_append l.cut [])
    go false = begins_append l.cut (high_rest (length l.cut) l.suffix)

module _ {n : ℕ} (l : Leaf) (o : RealSized n l) (stem : Bytes) (b : Bound stem) where
  -- a key of the leaf that begins with the stem is in the stem's range
  in_range : (k : Bytes) → Key k → begins l.cut k ≡ true → begins stem l.cut ≡ true → (below k stem ≡ false) × (below (stem_end stem) k ≡ false)
  unfolding within
  in_range k q c p =
      let w = and_both (not (below k stem)) (not (below (stem_end stem) k)) (stem_exactly stem k q.fits q.bytes ∙ begins_through stem l.cut k p c) in
      (not-true (below k stem) w.0, not-true (below (stem_end stem) k) w.1)

  -- the cut key begins the stem, and the leaf is open
  behind_cut : begins l.cut stem ≡ true
      → not (below (stem_end stem) (l.cut ++ low_rest (length l.cut) l.suffix)) && not (below (l.cut ++ high_rest (length l.cut) l.suffix) stem) ≡ agrees l.suffix (drop (length l.cut) stem)
  behind_cut p =
      let c : Bytes = l.cut in
      let r : Bytes = drop (length c) stem in
      let m : ℕ = 64 - length stem in
      let e : stem ≡ c ++ r = prefix_append c stem p in
      let f : stem_end stem ≡ c ++ (r ++ replicate m 255) = ap (λ (z : Bytes). z ++ replicate m 255) e ∙ append_assoc c r (replicate m 255) in
      let low : below (stem_end stem) (c ++ low_rest (length c) l.suffix) ≡ below (r ++ replicate m 255) (low_rest (length c) l.suffix) =
      ap (λ (z : Bytes). below z (c ++ low_rest (length c) l.suffix)) f ∙ below_append c (r ++ replicate m 255) (low_rest (length c) l.suffix) in
      let high : below (c ++ high_rest (length c) l.suffix) stem ≡ below (high_rest (length c) l.suffix) r =
      ap (below (c ++ high_rest (length c) l.suffix)) e ∙ below_append c (high_rest (length c) l.suffix) r in
      rw (low, high, low_filled (length c) l.suffix, high_filled (length c) l.suffix)
      (agreed (64 - length c) m l.suffix r (bytes_drop (length c) stem b.bytes) (omega (arith, b.fits, ap length e, length-append c r)))

  -- the cut key does not begin with the stem
  outside_cut : begins stem l.cut ≡ false → meets stem (stem_end stem) l ≡ not l.exact && (begins l.cut stem && agrees l.suffix (drop (length l.cut) stem))
  unfolding meets lowest highest low_rest high_rest within
  outside_cut p = go l.exact
    where
      open_leaf : (t : Bool) → begins l.cut stem ≡ t
          → not (below (stem_end stem) (l.cut ++ low_rest (length l.cut) l.suffix)) && not (below (l.cut ++ high_rest (length l.cut) l.suffix) stem) ≡ t && agrees l.suffix (drop (length l.cut) stem)
      open_leaf true q = behind_cut q
      open_leaf false q = apart l.cut stem (low_rest (length l.cut) l.suffix) (high_rest (length l.cut) l.suffix) (replicate (64 - length stem) 255) q p

      go : (e : Bool) → not (below (stem_end stem) (cond e l.cut (l.cut ++ low_rest (length l.cut) l.suffix))) && not (below (cond e l.cut (l.cut ++ high_rest (length l.cut) l.suffix)) stem)
          ≡ not e && (begins l.cut stem && agrees l.suffix (drop (length l.cut) stem))
      go true = and_comm (not (below (stem_end stem) l.cut)) (not (below l.cut stem)) ∙ stem_exactly stem l.cut o.key.fits o.key.bytes ∙ p
      go false = open_leaf (begins l.cut stem) refl

  -- The leaf meets the stem's range exactly if it has a possible key that begins with the stem.
  meets_covers : meets stem (stem_end stem) l ≡ covers agrees stem l
  unfolding meets covers
  meets_covers = go (begins stem l.cut) refl
    where
      go : (t : Bool) → begins stem l.cut ≡ t
          → not (below (stem_end stem) (lowest l)) && not (below (highest l) stem) ≡ t || (not l.exact && (begins l.cut stem && agrees l.suffix (drop (length l.cut) stem)))
      go true p = rw ((in_range (lowest l) (lowest_key l o) (low_begins l) p).1, (in_range (highest l) (highest_key l o) (high_begins l) p).0)
      go false p = outside_cut p

-- over leaves with their h hash bits struck out
any_covers : (h n : ℕ) (ls : List Leaf) → AllRealSized n (reals h ls) → (stem : Bytes) → Bound stem → any (meets stem (stem_end stem)) (reals h ls) ≡ any (covers (slot_agrees h) stem) ls
unfolding any reals covers real
any_covers h n [] o stem b = refl
any_covers h n (l ∷ ls) o stem b = ap₂ ◌||◌ (meets_covers (real h l) o.0 stem b) (any_covers h n ls o.1 stem b)

-- Begins-with: 1 if some leaf has a possible key that begins with the stem, else 0.
pub begins_covers : (h n : ℕ) (ls : List Leaf) → AllRealSized n (reals h ls) → (stem : Bytes) → Bound stem → begins_with (reals h ls) stem ≡ bit (any (covers (slot_agrees h) stem) ls)
unfolding begins_with range
begins_covers h n ls o stem b = ap bit (any_covers h n ls o stem b)
