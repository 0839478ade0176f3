-- A key against the highest and the lowest possible key of a leaf, as tests that count leaves before the key.
use Rattle.std.specs.Prelude.{ℕ, ◌-◌, ◌≤◌, ◌≡◌, refl, Bool, true, false, cond, not, ◌&&◌, ◌||◌, [], ◌∷◌, ◌++◌, length, take, drop, replicate, ltb, eqb}
use Rattle.std.proofs.Common.{sym, ap, ◌∙◌, true≢false, arith, length-drop, eq-eqb, ne_eqb, eqb-true, ltb-true, ltb-false, lt-ltb, le-ltb}
use Rattle.std.proofs.lemmas.Bool.{eqb-false}
use Rattle.spec.specs.Bytes.{Bytes, Bits, blocks, begins, equal, filled}
use Rattle.spec.specs.Keys.{below}
use Rattle.spec.specs.Leaves.{Leaf, real, highest, lowest, trimmed}
use Rattle.theory.proofs.Order.{below_asym, equal_order}
use Rattle.nav_nodes.specs.Counting.{counts}

-- an open leaf's highest key behind its cut key of c bytes
unfoldable pub high_rest : ℕ → Bits → Bytes
unfolding filled
high_rest c s = take (64 - c) (filled true (blocks 8 (length s)) s ++ replicate 64 255)

-- its lowest key behind the cut
unfoldable pub low_rest : ℕ → Bits → Bytes
unfolding filled trimmed
low_rest c s = trimmed (take (64 - c) (filled false (blocks 8 (length s)) s))

-- The highest key of an open leaf, whose cut key the key of n bytes begins with and has r left, lies below the key.
unfoldable pub high_passed : ℕ → Bits → Bytes → Bool
unfolding high_rest below
high_passed n s r = below (high_rest (n - length r) s) r

-- The lowest key of such a leaf does not lie above the key.
unfoldable pub low_reached : ℕ → Bits → Bytes → Bool
unfolding low_rest below
low_reached n s r = not (below r (low_rest (n - length r) s))

-- The same of a slot whose real bits stand behind h hash bits.
abbrev pub slot_passed : ℕ → ℕ → Bits → Bytes → Bool
slot_passed h n s r = high_passed n (drop h s) r

abbrev pub slot_reached : ℕ → ℕ → Bits → Bytes → Bool
slot_reached h n s r = low_reached n (drop h s) r

-- a test and one that never passes
pub and-false : (b : Bool) → b && false ≡ false
and-false true = refl
and-false false = refl

or-false : (b : Bool) → b || false ≡ b
or-false true = refl
or-false false = refl

-- a key behind a cut key that it begins with, or not
below_behind : (c t k : Bytes) → below (c ++ t) k ≡ (below c k && not (begins c k)) || (begins c k && below t (drop (length c) k))
unfolding below begins
below_behind [] t k = rw (and-false (below [] k))
below_behind (x ∷ c) t [] = refl
below_behind (x ∷ c) t (y ∷ k) = go (ltb x y) refl (eqb x y) refl (below_behind c t k)
  where
    go : (a : Bool) → ltb x y ≡ a → (b : Bool) → eqb x y ≡ b → below (c ++ t) k ≡ (below c k && not (begins c k)) || (begins c k && below t (drop (length c) k))
        → a || (b && below (c ++ t) k) ≡ ((a || (b && below c k)) && not (b && begins c k)) || ((b && begins c k) && below t (drop (length c) k))
    go true p true e ih = absurd (omega (arith, ltb-true x y p, eqb-true x y e))
    go true p false e ih = refl
    go false p true e ih = ih
    go false p false e ih = refl

not_above : (c t k : Bytes) → not (below k (c ++ t)) ≡ (below c k && not (begins c k)) || (begins c k && not (below (drop (length c) k) t))
unfolding below begins
not_above [] t k = rw (and-false (below [] k))
not_above (x ∷ c) t [] = refl
not_above (x ∷ c) t (y ∷ k) = go (ltb x y) refl (eqb x y) refl (not_above c t k)
  where
    go : (a : Bool) → ltb x y ≡ a → (b : Bool) → eqb x y ≡ b → not (below k (c ++ t)) ≡ (below c k && not (begins c k)) || (begins c k && not (below (drop (length c) k) t))
        → not (ltb y x || (eqb y x && below k (c ++ t))) ≡ ((a || (b && below c k)) && not (b && begins c k)) || ((b && begins c k) && not (below (drop (length c) k) t))
    go true p true e ih = absurd (omega (arith, ltb-true x y p, eqb-true x y e))
    go true p false e ih = let l = ltb-true x y p in rw (le-ltb y x (omega arith), ne_eqb y x (λ z. omega arith))
    go false p true e ih = let z = eqb-true x y e in rw (le-ltb y x (omega arith), eq-eqb y x (sym z)) ih
    go false p false e ih = let n = eqb-false x y e in let l = ltb-false x y p in rw (lt-ltb y x (omega arith))

begins_length : (c k : Bytes) → begins c k ≡ true → length c ≤ length k
unfolding begins
begins_length [] k h = omega arith
begins_length (x ∷ c) [] h = absurd (true≢false (sym h))
begins_length (x ∷ c) (y ∷ k) h = omega (arith, begins_length c k (second (eqb x y) h))
  where
    second : (b : Bool) → b && begins c k ≡ true → begins c k ≡ true
    second true p = p
    second false p = absurd (true≢false (sym p))

-- the cut key's length, from the rest of the key
cut_length : (c k : Bytes) → begins c k ≡ true → length k - length (drop (length c) k) ≡ length c
cut_length c k h = omega (arith, length-drop (length c) k, begins_length c k h)

-- A test of the rest of the key is asked only where the cut key begins the key.
if_begins : (c k : Bytes) (f g : Bytes → Bool) → (begins c k ≡ true → f (drop (length c) k) ≡ g (drop (length c) k)) → begins c k && f (drop (length c) k) ≡ begins c k && g (drop (length c) k)
if_begins c k f g h = go (begins c k) h
  where
    go : (b : Bool) → (b ≡ true → f (drop (length c) k) ≡ g (drop (length c) k)) → b && f (drop (length c) k) ≡ b && g (drop (length c) k)
    go true h = h refl
    go false h = refl

-- The highest key lies below the key exactly if the leaf counts before it, an exact leaf of that very key not among them.
pub highest_counts : (l : Leaf) (k : Bytes) → below (highest l) k ≡ counts false (high_passed (length k)) k l
unfolding highest counts high_passed high_rest
highest_counts l k = go l.exact
  where
    go : (e : Bool) → below (cond e l.cut (l.cut ++ high_rest (length l.cut) l.suffix)) k
        ≡ cond e (below l.cut k || (false && equal l.cut k))
        ((below l.cut k && not (begins l.cut k)) || (begins l.cut k && below (high_rest (length k - length (drop (length l.cut) k)) l.suffix) (drop (length l.cut) k)))
    go true = sym (or-false (below l.cut k))
    go false =
        below_behind l.cut (high_rest (length l.cut) l.suffix) k
        ∙ ap (λ (b : Bool). (below l.cut k && not (begins l.cut k)) || b)
        (if_begins l.cut k (λ r. below (high_rest (length l.cut) l.suffix) r) (λ r. below (high_rest (length k - length r) l.suffix) r)
        (λ h. ap (λ (c : ℕ). below (high_rest c l.suffix) (drop (length l.cut) k)) (sym (cut_length l.cut k h))))

-- The lowest key does not lie above the key exactly if the leaf counts before it, an exact leaf of that very key among them.
pub lowest_counts : (l : Leaf) (k : Bytes) → not (below k (lowest l)) ≡ counts true (low_reached (length k)) k l
unfolding lowest counts low_reached low_rest
lowest_counts l k = go l.exact
  where
    exact : (a b : Bool) → below l.cut k ≡ a → below k l.cut ≡ b → not b ≡ a || (not b && not a)
    exact true true p q = absurd (true≢false (sym q ∙ below_asym l.cut k p))
    exact true false p q = refl
    exact false true p q = refl
    exact false false p q = refl

    go : (e : Bool) → not (below k (cond e l.cut (l.cut ++ low_rest (length l.cut) l.suffix)))
        ≡ cond e (below l.cut k || (true && equal l.cut k))
        ((below l.cut k && not (begins l.cut k)) || (begins l.cut k && not (below (drop (length l.cut) k) (low_rest (length k - length (drop (length l.cut) k)) l.suffix))))
    go true = exact (below l.cut k) (below k l.cut) refl refl ∙ ap (λ (b : Bool). below l.cut k || b) (sym (equal_order l.cut k))
    go false =
        not_above l.cut (low_rest (length l.cut) l.suffix) k
        ∙ ap (λ (b : Bool). (below l.cut k && not (begins l.cut k)) || b)
        (if_begins l.cut k (λ r. not (below r (low_rest (length l.cut) l.suffix))) (λ r. not (below r (low_rest (length k - length r) l.suffix)))
        (λ h. ap (λ (c : ℕ). not (below (drop (length l.cut) k) (low_rest c l.suffix))) (sym (cut_length l.cut k h))))

-- ---- leaves with hash bits

-- The highest key of a leaf with its hash bits struck out.
pub real_highest : (h : ℕ) (l : Leaf) (k : Bytes) → below (highest (real h l)) k ≡ counts false (slot_passed h (length k)) k l
unfolding counts real
real_highest h l k = highest_counts (real h l) k

-- Its lowest key.
pub real_lowest : (h : ℕ) (l : Leaf) (k : Bytes) → not (below k (lowest (real h l))) ≡ counts true (slot_reached h (length k)) k l
unfolding counts real
real_lowest h l k = lowest_counts (real h l) k
