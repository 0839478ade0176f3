-- The lowest key of an open leaf, byte by byte: the suffix filled up with zero bits behind the cut key, and how far it goes less trailing zero bytes.
use Rattle.std.specs.Prelude.{ℕ, zero, suc, ◌+◌, ◌-◌, ◌*◌, ◌<◌, ◌≤◌, ◌≡◌, refl, Bool, cond, [], ◌∷◌, ◌++◌, ◌⊎◌, length, get_or, drop, set, eqb}
use Rattle.std.proofs.Math.Path.{sym, ap}
use Rattle.std.proofs.Common.{◌∙◌, append_assoc, append-nil, inl, inr, add-one, take-suc, take_all, take-suc-set, drop-drop, ne_eqb}
use Rattle.std.proofs.Math.Bool.{false}
use native.Mathlib.Omega.{arith}
use Rattle.std.proofs.Math.ListN.{take}
use Rattle.std.proofs.lemmas.List.{take-set-le}
use Rattle.spec.specs.Bytes.{Bytes, Bits, blocks, fill, filled}
use Rattle.spec.specs.Leaves.{trimmed}
use Rattle.query_descent.specs.Bounds.{low_rest}

-- the first j bytes of a suffix, filled up with zero bits to whole bytes
abbrev pub suffix_bytes : ℕ → Bits → Bytes
suffix_bytes j s = take j (filled false (blocks 8 (length s)) s)

-- ---- trailing zero bytes

-- a zero byte at the end is dropped
trimmed_zero : (xs : Bytes) → trimmed (xs ++ (0 ∷ [])) ≡ trimmed xs
unfolding trimmed
trimmed_zero [] = refl
trimmed_zero (x ∷ xs) = rw (trimmed_zero xs)

-- any other byte at the end is kept, with all before it
trimmed_last : (xs : Bytes) (x : ℕ) → (x ≡ 0 → ⊥) → trimmed (xs ++ (x ∷ [])) ≡ xs ++ (x ∷ [])
unfolding trimmed
trimmed_last [] x n = rw (ne_eqb x 0 n)
trimmed_last (y ∷ xs) x n = rw (trimmed_last xs x n) (some xs)
  where
    some : (xs : Bytes) → elim (xs ++ (x ∷ [])) [ [] ↦ cond (eqb y 0) [] (y ∷ []) | z ∷ zs ↦ y ∷ z ∷ zs ] ≡ y ∷ xs ++ (x ∷ [])
    some [] = refl
    some (z ∷ zs) = refl

-- ---- the bytes of a suffix

-- m bytes are m bytes long
pub filled_length : (f : Bool) (m : ℕ) (s : Bits) → length (filled f m s) ≡ m
unfolding filled
filled_length f zero s = refl
filled_length f (suc m) s = ap suc (filled_length f m (drop 8 s))

-- byte j is filled from the bits behind the first 8 j
filled_byte : (f : Bool) (m : ℕ) (s : Bits) (j : ℕ) → j < m → get_or (filled f m s) j 0 ≡ fill f 8 (drop (8 * j) s)
unfolding filled
filled_byte f zero s j h = absurd (omega arith)
filled_byte f (suc m) s zero h = refl
filled_byte f (suc m) s (suc j) h = let e : 8 + 8 * j ≡ 8 * suc j = omega arith in filled_byte f m (drop 8 s) j (omega arith) ∙ ap (fill f 8) (drop-drop (8 * j) 8 s ∙ ap (λ (z : ℕ). drop z s) e)

-- one byte more
suffix_next : (s : Bits) (j : ℕ) → 8 * j < length s → suffix_bytes (j + 1) s ≡ suffix_bytes j s ++ (fill false 8 (drop (8 * j) s) ∷ [])
suffix_next s j h =
    let l = filled_length false (blocks 8 (length s)) s in
    rw (add-one j) (take-suc (filled false (blocks 8 (length s)) s) j 0 (omega arith) ∙ ap (λ (x : ℕ). suffix_bytes j s ++ (x ∷ [])) (filled_byte false (blocks 8 (length s)) s j (omega arith)))

-- ---- bytes that go to a key

-- Behind the first c bytes of `cut`, the key has the bytes of the suffix to before i, and less trailing zeros it ends before `end`.
pub record Filling (cut key : Bytes) (c end i : ℕ) (s : Bits) : Type 0 where
  pub from : c ≤ end
  pub upto : end ≤ i
  pub whole : take i key ≡ take c cut ++ suffix_bytes (i - c) s
  pub low : take end key ≡ take c cut ++ trimmed (suffix_bytes (i - c) s)

-- no byte yet
pub filling_none : (cut : Bytes) (c : ℕ) (s : Bits) → Filling cut cut c c c s
unfolding trimmed
filling_none cut c s =
    let e : c - c ≡ 0 = omega arith in record {
      from = omega arith;
      upto = omega arith;
      whole = rw e (sym (append-nil (take c cut)));
      low = rw e (sym (append-nil (take c cut)));
    }

module _ (cut key : Bytes) (c end i : ℕ) (s : Bits) (g : Filling cut key c end i s) where
  -- the next byte is x
  module _ (x : ℕ) (room : i < length key) (more : 8 * (i - c) < length s) (is : x ≡ fill false 8 (drop (8 * (i - c)) s)) where
    -- the bytes of the suffix with it
    next_suffix : suffix_bytes (i + 1 - c) s ≡ suffix_bytes (i - c) s ++ (x ∷ [])
    next_suffix = let e : i + 1 - c ≡ i - c + 1 = omega (arith, g.from, g.upto) in rw (e, is) (suffix_next s (i - c) more)

    -- the key with it
    next_whole : take (i + 1) (set key i x) ≡ take c cut ++ suffix_bytes (i + 1 - c) s
    next_whole = rw (next_suffix, add-one i) (take-suc-set key i x room ∙ rw g.whole (append_assoc (take c cut) (suffix_bytes (i - c) s) (x ∷ [])))

    -- a zero byte leaves the end where it is
    pub filling_zero : x ≡ 0 → Filling cut (set key i x) c end (i + 1) s
    filling_zero z = record {
      from = g.from;
      upto = omega (arith, g.upto);
      whole = next_whole;
      low =
          rw next_suffix (take-set-le end key i x g.upto ∙ g.low
          ∙ ap (λ (t : Bytes). take c cut ++ t) (sym (ap (λ (y : ℕ). trimmed (suffix_bytes (i - c) s ++ (y ∷ []))) z ∙ trimmed_zero (suffix_bytes (i - c) s))));
    }

    -- behind any other byte is the end
    pub filling_byte : (x ≡ 0 → ⊥) → Filling cut (set key i x) c (i + 1) (i + 1) s
    filling_byte n = record {
      from = omega (arith, g.from, g.upto);
      upto = omega arith;
      whole = next_whole;
      low = next_whole ∙ ap (λ (t : Bytes). take c cut ++ t) (next_suffix ∙ sym (trimmed_last (suffix_bytes (i - c) s) x n) ∙ ap trimmed (sym next_suffix));
    }

  -- Where the suffix or the 64 bytes of a key have ended, the lowest key stands there.
  pub filling_done : i ≤ 64 → (length s ≤ 8 * (i - c)) ⊎ (64 ≤ i) → take end key ≡ take c cut ++ low_rest c s
  unfolding low_rest
  filling_done l (inl e) =
      let n = filled_length false (blocks 8 (length s)) s in
      g.low
      ∙ ap (λ (t : Bytes). take c cut ++ trimmed t)
      (take_all (i - c) (filled false (blocks 8 (length s)) s) (omega arith) ∙ sym (take_all (64 - c) (filled false (blocks 8 (length s)) s) (omega (arith, g.from, g.upto))))
  filling_done l (inr e) = let z : 64 - c ≡ i - c = omega arith in rw z g.low
