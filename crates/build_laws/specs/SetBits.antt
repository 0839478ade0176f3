-- Bits set at positions: what matters is which positions are among them, not their order. Used by the passes that fill bodies of bits.
use Rattle.std.specs.Prelude.{ℕ, zero, suc, ◌+◌, ◌-◌, ◌<◌, ◌≤◌, ◌≡◌, refl, Bool, true, false, ◌||◌, List, [], ◌∷◌, ◌++◌, length, get_or, set, replicate, ltb, eqb}
use Rattle.std.proofs.Common.{sym, ap, ap₂, ◌∙◌, true≢false, arith, length-set, length-append, get_or-set_same, get_or-set_other, get_or-append-add, ext_get_or, ltb-true, ltb-false, eqb-true, eq-eqb, ne_eqb}
use Rattle.std.proofs.Math.Bool.{or_assoc, or-true, or-false}
use Rattle.std.proofs.lemmas.List.{length-replicate, get_or-replicate}
use Rattle.std.proofs.Math.ListN.{get_or-append, get_or-eq_default}
use Rattle.std.proofs.lemmas.Bool.{eqb-false}
use Rattle.spec.specs.Bytes.{Bits, any}
use Rattle.spec.specs.Image.{has, positions}

-- the bits at these positions set, one after the other
unfoldable pub set_bits : List ℕ → Bits → Bits
set_bits [] bs = bs
set_bits (i ∷ is) bs = set_bits is (set bs i true)

-- no position
pub set_none : (bs : Bits) → set_bits [] bs ≡ bs
unfolding set_bits
set_none bs = refl

-- two lists of positions
pub set_append : (is js : List ℕ) (bs : Bits) → set_bits (is ++ js) bs ≡ set_bits js (set_bits is bs)
unfolding set_bits
set_append [] js bs = refl
set_append (i ∷ is) js bs = set_append is js (set bs i true)

-- setting bits keeps their number
pub length_set_bits : (is : List ℕ) (bs : Bits) → length (set_bits is bs) ≡ length bs
unfolding set_bits
length_set_bits [] bs = refl
length_set_bits (i ∷ is) bs = length_set_bits is (set bs i true) ∙ length-set bs i true

-- ---- which positions

-- a position among two lists
pub has_append : (xs ys : List ℕ) (j : ℕ) → has (xs ++ ys) j ≡ has xs j || has ys j
unfolding has any
has_append [] ys j = refl
has_append (x ∷ xs) ys j = ap (λ (b : Bool). eqb j x || b) (has_append xs ys j) ∙ sym (or_assoc (eqb j x) (has xs j) (has ys j))

-- none is among none
pub has_nil : (j : ℕ) → has [] j ≡ false
unfolding has any
has_nil j = refl

-- the first position, or one of the others
pub has_cons : (x : ℕ) (xs : List ℕ) (j : ℕ) → has (x ∷ xs) j ≡ eqb j x || has xs j
unfolding has any
has_cons x xs j = refl

-- a bit, after bits were set
pub set_bits_at : (is : List ℕ) (bs : Bits) (j : ℕ) → j < length bs → get_or (set_bits is bs) j false ≡ has is j || get_or bs j false
unfolding set_bits
set_bits_at [] bs j h = ap (λ (b : Bool). b || get_or bs j false) (sym (has_nil j))
set_bits_at (i ∷ is) bs j h = set_bits_at is (set bs i true) j (omega (arith, length-set bs i true)) ∙ go (eqb j i) refl ∙ ap (λ (b : Bool). b || get_or bs j false) (sym (has_cons i is j))
  where
    go : (b : Bool) → eqb j i ≡ b → has is j || get_or (set bs i true) j false ≡ (eqb j i || has is j) || get_or bs j false
    go true e =
        let q : j ≡ i = eqb-true j i e in
        let u : get_or (set bs i true) j false ≡ true = rw q (get_or-set_same bs i true false (omega arith)) in
        ap (λ (b : Bool). has is j || b) u ∙ or-true (has is j) ∙ sym (ap (λ (b : Bool). (b || has is j) || get_or bs j false) e)
    go false e = ap (λ (b : Bool). has is j || b) (get_or-set_other bs i j true false (eqb-false j i e)) ∙ sym (ap (λ (b : Bool). (b || has is j) || get_or bs j false) e)

-- ---- the positions of ones

-- the positions of two lists of bits
pub positions_append : (i : ℕ) (a b : Bits) → positions i (a ++ b) ≡ positions i a ++ positions (i + length a) b
unfolding positions
positions_append i [] b = let w : i ≡ i + 0 = omega arith in ap (λ (k : ℕ). positions k b) w
positions_append i (true ∷ a) b = let w : suc i + length a ≡ i + suc (length a) = omega arith in ap (λ (z : List ℕ). i ∷ z) (positions_append (suc i) a b ∙ ap (λ (k : ℕ). positions (suc i) a ++ positions k b) w)
positions_append i (false ∷ a) b = let w : suc i + length a ≡ i + suc (length a) = omega arith in positions_append (suc i) a b ∙ ap (λ (k : ℕ). positions (suc i) a ++ positions k b) w

-- no position of a one stands before the first bit
pub positions_before : (i : ℕ) (bs : Bits) (j : ℕ) → j < i → has (positions i bs) j ≡ false
unfolding positions
positions_before i [] j h = has_nil j
positions_before i (true ∷ bs) j h = has_cons i (positions (suc i) bs) j ∙ ap₂ ◌||◌ (ne_eqb j i (λ e. omega arith)) (positions_before (suc i) bs j (omega arith))
positions_before i (false ∷ bs) j h = positions_before (suc i) bs j (omega arith)

-- the position of a bit is among those of the ones if it is set
pub positions_at : (i : ℕ) (bs : Bits) (j : ℕ) → has (positions i bs) (i + j) ≡ get_or bs j false
unfolding positions
positions_at i [] j = has_nil (i + j)
positions_at i (true ∷ bs) zero = let w : i + 0 ≡ i = omega arith in has_cons i (positions (suc i) bs) (i + 0) ∙ ap (λ (b : Bool). b || has (positions (suc i) bs) (i + 0)) (eq-eqb (i + 0) i w)
positions_at i (true ∷ bs) (suc j) =
    let w : i + suc j ≡ suc i + j = omega arith in
    has_cons i (positions (suc i) bs) (i + suc j) ∙ ap₂ ◌||◌ (ne_eqb (i + suc j) i (λ e. omega arith)) (ap (has (positions (suc i) bs)) w ∙ positions_at (suc i) bs j)
positions_at i (false ∷ bs) zero = let w : i + 0 < suc i = omega arith in positions_before (suc i) bs (i + 0) w
positions_at i (false ∷ bs) (suc j) = let w : i + suc j ≡ suc i + j = omega arith in ap (has (positions (suc i) bs)) w ∙ positions_at (suc i) bs j

-- the first bit at 0
pub positions_zero : (bs : Bits) (j : ℕ) → has (positions 0 bs) j ≡ get_or bs j false
positions_zero bs j = let w : j ≡ 0 + j = omega arith in ap (has (positions 0 bs)) w ∙ positions_at 0 bs j

-- Zeros with bits set at just the positions of the ones of bs are bs.
pub set_zeros : (is : List ℕ) (bs rest : Bits) → ((j : ℕ) → has is j ≡ has (positions 0 bs) j) → set_bits is (replicate (length bs) false ++ rest) ≡ bs ++ rest
set_zeros is bs rest f =
    ext_get_or false (set_bits is (replicate (length bs) false ++ rest)) (bs ++ rest)
    (length_set_bits is (replicate (length bs) false ++ rest) ∙ omega (arith, length-append (replicate (length bs) false) rest, length-replicate (length bs) false, length-append bs rest))
    (λ j l. set_bits_at is (replicate (length bs) false ++ rest) j (omega (arith, length_set_bits is (replicate (length bs) false ++ rest)))
    ∙ ap (λ (b : Bool). b || get_or (replicate (length bs) false ++ rest) j false) (f j ∙ positions_zero bs j) ∙ go j (ltb j (length bs)) refl)
  where
    go : (j : ℕ) (b : Bool) → ltb j (length bs) ≡ b → get_or bs j false || get_or (replicate (length bs) false ++ rest) j false ≡ get_or (bs ++ rest) j false
    go j true e =
        let h : j < length bs = ltb-true j (length bs) e in
        let u : get_or (replicate (length bs) false ++ rest) j false ≡ false =
        get_or-append (replicate (length bs) false) rest false j (omega (arith, length-replicate (length bs) false)) ∙ get_or-replicate (length bs) j false false h in
        ap (λ (b : Bool). get_or bs j false || b) u ∙ or-false (get_or bs j false) ∙ sym (get_or-append bs rest false j h)
    go j false e =
        let h : length bs ≤ j = ltb-false j (length bs) e in
        let i : ℕ = j - length bs in
        let w : j ≡ length bs + i = omega arith in
        let v : length (replicate (length bs) false) ≡ length bs = length-replicate (length bs) false in
        ap (λ (b : Bool). b || get_or (replicate (length bs) false ++ rest) j false) (get_or-eq_default bs false h)
        ∙ ap (λ (k : ℕ). get_or (replicate (length bs) false ++ rest) k false) (w ∙ ap (λ (k : ℕ). k + i) (sym v)) ∙ get_or-append-add (replicate (length bs) false) rest i false
        ∙ sym (ap (λ (k : ℕ). get_or (bs ++ rest) k false) w ∙ get_or-append-add bs rest i false)

-- a position of a one is a position of a bit
pub positions_below : (bs : Bits) (j : ℕ) → has (positions 0 bs) j ≡ true → j < length bs
positions_below bs j h = go (ltb j (length bs)) refl
  where
    go : (b : Bool) → ltb j (length bs) ≡ b → j < length bs
    go true e = ltb-true j (length bs) e
    go false e = absurd (true≢false (sym h ∙ positions_zero bs j ∙ get_or-eq_default bs false (ltb-false j (length bs) e)))
