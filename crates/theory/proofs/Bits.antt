-- Bits in bytes and back, bitmaps of labels and back, and the lengths of ranks and samples.
-- Used by the nodes' bits (DenseBits, SparseBits) and by acceptance.
use Rattle.std.specs.Prelude.{ℕ, ◌%◌, ◌<◌, ◌^◌, zero, suc, ◌/◌, ◌+◌, ◌*◌, ◌≤◌, ◌-◌, ◌≡◌, refl, Bool, true, false, [], ◌∷◌, ◌++◌, List, map, length, drop, take, replicate, get_or, eqb}
use Rattle.std.proofs.Common.{sym, ap, ap₂, ◌∙◌, true≢false, append_assoc, arith, lt_of_not-le, take-append-drop, length-append, length-drop, drop_of_length-le, length-take-le, take_all, eqb-true, ne_eqb, eq-eqb}
use Rattle.std.proofs.Math.Decide.{dec_le}
use Rattle.std.proofs.lemmas.List.{length-replicate}
use Rattle.std.proofs.Math.Seq.{take-append_seam, drop-append_seam}
use Rattle.std.proofs.lemmas.Bool.{eqb-false}
use Rattle.spec.specs.Bytes.{bit, low_first, low_bits, Bits, clear, packed, Bytes, unpack, blocks, pack, any, iota, concat, le32, ones}
use Rattle.spec.specs.Image.{has, positions, ranks, samples}
use Rattle.spec.specs.Check.{no_spare}
use Rattle.theory.specs.Terms.{IsBytes}
use Rattle.theory.proofs.Lists.{length_iota}

-- ---- bits of a number

bit_mod : (x : ℕ) → bit (eqb (x % 2) 1) ≡ x % 2
bit_mod x = go (eqb (x % 2) 1) refl
  where
    go : (b : Bool) → eqb (x % 2) 1 ≡ b → bit b ≡ x % 2
    go true e = sym (eqb-true (x % 2) 1 e)
    go false e = let n = eqb-false (x % 2) 1 e in omega arith

-- A number below 2^k is that of its k low bits.
pub low_first_bits : (k x : ℕ) → x < 2 ^ k → low_first (low_bits k x) ≡ x
unfolding low_first low_bits
low_first_bits zero x h = omega arith
low_first_bits (suc k) x h = omega (arith, low_first_bits k (x / 2) (omega arith), bit_mod x)

-- Bits are the low bits of their number.
pub low_bits_first : (bs : Bits) → low_bits (length bs) (low_first bs) ≡ bs
unfolding low_first low_bits
low_bits_first [] = refl
low_bits_first (true ∷ bs) =
    let e : (1 + 2 * low_first bs) / 2 ≡ low_first bs = omega arith in
    let m : (1 + 2 * low_first bs) % 2 ≡ 1 = omega arith in
    rw (e, m, low_bits_first bs)
low_bits_first (false ∷ bs) =
    let e : (0 + 2 * low_first bs) / 2 ≡ low_first bs = omega arith in
    let m : (0 + 2 * low_first bs) % 2 ≡ 0 = omega arith in
    rw (e, m, low_bits_first bs)

-- ---- bits that are clear

-- no bit of these is set
abbrev pub Clear : Bits → Type 0
Clear z = clear z ≡ true

-- Bits of which none is set have none set behind the first j.
pub clear_drop : (j : ℕ) (z : Bits) → Clear z → Clear (drop j z)
unfolding clear
clear_drop zero z h = h
clear_drop (suc j) [] h = refl
clear_drop (suc j) (true ∷ z) h = absurd (true≢false (sym h))
clear_drop (suc j) (false ∷ z) h = clear_drop j z h

clear_low_first : (j : ℕ) (z : Bits) → Clear z → low_first (take j z) ≡ 0
unfolding clear low_first
clear_low_first zero z h = refl
clear_low_first (suc j) [] h = refl
clear_low_first (suc j) (true ∷ z) h = absurd (true≢false (sym h))
clear_low_first (suc j) (false ∷ z) h = rw (clear_low_first j z h)

-- Zeros have no bit set.
pub clear_replicate : (m : ℕ) → Clear (replicate m false)
unfolding clear
clear_replicate zero = refl
clear_replicate (suc m) = clear_replicate m

-- Bits of which none is set are zeros.
pub clear_is_replicate : (z : Bits) → Clear z → z ≡ replicate (length z) false
unfolding clear
clear_is_replicate [] h = refl
clear_is_replicate (true ∷ z) h = absurd (true≢false (sym h))
clear_is_replicate (false ∷ z) h = ap (λ (u : Bits). false ∷ u) (clear_is_replicate z h)

clear_append : (m : ℕ) (z : Bits) → Clear z → Clear (replicate m false ++ z)
unfolding clear
clear_append zero z h = h
clear_append (suc m) z h = clear_append m z h

-- ---- packed bits

drop_padded : (j : ℕ) (xs z : Bits) → Clear z → (u : Bits) × Clear u × (drop j (xs ++ z) ≡ drop j xs ++ u)
drop_padded zero xs z h = (z, h, refl)
drop_padded (suc j) [] z h = (drop (suc j) z, clear_drop (suc j) z h, refl)
drop_padded (suc j) (x ∷ xs) z h = drop_padded j xs z h

low_first_padded : (j : ℕ) (xs z : Bits) → Clear z → low_first (take j (xs ++ z)) ≡ low_first (take j xs)
unfolding low_first
low_first_padded zero xs z h = refl
low_first_padded (suc j) [] z h = clear_low_first (suc j) z h
low_first_padded (suc j) (x ∷ xs) z h = rw (low_first_padded j xs z h)

-- Bits of which none is set do not change the bytes that they stand behind.
packed_padded : (k : ℕ) (xs z : Bits) → Clear z → packed k (xs ++ z) ≡ packed k xs
unfolding packed
packed_padded zero xs z h = refl
packed_padded (suc k) xs z h =
    let d = drop_padded 8 xs z h in
    ap₂ ◌∷◌ (low_first_padded 8 xs z h) (ap (packed k) d.2 ∙ packed_padded k (drop 8 xs) d.0 d.1)

-- Bytes hold eight bits each.
pub length_unpack : (s : Bytes) → length (unpack s) ≡ 8 * length s
unfolding unpack
length_unpack [] = refl
length_unpack (x ∷ s) = omega (arith, length_unpack s)

packed_unpack : (s : Bytes) → IsBytes s → packed (length s) (unpack s) ≡ s
unfolding packed unpack
packed_unpack [] w = refl
packed_unpack (x ∷ s) w = ap₂ ◌∷◌ (low_first_bits 8 x w.0) (packed_unpack s w.1)

-- A body of as many bytes as n bits begin, with no spare bit set, is its first n bits, packed; they are n.
pub pack_unpack : (n : ℕ) (s : Bytes) → IsBytes s → length s ≡ blocks 8 n → no_spare n s ≡ true
    → (length (take n (unpack s)) ≡ n) × (pack (take n (unpack s)) ≡ s)
unfolding no_spare pack
pack_unpack n s w l h =
    let size : length (take n (unpack s)) ≡ n = length-take-le n (unpack s) (omega (arith, length_unpack s)) in (
      size,
      ap (λ (k : ℕ). packed ((k + 7) / 8) (take n (unpack s))) size
          ∙ ap (λ (k : ℕ). packed k (take n (unpack s))) (sym l)
          ∙ sym (packed_padded (length s) (take n (unpack s)) (drop n (unpack s)) h)
          ∙ ap (packed (length s)) (take-append-drop n (unpack s))
          ∙ packed_unpack s w,
    )

low_first_zeros : (bs : Bits) (m : ℕ) → low_first (bs ++ replicate m false) ≡ low_first bs
unfolding low_first
low_first_zeros [] zero = refl
low_first_zeros [] (suc m) = rw (low_first_zeros [] m)
low_first_zeros (b ∷ bs) m = rw (low_first_zeros bs m)

-- The bits of the number of fewer than eight bits are these and zeros.
low_bits_short : (bs : Bits) (m : ℕ) → length bs + m ≡ 8 → low_bits 8 (low_first bs) ≡ bs ++ replicate m false
low_bits_short bs m h =
    let n : length (bs ++ replicate m false) ≡ 8 = length-append bs (replicate m false) ∙ ap (λ (k : ℕ). length bs + k) (length-replicate m false) ∙ h in
    ap₂ low_bits (sym n) (sym (low_first_zeros bs m)) ∙ low_bits_first (bs ++ replicate m false)

-- Packed bits are these bits, and behind them none is set.
unpack_packed : (k : ℕ) (bs : Bits) → length bs ≤ 8 * k → (z : Bits) × Clear z × (unpack (packed k bs) ≡ bs ++ z)
unfolding packed unpack
unpack_packed zero [] h = ([], clear_replicate 0, refl)
unpack_packed zero (b ∷ bs) h = absurd (omega arith)
unpack_packed (suc k) bs h =
    let ih = unpack_packed k (drop 8 bs) (omega (arith, length-drop 8 bs)) in
    elim (dec_le 8 (length bs)) [ yes q ↦ long ih q | no q ↦ short ih (lt_of_not-le q) ]
  where
    long : (z : Bits) × Clear z × (unpack (packed k (drop 8 bs)) ≡ drop 8 bs ++ z) → 8 ≤ length bs
        → (z : Bits) × Clear z × (low_bits 8 (low_first (take 8 bs)) ++ unpack (packed k (drop 8 bs)) ≡ bs ++ z)
    long ih q =
        let e : low_bits 8 (low_first (take 8 bs)) ≡ take 8 bs = ap (λ (n : ℕ). low_bits n (low_first (take 8 bs))) (sym (length-take-le 8 bs q)) ∙ low_bits_first (take 8 bs) in
        (ih.0, ih.1, ap₂ ◌++◌ e ih.2 ∙ sym (append_assoc (take 8 bs) (drop 8 bs) ih.0) ∙ ap (λ (u : Bits). u ++ ih.0) (take-append-drop 8 bs))

    short : (z : Bits) × Clear z × (unpack (packed k (drop 8 bs)) ≡ drop 8 bs ++ z) → length bs < 8
        → (z : Bits) × Clear z × (low_bits 8 (low_first (take 8 bs)) ++ unpack (packed k (drop 8 bs)) ≡ bs ++ z)
    short ih q =
        let d : drop 8 bs ≡ [] = drop_of_length-le bs {i = 8} (omega arith) in
        let e : low_bits 8 (low_first (take 8 bs)) ≡ bs ++ replicate (8 - length bs) false = ap (λ (u : Bits). low_bits 8 (low_first u)) (take_all 8 bs (omega arith)) ∙ low_bits_short bs (8 - length bs) (omega arith) in (
          replicate (8 - length bs) false ++ ih.0,
          clear_append (8 - length bs) ih.0 ih.1,
          ap₂ ◌++◌ e (ih.2 ∙ ap (λ (u : Bits). u ++ ih.0) d) ∙ append_assoc bs (replicate (8 - length bs) false) ih.0,
        )

-- Packed bits are read back, and no spare bit is set.
pub unpack_pack : (bs : Bits) → (take (length bs) (unpack (pack bs)) ≡ bs) × (no_spare (length bs) (pack bs) ≡ true)
unfolding pack no_spare
unpack_pack bs =
    let u = unpack_packed ((length bs + 7) / 8) bs (omega arith) in (
      ap (take (length bs)) u.2 ∙ take-append_seam bs u.0,
      ap (λ (w : Bits). clear (drop (length bs) w)) u.2 ∙ ap clear (drop-append_seam bs u.0) ∙ u.1,
    )

length_packed : (k : ℕ) (bs : Bits) → length (packed k bs) ≡ k
unfolding packed
length_packed zero bs = refl
length_packed (suc k) bs = ap suc (length_packed k (drop 8 bs))

-- Packed bits have as many bytes as they begin.
pub length_pack : (bs : Bits) → length (pack bs) ≡ blocks 8 (length bs)
unfolding pack
length_pack bs = length_packed ((length bs + 7) / 8) bs

-- As many packed bits as there are, read back.
pub unpack_at : (k : ℕ) (bs : Bits) → length bs ≡ k → take k (unpack (pack bs)) ≡ bs
unpack_at k bs h = ap (λ (z : ℕ). take z (unpack (pack bs))) (sym h) ∙ (unpack_pack bs).0

-- ---- bitmaps

-- numbers that ascend strictly, from i on, below e
abbrev pub AscendsFrom : ℕ → ℕ → List ℕ → Type 0
AscendsFrom i e [] = Unit
AscendsFrom i e (x ∷ xs) = (i ≤ x) × (x < e) × AscendsFrom (suc x) e xs

-- A number below all labels is not among them.
pub has_none : (b i e : ℕ) (xs : List ℕ) → b < i → AscendsFrom i e xs → has xs b ≡ false
unfolding has any
has_none b i e [] h c = refl
has_none b i e (x ∷ xs) h c = rw (ne_eqb b x (λ q. omega (arith, c.0)), has_none b (suc x) e xs (omega (arith, c.0)) c.2)

-- A label below the numbers asked for does not matter.
pub has_skip : (y : ℕ) (ys : List ℕ) (i k : ℕ) → y < i → map (has (y ∷ ys)) (iota i k) ≡ map (has ys) (iota i k)
unfolding iota has any
has_skip y ys i zero h = refl
has_skip y ys i (suc k) h = rw (ne_eqb i y (λ q. omega arith), has_skip y ys (suc i) k (omega arith))

-- A number that is the first label is among the labels.
pub has_here : (b x : ℕ) (xs : List ℕ) → eqb b x ≡ true → has (x ∷ xs) b ≡ true
unfolding has any
has_here b x xs e = rw e

-- The positions of ones ascend.
positions_ascend : (i : ℕ) (bs : Bits) → AscendsFrom i (i + length bs) (positions i bs)
unfolding positions
positions_ascend i [] = tt
positions_ascend i (true ∷ bs) = let e : suc i + length bs ≡ i + suc (length bs) = omega arith in (omega arith, omega arith, rw e at (positions_ascend (suc i) bs))
positions_ascend i (false ∷ bs) = let e : suc i + length bs ≡ i + suc (length bs) = omega arith in down (positions i (false ∷ bs)) (rw e at (positions_ascend (suc i) bs))
  where
    down : (xs : List ℕ) → AscendsFrom (suc i) (i + suc (length bs)) xs → AscendsFrom i (i + suc (length bs)) xs
    down [] c = tt
    down (x ∷ xs) c = (omega (arith, c.0), c.1, c.2)

-- The bitmap of the positions of the ones is the bits.
pub has_positions : (i : ℕ) (bs : Bits) → map (has (positions i bs)) (iota i (length bs)) ≡ bs
unfolding positions iota
has_positions i [] = refl
has_positions i (true ∷ bs) = rw (has_here i i (positions (suc i) bs) (eq-eqb i i refl), has_skip i (positions (suc i) bs) (suc i) (length bs) (omega arith), has_positions (suc i) bs)
has_positions i (false ∷ bs) = rw (has_none i (suc i) (suc i + length bs) (positions (suc i) bs) (omega arith) (positions_ascend (suc i) bs), has_positions (suc i) bs)

-- ---- ranks and samples

length_le32s : (f : ℕ → ℕ) (xs : List ℕ) → length (concat (map (λ b. le32 (f b)) xs)) ≡ 4 * length xs
unfolding concat le32
length_le32s f [] = refl
length_le32s f (x ∷ xs) = omega (arith, length_le32s f xs)

-- Ranks have four bytes for each begun block.
pub length_ranks : (w : ℕ) (bs : Bits) → length (ranks w bs) ≡ 4 * ((length bs + (w - 1)) / w)
unfolding ranks
length_ranks w bs = length_le32s (λ b. ones (take (w * b) bs)) (iota 0 ((length bs + (w - 1)) / w)) ∙ ap (λ (k : ℕ). 4 * k) (length_iota 0 ((length bs + (w - 1)) / w))

-- There are as many positions as ones.
pub length_positions : (i : ℕ) (bs : Bits) → length (positions i bs) ≡ ones bs
unfolding positions ones
length_positions i [] = refl
length_positions i (true ∷ bs) = omega (arith, length_positions (suc i) bs)
length_positions i (false ∷ bs) = omega (arith, length_positions (suc i) bs)

-- Samples have four bytes for each begun 64 ones.
pub length_samples : (bs : Bits) → length (samples bs) ≡ 4 * ((ones bs + 63) / 64)
unfolding samples
length_samples bs =
    length_le32s (λ t. get_or (positions 0 bs) (64 * t) 0) (iota 0 ((length (positions 0 bs) + 63) / 64)) ∙ ap (λ (k : ℕ). 4 * k) (length_iota 0 ((length (positions 0 bs) + 63) / 64)) ∙ ap (λ (k : ℕ). 4 * ((k + 63) / 64)) (length_positions 0 bs)
