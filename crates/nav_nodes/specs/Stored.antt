-- What the bodies of an image hold, by position: bits, ranks with their tables, and the positions of ones with their samples.
use Prim.Native.Nat.{ℕ, zero, suc, ◌+◌, ◌-◌, ◌*◌, ◌<◌, ◌≤◌}
use Rattle.std.specs.Prelude.{◌≡◌, refl, true, false, length, get_or, take, drop}
use Rattle.std.proofs.Common.{sym, ap, ◌∙◌, length-append, length-take, take_all, take-take, get_or-take}
use mathlib.Core.List.{[], ◌∷◌, ◌++◌, map, append_assoc}
use native.Mathlib.Omega.{arith}
use Rattle.std.proofs.lemmas.List.{take-append-le}
use Rattle.spec.specs.Bytes.{Bytes, Bits, bit, ones, concat, iota, blocks, le32, from32, pack, unpack}
use Rattle.spec.specs.Image.{ranks, samples, positions}
use Rattle.bits.specs.Bits.{bit_at, rank}
use Rattle.bits.proofs.UnpackLaws.{bit_unpack, rank_unpack}
use Rattle.theory.proofs.Bits.{length_pack, unpack_pack, length_ranks, length_samples}
use Rattle.theory.proofs.Frame.{from32_le32}
use Rattle.theory.proofs.Bits.{length_positions}
use Rattle.rank_tables.specs.Ranks.{block_begun}
use Rattle.rank_tables.specs.Reading.{RankEntry, Sample}
pub use Rattle.image.specs.Accepted.{Starts}

unpack_append : (a b : Bytes) → unpack (a ++ b) ≡ unpack a ++ unpack b
unfolding unpack
unpack_append [] b = refl
unpack_append (x ∷ a) b = ap (λ (z : Bits). low x ++ z) (unpack_append a b) ∙ sym (append_assoc (low x) (unpack a) (unpack b))
  where
    low : ℕ → Bits
    low x = unpack (x ∷ [])

-- ---- bits

module _ (bs : Bits) (s : Bytes) (h : Starts (pack bs) s) where
  -- room for all the bits
  pub bits_room : length bs ≤ 8 * length s
  bits_room = rw h.1 (omega (arith, length-append (pack bs) h.0, length_pack bs))

  bits_first : take (length bs) (unpack s) ≡ bs
  bits_first =
      let e = unpack_pack bs in
      rw (h.1, unpack_append (pack bs) h.0) (take-append-le (length bs) (unpack (pack bs)) (unpack h.0) (omega (arith, ap length e.0, length-take (length bs) (unpack (pack bs)))) ∙ e.0)

  -- bit i
  pub bits_at : (i : ℕ) → i < length bs → bit_at s i ≡ bit (get_or bs i false)
  bits_at i l = bit_unpack s i ∙ ap bit (sym (get_or-take (length bs) (unpack s) i false l) ∙ ap (λ (z : Bits). get_or z i false) bits_first)

  -- the ones before bit k
  pub bits_rank : (k : ℕ) → k ≤ length bs → rank s k ≡ ones (take k bs)
  bits_rank k l = rank_unpack s k ∙ ap ones (sym (take-take k (length bs) (unpack s) l) ∙ ap (take k) bits_first)

  -- all ones
  pub bits_all : rank s (length bs) ≡ ones bs
  bits_all = bits_rank (length bs) (omega arith) ∙ ap ones (take_all (length bs) bs (omega arith))

-- ---- tables of 32-bit numbers

module _ (f : ℕ → ℕ) where
  drop_le32 : (x : ℕ) (r : Bytes) (b : ℕ) → drop (4 * suc b) (le32 x ++ r) ≡ drop (4 * b) r
  unfolding le32
  drop_le32 x r b = let e : 4 * suc b ≡ suc (suc (suc (suc (4 * b)))) = omega arith in rw e

  row : (n i b : ℕ) (t : Bytes) → b < n → f (i + b) < 4294967296 → from32 (drop (4 * b) (concat (map (λ b. le32 (f b)) (iota i n)) ++ t)) ≡ f (i + b)
  unfolding concat iota
  row zero i b t h l = absurd (omega arith)
  row (suc n) i zero t h l =
      let e : i + 0 ≡ i = omega arith in
      rw (e, append_assoc (le32 (f i)) (concat (map (λ b. le32 (f b)) (iota (suc i) n))) t) (from32_le32 (f i) (concat (map (λ b. le32 (f b)) (iota (suc i) n)) ++ t) (rw e at l))
  row (suc n) i (suc b) t h l =
      let e : i + suc b ≡ suc i + b = omega arith in
      rw (e, append_assoc (le32 (f i)) (concat (map (λ b. le32 (f b)) (iota (suc i) n))) t, drop_le32 (f i) (concat (map (λ b. le32 (f b)) (iota (suc i) n)) ++ t) b)
      (row n (suc i) b t (omega arith) (rw e at l))

ones-le : (k : ℕ) (bs : Bits) → ones (take k bs) ≤ k
unfolding ones
ones-le zero bs = omega arith
ones-le (suc k) [] = omega arith
ones-le (suc k) (true ∷ bs) = omega (arith, ones-le k bs)
ones-le (suc k) (false ∷ bs) = omega (arith, ones-le k bs)

-- The ranks by blocks of w bits of bits that s starts with.
pub ranks_at : (w : ℕ) (bs : Bits) (s rt : Bytes) → 0 < w → Starts (pack bs) s → Starts (ranks w bs) rt → length bs < 4294967296 → (b : ℕ) → w * b < length bs → RankEntry w s rt b
unfolding ranks
ranks_at w bs s rt p h r l b k =
    let z : 0 + b ≡ b = omega arith in
    let g = block_begun w b (length bs) p k in
    let e = rw z at (row (λ b. ones (take (w * b) bs)) (blocks w (length bs)) 0 b r.0 g (rw z (omega (arith, ones-le (w * b) bs)))) in (
      rw r.1 (omega (arith, length-append (ranks w bs) r.0, length_ranks w bs)),
      ap (λ (z : Bytes). from32 (drop (4 * b) z)) r.1 ∙ e ∙ sym (bits_rank bs s h (w * b) (omega arith)),
    )

-- ---- positions of ones

position_is : (i : ℕ) (bs : Bits) (m : ℕ) → m < length (positions i bs)
    → (i ≤ get_or (positions i bs) m 0) × (get_or (positions i bs) m 0 < i + length bs) × (ones (take (get_or (positions i bs) m 0 - i) bs) ≡ m)
unfolding positions ones
position_is i [] m h = absurd (omega arith)
position_is i (true ∷ bs) zero h = let z : i - i ≡ 0 = omega arith in (omega arith, omega arith, rw z)
position_is i (true ∷ bs) (suc m) h =
    let r = position_is (suc i) bs m (omega arith) in
    let p : ℕ = get_or (positions (suc i) bs) m 0 in
    let z : p - i ≡ suc (p - suc i) = omega (arith, r.0) in
    (omega (arith, r.0), omega (arith, r.1), rw z (omega (arith, r.2)))
position_is i (false ∷ bs) m h =
    let r = position_is (suc i) bs m h in
    let p : ℕ = get_or (positions (suc i) bs) m 0 in
    let z : p - i ≡ suc (p - suc i) = omega (arith, r.0) in
    (omega (arith, r.0), omega (arith, r.1), rw z (omega (arith, r.2)))

-- The samples of bits that s starts with.
pub samples_at : (bs : Bits) (s ts : Bytes) → Starts (pack bs) s → Starts (samples bs) ts → length bs < 4294967296 → (t : ℕ) → 64 * t < ones bs → Sample s ts (length bs) t
unfolding samples
samples_at bs s ts h r l t k =
    let z : 0 + t ≡ t = omega arith in
    let c = length_positions 0 bs in
    let p = position_is 0 bs (64 * t) (omega arith) in
    let e = rw z at (row (λ t. get_or (positions 0 bs) (64 * t) 0) (blocks 64 (length (positions 0 bs))) 0 t r.0 (omega arith) (rw z (omega (arith, p.1)))) in
    let q : from32 (drop (4 * t) ts) ≡ get_or (positions 0 bs) (64 * t) 0 = ap (λ (z : Bytes). from32 (drop (4 * t) z)) r.1 ∙ e in
    let w : get_or (positions 0 bs) (64 * t) 0 - 0 ≡ get_or (positions 0 bs) (64 * t) 0 = omega arith in (
      rw r.1 (omega (arith, length-append (samples bs) r.0, length_samples bs)),
      omega (arith, q, p.1),
      ap (rank s) q ∙ bits_rank bs s h (get_or (positions 0 bs) (64 * t) 0) (omega (arith, p.1)) ∙ (rw w at p.2),
    )
