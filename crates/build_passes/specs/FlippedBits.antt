-- The bits of a body flipped, byte by byte: the packed bits of which each is the other one become the packed bits. Used by the bodies of which most bits are ones.
use Rattle.std.specs.Prelude.{ℕ, zero, suc, ◌+◌, ◌*◌, ◌-◌, ◌^◌, ◌/◌, ◌%◌, ◌≤◌, ◌<◌, min, ◌≡◌, refl, Bool, true, false, not, [], ◌∷◌, ◌++◌, map, length, get_or, set, take, drop}
use Rattle.std.proofs.Common.{sym, ap, ap₂, ◌∙◌, arith, mod-eq_of_lt, add-one, length-drop}
use Rattle.std.proofs.lemmas.List.{length-map}
use Rattle.spec.specs.Bytes.{Bytes, Bits, blocks, low_first, packed, pack}

-- the low w bits of a byte flipped, and the others zero
unfoldable pub flip_byte : ℕ → ℕ → ℕ
flip_byte w x = 2 ^ w - 1 - x % 2 ^ w

-- of the first k bytes the first n bits flipped, and the others zero
unfoldable pub flipped : ℕ → ℕ → Bytes → Bytes
unfolding flip_byte
flipped zero n s = s
flipped (suc k) n [] = []
flipped (suc k) n (x ∷ s) = flip_byte (min 8 n) x ∷ flipped k (n - 8) s

-- a byte behind them is as it was
flip_kept : (i n : ℕ) (s : Bytes) → get_or (flipped i n s) i 0 ≡ get_or s i 0
unfolding flipped
flip_kept zero n s = refl
flip_kept (suc i) n [] = refl
flip_kept (suc i) n (x ∷ s) = flip_kept i (n - 8) s

-- behind whole bytes, k bits more
flip_next : (i k : ℕ) (s : Bytes) → i < length s → k ≤ 8 → set (flipped i (8 * i) s) i (flip_byte k (get_or s i 0)) ≡ flipped (suc i) (8 * i + k) s
unfolding flipped
flip_next i k [] h l = absurd (omega arith)
flip_next zero k (x ∷ s) h l = let w : min 8 (8 * 0 + k) ≡ k = omega arith in ap (λ (b : ℕ). flip_byte b x ∷ s) (sym w)
flip_next (suc i) k (x ∷ s) h l =
    let u : min 8 (8 * suc i) ≡ min 8 (8 * suc i + k) = omega arith in
    let v : 8 * suc i - 8 ≡ 8 * i = omega arith in
    let w : 8 * i + k ≡ 8 * suc i + k - 8 = omega arith in
    ap₂ (λ (b m : ℕ). flip_byte b x ∷ set (flipped i m s) i (flip_byte k (get_or s i 0))) u v
    ∙ ap (λ (z : Bytes). flip_byte (min 8 (8 * suc i + k)) x ∷ z) (flip_next i k s (omega arith) l ∙ ap (λ (m : ℕ). flipped (suc i) m s) w)

-- no bit
pub flip_none : (s : Bytes) → s ≡ flipped 0 (8 * 0) s
unfolding flipped
flip_none s = refl

-- one whole byte more
pub flip_whole : (i : ℕ) (s o : Bytes) → i < length s → get_or o i 0 < 256 → o ≡ flipped i (8 * i) s → set o i (255 - get_or o i 0) ≡ flipped (i + 1) (8 * (i + 1)) s
unfolding flip_byte
flip_whole i s o h l e =
    let x : get_or o i 0 ≡ get_or s i 0 = ap (λ (z : Bytes). get_or z i 0) e ∙ flip_kept i (8 * i) s in
    let m : get_or s i 0 % 2 ^ 8 ≡ get_or s i 0 = mod-eq_of_lt (omega arith) in
    let v : 255 - get_or o i 0 ≡ flip_byte 8 (get_or s i 0) = omega arith in
    let w : 8 * i + 8 ≡ 8 * (i + 1) = omega arith in
    ap₂ (λ (z : Bytes) (y : ℕ). set z i y) e v ∙ flip_next i 8 s h (omega arith) ∙ ap₂ (λ (k n : ℕ). flipped k n s) (sym (add-one i)) w

-- the last bits, behind whole bytes
pub flip_rest : (n i : ℕ) (s o : Bytes) → i ≡ n / 8 → i < length s → 0 < n % 8 → o ≡ flipped i (8 * i) s → set o i (flip_byte (n % 8) (get_or o i 0)) ≡ flipped (blocks 8 n) n s
flip_rest n i s o q h l e =
    let x : get_or o i 0 ≡ get_or s i 0 = ap (λ (z : Bytes). get_or z i 0) e ∙ flip_kept i (8 * i) s in
    let u : suc i ≡ blocks 8 n = omega arith in
    let w : 8 * i + n % 8 ≡ n = omega arith in
    ap₂ (λ (z : Bytes) (y : ℕ). set z i (flip_byte (n % 8) y)) e x ∙ flip_next i (n % 8) s h (omega arith) ∙ ap₂ (λ (k m : ℕ). flipped k m s) u w

-- no bit behind whole bytes
pub flip_even : (n i : ℕ) (s o : Bytes) → i ≡ n / 8 → n % 8 ≤ 0 → o ≡ flipped i (8 * i) s → o ≡ flipped (blocks 8 n) n s
flip_even n i s o q l e =
    let u : i ≡ blocks 8 n = omega arith in
    let w : 8 * i ≡ n = omega arith in
    e ∙ ap₂ (λ (k m : ℕ). flipped k m s) u w

-- ---- packed bits

one_more : (n x y : ℕ) → x + y + 1 ≡ 2 ^ n → (1 + 2 * x + (0 + 2 * y) + 1 ≡ 2 ^ suc n) × (0 + 2 * x + (1 + 2 * y) + 1 ≡ 2 ^ suc n)
one_more n x y e = (omega arith, omega arith)

-- bits and their opposites make up all ones
opposite_sum : (bs : Bits) → low_first bs + low_first (map not bs) + 1 ≡ 2 ^ length bs
unfolding low_first
opposite_sum [] = refl
opposite_sum (true ∷ bs) = (one_more (length bs) (low_first bs) (low_first (map not bs)) (opposite_sum bs)).0
opposite_sum (false ∷ bs) = (one_more (length bs) (low_first bs) (low_first (map not bs)) (opposite_sum bs)).1

flip_opposite : (bs : Bits) → flip_byte (length bs) (low_first (map not bs)) ≡ low_first bs
unfolding flip_byte
flip_opposite bs =
    let e = opposite_sum bs in
    let m : low_first (map not bs) % 2 ^ length bs ≡ low_first (map not bs) = mod-eq_of_lt (omega arith) in
    omega (arith, e, m)

take_map : (f : Bool → Bool) (k : ℕ) (bs : Bits) → take k (map f bs) ≡ map f (take k bs)
take_map f zero bs = refl
take_map f (suc k) [] = refl
take_map f (suc k) (b ∷ bs) = ap (λ (z : Bits). f b ∷ z) (take_map f k bs)

drop_map : (f : Bool → Bool) (k : ℕ) (bs : Bits) → drop k (map f bs) ≡ map f (drop k bs)
drop_map f zero bs = refl
drop_map f (suc k) [] = refl
drop_map f (suc k) (b ∷ bs) = drop_map f k bs

take-length : (k : ℕ) (bs : Bits) → length (take k bs) ≡ min k (length bs)
take-length zero bs = omega arith
take-length (suc k) [] = omega arith
take-length (suc k) (b ∷ bs) = omega (arith, take-length k bs)

flipped_packed : (k : ℕ) (bs : Bits) (rest : Bytes) → flipped k (length bs) (packed k (map not bs) ++ rest) ≡ packed k bs ++ rest
unfolding flipped packed
flipped_packed zero bs rest = refl
flipped_packed (suc k) bs rest =
    ap₂ ◌∷◌
    (ap₂ flip_byte (sym (take-length 8 bs)) (ap low_first (take_map not 8 bs)) ∙ flip_opposite (take 8 bs))
    (ap₂ (λ (n : ℕ) (z : Bits). flipped k n (packed k z ++ rest)) (sym (length-drop 8 bs)) (drop_map not 8 bs) ∙ flipped_packed k (drop 8 bs) rest)

-- Packed opposites, flipped, are the packed bits; what lies behind is as it was.
pub flipped_pack : (n : ℕ) (bs : Bits) (rest : Bytes) → n ≡ length bs → flipped (blocks 8 n) n (pack (map not bs) ++ rest) ≡ pack bs ++ rest
unfolding pack
flipped_pack n bs rest e =
    ap₂ (λ (m l : ℕ). flipped (blocks 8 m) m (packed (blocks 8 l) (map not bs) ++ rest)) e (length-map bs not) ∙ flipped_packed (blocks 8 (length bs)) bs rest
