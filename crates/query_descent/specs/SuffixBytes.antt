-- The bytes of a suffix, filled up: the highest and lowest keys of an open leaf behind its cut, compared with a key byte by byte.
use Prim.Native.Nat.{ℕ, zero, suc, ◌+◌, ◌-◌, ◌*◌, ◌<◌, ◌≤◌}
use Rattle.std.specs.Prelude.{◌≡◌, Bool, true, cond, not, ◌&&◌, ◌||◌, ◌⊎◌, take, drop, replicate, ltb, eqb}
use Rattle.std.proofs.Math.Path.{refl, sym, ap}
use Rattle.std.proofs.Common.{ap₂, ◌∙◌, inl, inr, add-one, add-zero, mul-le-mul_left, mul-le-mul_right, suc-mul, drop_of_length-le, get_or-take, drop-drop, drop-cons, eq-eqb, ne_eqb, eqb-true, lt-ltb, le-ltb, ltb-false}
use Rattle.std.proofs.Math.Bool.{false}
use mathlib.Core.List.{List, [], ◌∷◌, ◌++◌, map}
use native.Mathlib.Omega.{arith}
use Rattle.std.proofs.Math.ListN.{length, get_or, length-drop, get_or-eq_default}
use Rattle.std.proofs.Math.Seq.{get_or-drop, length-take-le}
use Rattle.std.proofs.lemmas.Bool.{eqb-false}
use Rattle.spec.specs.Bytes.{Bytes, Bits, bit, blocks, concat, pack, fill, filled}
use Rattle.spec.specs.Keys.{below}
use Rattle.spec.specs.Leaves.{trimmed}
use Rattle.spec.specs.Nodes.{Node}
use Rattle.spec.specs.Trie.{leaf_count}
use Rattle.bits.specs.Bits.{bit_at}
use Rattle.image.specs.declared.Frame.{Frame}
use Rattle.nav_nodes.specs.Accepted.{Accepted, nodes, hash_slot, real_slot}
use Rattle.nav_nodes.specs.Slots.{slot_of}
use Rattle.nav_nodes.specs.Stored.{Starts, bits_at, bits_room}
use Rattle.query_descent.specs.Bounds.{high_rest, low_rest, high_passed, low_reached}
use Rattle.theory.specs.Terms.{All}
use Rattle.theory.proofs.NodeBits.{SlotsWidth, slots, length_sv}

-- ---- filled bytes

full_byte : 255 ≡ fill true 8 []
unfolding fill
full_byte = refl

high_part : (k b n : ℕ) (s : Bits) → length s ≤ 8 * b → k ≤ b + n → take k (filled true b s ++ replicate n 255) ≡ filled true k s
unfolding filled
high_part zero b n s h l = refl
high_part (suc k) zero zero s h l = absurd (omega arith)
high_part (suc k) zero (suc n) [] h l = ap₂ ◌∷◌ full_byte (high_part k zero n [] h (omega arith))
high_part (suc k) zero (suc n) (x ∷ s) h l = absurd (omega arith)
high_part (suc k) (suc b) n s h l = ap (λ (z : Bytes). fill true 8 s ∷ z) (high_part k b n (drop 8 s) (omega (arith, length-drop 8 s)) (omega arith))

-- the highest key behind the cut: the suffix filled with ones to 64 bytes in all
pub high_filled : (c : ℕ) (s : Bits) → high_rest c s ≡ filled true (64 - c) s
unfolding high_rest
high_filled c s = high_part (64 - c) (blocks 8 (length s)) 64 s (omega arith) (omega arith)

trimmed_zero : (k : ℕ) → trimmed (filled false k []) ≡ []
unfolding trimmed filled fill
trimmed_zero zero = refl
trimmed_zero (suc k) = rw (trimmed_zero k)

low_part : (k b : ℕ) (s : Bits) → length s ≤ 8 * b → trimmed (take k (filled false b s)) ≡ trimmed (filled false k s)
unfolding filled trimmed
low_part zero b s h = refl
low_part (suc k) zero [] h = sym (trimmed_zero (suc k))
low_part (suc k) zero (x ∷ s) h = absurd (omega arith)
low_part (suc k) (suc b) s h = rw (low_part k b (drop 8 s) (omega (arith, length-drop 8 s)))

-- the lowest: filled with zeros, and those at the end dropped
pub low_filled : (c : ℕ) (s : Bits) → low_rest c s ≡ trimmed (filled false (64 - c) s)
unfolding low_rest
low_filled c s = low_part (64 - c) (blocks 8 (length s)) s (omega arith)

-- ---- comparison, byte by byte

below_none : (r : Bytes) → below r [] ≡ false
unfolding below
below_none [] = refl
below_none (x ∷ r) = refl

-- a key that has ended has no byte above
high_end : (k : ℕ) (s : Bits) → below (filled true k s) [] ≡ false
high_end k s = below_none (filled true k s)

high_step : (k : ℕ) (s : Bits) (y : ℕ) (r : Bytes) → below (filled true (suc k) s) (y ∷ r) ≡ ltb (fill true 8 s) y || (eqb (fill true 8 s) y && below (filled true k (drop 8 s)) r)
unfolding below filled
high_step k s y r = refl

-- the highest key's byte is below the key's
high_less : (k : ℕ) (s : Bits) (y : ℕ) (r : Bytes) → fill true 8 s < y → below (filled true (suc k) s) (y ∷ r) ≡ true
high_less k s y r h = high_step k s y r ∙ rw (lt-ltb (fill true 8 s) y h)

-- it is above it
high_more : (k : ℕ) (s : Bits) (y : ℕ) (r : Bytes) → y < fill true 8 s → below (filled true (suc k) s) (y ∷ r) ≡ false
high_more k s y r h = high_step k s y r ∙ rw (le-ltb (fill true 8 s) y (omega arith), ne_eqb (fill true 8 s) y (λ q. omega arith))

-- they are the same
high_same : (k : ℕ) (s : Bits) (y : ℕ) (r : Bytes) → fill true 8 s ≡ y → below (filled true (suc k) s) (y ∷ r) ≡ below (filled true k (drop 8 s)) r
high_same k s y r h = high_step k s y r ∙ rw (le-ltb (fill true 8 s) y (omega arith), eq-eqb (fill true 8 s) y h)

-- no key is below a lowest key of no more bytes
low_end : (k : ℕ) (s : Bits) (r : Bytes) → (k ≡ 0) ⊎ (length s ≡ 0) → below r (trimmed (filled false k s)) ≡ false
unfolding filled trimmed
low_end k s r (inl e) = rw e (below_none r)
low_end k [] r (inr e) = rw (trimmed_zero k) (below_none r)
low_end k (x ∷ s) r (inr e) = absurd (omega arith)

-- the first byte of a key, zero where it has ended
low_step : (x : ℕ) (t r : Bytes) → below r (trimmed (x ∷ t)) ≡ ltb (get_or r 0 0) x || (eqb (get_or r 0 0) x && below (drop 1 r) (trimmed t))
unfolding below trimmed
low_step x t r = go (trimmed t) r
  where
    zero_first : (z : Bytes) (r : Bytes) → z ≡ [] → (b : Bool) → eqb x 0 ≡ b → below r (cond b [] (x ∷ [])) ≡ ltb (get_or r 0 0) x || (eqb (get_or r 0 0) x && below (drop 1 r) z)
    zero_first z [] e true q = let n = eqb-true x 0 q in rw (e, n, below_none [])
    zero_first z [] e false q = let n = eqb-false x 0 q in rw (lt-ltb 0 x (omega arith))
    zero_first z (y ∷ r) e true q = let n = eqb-true x 0 q in rw (e, n, le-ltb y 0 (omega arith), below_none r) (and_no (eqb y 0))
      where
        and_no : (b : Bool) → false ≡ b && false
        and_no true = refl
        and_no false = refl
    zero_first z (y ∷ r) e false q = rw e

    longer : (a : ℕ) (z r : Bytes) → below r (x ∷ a ∷ z) ≡ ltb (get_or r 0 0) x || (eqb (get_or r 0 0) x && below (drop 1 r) (a ∷ z))
    longer a z [] = sym (both (ltb 0 x) refl)
      where
        both : (b : Bool) → ltb 0 x ≡ b → b || (eqb 0 x && true) ≡ true
        both true q = refl
        both false q = rw (eq-eqb 0 x (omega (arith, ltb-false 0 x q)))
    longer a z (y ∷ r) = refl

    go : (z r : Bytes) → below r (elim z [ [] ↦ cond (eqb x 0) [] (x ∷ []) | y ∷ ys ↦ x ∷ y ∷ ys ]) ≡ ltb (get_or r 0 0) x || (eqb (get_or r 0 0) x && below (drop 1 r) z)
    go [] r = zero_first [] r refl (eqb x 0) refl
    go (a ∷ z) r = longer a z r

filled_step : (k : ℕ) (s : Bits) → filled false (suc k) s ≡ fill false 8 s ∷ filled false k (drop 8 s)
unfolding filled
filled_step k s = refl

-- the key's byte is below the lowest key's
low_less : (k : ℕ) (s : Bits) (r : Bytes) → get_or r 0 0 < fill false 8 s → below r (trimmed (filled false (suc k) s)) ≡ true
low_less k s r h = ap (λ (z : Bytes). below r (trimmed z)) (filled_step k s) ∙ low_step (fill false 8 s) (filled false k (drop 8 s)) r ∙ rw (lt-ltb (get_or r 0 0) (fill false 8 s) h)

-- it is above it
low_more : (k : ℕ) (s : Bits) (r : Bytes) → fill false 8 s < get_or r 0 0 → below r (trimmed (filled false (suc k) s)) ≡ false
low_more k s r h =
    ap (λ (z : Bytes). below r (trimmed z)) (filled_step k s) ∙ low_step (fill false 8 s) (filled false k (drop 8 s)) r
    ∙ rw (le-ltb (get_or r 0 0) (fill false 8 s) (omega arith), ne_eqb (get_or r 0 0) (fill false 8 s) (λ q. omega arith))

-- they are the same
low_same : (k : ℕ) (s : Bits) (r : Bytes) → get_or r 0 0 ≡ fill false 8 s → below r (trimmed (filled false (suc k) s)) ≡ below (drop 1 r) (trimmed (filled false k (drop 8 s)))
low_same k s r h =
    ap (λ (z : Bytes). below r (trimmed z)) (filled_step k s) ∙ low_step (fill false 8 s) (filled false k (drop 8 s)) r
    ∙ rw (le-ltb (get_or r 0 0) (fill false 8 s) (omega arith), eq-eqb (get_or r 0 0) (fill false 8 s) h)

-- ---- a byte of bits, one by one

-- ---- the bits of a slot

module _ (w : ℕ) (ns : List Node) (sv : Bytes) (wide : All (SlotsWidth w) ns) (h : Starts (pack (concat (map slots ns))) sv) (v : ℕ) (in_range : v < leaf_count ns) where
  slot_end : v * w + w ≤ length (concat (map slots ns))
  slot_end =
      let l = length_sv w ns wide in
      let m = mul-le-mul_right w in_range in
      omega (arith, suc-mul v w)

  -- a slot has w bits
  pub slot_length : length (slot_of w ns v) ≡ w
  unfolding slot_of
  slot_length = length-take-le w (drop (v * w) (concat (map slots ns))) (omega (arith, length-drop (v * w) (concat (map slots ns)), slot_end))

  -- bit i of a slot
  pub slot_bit : (f : Bool) (i : ℕ) → i < w → (v * w + i < 8 * length sv) × (bit_at sv (v * w + i) ≡ bit (get_or (slot_of w ns v) i f))
  unfolding slot_of
  slot_bit f i l =
      let e = slot_end in
      let r = bits_room (concat (map slots ns)) sv h in
      let b = bits_at (concat (map slots ns)) sv h (v * w + i) (omega arith) in
      (omega arith, b ∙ ap bit (any_default (concat (map slots ns)) (v * w + i) false f (omega arith) ∙ sym (get_or-take w (drop (v * w) (concat (map slots ns))) i f l ∙ get_or-drop (v * w) (concat (map slots ns)) i f)))
    where
      any_default : (bs : Bits) (i : ℕ) (d e : Bool) → i < length bs → get_or bs i d ≡ get_or bs i e
      any_default [] i d e h = absurd (omega arith)
      any_default (b ∷ bs) zero d e h = refl
      any_default (b ∷ bs) (suc i) d e h = any_default bs i d e (omega arith)

  -- behind its last bit
  pub slot_past : (f : Bool) (i : ℕ) → w ≤ i → get_or (slot_of w ns v) i f ≡ f
  slot_past f i l = get_or-eq_default (slot_of w ns v) f (omega (arith, slot_length))

-- ---- the tests by their position in the key

-- The highest key test at the start: d bytes are passed.
high_start : (k : Bytes) (d : ℕ) (s : Bits) → d ≤ length k → high_passed (length k) s (drop d k) ≡ below (filled true (64 - d) s) (drop d k)
unfolding high_passed
high_start k d s h = let e : length k - length (drop d k) ≡ d = omega (arith, length-drop d k) in rw e (ap (λ (z : Bytes). below z (drop d k)) (high_filled d s))

low_start : (k : Bytes) (d : ℕ) (s : Bits) → d ≤ length k → low_reached (length k) s (drop d k) ≡ not (below (drop d k) (trimmed (filled false (64 - d) s)))
unfolding low_reached
low_start k d s h = let e : length k - length (drop d k) ≡ d = omega (arith, length-drop d k) in rw e (ap (λ (z : Bytes). not (below (drop d k) z)) (low_filled d s))

-- what is left to compare at byte i of the key, d of its bytes being the cut key
abbrev pub high_from : Bits → Bytes → ℕ → ℕ → Bool
high_from s k d i = below (filled true (64 - i) (drop (8 * (i - d)) s)) (drop i k)

abbrev pub low_from : Bits → Bytes → ℕ → ℕ → Bool
low_from s k d i = below (drop i k) (trimmed (filled false (64 - i) (drop (8 * (i - d)) s)))

module _ (s : Bits) (k : Bytes) (d i : ℕ) (lo : d ≤ i) where
  one_less : i < 64 → 64 - i ≡ suc (64 - (i + 1))
  one_less h = omega arith

  -- the bits of the next byte
  pub next_bits : drop 8 (drop (8 * (i - d)) s) ≡ drop (8 * (i + 1 - d)) s
  next_bits = let e : 8 * (i - d) + 8 ≡ 8 * (i + 1 - d) = omega arith in drop-drop 8 (8 * (i - d)) s ∙ ap (λ (z : ℕ). drop z s) e

  next_byte : i < length k → drop i k ≡ get_or k i 0 ∷ drop (i + 1) k
  next_byte h = drop-cons k i 0 h ∙ ap (λ (z : ℕ). get_or k i 0 ∷ drop z k) (sym (add-one i))

  -- the key has ended
  pub high_ended : length k ≤ i → high_from s k d i ≡ false
  high_ended h = rw (drop_of_length-le k {i = i} h) (high_end (64 - i) (drop (8 * (i - d)) s))

  pub high_byte_less : i < length k → i < 64 → fill true 8 (drop (8 * (i - d)) s) < get_or k i 0 → high_from s k d i ≡ true
  high_byte_less h l q = rw (next_byte h, one_less l) (high_less (64 - (i + 1)) (drop (8 * (i - d)) s) (get_or k i 0) (drop (i + 1) k) q)

  pub high_byte_more : i < length k → i < 64 → get_or k i 0 < fill true 8 (drop (8 * (i - d)) s) → high_from s k d i ≡ false
  high_byte_more h l q = rw (next_byte h, one_less l) (high_more (64 - (i + 1)) (drop (8 * (i - d)) s) (get_or k i 0) (drop (i + 1) k) q)

  pub high_byte_same : i < length k → i < 64 → fill true 8 (drop (8 * (i - d)) s) ≡ get_or k i 0 → high_from s k d i ≡ high_from s k d (i + 1)
  high_byte_same h l q = rw (next_byte h, one_less l) (high_same (64 - (i + 1)) (drop (8 * (i - d)) s) (get_or k i 0) (drop (i + 1) k) q ∙ ap (λ (z : Bits). below (filled true (64 - (i + 1)) z) (drop (i + 1) k)) next_bits)

  first_byte : get_or (drop i k) 0 0 ≡ get_or k i 0
  first_byte = get_or-drop i k 0 0 ∙ ap (λ (z : ℕ). get_or k z 0) (add-zero i)

  -- the suffix has ended
  pub low_ended : (length s ≤ 8 * (i - d)) ⊎ (64 ≤ i) → low_from s k d i ≡ false
  low_ended (inl h) = low_end (64 - i) (drop (8 * (i - d)) s) (drop i k) (inr (omega (arith, length-drop (8 * (i - d)) s)))
  low_ended (inr h) = low_end (64 - i) (drop (8 * (i - d)) s) (drop i k) (inl (omega arith))

  pub low_byte_less : i < 64 → get_or k i 0 < fill false 8 (drop (8 * (i - d)) s) → low_from s k d i ≡ true
  low_byte_less l q = rw (one_less l) (low_less (64 - (i + 1)) (drop (8 * (i - d)) s) (drop i k) (omega (arith, first_byte)))

  pub low_byte_more : i < 64 → fill false 8 (drop (8 * (i - d)) s) < get_or k i 0 → low_from s k d i ≡ false
  low_byte_more l q = rw (one_less l) (low_more (64 - (i + 1)) (drop (8 * (i - d)) s) (drop i k) (omega (arith, first_byte)))

  pub low_byte_same : i < 64 → get_or k i 0 ≡ fill false 8 (drop (8 * (i - d)) s) → low_from s k d i ≡ low_from s k d (i + 1)
  low_byte_same l q =
      rw (one_less l) (low_same (64 - (i + 1)) (drop (8 * (i - d)) s) (drop i k) (first_byte ∙ q)
      ∙ ap₂ (λ (a : Bytes) (z : Bits). below a (trimmed (filled false (64 - (i + 1)) z))) (drop-drop 1 i k) next_bits)

-- The tests, from the cut on.
pub high_whole : (k : Bytes) (d : ℕ) (s : Bits) → d ≤ length k → high_passed (length k) s (drop d k) ≡ high_from s k d d
high_whole k d s h = let e : 8 * (d - d) ≡ 0 = omega arith in rw e (high_start k d s h)

pub low_whole : (k : Bytes) (d : ℕ) (s : Bits) → d ≤ length k → low_reached (length k) s (drop d k) ≡ not (low_from s k d d)
low_whole k d s h = let e : 8 * (d - d) ≡ 0 = omega arith in rw e (low_start k d s h)

-- a bit is at most one
pub bit_le : (b : Bool) → bit b ≤ 1
bit_le true = omega arith
bit_le false = omega arith

-- slots stay small numbers
pub slot_small : (v w : ℕ) → v ≤ 65535 → w ≤ 32 → v * w ≤ 2097120
slot_small v w a b = let m = mul-le-mul_right w a in let n = mul-le-mul_left 65535 b in omega arith

-- the bytes of a key from byte i on
pub key_next : (k : Bytes) (i : ℕ) → i < length k → drop i k ≡ get_or k i 0 ∷ drop (i + 1) k
key_next k i h = drop-cons k i 0 h ∙ ap (λ (z : ℕ). get_or k i 0 ∷ drop z k) (sym (add-one i))

-- ---- a slot of an accepted image

module _ (s : Bytes) (f : Frame) (a : Accepted s f) (v : ℕ) (h : v < f.leaves) where
  -- it has hash bits and real bits
  whole_length : length (slot_of f.width (nodes s f) v) ≡ f.width
  whole_length = slot_length f.width (nodes s f) (drop f.sv s) a.writable.wide a.SV.1 v (omega (arith, a.writable.leaf_total))

  -- as many real bits as the header says
  pub real_length : length (real_slot s f v) ≡ f.real_width
  real_length = omega (arith, length-drop f.hash_width (slot_of f.width (nodes s f) v), whole_length, a.width_is)

  -- and as many hash bits
  pub hash_length : length (hash_slot s f v) ≡ f.hash_width
  hash_length = length-take-le f.hash_width (slot_of f.width (nodes s f) v) (omega (arith, whole_length, a.width_is))

  -- behind its real bits there are none
  pub real_past : (ones : Bool) (i : ℕ) → f.real_width ≤ i → get_or (real_slot s f v) i ones ≡ ones
  real_past ones i l = get_or-eq_default (real_slot s f v) ones (omega (arith, real_length))
