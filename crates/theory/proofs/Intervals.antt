-- The possible keys of a leaf are exactly the keys of at most 64 bytes from its lowest to its highest (possible_interval_exactly), both of them possible.
-- Every law about replies stands on this.
use Rattle.std.specs.Prelude.{ℕ, zero, suc, ◌+◌, ◌-◌, ◌*◌, ◌%◌, ◌^◌, ◌<◌, ◌≤◌, ◌≡◌, refl, ◌≢◌, ◌↔◌, cond, Bool, true, false, not, ◌&&◌, ◌||◌, [], ◌∷◌, ◌++◌, length, take, drop, replicate, leb, ltb, eqb}
use Rattle.std.proofs.Common.{sym, ap, ap₂, ◌∙◌, true≢false, arith, mod-eq_of_lt, mod-lt, pow_pos, length-drop, length-append, length-take, drop_of_length-le, lt-ltb, le-ltb, le-leb, eq-eqb, ne_eqb, eqb-true, leb-true}
use Rattle.std.specs.Bool.{beq}
use Rattle.std.proofs.Math.Bool.{and_assoc, and-false}
use Rattle.std.proofs.Math.Nat.{mod-eq-sub-mod}
use Rattle.std.proofs.Math.Seq.{take-nil}
use Rattle.std.proofs.lemmas.Bool.{lt-leb, not-true}
use Rattle.spec.specs.Bytes.{Bytes, Bits, bit, begins, high_first, bits_of, padded, fill, filled, clear, same_bits, blocks, equal}
use Rattle.spec.specs.Keys.{below}
use Rattle.spec.specs.Leaves.{Leaf, trimmed, bits_behind, possible, lowest, highest}
use Rattle.theory.specs.Terms.{IsBytes, Key}
use Rattle.theory.proofs.Lists.{bytes_append, bytes_take, le_or_lt, bytes_drop, and_both}
use Rattle.theory.proofs.Order.{below_irrefl, equal_order, prefix_append, below_append, below_nil, outside_prefix, equal_true}
use Rattle.theory.proofs.LeafLists.{ClearPast, RealSized}

leb_eq : (a b c d : ℕ) → (a ≤ b → c ≤ d) → (c ≤ d → a ≤ b) → leb a b ≡ leb c d
leb_eq a b c d f g = le_or_lt a b (λ h. le-leb a b h ∙ sym (le-leb c d (f h))) (λ h. lt-leb a b h ∙ sym (lt-leb c d (le_or_lt c d (λ k. absurd (omega (arith, g k))) (λ k. k))))

-- ---- one byte

-- filled with zeros, with ones
pub fill_order : (k : ℕ) (s : Bits) → (fill false k s ≤ fill true k s) × (fill true k s < 2 ^ k)
unfolding fill
fill_order zero s = omega arith
fill_order (suc k) [] = omega (arith, fill_order k [])
fill_order (suc k) (true ∷ s) = omega (arith, fill_order k s)
fill_order (suc k) (false ∷ s) = omega (arith, fill_order k s)

fill_none : (k : ℕ) → (fill false k [] ≡ 0) × (fill true k [] + 1 ≡ 2 ^ k)
unfolding fill
fill_none zero = (refl, refl)
fill_none (suc k) = omega (arith, fill_none k)

step_bit : (k x lo hi : ℕ) (a : Bool) → x < 2 ^ suc k → lo ≤ hi → hi < 2 ^ k
    → beq (leb (2 ^ k) x) a && (leb lo (x % 2 ^ k) && leb (x % 2 ^ k) hi) ≡ leb (bit a * 2 ^ k + lo) x && leb x (bit a * 2 ^ k + hi)
step_bit k x lo hi a b o h = le_or_lt (2 ^ k) x (above a) (under a)
  where
    above : (a : Bool) → 2 ^ k ≤ x
        → beq (leb (2 ^ k) x) a && (leb lo (x % 2 ^ k) && leb (x % 2 ^ k) hi) ≡ leb (bit a * 2 ^ k + lo) x && leb x (bit a * 2 ^ k + hi)
    above true g = rw (le-leb (2 ^ k) x g, mod-eq-sub-mod g, mod-eq_of_lt {n = x - 2 ^ k} {m = 2 ^ k} (omega arith))
        (ap₂ ◌&&◌ (leb_eq lo (x - 2 ^ k) (1 * 2 ^ k + lo) x (λ q. omega arith) (λ q. omega arith)) (leb_eq (x - 2 ^ k) hi x (1 * 2 ^ k + hi) (λ q. omega arith) (λ q. omega arith)))
    above false g = rw (le-leb (2 ^ k) x g, lt-leb x (0 * 2 ^ k + hi) (omega arith)) (simp and-false)

    under : (a : Bool) → x < 2 ^ k
        → beq (leb (2 ^ k) x) a && (leb lo (x % 2 ^ k) && leb (x % 2 ^ k) hi) ≡ leb (bit a * 2 ^ k + lo) x && leb x (bit a * 2 ^ k + hi)
    under true g = rw (lt-leb (2 ^ k) x g, lt-leb (1 * 2 ^ k + lo) x (omega arith))
    under false g = rw (lt-leb (2 ^ k) x g, mod-eq_of_lt g)
        (ap₂ ◌&&◌ (leb_eq lo x (0 * 2 ^ k + lo) x (λ q. omega arith) (λ q. omega arith)) (leb_eq x hi x (0 * 2 ^ k + hi) (λ q. omega arith) (λ q. omega arith)))

-- the bits, filled up with zeros, begin with s
unfoldable starts_with : Bits → Bits → Bool
starts_with bs [] = true
starts_with [] (a ∷ s) = beq false a && starts_with [] s
starts_with (b ∷ bs) (a ∷ s) = beq b a && starts_with bs s

-- no bits begin with s exactly where none of its bits is set
starts_clear : (s : Bits) → starts_with [] s ≡ clear s
unfolding starts_with clear
starts_clear [] = refl
starts_clear (true ∷ s) = refl
starts_clear (false ∷ s) = starts_clear s

starts_padded : (bs s : Bits) → same_bits (padded (length s) bs) s ≡ starts_with bs s
unfolding starts_with same_bits padded
starts_padded bs [] = refl
starts_padded [] (a ∷ s) = rw (starts_padded [] s)
starts_padded (b ∷ bs) (a ∷ s) = rw (starts_padded bs s)

starts_byte : (k x : ℕ) (bs s : Bits) → x < 2 ^ k → starts_with (high_first k x ++ bs) s ≡ (leb (fill false k s) x && leb x (fill true k s)) && starts_with bs (drop k s)
unfolding starts_with high_first fill
starts_byte zero x bs s h = rw (le-leb 0 x (omega arith), le-leb x 0 (omega arith))
starts_byte (suc k) x bs [] h =
    let n = fill_none k in
    rw (le-leb (0 * 2 ^ k + fill false k []) x (omega arith), le-leb x (1 * 2 ^ k + fill true k []) (omega arith))
starts_byte (suc k) x bs (a ∷ s) h =
    let o = fill_order k s in
    rw (
      starts_byte k (x % 2 ^ k) bs s (mod-lt x (pow_pos k)),
      ← and_assoc (beq (leb (2 ^ k) x) a) (leb (fill false k s) (x % 2 ^ k) && leb (x % 2 ^ k) (fill true k s)) (starts_with bs (drop k s)),
      step_bit k x (fill false k s) (fill true k s) a h o.0 o.1,
    )

-- ---- the bytes behind a cut

starts_fill : (k : ℕ) (s : Bits) → starts_with [] s ≡ eqb (fill false k s) 0 && starts_with [] (drop k s)
unfolding starts_with fill
starts_fill zero s = refl
starts_fill (suc k) [] = rw (eq-eqb (0 * 2 ^ k + fill false k []) 0 (omega (arith, fill_none k)))
starts_fill (suc k) (true ∷ s) = rw (ne_eqb (1 * 2 ^ k + fill false k s) 0 (λ e. omega (arith, pow_pos k)))
starts_fill (suc k) (false ∷ s) =
    let e : fill false k s ≡ 0 * 2 ^ k + fill false k s = omega arith in
    starts_fill k s ∙ ap (λ (z : ℕ). eqb z 0 && starts_with [] (drop k s)) e

-- bits that make up the byte leave nothing to fill
pub fill_tight : (k : ℕ) (s : Bits) → k ≤ length s → fill false k s ≡ fill true k s
unfolding fill
fill_tight zero s h = refl
fill_tight (suc k) [] h = absurd (omega arith)
fill_tight (suc k) (b ∷ s) h = rw (fill_tight k s (omega arith))

is_nil : Bytes → Bool
is_nil [] = true
is_nil (x ∷ xs) = false

nil_below : (t : Bytes) → below [] t ≡ not (is_nil t)
unfolding below is_nil
nil_below [] = refl
nil_below (x ∷ xs) = refl

trimmed_nil : (x : ℕ) (t : Bytes) → is_nil (trimmed (x ∷ t)) ≡ eqb x 0 && is_nil (trimmed t)
unfolding trimmed is_nil
trimmed_nil x t = go (trimmed t) (eqb x 0)
  where
    go : (u : Bytes) (b : Bool) → is_nil (elim u [ [] ↦ cond b [] (x ∷ []) | y ∷ ys ↦ x ∷ y ∷ ys ]) ≡ b && is_nil u
    go [] true = refl
    go [] false = refl
    go (y ∷ ys) true = refl
    go (y ∷ ys) false = refl

-- trimmed bytes compare as their first byte and trimmed rest do
pub trimmed_below : (x : ℕ) (r : Bytes) (y : ℕ) (t : Bytes) → below (x ∷ r) (trimmed (y ∷ t)) ≡ ltb x y || (eqb x y && below r (trimmed t))
unfolding trimmed below
trimmed_below x r y t = go (trimmed t) (eqb y 0) refl
  where
    go : (u : Bytes) (b : Bool) → eqb y 0 ≡ b → below (x ∷ r) (elim u [ [] ↦ cond b [] (y ∷ []) | z ∷ zs ↦ y ∷ z ∷ zs ]) ≡ ltb x y || (eqb x y && below r u)
    go [] true e = sym (rw (le-ltb x y (omega (arith, eqb-true y 0 e)), below_nil r) (and-false (eqb x y)))
    go [] false e = refl
    go (z ∷ zs) true e = refl
    go (z ∷ zs) false e = refl

lowest_nil : (m R : ℕ) (s : Bits) → length s ≤ 8 * m → ClearPast R s → is_nil (trimmed (take R (filled false m s))) ≡ starts_with [] s
unfolding filled starts_with is_nil trimmed
lowest_nil zero R [] h p = rw (take-nil {A = ℕ} R)
lowest_nil zero R (b ∷ s) h p = absurd (omega arith)
lowest_nil (suc m) zero s h p = sym (starts_clear s ∙ p)
lowest_nil (suc m) (suc R) s h p =
    trimmed_nil (fill false 8 s) (take R (filled false m (drop 8 s)))
    ∙ rw (lowest_nil m R (drop 8 s) (omega (arith, length-drop 8 s)) p) (sym (starts_fill 8 s))

-- no bytes are above FF bytes that are as many
pub below_all_ff : (R N : ℕ) (r : Bytes) → R ≤ N → length r ≤ R → IsBytes r → below (take R (replicate N 255)) r ≡ false
unfolding below
below_all_ff zero N [] h l b = refl
below_all_ff zero N (x ∷ r) h l b = absurd (omega arith)
below_all_ff (suc R) zero r h l b = absurd (omega arith)
below_all_ff (suc R) (suc N) [] h l b = refl
below_all_ff (suc R) (suc N) (x ∷ r) h l b = rw (le-ltb 255 x (omega (arith, b.0)), below_all_ff R N r (omega arith) (omega arith) b.1) (and-false (eqb 255 x))

-- a byte x and what is behind it, from a lower to an upper bound: x lies between their first bytes, and what is behind it between theirs, which matters only where the first bytes are the same
pub combine : (lo hi x : ℕ) (P Q : Bool) → lo ≤ hi → (lo ≢ hi → not P && not Q ≡ true)
    → (leb lo x && leb x hi) && (not P && not Q) ≡ not (ltb x lo || (eqb x lo && P)) && not (ltb hi x || (eqb hi x && Q))
combine lo hi x P Q o f = le_or_lt lo x (λ a. le_or_lt x hi (λ b. inside a b) (λ b. over b)) under
  where
    under : x < lo → (leb lo x && leb x hi) && (not P && not Q) ≡ not (ltb x lo || (eqb x lo && P)) && not (ltb hi x || (eqb hi x && Q))
    under h = rw (lt-leb lo x h, lt-ltb x lo h)

    over : hi < x → (leb lo x && leb x hi) && (not P && not Q) ≡ not (ltb x lo || (eqb x lo && P)) && not (ltb hi x || (eqb hi x && Q))
    over h = rw (lt-leb x hi h, lt-ltb hi x h, and-false (leb lo x)) (simp and-false)

    loose : (P Q a b : Bool) → not P && not Q ≡ true → not P && not Q ≡ not (a && P) && not (b && Q)
    loose true Q a b e = absurd (true≢false (sym e))
    loose false true a b e = absurd (true≢false (sym e))
    loose false false a b e = rw (and-false a, and-false b)

    inside : lo ≤ x → x ≤ hi → (leb lo x && leb x hi) && (not P && not Q) ≡ not (ltb x lo || (eqb x lo && P)) && not (ltb hi x || (eqb hi x && Q))
    inside a b = rw (le-leb lo x a, le-leb x hi b, le-ltb x lo a, le-ltb hi x b)
        (le_or_lt hi lo (λ c. rw (eq-eqb x lo (omega arith), eq-eqb hi x (omega arith))) (λ c. loose P Q (eqb x lo) (eqb hi x) (f (λ e. omega arith))))

twice : (a : Bool) → a ≡ not (not a) && true
twice true = refl
twice false = refl

-- byte strings of at most R bytes whose bits begin with s: those from s filled with zeros to s filled with ones
interval : (m R : ℕ) (s : Bits) (r : Bytes) → length s ≤ 8 * m → R ≤ 64 → length r ≤ R → IsBytes r → ClearPast R s
    → starts_with (bits_of r) s ≡ not (below r (trimmed (take R (filled false m s)))) && not (below (take R (filled true m s ++ replicate 64 255)) r)
unfolding bits_of filled starts_with below trimmed
interval zero R [] r h q l b p = rw (take-nil {A = ℕ} R, below_nil r, below_all_ff R 64 r q l b)
interval zero R (a ∷ s) r h q l b p = absurd (omega arith)
interval (suc m) zero s [] h q l b p = starts_clear s ∙ p
interval (suc m) zero s (x ∷ r) h q l b p = absurd (omega arith)
interval (suc m) (suc R) s [] h q l b p = rw (nil_below (trimmed (take (suc R) (filled false (suc m) s))), lowest_nil (suc m) (suc R) s h p) (twice (starts_with [] s))
interval (suc m) (suc R) s (x ∷ r) h q l b p =
    let ih = interval m R (drop 8 s) r (omega (arith, length-drop 8 s)) (omega arith) (omega arith) b.1 p in
    let open_end : fill false 8 s ≢ fill true 8 s → starts_with (bits_of r) (drop 8 s) ≡ true = λ ne. le_or_lt 8 (length s) (λ c. absurd (ne (fill_tight 8 s c))) (λ c. rw (drop_of_length-le s {i = 8} (omega arith)) refl) in
    rw (trimmed_below x r (fill false 8 s) (take R (filled false m (drop 8 s))), starts_byte 8 x (bits_of r) s b.0, ih)
    (combine (fill false 8 s) (fill true 8 s) x (below r (trimmed (take R (filled false m (drop 8 s))))) (below (take R (filled true m (drop 8 s) ++ replicate 64 255)) r)
    (fill_order 8 s).0 (λ ne. sym ih ∙ open_end ne))

-- ---- the leaf

blocks_enough : (s : Bits) → length s ≤ 8 * blocks 8 (length s)
blocks_enough s = omega arith

-- of an open leaf
possible_interval : (l : Leaf) (k : Bytes) → l.exact ≡ false → length l.cut ≤ 64 → ClearPast (64 - length l.cut) l.suffix → IsBytes k → length k ≤ 64
    → possible l k ≡ not (below k (lowest l)) && not (below (highest l) k)
unfolding possible lowest highest bits_behind
possible_interval l k o f s b h = rw (o, le-leb (length k) 64 h) (go (begins c k) refl)
  where
    c : Bytes
    c = l.cut

    r : Bytes
    r = drop (length c) k

    m : ℕ
    m = blocks 8 (length l.suffix)

    low : Bytes
    low = trimmed (take (64 - length c) (filled false m l.suffix))

    high : Bytes
    high = take (64 - length c) (filled true m l.suffix ++ replicate 64 255)

    go : (e : Bool) → begins c k ≡ e
        → begins c k && same_bits (padded (length l.suffix) (bits_of r)) l.suffix ≡ not (below k (c ++ low)) && not (below (c ++ high) k)
    go false e = rw e (sym (outside_prefix c k low high e))
    go true e =
        let F : k ≡ c ++ r = prefix_append c k e in
        let lo : below k (c ++ low) ≡ below r low = ap (λ (z : Bytes). below z (c ++ low)) F ∙ below_append c r low in
        let hi : below (c ++ high) k ≡ below high r = ap (λ (z : Bytes). below (c ++ high) z) F ∙ below_append c high r in
        let n : length r ≡ length k - length c = length-drop (length c) k in
        rw (e, lo, hi, starts_padded (bits_of r) l.suffix)
        (interval m (64 - length c) l.suffix r (blocks_enough l.suffix) (omega arith) (omega (arith, f)) (bytes_drop (length c) k b) s)

-- The possible keys, as tests: of byte strings of at most 64 bytes, those from the lowest to the highest.
pub possible_between : {n : ℕ} (l : Leaf) (k : Bytes) → RealSized n l → IsBytes k → length k ≤ 64 → possible l k ≡ not (below k (lowest l)) && not (below (highest l) k)
unfolding possible lowest highest
possible_between l k o w h = go l.exact refl
  where
    go : (b : Bool) → l.exact ≡ b → possible l k ≡ not (below k (lowest l)) && not (below (highest l) k)
    go true e = rw e (equal_order l.cut k)
    go false e = possible_interval l k e o.key.fits o.spare w h

-- a possible key has at most 64 bytes
possible_length : {n : ℕ} (l : Leaf) (k : Bytes) → RealSized n l → possible l k ≡ true → length k ≤ 64
unfolding possible
possible_length l k o h = go l.exact refl
  where
    go : (b : Bool) → l.exact ≡ b → length k ≤ 64
    go true e = let s : equal l.cut k ≡ true = rw e at h in omega (arith, ap length (equal_true l.cut k s), o.key.fits)
    go false e =
        let s : leb (length k) 64 && (begins l.cut k && same_bits (bits_behind (length l.suffix) (length l.cut) k) l.suffix) ≡ true = rw e at h in
        leb-true (length k) 64 (and_both (leb (length k) 64) (begins l.cut k && same_bits (bits_behind (length l.suffix) (length l.cut) k) l.suffix) s).0

-- The possible keys of a leaf are exactly the keys of at most 64 bytes from its lowest to its highest: of both kinds, for every suffix width n and every cut length.
pub possible_interval_exactly : {n : ℕ} (l : Leaf) → RealSized n l → (k : Bytes) → IsBytes k
    → (possible l k ≡ true) ↔ ((length k ≤ 64) × (below k (lowest l) ≡ false) × (below (highest l) k ≡ false))
possible_interval_exactly l o k w = (
  λ h. let b = possible_length l k o h in
      let p = and_both (not (below k (lowest l))) (not (below (highest l) k)) (sym (possible_between l k o w b) ∙ h) in
      (b, not-true (below k (lowest l)) p.0, not-true (below (highest l) k) p.1),
  λ p. possible_between l k o w p.0 ∙ rw (p.1, p.2),
)

-- ---- the ends

pub bytes_filled : (b : Bool) (m : ℕ) (s : Bits) → IsBytes (filled b m s)
unfolding filled
bytes_filled b zero s = tt
bytes_filled true (suc m) s = ((fill_order 8 s).1, bytes_filled true m (drop 8 s))
bytes_filled false (suc m) s = (omega (arith, fill_order 8 s), bytes_filled false m (drop 8 s))

bytes_ff : (k : ℕ) → IsBytes (replicate k 255)
bytes_ff zero = tt
bytes_ff (suc k) = (omega arith, bytes_ff k)

-- bytes without trailing zeros are bytes, and no more of them
pub bytes_trimmed : (a : Bytes) → IsBytes a → IsBytes (trimmed a)
unfolding trimmed
bytes_trimmed [] p = tt
bytes_trimmed (x ∷ a) p = go (trimmed a) (eqb x 0) (bytes_trimmed a p.1)
  where
    go : (u : Bytes) (b : Bool) → IsBytes u → IsBytes (elim u [ [] ↦ cond b [] (x ∷ []) | y ∷ ys ↦ x ∷ y ∷ ys ])
    go [] true q = tt
    go [] false q = (p.0, tt)
    go (y ∷ ys) b q = (p.0, q)

pub trimmed_length : (a : Bytes) → length (trimmed a) ≤ length a
unfolding trimmed
trimmed_length [] = omega arith
trimmed_length (x ∷ a) = go (trimmed a) (eqb x 0) (trimmed_length a)
  where
    go : (u : Bytes) (b : Bool) → length u ≤ length a → length {A = ℕ} (elim u [ [] ↦ cond b [] (x ∷ []) | y ∷ ys ↦ x ∷ y ∷ ys ]) ≤ suc (length a)
    go [] true q = omega arith
    go [] false q = omega arith
    go (y ∷ ys) b q = omega arith

-- a cut key with bytes behind it, to at most 64
key_extended : {n : ℕ} (l : Leaf) (t : Bytes) → RealSized n l → length t ≤ 64 - length l.cut → IsBytes t → Key (l.cut ++ t)
key_extended l t o h w = record {
  least = omega (arith, o.key.least, length-append l.cut t);
  fits = omega (arith, o.key.fits, length-append l.cut t);
  bytes = bytes_append l.cut t o.key.bytes w;
}

-- the zeros, or the ones, that a suffix is filled with
module _ (l : Leaf) where
  low_bytes : Bytes
  low_bytes = filled false (blocks 8 (length l.suffix)) l.suffix

  high_bytes : Bytes
  high_bytes = filled true (blocks 8 (length l.suffix)) l.suffix ++ replicate 64 255

-- The lowest possible key is a key.
pub lowest_key : {n : ℕ} (l : Leaf) → RealSized n l → Key (lowest l)
unfolding lowest low_bytes
lowest_key l o = go l.exact
  where
    t : Bytes
    t = take (64 - length l.cut) (low_bytes l)

    go : (b : Bool) → Key (cond b l.cut (l.cut ++ trimmed t))
    go true = o.key
    go false = key_extended l (trimmed t) o (omega (arith, trimmed_length t, length-take (64 - length l.cut) (low_bytes l)))
        (bytes_trimmed t (bytes_take (64 - length l.cut) (low_bytes l) (bytes_filled false (blocks 8 (length l.suffix)) l.suffix)))

-- The highest possible key is a key.
pub highest_key : {n : ℕ} (l : Leaf) → RealSized n l → Key (highest l)
unfolding highest high_bytes
highest_key l o = go l.exact
  where
    t : Bytes
    t = take (64 - length l.cut) (high_bytes l)

    go : (b : Bool) → Key (cond b l.cut (l.cut ++ t))
    go true = o.key
    go false = key_extended l t o (omega (arith, length-take (64 - length l.cut) (high_bytes l)))
        (bytes_take (64 - length l.cut) (high_bytes l)
        (bytes_append (filled true (blocks 8 (length l.suffix)) l.suffix) (replicate 64 255) (bytes_filled true (blocks 8 (length l.suffix)) l.suffix) (bytes_ff 64)))

-- zeros and ones behind the same bits
filled_order : (m R : ℕ) (s : Bits) (top : Bytes) → below (take R (filled true m s ++ top)) (trimmed (take R (filled false m s))) ≡ false
unfolding filled trimmed
filled_order zero R s top = rw (take-nil {A = ℕ} R) (below_nil (take R top))
filled_order (suc m) zero s top = below_irrefl []
filled_order (suc m) (suc R) s top =
    let o = fill_order 8 s in
    trimmed_below (fill true 8 s) (take R (filled true m (drop 8 s) ++ top)) (fill false 8 s) (take R (filled false m (drop 8 s)))
    ∙ rw (le-ltb (fill true 8 s) (fill false 8 s) o.0, filled_order m R (drop 8 s) top) (and-false (eqb (fill true 8 s) (fill false 8 s)))

-- the highest is not below the lowest
lowest_highest : (l : Leaf) → below (highest l) (lowest l) ≡ false
unfolding highest lowest low_bytes high_bytes
lowest_highest l = go l.exact
  where
    low : Bytes
    low = trimmed (take (64 - length l.cut) (low_bytes l))

    high : Bytes
    high = take (64 - length l.cut) (high_bytes l)

    go : (b : Bool) → below (cond b l.cut (l.cut ++ high)) (cond b l.cut (l.cut ++ low)) ≡ false
    go true = below_irrefl l.cut
    go false = below_append l.cut high low ∙ filled_order (blocks 8 (length l.suffix)) (64 - length l.cut) l.suffix (replicate 64 255)

-- The lowest is possible.
pub lowest_possible : {n : ℕ} (l : Leaf) → RealSized n l → possible l (lowest l) ≡ true
lowest_possible l o = let k = lowest_key l o in possible_between l (lowest l) o k.bytes k.fits ∙ rw (below_irrefl (lowest l), lowest_highest l)

-- So is the highest.
pub highest_possible : {n : ℕ} (l : Leaf) → RealSized n l → possible l (highest l) ≡ true
highest_possible l o = let k = highest_key l o in possible_between l (highest l) o k.bytes k.fits ∙ rw (below_irrefl (highest l), lowest_highest l)
