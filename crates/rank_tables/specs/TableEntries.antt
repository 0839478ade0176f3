-- Tables of 32-bit entries: when a byte string is the table whose entry i is a given number, entry by entry. Used by the laws of ranks and of samples.
use Rattle.std.specs.Prelude.{ℕ, zero, suc, ◌+◌, ◌*◌, ◌%◌, ◌/◌, ◌≤◌, ◌<◌, ◌≡◌, Bool, ◌&&◌, List, [], ◌∷◌, ◌++◌, map, length, drop}
use Rattle.std.proofs.Math.Path.{refl}
use Rattle.std.proofs.Common.{sym, ap, ap₂, ◌∙◌, true≢false, append_assoc, append-nil, mod-lt, add-zero, add-one, length-append, length-drop, drop-drop, eqb-true, eq-eqb, ne_eqb}
use Rattle.std.proofs.Math.Bool.{true, false, and-false}
use native.Mathlib.Omega.{arith}
use Rattle.std.proofs.Math.Dec.{eqb}
use Rattle.std.proofs.lemmas.Nat.{mod-pow-add}
use Rattle.std.proofs.lemmas.Bool.{eqb-false}
use Rattle.spec.specs.Bytes.{Bytes, concat, iota, equal, le32, from32}
use Rattle.bits.specs.Bits.{overlaid, rank, select}
use Rattle.bits.proofs.Overlaying.{overlaid_overlaid, length_le32}
use Rattle.bits.proofs.ValueLaws.{Small, small_drop}

-- n entries of four bytes, entry number i the number f i
unfoldable pub table_of : (ℕ → ℕ) → ℕ → Bytes
unfolding concat iota le32
table_of f n = concat (map (λ i. le32 (f i)) (iota 0 n))

-- n ranks of a body, for blocks of w bits
abbrev pub rank_table : ℕ → Bytes → ℕ → Bytes
rank_table w s n = table_of (λ b. rank s (w * b)) n

-- n samples of the first so many bits of a body
abbrev pub sample_table : Bytes → ℕ → ℕ → Bytes
sample_table s bits n = table_of (λ t. select s bits (64 * t)) n

-- entry i of a table
abbrev pub table_entry : Bytes → ℕ → ℕ
table_entry t i = from32 (drop (4 * i) t)

-- functions with the same values at the numbers from a on
same_from : (f g : ℕ → ℕ) (a k : ℕ) → ((i : ℕ) → i < a + k → f i ≡ g i) → concat (map (λ i. le32 (f i)) (iota a k)) ≡ concat (map (λ i. le32 (g i)) (iota a k))
unfolding concat iota
same_from f g a zero h = refl
same_from f g a (suc k) h = ap₂ (λ (x : ℕ) (z : Bytes). le32 x ++ z) (h a (omega arith)) (same_from f g (suc a) k (λ i l. h i (omega arith)))

-- entries are decided by their numbers below n
pub table_same : (f g : ℕ → ℕ) (n : ℕ) → ((i : ℕ) → i < n → f i ≡ g i) → table_of f n ≡ table_of g n
unfolding table_of
table_same f g n h = same_from f g 0 n (λ i l. h i (omega arith))

-- ---- one entry

-- a number's low 32 bits by its bytes
digits : (x : ℕ) → x % 4294967296 ≡ x % 256 + 256 * (x / 256 % 256) + 65536 * (x / 65536 % 256) + 16777216 * (x / 16777216 % 256)
digits x =
    let h : x % 4294967296 ≡ (x / 16777216 % 256) * 16777216 + x % 16777216 = mod-pow-add x 8 24 in
    let m : x % 16777216 ≡ (x / 65536 % 256) * 65536 + x % 65536 = mod-pow-add x 8 16 in
    let l : x % 65536 ≡ (x / 256 % 256) * 256 + x % 256 = mod-pow-add x 8 8 in
    sum (x % 4294967296) (x % 16777216) (x % 65536) (x % 256) (x / 256 % 256) (x / 65536 % 256) (x / 16777216 % 256) h m l
  where
    sum : (n h m p q s t : ℕ) → n ≡ t * 16777216 + h → h ≡ s * 65536 + m → m ≡ q * 256 + p → n ≡ p + 256 * q + 65536 * s + 16777216 * t
    sum n h m p q s t e f g = omega arith

-- bytes of one number are those of another
bytes_same : (a b c d p q s t : ℕ) → a < 256 → b < 256 → c < 256 → d < 256 → p < 256 → q < 256 → s < 256 → t < 256
    → a + 256 * b + 65536 * c + 16777216 * d ≡ p + 256 * q + 65536 * s + 16777216 * t → (a ≡ p) × (b ≡ q) × (c ≡ s) × (d ≡ t)
bytes_same a b c d p q s t ha hb hc hd hp hq hs ht e = (omega arith, omega arith, omega arith, omega arith)

-- the four tests of an entry's bytes are one test of its number
four_bytes : (a b c d x : ℕ) → a < 256 → b < 256 → c < 256 → d < 256 → (r : Bool)
    → eqb a (x % 256) && (eqb b (x / 256 % 256) && (eqb c (x / 65536 % 256) && (eqb d (x / 16777216 % 256) && r))) ≡ eqb (a + 256 * b + 65536 * c + 16777216 * d) (x % 4294967296) && r
four_bytes a b c d x ha hb hc hd r =
    go (eqb a (x % 256)) refl (eqb b (x / 256 % 256)) refl (eqb c (x / 65536 % 256)) refl (eqb d (x / 16777216 % 256)) refl
  where
    n : ℕ
    n = a + 256 * b + 65536 * c + 16777216 * d

    apart : n ≡ x % 4294967296 → (a ≡ x % 256) × (b ≡ x / 256 % 256) × (c ≡ x / 65536 % 256) × (d ≡ x / 16777216 % 256)
    apart m =
        let lit : 0 < 256 = omega arith in
        bytes_same a b c d (x % 256) (x / 256 % 256) (x / 65536 % 256) (x / 16777216 % 256) ha hb hc hd (mod-lt x lit) (mod-lt (x / 256) lit) (mod-lt (x / 65536) lit) (mod-lt (x / 16777216) lit) (m ∙ digits x)

    other : (n ≡ x % 4294967296 → ⊥) → false ≡ eqb n (x % 4294967296) && r
    other h = ap (λ (t : Bool). t && r) (sym (ne_eqb n (x % 4294967296) h))

    go : (p : Bool) → eqb a (x % 256) ≡ p → (q : Bool) → eqb b (x / 256 % 256) ≡ q → (s : Bool) → eqb c (x / 65536 % 256) ≡ s → (t : Bool) → eqb d (x / 16777216 % 256) ≡ t
        → p && (q && (s && (t && r))) ≡ eqb n (x % 4294967296) && r
    go true e true f true g true h =
        let v = eqb-true a (x % 256) e in
        let w = eqb-true b (x / 256 % 256) f in
        let y = eqb-true c (x / 65536 % 256) g in
        let z = eqb-true d (x / 16777216 % 256) h in
        ap (λ (t : Bool). t && r) (sym (eq-eqb n (x % 4294967296) (rw (v, w, y, z) (sym (digits x)))))
    go false e q f s g t h = other (λ m. eqb-false a (x % 256) e (apart m).0)
    go true e false f s g t h = other (λ m. eqb-false b (x / 256 % 256) f (apart m).1)
    go true e true f false g t h = other (λ m. eqb-false c (x / 65536 % 256) g (apart m).2)
    go true e true f true g false h = other (λ m. eqb-false d (x / 16777216 % 256) h (apart m).3)

-- a table's first entry, and those behind it
equal_table_entry : (x : ℕ) (t rest : Bytes) → Small t → 4 ≤ length t → equal t (le32 x ++ rest) ≡ eqb (from32 t) (x % 4294967296) && equal (drop 4 t) rest
unfolding equal le32 from32
equal_table_entry x [] rest h l = absurd (omega arith)
equal_table_entry x (a ∷ []) rest h l = absurd (omega arith)
equal_table_entry x (a ∷ b ∷ []) rest h l = absurd (omega arith)
equal_table_entry x (a ∷ b ∷ c ∷ []) rest h l = absurd (omega arith)
equal_table_entry x (a ∷ b ∷ c ∷ d ∷ t) rest h l = four_bytes a b c d x (h 0) (h 1) (h 2) (h 3) (equal t rest)

-- ---- a whole table

-- the entries from number a on, in a table of just so many
rows_true : (f : ℕ → ℕ) (k a : ℕ) (t : Bytes) → Small t → length t ≡ 4 * k → ((i : ℕ) → i < k → table_entry t i ≡ f (a + i) % 4294967296)
    → equal t (concat (map (λ i. le32 (f i)) (iota a k))) ≡ true
unfolding equal concat iota
rows_true f zero a [] h l r = refl
rows_true f zero a (x ∷ t) h l r = absurd (omega arith)
rows_true f (suc k) a t h l r =
    let z : a + 0 ≡ a = omega arith in
    let e : table_entry t 0 ≡ f a % 4294967296 = rw z at (r 0 (omega arith)) in
    equal_table_entry (f a) t (concat (map (λ i. le32 (f i)) (iota (suc a) k))) h (omega arith)
    ∙ ap₂ ◌&&◌ (eq-eqb (from32 t) (f a % 4294967296) e)
    (rows_true f k (suc a) (drop 4 t) (small_drop 4 t h) (omega (arith, length-drop 4 t)) (λ i m. later i m))
  where
    later : (i : ℕ) → i < k → table_entry (drop 4 t) i ≡ f (suc a + i) % 4294967296
    later i m =
        let v : 4 + 4 * i ≡ 4 * suc i = omega arith in
        let w : a + suc i ≡ suc a + i = omega arith in
        ap from32 (drop-drop (4 * i) 4 t ∙ ap (λ (n : ℕ). drop n t) v) ∙ r (suc i) (omega arith) ∙ ap (λ (n : ℕ). f n % 4294967296) w

-- one of them has another number
rows_false : (f : ℕ → ℕ) (k a : ℕ) (t : Bytes) → Small t → length t ≡ 4 * k → (i : ℕ) → i < k → (table_entry t i ≡ f (a + i) % 4294967296 → ⊥)
    → equal t (concat (map (λ i. le32 (f i)) (iota a k))) ≡ false
unfolding concat iota
rows_false f zero a t h l i m r = absurd (omega arith)
rows_false f (suc k) a t h l zero m r =
    let z : a + 0 ≡ a = omega arith in
    equal_table_entry (f a) t (concat (map (λ i. le32 (f i)) (iota (suc a) k))) h (omega arith)
    ∙ ap (λ (v : Bool). v && equal (drop 4 t) (concat (map (λ i. le32 (f i)) (iota (suc a) k)))) (ne_eqb (from32 t) (f a % 4294967296) (λ e. r (rw z e)))
rows_false f (suc k) a t h l (suc i) m r =
    let v : 4 + 4 * i ≡ 4 * suc i = omega arith in
    let w : a + suc i ≡ suc a + i = omega arith in
    equal_table_entry (f a) t (concat (map (λ i. le32 (f i)) (iota (suc a) k))) h (omega arith)
    ∙ ap (λ (u : Bool). eqb (from32 t) (f a % 4294967296) && u)
    (rows_false f k (suc a) (drop 4 t) (small_drop 4 t h) (omega (arith, length-drop 4 t)) i (omega arith)
    (λ e. r (ap from32 (sym (drop-drop (4 * i) 4 t ∙ ap (λ (n : ℕ). drop n t) v)) ∙ e ∙ ap (λ (n : ℕ). f n % 4294967296) (sym w))))
    ∙ and-false (eqb (from32 t) (f a % 4294967296))

-- bytes of another length are other bytes
equal_length : (s t : Bytes) → (length s ≡ length t → ⊥) → equal s t ≡ false
unfolding equal
equal_length [] [] h = absurd (h refl)
equal_length [] (y ∷ t) h = refl
equal_length (x ∷ s) [] h = refl
equal_length (x ∷ s) (y ∷ t) h = go (eqb x y) (equal_length s t (λ e. h (ap suc e)))
  where
    go : (b : Bool) → equal s t ≡ false → b && equal s t ≡ false
    go true e = e
    go false e = refl

length_rows : (f : ℕ → ℕ) (a k : ℕ) → length (concat (map (λ i. le32 (f i)) (iota a k))) ≡ 4 * k
unfolding concat iota le32
length_rows f a zero = refl
length_rows f a (suc k) = omega (arith, length-append (le32 (f a)) (concat (map (λ i. le32 (f i)) (iota (suc a) k))), length_rows f (suc a) k)

-- four bytes an entry
pub length_table : (f : ℕ → ℕ) (n : ℕ) → length (table_of f n) ≡ 4 * n
unfolding table_of
length_table f n = length_rows f 0 n

module _ (f : ℕ → ℕ) (n : ℕ) (t : Bytes) where
  -- every entry of a table has its number
  pub table_valid : Small t → length t ≡ 4 * n → ((i : ℕ) → i < n → table_entry t i ≡ f i % 4294967296) → equal t (table_of f n) ≡ true
  unfolding table_of
  table_valid h l r = rows_true f n 0 t h l (λ i m. let z : 0 + i ≡ i = omega arith in rw z (r i m))

  -- a table with more or fewer entries
  pub table_sized : (length t ≡ 4 * n → ⊥) → equal t (table_of f n) ≡ false
  table_sized h = equal_length t (table_of f n) (λ e. h (e ∙ length_table f n))

  -- some entry has another
  pub table_wrong : Small t → (i : ℕ) → i < n → (table_entry t i ≡ f i % 4294967296 → ⊥) → equal t (table_of f n) ≡ false
  unfolding table_of
  table_wrong h i m r = go (eqb (length t) (4 * n)) refl
    where
      go : (b : Bool) → eqb (length t) (4 * n) ≡ b → equal t (table_of f n) ≡ false
      go true e = rows_false f n 0 t h (eqb-true (length t) (4 * n) e) i m (λ e. let z : 0 + i ≡ i = omega arith in r (rw z at e))
      go false e = table_sized (eqb-false (length t) (4 * n) e)

-- ---- a table compared entry by entry

-- the numbers below k pass a test
unfoldable pub all_below : (ℕ → Bool) → ℕ → Bool
all_below f zero = true
all_below f (suc k) = all_below f k && f k

-- no number
pub all_none : (f : ℕ → Bool) → all_below f 0 ≡ true
unfolding all_below
all_none f = refl

-- one number more
pub all_more : (f : ℕ → Bool) (k : ℕ) → all_below f (k + 1) ≡ all_below f k && f k
unfolding all_below
all_more f k = ap (all_below f) (add-one k)

-- all of them pass
pub all_pass : (f : ℕ → Bool) (k : ℕ) → all_below f k ≡ true → (i : ℕ) → i < k → f i ≡ true
unfolding all_below
all_pass f zero h i l = absurd (omega arith)
all_pass f (suc k) h i l = go (all_below f k) (all_pass f k) (f k) refl h (eqb i k) refl
  where
    go : (a : Bool) → (a ≡ true → (j : ℕ) → j < k → f j ≡ true) → (b : Bool) → f k ≡ b → a && b ≡ true → (c : Bool) → eqb i k ≡ c → f i ≡ true
    go true ih true g q true w = ap f (eqb-true i k w) ∙ g
    go true ih true g q false w = let n = eqb-false i k w in ih refl i (omega arith)
    go true ih false g q c w = absurd (true≢false (sym q))
    go false ih b g q c w = absurd (true≢false (sym q))

-- one of them fails
pub all_fail : (f : ℕ → Bool) (k : ℕ) → all_below f k ≡ false → (i : ℕ) × (i < k) × (f i ≡ false)
unfolding all_below
all_fail f zero h = absurd (true≢false h)
all_fail f (suc k) h = go (all_below f k) (all_fail f k) (f k) refl h
  where
    go : (a : Bool) → (a ≡ false → (i : ℕ) × (i < k) × (f i ≡ false)) → (b : Bool) → f k ≡ b → a && b ≡ false → (i : ℕ) × (i < suc k) × (f i ≡ false)
    go true ih true g q = absurd (true≢false q)
    go true ih false g q = (k, omega arith, g)
    go false ih b g q = let r = ih refl in (r.0, omega (arith, r.1), r.2)

-- entry i of a table has its number, modulo 2^32
abbrev pub table_entry_right : (ℕ → ℕ) → Bytes → ℕ → Bool
table_entry_right f t i = eqb (table_entry t i) (f i % 4294967296)

-- a table of n entries is right exactly if each of them is
pub table_agrees : (f : ℕ → ℕ) (n : ℕ) (t : Bytes) → Small t → length t ≡ 4 * n → all_below (table_entry_right f t) n ≡ equal t (table_of f n)
table_agrees f n t h l = go (all_below (table_entry_right f t) n) refl
  where
    go : (b : Bool) → all_below (table_entry_right f t) n ≡ b → b ≡ equal t (table_of f n)
    go true e = sym (table_valid f n t h l (λ i m. eqb-true (table_entry t i) (f i % 4294967296) (all_pass (table_entry_right f t) n e i m)))
    go false e = let r = all_fail (table_entry_right f t) n e in sym (table_wrong f n t h r.0 r.1 (eqb-false (table_entry t r.0) (f r.0 % 4294967296) r.2))

-- ---- a table written entry by entry

-- what stands at one number more goes behind
pub iota_snoc : {A : Type 0} (f : ℕ → List A) (k a : ℕ) → concat (map f (iota a (suc k))) ≡ concat (map f (iota a k)) ++ f (a + k)
unfolding concat iota
iota_snoc f zero a = append-nil (f a) ∙ ap f (sym (add-zero a))
iota_snoc f (suc k) a =
    ap (λ z. f a ++ z) (iota_snoc f k (suc a) ∙ ap (λ (m : ℕ). concat (map f (iota (suc a) k)) ++ f m) (omega arith))
    ∙ sym (append_assoc (f a) (concat (map f (iota (suc a) k))) (f (a + suc k)))

-- no entry
pub table_none : (f : ℕ → ℕ) → table_of f 0 ≡ []
unfolding table_of concat iota
table_none f = refl

-- one entry more
pub table_more : (f : ℕ → ℕ) (n : ℕ) → table_of f (n + 1) ≡ table_of f n ++ le32 (f n)
unfolding table_of
table_more f n = ap (table_of f) (add-one n) ∙ iota_snoc (λ i. le32 (f i)) n 0 ∙ ap (λ (k : ℕ). concat (map (λ i. le32 (f i)) (iota 0 n)) ++ le32 (f k)) (omega arith)

-- entry n written behind those before it
pub table_entry_overlaid : (out : Bytes) (f : ℕ → ℕ) (at n k : ℕ) → k ≡ at + 4 * n → k + 4 ≤ length out → overlaid (overlaid out at (table_of f n)) k (le32 (f n)) ≡ overlaid out at (table_of f (n + 1))
table_entry_overlaid out f at n k e h =
    overlaid_overlaid out (table_of f n) (le32 (f n)) at k (omega (arith, length_table f n)) (omega (arith, length_le32 (f n))) ∙ ap (overlaid out at) (sym (table_more f n))
