-- The records of an image written one behind the other: where each starts, and that one more goes behind those before it. One induction over the table of records serves each law.
use Rattle.std.specs.Prelude.{ℕ, zero, suc, ◌+◌, ◌≤◌, ◌<◌, ◌≡◌, length, get_or, take, drop}
use Rattle.std.proofs.Math.Path.{refl}
use Rattle.std.proofs.Common.{sym, ap, ap₂, ◌∙◌, arith, length-append, get_or-drop, drop-drop, drop-cons, take_all}
use mathlib.Core.List.{List, [], ◌∷◌, ◌++◌, append_assoc, append-nil}
use Rattle.spec.specs.Bytes.{Bytes, le32}
use Rattle.spec.specs.Image.{Settings, Counts, Row, rows, marked, write_records}
use Rattle.bits.specs.Bits.{overlaid}
use Rattle.bits.proofs.Overlaying.{overlaid_behind, length_le32}
use Rattle.image.specs.Header.{mark_bytes}
use Rattle.image.specs.Records.{row_at, row_mark, twelve_rows, rows_from, starts, length_marked}

-- ---- starts

module _ (st : Settings) (c : Counts) where
  -- where record i starts; for 12, where the last one ends
  abbrev pub start_of : ℕ → ℕ
  start_of i = get_or (starts st c rows 22) i 0

  starts_first : (rs : List Row) (at : ℕ) → get_or (starts st c rs at) 0 0 ≡ at
  unfolding starts
  starts_first [] at = refl
  starts_first (r ∷ rs) at = refl

  starts_behind : (r : Row) (rs : List Row) (at : ℕ) → drop 1 (starts st c (r ∷ rs) at) ≡ starts st c rs (at + 6 + r.size st c)
  unfolding starts
  starts_behind r rs at = refl

  -- the starts from record i on
  starts_from : (i : ℕ) → i ≤ 12 → drop i (starts st c rows 22) ≡ starts st c (drop i rows) (start_of i)
  starts_from zero h = ap (starts st c rows) (sym (starts_first rows 22))
  starts_from (suc i) h =
      let n : i + 1 ≡ suc i = omega arith in
      let d : drop (i + 1) (starts st c rows 22) ≡ starts st c (drop (i + 1) rows) (start_of i + 6 + (row_at i).size st c) =
      sym (drop-drop 1 i (starts st c rows 22)) ∙ ap (drop 1) (starts_from i (omega arith) ∙ ap (λ (z : List Row). starts st c z (start_of i)) (rows_from i (omega arith)))
      ∙ starts_behind (row_at i) (drop (i + 1) rows) (start_of i) in
      let z : i + 1 + 0 ≡ i + 1 = omega arith in
      let s : start_of (i + 1) ≡ start_of i + 6 + (row_at i).size st c =
      ap start_of (sym z) ∙ sym (get_or-drop (i + 1) (starts st c rows 22) 0 0) ∙ ap (λ (l : List ℕ). get_or l 0 0) d ∙ starts_first (drop (i + 1) rows) _ in
      rw (← n) (d ∙ ap (starts st c (drop (i + 1) rows)) (sym s))

  -- the first record starts behind the header
  pub start_first : start_of 0 ≡ 22
  start_first = starts_first rows 22

  -- each record starts behind the body of the one before
  pub start_next : (i : ℕ) → i < 12 → start_of (i + 1) ≡ start_of i + 6 + (row_at i).size st c
  start_next i h =
      let z : i + 1 + 0 ≡ i + 1 = omega arith in
      ap start_of (sym z) ∙ sym (get_or-drop (i + 1) (starts st c rows 22) 0 0)
      ∙ ap (λ (l : List ℕ). get_or l 0 0) (sym (drop-drop 1 i (starts st c rows 22)) ∙ ap (drop 1) (starts_from i (omega arith) ∙ ap (λ (l : List Row). starts st c l (start_of i)) (rows_from i h)) ∙ starts_behind (row_at i) (drop (i + 1) rows) (start_of i))
      ∙ starts_first (drop (i + 1) rows) _

  -- a record ends before a later one starts
  pub start_after : (k j : ℕ) → j + 1 + k ≤ 12 → start_of j + 6 + (row_at j).size st c ≤ start_of (j + 1 + k)
  start_after zero j h = let z : j + 1 + 0 ≡ j + 1 = omega arith in omega (arith, ap start_of z, start_next j (omega arith))
  start_after (suc k) j h = let z : j + 1 + suc k ≡ j + 1 + k + 1 = omega arith in omega (arith, ap start_of z, start_next (j + 1 + k) (omega arith), start_after k j (omega arith))

-- ---- records

-- the first i records
abbrev pub first_records : ℕ → List Bytes → Bytes
first_records i bs = write_records (take i rows) (take i bs)

-- one record more goes behind
records_snoc : (i : ℕ) (rs rest : List Row) (r : Row) (bs left : List Bytes) (b : Bytes) → drop i rs ≡ r ∷ rest → drop i bs ≡ b ∷ left
    → write_records (take (suc i) rs) (take (suc i) bs) ≡ write_records (take i rs) (take i bs) ++ marked r.first r.second b
unfolding write_records
records_snoc zero [] rest r bs left b e f = let z : ◌≡◌ {A = ℕ} 0 1 = cc in absurd (omega arith)
records_snoc zero (x ∷ rs) rest r [] left b e f = let z : ◌≡◌ {A = ℕ} 0 1 = cc in absurd (omega arith)
records_snoc zero (x ∷ rs) rest r (y ∷ bs) left b e f =
    let p : x ≡ r = cc in
    let q : y ≡ b = cc in
    ap₂ (λ (a : Row) (z : Bytes). marked a.first a.second z ++ []) p q ∙ append-nil (marked r.first r.second b)
records_snoc (suc i) [] rest r bs left b e f = let z : ◌≡◌ {A = ℕ} 0 1 = cc in absurd (omega arith)
records_snoc (suc i) (x ∷ rs) rest r [] left b e f = let z : ◌≡◌ {A = ℕ} 0 1 = cc in absurd (omega arith)
records_snoc (suc i) (x ∷ rs) rest r (y ∷ bs) left b e f =
    ap (λ (z : Bytes). marked x.first x.second y ++ z) (records_snoc i rs rest r bs left b e f)
    ∙ sym (append_assoc (marked x.first x.second y) (write_records (take i rs) (take i bs)) (marked r.first r.second b))

-- the bytes of record i with its body
abbrev pub record_bytes : ℕ → Bytes → Bytes
record_bytes i b = marked (row_at i).first (row_at i).second b

-- record i goes behind those before it
pub first_more : (i : ℕ) (bs : List Bytes) → i < 12 → length bs ≡ 12 → first_records (i + 1) bs ≡ first_records i bs ++ record_bytes i (get_or bs i [])
first_more i bs h l = let n : i + 1 ≡ suc i = omega arith in rw n (records_snoc i rows _ (row_at i) bs _ (get_or bs i []) (rows_from i h) (drop-cons bs i [] (omega arith)))

-- all records
pub first_all : (bs : List Bytes) → length bs ≡ 12 → first_records 12 bs ≡ write_records rows bs
first_all bs l = ap₂ write_records (take_all 12 rows (omega (arith, twelve_rows))) (take_all 12 bs (omega arith))

-- no record
pub first_none : (bs : List Bytes) → first_records 0 bs ≡ []
unfolding write_records
first_none bs = refl

-- the first i records end where record i starts
pub first_length : (st : Settings) (c : Counts) (bs : List Bytes) → length bs ≡ 12 → ((i : ℕ) → i < 12 → length (get_or bs i []) ≡ (row_at i).size st c)
    → (i : ℕ) → i ≤ 12 → 22 + length (first_records i bs) ≡ start_of st c i
first_length st c bs l f zero h = omega (arith, ap length (first_none bs), start_first st c)
first_length st c bs l f (suc i) h =
    let n : suc i ≡ i + 1 = omega arith in
    rw n (omega (
      arith,
      ap length (first_more i bs (omega arith) l),
      length-append (first_records i bs) (record_bytes i (get_or bs i [])),
      length_marked (row_at i).first (row_at i).second (get_or bs i []),
      f i (omega arith),
      start_next st c i (omega arith),
      first_length st c bs l f i (omega arith),
    ))

-- a mark and a length have six bytes
pub length_begin : (m : Bytes) (n : ℕ) → length (mark_bytes m ++ le32 n) ≡ 6
length_begin m n = omega (arith, length-append (mark_bytes m) (le32 n), length_le32 n)

-- a mark, a length and a body, one behind the other, are a record
pub record_done : (out o p : Bytes) (i at : ℕ) (m body : Bytes) (len : ℕ) → m ≡ row_mark i → len ≡ length body → at + 6 + length body ≤ length out → o ≡ overlaid out at (mark_bytes m ++ le32 len) → p ≡ overlaid o (at + 6) body
    → p ≡ overlaid out at (record_bytes i body)
unfolding marked
record_done out o p i at m body len e f h g k =
    overlaid_behind out o p (mark_bytes m ++ le32 len) body at (at + 6) (omega (arith, length_begin m len)) (omega arith) g k
    ∙ ap₂ (λ (x : Bytes) (n : ℕ). overlaid out at ((mark_bytes x ++ le32 n) ++ body)) e f
