-- The records of an image by their offsets: where each ends, that `read_bodies` of document 01 reads just these bodies, and where they stand if their lengths are those
-- that the settings and the counts give. One induction over the table of records serves each law. Used by the reader of the frame and by the builder.
use Prim.Native.Nat.{ℕ, suc, ◌+◌, ◌-◌, ◌<◌, ◌≤◌}
use Rattle.std.proofs.Math.Path.{◌≡◌, refl, sym, ap, ap₂}
use Rattle.std.proofs.Common.{◌∙◌, true≢false, inl, inr, ⊎_elim, take_all, drop-cons, drop-drop, get_or-drop}
use Rattle.std.specs.Prelude.{Bool, cond, ◌&&◌, ◌⊎◌, get_or, drop, set, leb}
use Rattle.std.proofs.Math.Bool.{true, false}
use mathlib.Core.List.{List, [], ◌∷◌, ◌++◌, map, append_assoc}
use Rattle.std.proofs.Math.Option.{Option, none, some}
use native.Mathlib.Omega.{arith}
use Rattle.std.proofs.Math.ListN.{length, take, length-drop, length-set, length-append}
use Rattle.std.proofs.Math.Seq.{take-suc-set, length-take-le}
use Rattle.std.proofs.Math.Dec.{eqb}
use borrow.Author.Tests.{leb-true, le-leb, lt-leb, eqb-true, eqb-false, eq-eqb, ne_eqb}
use Rattle.spec.specs.Bytes.{Bytes, every, le32, from32}
use Rattle.spec.specs.Image.{Settings, Counts, Row, rows, level_row, marked, write_records}
use Rattle.spec.specs.Frame.{is_record, read_bodies}
use Rattle.spec.specs.Check.{sized}
use Rattle.bits.specs.Bits.{part}

-- ---- the table

-- row number i, from 0; behind the twelve, that of LV
unfoldable pub row_at : ℕ → Row
unfolding rows level_row
row_at i = get_or rows i level_row

-- the two letters of its mark
abbrev pub row_mark : ℕ → Bytes
row_mark i = (row_at i).first ∷ (row_at i).second ∷ []

-- twelve records of both versions
pub twelve_rows : length rows ≡ 12
unfolding rows
twelve_rows = refl

-- the rows from number i on: that one, and those behind it
pub rows_from : (i : ℕ) → i < 12 → drop i rows ≡ row_at i ∷ drop (i + 1) rows
unfolding row_at
rows_from i h = let e : i + 1 ≡ suc i = omega arith in rw e (drop-cons rows i level_row (rw twelve_rows h))

-- no row behind the last
pub rows_end : drop 12 rows ≡ []
unfolding rows
rows_end = refl

next_row : (i k : ℕ) → k ≤ i → (i ≡ k → ⊥) → suc k ≤ i
next_row i k l n = omega arith

none_below : (i : ℕ) → 0 ≤ i
none_below i = omega arith

eleventh : (i : ℕ) → 11 ≤ i → i < 12 → i ≡ 11
eleventh i l h = omega arith

twelfth : (i : ℕ) → 12 ≤ i → i < 13 → i ≡ 12
twelfth i l h = omega arith

-- the number of a row that is none of the first eleven
pub last_row : (i : ℕ) → i < 12 → (((((((((((Unit {0} × (i ≡ 0 → ⊥)) × (i ≡ 1 → ⊥)) × (i ≡ 2 → ⊥)) × (i ≡ 3 → ⊥)) × (i ≡ 4 → ⊥)) × (i ≡ 5 → ⊥)) × (i ≡ 6 → ⊥)) × (i ≡ 7 → ⊥)) × (i ≡ 8 → ⊥)) × (i ≡ 9 → ⊥)) × (i ≡ 10 → ⊥)) → i ≡ 11
last_row i h r = eleventh i (next_row i 10 (next_row i 9 (next_row i 8 (next_row i 7 (next_row i 6 (next_row i 5 (next_row i 4 (next_row i 3 (next_row i 2 (next_row i 1 (next_row i 0 (none_below i) r.0.0.0.0.0.0.0.0.0.0.1) r.0.0.0.0.0.0.0.0.0.1) r.0.0.0.0.0.0.0.0.1) r.0.0.0.0.0.0.0.1) r.0.0.0.0.0.0.1) r.0.0.0.0.0.1) r.0.0.0.0.1) r.0.0.0.1) r.0.0.1) r.0.1) r.1) h

-- the number of a row that is none of the twelve
pub level_row_last : (i : ℕ) → i < 13 → ((((((((((((Unit {0} × (i ≡ 0 → ⊥)) × (i ≡ 1 → ⊥)) × (i ≡ 2 → ⊥)) × (i ≡ 3 → ⊥)) × (i ≡ 4 → ⊥)) × (i ≡ 5 → ⊥)) × (i ≡ 6 → ⊥)) × (i ≡ 7 → ⊥)) × (i ≡ 8 → ⊥)) × (i ≡ 9 → ⊥)) × (i ≡ 10 → ⊥)) × (i ≡ 11 → ⊥)) → i ≡ 12
level_row_last i h r = twelfth i (next_row i 11 (next_row i 10 (next_row i 9 (next_row i 8 (next_row i 7 (next_row i 6 (next_row i 5 (next_row i 4 (next_row i 3 (next_row i 2 (next_row i 1 (next_row i 0 (none_below i) r.0.0.0.0.0.0.0.0.0.0.0.1) r.0.0.0.0.0.0.0.0.0.0.1) r.0.0.0.0.0.0.0.0.0.1) r.0.0.0.0.0.0.0.0.1) r.0.0.0.0.0.0.0.1) r.0.0.0.0.0.0.1) r.0.0.0.0.0.1) r.0.0.0.0.1) r.0.0.0.1) r.0.0.1) r.0.1) r.1) h

-- ---- one record

-- a part of s to its end
pub tail_part : (s : Bytes) (at : ℕ) → take (length s - at) (drop at s) ≡ drop at s
tail_part s at = take_all (length s - at) (drop at s) (omega (arith, length-drop at s))

-- the length that the record at an offset says of its body
abbrev pub body_length : Bytes → ℕ → ℕ
body_length s at = from32 (drop (at + 2) s)

-- where the record at an offset ends, by its length
abbrev pub record_end : Bytes → ℕ → ℕ
record_end s at = at + 6 + body_length s at

-- the record of a row stands at an offset
abbrev pub stands : Row → Bytes → ℕ → Bool
stands r s at = is_record r.first r.second (drop at s)

-- its tests by position
abbrev record_tests : Row → Bytes → ℕ → List Bool
record_tests r s at =
    leb 6 (length s - at)
    ∷ leb (body_length s at + 6) (length s - at)
    ∷ eqb (get_or s at 0) r.first
    ∷ eqb (get_or s (at + 1) 0) r.second
    ∷ []

record_is : (r : Row) (s : Bytes) (at : ℕ) → stands r s at ≡ every (record_tests r s at)
unfolding is_record
record_is r s at =
    let z : at + 0 ≡ at = omega arith in
    rw (length-drop at s, drop-drop 2 at s, get_or-drop at s 0 0, get_or-drop at s 1 0, z)

-- a record that stands there has six bytes before its body, and ends within the bytes
pub record_within : (r : Row) (s : Bytes) (at : ℕ) → at ≤ length s → stands r s at ≡ true → (at + 6 ≤ length s) × (record_end s at ≤ length s)
unfolding every
record_within r s at h e = go (leb 6 (length s - at)) (leb (body_length s at + 6) (length s - at)) refl (sym (record_is r s at) ∙ e)
  where
    go : (t u : Bool) → leb (body_length s at + 6) (length s - at) ≡ u → every (t ∷ u ∷ eqb (get_or s at 0) r.first ∷ eqb (get_or s (at + 1) 0) r.second ∷ []) ≡ true
        → (at + 6 ≤ length s) × (record_end s at ≤ length s)
    go true true f e = let l = leb-true (body_length s at + 6) (length s - at) f in (omega arith, omega arith)
    go true false f e = absurd (true≢false (sym e))
    go false u f e = absurd (true≢false (sym e))

-- one test that fails
fails : (t u v w : Bool) → (t ≡ false) ⊎ ((u ≡ false) ⊎ ((v ≡ false) ⊎ (w ≡ false))) → every (t ∷ u ∷ v ∷ w ∷ []) ≡ false
unfolding every
fails true true true true h = ⊎_elim (λ q. q) (λ q. ⊎_elim (λ r. r) (λ r. ⊎_elim (λ x. x) (λ x. x) r) q) h
fails false u v w h = refl
fails true false v w h = refl
fails true true false w h = refl
fails true true true false h = refl

module _ (r : Row) (s : Bytes) (at : ℕ) where
  -- fewer than six bytes are left
  pub record_short : length s - at < 6 → stands r s at ≡ false
  record_short h = record_is r s at ∙ fails _ _ _ _ (inl (lt-leb 6 (length s - at) h))

  -- the body runs past the end
  pub record_past : length s - at - 6 < body_length s at → stands r s at ≡ false
  record_past h = record_is r s at ∙ fails _ _ _ _ (inr (inl (lt-leb (body_length s at + 6) (length s - at) (omega arith))))

  -- the mark's first letter is another
  pub record_first : (get_or s at 0 ≡ r.first → ⊥) → stands r s at ≡ false
  record_first h = record_is r s at ∙ fails _ _ _ _ (inr (inr (inl (ne_eqb (get_or s at 0) r.first h))))

  -- the mark's second letter is another
  pub record_second : (get_or s (at + 1) 0 ≡ r.second → ⊥) → stands r s at ≡ false
  record_second h = record_is r s at ∙ fails _ _ _ _ (inr (inr (inr (ne_eqb (get_or s (at + 1) 0) r.second h))))

  -- the record stands there
  pub record_stands : 6 ≤ length s - at → body_length s at ≤ length s - at - 6 → get_or s at 0 ≡ r.first → get_or s (at + 1) 0 ≡ r.second → stands r s at ≡ true
  unfolding every
  record_stands h l p q =
      record_is r s at
      ∙ rw (le-leb 6 (length s - at) h, le-leb (body_length s at + 6) (length s - at) (omega arith), eq-eqb (get_or s at 0) r.first p, eq-eqb (get_or s (at + 1) 0) r.second q)

pub length_marked : (a b : ℕ) (body : Bytes) → length (marked a b body) ≡ 6 + length body
unfolding marked le32
length_marked a b body = omega arith

-- ---- records in a row

-- where records in a row end, the first one at an offset, if each stands
unfoldable pub records_end : List Row → Bytes → ℕ → Option ℕ
records_end [] s at = some at
records_end (r ∷ rs) s at = cond (stands r s at) (records_end rs s (record_end s at)) none

-- their bodies, by their lengths
unfoldable pub bodies_at : List Row → Bytes → ℕ → List Bytes
bodies_at [] s at = []
bodies_at (r ∷ rs) s at = part s (at + 6) (body_length s at) ∷ bodies_at rs s (record_end s at)

-- the bodies, where the records end with the bytes
abbrev pub whole : List Row → Bytes → ℕ → Option ℕ → Option (List Bytes)
whole rs s at none = none
whole rs s at (some e) = cond (eqb e (length s)) (some (bodies_at rs s at)) none

-- one record stands, and those behind it
pub end_more : (r : Row) (rs : List Row) (s : Bytes) (at : ℕ) → stands r s at ≡ true → records_end (r ∷ rs) s at ≡ records_end rs s (record_end s at)
unfolding records_end
end_more r rs s at h = rw h

-- one record is missing
pub end_none : (r : Row) (rs : List Row) (s : Bytes) (at : ℕ) → stands r s at ≡ false → records_end (r ∷ rs) s at ≡ none
unfolding records_end
end_none r rs s at h = rw h

-- where records end, the first of them stands
pub first_stands : (r : Row) (rs : List Row) (s : Bytes) (at e : ℕ) → records_end (r ∷ rs) s at ≡ some e → stands r s at ≡ true
unfolding records_end
first_stands r rs s at e h = go (stands r s at) h
  where
    go : (t : Bool) → cond t (records_end rs s (record_end s at)) none ≡ some e → t ≡ true
    go true h = refl
    go false h = let z : ◌≡◌ {A = ℕ} 0 1 = cc in absurd (omega arith)

-- where more records end, behind those that end here
abbrev pub ends_behind : List Row → Bytes → Option ℕ → Option ℕ
ends_behind qs s none = none
ends_behind qs s (some m) = records_end qs s m

-- records in two parts end where the second part does
pub end_append : (rs qs : List Row) (s : Bytes) (at : ℕ) → records_end (rs ++ qs) s at ≡ ends_behind qs s (records_end rs s at)
unfolding records_end
end_append [] qs s at = refl
end_append (r ∷ rs) qs s at = go (stands r s at) (end_append rs qs s (record_end s at))
  where
    go : (t : Bool) → records_end (rs ++ qs) s (record_end s at) ≡ ends_behind qs s (records_end rs s (record_end s at))
        → cond t (records_end (rs ++ qs) s (record_end s at)) none ≡ ends_behind qs s (cond t (records_end rs s (record_end s at)) none)
    go true e = e
    go false e = refl

-- and their bodies are those of both parts
pub bodies_append : (rs qs : List Row) (s : Bytes) (at m : ℕ) → records_end rs s at ≡ some m → bodies_at (rs ++ qs) s at ≡ bodies_at rs s at ++ bodies_at qs s m
unfolding records_end bodies_at
bodies_append [] qs s at m h = let z : at ≡ m = cc in ap (bodies_at qs s) z
bodies_append (r ∷ rs) qs s at m h =
    ap (λ (z : List Bytes). part s (at + 6) (body_length s at) ∷ z) (bodies_append rs qs s (record_end s at) m (sym (end_more r rs s at (first_stands r rs s at m h)) ∙ h))

-- as many bodies as records
pub bodies_count : (rs : List Row) (s : Bytes) (at : ℕ) → length (bodies_at rs s at) ≡ length rs
unfolding bodies_at
bodies_count [] s at = refl
bodies_count (r ∷ rs) s at = ap suc (bodies_count rs s (record_end s at))

-- a body before those behind it
abbrev body_before : Bytes → Option (List Bytes) → Option (List Bytes)
body_before b none = none
body_before b (some bs) = some (b ∷ bs)

read_none : (s : Bytes) → read_bodies [] s ≡ cond (eqb (length s) 0) (some []) none
unfolding read_bodies
read_none [] = refl
read_none (x ∷ s) = rw (ne_eqb (suc (length s)) 0 (λ q. omega arith))

read_more : (r : Row) (rs : List Row) (s : Bytes)
    → read_bodies (r ∷ rs) s ≡ cond (is_record r.first r.second s) (body_before (take (from32 (drop 2 s)) (drop 6 s)) (read_bodies rs (drop (from32 (drop 2 s) + 6) s))) none
unfolding read_bodies
read_more r rs s = go (is_record r.first r.second s) (read_bodies rs (drop (from32 (drop 2 s) + 6) s))
  where
    go : (t : Bool) (o : Option (List Bytes))
        → elim t [ true ↦ elim o [ none ↦ none | some bs ↦ some (take (from32 (drop 2 s)) (drop 6 s) ∷ bs) ] | false ↦ none ]
        ≡ cond t (body_before (take (from32 (drop 2 s)) (drop 6 s)) o) none
    go true none = refl
    go true (some bs) = refl
    go false none = refl
    go false (some bs) = refl

whole_more : (r : Row) (rs : List Row) (s : Bytes) (at : ℕ) (o : Option ℕ) → body_before (part s (at + 6) (body_length s at)) (whole rs s (record_end s at) o) ≡ whole (r ∷ rs) s at o
unfolding bodies_at
whole_more r rs s at none = refl
whole_more r rs s at (some e) = go (eqb e (length s))
  where
    go : (t : Bool) → body_before (part s (at + 6) (body_length s at)) (cond t (some (bodies_at rs s (record_end s at))) none)
        ≡ cond t (some (part s (at + 6) (body_length s at) ∷ bodies_at rs s (record_end s at))) none
    go true = refl
    go false = refl

-- the bodies that document 01 reads are those of the records by their offsets
pub read_is : (rs : List Row) (s : Bytes) (at : ℕ) → at ≤ length s → read_bodies rs (drop at s) ≡ whole rs s at (records_end rs s at)
unfolding records_end bodies_at
read_is [] s at h = read_none (drop at s) ∙ ap (λ (t : Bool). cond t (some []) none) (at_end (eqb at (length s)) refl)
  where
    at_end : (t : Bool) → eqb at (length s) ≡ t → eqb (length (drop at s)) 0 ≡ t
    at_end true e = eq-eqb (length (drop at s)) 0 (omega (arith, eqb-true at (length s) e, length-drop at s))
    at_end false e = ne_eqb (length (drop at s)) 0 (λ q. eqb-false at (length s) e (omega (arith, length-drop at s)))
read_is (r ∷ rs) s at h = read_more r rs (drop at s) ∙ go (stands r s at) refl (λ l. read_is rs s (record_end s at) l)
  where
    go : (t : Bool) → stands r s at ≡ t → (record_end s at ≤ length s → read_bodies rs (drop (record_end s at) s) ≡ whole rs s (record_end s at) (records_end rs s (record_end s at)))
        → cond t (body_before (take (from32 (drop 2 (drop at s))) (drop 6 (drop at s))) (read_bodies rs (drop (from32 (drop 2 (drop at s)) + 6) (drop at s)))) none
        ≡ whole (r ∷ rs) s at (cond t (records_end rs s (record_end s at)) none)
    go true p ih =
        let n : from32 (drop 2 (drop at s)) ≡ body_length s at = ap from32 (drop-drop 2 at s) in
        let e : at + (body_length s at + 6) ≡ record_end s at = omega arith in
        ap₂ body_before (ap₂ take n (drop-drop 6 at s))
        (ap (λ (k : ℕ). read_bodies rs (drop (k + 6) (drop at s))) n ∙ ap (read_bodies rs) (drop-drop (body_length s at + 6) at s ∙ ap (λ (k : ℕ). drop k s) e) ∙ ih (record_within r s at h p).1)
        ∙ whole_more r rs s at (records_end rs s (record_end s at))
    go false p ih = refl

-- ---- lengths as the settings and the counts give

module _ (st : Settings) (c : Counts) where
  -- each record says the length of its row
  unfoldable pub lengths_agree : List Row → Bytes → ℕ → Bool
  lengths_agree [] s at = true
  lengths_agree (r ∷ rs) s at = eqb (body_length s at) (r.size st c) && lengths_agree rs s (record_end s at)

  -- where each record starts, and where the last one ends
  unfoldable pub starts : List Row → ℕ → List ℕ
  starts [] at = at ∷ []
  starts (r ∷ rs) at = at ∷ starts rs (at + 6 + r.size st c)

  -- where the last record ends
  unfoldable pub rows_end_at : List Row → ℕ → ℕ
  rows_end_at [] at = at
  rows_end_at (r ∷ rs) at = rows_end_at rs (at + 6 + r.size st c)

  -- the bodies at these starts
  unfoldable pub laid_bodies : List Row → Bytes → ℕ → List Bytes
  laid_bodies [] s at = []
  laid_bodies (r ∷ rs) s at = part s (at + 6) (r.size st c) ∷ laid_bodies rs s (at + 6 + r.size st c)

  -- that bodies have just the lengths of their rows, by the lengths that the records say
  pub sized_is : (rs : List Row) (s : Bytes) (at e : ℕ) → at ≤ length s → records_end rs s at ≡ some e → sized (map (λ r. r.size st c) rs) (bodies_at rs s at) ≡ lengths_agree rs s at
  unfolding sized bodies_at lengths_agree
  sized_is [] s at e h f = refl
  sized_is (r ∷ rs) s at e h f =
      let p = first_stands r rs s at e f in
      let w = record_within r s at h p in
      let l : length (part s (at + 6) (body_length s at)) ≡ body_length s at = length-take-le (body_length s at) (drop (at + 6) s) (omega (arith, length-drop (at + 6) s)) in
      ap₂ (λ (n : ℕ) (t : Bool). eqb n (r.size st c) && t) l (sized_is rs s (record_end s at) e w.1 (sym (end_more r rs s at p) ∙ f))

  -- the first length agrees, and those behind it
  agree_first : (r : Row) (rs : List Row) (s : Bytes) (at : ℕ) → lengths_agree (r ∷ rs) s at ≡ true → (body_length s at ≡ r.size st c) × (lengths_agree rs s (record_end s at) ≡ true)
  unfolding lengths_agree
  agree_first r rs s at h = go (eqb (body_length s at) (r.size st c)) refl h
    where
      go : (t : Bool) → eqb (body_length s at) (r.size st c) ≡ t → t && lengths_agree rs s (record_end s at) ≡ true → (body_length s at ≡ r.size st c) × (lengths_agree rs s (record_end s at) ≡ true)
      go true e h = (eqb-true (body_length s at) (r.size st c) e, h)
      go false e h = absurd (true≢false (sym h))

  -- records whose lengths agree stand where the rows say
  pub bodies_laid : (rs : List Row) (s : Bytes) (at e : ℕ) → lengths_agree rs s at ≡ true → records_end rs s at ≡ some e → (bodies_at rs s at ≡ laid_bodies rs s at) × (e ≡ rows_end_at rs at)
  unfolding bodies_at laid_bodies rows_end_at records_end
  bodies_laid [] s at e h f = let z : e ≡ at = cc in (refl, z)
  bodies_laid (r ∷ rs) s at e h f =
      let a = agree_first r rs s at h in
      let n : record_end s at ≡ at + 6 + r.size st c = ap (λ (k : ℕ). at + 6 + k) a.0 in
      let g : records_end rs s (record_end s at) ≡ some e = sym (end_more r rs s at (first_stands r rs s at e f)) ∙ f in
      let i = bodies_laid rs s (at + 6 + r.size st c) e (rw n at a.1) (rw n at g) in
      (ap₂ (λ (k : ℕ) (bs : List Bytes). part s (at + 6) k ∷ bs) a.0 (ap (bodies_at rs s) n ∙ i.0), i.1)

  -- one length more agrees, or not
  pub agree_more : (r : Row) (rs : List Row) (s : Bytes) (at : ℕ) → body_length s at ≡ r.size st c → lengths_agree (r ∷ rs) s at ≡ lengths_agree rs s (record_end s at)
  unfolding lengths_agree
  agree_more r rs s at e = rw (eq-eqb (body_length s at) (r.size st c) e)

  pub agree_not : (r : Row) (rs : List Row) (s : Bytes) (at : ℕ) → (body_length s at ≡ r.size st c → ⊥) → lengths_agree (r ∷ rs) s at ≡ false
  unfolding lengths_agree
  agree_not r rs s at e = rw (ne_eqb (body_length s at) (r.size st c) e)

  -- the start of one record more is written
  pub starts_written : (i at : ℕ) (out : List ℕ) → i < 12 → length out ≡ 13 → take i out ++ starts (drop i rows) at ≡ starts rows 22
      → take (i + 1) (set out i at) ++ starts (drop (i + 1) rows) (at + 6 + (row_at i).size st c) ≡ starts rows 22
  unfolding starts
  starts_written i at out h l e =
      let n : i + 1 ≡ suc i = omega arith in
      ap (λ (z : List ℕ). z ++ starts (drop (i + 1) rows) (at + 6 + (row_at i).size st c)) (ap (λ (k : ℕ). take k (set out i at)) n ∙ take-suc-set out i at (omega arith))
      ∙ append_assoc (take i out) (at ∷ []) (starts (drop (i + 1) rows) (at + 6 + (row_at i).size st c))
      ∙ ap (λ (z : List Row). take i out ++ starts z at) (sym (rows_from i h)) ∙ e

  -- the end of the last record is written behind all starts
  pub starts_whole : (at : ℕ) (out : List ℕ) → length out ≡ 13 → take 12 out ++ starts (drop 12 rows) at ≡ starts rows 22 → set out 12 at ≡ starts rows 22
  unfolding starts
  starts_whole at out l e =
      let n : length (set out 12 at) ≤ 13 = omega (arith, length-set out 12 at) in
      sym (take_all 13 (set out 12 at) n) ∙ take-suc-set out 12 at (omega arith) ∙ ap (λ (z : List Row). take 12 out ++ starts z at) (sym rows_end) ∙ e

  -- records whose bodies have the lengths of their rows, one behind the other, end where the rows say
  pub records_length : (rs : List Row) (bs : List Bytes) (at : ℕ) → map length bs ≡ map (λ r. r.size st c) rs → at + length (write_records rs bs) ≡ rows_end_at rs at
  unfolding write_records rows_end_at
  records_length [] bs at e = omega arith
  records_length (r ∷ rs) [] at e = let z : ◌≡◌ {A = ℕ} 0 1 = cc in absurd (omega arith)
  records_length (r ∷ rs) (b ∷ bs) at e =
      let n : length b ≡ r.size st c = cc in
      let m : map length bs ≡ map (λ r. r.size st c) rs = cc in
      omega (arith, length-append (marked r.first r.second b) (write_records rs bs), length_marked r.first r.second b, records_length rs bs (at + 6 + r.size st c) m)
