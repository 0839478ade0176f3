-- 32-bit numbers, records behind their rows and the header, written and read back.
-- Used where an image is written or read: the parts of an image, acceptance, and the replies of questions.
use Rattle.std.specs.Prelude.{ℕ, ◌<◌, ◌+◌, ◌*◌, ◌%◌, ◌/◌, ◌≤◌, suc, zero, ◌≡◌, refl, true, Bool, false, ◌∷◌, [], ◌++◌, List, length, drop, get_or, take, leb, eqb}
use Rattle.std.proofs.Common.{sym, ap, ◌∙◌, subst, append_assoc, arith, div-add-mod', mod-eq_of_lt, take-append-drop, length-append, length-take-le, get_or-drop, leb-true, eqb-true, le-leb, eq-eqb}
use Rattle.std.proofs.Math.Option.{some, Option, none}
use Rattle.std.proofs.Math.Nat.{div-div-eq-div-mul}
use Rattle.std.proofs.Math.Seq.{drop-append_seam, take-append_seam}
use Rattle.spec.specs.Bytes.{Bytes, le32, from32, iota}
use Rattle.spec.specs.Image.{Row, marked, write_records, Settings, Counts, header}
use Rattle.spec.specs.Frame.{is_record, read_bodies, read_settings, read_counts}
use Rattle.theory.proofs.Lists.{bytes_drop, every_true, true_every, first_members}
use Rattle.theory.specs.Terms.{IsBytes, All}

-- ---- 32-bit numbers

-- Four bytes are those of the number that they give.
pub le32_from32 : (a b c d : ℕ) (r : Bytes) → a < 256 → b < 256 → c < 256 → d < 256 → le32 (from32 (a ∷ b ∷ c ∷ d ∷ r)) ≡ a ∷ b ∷ c ∷ d ∷ []
unfolding le32 from32
le32_from32 a b c d r p q s t =
    let e₀ : (a + 256 * b + 65536 * c + 16777216 * d) % 256 ≡ a = omega arith in
    let f₁ : (a + 256 * b + 65536 * c + 16777216 * d) / 256 ≡ b + 256 * c + 65536 * d = omega arith in
    let f₂ : (a + 256 * b + 65536 * c + 16777216 * d) / 65536 ≡ c + 256 * d = omega arith in
    let f₃ : (a + 256 * b + 65536 * c + 16777216 * d) / 16777216 ≡ d = omega arith in
    let e₁ : (b + 256 * c + 65536 * d) % 256 ≡ b = omega arith in
    let e₂ : (c + 256 * d) % 256 ≡ c = omega arith in
    let e₃ : d % 256 ≡ d = omega arith in
    rw (e₀, f₁, f₂, f₃, e₁, e₂, e₃)

le32_sum : (n a b c d q₁ q₂ q₃ : ℕ) → n ≡ q₁ * 256 + a → q₁ ≡ q₂ * 256 + b → q₂ ≡ q₃ * 256 + c → d ≡ q₃ → a + 256 * b + 65536 * c + 16777216 * d ≡ n
le32_sum n a b c d q₁ q₂ q₃ e₀ e₁ e₂ e₃ = omega arith

-- A number below 2^32 is read back from its four bytes.
pub from32_le32 : (n : ℕ) (r : Bytes) → n < 4294967296 → from32 (le32 n ++ r) ≡ n
unfolding le32 from32
from32_le32 n r h =
    let f₂ : n / 256 / 256 ≡ n / 65536 = div-div-eq-div-mul n 256 256 in
    let f₃ : n / 65536 / 256 ≡ n / 16777216 = div-div-eq-div-mul n 65536 256 in
    let top : n / 16777216 < 256 = omega arith in
    le32_sum n (n % 256) (n / 256 % 256) (n / 65536 % 256) (n / 16777216 % 256) (n / 256) (n / 65536) (n / 16777216)
    (sym (div-add-mod' n 256)) (rw (← f₂) (sym (div-add-mod' (n / 256) 256))) (rw (← f₃) (sym (div-add-mod' (n / 65536) 256))) (mod-eq_of_lt top)

-- ---- records

record_six_bytes : (a b : ℕ) (s : Bytes) → is_record a b s ≡ true → length s < 6 → ⊥
unfolding is_record
record_six_bytes a b s h l = omega (arith, leb-true 6 (length s) (every_true (leb 6 (length s) ∷ leb (from32 (drop 2 s) + 6) (length s) ∷ eqb (get_or s 0 0) a ∷ eqb (get_or s 1 0) b ∷ []) h).0)

-- The test of a record says that its body is within the end, and what its mark is.
is_record_true : (a b : ℕ) (s : Bytes) → is_record a b s ≡ true → (from32 (drop 2 s) + 6 ≤ length s) × (get_or s 0 0 ≡ a) × (get_or s 1 0 ≡ b)
unfolding is_record
is_record_true a b s h =
    let p = every_true (leb 6 (length s) ∷ leb (from32 (drop 2 s) + 6) (length s) ∷ eqb (get_or s 0 0) a ∷ eqb (get_or s 1 0) b ∷ []) h in
    (leb-true (from32 (drop 2 s) + 6) (length s) p.1.0, eqb-true (get_or s 0 0) a p.1.1.0, eqb-true (get_or s 1 0) b p.1.1.1.0)

marked_is : (a b : ℕ) (body : Bytes) → marked a b body ≡ a ∷ b ∷ le32 (length body) ++ body
unfolding marked
marked_is a b body = refl

-- Bytes that begin with a record are that record and what stands behind it.
pub record_split : (a b : ℕ) (s : Bytes) → IsBytes s → is_record a b s ≡ true
    → s ≡ marked a b (take (from32 (drop 2 s)) (drop 6 s)) ++ drop (from32 (drop 2 s) + 6) s
record_split a b [] w h = absurd (record_six_bytes a b _ h (omega arith))
record_split a b (x₀ ∷ []) w h = absurd (record_six_bytes a b _ h (omega arith))
record_split a b (x₀ ∷ x₁ ∷ []) w h = absurd (record_six_bytes a b _ h (omega arith))
record_split a b (x₀ ∷ x₁ ∷ x₂ ∷ []) w h = absurd (record_six_bytes a b _ h (omega arith))
record_split a b (x₀ ∷ x₁ ∷ x₂ ∷ x₃ ∷ []) w h = absurd (record_six_bytes a b _ h (omega arith))
record_split a b (x₀ ∷ x₁ ∷ x₂ ∷ x₃ ∷ x₄ ∷ []) w h = absurd (record_six_bytes a b _ h (omega arith))
record_split a b (x₀ ∷ x₁ ∷ x₂ ∷ x₃ ∷ x₄ ∷ x₅ ∷ s) w h = go (from32 (x₂ ∷ x₃ ∷ x₄ ∷ x₅ ∷ s)) refl (is_record_true a b (x₀ ∷ x₁ ∷ x₂ ∷ x₃ ∷ x₄ ∷ x₅ ∷ s) h)
  where
    go : (n : ℕ) → from32 (x₂ ∷ x₃ ∷ x₄ ∷ x₅ ∷ s) ≡ n → (n + 6 ≤ suc (suc (suc (suc (suc (suc (length s))))))) × (x₀ ≡ a) × (x₁ ≡ b)
        → x₀ ∷ x₁ ∷ x₂ ∷ x₃ ∷ x₄ ∷ x₅ ∷ s ≡ marked a b (take n s) ++ drop (n + 6) (x₀ ∷ x₁ ∷ x₂ ∷ x₃ ∷ x₄ ∷ x₅ ∷ s)
    go n e p =
        let six-on : n + 6 ≡ suc (suc (suc (suc (suc (suc n))))) = omega arith in
        let size : length (take n s) ≡ n = length-take-le n s (omega (arith, p.0)) in
        let four : le32 n ≡ x₂ ∷ x₃ ∷ x₄ ∷ x₅ ∷ [] = ap le32 (sym e) ∙ le32_from32 x₂ x₃ x₄ x₅ s w.1.1.0 w.1.1.1.0 w.1.1.1.1.0 w.1.1.1.1.1.0 in
        rw (marked_is a b (take n s), six-on, size, four, take-append-drop n s, p.1, p.2)

-- Bytes whose bodies are read are the records of these bodies.
pub read_bodies_some : (rs : List Row) (s : Bytes) (bs : List Bytes) → IsBytes s → read_bodies rs s ≡ some bs → s ≡ write_records rs bs
unfolding read_bodies write_records
read_bodies_some [] [] bs w h = refl
read_bodies_some [] (x ∷ s) bs w h = let z : ◌≡◌ {A = ℕ} 0 1 = cc in absurd (omega arith)
read_bodies_some (r ∷ rs) s bs w h = go (is_record r.first r.second s) refl (read_bodies rs (drop (from32 (drop 2 s) + 6) s)) refl h
    (λ cs f. read_bodies_some rs (drop (from32 (drop 2 s) + 6) s) cs (bytes_drop (from32 (drop 2 s) + 6) s w) f)
  where
    go : (t : Bool) → is_record r.first r.second s ≡ t → (o : Option (List Bytes)) → read_bodies rs (drop (from32 (drop 2 s) + 6) s) ≡ o
        → elim t [ true ↦ elim o [ none ↦ none | some bs ↦ some (take (from32 (drop 2 s)) (drop 6 s) ∷ bs) ] | false ↦ none ] ≡ some bs
        → ((cs : List Bytes) → read_bodies rs (drop (from32 (drop 2 s) + 6) s) ≡ some cs → drop (from32 (drop 2 s) + 6) s ≡ write_records rs cs) → s ≡ write_records (r ∷ rs) bs
    go true e none f h ih = let z : ◌≡◌ {A = ℕ} 0 1 = cc in absurd (omega arith)
    go true e (some cs) f h ih =
        let q : bs ≡ take (from32 (drop 2 s)) (drop 6 s) ∷ cs = cc in
        rw q (record_split r.first r.second s w e ∙ ap (λ (z : Bytes). marked r.first r.second (take (from32 (drop 2 s)) (drop 6 s)) ++ z) (ih cs f))
    go false e o f h ih = let z : ◌≡◌ {A = ℕ} 0 1 = cc in absurd (omega arith)

-- every body's length fits 32 bits
abbrev pub ShortBodies : List Bytes → Type 0
ShortBodies bs = All (λ b. length b < 4294967296) bs

-- as many records as bodies
abbrev pub Paired : List Row → List Bytes → Type 0
Paired [] [] = Unit
Paired [] (b ∷ bs) = ⊥
Paired (r ∷ rs) [] = ⊥
Paired (r ∷ rs) (b ∷ bs) = Paired rs bs

-- Bodies that are read are as many as the records.
pub read_paired : (rs : List Row) (s : Bytes) (bs : List Bytes) → read_bodies rs s ≡ some bs → Paired rs bs
unfolding read_bodies
read_paired [] [] [] h = tt
read_paired [] [] (b ∷ bs) h = let z : ◌≡◌ {A = List Bytes} [] (b ∷ bs) = cc in absurd (omega (arith, ap length z))
read_paired [] (x ∷ s) bs h = let z : ◌≡◌ {A = ℕ} 0 1 = cc in absurd (omega arith)
read_paired (r ∷ rs) s bs h = go (is_record r.first r.second s) (read_bodies rs (drop (from32 (drop 2 s) + 6) s)) refl h (λ cs f. read_paired rs (drop (from32 (drop 2 s) + 6) s) cs f)
  where
    go : (t : Bool) (o : Option (List Bytes)) → read_bodies rs (drop (from32 (drop 2 s) + 6) s) ≡ o
        → elim t [ true ↦ elim o [ none ↦ none | some bs ↦ some (take (from32 (drop 2 s)) (drop 6 s) ∷ bs) ] | false ↦ none ] ≡ some bs
        → ((cs : List Bytes) → read_bodies rs (drop (from32 (drop 2 s) + 6) s) ≡ some cs → Paired rs cs) → Paired (r ∷ rs) bs
    go true none f h ih = let z : ◌≡◌ {A = ℕ} 0 1 = cc in absurd (omega arith)
    go true (some cs) f h ih = let q : take (from32 (drop 2 s)) (drop 6 s) ∷ cs ≡ bs = cc in subst (λ (z : List Bytes). Paired (r ∷ rs) z) q (ih cs f)
    go false o f h ih = let z : ◌≡◌ {A = ℕ} 0 1 = cc in absurd (omega arith)

-- as many in number
pub paired_length : (rs : List Row) (bs : List Bytes) → Paired rs bs → length bs ≡ length rs
paired_length [] [] p = refl
paired_length [] (b ∷ bs) p = absurd p
paired_length (r ∷ rs) [] p = absurd p
paired_length (r ∷ rs) (b ∷ bs) p = ap suc (paired_length rs bs p)

-- those of more records
pub paired_append : (rs qs : List Row) (bs cs : List Bytes) → Paired rs bs → Paired qs cs → Paired (rs ++ qs) (bs ++ cs)
paired_append [] qs [] cs p q = q
paired_append [] qs (b ∷ bs) cs p q = absurd p
paired_append (r ∷ rs) qs [] cs p q = absurd p
paired_append (r ∷ rs) qs (b ∷ bs) cs p q = paired_append rs qs bs cs p q

-- Bodies of records in two parts are those of each.
pub paired_split : (rs qs : List Row) (bs : List Bytes) → Paired (rs ++ qs) bs → Paired rs (take (length rs) bs) × Paired qs (drop (length rs) bs)
paired_split [] qs bs p = (tt, p)
paired_split (r ∷ rs) qs [] p = absurd p
paired_split (r ∷ rs) qs (b ∷ bs) p = paired_split rs qs bs p

-- Records in two parts are written one part behind the other.
pub records_append : (rs qs : List Row) (bs cs : List Bytes) → Paired rs bs → write_records (rs ++ qs) (bs ++ cs) ≡ write_records rs bs ++ write_records qs cs
unfolding write_records
records_append [] qs [] cs p = refl
records_append [] qs (b ∷ bs) cs p = absurd p
records_append (r ∷ rs) qs [] cs p = absurd p
records_append (r ∷ rs) qs (b ∷ bs) cs p =
    ap (λ (z : Bytes). marked r.first r.second b ++ z) (records_append rs qs bs cs p) ∙ sym (append_assoc (marked r.first r.second b) (write_records rs bs) (write_records qs cs))

first_mark : (a b : ℕ) (body r : Bytes) → get_or (marked a b body ++ r) 0 0 ≡ a
unfolding marked
first_mark a b body r = refl

second_mark : (a b : ℕ) (body r : Bytes) → get_or (marked a b body ++ r) 1 0 ≡ b
unfolding marked
second_mark a b body r = refl

record_length : (a b : ℕ) (body r : Bytes) → length body < 4294967296 → from32 (drop 2 (marked a b body ++ r)) ≡ length body
record_length a b body r h = rw (marked_is a b body) (ap from32 (append_assoc (le32 (length body)) body r) ∙ from32_le32 (length body) (body ++ r) h)

marked_length : (a b : ℕ) (body r : Bytes) → length (marked a b body ++ r) ≡ length body + length r + 6
unfolding marked
marked_length a b body r = omega (arith, length-append body r)

-- A written record passes its test, and its length is read back.
record_front : (a b : ℕ) (body r : Bytes) → length body < 4294967296
    → (is_record a b (marked a b body ++ r) ≡ true) × (from32 (drop 2 (marked a b body ++ r)) ≡ length body)
unfolding is_record
record_front a b body r h =
    let n : from32 (drop 2 (marked a b body ++ r)) ≡ length body = record_length a b body r h in
    let z = marked_length a b body r in (
      true_every (leb 6 (length s) ∷ leb (from32 (drop 2 s) + 6) (length s) ∷ eqb (get_or s 0 0) a ∷ eqb (get_or s 1 0) b ∷ [])
          (le-leb 6 (length s) (omega arith), (le-leb (from32 (drop 2 s) + 6) (length s) (omega arith), (eq-eqb (get_or s 0 0) a (first_mark a b body r), (eq-eqb (get_or s 1 0) b (second_mark a b body r), tt)))),
      n,
    )
  where
    s : Bytes
    s = marked a b body ++ r

drop_record : (a b : ℕ) (body r : Bytes) → drop (length body + 6) (marked a b body ++ r) ≡ r
unfolding marked le32
drop_record a b body r = let six-on : length body + 6 ≡ suc (suc (suc (suc (suc (suc (length body)))))) = omega arith in rw six-on (drop-append_seam body r)

record_body : (a b : ℕ) (body r : Bytes) → take (length body) (drop 6 (marked a b body ++ r)) ≡ body
unfolding marked le32
record_body a b body r = take-append_seam body r

read_bodies_end : read_bodies [] [] ≡ some []
unfolding read_bodies
read_bodies_end = refl

read_bodies_step : (r : Row) (rs : List Row) (s : Bytes) (cs : List Bytes) → is_record r.first r.second s ≡ true → read_bodies rs (drop (from32 (drop 2 s) + 6) s) ≡ some cs
    → read_bodies (r ∷ rs) s ≡ some (take (from32 (drop 2 s)) (drop 6 s) ∷ cs)
unfolding read_bodies
read_bodies_step r rs s cs e f = go (is_record r.first r.second s) e (read_bodies rs (drop (from32 (drop 2 s) + 6) s)) f
  where
    go : (t : Bool) → t ≡ true → (o : Option (List Bytes)) → o ≡ some cs
        → elim t [ true ↦ elim o [ none ↦ none | some bs ↦ some (take (from32 (drop 2 s)) (drop 6 s) ∷ bs) ] | false ↦ none ] ≡ some (take (from32 (drop 2 s)) (drop 6 s) ∷ cs)
    go true e none f = let z : ◌≡◌ {A = ℕ} 0 1 = cc in absurd (omega arith)
    go true e (some bs) f = let q : bs ≡ cs = cc in rw q
    go false e o f = let z : ◌≡◌ {A = ℕ} 0 1 = cc in absurd (omega arith)

-- The bodies of written records are read back.
pub read_bodies_write : (rs : List Row) (bs : List Bytes) → Paired rs bs → ShortBodies bs → read_bodies rs (write_records rs bs) ≡ some bs
unfolding write_records
read_bodies_write [] [] p h = read_bodies_end
read_bodies_write [] (x ∷ bs) p h = absurd p
read_bodies_write (r ∷ rs) [] p h = absurd p
read_bodies_write (r ∷ rs) (body ∷ bs) p h =
    let s : Bytes = marked r.first r.second body ++ write_records rs bs in
    let q = record_front r.first r.second body (write_records rs bs) h.0 in
    let behind : drop (from32 (drop 2 s) + 6) s ≡ write_records rs bs = ap (λ (n : ℕ). drop (n + 6) s) q.1 ∙ drop_record r.first r.second body (write_records rs bs) in
    let inside : take (from32 (drop 2 s)) (drop 6 s) ≡ body = ap (λ (n : ℕ). take n (drop 6 s)) q.1 ∙ record_body r.first r.second body (write_records rs bs) in
    read_bodies_step r rs s bs q.0 (ap (read_bodies rs) behind ∙ read_bodies_write rs bs p h.1) ∙ ap (λ (z : Bytes). some (z ∷ bs)) inside

-- A byte string of two parts has bytes in each.
pub bytes_split : (a b : Bytes) → IsBytes (a ++ b) → IsBytes a × IsBytes b
bytes_split [] b s = (tt, s)
bytes_split (x ∷ a) b s = let q = bytes_split a b s.1 in ((s.0, q.0), q.1)

bytes_body : (a b : ℕ) (body : Bytes) → IsBytes (marked a b body) → IsBytes body
unfolding marked
bytes_body a b body s = (bytes_split (a ∷ b ∷ le32 (length body)) body s).1

-- The bodies of records that are bytes are bytes.
pub bytes_bodies : (rs : List Row) (bs : List Bytes) → Paired rs bs → IsBytes (write_records rs bs) → All IsBytes bs
unfolding write_records
bytes_bodies [] [] p s = tt
bytes_bodies [] (b ∷ bs) p s = absurd p
bytes_bodies (r ∷ rs) [] p s = absurd p
bytes_bodies (r ∷ rs) (body ∷ bs) p s =
    let q = bytes_split (marked r.first r.second body) (write_records rs bs) s in (bytes_body r.first r.second body q.0, bytes_bodies rs bs p q.1)

-- ---- the header

bytes_getD : (i : ℕ) (s : Bytes) → IsBytes s → get_or s i 0 < 256
bytes_getD i [] w = omega arith
bytes_getD zero (x ∷ s) w = w.0
bytes_getD (suc i) (x ∷ s) w = bytes_getD i s w.1

-- A 32-bit number at an offset is read from the four bytes there.
from32_at : (k : ℕ) (s : Bytes) → from32 (drop k s) ≡ from32 (get_or s (k + 0) 0 ∷ get_or s (k + 1) 0 ∷ get_or s (k + 2) 0 ∷ get_or s (k + 3) 0 ∷ [])
unfolding from32
from32_at k s = rw (get_or-drop k s 0 0, get_or-drop k s 1 0, get_or-drop k s 2 0, get_or-drop k s 3 0)

-- The four bytes at an offset in a header are those of the number there.
le32_at : (k : ℕ) (s : Bytes) → IsBytes s → le32 (from32 (drop k s)) ≡ get_or s (k + 0) 0 ∷ get_or s (k + 1) 0 ∷ get_or s (k + 2) 0 ∷ get_or s (k + 3) 0 ∷ []
le32_at k s w = ap le32 (from32_at k s) ∙ le32_from32 (get_or s (k + 0) 0) (get_or s (k + 1) 0) (get_or s (k + 2) 0) (get_or s (k + 3) 0) [] (bytes_getD (k + 0) s w) (bytes_getD (k + 1) s w) (bytes_getD (k + 2) s w) (bytes_getD (k + 3) s w)

header_is : (st : Settings) (c : Counts)
    → header st c ≡ 72 ∷ 68 ∷ st.version ∷ st.dense_levels ∷ st.real_width ∷ st.hash_width ∷ le32 c.leaves ++ (le32 c.dense_nodes ++ (le32 c.sparse_entries ++ le32 c.sparse_nodes))
unfolding header
header_is st c = refl

-- 22 bytes that are marked as a header are the header of the settings and counts read from them.
pub header_from_fields : (s : Bytes) → IsBytes s → 22 ≤ length s → get_or s 0 0 ≡ 72 → get_or s 1 0 ≡ 68 → take 22 s ≡ header (read_settings s) (read_counts s)
unfolding iota read_settings read_counts
header_from_fields s w h a b =
    first_members 0 22 s h ∙ rw (header_is (read_settings s) (read_counts s), le32_at 6 s w, le32_at 10 s w, le32_at 14 s w, le32_at 18 s w, a, b)

-- the fields that are read from a byte string with a header
pub record HeaderFields (st : Settings) (c : Counts) (s : Bytes) : Type 0 where
  pub mark_one : get_or s 0 0 ≡ 72
  pub mark_two : get_or s 1 0 ≡ 68
  pub version : get_or s 2 0 ≡ st.version
  pub settings : read_settings s ≡ st
  pub counts : read_counts s ≡ c

-- What stands behind each field of a header, and that it has 22 bytes.
pub drop_header : (st : Settings) (c : Counts) (r : Bytes)
    → (drop 6 (header st c ++ r) ≡ le32 c.leaves ++ (le32 c.dense_nodes ++ (le32 c.sparse_entries ++ (le32 c.sparse_nodes ++ r))))
    × (drop 10 (header st c ++ r) ≡ le32 c.dense_nodes ++ (le32 c.sparse_entries ++ (le32 c.sparse_nodes ++ r)))
    × (drop 14 (header st c ++ r) ≡ le32 c.sparse_entries ++ (le32 c.sparse_nodes ++ r)) × (drop 18 (header st c ++ r) ≡ le32 c.sparse_nodes ++ r)
    × (drop 22 (header st c ++ r) ≡ r) × (22 ≤ length (header st c ++ r))
unfolding header
drop_header st c r = (refl, refl, refl, refl, refl, omega arith)

first_fields : (st : Settings) (c : Counts) (r : Bytes)
    → (get_or (header st c ++ r) 0 0 ≡ 72) × (get_or (header st c ++ r) 1 0 ≡ 68) × (get_or (header st c ++ r) 2 0 ≡ st.version) × (read_settings (header st c ++ r) ≡ st)
unfolding header read_settings
first_fields st c r = (refl, refl, refl, refl)

-- each count fits 32 bits
pub record ShortCounts (c : Counts) : Type 0 where
  pub leaves : c.leaves < 4294967296
  pub dense_nodes : c.dense_nodes < 4294967296
  pub sparse_entries : c.sparse_entries < 4294967296
  pub sparse_nodes : c.sparse_nodes < 4294967296

counts_back : (st : Settings) (c : Counts) (r : Bytes) → ShortCounts c → read_counts (header st c ++ r) ≡ c
unfolding read_counts
counts_back st c r k =
    let z = drop_header st c r in
    let e₀ : from32 (drop 6 (header st c ++ r)) ≡ c.leaves = ap from32 z.0 ∙ from32_le32 c.leaves _ k.leaves in
    let e₁ : from32 (drop 10 (header st c ++ r)) ≡ c.dense_nodes = ap from32 z.1 ∙ from32_le32 c.dense_nodes _ k.dense_nodes in
    let e₂ : from32 (drop 14 (header st c ++ r)) ≡ c.sparse_entries = ap from32 z.2 ∙ from32_le32 c.sparse_entries _ k.sparse_entries in
    let e₃ : from32 (drop 18 (header st c ++ r)) ≡ c.sparse_nodes = ap from32 z.3 ∙ from32_le32 c.sparse_nodes _ k.sparse_nodes in
    rw (e₀, e₁, e₂, e₃)

-- A header's fields are read back.
pub header_back : (st : Settings) (c : Counts) (r : Bytes) → ShortCounts c → HeaderFields st c (header st c ++ r)
header_back st c r k =
    let y = first_fields st c r in
    record {
      mark_one = y.0;
      mark_two = y.1;
      version = y.2;
      settings = y.3;
      counts = counts_back st c r k;
    }
