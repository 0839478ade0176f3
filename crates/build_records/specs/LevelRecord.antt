-- Order 8: the record of the levels' first nodes, level by level by the counters of the nodes; and the records behind the twelve, of a version. Used by the builder's step behind the twelve records.
use Rattle.std.specs.Prelude.{ℕ, zero, suc, ◌+◌, ◌-◌, ◌≤◌, ◌<◌, ◌≡◌, refl, Bool, true, false, cond, List, [], ◌∷◌, ◌++◌, map, length, get_or, ltb}
use Rattle.std.proofs.Common.{sym, ap, ap₂, ◌∙◌, append_assoc, append-nil, arith, add-one, add-zero, length-append, ltb-true, ltb-false, lt-ltb, le-ltb, eq-eqb, ne_eqb}
use Rattle.spec.specs.Bytes.{Bytes, concat, iota, filter, le32}
use Rattle.spec.specs.Image.{first_nodes, level_starts, level_rows, level_bodies, write_records}
use Rattle.bits.proofs.Overlaying.{length_le32, overlaid_nil}
use Rattle.image.specs.Records.{row_at, length_marked}
use Rattle.build_laws.specs.Cursors.{sums, sums_none}
use Rattle.build_passes.specs.CounterSums.{sums_in}
use Rattle.build_records.specs.LevelWidths.{widths}
use Rattle.build_records.specs.RecordsWritten.{record_bytes}

-- ---- the first nodes, level by level

-- the bytes of a level of so many nodes whose first node is given: four, or none where it has no node
unfoldable pub start_bytes : ℕ → ℕ → Bytes
unfolding le32
start_bytes count first = cond (ltb 0 count) (le32 first) []

-- how many they are
unfoldable pub start_size : ℕ → ℕ
start_size count = cond (ltb 0 count) 4 0

positive : (n : ℕ) → (n ≡ 0 → ⊥) → 0 < n
positive n h = omega arith

-- a level with nodes
pub start_some : (count first : ℕ) → (count ≡ 0 → ⊥) → start_bytes count first ≡ le32 first
unfolding start_bytes
start_some count first h = ap (λ (t : Bool). cond t (le32 first) []) (lt-ltb 0 count (positive count h))

pub size_some : (count : ℕ) → (count ≡ 0 → ⊥) → start_size count ≡ 4
unfolding start_size
size_some count h = ap (λ (t : Bool). cond t 4 0) (lt-ltb 0 count (positive count h))

-- a level without
pub start_none : (count first : ℕ) → count ≡ 0 → start_bytes count first ≡ []
unfolding start_bytes
start_none count first h = ap (λ (t : Bool). cond t (le32 first) []) (le-ltb 0 count (omega arith))

pub size_none : (count : ℕ) → count ≡ 0 → start_size count ≡ 0
unfolding start_size
size_none count h = ap (λ (t : Bool). cond t 4 0) (le-ltb 0 count (omega arith))

-- its length
pub start_length : (count first : ℕ) → length (start_bytes count first) ≡ start_size count
unfolding start_bytes start_size
start_length count first = go (ltb 0 count)
  where
    go : (t : Bool) → length (cond t (le32 first) []) ≡ cond t 4 0
    go true = length_le32 first
    go false = refl

-- a level has at most four bytes
pub size_few : (count : ℕ) → start_size count ≤ 4
unfolding start_size
size_few count = go (ltb 0 count)
  where
    go : (t : Bool) → cond t 4 0 ≤ 4
    go true = omega arith
    go false = omega arith

-- the first nodes of the levels below d that have nodes
unfoldable pub starts_below : List ℕ → ℕ → Bytes
unfolding start_bytes sums
starts_below c zero = []
starts_below c (suc d) = starts_below c d ++ start_bytes (get_or c d 0) (sums c 0 d)

-- no level
pub starts_none : (c : List ℕ) → starts_below c 0 ≡ []
unfolding starts_below
starts_none c = refl

-- one level more
pub starts_more : (c : List ℕ) (d : ℕ) → starts_below c (d + 1) ≡ starts_below c d ++ start_bytes (get_or c d 0) (sums c 0 d)
unfolding starts_below
starts_more c d = ap (starts_below c) (add-one d)

-- its bytes are behind those before
pub starts_longer : (c : List ℕ) (d : ℕ) → length (starts_below c (d + 1)) ≡ length (starts_below c d) + start_size (get_or c d 0)
starts_longer c d = omega (arith, ap length (starts_more c d), length-append (starts_below c d) (start_bytes (get_or c d 0) (sums c 0 d)), start_length (get_or c d 0) (sums c 0 d))

starts_up : (c : List ℕ) (d k : ℕ) → length (starts_below c d) ≤ length (starts_below c (d + k))
starts_up c d zero = omega (arith, ap (λ (n : ℕ). length (starts_below c n)) (add-zero d))
starts_up c d (suc k) =
    let z : d + suc k ≡ d + k + 1 = omega arith in
    omega (arith, starts_up c d k, ap (λ (n : ℕ). length (starts_below c n)) z, starts_longer c (d + k))

-- more levels have no fewer bytes
pub starts_le : (c : List ℕ) (d e : ℕ) → d ≤ e → length (starts_below c d) ≤ length (starts_below c e)
starts_le c d e h = let w : d + (e - d) ≡ e = omega arith in omega (arith, starts_up c d (e - d), ap (λ (n : ℕ). length (starts_below c n)) w)

-- Levels without nodes have no first node, and the others theirs behind one another.
starts_from : (c : List ℕ) (k a : ℕ) → starts_below c (a + k) ≡ starts_below c a ++ concat (map le32 (first_nodes (sums c 0 a) (filter (ltb 0) (map (λ d. get_or c d 0) (iota a k)))))
unfolding concat first_nodes filter iota
starts_from c zero a = ap (starts_below c) (add-zero a) ∙ sym (append-nil (starts_below c a))
starts_from c (suc k) a =
    let z : a + suc k ≡ a + 1 + k = omega arith in
    ap (starts_below c) z ∙ starts_from c k (a + 1)
    ∙ ap (λ (x : Bytes). x ++ rest (sums c 0 (a + 1)) (a + 1)) (starts_more c a)
    ∙ append_assoc (starts_below c a) (start_bytes (get_or c a 0) (sums c 0 a)) (rest (sums c 0 (a + 1)) (a + 1))
    ∙ ap (λ (x : Bytes). starts_below c a ++ x) (ap₂ (λ (n i : ℕ). start_bytes (get_or c a 0) (sums c 0 a) ++ rest n i) (sums_in c 0 a (omega arith)) (add-one a) ∙ go (get_or c a 0) (ltb 0 (get_or c a 0)) refl)
  where
    rest : ℕ → ℕ → Bytes
    rest n i = concat (map le32 (first_nodes n (filter (ltb 0) (map (λ d. get_or c d 0) (iota i k)))))

    go : (w : ℕ) (t : Bool) → ltb 0 w ≡ t
        → start_bytes w (sums c 0 a) ++ rest (sums c 0 a + w) (suc a)
        ≡ concat (map le32 (first_nodes (sums c 0 a) (cond (ltb 0 w) (w ∷ filter (ltb 0) (map (λ d. get_or c d 0) (iota (suc a) k))) (filter (ltb 0) (map (λ d. get_or c d 0) (iota (suc a) k))))))
    go w true e = rw (start_some w (sums c 0 a) (λ q. omega (arith, ltb-true 0 w e)), e)
    go w false e =
        let n : w ≡ 0 = omega (arith, ltb-false 0 w e) in
        let m : sums c 0 a + w ≡ sums c 0 a = omega arith in
        rw (start_none w (sums c 0 a) n, e, m)

starts_first : (c : List ℕ) (k : ℕ) → level_starts (map (λ d. get_or c d 0) (iota 0 k)) ≡ starts_below c k
unfolding level_starts
starts_first c k =
    let z : 0 + k ≡ k = omega arith in
    let rest : ℕ → Bytes = λ n. concat (map le32 (first_nodes n (filter (ltb 0) (map (λ d. get_or c d 0) (iota 0 k))))) in
    ap rest (sym (sums_none c 0)) ∙ sym (ap (starts_below c) (sym z) ∙ starts_from c k 0 ∙ ap (λ (x : Bytes). x ++ rest (sums c 0 0)) (starts_none c))

-- The body of LV, by the counters.
pub level_starts_are : (c : List ℕ) → level_starts (widths c) ≡ starts_below c 64
unfolding widths
level_starts_are c = starts_first c 64

-- ---- the records behind the twelve

-- those of a version, by the counters of the nodes
abbrev pub level_bytes : ℕ → List ℕ → Bytes
level_bytes v c = write_records (level_rows v) (level_bodies v (widths c))

-- no record where the version has none
pub levels_none : (v : ℕ) (c : List ℕ) → (v ≡ 2 → ⊥) → level_bytes v c ≡ []
unfolding level_rows level_bodies write_records
levels_none v c h = rw (ne_eqb v 2 h)

-- LV where it has it
pub levels_some : (v : ℕ) (c : List ℕ) → v ≡ 2 → level_bytes v c ≡ record_bytes 12 (starts_below c 64)
unfolding level_rows level_bodies write_records row_at
levels_some v c h =
    rw (eq-eqb v 2 h) (append-nil (record_bytes 12 (level_starts (widths c))) ∙ ap (record_bytes 12) (level_starts_are c))

-- its length
pub levels_length : (v : ℕ) (c : List ℕ) → v ≡ 2 → length (level_bytes v c) ≡ 6 + length (starts_below c 64)
levels_length v c h = ap length (levels_some v c h) ∙ length_marked (row_at 12).first (row_at 12).second (starts_below c 64)

-- a level with nodes or without, and a version with LV or without, for the proofs of what is written of either
pub ruleset level_cases = (size_some, size_none, start_some, start_none, levels_none, levels_length, overlaid_nil)
