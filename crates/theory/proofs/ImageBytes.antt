-- Every byte of an image is below 256.
use Rattle.std.specs.Prelude.{ℕ, zero, suc, ◌+◌, ◌-◌, ◌*◌, ◌/◌, ◌^◌, ◌<◌, ◌≤◌, ◌≡◌, refl, cond, Bool, true, false, ◌||◌, List, [], ◌∷◌, ◌++◌, map, length, get_or, take, drop, eqb}
use Rattle.std.proofs.Common.{sym, true≢false, arith, eqb-true}
use Rattle.spec.specs.Bytes.{Bytes, Bits, concat, iota, ones, low_first, packed, pack, le32}
use Rattle.spec.specs.Leaves.{Leaf}
use Rattle.spec.specs.Image.{Settings, slot_width, known_version, level_row, level_rows, version_rows, level_bodies, image, header, marked, ranks, samples, positions, rows, in_order, write_records, Row, Counts}
use Rattle.spec.specs.Nodes.{Node, levels_of, label_of, branches_of, is_exact}
use Rattle.theory.specs.Terms.{All, IsBytes}
use Rattle.theory.proofs.Lists.{bytes_append, bytes_le32, all_append}
use Rattle.theory.proofs.NodeBits.{ByteLabels, sparse_labels, bodies, bodies_bits, dense_labels, dense_has_child, sparse_has_child, louds, slots, node_counts, version_bodies}
use Rattle.theory.proofs.LevelStarts.{level_all, level_starts_bytes}
use Rattle.theory.proofs.ImageParts.{Writable, image_holds}
use Rattle.theory.proofs.LiteralImage.{Buildable}

-- ---- every byte of an image is below 256

bytes_le32s : (f : ℕ → ℕ) (xs : List ℕ) → IsBytes (concat (map (λ b. le32 (f b)) xs))
unfolding concat
bytes_le32s f [] = tt
bytes_le32s f (x ∷ xs) = bytes_append (le32 (f x)) (concat (map (λ b. le32 (f b)) xs)) (bytes_le32 (f x)) (bytes_le32s f xs)

bytes_ranks : (w : ℕ) (bs : Bits) → IsBytes (ranks w bs)
unfolding ranks
bytes_ranks w bs = bytes_le32s (λ b. ones (take (w * b) bs)) (iota 0 ((length bs + (w - 1)) / w))

bytes_samples : (bs : Bits) → IsBytes (samples bs)
unfolding samples
bytes_samples bs = bytes_le32s (λ t. get_or (positions 0 bs) (64 * t) 0) (iota 0 ((length (positions 0 bs) + 63) / 64))

-- a number of k bits is below 2^k
pub low_bound : (k : ℕ) (bs : Bits) → low_first (take k bs) < 2 ^ k
unfolding low_first
low_bound zero bs = omega arith
low_bound (suc k) [] = omega (arith, low_bound k [])
low_bound (suc k) (true ∷ bs) = omega (arith, low_bound k bs)
low_bound (suc k) (false ∷ bs) = omega (arith, low_bound k bs)

pub bytes_packed : (k : ℕ) (bs : Bits) → IsBytes (packed k bs)
unfolding packed
bytes_packed zero bs = tt
bytes_packed (suc k) bs = (low_bound 8 bs, bytes_packed k (drop 8 bs))

pub bytes_pack : (bs : Bits) → IsBytes (pack bs)
unfolding pack
bytes_pack bs = bytes_packed ((length bs + 7) / 8) bs

bytes_node : (n : Node) → ByteLabels n → IsBytes (sparse_labels n)
unfolding sparse_labels
bytes_node n s = bytes_append (cond (is_exact n) (255 ∷ []) []) (map label_of (branches_of n)) (extra (is_exact n)) s
  where
    extra : (b : Bool) → IsBytes (cond b (255 ∷ []) [])
    extra true = (omega arith, tt)
    extra false = tt

bytes_labels : (ns : List Node) → All ByteLabels ns → IsBytes (concat (map sparse_labels ns))
unfolding concat
bytes_labels [] s = tt
bytes_labels (n ∷ ns) s = bytes_append (sparse_labels n) (concat (map sparse_labels ns)) (bytes_node n s.0) (bytes_labels ns s.1)

bytes_marked : (a b : ℕ) (body : Bytes) → a < 256 → b < 256 → IsBytes body → IsBytes (marked a b body)
unfolding marked
bytes_marked a b body p q s = (p, (q, bytes_append (le32 (length body)) body (bytes_le32 (length body)) s))

-- the letters of a record's mark are bytes
abbrev ByteMark : Row → Type 0
ByteMark r = (r.first < 256) × (r.second < 256)

bytes_records : (rs : List Row) (bs : List Bytes) → All ByteMark rs → All IsBytes bs → IsBytes (write_records rs bs)
unfolding write_records
bytes_records [] bs m s = tt
bytes_records (r ∷ rs) [] m s = tt
bytes_records (r ∷ rs) (body ∷ bs) m s =
    bytes_append (marked r.first r.second body) (write_records rs bs) (bytes_marked r.first r.second body m.0.0 m.0.1 s.0) (bytes_records rs bs m.1 s.1)

bytes_header : (st : Settings) (c : Counts) → st.version ≤ 2 → st.dense_levels ≤ 4 → st.real_width ≤ 16 → st.hash_width ≤ 16 → IsBytes (header st c)
unfolding header
bytes_header st c v p q h = (
  omega arith,
  (
    omega arith,
    (
      omega arith,
      (
        omega arith,
        (
          omega arith,
          (
            omega arith,
            bytes_append (le32 c.leaves) (le32 c.dense_nodes ++ (le32 c.sparse_entries ++ le32 c.sparse_nodes)) (bytes_le32 c.leaves)
                (bytes_append (le32 c.dense_nodes) (le32 c.sparse_entries ++ le32 c.sparse_nodes) (bytes_le32 c.dense_nodes)
                (bytes_append (le32 c.sparse_entries) (le32 c.sparse_nodes) (bytes_le32 c.sparse_entries) (bytes_le32 c.sparse_nodes))),
          ),
        ),
      ),
    ),
  ),
)

-- There are two versions.
pub known_few : (v : ℕ) → known_version v ≡ true → v ≤ 2
unfolding known_version
known_few v h = go (eqb v 1) (eqb v 2) refl refl h
  where
    go : (t u : Bool) → eqb v 1 ≡ t → eqb v 2 ≡ u → (t || u) ≡ true → v ≤ 2
    go true u e f h = omega (arith, eqb-true v 1 e)
    go false true e f h = omega (arith, eqb-true v 2 f)
    go false false e f h = absurd (true≢false (sym h))

twelve_marks : All ByteMark rows
unfolding rows
twelve_marks =
    ((omega arith, omega arith), ((omega arith, omega arith), ((omega arith, omega arith), ((omega arith, omega arith), ((omega arith, omega arith), ((omega arith, omega arith), ((omega arith, omega arith), ((omega arith, omega arith), ((omega arith, omega arith), ((omega arith, omega arith), ((omega arith, omega arith), ((omega arith, omega arith), tt))))))))))))

byte_marks : (v : ℕ) → All ByteMark (version_rows v)
unfolding version_rows level_rows level_row
byte_marks v = all_append ByteMark rows (level_rows v) twelve_marks (go (eqb v 2))
  where
    go : (t : Bool) → All ByteMark (cond t (level_row ∷ []) [])
    go true = ((omega arith, omega arith), tt)
    go false = tt

bytes_bodies : (n count : ℕ) (ds ss : List Node) → Writable n count ds ss → All IsBytes (in_order (bodies ds ss))
bytes_bodies n count ds ss w =
    rw (bodies_bits ds ss) (
      bytes_pack (concat (map dense_labels ds)),
      (
        bytes_pack (concat (map dense_has_child ds)),
        (
          bytes_pack (map is_exact ds),
          (
            bytes_labels ss w.sparse_bytes,
            (
              bytes_pack (concat (map sparse_has_child ss)),
              (
                bytes_pack (concat (map louds ss)),
                (bytes_pack (concat (map slots (ds ++ ss))), (bytes_ranks 64 (concat (map dense_labels ds)), (bytes_ranks 64 (concat (map dense_has_child ds)), (bytes_ranks 64 (map is_exact ds), (bytes_ranks 512 (concat (map sparse_has_child ss)), (bytes_samples (concat (map louds ss)), tt)))))),
              ),
            ),
          ),
        ),
      ),
    )

-- every byte of an image is below 256
pub image_bytes : (st : Settings) (ls : List Leaf) → Buildable st ls → IsBytes (image st ls)
image_bytes st ls v =
    let h = image_holds st ls v in
    let ds : List Node = h.dense_nodes in
    let ss : List Node = h.sparse_nodes in
    let ws : List ℕ = map length (levels_of (ds ++ ss)) in
    rw h.image_is
    (bytes_append (header st (node_counts (length ls) ds ss)) (write_records (version_rows st.version) (version_bodies st.version ds ss))
    (bytes_header st (node_counts (length ls) ds ss) (known_few st.version v.version_known) v.dense_range v.real_range v.hash_range)
    (bytes_records (version_rows st.version) (version_bodies st.version ds ss) (byte_marks st.version)
    (all_append IsBytes (in_order (bodies ds ss)) (level_bodies st.version ws) (bytes_bodies (slot_width st) (length ls) ds ss h.writable) (level_all IsBytes st.version ws (level_starts_bytes ws)))))
