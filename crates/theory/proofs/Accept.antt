-- Acceptance, one half: a byte string that the check accepts is the image of a buildable leaf list (`accepted_is_image`).
-- Used by the buyer's demands.
use Rattle.std.specs.Prelude.{ℕ, suc, zero, ◌+◌, ◌*◌, ◌≤◌, ◌≡◌, refl, true, ◌&&◌, List, [], ◌∷◌, map, ◌++◌, drop, length, get_or, take, eqb, leb}
use Rattle.std.proofs.Common.{sym, ap, ◌∙◌, subst, ap₂, true≢false, arith, drop_of_length-le, take-append-drop, get_or-drop, eqb-true, leb-true}
use Rattle.std.proofs.lemmas.List.{length-map}
use Rattle.std.proofs.Math.Seq.{take-length}
use Rattle.spec.specs.Bytes.{Bytes, iota, clear, unpack, pack, blocks, ones, all, concat, equal}
use Rattle.spec.specs.Leaves.{Leaf}
use Rattle.spec.specs.Image.{Settings, slot_width, known_version, image, ranks, samples, header, rows, level_rows, version_rows, in_order, level_bodies, write_records, sizes, Counts, Bodies}
use Rattle.spec.specs.Frame.{parts, has_header, rows_of, read_settings, Parts, named}
use Rattle.spec.specs.Nodes.{levels_of, nodes_of, Node, slotted, dense_shapes, sparse_shape, sparse_nodes, extra_ends, Sparse, zip_entries, entry_label, continues, is_exact}
use Rattle.spec.specs.Trie.{builders_trie, first_set, covered, nodes_valid, leaf_count}
use Rattle.spec.specs.Check.{header_valid, spare_clear, ranks_valid, starts_valid, tables_valid, slots_valid, verdict, sized, no_spare}
use Rattle.theory.proofs.ImageParts.{named_twelve}
use Rattle.theory.proofs.Lists.{bytes_drop, and_both, first_members, Passed, every_true, all_append}
use Rattle.theory.proofs.Order.{equal_true}
use Rattle.theory.specs.Terms.{All, IsBytes}
use Rattle.theory.proofs.Frame.{header_from_fields, bytes_bodies, Paired, paired_split, read_paired, read_bodies_some}
use Rattle.theory.proofs.Bits.{length_unpack, pack_unpack}
use Rattle.theory.proofs.TrieTests.{nodes_valid_leaves}
use Rattle.theory.proofs.NodeBits.{past_nodes, slotted_append, SlotsWidth, slots_width, slots, slot_bits, bodies, bodies_of, sparse_labels, sparse_has_child, louds, ByteLabels, bodies_bits, length_slotted}
use Rattle.theory.proofs.LevelStarts.{version_rows_are, level_bodies_are}
use Rattle.theory.proofs.LiteralImage.{Buildable, image_of_trie}
use Rattle.theory.proofs.DenseBits.{dense_bits, dense_byte_labels}
use Rattle.theory.proofs.SparseBits.{sparse_bits, zip_entries_back, split_back, sparse_byte_labels}
use Rattle.theory.proofs.CheckStages.{verdict_passes}
use Rattle.theory.proofs.AcceptedTrie.{TrieOfList, trie_of_list}

-- ---- lengths

sized_length : (ns : List ℕ) (bs : List Bytes) → sized ns bs ≡ true → length bs ≡ length ns
unfolding sized
sized_length [] [] h = refl
sized_length [] (b ∷ bs) h = absurd (true≢false (sym h))
sized_length (n ∷ ns) [] h = absurd (true≢false (sym h))
sized_length (n ∷ ns) (b ∷ bs) h = ap suc (sized_length ns bs (and_both (eqb (length b) n) (sized ns bs) h).1)

sized_at : (i : ℕ) (ns : List ℕ) (bs : List Bytes) → sized ns bs ≡ true → length (get_or bs i []) ≡ get_or ns i 0
unfolding sized
sized_at i [] [] h = refl
sized_at i [] (b ∷ bs) h = absurd (true≢false (sym h))
sized_at i (n ∷ ns) [] h = absurd (true≢false (sym h))
sized_at zero (n ∷ ns) (b ∷ bs) h = eqb-true (length b) n (and_both (eqb (length b) n) (sized ns bs) h).0
sized_at (suc i) (n ∷ ns) (b ∷ bs) h = sized_at i ns bs (and_both (eqb (length b) n) (sized ns bs) h).1

-- twelve bodies are those under their names
twelve_all : (bs : List Bytes) → length bs ≡ 12 → bs ≡ in_order (named bs)
unfolding named iota
twelve_all bs h = sym (take-length bs) ∙ first_members [] (length bs) bs (omega arith) ∙ ap (λ (k : ℕ). map (λ i. get_or bs i []) (iota 0 k)) h

bytes_at : (i : ℕ) (bs : List Bytes) → All IsBytes bs → IsBytes (get_or bs i [])
bytes_at i [] p = tt
bytes_at zero (b ∷ bs) p = p.0
bytes_at (suc i) (b ∷ bs) p = bytes_at i bs p.1

no_spare_whole : (n : ℕ) (s : Bytes) → 8 * length s ≤ n → no_spare n s ≡ true
unfolding no_spare clear
no_spare_whole n s h = rw (drop_of_length-le (unpack s) {i = n} (omega (arith, length_unpack s)))

-- ---- the bits in the bodies

-- bodies of the lengths that the counts give, with no spare bit set, are their bits
record BitsRead (p : Parts) (b : Bodies) : Type 0 where
  dl_size : length p.dl ≡ 256 * p.counts.dense_nodes
  dc_size : length p.dc ≡ 256 * p.counts.dense_nodes
  dp_size : length p.dp ≡ p.counts.dense_nodes
  sl_size : length p.sl ≡ p.counts.sparse_entries
  sc_size : length p.sc ≡ p.counts.sparse_entries
  sb_size : length p.sb ≡ p.counts.sparse_entries
  sv_size : length p.sv ≡ p.counts.leaves * slot_width p.settings
  sl_bytes : IsBytes p.sl
  DL_is : pack p.dl ≡ b.DL
  DC_is : pack p.dc ≡ b.DC
  DP_is : pack p.dp ≡ b.DP
  SL_is : p.sl ≡ b.SL
  SC_is : pack p.sc ≡ b.SC
  SB_is : pack p.sb ≡ b.SB
  SV_is : pack p.sv ≡ b.SV

header_tests : (p : Parts) (bs : List Bytes) → header_valid p bs ≡ true
    → Passed (known_version p.settings.version ∷ leb p.settings.dense_levels 4 ∷ leb p.settings.real_width 16 ∷ leb p.settings.hash_width 16 ∷ leb p.counts.leaves 65535 ∷ sized (sizes p.settings p.counts) (take 12 bs) ∷ [])
unfolding header_valid
header_tests p bs h = every_true (known_version p.settings.version ∷ leb p.settings.dense_levels 4 ∷ leb p.settings.real_width 16 ∷ leb p.settings.hash_width 16 ∷ leb p.counts.leaves 65535 ∷ sized (sizes p.settings p.counts) (take 12 bs) ∷ []) h

spare_tests : (p : Parts) (b : Bodies) → spare_clear p b ≡ true
    → Passed (no_spare p.counts.dense_nodes b.DP ∷ no_spare p.counts.sparse_entries b.SC ∷ no_spare p.counts.sparse_entries b.SB ∷ no_spare (p.counts.leaves * slot_width p.settings) b.SV ∷ [])
unfolding spare_clear
spare_tests p b h = every_true (no_spare p.counts.dense_nodes b.DP ∷ no_spare p.counts.sparse_entries b.SC ∷ no_spare p.counts.sparse_entries b.SB ∷ no_spare (p.counts.leaves * slot_width p.settings) b.SV ∷ []) h

dense_body : (n : ℕ) (s : Bytes) → IsBytes s → length s ≡ 32 * n → (length (take (256 * n) (unpack s)) ≡ 256 * n) × (pack (take (256 * n) (unpack s)) ≡ s)
dense_body n s w h = pack_unpack (256 * n) s w (omega arith) (no_spare_whole (256 * n) s (omega arith))

twelve_sizes : (st : Settings) (c : Counts) (bs : List Bytes) → sized (sizes st c) bs ≡ true
    → (length (named bs).DL ≡ 32 * c.dense_nodes) × (length (named bs).DC ≡ 32 * c.dense_nodes) × (length (named bs).DP ≡ blocks 8 c.dense_nodes) × (length (named bs).SL ≡ c.sparse_entries)
    × (length (named bs).SC ≡ blocks 8 c.sparse_entries) × (length (named bs).SB ≡ blocks 8 c.sparse_entries) × (length (named bs).SV ≡ blocks 8 (c.leaves * slot_width st)) × (length bs ≡ 12)
unfolding sizes rows named
twelve_sizes st c bs h = (sized_at 0 _ bs h, sized_at 1 _ bs h, sized_at 2 _ bs h, sized_at 3 _ bs h, sized_at 4 _ bs h, sized_at 5 _ bs h, sized_at 6 _ bs h, sized_length _ bs h)

-- the names are those of the first twelve
named_first : (bs : List Bytes) → length (take 12 bs) ≡ 12 → named bs ≡ named (take 12 bs)
named_first bs h =
    ap named (sym (take-append-drop 12 bs)) ∙ ap (λ (z : List Bytes). named (z ++ drop 12 bs)) (twelve_all (take 12 bs) h) ∙ named_twelve (named (take 12 bs)) (drop 12 bs) ∙ ap named (sym (twelve_all (take 12 bs) h))

body_sizes : (st : Settings) (c : Counts) (bs : List Bytes) → sized (sizes st c) (take 12 bs) ≡ true
    → (length (named bs).DL ≡ 32 * c.dense_nodes) × (length (named bs).DC ≡ 32 * c.dense_nodes) × (length (named bs).DP ≡ blocks 8 c.dense_nodes) × (length (named bs).SL ≡ c.sparse_entries)
    × (length (named bs).SC ≡ blocks 8 c.sparse_entries) × (length (named bs).SB ≡ blocks 8 c.sparse_entries) × (length (named bs).SV ≡ blocks 8 (c.leaves * slot_width st)) × (length (take 12 bs) ≡ 12)
body_sizes st c bs h = let z = twelve_sizes st c (take 12 bs) h in rw (named_first bs z.7) z

bits_read : (s : Bytes) (bs : List Bytes) → All IsBytes bs → sized (sizes (parts s (named bs)).settings (parts s (named bs)).counts) (take 12 bs) ≡ true → spare_clear (parts s (named bs)) (named bs) ≡ true
    → BitsRead (parts s (named bs)) (named bs)
unfolding parts named
bits_read s bs a h t =
    let b : Bodies = named bs in
    let p : Parts = parts s b in
    let z = body_sizes p.settings p.counts bs h in
    let u = spare_tests p b t in
    let b₀ = dense_body p.counts.dense_nodes b.DL (bytes_at 0 bs a) z.0 in
    let b₁ = dense_body p.counts.dense_nodes b.DC (bytes_at 1 bs a) z.1 in
    let b₂ = pack_unpack p.counts.dense_nodes b.DP (bytes_at 2 bs a) z.2 u.0 in
    let b₄ = pack_unpack p.counts.sparse_entries b.SC (bytes_at 4 bs a) z.4 u.1.0 in
    let b₅ = pack_unpack p.counts.sparse_entries b.SB (bytes_at 5 bs a) z.5 u.1.1.0 in
    let b₆ = pack_unpack (p.counts.leaves * slot_width p.settings) b.SV (bytes_at 6 bs a) z.6 u.1.1.1.0 in
    record {
      dl_size = b₀.0;
      dc_size = b₁.0;
      dp_size = b₂.0;
      sl_size = z.3;
      sc_size = b₄.0;
      sb_size = b₅.0;
      sv_size = b₆.0;
      sl_bytes = bytes_at 3 bs a;
      DL_is = b₀.1;
      DC_is = b₁.1;
      DP_is = b₂.1;
      SL_is = refl;
      SC_is = b₄.1;
      SB_is = b₅.1;
      SV_is = b₆.1;
    }

-- ---- the nodes that the bits give

-- the dense nodes of parts
dense_part : Parts → List Node
dense_part p = slotted (slot_width p.settings) (dense_shapes p.dl p.dc p.dp) p.sv

-- the sparse nodes of parts
sparse_part : Parts → List Node
sparse_part p = slotted (slot_width p.settings) (map sparse_shape (sparse_nodes p)) (past_nodes (slot_width p.settings) (dense_shapes p.dl p.dc p.dp) p.sv)

nodes_split : (p : Parts) → nodes_of p ≡ dense_part p ++ sparse_part p
unfolding nodes_of dense_part sparse_part
nodes_split p = slotted_append (slot_width p.settings) (dense_shapes p.dl p.dc p.dp) (map sparse_shape (sparse_nodes p)) p.sv

trie_tests : (p : Parts) → builders_trie p ≡ true
    → Passed (first_set p.sb ∷ eqb (ones p.sb) p.counts.sparse_nodes ∷ covered p.dc p.dl ∷ all extra_ends (sparse_nodes p) ∷ nodes_valid p.settings.dense_levels p.counts.dense_nodes p.counts.leaves (nodes_of p) ∷ [])
unfolding builders_trie
trie_tests p h = every_true (first_set p.sb ∷ eqb (ones p.sb) p.counts.sparse_nodes ∷ covered p.dc p.dl ∷ all extra_ends (sparse_nodes p) ∷ nodes_valid p.settings.dense_levels p.counts.dense_nodes p.counts.leaves (nodes_of p) ∷ []) h

nodes_slots_width : (p : Parts) → length p.sv ≡ leaf_count (nodes_of p) * slot_width p.settings → All (SlotsWidth (slot_width p.settings)) (nodes_of p)
unfolding nodes_of
nodes_slots_width p h = (slots_width (slot_width p.settings) (dense_shapes p.dl p.dc p.dp ++ map sparse_shape (sparse_nodes p)) p.sv h).0

nodes_slots : (p : Parts) → length p.sv ≡ leaf_count (nodes_of p) * slot_width p.settings → concat (map slots (nodes_of p)) ≡ p.sv
unfolding nodes_of
nodes_slots p h = slot_bits (slot_width p.settings) (dense_shapes p.dl p.dc p.dp ++ map sparse_shape (sparse_nodes p)) p.sv h

-- the nodes have the bits, as many as the counts say, and are the trie of a leaf list
record NodesRead (p : Parts) : Type 0 where
  D : List Node
  S : List Node
  bits : bodies D S ≡ bodies_of p.dl p.dc p.dp p.sl p.sc p.sb p.sv
  whole : nodes_of p ≡ D ++ S
  dense_size : length D ≡ p.counts.dense_nodes
  sparse_size : length S ≡ p.counts.sparse_nodes
  tree : TrieOfList p.settings.dense_levels p.settings.hash_width (slot_width p.settings) p.counts.leaves D S

nodes_read : (p : Parts) (b : Bodies) → BitsRead p b → builders_trie p ≡ true → slots_valid p.settings.hash_width 0 (levels_of (nodes_of p)) ≡ true → NodesRead p
unfolding dense_part sparse_part sparse_nodes
nodes_read p v u h c =
    let t = trie_tests p h in
    let cs : List Sparse = sparse_nodes p in
    let D : List Node = dense_part p in
    let S : List Node = sparse_part p in
    let split : nodes_of p ≡ D ++ S = nodes_split p in
    let dense = dense_bits (slot_width p.settings) p.dl p.dc p.dp p.sv (u.dl_size ∙ ap (λ (k : ℕ). 256 * k) (sym u.dp_size)) (u.dc_size ∙ ap (λ (k : ℕ). 256 * k) (sym u.dp_size)) t.1.1.0 in
    let sparse = sparse_bits (slot_width p.settings) cs (past_nodes (slot_width p.settings) (dense_shapes p.dl p.dc p.dp) p.sv) t.1.1.1.0 in
    let z = zip_entries_back p.sl p.sc (u.sl_size ∙ sym u.sc_size) in
    let k = split_back (zip_entries p.sl p.sc) p.sb (u.sb_size ∙ sym u.sc_size ∙ sym z.2) t.0 in
    let labels : concat (map sparse_labels S) ≡ p.sl = sparse.labels ∙ ap (map entry_label) k.0 ∙ z.0 in
    let children : concat (map sparse_has_child S) ≡ p.sc = sparse.children ∙ ap (map continues) k.0 ∙ z.1 in
    let louds : concat (map louds S) ≡ p.sb = sparse.louds ∙ k.1 in
    let b : nodes_valid p.settings.dense_levels p.counts.dense_nodes p.counts.leaves (nodes_of p) ≡ true = t.1.1.1.1.0 in
    let whole : length p.sv ≡ leaf_count (nodes_of p) * slot_width p.settings = u.sv_size ∙ ap (λ (k : ℕ). k * slot_width p.settings) (sym (nodes_valid_leaves p.settings.dense_levels p.counts.dense_nodes p.counts.leaves (nodes_of p) b)) in
    let wide : All (SlotsWidth (slot_width p.settings)) (nodes_of p) = nodes_slots_width p whole in
    let slot-all : concat (map slots (D ++ S)) ≡ p.sv = ap (λ (z : List Node). concat (map slots z)) (sym split) ∙ nodes_slots p whole in
    let size : length D ≡ p.counts.dense_nodes = sym (length-map D is_exact) ∙ ap length dense.prefix_keys ∙ u.dp_size in
    let small : All ByteLabels (D ++ S) = all_append ByteLabels D S (dense_byte_labels (slot_width p.settings) p.dl p.dc p.dp p.sv) (sparse_byte_labels S (rw labels u.sl_bytes)) in
    record {
      D = D;
      S = S;
      bits = bodies_bits D S ∙ rw (dense.labels, dense.children, dense.prefix_keys, labels, children, louds, slot-all);
      whole = split;
      dense_size = size;
      sparse_size = length_slotted (slot_width p.settings) (map sparse_shape cs) _ ∙ length-map cs sparse_shape ∙ k.2 ∙ eqb-true (ones p.sb) p.counts.sparse_nodes t.1.0;
      tree = trie_of_list p.settings.dense_levels p.settings.hash_width (slot_width p.settings) p.counts.leaves D S (rw (size, ← split) b) (rw split at wide) small (rw split at c);
    }

-- ---- acceptance

-- a byte string is the image of a buildable leaf list
pub record ImageOfLeaves (b : Bytes) : Type 0 where
  pub settings : Settings
  pub leaves : List Leaf
  pub fits : Buildable settings leaves
  pub image_is : b ≡ image settings leaves

ranks_tests : (p : Parts) (b : Bodies) → ranks_valid p b ≡ true
    → Passed (equal b.RL (ranks 64 p.dl) ∷ equal b.RC (ranks 64 p.dc) ∷ equal b.RP (ranks 64 p.dp) ∷ equal b.RS (ranks 512 p.sc) ∷ equal b.TS (samples p.sb) ∷ [])
unfolding ranks_valid
ranks_tests p b h = every_true (equal b.RL (ranks 64 p.dl) ∷ equal b.RC (ranks 64 p.dc) ∷ equal b.RP (ranks 64 p.dp) ∷ equal b.RS (ranks 512 p.sc) ∷ equal b.TS (samples p.sb) ∷ []) h

has_header_tests : (s : Bytes) → has_header s ≡ true → Passed (leb 22 (length s) ∷ eqb (get_or s 0 0) 72 ∷ eqb (get_or s 1 0) 68 ∷ [])
unfolding has_header
has_header_tests s h = every_true (leb 22 (length s) ∷ eqb (get_or s 0 0) 72 ∷ eqb (get_or s 1 0) 68 ∷ []) h

-- The twelve bodies are the bits' packed, the labels, and the ranks and samples of the bits.
records_are : (p : Parts) (b : Bodies) → BitsRead p b → ranks_valid p b ≡ true → in_order (bodies_of p.dl p.dc p.dp p.sl p.sc p.sb p.sv) ≡ in_order b
records_are p b u h =
    let r = ranks_tests p b h in
    rw (
      u.DL_is,
      u.DC_is,
      u.DP_is,
      u.SL_is,
      u.SC_is,
      u.SB_is,
      u.SV_is,
      ← equal_true b.RL (ranks 64 p.dl) r.0,
      ← equal_true b.RC (ranks 64 p.dc) r.1.0,
      ← equal_true b.RP (ranks 64 p.dp) r.1.1.0,
      ← equal_true b.RS (ranks 512 p.sc) r.1.1.1.0,
      ← equal_true b.TS (samples p.sb) r.1.1.1.1.0,
    )

tables_are : (p : Parts) (bs : List Bytes) → tables_valid p bs ≡ true → (ranks_valid p (named bs) && starts_valid p bs) ≡ true
unfolding tables_valid
tables_are p bs h = h

version_is : (s : Bytes) (b : Bodies) → get_or s 2 0 ≡ (parts s b).settings.version
unfolding parts read_settings
version_is s b = refl

header_of : (s : Bytes) (b : Bodies) → IsBytes s → has_header s ≡ true → take 22 s ≡ header (parts s b).settings (parts s b).counts
unfolding parts
header_of s b w h =
    let a = has_header_tests s h in
    header_from_fields s w (leb-true 22 (length s) a.0) (eqb-true (get_or s 0 0) 72 a.1.0) (eqb-true (get_or s 1 0) 68 a.1.1.0)

-- the bodies of a version: the twelve, and the one behind them where it passed
bodies_whole : (p : Parts) (bs : List Bytes) → Paired (version_rows p.settings.version) bs → starts_valid p bs ≡ true → bs ≡ take 12 bs ++ level_bodies p.settings.version (map length (levels_of (nodes_of p)))
unfolding starts_valid rows
bodies_whole p bs q h =
    let v : ℕ = p.settings.version in
    let behind = (paired_split rows (level_rows v) bs (rw (version_rows_are v) at q)).1 in
    let z : 12 + 0 ≡ 12 = omega arith in
    sym (take-append-drop 12 bs) ∙ ap (λ (x : List Bytes). take 12 bs ++ x) (level_bodies_are v (map length (levels_of (nodes_of p))) (drop 12 bs) behind (rw (get_or-drop 12 bs 0 [], z) h))

image_parts : (p : Parts) (bs : List Bytes) (r : NodesRead p) → Buildable p.settings r.tree.leaves → in_order (bodies_of p.dl p.dc p.dp p.sl p.sc p.sb p.sv) ≡ bs → length p.sl ≡ p.counts.sparse_entries
    → image p.settings r.tree.leaves ≡ header p.settings p.counts ++ write_records (version_rows p.settings.version) (bs ++ level_bodies p.settings.version (map length (levels_of (nodes_of p))))
image_parts p bs r f e z =
    let g = r.tree in
    let l : length (concat (map sparse_labels r.S)) ≡ p.counts.sparse_entries = ap (λ (b : Bodies). length b.SL) (sym (bodies_bits r.D r.S) ∙ r.bits) ∙ z in
    image_of_trie p.settings g.leaves f
    ∙ rw (g.dense_nodes, g.sparse_nodes, g.size, r.bits, r.dense_size, r.sparse_size, l)
    (ap₂ (λ (z : List Bytes) (ns : List Node). header p.settings p.counts ++ write_records (version_rows p.settings.version) (z ++ level_bodies p.settings.version (map length (levels_of ns)))) e (sym r.whole))

-- A byte string that the check accepts is the image of a buildable leaf list.
pub accepted_is_image : (b : Bytes) → IsBytes b → verdict b ≡ 0 → ImageOfLeaves b
unfolding parts read_settings
accepted_is_image s w h =
    let v = verdict_passes s h in
    let bs : List Bytes = v.0 in
    let b : Bodies = named bs in
    let p : Parts = parts s b in
    let p15 = v.1.before in
    let p13 = p15.before.before in
    let p12 = p13.before in
    let t = header_tests p bs p12.header in
    let sz : sized (sizes p.settings p.counts) (take 12 bs) ≡ true = t.1.1.1.1.1.0 in
    let few = (body_sizes p.settings p.counts bs sz).7 in
    let paired : Paired (rows_of s) bs = read_paired (rows_of s) (drop 22 s) bs p12.before.bodies in
    let rest : drop 22 s ≡ write_records (rows_of s) bs = read_bodies_some (rows_of s) (drop 22 s) bs (bytes_drop 22 s w) p12.before.bodies in
    let all-twelve : take 12 bs ≡ in_order b = twelve_all (take 12 bs) few ∙ ap in_order (sym (named_first bs few)) in
    let smalls : All IsBytes bs = bytes_bodies (rows_of s) bs paired (rw rest at (bytes_drop 22 s w)) in
    let tables = and_both (ranks_valid p b) (starts_valid p bs) (tables_are p bs p15.tables) in
    let u = bits_read s bs smalls sz p13.spare in
    let r = nodes_read p b u p15.before.trie v.1.slots in
    let g = r.tree in
    let f : Buildable p.settings g.leaves = record {
      version_known = t.0;
      dense_range = leb-true p.settings.dense_levels 4 t.1.0;
      real_range = leb-true p.settings.real_width 16 t.1.1.0;
      hash_range = leb-true p.settings.hash_width 16 t.1.1.1.0;
      few = let e : length g.leaves ≡ p.counts.leaves = g.size in omega (arith, leb-true p.counts.leaves 65535 t.1.1.1.1.0);
      realizable = g.realizable;
      well_sized = g.well_sized;
      spare = g.spare;
    } in
    let whole = bodies_whole p bs (subst (λ (v : ℕ). Paired (version_rows v) bs) (version_is s b) paired) tables.1 in
    let laid_out : image p.settings g.leaves ≡ header p.settings p.counts ++ write_records (rows_of s) bs =
    image_parts p (take 12 bs) r f (records_are p b u tables.0 ∙ sym all-twelve) u.sl_size ∙ ap₂ (λ (v : ℕ) (z : List Bytes). header p.settings p.counts ++ write_records (version_rows v) z) (sym (version_is s b)) (sym whole) in
    record {
      settings = p.settings;
      leaves = g.leaves;
      fits = f;
      image_is = sym (take-append-drop 22 s) ∙ ap₂ ◌++◌ (header_of s b w p12.before.header) rest ∙ sym laid_out;
    }
