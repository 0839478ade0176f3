-- An image of nodes, read back: its header, its bodies, its parts (`parts_back`) and its nodes (`nodes_back`); and the image of a buildable leaf list is that of its trie's nodes (`image_holds`).
-- Used by acceptance of images and by reading back.
use Rattle.std.specs.Prelude.{ℕ, ◌≤◌, ◌*◌, ◌<◌, ◌+◌, ◌≡◌, refl, List, map, ◌++◌, [], length, drop, take}
use Rattle.std.proofs.Common.{ap, ◌∙◌, ap₂, sym, append-nil, arith, mul-le-mul, length-append, take_all}
use Rattle.std.proofs.lemmas.List.{map-append, length-map}
use Rattle.std.proofs.Math.Option.{some}
use Rattle.std.proofs.Math.Seq.{take-nil, drop-nil}
use Rattle.spec.specs.Bytes.{concat, Bytes, Bits, blocks, pack}
use Rattle.spec.specs.Leaves.{Leaf}
use Rattle.spec.specs.Image.{Settings, slot_width, Bodies, image, rows, level_rows, version_rows, in_order, level_starts, level_bodies, write_records, Counts}
use Rattle.spec.specs.Frame.{Parts, parts, rows_of, read_bodies, named}
use Rattle.spec.specs.Nodes.{Node, levels_of, is_exact, sparse_nodes, nodes_of, Shape, slotted, sparse_shape, total, children_of}
use Rattle.spec.specs.Trie.{leaf_count}
use Rattle.theory.specs.Terms.{All, most_entries}
use Rattle.theory.proofs.Lists.{concat_split, all_append, all_split, all_weaken}
use Rattle.theory.proofs.Frame.{HeaderFields, header_back, ShortBodies, drop_header, read_bodies_write, Paired, paired_append}
use Rattle.theory.proofs.Bits.{unpack_at, length_pack, length_ranks, length_samples}
use Rattle.theory.proofs.LevelTrie.{trie, trie_dense, trie_sparse}
use Rattle.theory.proofs.LinkedLevels.{Labelled}
use Rattle.theory.proofs.Levels.{leaf_count_root, nodes_bound, linked_labelled, linked_count, sparse_labels_count, leaf_count_append, total_append}
use Rattle.theory.proofs.TrieTests.{TrieValid, root_first_width, realizable_trie, EmptyOrValid, empty_list, valid_trie}
use Rattle.theory.proofs.LevelSlots.{LevelsValid, levels_valid, realizable_leaf_valid}
use Rattle.theory.proofs.NodeBits.{sparse_labels, dense_labels, dense_has_child, sparse_has_child, louds, slots, ByteLabels, SlotsWidth, bodies_of, node_image, version_bodies, bodies, bodies_bits, length_sv, shape_of, slotted_back, node_counts}
use Rattle.theory.proofs.LevelStarts.{version_rows_are, level_paired, level_all, level_starts_few, levels_of_few}
use Rattle.theory.proofs.LiteralImage.{Buildable, image_of_trie}
use Rattle.theory.proofs.DenseBits.{length_dl, length_dc, dense_shapes_back}
use Rattle.theory.proofs.SparseBits.{length_sc, length_sb, sparse_of, split_nodes, sparse_shapes_back, louds_ones}

-- the parts of the image of these nodes
abbrev pub parts_of_nodes : Settings → ℕ → List Node → List Node → Parts
parts_of_nodes st count ds ss = record {
  settings = st;
  counts = node_counts count ds ss;
  dl = concat (map dense_labels ds);
  dc = concat (map dense_has_child ds);
  dp = map is_exact ds;
  sl = concat (map sparse_labels ss);
  sc = concat (map sparse_has_child ss);
  sb = concat (map louds ss);
  sv = concat (map slots (ds ++ ss));
}

-- nodes with slots of n bits, labels that are bytes and ascend, and counts that fit 32 bits
pub record Writable (n count : ℕ) (ds ss : List Node) : Type 0 where
  pub dense_labelled : All Labelled ds
  pub sparse_labelled : All Labelled ss
  pub dense_bytes : All ByteLabels ds
  pub sparse_bytes : All ByteLabels ss
  pub wide : All (SlotsWidth n) (ds ++ ss)
  pub leaf_total : leaf_count (ds ++ ss) ≡ count
  pub width_range : n ≤ 32
  pub few : count ≤ 65535
  pub few_dense : length ds ≤ 262140
  pub few_entries : length (concat (map sparse_labels ss)) ≤ most_entries
  pub few_sparse : length ss ≤ most_entries

-- ---- the header and the parts

parts_of_bits : (s : Bytes) (st : Settings) (c : Counts) (dl dc dp : Bits) (sl : Bytes) (sc sb sv : Bits) → HeaderFields st c s
    → length dl ≡ 256 * c.dense_nodes → length dc ≡ 256 * c.dense_nodes → length dp ≡ c.dense_nodes → length sc ≡ c.sparse_entries → length sb ≡ c.sparse_entries → length sv ≡ c.leaves * slot_width st
    → parts s (named (in_order (bodies_of dl dc dp sl sc sb sv))) ≡ record { settings = st; counts = c; dl = dl; dc = dc; dp = dp; sl = sl; sc = sc; sb = sb; sv = sv }
unfolding parts named
parts_of_bits s st c dl dc dp sl sc sb sv h e₀ e₁ e₂ e₄ e₅ e₆ =
    rw (h.settings, h.counts, unpack_at (256 * c.dense_nodes) dl e₀, unpack_at (256 * c.dense_nodes) dc e₁, unpack_at c.dense_nodes dp e₂, unpack_at c.sparse_entries sc e₄, unpack_at c.sparse_entries sb e₅, unpack_at (c.leaves * slot_width st) sv e₆)

-- The header of the image of nodes is read back.
pub node_image_header : (st : Settings) (count : ℕ) (ds ss : List Node) → Writable (slot_width st) count ds ss → HeaderFields st (node_counts count ds ss) (node_image st count ds ss)
node_image_header st count ds ss w =
    header_back st (node_counts count ds ss) (write_records (version_rows st.version) (version_bodies st.version ds ss))
    (record { leaves = omega (arith, w.few); dense_nodes = omega (arith, w.few_dense); sparse_entries = omega (arith, w.few_entries); sparse_nodes = omega (arith, w.few_sparse) })

-- The slots of an image have n bits a leaf.
pub sv_size : (n count : ℕ) (ds ss : List Node) → Writable n count ds ss → length (concat (map slots (ds ++ ss))) ≡ count * n
sv_size n count ds ss w = length_sv n (ds ++ ss) w.wide ∙ ap (λ (k : ℕ). k * n) w.leaf_total

-- The bodies under their marks are the twelve, whatever stands behind them.
pub named_twelve : (b : Bodies) (bs : List Bytes) → named (in_order b ++ bs) ≡ named (in_order b)
unfolding named
named_twelve b bs = refl

-- The parts of the image of nodes are read back.
pub parts_back : (st : Settings) (count : ℕ) (ds ss : List Node) → Writable (slot_width st) count ds ss → parts (node_image st count ds ss) (named (version_bodies st.version ds ss)) ≡ parts_of_nodes st count ds ss
parts_back st count ds ss w =
    ap (parts (node_image st count ds ss)) (named_twelve (bodies ds ss) (level_bodies st.version (map length (levels_of (ds ++ ss)))))
    ∙ ap (λ (b : Bodies). parts (node_image st count ds ss) (named (in_order b))) (bodies_bits ds ss)
    ∙ parts_of_bits (node_image st count ds ss) st (node_counts count ds ss) (concat (map dense_labels ds)) (concat (map dense_has_child ds)) (map is_exact ds)
    (concat (map sparse_labels ss)) (concat (map sparse_has_child ss)) (concat (map louds ss)) (concat (map slots (ds ++ ss))) (node_image_header st count ds ss w)
    (length_dl ds) (length_dc ds) (length-map ds is_exact) (length_sc ss w.sparse_labelled) (length_sb ss w.sparse_labelled) (sv_size (slot_width st) count ds ss w)

-- ---- the nodes

-- The sparse entries of the image of nodes are read back, node by node.
pub sparse_nodes_back : (st : Settings) (count : ℕ) (ds ss : List Node) → Writable (slot_width st) count ds ss → sparse_nodes (parts_of_nodes st count ds ss) ≡ map sparse_of ss
unfolding sparse_nodes
sparse_nodes_back st count ds ss w = split_nodes ss w.sparse_labelled

-- The nodes of their image are read back.
pub nodes_back : (st : Settings) (count : ℕ) (ds ss : List Node) → Writable (slot_width st) count ds ss → nodes_of (parts_of_nodes st count ds ss) ≡ ds ++ ss
unfolding nodes_of
nodes_back st count ds ss w =
    ap₂ (λ (a b : List Shape). slotted (slot_width st) (a ++ b) (concat (map slots (ds ++ ss)))) (dense_shapes_back ds w.dense_labelled w.dense_bytes)
    (ap (map sparse_shape) (sparse_nodes_back st count ds ss w) ∙ (sparse_shapes_back ss w.sparse_labelled w.sparse_bytes).0)
    ∙ ap₂ (λ (a : List Shape) (b : Bits). slotted (slot_width st) a b) (sym (map-append shape_of ds ss)) (sym (append-nil (concat (map slots (ds ++ ss)))))
    ∙ slotted_back (slot_width st) (ds ++ ss) [] w.wide

-- ---- the bodies

blocks_short : (n : ℕ) → n < 134217720 → blocks 8 n < 16777216
blocks_short n h = omega arith

pack_short : (bs : Bits) → length bs < 134217720 → length (pack bs) < 16777216
pack_short bs h = rw (length_pack bs) (blocks_short (length bs) h)

slots_short : (n count : ℕ) → n ≤ 32 → count ≤ 65535 → count * n < 134217720
slots_short n count h k = let m : count * n ≤ 65535 * 32 = mul-le-mul k h in omega arith

-- Each of the twelve is shorter than 2^24 bytes.
twelve_small : (n count : ℕ) (ds ss : List Node) → Writable n count ds ss → All (λ b. length b < 16777216) (in_order (bodies ds ss))
twelve_small n count ds ss w =
    rw (bodies_bits ds ss) (
      pack_short (concat (map dense_labels ds)) (omega (arith, length_dl ds, w.few_dense)),
      (
        pack_short (concat (map dense_has_child ds)) (omega (arith, length_dc ds, w.few_dense)),
        (
          pack_short (map is_exact ds) (omega (arith, length-map ds is_exact, w.few_dense)),
          (
            omega (arith, w.few_entries),
            (
              pack_short (concat (map sparse_has_child ss)) (omega (arith, length_sc ss w.sparse_labelled, w.few_entries)),
              (
                pack_short (concat (map louds ss)) (omega (arith, length_sb ss w.sparse_labelled, w.few_entries)),
                (
                  pack_short (concat (map slots (ds ++ ss))) (omega (arith, sv_size n count ds ss w, slots_short n count w.width_range w.few)),
                  (
                    omega (arith, length_ranks 64 (concat (map dense_labels ds)), length_dl ds, w.few_dense),
                    (
                      omega (arith, length_ranks 64 (concat (map dense_has_child ds)), length_dc ds, w.few_dense),
                      (
                        omega (arith, length_ranks 64 (map is_exact ds), length-map ds is_exact, w.few_dense),
                        (
                          omega (arith, length_ranks 512 (concat (map sparse_has_child ss)), length_sc ss w.sparse_labelled, w.few_entries),
                          (omega (arith, length_samples (concat (map louds ss)), (louds_ones ss w.sparse_labelled).0, w.few_sparse), tt),
                        ),
                      ),
                    ),
                  ),
                ),
              ),
            ),
          ),
        ),
      ),
    )

-- Each body of a version is.
pub bodies_small : (v n count : ℕ) (ds ss : List Node) → Writable n count ds ss → All (λ b. length b < 16777216) (version_bodies v ds ss)
bodies_small v n count ds ss w =
    let ws : List ℕ = map length (levels_of (ds ++ ss)) in
    let few : length (level_starts ws) < 16777216 = omega (arith, level_starts_few ws, length-map (levels_of (ds ++ ss)) length, levels_of_few (ds ++ ss)) in
    all_append (λ b. length b < 16777216) (in_order (bodies ds ss)) (level_bodies v ws) (twelve_small n count ds ss w) (level_all (λ b. length b < 16777216) v ws few)

-- so that their lengths fit 32 bits
bodies_short : (v n count : ℕ) (ds ss : List Node) → Writable n count ds ss → ShortBodies (version_bodies v ds ss)
bodies_short v n count ds ss w = all_weaken (λ b. length b < 16777216) (λ b. length b < 4294967296) (λ b h. omega arith) (version_bodies v ds ss) (bodies_small v n count ds ss w)

-- as many records as bodies, of the twelve
pub twelve_paired : (b : Bodies) → Paired rows (in_order b)
unfolding rows
twelve_paired b = tt

-- and of a version
pub version_paired : (v : ℕ) (b : Bodies) (ws : List ℕ) → Paired (version_rows v) (in_order b ++ level_bodies v ws)
version_paired v b ws = rw (version_rows_are v) (paired_append rows (level_rows v) (in_order b) (level_bodies v ws) (twelve_paired b) (level_paired v ws))

-- The bodies of the image of nodes are read back.
pub node_image_bodies : (st : Settings) (count : ℕ) (ds ss : List Node) → Writable (slot_width st) count ds ss → read_bodies (rows_of (node_image st count ds ss)) (drop 22 (node_image st count ds ss)) ≡ some (version_bodies st.version ds ss)
node_image_bodies st count ds ss w =
    ap (λ (v : ℕ). read_bodies (version_rows v) (drop 22 (node_image st count ds ss))) (node_image_header st count ds ss w).version
    ∙ ap (read_bodies (version_rows st.version)) (drop_header st (node_counts count ds ss) (write_records (version_rows st.version) (version_bodies st.version ds ss))).4
    ∙ read_bodies_write (version_rows st.version) (version_bodies st.version ds ss) (version_paired st.version (bodies ds ss) (map length (levels_of (ds ++ ss)))) (bodies_short st.version (slot_width st) count ds ss w)

-- ---- the nodes of a buildable leaf list

module _ (st : Settings) (ls : List Leaf) (v : Buildable st ls) (t : TrieValid ls) where
  -- The labels and slots of the trie's levels are right.
  pub trie_levels_valid : LevelsValid st.hash_width (slot_width st) 0 (trie ls)
  trie_levels_valid = levels_valid st.hash_width (slot_width st) 0 (trie ls) t.linked (rw t.root (realizable_leaf_valid st.hash_width (slot_width st) ls ls v.well_sized v.spare v.realizable.shortest, tt))

  -- The trie's nodes have as many leaves as the list.
  pub trie_leaf_count : leaf_count (concat (trie ls)) ≡ length ls
  trie_leaf_count = sym (leaf_count_root (trie ls) ls t.linked t.root)

  all_nodes : length (concat (trie ls)) ≤ 4194240
  all_nodes = let e = ap (λ (z : List (List Node)). length (concat z)) (take_all 64 (trie ls) t.shallow) in omega (arith, nodes_bound 64 65535 (trie ls) t.linked (omega (arith, trie_leaf_count, v.few)), e)

  -- The trie's nodes can be written.
  pub trie_writable : Writable (slot_width st) (length ls) (trie_dense st.dense_levels ls) (trie_sparse st.dense_levels ls)
  trie_writable =
      let ds : List Node = trie_dense st.dense_levels ls in
      let ss : List Node = trie_sparse st.dense_levels ls in
      let whole : ds ++ ss ≡ concat (trie ls) = concat_split st.dense_levels (trie ls) in
      let f : All Labelled (ds ++ ss) = rw whole (linked_labelled (trie ls) t.linked) in
      let s : All ByteLabels (ds ++ ss) = rw whole trie_levels_valid.bytes in
      let c : leaf_count (ds ++ ss) ≡ length ls = ap leaf_count whole ∙ trie_leaf_count in
      let n : length (ds ++ ss) ≤ 4194240 = rw whole all_nodes in
      let k : total children_of (ds ++ ss) + 1 ≤ 4194241 = let e = linked_count (trie ls) t.linked in rw whole (omega (arith, (root_first_width t), all_nodes)) in
      record {
        dense_labelled = (all_split Labelled ds ss f).0;
        sparse_labelled = (all_split Labelled ds ss f).1;
        dense_bytes = (all_split ByteLabels ds ss s).0;
        sparse_bytes = (all_split ByteLabels ds ss s).1;
        wide = rw whole trie_levels_valid.wide;
        leaf_total = c;
        width_range = omega (arith, v.real_range, v.hash_range);
        few = v.few;
        few_dense = omega (arith, nodes_bound st.dense_levels 65535 (trie ls) t.linked (omega (arith, trie_leaf_count, v.few)));
        few_entries = omega (arith, sparse_labels_count ss, leaf_count_append ds ss, total_append children_of ds ss);
        few_sparse = omega (arith, length-append ds ss);
      }

empty_trie : trie [] ≡ []
unfolding trie
empty_trie = refl

empty_concat : ◌≡◌ {A = List Node} (concat []) []
unfolding concat
empty_concat = refl

pub no_nodes_writable : (st : Settings) → st.real_width ≤ 16 → st.hash_width ≤ 16 → Writable (slot_width st) 0 [] []
unfolding leaf_count concat
no_nodes_writable st r h = record {
  dense_labelled = tt;
  sparse_labelled = tt;
  dense_bytes = tt;
  sparse_bytes = tt;
  wide = tt;
  leaf_total = refl;
  width_range = omega arith;
  few = omega arith;
  few_dense = omega arith;
  few_entries = omega arith;
  few_sparse = omega arith;
}

-- The empty list's image has no node.
pub empty_image : (st : Settings) → Buildable st [] → image st [] ≡ node_image st 0 [] []
empty_image st v = image_of_trie st [] v ∙ ap₂ (λ (a b : List Node). node_image st 0 a b) (ap (λ (z : List (List Node)). concat (take st.dense_levels z)) empty_trie ∙ ap concat (take-nil {A = List Node} st.dense_levels) ∙ empty_concat)
    (ap (λ (z : List (List Node)). concat (drop st.dense_levels z)) empty_trie ∙ ap concat (drop-nil {A = List Node} st.dense_levels) ∙ empty_concat)

-- an image is that of the nodes of its leaf list's trie
pub record ImageHolds (st : Settings) (ls : List Leaf) : Type 0 where
  pub dense_nodes : List Node
  pub sparse_nodes : List Node
  pub image_is : image st ls ≡ node_image st (length ls) dense_nodes sparse_nodes
  pub writable : Writable (slot_width st) (length ls) dense_nodes sparse_nodes
  pub whole : dense_nodes ++ sparse_nodes ≡ concat (trie ls)

-- The image of a buildable leaf list holds its trie's nodes.
pub image_holds : (st : Settings) (ls : List Leaf) → Buildable st ls → ImageHolds st ls
image_holds st ls v = go (realizable_trie (slot_width st) ls v.realizable v.well_sized) v
  where
    go : {ls : List Leaf} → EmptyOrValid ls → Buildable st ls → ImageHolds st ls
    go empty_list v = record { dense_nodes = []; sparse_nodes = []; image_is = empty_image st v; writable = no_nodes_writable st v.real_range v.hash_range; whole = sym (ap concat empty_trie ∙ empty_concat) }
    go (valid_trie {ls = ls} t) v = record {
      dense_nodes = trie_dense st.dense_levels ls;
      sparse_nodes = trie_sparse st.dense_levels ls;
      image_is = image_of_trie st ls v;
      writable = trie_writable st ls v t;
      whole = concat_split st.dense_levels (trie ls);
    }
