-- Acceptance, the other half: the check accepts the image of every buildable leaf list (`image_accepted`).
-- Used by the buyer's demands.
use Rattle.std.specs.Prelude.{ℕ, ◌*◌, ◌+◌, ◌-◌, ◌/◌, ◌≤◌, ◌<◌, ◌≡◌, refl, true, List, [], ◌∷◌, map, ◌++◌, length, get_or, take, leb, eqb}
use Rattle.std.proofs.Common.{sym, ap, ◌∙◌, arith, eq-eqb, le-leb}
use Rattle.std.proofs.lemmas.List.{length-map}
use Rattle.spec.specs.Bytes.{Bytes, Bits, pack, blocks, concat, ones, all, equal}
use Rattle.spec.specs.Leaves.{Leaf}
use Rattle.spec.specs.Image.{ranks, Settings, slot_width, known_version, samples, image, rows, version_rows, in_order, write_records, sizes}
use Rattle.spec.specs.Frame.{has_header, parts, Parts, named}
use Rattle.spec.specs.Nodes.{levels_of, nodes_of, Node, is_exact, extra_ends, sparse_nodes, total}
use Rattle.spec.specs.Trie.{builders_trie, nodes_valid, first_set, covered}
use Rattle.spec.specs.Check.{verdict, header_valid, spare_clear, ranks_valid, starts_valid, tables_valid, slots_valid, sized, no_spare}
use Rattle.theory.specs.Terms.{All}
use Rattle.theory.specs.Demands.{Passes11, Passes12, Passes13, Passes14, Passes15}
use Rattle.theory.proofs.CheckStages.{passes_verdict}
use Rattle.theory.proofs.Order.{equal_self}
use Rattle.theory.proofs.Lists.{true_every, concat_split}
use Rattle.theory.proofs.Frame.{drop_header}
use Rattle.theory.proofs.Bits.{length_pack, unpack_pack, length_ranks, length_samples}
use Rattle.theory.proofs.LevelTrie.{NodeGroup, trie, trie_dense, trie_sparse}
use Rattle.theory.proofs.LinkedLevels.{levels_back}
use Rattle.theory.proofs.Levels.{levels_of_concat, node_group_leaf}
use Rattle.theory.proofs.TrieTests.{TrieValid, root_nodes_valid, root_first_width, nodes_valid_none, realizable_trie, EmptyOrValid, empty_list, valid_trie}
use Rattle.theory.proofs.NodeBits.{bodies_bits, bodies_of, dense_labels, dense_has_child, sparse_labels, sparse_has_child, louds, slots, node_image, version_bodies, node_counts}
use Rattle.theory.proofs.LevelStarts.{level_bodies_pass}
use Rattle.theory.proofs.LiteralImage.{Buildable, image_of_trie}
use Rattle.theory.proofs.DenseBits.{length_dl, length_dc, dense_covered}
use Rattle.theory.proofs.SparseBits.{length_sc, length_sb, louds_ones, sparse_shapes_back}
use Rattle.theory.proofs.ImageParts.{Writable, parts_of_nodes, sv_size, node_image_header, sparse_nodes_back, nodes_back, parts_back, node_image_bodies, trie_leaf_count, trie_writable, trie_levels_valid, empty_image, no_nodes_writable}

-- ---- the tests, on what an image holds

-- bodies of these lengths
abbrev BodySizes : List ℕ → List Bytes → Type 0
BodySizes [] [] = Unit
BodySizes [] (b ∷ bs) = ⊥
BodySizes (n ∷ ns) [] = ⊥
BodySizes (n ∷ ns) (b ∷ bs) = (length b ≡ n) × BodySizes ns bs

sized_true : (ns : List ℕ) (bs : List Bytes) → BodySizes ns bs → sized ns bs ≡ true
unfolding sized
sized_true [] [] p = refl
sized_true [] (b ∷ bs) p = absurd p
sized_true (n ∷ ns) [] p = absurd p
sized_true (n ∷ ns) (b ∷ bs) p = rw (eq-eqb (length b) n p.0) (sized_true ns bs p.1)

pack_size : (k : ℕ) (bs : Bits) → length bs ≡ k → length (pack bs) ≡ blocks 8 k
pack_size k bs e = length_pack bs ∙ ap (blocks 8) e

dense_size : (k : ℕ) (bs : Bits) → length bs ≡ 256 * k → length (pack bs) ≡ 32 * k
dense_size k bs e = omega (arith, length_pack bs)

no_spare_at : (k : ℕ) (bs : Bits) → length bs ≡ k → no_spare k (pack bs) ≡ true
no_spare_at k bs e = ap (λ (z : ℕ). no_spare z (pack bs)) (sym e) ∙ (unpack_pack bs).1

rank_size : (w k : ℕ) (bs : Bits) → length bs ≡ k → length (ranks w bs) ≡ 4 * ((k + (w - 1)) / w)
rank_size w k bs e = length_ranks w bs ∙ ap (λ (z : ℕ). 4 * ((z + (w - 1)) / w)) e

node_image_sized : (st : Settings) (count : ℕ) (ds ss : List Node) → Writable (slot_width st) count ds ss → sized (sizes st (node_counts count ds ss)) (take 12 (version_bodies st.version ds ss)) ≡ true
unfolding sizes rows
node_image_sized st count ds ss w =
    let dl = length_dl ds in
    let dc = length_dc ds in
    let dp = length-map ds is_exact in
    let sc = length_sc ss w.sparse_labelled in
    let sb = length_sb ss w.sparse_labelled in
    rw (bodies_bits ds ss)
    (sized_true (sizes st (node_counts count ds ss)) (in_order (bodies_of (concat (map dense_labels ds)) (concat (map dense_has_child ds)) (map is_exact ds) (concat (map sparse_labels ss)) (concat (map sparse_has_child ss)) (concat (map louds ss)) (concat (map slots (ds ++ ss))))) (
      (dense_size (length ds) (concat (map dense_labels ds)) dl),
      (
        (dense_size (length ds) (concat (map dense_has_child ds)) dc),
        (
          (pack_size (length ds) (map is_exact ds) dp),
          (
            refl,
            (
              (pack_size (length (concat (map sparse_labels ss))) (concat (map sparse_has_child ss)) sc),
              (
                (pack_size (length (concat (map sparse_labels ss))) (concat (map louds ss)) sb),
                (
                  (pack_size (count * slot_width st) (concat (map slots (ds ++ ss))) (sv_size (slot_width st) count ds ss w)),
                  (
                    (rank_size 64 (256 * length ds) (concat (map dense_labels ds)) dl),
                    (
                      (rank_size 64 (256 * length ds) (concat (map dense_has_child ds)) dc),
                      (
                        (rank_size 64 (length ds) (map is_exact ds) dp),
                        (
                          (rank_size 512 (length (concat (map sparse_labels ss))) (concat (map sparse_has_child ss)) sc),
                          (
                            (length_samples (concat (map louds ss)) ∙ ap (λ (z : ℕ). 4 * ((z + 63) / 64)) (louds_ones ss w.sparse_labelled).0),
                            tt,
                          ),
                        ),
                      ),
                    ),
                  ),
                ),
              ),
            ),
          ),
        ),
      ),
    ))

node_image_has_header : (st : Settings) (count : ℕ) (ds ss : List Node) → Writable (slot_width st) count ds ss → has_header (node_image st count ds ss) ≡ true
unfolding has_header
node_image_has_header st count ds ss w =
    let h = node_image_header st count ds ss w in
    let s : Bytes = node_image st count ds ss in
    let l : 22 ≤ length s = (drop_header st (node_counts count ds ss) (write_records (version_rows st.version) (version_bodies st.version ds ss))).5 in
    true_every (leb 22 (length s) ∷ eqb (get_or s 0 0) 72 ∷ eqb (get_or s 1 0) 68 ∷ []) (le-leb 22 (length s) l, (eq-eqb (get_or s 0 0) 72 h.mark_one, (eq-eqb (get_or s 1 0) 68 h.mark_two, tt)))

node_image_header_valid : (st : Settings) (count : ℕ) (ds ss : List Node) → Writable (slot_width st) count ds ss → known_version st.version ≡ true → st.dense_levels ≤ 4 → st.real_width ≤ 16 → st.hash_width ≤ 16
    → header_valid (parts_of_nodes st count ds ss) (version_bodies st.version ds ss) ≡ true
unfolding header_valid
node_image_header_valid st count ds ss w k d r h =
    true_every (known_version st.version ∷ leb st.dense_levels 4 ∷ leb st.real_width 16 ∷ leb st.hash_width 16 ∷ leb count 65535 ∷ sized (sizes st (node_counts count ds ss)) (take 12 (version_bodies st.version ds ss)) ∷ [])
    (k, (le-leb st.dense_levels 4 d, (le-leb st.real_width 16 r, (le-leb st.hash_width 16 h, (le-leb count 65535 w.few, (node_image_sized st count ds ss w, tt))))))

node_image_spare_clear : (st : Settings) (count : ℕ) (ds ss : List Node) → Writable (slot_width st) count ds ss → spare_clear (parts_of_nodes st count ds ss) (named (version_bodies st.version ds ss)) ≡ true
unfolding spare_clear named
node_image_spare_clear st count ds ss w =
    rw (bodies_bits ds ss) (true_every
    (no_spare (length ds) (pack (map is_exact ds)) ∷ no_spare (length (concat (map sparse_labels ss))) (pack (concat (map sparse_has_child ss))) ∷ no_spare (length (concat (map sparse_labels ss))) (pack (concat (map louds ss))) ∷ no_spare (count * slot_width st) (pack (concat (map slots (ds ++ ss)))) ∷ []) (
      no_spare_at (length ds) (map is_exact ds) (length-map ds is_exact),
      (
        no_spare_at (length (concat (map sparse_labels ss))) (concat (map sparse_has_child ss)) (length_sc ss w.sparse_labelled),
        (no_spare_at (length (concat (map sparse_labels ss))) (concat (map louds ss)) (length_sb ss w.sparse_labelled), (no_spare_at (count * slot_width st) (concat (map slots (ds ++ ss))) (sv_size (slot_width st) count ds ss w), tt)),
      ),
    ))

node_image_builders_trie : (st : Settings) (count : ℕ) (ds ss : List Node) → Writable (slot_width st) count ds ss → nodes_valid st.dense_levels (length ds) count (ds ++ ss) ≡ true → builders_trie (parts_of_nodes st count ds ss) ≡ true
unfolding builders_trie
node_image_builders_trie st count ds ss w b =
    let o = louds_ones ss w.sparse_labelled in
    let p : Parts = parts_of_nodes st count ds ss in
    true_every (first_set p.sb ∷ eqb (ones p.sb) p.counts.sparse_nodes ∷ covered p.dc p.dl ∷ all extra_ends (sparse_nodes p) ∷ nodes_valid p.settings.dense_levels p.counts.dense_nodes p.counts.leaves (nodes_of p) ∷ [])
    (o.1, (eq-eqb (ones p.sb) (length ss) o.0, (dense_covered ds, (ap (all extra_ends) (sparse_nodes_back st count ds ss w) ∙ (sparse_shapes_back ss w.sparse_labelled w.sparse_bytes).1, (ap (nodes_valid st.dense_levels (length ds) count) (nodes_back st count ds ss w) ∙ b, tt)))))

node_image_ranks_valid : (st : Settings) (count : ℕ) (ds ss : List Node) → ranks_valid (parts_of_nodes st count ds ss) (named (version_bodies st.version ds ss)) ≡ true
unfolding ranks_valid named
node_image_ranks_valid st count ds ss =
    let p : Parts = parts_of_nodes st count ds ss in
    rw (bodies_bits ds ss) (true_every
    (equal (ranks 64 p.dl) (ranks 64 p.dl) ∷ equal (ranks 64 p.dc) (ranks 64 p.dc) ∷ equal (ranks 64 p.dp) (ranks 64 p.dp) ∷ equal (ranks 512 p.sc) (ranks 512 p.sc) ∷ equal (samples p.sb) (samples p.sb) ∷ [])
    (equal_self (ranks 64 p.dl), (equal_self (ranks 64 p.dc), (equal_self (ranks 64 p.dp), (equal_self (ranks 512 p.sc), (equal_self (samples p.sb), tt))))))

node_image_tables_valid : (st : Settings) (count : ℕ) (ds ss : List Node) → Writable (slot_width st) count ds ss → tables_valid (parts_of_nodes st count ds ss) (version_bodies st.version ds ss) ≡ true
unfolding tables_valid starts_valid
node_image_tables_valid st count ds ss w = rw (node_image_ranks_valid st count ds ss, nodes_back st count ds ss w) (level_bodies_pass st.version (map length (levels_of (ds ++ ss))))

-- The image of nodes that pass the tests of a builder's trie and of its slots is accepted.
pub node_image_accepted : (st : Settings) (count : ℕ) (ds ss : List Node) → Writable (slot_width st) count ds ss → known_version st.version ≡ true → st.dense_levels ≤ 4 → st.real_width ≤ 16 → st.hash_width ≤ 16 → nodes_valid st.dense_levels (length ds) count (ds ++ ss) ≡ true
    → slots_valid st.hash_width 0 (levels_of (ds ++ ss)) ≡ true → verdict (node_image st count ds ss) ≡ 0
node_image_accepted st count ds ss w k d r h b c =
    let s : Bytes = node_image st count ds ss in
    let bs : List Bytes = version_bodies st.version ds ss in
    let p : parts s (named bs) ≡ parts_of_nodes st count ds ss = parts_back st count ds ss w in
    let p11 : Passes11 s bs = record { header = node_image_has_header st count ds ss w; bodies = node_image_bodies st count ds ss w } in
    let p12 : Passes12 s bs = record { before = p11; header = rw p (node_image_header_valid st count ds ss w k d r h) } in
    let p13 : Passes13 s bs = record { before = p12; spare = rw p (node_image_spare_clear st count ds ss w) } in
    let p14 : Passes14 s bs = record { before = p13; trie = rw p (node_image_builders_trie st count ds ss w b) } in
    let p15 : Passes15 s bs = record { before = p14; tables = rw p (node_image_tables_valid st count ds ss w) } in
    passes_verdict s bs (record { before = p15; slots = rw (p, nodes_back st count ds ss w, (node_image_header st count ds ss w).settings) c })

-- The image of a buildable leaf list that is not empty is accepted.
module _ (st : Settings) (ls : List Leaf) (v : Buildable st ls) (t : TrieValid ls) where
  some_leaf : 0 < length ls
  some_leaf = let h : All NodeGroup (ls ∷ []) = rw t.root at (levels_back (trie ls) t.linked).node_groups in node_group_leaf h.0

  list_accepted : verdict (image st ls) ≡ 0
  list_accepted =
      let b : nodes_valid st.dense_levels (length (trie_dense st.dense_levels ls)) (length ls) (concat (trie ls)) ≡ true
      = root_nodes_valid st.dense_levels (length ls) (slot_width st) (trie ls) ls t.linked (root_first_width t) t.shallow t.root v.well_sized t.soles (trie_leaf_count st ls v t) some_leaf in
      let c : levels_of (concat (trie ls)) ≡ trie ls = levels_of_concat (trie ls) t.linked (root_first_width t) t.shallow in
      let whole = concat_split st.dense_levels (trie ls) in
      ap verdict (image_of_trie st ls v)
      ∙ node_image_accepted st (length ls) (trie_dense st.dense_levels ls) (trie_sparse st.dense_levels ls) (trie_writable st ls v t) v.version_known v.dense_range v.real_range v.hash_range (rw whole b) (rw (whole, c) (trie_levels_valid st ls v t).valid)

empty_slots : (h : ℕ) → slots_valid h 0 (levels_of []) ≡ true
unfolding slots_valid levels_of total
empty_slots h = refl

empty_accepted : (st : Settings) → Buildable st [] → verdict (image st []) ≡ 0
empty_accepted st v = ap verdict (empty_image st v) ∙ node_image_accepted st 0 [] [] (no_nodes_writable st v.real_range v.hash_range) v.version_known v.dense_range v.real_range v.hash_range (nodes_valid_none st.dense_levels 0 0) (empty_slots st.hash_width)

-- The check accepts the image of every buildable leaf list.
pub image_accepted : (st : Settings) (ls : List Leaf) → Buildable st ls → verdict (image st ls) ≡ 0
image_accepted st ls v = go (realizable_trie (slot_width st) ls v.realizable v.well_sized) v
  where
    go : {ls : List Leaf} → EmptyOrValid ls → Buildable st ls → verdict (image st ls) ≡ 0
    go empty_list v = empty_accepted st v
    go (valid_trie {ls = ls} t) v = list_accepted st ls v t
