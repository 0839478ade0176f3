-- The literal image, whose nodes are prefixes of cut keys, is the header and records of its trie's nodes (`image_of_trie`).
-- Used by acceptance, by reading back and by the bound of trie entries.
use Rattle.std.specs.Prelude.{ℕ, zero, suc, ◌≤◌, ◌-◌, ◌≡◌, refl, true, List, [], map, ◌++◌, ◌∷◌, take, drop, length}
use Rattle.std.proofs.Common.{ap, sym, ◌∙◌, ap₂, arith}
use Rattle.std.proofs.lemmas.List.{map-append, length-map}
use Rattle.std.proofs.lemmas.Simd.{map-map}
use Rattle.std.proofs.Math.Nat.{sub-zero, suc-sub-suc}
use Rattle.std.proofs.Math.Seq.{take-nil, drop-nil}
use Rattle.spec.specs.Bytes.{concat, iota, Bytes}
use Rattle.spec.specs.Leaves.{Leaf}
use Rattle.spec.specs.Image.{known_version, on_level, nodes, is_leaf, Settings, slot_width, header, version_rows, in_order, level_widths, level_bodies, write_records}
use Rattle.spec.specs.Nodes.{Group, Node, levels_of}
use Rattle.theory.specs.Terms.{All}
use Rattle.theory.proofs.LeafLists.{Realizable, AllWellSized, SpareClear}
use Rattle.theory.proofs.Lists.{map_ext, concat_split}
use Rattle.theory.proofs.LevelTrie.{node_of, child_groups, trie_levels, trie_dense, trie_sparse, trie}
use Rattle.theory.proofs.TrieGroups.{DepthAtMost, realizable_trie_group, has_leaf, well_sized_depth}
use Rattle.theory.proofs.TrieTests.{realizable_trie}
use Rattle.theory.proofs.NodeBits.{bodies_of, bodies_bits, node_image}
use Rattle.theory.proofs.PrefixNodes.{node_at, dense_labels_at, dense_has_child_at, is_leaf_at, sparse_labels_at, sparse_has_child_at, louds_at, slots_at_node}
use Rattle.theory.proofs.LevelPrefixes.{groups_below, groups_below_none, TrieNode, nodes_on_level}
use Rattle.theory.proofs.LevelStarts.{trie_starts}
use Rattle.spec.specs.Image as Literal
use Rattle.spec.specs.Nodes as Node
use Rattle.theory.proofs.NodeBits as Level

-- ---- the nodes of levels a, a + 1, .. , k of them

-- the nodes of levels a, a + 1, .. , k of them
level_nodes : List Group → ℕ → ℕ → List Node
level_nodes gs a zero = []
level_nodes gs a (suc k) = map node_of (groups_below a gs) ++ level_nodes gs (suc a) k

level_nodes_none : (a k : ℕ) → level_nodes [] a k ≡ []
unfolding level_nodes
level_nodes_none a zero = refl
level_nodes_none a (suc k) = rw (groups_below_none a) (level_nodes_none (suc a) k)

level_nodes_next : (gs : List Group) (a k : ℕ) → level_nodes gs (suc a) k ≡ level_nodes (concat (map child_groups gs)) a k
unfolding level_nodes groups_below
level_nodes_next gs a zero = refl
level_nodes_next gs a (suc k) = ap (λ (z : List Node). map node_of (groups_below a (concat (map child_groups gs))) ++ z) (level_nodes_next gs (suc a) k)

-- The nodes of all levels of a trie.
trie_levels_all : (f : ℕ) (gs : List Group) → concat (trie_levels f gs) ≡ level_nodes gs 0 f
unfolding trie_levels concat level_nodes groups_below
trie_levels_all zero gs = refl
trie_levels_all (suc f) [] = sym (level_nodes_none 1 f)
trie_levels_all (suc f) (g ∷ gs) = ap (λ (z : List Node). map node_of (g ∷ gs) ++ z) (trie_levels_all f (concat (map child_groups (g ∷ gs))) ∙ sym (level_nodes_next (g ∷ gs) 0 f))

trie_levels_take : (k f : ℕ) (gs : List Group) → k ≤ f → concat (take k (trie_levels f gs)) ≡ level_nodes gs 0 k
unfolding trie_levels concat level_nodes groups_below
trie_levels_take zero f gs h = refl
trie_levels_take (suc k) zero gs h = absurd (omega arith)
trie_levels_take (suc k) (suc f) [] h = sym (level_nodes_none 1 k)
trie_levels_take (suc k) (suc f) (g ∷ gs) h = ap (λ (z : List Node). map node_of (g ∷ gs) ++ z) (trie_levels_take k f (concat (map child_groups (g ∷ gs))) (omega arith) ∙ sym (level_nodes_next (g ∷ gs) 0 k))

trie_levels_drop : (k f : ℕ) (gs : List Group) → k ≤ f → concat (drop k (trie_levels f gs)) ≡ level_nodes gs k (f - k)
unfolding trie_levels concat
trie_levels_drop zero f gs h = rw (sub-zero f) (trie_levels_all f gs)
trie_levels_drop (suc k) zero gs h = absurd (omega arith)
trie_levels_drop (suc k) (suc f) [] h = sym (level_nodes_none (suc k) (suc f - suc k))
trie_levels_drop (suc k) (suc f) (g ∷ gs) h = rw (suc-sub-suc f k) (trie_levels_drop k f (concat (map child_groups (g ∷ gs))) (omega arith) ∙ sym (level_nodes_next (g ∷ gs) k (f - k)))

-- The nodes of the prefixes on k levels are those of the trie.
prefix_level_nodes : (ls : Group) → TrieNode ls → (a k : ℕ) → map (node_at ls) (concat (map (on_level ls) (iota a k))) ≡ level_nodes (ls ∷ []) a k
unfolding iota concat level_nodes
prefix_level_nodes ls r a zero = refl
prefix_level_nodes ls r a (suc k) = map-append (node_at ls) (on_level ls a) (concat (map (on_level ls) (iota (suc a) k))) ∙ ap₂ ◌++◌ (nodes_on_level a ls r) (prefix_level_nodes ls r (suc a) k)

no_prefixes : (a k : ℕ) → concat (map (on_level []) (iota a k)) ≡ []
unfolding iota concat on_level
no_prefixes a zero = refl
no_prefixes a (suc k) = no_prefixes (suc a) k

-- the nodes of a leaf list's prefixes, dense and sparse, are in order the nodes of its trie
pub record PrefixNodes (dense : ℕ) (ls : List Leaf) : Type 0 where
  pub first : map (node_at ls) (nodes ls 0 dense) ≡ trie_dense dense ls
  pub rest : map (node_at ls) (nodes ls dense 64) ≡ trie_sparse dense ls

-- The nodes of a realizable leaf list's prefixes are the nodes of its trie.
pub prefix_nodes : {n : ℕ} (dense : ℕ) (ls : List Leaf) → dense ≤ 64 → Realizable n ls → DepthAtMost 64 ls → PrefixNodes dense ls
unfolding nodes trie concat
prefix_nodes dense [] h g q = record {
  first = ap (map (node_at [])) (no_prefixes 0 (dense - 0)) ∙ ap concat (sym (take-nil {A = List Node} dense));
  rest = ap (map (node_at [])) (no_prefixes dense (64 - dense)) ∙ ap concat (sym (drop-nil {A = List Node} dense));
}
prefix_nodes dense (l ∷ ls) h g q =
    let r : TrieNode (l ∷ ls) = record { depth = 64; shape = realizable_trie_group 63 (l ∷ ls) has_leaf g q } in
    record {
      first = prefix_level_nodes (l ∷ ls) r 0 (dense - 0) ∙ ap (level_nodes ((l ∷ ls) ∷ []) 0) (sub-zero dense) ∙ sym (trie_levels_take dense 64 ((l ∷ ls) ∷ []) h);
      rest = prefix_level_nodes (l ∷ ls) r dense (64 - dense) ∙ sym (trie_levels_drop dense 64 ((l ∷ ls) ∷ []) h);
    }

-- What prefixes write, where it is what their nodes write, over prefixes and over nodes.
pub map_prefix_nodes : {A : Type 0} (ls : List Leaf) (F : Bytes → A) (G : Node → A) (ps : List Bytes) (ns : List Node) → ((p : Bytes) → F p ≡ G (node_at ls p)) → map (node_at ls) ps ≡ ns → map F ps ≡ map G ns
map_prefix_nodes ls F G ps ns h e = map_ext F (λ p. G (node_at ls p)) h ps ∙ sym (map-map G (node_at ls) ps) ∙ ap (map G) e

-- ---- the image

-- The bodies of a leaf list, from the bits and labels of its prefixes.
pub literal_bodies : (dense : ℕ) (ls : List Leaf) → Literal.bodies dense ls
    ≡ bodies_of (concat (map (Literal.dense_labels ls) (nodes ls 0 dense))) (concat (map (Literal.dense_has_child ls) (nodes ls 0 dense))) (map (is_leaf ls) (nodes ls 0 dense))
    (concat (map (Literal.sparse_labels ls) (nodes ls dense 64))) (concat (map (Literal.sparse_has_child ls) (nodes ls dense 64))) (concat (map (Literal.louds ls) (nodes ls dense 64)))
    (concat (map (Literal.slots ls) (nodes ls 0 dense ++ nodes ls dense 64)))
unfolding Literal.bodies
literal_bodies dense ls = refl

-- The bodies of prefixes are those of their nodes.
same_bodies : (ls : List Leaf) (dp sp : List Bytes) (ds ss : List Node) → map (node_at ls) dp ≡ ds → map (node_at ls) sp ≡ ss
    → bodies_of (concat (map (Literal.dense_labels ls) dp)) (concat (map (Literal.dense_has_child ls) dp)) (map (is_leaf ls) dp)
    (concat (map (Literal.sparse_labels ls) sp)) (concat (map (Literal.sparse_has_child ls) sp)) (concat (map (Literal.louds ls) sp))
    (concat (map (Literal.slots ls) (dp ++ sp)))
    ≡ Level.bodies ds ss
same_bodies ls dp sp ds ss p q =
    let both : map (node_at ls) (dp ++ sp) ≡ ds ++ ss = map-append (node_at ls) dp sp ∙ ap₂ ◌++◌ p q in
    rw (
      map_prefix_nodes ls (Literal.dense_labels ls) Level.dense_labels dp ds (dense_labels_at ls) p,
      map_prefix_nodes ls (Literal.dense_has_child ls) Level.dense_has_child dp ds (dense_has_child_at ls) p,
      map_prefix_nodes ls (is_leaf ls) Node.is_exact dp ds (is_leaf_at ls) p,
      map_prefix_nodes ls (Literal.sparse_labels ls) Level.sparse_labels sp ss (sparse_labels_at ls) q,
      map_prefix_nodes ls (Literal.sparse_has_child ls) Level.sparse_has_child sp ss (sparse_has_child_at ls) q,
      map_prefix_nodes ls (Literal.louds ls) Level.louds sp ss (louds_at ls) q,
      map_prefix_nodes ls (Literal.slots ls) Level.slots (dp ++ sp) (ds ++ ss) (slots_at_node ls) both,
    ) (sym (bodies_bits ds ss))

-- An image is its header and its records.
image_records : (st : Settings) (ls : List Leaf) → Literal.image st ls ≡ header st (Literal.counts st.dense_levels ls) ++ write_records (version_rows st.version) (in_order (Literal.bodies st.dense_levels ls) ++ level_bodies st.version (level_widths ls))
unfolding Literal.image
image_records st ls = refl

-- The counts of a leaf list are those of its prefixes.
literal_counts : (dense : ℕ) (ls : List Leaf) → Literal.counts dense ls
    ≡ record { leaves = length ls; dense_nodes = length (nodes ls 0 dense); sparse_entries = length (concat (map (Literal.sparse_labels ls) (nodes ls dense 64))); sparse_nodes = length (nodes ls dense 64) }
unfolding Literal.counts
literal_counts dense ls = refl

-- settings in range, and a realizable list of at most 65,535 leaves, each with a cut key of 1 to 64 bytes and a slot of h hash bits and n real bits, none of these set past the 64th byte
pub record Buildable (st : Settings) (ls : List Leaf) : Type 0 where
  pub version_known : known_version st.version ≡ true
  pub dense_range : st.dense_levels ≤ 4
  pub real_range : st.real_width ≤ 16
  pub hash_range : st.hash_width ≤ 16
  pub few : length ls ≤ 65535
  pub realizable : Realizable (slot_width st) ls
  pub well_sized : AllWellSized (slot_width st) ls
  pub spare : All (SpareClear st.hash_width) ls

-- The image of a buildable leaf list is the header and the records of its trie's nodes.
pub image_of_trie : (st : Settings) (ls : List Leaf) → Buildable st ls → Literal.image st ls ≡ node_image st (length ls) (trie_dense st.dense_levels ls) (trie_sparse st.dense_levels ls)
image_of_trie st ls v =
    let N = prefix_nodes st.dense_levels ls (omega (arith, v.dense_range)) v.realizable (well_sized_depth (slot_width st) ls v.well_sized) in
    let n : length (nodes ls 0 st.dense_levels) ≡ length (trie_dense st.dense_levels ls) = sym (length-map (nodes ls 0 st.dense_levels) (node_at ls)) ∙ ap length N.first in
    let m : length (nodes ls st.dense_levels 64) ≡ length (trie_sparse st.dense_levels ls) = sym (length-map (nodes ls st.dense_levels 64) (node_at ls)) ∙ ap length N.rest in
    let b = literal_bodies st.dense_levels ls ∙ same_bodies ls (nodes ls 0 st.dense_levels) (nodes ls st.dense_levels 64) (trie_dense st.dense_levels ls) (trie_sparse st.dense_levels ls) N.first N.rest in
    let e : concat (map (Literal.sparse_labels ls) (nodes ls st.dense_levels 64)) ≡ concat (map Level.sparse_labels (trie_sparse st.dense_levels ls)) =
    ap concat (map_prefix_nodes ls (Literal.sparse_labels ls) Level.sparse_labels (nodes ls st.dense_levels 64) (trie_sparse st.dense_levels ls) (sparse_labels_at ls) N.rest) in
    let whole : trie_dense st.dense_levels ls ++ trie_sparse st.dense_levels ls ≡ concat (trie ls) = concat_split st.dense_levels (trie ls) in
    let w : level_bodies st.version (level_widths ls) ≡ level_bodies st.version (map length (levels_of (trie_dense st.dense_levels ls ++ trie_sparse st.dense_levels ls))) =
    trie_starts st.version ls v.realizable (well_sized_depth (slot_width st) ls v.well_sized) (realizable_trie (slot_width st) ls v.realizable v.well_sized) ∙ ap (λ (z : List Node). level_bodies st.version (map length (levels_of z))) (sym whole) in
    image_records st ls ∙ rw (literal_counts st.dense_levels ls, n, m, e, b, w)
