-- What holds of the trie's nodes of a key list, dense and sparse; and the bodies of document 01 by the trie's levels. Used by the laws of the bodies.
use Rattle.std.specs.Prelude.{ℕ, ◌≡◌, List, [], ◌∷◌, ◌++◌, map, take, drop}
use Rattle.std.proofs.Math.Path.{sym, ap}
use Rattle.std.proofs.Common.{ap₂, ◌∙◌, arith}
use Rattle.std.proofs.lemmas.List.{map-append, length-map}
use Rattle.std.proofs.Math.ListN.{length}
use Rattle.spec.specs.Bytes.{Bytes, concat}
use Rattle.spec.specs.Leaves.{Leaf}
use Rattle.spec.specs.Image.{Settings, slot_width, nodes, is_leaf}
use Rattle.spec.specs.Image as Literal
use Rattle.spec.specs.Nodes.{Node, is_exact}
use Rattle.spec.specs.Trie.{leaf_count}
use Rattle.theory.specs.Terms.{All}
use Rattle.theory.proofs.LevelTrie.{trie}
use Rattle.theory.proofs.LinkedLevels.{Labelled}
use Rattle.theory.proofs.NodeBits.{ByteLabels, SlotsWidth, bodies_of, dense_labels, dense_has_child, sparse_labels, sparse_has_child, louds, slots}
use Rattle.theory.proofs.Lists.{concat_split, all_append}
use Rattle.theory.proofs.LiteralImage.{Buildable, map_prefix_nodes, PrefixNodes, prefix_nodes, literal_bodies}
use Rattle.theory.proofs.ImageParts.{image_holds}
use Rattle.theory.proofs.PrefixNodes.{node_at, dense_labels_at, dense_has_child_at, is_leaf_at, sparse_labels_at, sparse_has_child_at, louds_at, slots_at_node}
use Rattle.theory.proofs.TrieGroups.{well_sized_depth}

-- the nodes on the dense levels, in level order
unfoldable pub dense_nodes : Settings → List Leaf → List Node
unfolding concat trie
dense_nodes st ls = concat (take st.dense_levels (trie ls))

-- the other nodes
unfoldable pub sparse_nodes : Settings → List Leaf → List Node
unfolding concat trie
sparse_nodes st ls = concat (drop st.dense_levels (trie ls))

-- Dense and sparse nodes as a builder's trie has them: each has a label, labels are bytes, slots have n bits, and as many leaves as are counted.
pub record TrieFacts (n count : ℕ) (ds ss : List Node) : Type 0 where
  pub dense_fit : All Labelled ds
  pub sparse_fit : All Labelled ss
  pub dense_small : All ByteLabels ds
  pub wide : All (SlotsWidth n) (ds ++ ss)
  pub leaf_total : leaf_count (ds ++ ss) ≡ count

pub all_split : {A : Type 0} (P : A → Type 0) (a b : List A) → All P (a ++ b) → All P a × All P b
all_split P [] b h = (tt, h)
all_split P (x ∷ a) b h = let q = all_split P a b h.1 in ((h.0, q.0), q.1)

-- both kinds of nodes together are the trie's
pub nodes_both : (st : Settings) (ls : List Leaf) → dense_nodes st ls ++ sparse_nodes st ls ≡ concat (trie ls)
unfolding dense_nodes sparse_nodes
nodes_both st ls = concat_split st.dense_levels (trie ls)

-- the nodes of such a list's trie
pub trie_facts : (st : Settings) (ls : List Leaf) → Buildable st ls → TrieFacts (slot_width st) (length ls) (dense_nodes st ls) (sparse_nodes st ls)
trie_facts st ls v =
    let h = image_holds st ls v in
    let w = h.writable in
    let e : h.dense_nodes ++ h.sparse_nodes ≡ dense_nodes st ls ++ sparse_nodes st ls = h.whole ∙ sym (nodes_both st ls) in
    let fit : All Labelled (dense_nodes st ls) × All Labelled (sparse_nodes st ls) =
    all_split Labelled (dense_nodes st ls) (sparse_nodes st ls) (rw e at (all_append Labelled h.dense_nodes h.sparse_nodes w.dense_labelled w.sparse_labelled)) in
    record {
      dense_fit = fit.0;
      sparse_fit = fit.1;
      dense_small = (all_split ByteLabels (dense_nodes st ls) (sparse_nodes st ls) (rw e at (all_append ByteLabels h.dense_nodes h.sparse_nodes w.dense_bytes w.sparse_bytes))).0;
      wide = rw e at w.wide;
      leaf_total = ap leaf_count (sym e) ∙ w.leaf_total;
    }

-- ---- the bodies by levels

same_bits : (ls : List Leaf) (dp sp : List Bytes) (ds ss : List Node) → map (node_at ls) dp ≡ ds → map (node_at ls) sp ≡ ss
    → bodies_of (concat (map (Literal.dense_labels ls) dp)) (concat (map (Literal.dense_has_child ls) dp)) (map (is_leaf ls) dp)
    (concat (map (Literal.sparse_labels ls) sp)) (concat (map (Literal.sparse_has_child ls) sp)) (concat (map (Literal.louds ls) sp)) (concat (map (Literal.slots ls) (dp ++ sp)))
    ≡ bodies_of (concat (map dense_labels ds)) (concat (map dense_has_child ds)) (map is_exact ds)
    (concat (map sparse_labels ss)) (concat (map sparse_has_child ss)) (concat (map louds ss)) (concat (map slots (ds ++ ss)))
same_bits ls dp sp ds ss p q =
    let both : map (node_at ls) (dp ++ sp) ≡ ds ++ ss = map-append (node_at ls) dp sp ∙ ap₂ ◌++◌ p q in
    rw (
      map_prefix_nodes ls (Literal.dense_labels ls) dense_labels dp ds (dense_labels_at ls) p,
      map_prefix_nodes ls (Literal.dense_has_child ls) dense_has_child dp ds (dense_has_child_at ls) p,
      map_prefix_nodes ls (is_leaf ls) is_exact dp ds (is_leaf_at ls) p,
      map_prefix_nodes ls (Literal.sparse_labels ls) sparse_labels sp ss (sparse_labels_at ls) q,
      map_prefix_nodes ls (Literal.sparse_has_child ls) sparse_has_child sp ss (sparse_has_child_at ls) q,
      map_prefix_nodes ls (Literal.louds ls) louds sp ss (louds_at ls) q,
      map_prefix_nodes ls (Literal.slots ls) slots (dp ++ sp) (ds ++ ss) (slots_at_node ls) both,
    )

module _ (st : Settings) (ls : List Leaf) (v : Buildable st ls) where
  literal_nodes : PrefixNodes st.dense_levels ls
  literal_nodes = prefix_nodes st.dense_levels ls (omega (arith, v.dense_range)) v.realizable (well_sized_depth (slot_width st) ls v.well_sized)

  -- The bodies of document 01 are those of the trie's dense and sparse nodes.
  pub bodies_levels : Literal.bodies st.dense_levels ls
      ≡ bodies_of (concat (map dense_labels (dense_nodes st ls))) (concat (map dense_has_child (dense_nodes st ls))) (map is_exact (dense_nodes st ls))
      (concat (map sparse_labels (sparse_nodes st ls))) (concat (map sparse_has_child (sparse_nodes st ls))) (concat (map louds (sparse_nodes st ls))) (concat (map slots (dense_nodes st ls ++ sparse_nodes st ls)))
  unfolding dense_nodes sparse_nodes
  bodies_levels =
      literal_bodies st.dense_levels ls
      ∙ same_bits ls (nodes ls 0 st.dense_levels) (nodes ls st.dense_levels 64) (concat (take st.dense_levels (trie ls))) (concat (drop st.dense_levels (trie ls))) literal_nodes.first literal_nodes.rest

  -- so many dense nodes
  pub dense_count : length (nodes ls 0 st.dense_levels) ≡ length (dense_nodes st ls)
  unfolding dense_nodes
  dense_count = sym (length-map (nodes ls 0 st.dense_levels) (node_at ls)) ∙ ap length literal_nodes.first

  -- so many sparse nodes
  pub sparse_count : length (nodes ls st.dense_levels 64) ≡ length (sparse_nodes st ls)
  unfolding sparse_nodes
  sparse_count = sym (length-map (nodes ls st.dense_levels 64) (node_at ls)) ∙ ap length literal_nodes.rest
