-- Order 8: how many nodes each level has, by the counters of the counting pass. Used by the records of an image.
use Prim.Native.Nat.{ℕ, zero, suc, ◌+◌, ◌≤◌, ◌<◌}
use Rattle.std.specs.Prelude.{◌≡◌, refl, List, ◌∷◌, ◌++◌, map}
use Rattle.std.proofs.Common.{sym, ap₂, ◌∙◌}
use Rattle.std.proofs.Math.Path.{ap}
use native.Mathlib.Omega.{arith}
use Rattle.std.proofs.Math.Nat.{sub-zero}
use Rattle.std.proofs.Math.ListN.{length, get_or, length-append}
use Rattle.std.proofs.lemmas.List.{length-map}
use Rattle.spec.specs.Bytes.{Bytes, concat, iota}
use Rattle.spec.specs.Leaves.{Leaf}
use Rattle.spec.specs.Image.{Settings, slot_width, on_level, nodes, level_widths}
use Rattle.theory.specs.Terms.{All}
use Rattle.theory.proofs.Lists.{concat_split, all_append}
use Rattle.theory.proofs.LinkedLevels.{Labelled}
use Rattle.theory.proofs.LevelTrie.{trie, trie_dense, trie_sparse}
use Rattle.theory.proofs.TrieGroups.{well_sized_depth}
use Rattle.theory.proofs.PrefixNodes.{node_at}
use Rattle.theory.proofs.LiteralImage.{prefix_nodes}
use Rattle.theory.proofs.BuildLaws.{BuiltFrom}
use Rattle.rank_tables.specs.TableEntries.{iota_snoc}
use Rattle.build_laws.specs.SlotWidths.{slot_bits}
use Rattle.build_laws.specs.TrieEntries.{slotted_between, slotted_first}
use Rattle.build_laws.specs.Cursors.{sum_of, sums}
use Rattle.build_passes.specs.CounterSums.{sums_in}
use Rattle.build_laws.specs.NodeBodies.{nodes_entries, node_step}
use Rattle.build_laws.specs.TrieFacts.{dense_nodes, sparse_nodes, all_split, nodes_both}
use Rattle.build_laws.specs.Counters.{node_counts, nodes_total}
use Rattle.build_laws.specs.KeyBits.{key_leaves, some, fits, facts, all_follow}

-- the counters of the 64 levels
unfoldable pub widths : List ℕ → List ℕ
widths c = map (λ d. get_or c d 0) (iota 0 64)

-- functions with the same values on levels below b
same_widths : (f g : ℕ → ℕ) (b : ℕ) → ((d : ℕ) → d < b → f d ≡ g d) → (k a : ℕ) → a + k ≤ b → map f (iota a k) ≡ map g (iota a k)
unfolding iota
same_widths f g b q zero a h = refl
same_widths f g b q (suc k) a h = ap₂ ◌∷◌ (q a (omega arith)) (same_widths f g b q k (suc a) (omega arith))

module _ (st : Settings) (ks : List Bytes) (b : BuiltFrom st ks) where
  abbrev ls : List Leaf
  ls = key_leaves st ks

  -- each node of the first d levels has a label
  labelled : (d : ℕ) → All Labelled (trie_dense d ls)
  labelled d =
      let whole : All Labelled (dense_nodes st ls ++ sparse_nodes st ls) = all_append Labelled (dense_nodes st ls) (sparse_nodes st ls) (facts st ks b).dense_fit (facts st ks b).sparse_fit in
      let e : dense_nodes st ls ++ sparse_nodes st ls ≡ trie_dense d ls ++ trie_sparse d ls = nodes_both st ls ∙ sym (concat_split d (trie ls)) in
      (all_split Labelled (trie_dense d ls) (trie_sparse d ls) (rw e at whole)).0

  -- so many nodes on the levels below d
  nodes_below : (d : ℕ) → d ≤ 64 → length (nodes ls 0 d) ≡ sums (node_counts ks) 0 d
  nodes_below d h =
      sym (length-map (nodes ls 0 d) (node_at ls)) ∙ ap length (prefix_nodes d ls h (fits st ks b).realizable (well_sized_depth (slot_width st) ls (fits st ks b).well_sized)).first
      ∙ sym (nodes_entries (trie_dense d ls) (labelled d))
      ∙ ap (sum_of node_step) (slotted_first d ls h (all_follow st ks b).0 (all_follow st ks b).1 ∙ ap (λ (k : ℕ). slotted_between 0 k ls) (sym (sub-zero d)))
      ∙ nodes_total (slot_bits st) ks (some st ks b) b.up 0 d (omega arith) h

  -- those on one level
  nodes_at : (d : ℕ) → d < 64 → length (on_level ls d) ≡ get_or (node_counts ks) d 0
  unfolding nodes
  nodes_at d h =
      let n : d + 1 ≡ suc d = omega arith in
      let z : 0 + d ≡ d = omega arith in
      omega (
        arith,
        ap (λ (k : ℕ). length (concat (map (on_level ls) (iota 0 k)))) (sub-zero d),
        ap (λ (k : ℕ). length (concat (map (on_level ls) (iota 0 k)))) (sub-zero (suc d)),
        ap length (iota_snoc (on_level ls) d 0),
        length-append (concat (map (on_level ls) (iota 0 d))) (on_level ls (0 + d)),
        ap (λ (k : ℕ). length (on_level ls k)) z,
        nodes_below d (omega arith),
        nodes_below (suc d) (omega arith),
        ap (sums (node_counts ks) 0) n,
        sums_in (node_counts ks) 0 d (omega arith),
      )

  -- The counters of an accepted list's nodes are the widths of its leaves' levels.
  pub widths_are : level_widths ls ≡ widths (node_counts ks)
  unfolding level_widths widths
  widths_are = same_widths (λ d. length (on_level ls d)) (λ d. get_or (node_counts ks) d 0) 64 nodes_at 64 0 (omega arith)
