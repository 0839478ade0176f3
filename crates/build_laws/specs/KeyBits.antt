-- The bits that a key list's image is made of, by the nodes of its trie, and that the keys emit the entries of these nodes. Used by the laws of lengths and of the bodies.
use Rattle.std.specs.Prelude.{ℕ, ◌≡◌, List, ◌++◌, map, length}
use Rattle.std.proofs.Math.Path.{sym, ap}
use Rattle.std.proofs.Common.{◌∙◌, arith}
use Rattle.std.proofs.Math.Nat.{sub-zero}
use Rattle.spec.specs.Bytes.{Bytes, Bits, concat}
use Rattle.spec.specs.Leaves.{Leaf, leaves}
use Rattle.spec.specs.Image.{Settings, slot_width, Bodies}
use Rattle.spec.specs.Image as Literal
use Rattle.spec.specs.Nodes.{is_exact}
use Rattle.build_laws.specs.SlotWidths.{slot_bits}
use Rattle.build_laws.specs.LevelEntries.{AllFollow}
use Rattle.build_laws.specs.TrieEntries.{Slotted, Rooted, slotted_of, slotted_between, slotted_first, slotted_rest}
use Rattle.theory.proofs.Neighbours.{Nonempty}
use Rattle.build_laws.specs.NeighbourLeaves.{leaves_follow}
use Rattle.build_laws.specs.Emissions.{Emission, values_below, map_emissions}
use Rattle.build_laws.specs.KeyEntries.{slotted_emissions, values_emitted}
use Rattle.build_laws.specs.PassEmissions.{values_map, keys_nonempty}
use Rattle.build_laws.specs.TrieFacts.{dense_nodes, sparse_nodes, TrieFacts, trie_facts, bodies_levels}
use Rattle.theory.proofs.BuildLaws.{BuiltFrom, built_fits}
use Rattle.theory.proofs.LiteralImage.{Buildable}
use Rattle.theory.proofs.LevelTrie.{trie}
use Rattle.theory.proofs.NodeBits.{dense_labels, dense_has_child, sparse_has_child, louds, slots, bodies_of, sparse_labels}

-- the leaves of a key list's image
abbrev pub key_leaves : Settings → List Bytes → List Leaf
key_leaves st ks = leaves st.hash_width st.real_width ks

-- the bodies of a key list's image, as document 01 has them
abbrev pub key_bodies : Settings → List Bytes → Bodies
key_bodies st ks = Literal.bodies st.dense_levels (key_leaves st ks)

module _ (st : Settings) (ks : List Bytes) (b : BuiltFrom st ks) where
  -- the keys are not empty
  pub some : Nonempty ks
  some = keys_nonempty ks b.keys

  -- the leaves fit document 01
  pub fits : Buildable st (key_leaves st ks)
  fits = built_fits st ks b

  -- what holds of the nodes
  pub facts : TrieFacts (slot_width st) (length (key_leaves st ks)) (dense_nodes st (key_leaves st ks)) (sparse_nodes st (key_leaves st ks))
  facts = trie_facts st (key_leaves st ks) fits

  -- each leaf follows the one before
  pub all_follow : AllFollow (key_leaves st ks) × Rooted (key_leaves st ks)
  all_follow = leaves_follow (slot_bits st) ks some b.up

  -- the entries that the keys emit on the sparse levels are those of the sparse nodes
  pub sparse_values : values_below (slotted_emissions st.dense_levels 64 (slot_bits st) ks) 64 ≡ slotted_of (sparse_nodes st (key_leaves st ks))
  unfolding sparse_nodes
  sparse_values =
      values_emitted (slot_bits st) st.dense_levels 64 ks (omega (arith, b.dense_range)) (omega arith) some b.up
      ∙ sym (slotted_rest st.dense_levels (key_leaves st ks) (omega (arith, b.dense_range)) all_follow.0 all_follow.1)

  -- those on the dense levels are those of the dense nodes
  pub dense_values : values_below (slotted_emissions 0 st.dense_levels (slot_bits st) ks) 64 ≡ slotted_of (dense_nodes st (key_leaves st ks))
  unfolding dense_nodes
  dense_values =
      values_emitted (slot_bits st) 0 st.dense_levels ks (omega arith) (omega (arith, b.dense_range)) some b.up
      ∙ ap (λ (k : ℕ). slotted_between 0 k (key_leaves st ks)) (sub-zero st.dense_levels)
      ∙ sym (slotted_first st.dense_levels (key_leaves st ks) (omega (arith, b.dense_range)) all_follow.0 all_follow.1)

  -- those on all levels are those of all nodes
  pub all_values : values_below (slotted_emissions 0 64 (slot_bits st) ks) 64 ≡ slotted_of (concat (trie (key_leaves st ks)))
  all_values = values_emitted (slot_bits st) 0 64 ks (omega arith) (omega arith) some b.up ∙ sym (slotted_rest 0 (key_leaves st ks) (omega arith) all_follow.0 all_follow.1)

  -- a function of the entries that the keys emit
  pub mapped_values : {B : Type 0} (f : Slotted → B) (lo hi : ℕ) (es : List (Emission B)) (xs : List Slotted) → es ≡ map_emissions f (slotted_emissions lo hi (slot_bits st) ks) → values_below (slotted_emissions lo hi (slot_bits st) ks) 64 ≡ xs → values_below es 64 ≡ map f xs
  mapped_values f lo hi es xs e q = ap (λ (z : List (Emission _)). values_below z 64) e ∙ values_map f (slotted_emissions lo hi (slot_bits st) ks) 64 ∙ ap (map f) q

  -- ---- the bits of the bodies

  -- the bits of D-Labels
  abbrev pub DL_bits : Bits
  DL_bits = concat (map dense_labels (dense_nodes st (key_leaves st ks)))

  -- the bits of D-HasChild
  abbrev pub DC_bits : Bits
  DC_bits = concat (map dense_has_child (dense_nodes st (key_leaves st ks)))

  -- the bits of D-IsPrefixKey
  abbrev pub DP_bits : Bits
  DP_bits = map is_exact (dense_nodes st (key_leaves st ks))

  -- the bits of S-HasChild
  abbrev pub SC_bits : Bits
  SC_bits = concat (map sparse_has_child (sparse_nodes st (key_leaves st ks)))

  -- the bits of S-LOUDS
  abbrev pub SB_bits : Bits
  SB_bits = concat (map louds (sparse_nodes st (key_leaves st ks)))

  -- the bits of the suffix slots
  abbrev pub SV_bits : Bits
  SV_bits = concat (map slots (dense_nodes st (key_leaves st ks) ++ sparse_nodes st (key_leaves st ks)))

  -- The bodies of document 01 by these bits.
  pub bodies_are : key_bodies st ks ≡ bodies_of DL_bits DC_bits DP_bits (concat (map sparse_labels (sparse_nodes st (key_leaves st ks)))) SC_bits SB_bits SV_bits
  bodies_are = bodies_levels st (key_leaves st ks) fits
