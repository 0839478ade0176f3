-- The counts of a header and the lengths of the twelve bodies, by the counters of the counting pass; the numbers 8 and 7 are decided by them. Used by the builder before it writes.
use Rattle.std.specs.Prelude.{ℕ, ◌*◌, ◌≡◌, List, ◌++◌, map}
use Rattle.std.proofs.Math.Path.{sym, ap}
use Rattle.std.proofs.Common.{◌∙◌, arith}
use Rattle.std.proofs.Math.Nat.{sub-zero}
use Rattle.std.proofs.Math.ListN.{length, length-map}
use Rattle.spec.specs.Bytes.{Bytes, concat, blocks, ones}
use Rattle.spec.specs.Image.{Settings, slot_width, Bodies, nodes}
use Rattle.spec.specs.Nodes.{is_exact}
use Rattle.build_laws.specs.SlotWidths.{slot_bits}
use Rattle.build_laws.specs.TrieEntries.{Slotted, slotted_of, slotted_between, slotted_first, slotted_rest}
use Rattle.build_laws.specs.Cursors.{sum_of, sums}
use Rattle.build_laws.specs.NodeBodies.{labels_slotted, nodes_entries, node_step}
use Rattle.build_laws.specs.TrieFacts.{dense_nodes, sparse_nodes, dense_count, sparse_count}
use Rattle.build_laws.specs.Counters.{entry_counts, node_counts, entries_total, nodes_total}
use Rattle.build_laws.specs.KeyBits.{key_leaves, key_bodies, bodies_are, some, fits, facts, all_follow, DL_bits, DC_bits, DP_bits, SC_bits, SB_bits, SV_bits}
use Rattle.theory.proofs.BuildLaws.{BuiltFrom}
use Rattle.theory.proofs.NodeBits.{sparse_labels, length_sv}
use Rattle.theory.proofs.SparseBits.{length_sc, length_sb, louds_ones}
use Rattle.theory.proofs.DenseBits.{length_dl, length_dc}
use Rattle.theory.proofs.Bits.{length_pack, length_ranks, length_samples}
use Rattle.theory.proofs.KeyLeaves.{leaves_length}

-- the bytes of so many dense rows
row_bytes : (k : ℕ) → blocks 8 (256 * k) ≡ 32 * k
row_bytes k = omega arith

-- the bytes of their ranks
row_ranks : (k : ℕ) → 4 * blocks 64 (256 * k) ≡ 16 * k
row_ranks k = omega arith

module _ (st : Settings) (ks : List Bytes) (b : BuiltFrom st ks) where
  -- ---- the header's counts

  nodes_dense : length (dense_nodes st (key_leaves st ks)) ≡ sums (node_counts ks) 0 st.dense_levels
  unfolding dense_nodes
  nodes_dense =
      sym (nodes_entries (dense_nodes st (key_leaves st ks)) (facts st ks b).dense_fit)
      ∙ ap (sum_of node_step) (slotted_first st.dense_levels (key_leaves st ks) (omega (arith, b.dense_range)) (all_follow st ks b).0 (all_follow st ks b).1 ∙ ap (λ (k : ℕ). slotted_between 0 k (key_leaves st ks)) (sym (sub-zero st.dense_levels)))
      ∙ nodes_total (slot_bits st) ks (some st ks b) b.up 0 st.dense_levels (omega arith) (omega (arith, b.dense_range))

  nodes_sparse : length (sparse_nodes st (key_leaves st ks)) ≡ sums (node_counts ks) st.dense_levels 64
  unfolding sparse_nodes
  nodes_sparse =
      sym (nodes_entries (sparse_nodes st (key_leaves st ks)) (facts st ks b).sparse_fit)
      ∙ ap (sum_of node_step) (slotted_rest st.dense_levels (key_leaves st ks) (omega (arith, b.dense_range)) (all_follow st ks b).0 (all_follow st ks b).1)
      ∙ nodes_total (slot_bits st) ks (some st ks b) b.up st.dense_levels 64 (omega (arith, b.dense_range)) (omega arith)

  entries_sparse : length (concat (map sparse_labels (sparse_nodes st (key_leaves st ks)))) ≡ sums (entry_counts ks) st.dense_levels 64
  unfolding sparse_nodes
  entries_sparse =
      ap length (labels_slotted (sparse_nodes st (key_leaves st ks))) ∙ length-map (slotted_of (sparse_nodes st (key_leaves st ks))) (λ (i : Slotted). i.entry.label)
      ∙ ap length (slotted_rest st.dense_levels (key_leaves st ks) (omega (arith, b.dense_range)) (all_follow st ks b).0 (all_follow st ks b).1)
      ∙ entries_total (slot_bits st) ks (some st ks b) b.up st.dense_levels (omega (arith, b.dense_range))

  -- the header's count of dense nodes
  pub dense_nodes_total : length (nodes (key_leaves st ks) 0 st.dense_levels) ≡ sums (node_counts ks) 0 st.dense_levels
  dense_nodes_total = dense_count st (key_leaves st ks) (fits st ks b) ∙ nodes_dense

  -- the header's count of sparse nodes
  pub sparse_nodes_total : length (nodes (key_leaves st ks) st.dense_levels 64) ≡ sums (node_counts ks) st.dense_levels 64
  sparse_nodes_total = sparse_count st (key_leaves st ks) (fits st ks b) ∙ nodes_sparse

  -- ---- the bodies' lengths

  -- SL: a byte an entry
  pub length_SL : length (key_bodies st ks).SL ≡ sums (entry_counts ks) st.dense_levels 64
  length_SL = ap (λ (z : Bodies). length z.SL) (bodies_are st ks b) ∙ entries_sparse

  -- the bits of SC, one an entry
  pub length_SC_bits : length (SC_bits st ks b) ≡ sums (entry_counts ks) st.dense_levels 64
  length_SC_bits = length_sc (sparse_nodes st (key_leaves st ks)) (facts st ks b).sparse_fit ∙ entries_sparse

  -- the bits of SB, one an entry
  pub length_SB_bits : length (SB_bits st ks b) ≡ sums (entry_counts ks) st.dense_levels 64
  length_SB_bits = length_sb (sparse_nodes st (key_leaves st ks)) (facts st ks b).sparse_fit ∙ entries_sparse

  -- the bits of DL, 256 a dense node
  pub length_DL_bits : length (DL_bits st ks b) ≡ 256 * sums (node_counts ks) 0 st.dense_levels
  length_DL_bits = length_dl (dense_nodes st (key_leaves st ks)) ∙ ap (λ (k : ℕ). 256 * k) nodes_dense

  -- the bits of DC, 256 a dense node
  pub length_DC_bits : length (DC_bits st ks b) ≡ 256 * sums (node_counts ks) 0 st.dense_levels
  length_DC_bits = length_dc (dense_nodes st (key_leaves st ks)) ∙ ap (λ (k : ℕ). 256 * k) nodes_dense

  -- the bits of DP, one a dense node
  pub length_DP_bits : length (DP_bits st ks b) ≡ sums (node_counts ks) 0 st.dense_levels
  length_DP_bits = length-map (dense_nodes st (key_leaves st ks)) is_exact ∙ nodes_dense

  -- the bits of SV, a slot for each leaf
  pub length_SV_bits : length (SV_bits st ks b) ≡ length ks * slot_width st
  length_SV_bits =
      length_sv (slot_width st) (dense_nodes st (key_leaves st ks) ++ sparse_nodes st (key_leaves st ks)) (facts st ks b).wide
      ∙ ap (λ (k : ℕ). k * slot_width st) ((facts st ks b).leaf_total ∙ leaves_length st.hash_width st.real_width ks)

  -- DL and DC: 32 bytes a dense node
  pub length_DL : length (key_bodies st ks).DL ≡ 32 * sums (node_counts ks) 0 st.dense_levels
  length_DL = ap (λ (z : Bodies). length z.DL) (bodies_are st ks b) ∙ length_pack (DL_bits st ks b) ∙ ap (blocks 8) length_DL_bits ∙ row_bytes (sums (node_counts ks) 0 st.dense_levels)

  pub length_DC : length (key_bodies st ks).DC ≡ 32 * sums (node_counts ks) 0 st.dense_levels
  length_DC = ap (λ (z : Bodies). length z.DC) (bodies_are st ks b) ∙ length_pack (DC_bits st ks b) ∙ ap (blocks 8) length_DC_bits ∙ row_bytes (sums (node_counts ks) 0 st.dense_levels)

  -- DP: a bit a dense node
  pub length_DP : length (key_bodies st ks).DP ≡ blocks 8 (sums (node_counts ks) 0 st.dense_levels)
  length_DP = ap (λ (z : Bodies). length z.DP) (bodies_are st ks b) ∙ length_pack (DP_bits st ks b) ∙ ap (blocks 8) length_DP_bits

  -- SC and SB: a bit an entry
  pub length_SC : length (key_bodies st ks).SC ≡ blocks 8 (sums (entry_counts ks) st.dense_levels 64)
  length_SC = ap (λ (z : Bodies). length z.SC) (bodies_are st ks b) ∙ length_pack (SC_bits st ks b) ∙ ap (blocks 8) length_SC_bits

  pub length_SB : length (key_bodies st ks).SB ≡ blocks 8 (sums (entry_counts ks) st.dense_levels 64)
  length_SB = ap (λ (z : Bodies). length z.SB) (bodies_are st ks b) ∙ length_pack (SB_bits st ks b) ∙ ap (blocks 8) length_SB_bits

  -- SV: a slot for each leaf
  pub length_SV : length (key_bodies st ks).SV ≡ blocks 8 (length ks * slot_width st)
  length_SV = ap (λ (z : Bodies). length z.SV) (bodies_are st ks b) ∙ length_pack (SV_bits st ks b) ∙ ap (blocks 8) length_SV_bits

  -- RL and RC: 16 bytes a dense node
  pub length_RL : length (key_bodies st ks).RL ≡ 16 * sums (node_counts ks) 0 st.dense_levels
  length_RL = ap (λ (z : Bodies). length z.RL) (bodies_are st ks b) ∙ length_ranks 64 (DL_bits st ks b) ∙ ap (λ (k : ℕ). 4 * blocks 64 k) length_DL_bits ∙ row_ranks (sums (node_counts ks) 0 st.dense_levels)

  pub length_RC : length (key_bodies st ks).RC ≡ 16 * sums (node_counts ks) 0 st.dense_levels
  length_RC = ap (λ (z : Bodies). length z.RC) (bodies_are st ks b) ∙ length_ranks 64 (DC_bits st ks b) ∙ ap (λ (k : ℕ). 4 * blocks 64 k) length_DC_bits ∙ row_ranks (sums (node_counts ks) 0 st.dense_levels)

  -- RP: four bytes for each begun block of 64 dense nodes
  pub length_RP : length (key_bodies st ks).RP ≡ 4 * blocks 64 (sums (node_counts ks) 0 st.dense_levels)
  length_RP = ap (λ (z : Bodies). length z.RP) (bodies_are st ks b) ∙ length_ranks 64 (DP_bits st ks b) ∙ ap (λ (k : ℕ). 4 * blocks 64 k) length_DP_bits

  -- RS: four bytes for each begun block of 512 entries
  pub length_RS : length (key_bodies st ks).RS ≡ 4 * blocks 512 (sums (entry_counts ks) st.dense_levels 64)
  length_RS = ap (λ (z : Bodies). length z.RS) (bodies_are st ks b) ∙ length_ranks 512 (SC_bits st ks b) ∙ ap (λ (k : ℕ). 4 * blocks 512 k) length_SC_bits

  -- as many ones in SB as sparse nodes
  pub ones_SB : ones (SB_bits st ks b) ≡ sums (node_counts ks) st.dense_levels 64
  ones_SB = (louds_ones (sparse_nodes st (key_leaves st ks)) (facts st ks b).sparse_fit).0 ∙ nodes_sparse

  -- TS: four bytes for each begun 64 sparse nodes
  pub length_TS : length (key_bodies st ks).TS ≡ 4 * blocks 64 (sums (node_counts ks) st.dense_levels 64)
  length_TS =
      ap (λ (z : Bodies). length z.TS) (bodies_are st ks b) ∙ length_samples (SB_bits st ks b)
      ∙ ap (λ (k : ℕ). 4 * blocks 64 k) ones_SB
