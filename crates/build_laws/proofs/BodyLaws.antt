-- The bodies of a key list's image that are filled by a pass over the keys: SL, SC, SB, SV, DL, DC, DP. For each, the law that turns what the pass leaves into the body of document 01,
-- and that there is room for all that it writes. Used by the builder's fillers.
use Rattle.std.specs.Prelude.{ℕ, ◌*◌, ◌≤◌, ◌≡◌, refl, Bool, not, List, [], ◌∷◌, ◌++◌, map, length, drop, replicate, leb}
use Rattle.std.proofs.Common.{sym, ap, ap₂, ◌∙◌, inl, inr, ⊎_elim, arith}
use Rattle.std.proofs.Math.Bool.{true, false}
use Rattle.std.proofs.lemmas.Simd.{map-map}
use Rattle.std.proofs.Math.ListN.{get_or}
use Rattle.std.proofs.lemmas.List.{length-map}
use Rattle.spec.specs.Bytes.{Bytes, Bits, concat, blocks, pack, unpack}
use Rattle.spec.specs.Image.{Settings, slot_width, Bodies, has, positions}
use Rattle.spec.specs.Nodes.{Node}
use Rattle.spec.specs.Trie.{leaf_count}
use Rattle.build_laws.specs.SlotWidths.{slot_bits}
use Rattle.build_laws.specs.TrieEntries.{Slotted, slotted_of}
use Rattle.build_laws.specs.Emissions.{Emission, values_below, LevelsBelow}
use Rattle.build_laws.specs.Cursors.{sum_of, sums, level_offset, offset_sum, offset_grows}
use Rattle.build_laws.specs.SetBits.{positions_below}
use Rattle.build_laws.specs.BitPass.{BitState, bit_state, write_all_bits, write_all_is, emitted_ones, cursor_ones, Started, ones_by_level, ones_of_bits, every, Room, room_of}
use Rattle.build_laws.specs.NodeBodies.{leaves_slotted, labels_slotted, children_slotted, starts_slotted, slots_slotted, slotted_wide}
use Rattle.build_laws.specs.DenseRows.{cell, cell_step, cell_ones, label_cell, child_cell, exact_cell, on_entry}
use Rattle.build_laws.proofs.DenseRowLaws.{label_ones, child_ones, exact_ones}
use Rattle.build_laws.specs.BytePass.{byte_state, put_bytes, put_bytes_is, one_step, at_cursor, byte_room}
use Rattle.build_laws.specs.PackedBody.{filled_body}
use Rattle.build_laws.specs.KeyEntries.{continues_at}
use Rattle.build_laws.specs.PassEmissions.{label_emissions, leaf_emissions, later_emissions, dense_label_emissions, dense_child_emissions, dense_exact_emissions, slot_emissions, label_of_slotted, leaf_of_slotted, later_of_slotted, label_cells_of_slotted, child_cells_of_slotted, exact_cells_of_slotted, emissions_below, first_longer, slots_below}
use Rattle.build_laws.specs.SlotEntries.{leaf_slots, values_slots, slots_concat, sum_slots}
use Rattle.build_laws.specs.TrieFacts.{dense_nodes, sparse_nodes, nodes_both}
use Rattle.build_laws.specs.KeyBits.{key_leaves, key_bodies, bodies_are, some, facts, sparse_values, dense_values, all_values, mapped_values, DL_bits, DC_bits, DP_bits, SC_bits, SB_bits, SV_bits}
use Rattle.build_laws.specs.Lengths.{length_SL, length_SC_bits, length_SB_bits, length_SV_bits, length_DL_bits, length_DC_bits, length_DP_bits}
use Rattle.build_laws.specs.Counters.{sparse_top, dense_top, entry_counts, node_counts, leaf_counts, CursorsAt, sparse_starts_at, dense_started, leaf_starts_at}
use Rattle.theory.proofs.BuildLaws.{BuiltFrom}
use Rattle.theory.specs.Terms.{All, IsBytes}
use Rattle.theory.proofs.Bits.{length_pack}
use Rattle.theory.proofs.LevelTrie.{trie}
use Rattle.theory.proofs.NodeBits.{slots}
use Rattle.theory.proofs.KeyLeaves.{leaves_length}
use Rattle.build_laws.specs.Limits.{counters}
use Rattle.build_laws.specs.declared.Cell.{Cell}
use Rattle.build_laws.specs.BodyLaws.{bit_at, slot_at}

-- ---- any pass that sets bits

module _ {A : Type 0} (inc : A → ℕ) (ones-at : ℕ → A → List ℕ) (es : List (Emission A)) (cur : List ℕ) (bs : Bits)
    (w : length cur ≡ counters) (l : LevelsBelow 64 es) (s : Started inc ones-at es cur) (f : (j : ℕ) → has (cursor_ones inc ones-at 0 (values_below es 64)) j ≡ has (positions 0 bs) j) where
  ones_are : (j : ℕ) → has (emitted_ones inc ones-at es cur) j ≡ has (positions 0 bs) j
  ones_are j = ones_by_level inc ones-at es cur (omega arith) l s j ∙ f j

  -- it leaves the packed bits
  pass_body : (o rest : Bytes) → IsBytes o → IsBytes rest → unpack o ≡ (write_all_bits inc ones-at es (bit_state (unpack (replicate (blocks 8 (length bs)) 0 ++ rest)) cur)).bits → o ≡ pack bs ++ rest
  pass_body o rest p q e =
      filled_body bs (emitted_ones inc ones-at es cur) o rest p q ones_are
      (e ∙ ap (λ (z : BitState). z.bits) (write_all_is inc ones-at es (unpack (replicate (blocks 8 (length bs)) 0 ++ rest)) cur))

  -- the same, with the number of bytes as it is known
  pass_filled : (m : ℕ) → m ≡ length (pack bs) → (o rest : Bytes) → IsBytes o → IsBytes rest → unpack o ≡ (write_all_bits inc ones-at es (bit_state (unpack (replicate m 0 ++ rest)) cur)).bits → o ≡ pack bs ++ rest
  pass_filled m k o rest p q e = pass_body o rest p q (e ∙ ap (λ (i : ℕ). (write_all_bits inc ones-at es (bit_state (unpack (replicate i 0 ++ rest)) cur)).bits) (k ∙ length_pack bs))

  -- there is room for what it writes
  pass_room : Room inc ones-at (length bs) (level_offset inc es 64) es cur
  pass_room =
      room_of inc ones-at (length bs) (level_offset inc es 64) es cur (omega arith) l
      (λ d h. ⊎_elim (λ z. inl z) (λ z. inr (omega (arith, z, offset_grows inc es d 64 h))) (s d h)) (λ j h. positions_below bs j (sym (ones_are j) ∙ h))

singles : (bs : Bits) → concat (map (λ (b : Bool). b ∷ []) bs) ≡ bs
unfolding concat
singles [] = refl
singles (b ∷ bs) = ap (λ (z : Bits). b ∷ z) (singles bs)

bit_position : (c : ℕ) (b : Bool) → bit_at c b ≡ positions (1 * c) (b ∷ [])
unfolding positions
bit_position c true = let w : c ≡ 1 * c = omega arith in ap (λ (k : ℕ). k ∷ []) w
bit_position c false = refl

bits_ones : (bs : Bits) → cursor_ones one_step bit_at 0 bs ≡ positions 0 bs
bits_ones bs = ones_of_bits one_step bit_at 1 (λ b. b ∷ []) bit_position (λ b. Unit) (λ b u. refl) bs (every bs) 0 ∙ ap (positions 0) (singles bs)

same_all : (xs : List Bits) → concat (map (λ (s : Bits). s) xs) ≡ concat xs
unfolding concat
same_all [] = refl
same_all (x ∷ xs) = ap (λ (z : Bits). x ++ z) (same_all xs)

slots_ones : (n : ℕ) (xs : List Bits) → All (λ (s : Bits). length s ≡ n * 1) xs → cursor_ones one_step (slot_at n) 0 xs ≡ positions (n * 0) (concat xs)
slots_ones n xs a = ones_of_bits one_step (slot_at n) n (λ s. s) (λ c s. refl) (λ s. length s ≡ n * 1) (λ s e. e) xs a 0 ∙ ap (positions (n * 0)) (same_all xs)

-- ---- the bodies

module _ (st : Settings) (ks : List Bytes) (b : BuiltFrom st ks) where
  -- ---- SL

  -- the labels level by level are the body
  pub SL_values : values_below (label_emissions st.dense_levels 0 ks) 64 ≡ (key_bodies st ks).SL
  SL_values =
      (mapped_values st ks b) (λ (i : Slotted). i.entry.label) st.dense_levels 64 (label_emissions st.dense_levels 0 ks) (slotted_of (sparse_nodes st (key_leaves st ks))) (label_of_slotted (slot_bits st) st.dense_levels ks) (sparse_values st ks b)
      ∙ sym (labels_slotted (sparse_nodes st (key_leaves st ks))) ∙ sym (ap (λ (z : Bodies). z.SL) (bodies_are st ks b))

  labels_below : LevelsBelow 64 (label_emissions st.dense_levels 0 ks)
  unfolding label_emissions
  labels_below = emissions_below st.dense_levels 64 (λ p q k d. get_or k d 0) 255 0 ks (first_longer ks b.keys) b.keys b.up

  -- SL: labels written at entry cursors
  pub SL_filled : (cur out o : List ℕ) → length cur ≡ counters → CursorsAt (entry_counts ks) st.dense_levels cur → length (key_bodies st ks).SL ≤ length out
      → o ≡ (put_bytes (label_emissions st.dense_levels 0 ks) (byte_state out cur)).bytes
      → o ≡ (key_bodies st ks).SL ++ drop (length (key_bodies st ks).SL) out
  SL_filled cur out o w c h e =
      e ∙ put_bytes_is (label_emissions st.dense_levels 0 ks) out cur w labels_below
      (sparse_starts_at (slot_bits st) ks (some st ks b) b.up st.dense_levels (omega (arith, b.dense_range)) (λ (i : Slotted). i.entry.label) (label_emissions st.dense_levels 0 ks) (label_of_slotted (slot_bits st) st.dense_levels ks) cur c)
      (omega (arith, ap length SL_values)) ∙ ap (λ (z : List ℕ). z ++ drop (length z) out) SL_values

  -- SL: there is room for what is written
  pub SL_room : (cur : List ℕ) → length cur ≡ counters → CursorsAt (entry_counts ks) st.dense_levels cur → Room one_step at_cursor (sums (entry_counts ks) st.dense_levels 64) (sums (entry_counts ks) st.dense_levels 64) (label_emissions st.dense_levels 0 ks) cur
  SL_room cur w c =
      byte_room (label_emissions st.dense_levels 0 ks) cur (sums (entry_counts ks) st.dense_levels 64) w labels_below
      (sparse_starts_at (slot_bits st) ks (some st ks b) b.up st.dense_levels (omega (arith, b.dense_range)) (λ (i : Slotted). i.entry.label) (label_emissions st.dense_levels 0 ks) (label_of_slotted (slot_bits st) st.dense_levels ks) cur c)
      (omega (arith, ap length SL_values, length_SL st ks b))

  -- ---- SC and SB

  leaf_values : values_below (leaf_emissions st.dense_levels 0 ks) 64 ≡ map not (SC_bits st ks b)
  leaf_values =
      (mapped_values st ks b) (λ (i : Slotted). not i.entry.child) st.dense_levels 64 (leaf_emissions st.dense_levels 0 ks) (slotted_of (sparse_nodes st (key_leaves st ks))) (leaf_of_slotted (slot_bits st) st.dense_levels ks) (sparse_values st ks b)
      ∙ sym (map-map not (λ (i : Slotted). i.entry.child) (slotted_of (sparse_nodes st (key_leaves st ks)))) ∙ ap (map not) (sym (children_slotted (sparse_nodes st (key_leaves st ks))))

  later_values : values_below (later_emissions st.dense_levels 0 ks) 64 ≡ map not (SB_bits st ks b)
  later_values =
      (mapped_values st ks b) (λ (i : Slotted). not i.entry.start) st.dense_levels 64 (later_emissions st.dense_levels 0 ks) (slotted_of (sparse_nodes st (key_leaves st ks))) (later_of_slotted (slot_bits st) st.dense_levels ks) (sparse_values st ks b)
      ∙ sym (map-map not (λ (i : Slotted). i.entry.start) (slotted_of (sparse_nodes st (key_leaves st ks)))) ∙ ap (map not) (sym (starts_slotted (sparse_nodes st (key_leaves st ks)) (facts st ks b).sparse_fit))

  leaves_below : LevelsBelow 64 (leaf_emissions st.dense_levels 0 ks)
  unfolding leaf_emissions
  leaves_below = emissions_below st.dense_levels 64 (λ p q k d. not (continues_at p q (length k) d)) true 0 ks (first_longer ks b.keys) b.keys b.up

  later_below : LevelsBelow 64 (later_emissions st.dense_levels 0 ks)
  unfolding later_emissions
  later_below = emissions_below st.dense_levels 64 (λ p q k d. not (leb p d)) false 0 ks (first_longer ks b.keys) b.keys b.up

  module _ (cur : List ℕ) (w : length cur ≡ counters) (c : CursorsAt (entry_counts ks) st.dense_levels cur) where
    leaves_started : Started one_step bit_at (leaf_emissions st.dense_levels 0 ks) cur
    leaves_started d h = inr (sparse_starts_at (slot_bits st) ks (some st ks b) b.up st.dense_levels (omega (arith, b.dense_range)) (λ (i : Slotted). not i.entry.child) (leaf_emissions st.dense_levels 0 ks) (leaf_of_slotted (slot_bits st) st.dense_levels ks) cur c d h)

    later_started : Started one_step bit_at (later_emissions st.dense_levels 0 ks) cur
    later_started d h = inr (sparse_starts_at (slot_bits st) ks (some st ks b) b.up st.dense_levels (omega (arith, b.dense_range)) (λ (i : Slotted). not i.entry.start) (later_emissions st.dense_levels 0 ks) (later_of_slotted (slot_bits st) st.dense_levels ks) cur c d h)

    leaf_ones : (j : ℕ) → has (cursor_ones one_step bit_at 0 (values_below (leaf_emissions st.dense_levels 0 ks) 64)) j ≡ has (positions 0 (map not (SC_bits st ks b))) j
    leaf_ones j = ap (λ (z : Bits). has (cursor_ones one_step bit_at 0 z) j) leaf_values ∙ ap (λ (z : List ℕ). has z j) (bits_ones (map not (SC_bits st ks b)))

    later_ones : (j : ℕ) → has (cursor_ones one_step bit_at 0 (values_below (later_emissions st.dense_levels 0 ks) 64)) j ≡ has (positions 0 (map not (SB_bits st ks b))) j
    later_ones j = ap (λ (z : Bits). has (cursor_ones one_step bit_at 0 z) j) later_values ∙ ap (λ (z : List ℕ). has z j) (bits_ones (map not (SB_bits st ks b)))

    opposite_size : (bs : Bits) → length (pack bs) ≡ length (pack (map not bs))
    opposite_size bs = length_pack bs ∙ ap (blocks 8) (sym (length-map bs not)) ∙ sym (length_pack (map not bs))

    -- SC: the bits of leaves set at entry cursors, in bytes that were zero
    pub SC_filled : (o rest : Bytes) → IsBytes o → IsBytes rest
        → unpack o ≡ (write_all_bits one_step bit_at (leaf_emissions st.dense_levels 0 ks) (bit_state (unpack (replicate (length (key_bodies st ks).SC) 0 ++ rest)) cur)).bits
        → o ≡ pack (map not (SC_bits st ks b)) ++ rest
    SC_filled o rest p q e =
        pass_filled one_step bit_at (leaf_emissions st.dense_levels 0 ks) cur (map not (SC_bits st ks b)) w leaves_below leaves_started leaf_ones _
        (ap (λ (z : Bodies). length z.SC) (bodies_are st ks b) ∙ opposite_size (SC_bits st ks b)) o rest p q e

    -- SC: there is room for what is set
    pub SC_room : Room one_step bit_at (sums (entry_counts ks) st.dense_levels 64) (sums (entry_counts ks) st.dense_levels 64) (leaf_emissions st.dense_levels 0 ks) cur
    SC_room = rw (length-map (SC_bits st ks b) not, length_SC_bits st ks b, sparse_top (slot_bits st) ks (some st ks b) b.up st.dense_levels (omega (arith, b.dense_range)) (λ (i : Slotted). not i.entry.child) (leaf_emissions st.dense_levels 0 ks) (leaf_of_slotted (slot_bits st) st.dense_levels ks)) at (pass_room one_step bit_at (leaf_emissions st.dense_levels 0 ks) cur (map not (SC_bits st ks b)) w leaves_below leaves_started leaf_ones)

    -- SB: the bits of entries that start no node set at entry cursors, in bytes that were zero
    pub SB_filled : (o rest : Bytes) → IsBytes o → IsBytes rest
        → unpack o ≡ (write_all_bits one_step bit_at (later_emissions st.dense_levels 0 ks) (bit_state (unpack (replicate (length (key_bodies st ks).SB) 0 ++ rest)) cur)).bits
        → o ≡ pack (map not (SB_bits st ks b)) ++ rest
    SB_filled o rest p q e =
        pass_filled one_step bit_at (later_emissions st.dense_levels 0 ks) cur (map not (SB_bits st ks b)) w later_below later_started later_ones _
        (ap (λ (z : Bodies). length z.SB) (bodies_are st ks b) ∙ opposite_size (SB_bits st ks b)) o rest p q e

    -- SB: there is room for what is set
    pub SB_room : Room one_step bit_at (sums (entry_counts ks) st.dense_levels 64) (sums (entry_counts ks) st.dense_levels 64) (later_emissions st.dense_levels 0 ks) cur
    SB_room = rw (length-map (SB_bits st ks b) not, length_SB_bits st ks b, sparse_top (slot_bits st) ks (some st ks b) b.up st.dense_levels (omega (arith, b.dense_range)) (λ (i : Slotted). not i.entry.start) (later_emissions st.dense_levels 0 ks) (later_of_slotted (slot_bits st) st.dense_levels ks)) at (pass_room one_step bit_at (later_emissions st.dense_levels 0 ks) cur (map not (SB_bits st ks b)) w later_below later_started later_ones)

  -- ---- SV

  slot_ones : (j : ℕ) → has (cursor_ones one_step (slot_at (slot_width st)) 0 (values_below (slot_emissions (slot_bits st) 0 ks) 64)) j ≡ has (positions 0 (SV_bits st ks b)) j
  slot_ones j =
      let N : List Node = concat (trie (key_leaves st ks)) in
      let e : values_below (slot_emissions (slot_bits st) 0 ks) 64 ≡ leaf_slots (slotted_of N) = values_slots (slot_bits st) ks 64 (omega arith) ∙ ap leaf_slots (all_values st ks b) in
      let t = slots_concat (slot_width st) (slotted_of N) (slotted_wide (slot_width st) N (rw (nodes_both st (key_leaves st ks)) at (facts st ks b).wide)) in
      let z : slot_width st * 0 ≡ 0 = omega arith in
      ap (λ (xs : List Bits). has (cursor_ones one_step (slot_at (slot_width st)) 0 xs) j) e
      ∙ ap (λ (is : List ℕ). has is j) (slots_ones (slot_width st) (leaf_slots (slotted_of N)) t.1)
      ∙ ap₂ (λ (k : ℕ) (bs : Bits). has (positions k bs) j) z (t.0 ∙ sym (slots_slotted N) ∙ ap (λ (ns : List Node). concat (map slots ns)) (sym (nodes_both st (key_leaves st ks))))

  slots_top : level_offset one_step (slot_emissions (slot_bits st) 0 ks) 64 ≡ length ks
  slots_top =
      let N : List Node = concat (trie (key_leaves st ks)) in
      sym (offset_sum one_step (slot_emissions (slot_bits st) 0 ks) 64)
      ∙ ap (sum_of one_step) (values_slots (slot_bits st) ks 64 (omega arith) ∙ ap leaf_slots (all_values st ks b))
      ∙ sum_slots (slotted_of N) ∙ leaves_slotted N ∙ ap leaf_count (sym (nodes_both st (key_leaves st ks))) ∙ (facts st ks b).leaf_total ∙ leaves_length st.hash_width st.real_width ks

  module _ (cur : List ℕ) (w : length cur ≡ counters) (c : CursorsAt (leaf_counts ks) 0 cur) where
    -- SV: slots set at n times the leaf cursors, in bytes that were zero
    pub SV_filled : (o rest : Bytes) → IsBytes o → IsBytes rest
        → unpack o ≡ (write_all_bits one_step (slot_at (slot_width st)) (slot_emissions (slot_bits st) 0 ks) (bit_state (unpack (replicate (length (key_bodies st ks).SV) 0 ++ rest)) cur)).bits
        → o ≡ (key_bodies st ks).SV ++ rest
    SV_filled o rest p q e =
        let y = ap (λ (z : Bodies). z.SV) (bodies_are st ks b) in
        pass_filled one_step (slot_at (slot_width st)) (slot_emissions (slot_bits st) 0 ks) cur (SV_bits st ks b) w (slots_below (slot_bits st) 0 ks (first_longer ks b.keys) b.keys b.up) (λ d h. inr (leaf_starts_at (slot_bits st) ks cur c d h))
        slot_ones _ (ap length y) o rest p q e ∙ ap (λ (z : Bytes). z ++ rest) (sym y)

    -- SV: there is room for what is set
    pub SV_room : Room one_step (slot_at (slot_width st)) (length ks * slot_width st) (length ks) (slot_emissions (slot_bits st) 0 ks) cur
    SV_room = rw (length_SV_bits st ks b, slots_top) at (pass_room one_step (slot_at (slot_width st)) (slot_emissions (slot_bits st) 0 ks) cur (SV_bits st ks b) w (slots_below (slot_bits st) 0 ks (first_longer ks b.keys) b.keys b.up) (λ d h. inr (leaf_starts_at (slot_bits st) ks cur c d h)) slot_ones)

  -- ---- DL, DC and DP

  DL_ones : (j : ℕ) → has (cursor_ones cell_step (cell_ones 256) 0 (values_below (dense_label_emissions st.dense_levels 0 ks) 64)) j ≡ has (positions 0 (DL_bits st ks b)) j
  DL_ones j =
      ap (λ (xs : List Cell). has (cursor_ones cell_step (cell_ones 256) 0 xs) j) ((mapped_values st ks b) (on_entry label_cell) 0 st.dense_levels (dense_label_emissions st.dense_levels 0 ks) (slotted_of (dense_nodes st (key_leaves st ks))) (label_cells_of_slotted (slot_bits st) st.dense_levels ks) (dense_values st ks b))
      ∙ label_ones (dense_nodes st (key_leaves st ks)) (facts st ks b).dense_fit (facts st ks b).dense_small j

  DC_ones : (j : ℕ) → has (cursor_ones cell_step (cell_ones 256) 0 (values_below (dense_child_emissions st.dense_levels 0 ks) 64)) j ≡ has (positions 0 (DC_bits st ks b)) j
  DC_ones j =
      ap (λ (xs : List Cell). has (cursor_ones cell_step (cell_ones 256) 0 xs) j) ((mapped_values st ks b) (on_entry child_cell) 0 st.dense_levels (dense_child_emissions st.dense_levels 0 ks) (slotted_of (dense_nodes st (key_leaves st ks))) (child_cells_of_slotted (slot_bits st) st.dense_levels ks) (dense_values st ks b))
      ∙ child_ones (dense_nodes st (key_leaves st ks)) (facts st ks b).dense_fit (facts st ks b).dense_small j

  DP_ones : (j : ℕ) → has (cursor_ones cell_step (cell_ones 1) 0 (values_below (dense_exact_emissions st.dense_levels 0 ks) 64)) j ≡ has (positions 0 (DP_bits st ks b)) j
  DP_ones j =
      ap (λ (xs : List Cell). has (cursor_ones cell_step (cell_ones 1) 0 xs) j) ((mapped_values st ks b) (on_entry exact_cell) 0 st.dense_levels (dense_exact_emissions st.dense_levels 0 ks) (slotted_of (dense_nodes st (key_leaves st ks))) (exact_cells_of_slotted (slot_bits st) st.dense_levels ks) (dense_values st ks b))
      ∙ exact_ones (dense_nodes st (key_leaves st ks)) (facts st ks b).dense_fit j

  label_cells_below : LevelsBelow 64 (dense_label_emissions st.dense_levels 0 ks)
  unfolding dense_label_emissions
  label_cells_below = emissions_below 0 st.dense_levels (λ p q k d. cell (leb p d) true (get_or k d 0)) (cell true false 255) 0 ks (first_longer ks b.keys) b.keys b.up

  child_cells_below : LevelsBelow 64 (dense_child_emissions st.dense_levels 0 ks)
  unfolding dense_child_emissions
  child_cells_below = emissions_below 0 st.dense_levels (λ p q k d. cell (leb p d) (continues_at p q (length k) d) (get_or k d 0)) (cell true false 255) 0 ks (first_longer ks b.keys) b.keys b.up

  exact_cells_below : LevelsBelow 64 (dense_exact_emissions st.dense_levels 0 ks)
  unfolding dense_exact_emissions
  exact_cells_below = emissions_below 0 st.dense_levels (λ p q k d. cell (leb p d) false 0) (cell true true 0) 0 ks (first_longer ks b.keys) b.keys b.up

  module _ (cur : List ℕ) (w : length cur ≡ counters) (c : CursorsAt (node_counts ks) 0 cur) where
    label_cells_started : Started cell_step (cell_ones 256) (dense_label_emissions st.dense_levels 0 ks) cur
    label_cells_started = dense_started (slot_bits st) ks (some st ks b) b.up st.dense_levels (omega (arith, b.dense_range)) (on_entry label_cell) cell_step (cell_ones 256) (λ i. refl) (dense_label_emissions st.dense_levels 0 ks) (label_cells_of_slotted (slot_bits st) st.dense_levels ks) cur c

    child_cells_started : Started cell_step (cell_ones 256) (dense_child_emissions st.dense_levels 0 ks) cur
    child_cells_started = dense_started (slot_bits st) ks (some st ks b) b.up st.dense_levels (omega (arith, b.dense_range)) (on_entry child_cell) cell_step (cell_ones 256) (λ i. refl) (dense_child_emissions st.dense_levels 0 ks) (child_cells_of_slotted (slot_bits st) st.dense_levels ks) cur c

    exact_cells_started : Started cell_step (cell_ones 1) (dense_exact_emissions st.dense_levels 0 ks) cur
    exact_cells_started = dense_started (slot_bits st) ks (some st ks b) b.up st.dense_levels (omega (arith, b.dense_range)) (on_entry exact_cell) cell_step (cell_ones 1) (λ i. refl) (dense_exact_emissions st.dense_levels 0 ks) (exact_cells_of_slotted (slot_bits st) st.dense_levels ks) cur c

    -- DL: label bits set in the rows of node cursors, in bytes that were zero
    pub DL_filled : (o rest : Bytes) → IsBytes o → IsBytes rest
        → unpack o ≡ (write_all_bits cell_step (cell_ones 256) (dense_label_emissions st.dense_levels 0 ks) (bit_state (unpack (replicate (length (key_bodies st ks).DL) 0 ++ rest)) cur)).bits
        → o ≡ (key_bodies st ks).DL ++ rest
    DL_filled o rest p q e =
        let y = ap (λ (z : Bodies). z.DL) (bodies_are st ks b) in
        pass_filled cell_step (cell_ones 256) (dense_label_emissions st.dense_levels 0 ks) cur (DL_bits st ks b) w label_cells_below label_cells_started DL_ones _ (ap length y) o rest p q e ∙ ap (λ (z : Bytes). z ++ rest) (sym y)

    -- DL: there is room for what is set
    pub DL_room : Room cell_step (cell_ones 256) (256 * sums (node_counts ks) 0 st.dense_levels) (sums (node_counts ks) 0 st.dense_levels) (dense_label_emissions st.dense_levels 0 ks) cur
    DL_room = rw (length_DL_bits st ks b, dense_top (slot_bits st) ks (some st ks b) b.up st.dense_levels (omega (arith, b.dense_range)) (on_entry label_cell) cell_step (λ i. refl) (dense_label_emissions st.dense_levels 0 ks) (label_cells_of_slotted (slot_bits st) st.dense_levels ks)) at (pass_room cell_step (cell_ones 256) (dense_label_emissions st.dense_levels 0 ks) cur (DL_bits st ks b) w label_cells_below label_cells_started DL_ones)

    -- DC: the bits of labels that continue, set in the rows of node cursors, in bytes that were zero
    pub DC_filled : (o rest : Bytes) → IsBytes o → IsBytes rest
        → unpack o ≡ (write_all_bits cell_step (cell_ones 256) (dense_child_emissions st.dense_levels 0 ks) (bit_state (unpack (replicate (length (key_bodies st ks).DC) 0 ++ rest)) cur)).bits
        → o ≡ (key_bodies st ks).DC ++ rest
    DC_filled o rest p q e =
        let y = ap (λ (z : Bodies). z.DC) (bodies_are st ks b) in
        pass_filled cell_step (cell_ones 256) (dense_child_emissions st.dense_levels 0 ks) cur (DC_bits st ks b) w child_cells_below child_cells_started DC_ones _ (ap length y) o rest p q e ∙ ap (λ (z : Bytes). z ++ rest) (sym y)

    -- DC: there is room for what is set
    pub DC_room : Room cell_step (cell_ones 256) (256 * sums (node_counts ks) 0 st.dense_levels) (sums (node_counts ks) 0 st.dense_levels) (dense_child_emissions st.dense_levels 0 ks) cur
    DC_room = rw (length_DC_bits st ks b, dense_top (slot_bits st) ks (some st ks b) b.up st.dense_levels (omega (arith, b.dense_range)) (on_entry child_cell) cell_step (λ i. refl) (dense_child_emissions st.dense_levels 0 ks) (child_cells_of_slotted (slot_bits st) st.dense_levels ks)) at (pass_room cell_step (cell_ones 256) (dense_child_emissions st.dense_levels 0 ks) cur (DC_bits st ks b) w child_cells_below child_cells_started DC_ones)

    -- DP: the bits of exact leaves, set at node cursors, in bytes that were zero
    pub DP_filled : (o rest : Bytes) → IsBytes o → IsBytes rest
        → unpack o ≡ (write_all_bits cell_step (cell_ones 1) (dense_exact_emissions st.dense_levels 0 ks) (bit_state (unpack (replicate (length (key_bodies st ks).DP) 0 ++ rest)) cur)).bits
        → o ≡ (key_bodies st ks).DP ++ rest
    DP_filled o rest p q e =
        let y = ap (λ (z : Bodies). z.DP) (bodies_are st ks b) in
        pass_filled cell_step (cell_ones 1) (dense_exact_emissions st.dense_levels 0 ks) cur (DP_bits st ks b) w exact_cells_below exact_cells_started DP_ones _ (ap length y) o rest p q e ∙ ap (λ (z : Bytes). z ++ rest) (sym y)

    -- DP: there is room for what is set
    pub DP_room : Room cell_step (cell_ones 1) (sums (node_counts ks) 0 st.dense_levels) (sums (node_counts ks) 0 st.dense_levels) (dense_exact_emissions st.dense_levels 0 ks) cur
    DP_room = rw (length_DP_bits st ks b, dense_top (slot_bits st) ks (some st ks b) b.up st.dense_levels (omega (arith, b.dense_range)) (on_entry exact_cell) cell_step (λ i. refl) (dense_exact_emissions st.dense_levels 0 ks) (exact_cells_of_slotted (slot_bits st) st.dense_levels ks)) at (pass_room cell_step (cell_ones 1) (dense_exact_emissions st.dense_levels 0 ks) cur (DP_bits st ks b) w exact_cells_below exact_cells_started DP_ones)
