-- Room in a body for what its pass writes, by the number of its bytes. Used by the function that fills a body.
use Rattle.std.specs.Prelude.{ℕ, ◌+◌, ◌*◌, ◌<◌, ◌≤◌, ◌≡◌, List, [], ◌∷◌, length, get_or, set}
use Rattle.std.proofs.Math.Path.{sym}
use Rattle.std.proofs.Math.Bool.{not}
use Rattle.std.proofs.Common.{arith}
use Rattle.spec.specs.Bytes.{Bytes, blocks}
use Rattle.spec.specs.Image.{Settings, slot_width}
use Rattle.theory.proofs.BuildLaws.{BuiltFrom}
use Rattle.build_laws.specs.SlotWidths.{slot_bits}
use Rattle.build_laws.specs.Emissions.{Emission, emission, map_emissions, map_keys}
use Rattle.build_laws.specs.Cursors.{sums}
use Rattle.build_laws.specs.BitPass.{Room, PositionsBelow}
use Rattle.build_laws.specs.BytePass.{one_step, at_cursor}
use Rattle.build_laws.specs.DenseRows.{cell_step, cell_ones, label_cell, child_cell, exact_cell}
use Rattle.build_laws.specs.KeyEntries.{entry_at, exact_entry}
use Rattle.build_laws.specs.PassEmissions.{label_emissions, leaf_emissions, later_emissions, dense_label_emissions, dense_child_emissions, dense_exact_emissions, slot_emissions}
use Rattle.build_keys.specs.SmallCounters.{room_map}
use Rattle.build_laws.specs.Counters.{entry_counts, node_counts, leaf_counts, CursorsAt}
use Rattle.build_keys.specs.CounterRoom.{entry_counts_few, node_counts_few, leaf_counts_few, sums_few}
use Rattle.build_laws.specs.KeyBits.{key_bodies}
use Rattle.build_laws.specs.Lengths.{length_DL, length_DC, length_DP, length_SL, length_SC, length_SB, length_SV}
use Rattle.build_laws.specs.BodyLaws.{bit_at, slot_at}
use Rattle.build_laws.proofs.BodyLaws.{SC_room, SB_room, SV_room, DL_room, DC_room, DP_room, SL_room}
use Rattle.build_laws.specs.declared.Entry.{Entry}
use Rattle.build_laws.specs.declared.Kind.TheVariants.{DL, DC, DP, SL, SC, SB}
use Rattle.build_laws.specs.declared.Body.{Body}
use Rattle.build_laws.specs.declared.Body.TheVariants.{Entries, Slots}
use Rattle.build_laws.specs.Passes.{all_entries, KeysRoom}
use Rattle.build_records.specs.BodyChoice.{body_of, counters_of, level_range}
use Rattle.build_laws.specs.Limits.{counters, counter_max}

-- ---- more room

below_more : (n m : ℕ) (is : List ℕ) → n ≤ m → PositionsBelow n is → PositionsBelow m is
below_more n m [] h p = tt
below_more n m (i ∷ is) h p = (omega (arith, p.0), below_more n m is h p.1)

room_more : {A : Type 0} (inc : A → ℕ) (ones-at : ℕ → A → List ℕ) (n m top most : ℕ) (es : List (Emission A)) (c : List ℕ) → n ≤ m → top ≤ most → Room inc ones-at n top es c → Room inc ones-at m most es c
room_more inc ones-at n m top most [] c h l r = tt
room_more inc ones-at n m top most (emission d x ∷ es) c h l r =
    (r.0, omega (arith, r.1), below_more n m (ones-at (get_or c d 0) x) h r.2, room_more inc ones-at n m top most es (set c d (get_or c d 0 + inc x)) h l r.3)

-- ---- what keys emit is a function of their entries

module _ (lo : ℕ) (ks : List Bytes) where
  -- labels
  pub labels_map : label_emissions lo 0 ks ≡ map_emissions (λ (e : Entry). e.label) (all_entries lo 64 0 ks)
  unfolding label_emissions
  labels_map = sym (map_keys (λ (e : Entry). e.label) lo 64 entry_at exact_entry 0 ks)

  -- whether they are leaves
  pub leaves_map : leaf_emissions lo 0 ks ≡ map_emissions (λ (e : Entry). not e.child) (all_entries lo 64 0 ks)
  unfolding leaf_emissions
  leaves_map = sym (map_keys (λ (e : Entry). not e.child) lo 64 entry_at exact_entry 0 ks)

  -- whether they start no node
  pub later_map : later_emissions lo 0 ks ≡ map_emissions (λ (e : Entry). not e.start) (all_entries lo 64 0 ks)
  unfolding later_emissions
  later_map = sym (map_keys (λ (e : Entry). not e.start) lo 64 entry_at exact_entry 0 ks)

module _ (hi : ℕ) (ks : List Bytes) where
  -- label cells
  pub label_cells_map : dense_label_emissions hi 0 ks ≡ map_emissions label_cell (all_entries 0 hi 0 ks)
  unfolding dense_label_emissions
  label_cells_map = sym (map_keys label_cell 0 hi entry_at exact_entry 0 ks)

  -- child cells
  pub child_cells_map : dense_child_emissions hi 0 ks ≡ map_emissions child_cell (all_entries 0 hi 0 ks)
  unfolding dense_child_emissions
  child_cells_map = sym (map_keys child_cell 0 hi entry_at exact_entry 0 ks)

  -- exact cells
  pub exact_cells_map : dense_exact_emissions hi 0 ks ≡ map_emissions exact_cell (all_entries 0 hi 0 ks)
  unfolding dense_exact_emissions
  exact_cells_map = sym (map_keys exact_cell 0 hi entry_at exact_entry 0 ks)

-- ---- few enough

-- the counted of the levels from lo on
few_sums : (c : List ℕ) (lo d : ℕ) → ((e : ℕ) → e < counters → get_or c e 0 ≤ 131070) → d ≤ counters → sums c lo d ≤ counter_max
few_sums c lo d h l =
    let p : d * 131070 ≤ counters * 131070 = omega arith in
    omega (arith, sums_few c lo 131070 h d l)

-- No sum of a body's counters passes what the cursors may reach.
pub counters_few : (body : Body) (ks : List Bytes) (lo d : ℕ) → length ks ≤ 65535 → d ≤ counters → sums (counters_of body ks) lo d ≤ counter_max
counters_few (Entries DL) ks lo d h l = few_sums (node_counts ks) lo d (node_counts_few ks h) l
counters_few (Entries DC) ks lo d h l = few_sums (node_counts ks) lo d (node_counts_few ks h) l
counters_few (Entries DP) ks lo d h l = few_sums (node_counts ks) lo d (node_counts_few ks h) l
counters_few (Entries SL) ks lo d h l = few_sums (entry_counts ks) lo d (entry_counts_few ks h) l
counters_few (Entries SC) ks lo d h l = few_sums (entry_counts ks) lo d (entry_counts_few ks h) l
counters_few (Entries SB) ks lo d h l = few_sums (entry_counts ks) lo d (entry_counts_few ks h) l
counters_few Slots ks lo d h l = few_sums (leaf_counts ks) lo d (leaf_counts_few ks h) l

-- ---- room

-- a whole number of bytes holds the bits that it is begun by
eight : (n size : ℕ) → blocks 8 n ≤ size → n ≤ 8 * size
eight n size h = omega arith

module _ (st : Settings) (ks : List Bytes) (b : BuiltFrom st ks) (cur : List ℕ) (w : length cur ≡ counters) (size : ℕ) where
  -- S-Labels: room in so many bytes
  pub room_SL : CursorsAt (entry_counts ks) st.dense_levels cur → length (key_bodies st ks).SL ≤ size → Room one_step at_cursor size counter_max (label_emissions st.dense_levels 0 ks) cur
  room_SL c h = room_more one_step at_cursor _ size _ counter_max (label_emissions st.dense_levels 0 ks) cur (omega (arith, length_SL st ks b)) (counters_few (Entries SL) ks st.dense_levels 64 b.few (omega arith)) (SL_room st ks b cur w c)

  -- S-HasChild: room in so many bytes
  pub room_SC : CursorsAt (entry_counts ks) st.dense_levels cur → length (key_bodies st ks).SC ≤ size → Room one_step bit_at (8 * size) counter_max (leaf_emissions st.dense_levels 0 ks) cur
  room_SC c h = room_more one_step bit_at _ (8 * size) _ counter_max (leaf_emissions st.dense_levels 0 ks) cur (eight _ size (omega (arith, length_SC st ks b))) (counters_few (Entries SC) ks st.dense_levels 64 b.few (omega arith)) (SC_room st ks b cur w c)

  -- S-LOUDS: room in so many bytes
  pub room_SB : CursorsAt (entry_counts ks) st.dense_levels cur → length (key_bodies st ks).SB ≤ size → Room one_step bit_at (8 * size) counter_max (later_emissions st.dense_levels 0 ks) cur
  room_SB c h = room_more one_step bit_at _ (8 * size) _ counter_max (later_emissions st.dense_levels 0 ks) cur (eight _ size (omega (arith, length_SB st ks b))) (counters_few (Entries SB) ks st.dense_levels 64 b.few (omega arith)) (SB_room st ks b cur w c)

  -- D-Labels: room in so many bytes
  pub room_DL : CursorsAt (node_counts ks) 0 cur → length (key_bodies st ks).DL ≤ size → Room cell_step (cell_ones 256) (8 * size) counter_max (dense_label_emissions st.dense_levels 0 ks) cur
  room_DL c h = room_more cell_step (cell_ones 256) _ (8 * size) _ counter_max (dense_label_emissions st.dense_levels 0 ks) cur (omega (arith, length_DL st ks b)) (counters_few (Entries DL) ks 0 st.dense_levels b.few (omega (arith, b.dense_range))) (DL_room st ks b cur w c)

  -- D-HasChild: room in so many bytes
  pub room_DC : CursorsAt (node_counts ks) 0 cur → length (key_bodies st ks).DC ≤ size → Room cell_step (cell_ones 256) (8 * size) counter_max (dense_child_emissions st.dense_levels 0 ks) cur
  room_DC c h = room_more cell_step (cell_ones 256) _ (8 * size) _ counter_max (dense_child_emissions st.dense_levels 0 ks) cur (omega (arith, length_DC st ks b)) (counters_few (Entries DC) ks 0 st.dense_levels b.few (omega (arith, b.dense_range))) (DC_room st ks b cur w c)

  -- D-IsPrefixKey: room in so many bytes
  pub room_DP : CursorsAt (node_counts ks) 0 cur → length (key_bodies st ks).DP ≤ size → Room cell_step (cell_ones 1) (8 * size) counter_max (dense_exact_emissions st.dense_levels 0 ks) cur
  room_DP c h = room_more cell_step (cell_ones 1) _ (8 * size) _ counter_max (dense_exact_emissions st.dense_levels 0 ks) cur (eight _ size (omega (arith, length_DP st ks b))) (counters_few (Entries DP) ks 0 st.dense_levels b.few (omega (arith, b.dense_range))) (DP_room st ks b cur w c)

  -- the suffix slots: room in so many bytes
  pub room_SV : CursorsAt (leaf_counts ks) 0 cur → length (key_bodies st ks).SV ≤ size → Room one_step (slot_at (slot_width st)) (8 * size) counter_max (slot_emissions (slot_bits st) 0 ks) cur
  room_SV c h = room_more one_step (slot_at (slot_width st)) _ (8 * size) _ counter_max (slot_emissions (slot_bits st) 0 ks) cur (eight _ size (omega (arith, length_SV st ks b))) (omega (arith, b.few)) (SV_room st ks b cur w c)

  -- A body's bytes have room for what its pass writes.
  pub body_room : (body : Body) → CursorsAt (counters_of body ks) (level_range body st.dense_levels).lo cur → length (body_of body (key_bodies st ks)) ≤ size
      → KeysRoom body (level_range body st.dense_levels).lo (level_range body st.dense_levels).hi (slot_bits st) 0 ks size cur
  body_room (Entries SL) c h = room_map (λ (e : Entry). e.label) one_step at_cursor size counter_max (all_entries st.dense_levels 64 0 ks) cur (rw (labels_map st.dense_levels ks) at (room_SL c h))
  body_room (Entries SC) c h = room_map (λ (e : Entry). not e.child) one_step bit_at (8 * size) counter_max (all_entries st.dense_levels 64 0 ks) cur (rw (leaves_map st.dense_levels ks) at (room_SC c h))
  body_room (Entries SB) c h = room_map (λ (e : Entry). not e.start) one_step bit_at (8 * size) counter_max (all_entries st.dense_levels 64 0 ks) cur (rw (later_map st.dense_levels ks) at (room_SB c h))
  body_room (Entries DL) c h = room_map label_cell cell_step (cell_ones 256) (8 * size) counter_max (all_entries 0 st.dense_levels 0 ks) cur (rw (label_cells_map st.dense_levels ks) at (room_DL c h))
  body_room (Entries DC) c h = room_map child_cell cell_step (cell_ones 256) (8 * size) counter_max (all_entries 0 st.dense_levels 0 ks) cur (rw (child_cells_map st.dense_levels ks) at (room_DC c h))
  body_room (Entries DP) c h = room_map exact_cell cell_step (cell_ones 1) (8 * size) counter_max (all_entries 0 st.dense_levels 0 ks) cur (rw (exact_cells_map st.dense_levels ks) at (room_DP c h))
  body_room Slots c h = room_SV c h
