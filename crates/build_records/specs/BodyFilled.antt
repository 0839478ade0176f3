-- What a pass leaves in bytes that were zero is the body of document 01, or its bits flipped. Used by the function that fills a body.
use Rattle.std.specs.Prelude.{ℕ, ◌*◌, ◌≤◌, ◌≡◌, refl, Bool, true, false, not, List, ◌++◌, map, length, drop, replicate}
use Rattle.std.proofs.Common.{sym, ap, ◌∙◌, true≢false, arith, length-append, drop_at}
use Rattle.std.proofs.lemmas.List.{length-replicate}
use Rattle.spec.specs.Bytes.{Bytes, blocks, pack, unpack}
use Rattle.spec.specs.Image.{Settings, slot_width, Bodies}
use Rattle.theory.proofs.BuildLaws.{BuiltFrom}
use Rattle.theory.specs.Terms.{IsBytes}
use Rattle.build_laws.specs.SlotWidths.{slot_bits}
use Rattle.build_laws.specs.Emissions.{Emission}
use Rattle.build_laws.specs.BitPass.{bit_state, write_all_bits, Room}
use Rattle.build_laws.specs.BytePass.{ByteState, byte_state, put_bytes, one_step}
use Rattle.build_laws.specs.DenseRows.{cell_step, cell_ones}
use Rattle.build_laws.specs.PassEmissions.{leaf_emissions, later_emissions, dense_label_emissions, dense_child_emissions, dense_exact_emissions, slot_emissions}
use Rattle.build_laws.specs.Cursors.{sums}
use Rattle.build_laws.specs.Counters.{entry_counts, CursorsAt}
use Rattle.build_passes.specs.FlippedBits.{flipped, flipped_pack}
use Rattle.build_laws.specs.Lengths.{length_SC, length_SB, length_SC_bits, length_SB_bits}
use Rattle.build_laws.specs.KeyBits.{key_bodies, bodies_are, SC_bits, SB_bits}
use Rattle.build_laws.specs.BodyLaws.{bit_at, slot_at}
use Rattle.build_laws.proofs.BodyLaws.{SC_filled, SB_filled, SV_filled, DL_filled, DC_filled, DP_filled, SL_filled}
use Rattle.build_laws.specs.declared.Kind.TheVariants.{DL, DC, DP, SL, SC, SB}
use Rattle.build_laws.specs.declared.Body.{Body}
use Rattle.build_laws.specs.declared.Body.TheVariants.{Entries, Slots}
use Rattle.build_laws.specs.Passes.{all_entries, set_all, write_keys}
use Rattle.build_records.specs.BodyChoice.{body_of, counters_of, level_range}
use Rattle.build_keys.specs.ByteLevel.{set_all_bits, labels_put, leaves_set, later_set, label_cells_set, child_cells_set, exact_cells_set}
use Rattle.build_records.specs.BodyRoom.{labels_map, leaves_map, later_map, label_cells_map, child_cells_map, exact_cells_map, room_SC, room_SB, room_SV, room_DL, room_DC, room_DP}
use Rattle.build_laws.specs.Limits.{counters, counter_max}

module _ (st : Settings) (ks : List Bytes) (b : BuiltFrom st ks) where
  -- what the pass of a body leaves: that body, or its bits flipped
  abbrev pub left_body : Body → Bytes
  left_body (Entries SC) = pack (map not (SC_bits st ks b))
  left_body (Entries SB) = pack (map not (SB_bits st ks b))
  left_body (Entries SL) = (key_bodies st ks).SL
  left_body (Entries DL) = (key_bodies st ks).DL
  left_body (Entries DC) = (key_bodies st ks).DC
  left_body (Entries DP) = (key_bodies st ks).DP
  left_body Slots = (key_bodies st ks).SV

module _ (st : Settings) (ks : List Bytes) (b : BuiltFrom st ks) (cur : List ℕ) (w : length cur ≡ counters) (rest o c' : Bytes) (p : IsBytes o) (q : IsBytes rest) where
  -- the bits that a pass over zeros leaves
  left_bits : {A : Type 0} (inc : A → ℕ) (ones-at : ℕ → A → List ℕ) (es : List (Emission A)) (m : ℕ) → Room inc ones-at (8 * length (replicate m 0 ++ rest)) counter_max es cur
      → byte_state o c' ≡ set_all inc ones-at es (byte_state (replicate m 0 ++ rest) cur) → unpack o ≡ (write_all_bits inc ones-at es (bit_state (unpack (replicate m 0 ++ rest)) cur)).bits
  left_bits inc ones-at es m r e = ap (λ (z : ByteState). unpack z.bytes) e ∙ set_all_bits inc ones-at counter_max es (byte_state (replicate m 0 ++ rest) cur) r

  behind_zeros : (m : ℕ) → drop m (replicate m 0 ++ rest) ≡ rest
  behind_zeros m = drop_at (replicate m 0) rest m (length-replicate m 0)

  size_ok : (m : ℕ) → m ≤ length (replicate m 0 ++ rest)
  size_ok m = omega (arith, length-append (replicate m 0) rest, length-replicate {A = ℕ} m 0)

  -- The pass of a body leaves just that, and what lies behind as it was.
  pub body_filled : (body : Body) → CursorsAt (counters_of body ks) (level_range body st.dense_levels).lo cur
      → byte_state o c' ≡ write_keys body (level_range body st.dense_levels).lo (level_range body st.dense_levels).hi (slot_bits st) 0 ks (byte_state (replicate (length (body_of body (key_bodies st ks))) 0 ++ rest) cur)
      → o ≡ left_body st ks b body ++ rest
  body_filled (Entries SL) c e =
      let m : ℕ = length (key_bodies st ks).SL in
      SL_filled st ks b cur (replicate m 0 ++ rest) o w c (size_ok m)
      (ap (λ (z : ByteState). z.bytes) (e ∙ labels_put (all_entries st.dense_levels 64 0 ks) (byte_state (replicate m 0 ++ rest) cur) ∙ ap (λ es. put_bytes es (byte_state (replicate m 0 ++ rest) cur)) (sym (labels_map st.dense_levels ks))))
      ∙ ap (λ (z : Bytes). (key_bodies st ks).SL ++ z) (behind_zeros m)
  body_filled (Entries SC) c e =
      let m : ℕ = length (key_bodies st ks).SC in
      let z : ByteState = byte_state (replicate m 0 ++ rest) cur in
      SC_filled st ks b cur w c o rest p q
      (left_bits one_step bit_at (leaf_emissions st.dense_levels 0 ks) m (room_SC st ks b cur w (length (replicate m 0 ++ rest)) c (size_ok m)) (e ∙ leaves_set (all_entries st.dense_levels 64 0 ks) z ∙ ap (λ es. set_all one_step bit_at es z) (sym (leaves_map st.dense_levels ks))))
  body_filled (Entries SB) c e =
      let m : ℕ = length (key_bodies st ks).SB in
      let z : ByteState = byte_state (replicate m 0 ++ rest) cur in
      SB_filled st ks b cur w c o rest p q
      (left_bits one_step bit_at (later_emissions st.dense_levels 0 ks) m (room_SB st ks b cur w (length (replicate m 0 ++ rest)) c (size_ok m)) (e ∙ later_set (all_entries st.dense_levels 64 0 ks) z ∙ ap (λ es. set_all one_step bit_at es z) (sym (later_map st.dense_levels ks))))
  body_filled (Entries DL) c e =
      let m : ℕ = length (key_bodies st ks).DL in
      let z : ByteState = byte_state (replicate m 0 ++ rest) cur in
      DL_filled st ks b cur w c o rest p q
      (left_bits cell_step (cell_ones 256) (dense_label_emissions st.dense_levels 0 ks) m (room_DL st ks b cur w (length (replicate m 0 ++ rest)) c (size_ok m)) (e ∙ label_cells_set (all_entries 0 st.dense_levels 0 ks) z ∙ ap (λ es. set_all cell_step (cell_ones 256) es z) (sym (label_cells_map st.dense_levels ks))))
  body_filled (Entries DC) c e =
      let m : ℕ = length (key_bodies st ks).DC in
      let z : ByteState = byte_state (replicate m 0 ++ rest) cur in
      DC_filled st ks b cur w c o rest p q
      (left_bits cell_step (cell_ones 256) (dense_child_emissions st.dense_levels 0 ks) m (room_DC st ks b cur w (length (replicate m 0 ++ rest)) c (size_ok m)) (e ∙ child_cells_set (all_entries 0 st.dense_levels 0 ks) z ∙ ap (λ es. set_all cell_step (cell_ones 256) es z) (sym (child_cells_map st.dense_levels ks))))
  body_filled (Entries DP) c e =
      let m : ℕ = length (key_bodies st ks).DP in
      let z : ByteState = byte_state (replicate m 0 ++ rest) cur in
      DP_filled st ks b cur w c o rest p q
      (left_bits cell_step (cell_ones 1) (dense_exact_emissions st.dense_levels 0 ks) m (room_DP st ks b cur w (length (replicate m 0 ++ rest)) c (size_ok m)) (e ∙ exact_cells_set (all_entries 0 st.dense_levels 0 ks) z ∙ ap (λ es. set_all cell_step (cell_ones 1) es z) (sym (exact_cells_map st.dense_levels ks))))
  body_filled Slots c e =
      let m : ℕ = length (key_bodies st ks).SV in
      SV_filled st ks b cur w c o rest p q (left_bits one_step (slot_at (slot_width st)) (slot_emissions (slot_bits st) 0 ks) m (room_SV st ks b cur w (length (replicate m 0 ++ rest)) c (size_ok m)) e)

-- whether a body is left with its bits flipped
abbrev pub left_flipped : Body → Bool
left_flipped (Entries DL) = false
left_flipped (Entries DC) = false
left_flipped (Entries DP) = false
left_flipped (Entries SL) = false
left_flipped (Entries SC) = true
left_flipped (Entries SB) = true
left_flipped Slots = false

module _ (st : Settings) (ks : List Bytes) (b : BuiltFrom st ks) where
  -- such a body has room for a bit of each entry
  pub flipped_fits : (body : Body) (n : ℕ) → n ≡ sums (entry_counts ks) st.dense_levels 64 → left_flipped body ≡ true → n ≤ 8 * length (body_of body (key_bodies st ks))
  flipped_fits (Entries SC) n m f = omega (arith, length_SC st ks b)
  flipped_fits (Entries SB) n m f = omega (arith, length_SB st ks b)
  flipped_fits (Entries SL) n m f = absurd (true≢false (sym f))
  flipped_fits (Entries DL) n m f = absurd (true≢false (sym f))
  flipped_fits (Entries DC) n m f = absurd (true≢false (sym f))
  flipped_fits (Entries DP) n m f = absurd (true≢false (sym f))
  flipped_fits Slots n m f = absurd (true≢false (sym f))

  -- such a body, its bits flipped again, is the body
  pub flipped_again : (rest : Bytes) (body : Body) (n : ℕ) (o : Bytes) → n ≡ sums (entry_counts ks) st.dense_levels 64 → left_flipped body ≡ true → o ≡ flipped (blocks 8 n) n (left_body st ks b body ++ rest) → o ≡ body_of body (key_bodies st ks) ++ rest
  flipped_again rest (Entries SC) n o m f e = e ∙ flipped_pack n (SC_bits st ks b) rest (m ∙ sym (length_SC_bits st ks b)) ∙ ap (λ (z : Bodies). z.SC ++ rest) (sym (bodies_are st ks b))
  flipped_again rest (Entries SB) n o m f e = e ∙ flipped_pack n (SB_bits st ks b) rest (m ∙ sym (length_SB_bits st ks b)) ∙ ap (λ (z : Bodies). z.SB ++ rest) (sym (bodies_are st ks b))
  flipped_again rest (Entries SL) n o m f e = absurd (true≢false (sym f))
  flipped_again rest (Entries DL) n o m f e = absurd (true≢false (sym f))
  flipped_again rest (Entries DC) n o m f e = absurd (true≢false (sym f))
  flipped_again rest (Entries DP) n o m f e = absurd (true≢false (sym f))
  flipped_again rest Slots n o m f e = absurd (true≢false (sym f))

  -- any other is the body
  pub left_whole : (body : Body) → left_flipped body ≡ false → left_body st ks b body ≡ body_of body (key_bodies st ks)
  left_whole (Entries SC) f = absurd (true≢false f)
  left_whole (Entries SB) f = absurd (true≢false f)
  left_whole (Entries SL) f = refl
  left_whole (Entries DL) f = refl
  left_whole (Entries DC) f = refl
  left_whole (Entries DP) f = refl
  left_whole Slots f = refl
