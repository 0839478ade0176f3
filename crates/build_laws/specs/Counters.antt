-- The counting pass: entries, nodes and leaves of each level, the offsets of the levels, and the totals. Used by the laws of the bodies and by the builder.
use Rattle.std.specs.Prelude.{ℕ, zero, suc, ◌+◌, ◌-◌, ◌<◌, ◌≤◌, ◌≡◌, refl, Bool, true, false, ◌⊎◌, length, get_or, replicate, ltb}
use Rattle.std.proofs.Common.{sym, ap₂, ◌∙◌, inl, inr, arith, add-suc, add-zero, ltb-true, ltb-false}
use Rattle.std.proofs.Math.Path.{ap}
use mathlib.Core.List.{List, [], ◌∷◌, map}
use Rattle.std.proofs.lemmas.List.{get_or-replicate, length-replicate}
use Rattle.spec.specs.Bytes.{Bytes, bit}
use Rattle.spec.specs.Leaves.{leaves}
use Rattle.theory.specs.Terms.{Ascending}
use Rattle.build_laws.specs.SlotWidths.{no_bits}
use Rattle.build_laws.specs.TrieEntries.{Slotted, slotted_between}
use Rattle.theory.proofs.Neighbours.{Nonempty, next_shared}
use Rattle.build_laws.specs.Emissions.{Emission, level_values, values_below, map_emissions, level_map}
use Rattle.build_laws.specs.KeyEntries.{slotted_emissions, level_emitted, values_emitted, slotted_low, slotted_high}
use Rattle.build_laws.specs.Cursors.{sum_of, counts, level_offset, sums, counts_at, offset_sum, offset_sums}
use Rattle.build_laws.specs.BitPass.{Started}
use Rattle.build_laws.specs.BytePass.{one_step, sum_length}
use Rattle.build_laws.specs.NodeBodies.{node_step}
use Rattle.build_laws.specs.PassEmissions.{start_emissions, slot_emissions, start_of_slotted, values_map}
use Rattle.build_laws.specs.Limits.{counters}
use Rattle.build_laws.specs.declared.SlotBits.{SlotBits}

-- the entries of each level
unfoldable pub entry_counts : List Bytes → List ℕ
unfolding counts start_emissions
entry_counts ks = counts one_step (start_emissions 0 0 ks) (replicate counters 0)

-- the nodes of each level
unfoldable pub node_counts : List Bytes → List ℕ
unfolding counts start_emissions
node_counts ks = counts bit (start_emissions 0 0 ks) (replicate counters 0)

-- the leaves of each level
unfoldable pub leaf_counts : List Bytes → List ℕ
unfolding counts slot_emissions
leaf_counts ks = counts one_step (slot_emissions no_bits 0 ks) (replicate counters 0)

-- each level's cursor stands behind the counted of the levels from lo
abbrev pub CursorsAt : List ℕ → ℕ → List ℕ → Type 0
CursorsAt c lo cur = (d : ℕ) → d < counters → get_or cur d 0 ≡ sums c lo d

-- ---- sums

sum_map : {A B : Type 0} (f : A → B) (inc : B → ℕ) (step : A → ℕ) → ((x : A) → inc (f x) ≡ step x) → (xs : List A) → sum_of inc (map f xs) ≡ sum_of step xs
unfolding sum_of
sum_map f inc step h [] = refl
sum_map f inc step h (x ∷ xs) = ap₂ ◌+◌ (h x) (sum_map f inc step h xs)

-- every counter is zero at first
pub zeros_at : (d : ℕ) → d < counters → ◌≡◌ {A = ℕ} (get_or (replicate counters 0) d 0) 0
zeros_at d h = get_or-replicate counters d 0 0 h

counted : {A : Type 0} (inc : A → ℕ) (es : List (Emission A)) (d : ℕ) → d < 64 → get_or (counts inc es (replicate counters 0)) d 0 ≡ sum_of inc (level_values d es)
counted inc es d h = counts_at inc es (replicate counters 0) d (omega (arith, length-replicate {A = ℕ} counters 0)) ∙ omega (arith, zeros_at d (omega arith))

-- levels with no value do not move the offset
offset_still : {A : Type 0} (inc : A → ℕ) (es : List (Emission A)) (hi : ℕ) → ((d : ℕ) → hi ≤ d → level_values d es ≡ []) → (k : ℕ) → level_offset inc es (hi + k) ≡ level_offset inc es hi
unfolding level_offset sum_of
offset_still inc es hi h zero = ap (level_offset inc es) (add-zero hi)
offset_still inc es hi h (suc k) = ap (level_offset inc es) (add-suc hi k) ∙ ap₂ ◌+◌ (offset_still inc es hi h k) (ap (sum_of inc) (h (hi + k) (omega arith))) ∙ add-zero (level_offset inc es hi)

-- ---- by counters of all levels

module _ (w : SlotBits) (ks : List Bytes) (s : Nonempty ks) (a : Ascending ks) where
  same_level : (lo hi d : ℕ) → lo ≤ d → d < hi → d < 64 → level_values d (slotted_emissions lo hi w ks) ≡ level_values d (slotted_emissions 0 64 w ks)
  same_level lo hi d h g l = level_emitted w lo hi d ks h g s a ∙ sym (level_emitted w 0 64 d ks (omega arith) l s a)

  -- counters of what the entries of each level step
  abbrev Counts : (Slotted → ℕ) → List ℕ → Type 0
  Counts step c = (d : ℕ) → d < 64 → get_or c d 0 ≡ sum_of step (level_values d (slotted_emissions 0 64 w ks))

  entries_counted : Counts one_step (entry_counts ks)
  unfolding entry_counts
  entries_counted d h = counted one_step (start_emissions 0 0 ks) d h ∙ ap (λ (es : List (Emission Bool)). sum_of one_step (level_values d es)) (start_of_slotted w 0 ks)
      ∙ ap (sum_of one_step) (level_map (λ (i : Slotted). i.entry.start) d (slotted_emissions 0 64 w ks)) ∙ sum_map (λ (i : Slotted). i.entry.start) one_step one_step (λ i. refl) (level_values d (slotted_emissions 0 64 w ks))

  nodes_counted : Counts node_step (node_counts ks)
  unfolding node_counts
  nodes_counted d h = counted bit (start_emissions 0 0 ks) d h ∙ ap (λ (es : List (Emission Bool)). sum_of bit (level_values d es)) (start_of_slotted w 0 ks)
      ∙ ap (sum_of bit) (level_map (λ (i : Slotted). i.entry.start) d (slotted_emissions 0 64 w ks)) ∙ sum_map (λ (i : Slotted). i.entry.start) bit node_step (λ i. refl) (level_values d (slotted_emissions 0 64 w ks))

  module _ (step : Slotted → ℕ) (c : List ℕ) (k : Counts step c) (lo hi : ℕ) (h : lo ≤ hi) (g : hi ≤ 64) where
    offset_slotted : (d : ℕ) → d ≤ hi → level_offset step (slotted_emissions lo hi w ks) d ≡ sums c lo d
    offset_slotted = offset_sums step (slotted_emissions lo hi w ks) c lo hi (λ d l. slotted_low w lo hi d ks l) (λ d l r. k d (omega arith) ∙ ap (sum_of step) (sym (same_level lo hi d l r (omega arith))))

    -- the total of the levels from lo to below hi
    total_slotted : sum_of step (slotted_between lo (hi - lo) (leaves w.hash_width w.real_width ks)) ≡ sums c lo hi
    total_slotted =
        let u : hi + (64 - hi) ≡ 64 = omega arith in
        ap (sum_of step) (sym (values_emitted w lo hi ks h g s a)) ∙ offset_sum step (slotted_emissions lo hi w ks) 64
        ∙ ap (level_offset step (slotted_emissions lo hi w ks)) (sym u) ∙ offset_still step (slotted_emissions lo hi w ks) hi (λ d l. slotted_high w lo hi d ks l) (64 - hi) ∙ offset_slotted hi (omega arith)

    -- where the levels of a function of the entries start
    offset_mapped : {B : Type 0} (f : Slotted → B) (inc : B → ℕ) → ((i : Slotted) → inc (f i) ≡ step i) → (es : List (Emission B)) → es ≡ map_emissions f (slotted_emissions lo hi w ks) → (d : ℕ) → d ≤ hi → level_offset inc es d ≡ sums c lo d
    offset_mapped f inc q es e d l = ap (λ (z : List (Emission _)). level_offset inc z d) e ∙ mapped d ∙ offset_slotted d l
      where
        mapped : (d : ℕ) → level_offset inc (map_emissions f (slotted_emissions lo hi w ks)) d ≡ level_offset step (slotted_emissions lo hi w ks) d
        mapped d =
            sym (offset_sum inc (map_emissions f (slotted_emissions lo hi w ks)) d) ∙ ap (sum_of inc) (values_map f (slotted_emissions lo hi w ks) d)
            ∙ sum_map f inc step q (values_below (slotted_emissions lo hi w ks) d) ∙ offset_sum step (slotted_emissions lo hi w ks) d

    -- the cursors of such a pass stand at its levels' starts
    started_mapped : {B : Type 0} (f : Slotted → B) (inc : B → ℕ) (ones-at : ℕ → B → List ℕ) → ((i : Slotted) → inc (f i) ≡ step i) → (es : List (Emission B)) → es ≡ map_emissions f (slotted_emissions lo hi w ks) → (cur : List ℕ) → CursorsAt c lo cur → Started inc ones-at es cur
    started_mapped {B} f inc ones-at q es e cur u d l = go (ltb d hi) refl
      where
        go : (b : Bool) → ltb d hi ≡ b → (level_values d es ≡ []) ⊎ (get_or cur d 0 ≡ level_offset inc es d)
        go true z = let y : d < hi = ltb-true d hi z in inr (u d (omega arith) ∙ sym (offset_mapped f inc q es e d (omega arith)))
        go false z = inl (ap (λ (xs : List (Emission B)). level_values d xs) e ∙ level_map f d (slotted_emissions lo hi w ks) ∙ ap (map f) (slotted_high w lo hi d ks (ltb-false d hi z)))

  -- Where the sparse levels of entries start.
  pub sparse_starts_at : (lo : ℕ) → lo ≤ 64 → {B : Type 0} (f : Slotted → B) (es : List (Emission B)) → es ≡ map_emissions f (slotted_emissions lo 64 w ks) → (cur : List ℕ) → CursorsAt (entry_counts ks) lo cur
      → (d : ℕ) → d < 64 → get_or cur d 0 ≡ level_offset one_step es d
  sparse_starts_at lo h f es e cur u d l = u d (omega arith) ∙ sym (offset_mapped one_step (entry_counts ks) entries_counted lo 64 h (omega arith) f one_step (λ i. refl) es e d (omega arith))

  -- The node cursors stand at the starts of the dense levels.
  pub dense_started : (hi : ℕ) → hi ≤ 64 → {B : Type 0} (f : Slotted → B) (inc : B → ℕ) (ones-at : ℕ → B → List ℕ) → ((i : Slotted) → inc (f i) ≡ node_step i) → (es : List (Emission B)) → es ≡ map_emissions f (slotted_emissions 0 hi w ks)
      → (cur : List ℕ) → CursorsAt (node_counts ks) 0 cur → Started inc ones-at es cur
  dense_started hi h f inc ones-at q es e cur u = started_mapped node_step (node_counts ks) nodes_counted 0 hi (omega arith) h f inc ones-at q es e cur u

  -- Where the sparse entries end.
  pub sparse_top : (lo : ℕ) → lo ≤ 64 → {B : Type 0} (f : Slotted → B) (es : List (Emission B)) → es ≡ map_emissions f (slotted_emissions lo 64 w ks) → level_offset one_step es 64 ≡ sums (entry_counts ks) lo 64
  sparse_top lo h f es e = offset_mapped one_step (entry_counts ks) entries_counted lo 64 h (omega arith) f one_step (λ i. refl) es e 64 (omega arith)

  -- Where the dense nodes end.
  pub dense_top : (hi : ℕ) → hi ≤ 64 → {B : Type 0} (f : Slotted → B) (inc : B → ℕ) → ((i : Slotted) → inc (f i) ≡ node_step i) → (es : List (Emission B)) → es ≡ map_emissions f (slotted_emissions 0 hi w ks) → level_offset inc es 64 ≡ sums (node_counts ks) 0 hi
  dense_top hi h {B} f inc q es e =
      let u : 64 ≡ hi + (64 - hi) = omega arith in
      ap (level_offset inc es) u
      ∙ offset_still inc es hi (λ d l. ap (λ (xs : List (Emission B)). level_values d xs) e ∙ level_map f d (slotted_emissions 0 hi w ks) ∙ ap (map f) (slotted_high w 0 hi d ks l)) (64 - hi)
      ∙ offset_mapped node_step (node_counts ks) nodes_counted 0 hi (omega arith) h f inc q es e hi (omega arith)

  -- so many entries on the levels from lo
  pub entries_total : (lo : ℕ) → lo ≤ 64 → length (slotted_between lo (64 - lo) (leaves w.hash_width w.real_width ks)) ≡ sums (entry_counts ks) lo 64
  entries_total lo h = sym (sum_length (slotted_between lo (64 - lo) (leaves w.hash_width w.real_width ks))) ∙ total_slotted one_step (entry_counts ks) entries_counted lo 64 h (omega arith)

  -- so many nodes on the levels from lo to below hi
  pub nodes_total : (lo hi : ℕ) → lo ≤ hi → hi ≤ 64 → sum_of node_step (slotted_between lo (hi - lo) (leaves w.hash_width w.real_width ks)) ≡ sums (node_counts ks) lo hi
  nodes_total lo hi h g = total_slotted node_step (node_counts ks) nodes_counted lo hi h g

-- ---- leaves

same_counts : (w v : SlotBits) (p : ℕ) (ks : List Bytes) (c : List ℕ) → counts one_step (slot_emissions w p ks) c ≡ counts one_step (slot_emissions v p ks) c
unfolding counts slot_emissions
same_counts w v p [] c = refl
same_counts w v p (k ∷ ks) c = same_counts w v (suc (next_shared k ks)) ks _

leaves_counted : (w : SlotBits) (ks : List Bytes) (d : ℕ) → d < 64 → get_or (leaf_counts ks) d 0 ≡ sum_of one_step (level_values d (slot_emissions w 0 ks))
unfolding leaf_counts
leaves_counted w ks d h = ap (λ (c : List ℕ). get_or c d 0) (same_counts no_bits w 0 ks (replicate counters 0)) ∙ counted one_step (slot_emissions w 0 ks) d h

-- The leaf cursors stand at the offsets of the levels of leaves.
pub leaf_starts_at : (w : SlotBits) (ks : List Bytes) (cur : List ℕ) → CursorsAt (leaf_counts ks) 0 cur → (d : ℕ) → d < 64 → get_or cur d 0 ≡ level_offset one_step (slot_emissions w 0 ks) d
leaf_starts_at w ks cur u d l =
    u d (omega arith) ∙ sym (offset_sums one_step (slot_emissions w 0 ks) (leaf_counts ks) 0 64 (λ e h. absurd (omega arith)) (λ e h g. leaves_counted w ks e g) d (omega arith))
