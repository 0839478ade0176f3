-- The counters of the counting pass stay small: there is room in them for every key list, and for the sums of the levels. Used by the counting pass and by the level offsets.
use Rattle.std.specs.Prelude.{ℕ, zero, suc, ◌+◌, ◌*◌, ◌<◌, ◌≤◌, ◌≡◌, Bool, cond, length, set, replicate, leb}
use Rattle.std.proofs.Math.Path.{refl}
use Rattle.std.proofs.Common.{sym, ap, ◌∙◌, true≢false, inr, arith, suc-mul, get_or-set_other}
use Rattle.std.proofs.Math.Bool.{true, false}
use mathlib.Core.List.{List, [], ◌∷◌}
use Rattle.std.proofs.Math.ListN.{get_or}
use Rattle.std.proofs.lemmas.List.{length-replicate}
use Rattle.std.proofs.Math.Seq.{set_out, get_or-set_same}
use Rattle.std.proofs.Math.Dec.{ltb, eqb}
use borrow.Author.Tests.{eqb-true, eqb-false, ltb-true, ltb-false}
use Rattle.spec.specs.Bytes.{Bytes, bit}
use Rattle.spec.specs.Image.{has}
use Rattle.theory.specs.Terms.{Ascending, Keys}
use Rattle.theory.proofs.Neighbours.{next_shared}
use Rattle.build_laws.specs.SlotWidths.{no_bits}
use Rattle.build_laws.specs.Emissions.{Emission, emission, level_values, LevelsBelow}
use Rattle.build_laws.specs.Cursors.{sum_of, counts, counts_at, sums}
use Rattle.build_laws.specs.SetBits.{has_nil}
use Rattle.build_laws.specs.BitPass.{Room, room_of, emitted_ones}
use Rattle.build_laws.specs.BytePass.{one_step, sum_length}
use Rattle.build_laws.specs.PassEmissions.{start_emissions, slot_emissions, emissions_below, first_longer, slots_below}
use Rattle.build_keys.specs.SmallCounters.{keys_few}
use Rattle.build_laws.specs.Counters.{zeros_at, entry_counts, node_counts, leaf_counts}
use Rattle.build_laws.specs.Limits.{counters}
use Rattle.build_laws.specs.declared.SlotBits.{SlotBits}

-- a counter writes nothing
abbrev pub no_ones : {A : Type 0} → ℕ → A → List ℕ
no_ones c x = []

module _ {A : Type 0} (inc : A → ℕ) where
  none_emitted : (es : List (Emission A)) (c : List ℕ) (j : ℕ) → has (emitted_ones inc no_ones es c) j ≡ false
  unfolding emitted_ones
  none_emitted [] c j = has_nil j
  none_emitted (emission d x ∷ es) c j = none_emitted es (set c d (get_or c d 0 + inc x)) j

  -- Counters from zero have room for emissions whose increments on each level sum up to at most top.
  pub counter_room : (top : ℕ) (es : List (Emission A)) → LevelsBelow 64 es → ((d : ℕ) → sum_of inc (level_values d es) ≤ top) → Room inc no_ones 0 top es (replicate counters 0)
  counter_room top es l f =
      room_of inc no_ones 0 top es (replicate counters 0) (omega (arith, length-replicate {A = ℕ} counters 0)) l (λ d h. inr (omega (arith, f d, zeros_at d (omega arith))))
      (λ j h. absurd (true≢false (sym h ∙ none_emitted es (replicate counters 0) j)))

  -- no counter passes top, before and behind emissions for which there is room
  pub room_within : (top : ℕ) (es : List (Emission A)) (c : List ℕ) → Room inc no_ones 0 top es c → ((d : ℕ) → get_or c d 0 ≤ top) → (d : ℕ) → get_or (counts inc es c) d 0 ≤ top
  unfolding counts
  room_within top [] c r f d = f d
  room_within top (emission e x ∷ es) c r f d = room_within top es (set c e (get_or c e 0 + inc x)) r.3 more d
    where
      more : (d : ℕ) → get_or (set c e (get_or c e 0 + inc x)) d 0 ≤ top
      more d = go (eqb d e) refl (ltb e (length c)) refl
        where
          go : (b : Bool) → eqb d e ≡ b → (y : Bool) → ltb e (length c) ≡ y → get_or (set c e (get_or c e 0 + inc x)) d 0 ≤ top
          go true q true y = let w : d ≡ e = eqb-true d e q in rw (w, get_or-set_same c e (get_or c e 0 + inc x) 0 (ltb-true e (length c) y)) r.1
          go true q false y = rw (set_out c e (get_or c e 0 + inc x) (ltb-false e (length c) y)) (f d)
          go false q y h = let w : d ≡ e → ⊥ = eqb-false d e q in rw (get_or-set_other c e d (get_or c e 0 + inc x) 0 w) (f d)

-- ---- how many on a level

bits_few : (xs : List Bool) → sum_of bit xs ≤ length xs
unfolding sum_of
bits_few [] = omega arith
bits_few (true ∷ xs) = omega (arith, bits_few xs)
bits_few (false ∷ xs) = omega (arith, bits_few xs)

level_few : {A : Type 0} (d : ℕ) (es : List (Emission A)) → length (level_values d es) ≤ length es
unfolding level_values
level_few d [] = omega arith
level_few {A} d (emission e x ∷ es) = go (eqb d e) (level_few d es)
  where
    go : (b : Bool) → length (level_values d es) ≤ length es → length (cond b (x ∷ level_values d es) (level_values d es)) ≤ suc (length es)
    go true ih = omega arith
    go false ih = omega arith

length_slots : (w : SlotBits) (p : ℕ) (ks : List Bytes) → length (slot_emissions w p ks) ≡ length ks
unfolding slot_emissions
length_slots w p [] = refl
length_slots w p (k ∷ ks) = ap suc (length_slots w (suc (next_shared k ks)) ks)

starts_few : (ks : List Bytes) (d : ℕ) → length (level_values d (start_emissions 0 0 ks)) ≤ 2 * length ks
unfolding start_emissions
starts_few ks d = keys_few 0 64 (λ p q k d. leb p d) true 0 ks d

starts_below : (ks : List Bytes) → Keys ks → Ascending ks → LevelsBelow 64 (start_emissions 0 0 ks)
unfolding start_emissions
starts_below ks s a = emissions_below 0 64 (λ p q k d. leb p d) true 0 ks (first_longer ks s) s a

-- ---- room

-- The counters of entries and leaves have room for a list of keys, none of them above top.
pub record CountersRoom (top : ℕ) (ks : List Bytes) : Type 0 where
  pub entries : Room one_step no_ones 0 top (start_emissions 0 0 ks) (replicate counters 0)
  pub leaves : Room one_step no_ones 0 top (slot_emissions no_bits 0 ks) (replicate counters 0)

-- for any list of at most 65,535 keys
pub counters_room : (top : ℕ) (ks : List Bytes) → 131070 ≤ top → Keys ks → Ascending ks → length ks ≤ 65535 → CountersRoom top ks
counters_room top ks t s a h = record {
  entries = counter_room one_step top (start_emissions 0 0 ks) (starts_below ks s a) (λ d. omega (arith, sum_length (level_values d (start_emissions 0 0 ks)), starts_few ks d));
  leaves = counter_room one_step top (slot_emissions no_bits 0 ks) (slots_below no_bits 0 ks (first_longer ks s) s a)
      (λ d. omega (arith, sum_length (level_values d (slot_emissions no_bits 0 ks)), level_few d (slot_emissions no_bits 0 ks), length_slots no_bits 0 ks));
}

-- ---- sums

counter_few : {A : Type 0} (inc : A → ℕ) (es : List (Emission A)) (top d : ℕ) → sum_of inc (level_values d es) ≤ top → d < counters → get_or (counts inc es (replicate counters 0)) d 0 ≤ top
counter_few inc es top d f h = omega (arith, counts_at inc es (replicate counters 0) d (omega (arith, length-replicate {A = ℕ} counters 0)), f, zeros_at d h)

module _ (ks : List Bytes) (h : length ks ≤ 65535) where
  -- no level has more entries
  pub entry_counts_few : (d : ℕ) → d < counters → get_or (entry_counts ks) d 0 ≤ 131070
  unfolding entry_counts
  entry_counts_few d l = counter_few one_step (start_emissions 0 0 ks) 131070 d (omega (arith, sum_length (level_values d (start_emissions 0 0 ks)), starts_few ks d)) l

  -- nor more nodes
  pub node_counts_few : (d : ℕ) → d < counters → get_or (node_counts ks) d 0 ≤ 131070
  unfolding node_counts
  node_counts_few d l = counter_few bit (start_emissions 0 0 ks) 131070 d (omega (arith, bits_few (level_values d (start_emissions 0 0 ks)), starts_few ks d)) l

  -- nor more leaves
  pub leaf_counts_few : (d : ℕ) → d < counters → get_or (leaf_counts ks) d 0 ≤ 131070
  unfolding leaf_counts
  leaf_counts_few d l = counter_few one_step (slot_emissions no_bits 0 ks) 131070 d (omega (arith, sum_length (level_values d (slot_emissions no_bits 0 ks)), level_few d (slot_emissions no_bits 0 ks), length_slots no_bits 0 ks)) l

cond_few : (b : Bool) (x top : ℕ) → x ≤ top → cond b x 0 ≤ top
cond_few true x top h = h
cond_few false x top h = omega arith

-- the sums of such counters stay small
pub sums_few : (c : List ℕ) (lo top : ℕ) → ((d : ℕ) → d < counters → get_or c d 0 ≤ top) → (d : ℕ) → d ≤ counters → sums c lo d ≤ d * top
unfolding sums
sums_few c lo top f zero h = omega arith
sums_few c lo top f (suc d) h = omega (arith, sums_few c lo top f d (omega arith), cond_few (leb lo d) (get_or c d 0) top (f d (omega arith)), suc-mul d top)
