-- What the passes over the keys emit, a function of the key and of what it shares with its neighbours for each body; and that no level is 64 or above. Used by the laws of the bodies and by the builder.
use Rattle.std.specs.Prelude.{ℕ, zero, suc, ◌<◌, ◌≤◌, max, ◌≡◌, refl, Bool, true, false, cond, List, [], ◌∷◌, ◌++◌, map, length, get_or, replicate, leb, eqb}
use Rattle.std.proofs.Math.Path.{sym}
use Rattle.std.proofs.Common.{ap₂, ◌∙◌, arith, eqb-true}
use Rattle.std.proofs.Math.Bool.{not}
use Rattle.std.proofs.lemmas.List.{map-append}
use Rattle.std.proofs.lemmas.Bool.{eqb-false}
use Rattle.spec.specs.Bytes.{Bytes, Bits, shared}
use Rattle.spec.specs.Leaves.{suffix_bits}
use Rattle.theory.specs.Terms.{Ascending, Keys}
use Rattle.theory.proofs.Order.{shared_comm, above_short}
use Rattle.build_laws.specs.SlotWidths.{width_of}
use Rattle.build_laws.specs.LevelEntries.{pred}
use Rattle.build_laws.specs.TrieEntries.{Slotted}
use Rattle.theory.proofs.Neighbours.{next_shared, next_shared_le, Nonempty}
use Rattle.build_laws.specs.NeighbourLeaves.{cut_length, cut_le}
use Rattle.build_laws.specs.Emissions.{Emission, emission, level_values, values_below, LevelsBelow, map_emissions, key_emissions, emissions, below_append, key_below, map_keys, level_map}
use Rattle.build_laws.specs.KeyEntries.{continues_at, slotted_at, exact_slotted, slotted_emissions}
use Rattle.build_laws.specs.DenseRows.{cell, label_cell, child_cell, exact_cell, on_entry}
use Rattle.build_laws.specs.declared.Cell.{Cell}
use Rattle.build_laws.specs.declared.SlotBits.{SlotBits}

-- ---- sparse levels, from lo on

-- S-Labels: a key's label on each level, FF for an exact leaf
unfoldable pub label_emissions : ℕ → ℕ → List Bytes → List (Emission ℕ)
unfolding emissions
label_emissions lo p ks = emissions lo 64 (λ p q k d. get_or k d 0) 255 p ks

-- the zeros of S-HasChild: whether the branch does not continue; an exact leaf does not
unfoldable pub leaf_emissions : ℕ → ℕ → List Bytes → List (Emission Bool)
unfolding emissions
leaf_emissions lo p ks = emissions lo 64 (λ p q k d. not (continues_at p q (length k) d)) true p ks

-- the zeros of S-LOUDS: whether the key starts no node on the level; an exact leaf does
unfoldable pub later_emissions : ℕ → ℕ → List Bytes → List (Emission Bool)
unfolding emissions
later_emissions lo p ks = emissions lo 64 (λ p q k d. not (leb p d)) false p ks

-- whether the key starts a node on the level; an exact leaf does
unfoldable pub start_emissions : ℕ → ℕ → List Bytes → List (Emission Bool)
unfolding emissions
start_emissions lo p ks = emissions lo 64 (λ p q k d. leb p d) true p ks

-- ---- dense levels, below hi

-- D-Labels: the cell of a key's label on each level; an exact leaf starts a node and sets no bit
unfoldable pub dense_label_emissions : ℕ → ℕ → List Bytes → List (Emission Cell)
unfolding emissions
dense_label_emissions hi p ks = emissions 0 hi (λ p q k d. cell (leb p d) true (get_or k d 0)) (cell true false 255) p ks

-- D-HasChild: the cell of a label that continues
unfoldable pub dense_child_emissions : ℕ → ℕ → List Bytes → List (Emission Cell)
unfolding emissions
dense_child_emissions hi p ks = emissions 0 hi (λ p q k d. cell (leb p d) (continues_at p q (length k) d) (get_or k d 0)) (cell true false 255) p ks

-- D-IsPrefixKey: the cell of an exact leaf
unfoldable pub dense_exact_emissions : ℕ → ℕ → List Bytes → List (Emission Cell)
unfolding emissions
dense_exact_emissions hi p ks = emissions 0 hi (λ p q k d. cell (leb p d) false 0) (cell true true 0) p ks

-- ---- they are functions of the entries

module _ (w : SlotBits) (lo : ℕ) (ks : List Bytes) where
  -- the entries' labels
  pub label_of_slotted : label_emissions lo 0 ks ≡ map_emissions (λ (i : Slotted). i.entry.label) (slotted_emissions lo 64 w ks)
  unfolding label_emissions slotted_emissions
  label_of_slotted = sym (map_keys (λ (i : Slotted). i.entry.label) lo 64 (slotted_at w) (exact_slotted w) 0 ks)

  -- whether they are leaves
  pub leaf_of_slotted : leaf_emissions lo 0 ks ≡ map_emissions (λ (i : Slotted). not i.entry.child) (slotted_emissions lo 64 w ks)
  unfolding leaf_emissions slotted_emissions
  leaf_of_slotted = sym (map_keys (λ (i : Slotted). not i.entry.child) lo 64 (slotted_at w) (exact_slotted w) 0 ks)

  -- whether they start no node
  pub later_of_slotted : later_emissions lo 0 ks ≡ map_emissions (λ (i : Slotted). not i.entry.start) (slotted_emissions lo 64 w ks)
  unfolding later_emissions slotted_emissions
  later_of_slotted = sym (map_keys (λ (i : Slotted). not i.entry.start) lo 64 (slotted_at w) (exact_slotted w) 0 ks)

  -- whether they start a node
  pub start_of_slotted : start_emissions lo 0 ks ≡ map_emissions (λ (i : Slotted). i.entry.start) (slotted_emissions lo 64 w ks)
  unfolding start_emissions slotted_emissions
  start_of_slotted = sym (map_keys (λ (i : Slotted). i.entry.start) lo 64 (slotted_at w) (exact_slotted w) 0 ks)

module _ (w : SlotBits) (hi : ℕ) (ks : List Bytes) where
  -- their label cells
  pub label_cells_of_slotted : dense_label_emissions hi 0 ks ≡ map_emissions (on_entry label_cell) (slotted_emissions 0 hi w ks)
  unfolding dense_label_emissions slotted_emissions
  label_cells_of_slotted = sym (map_keys (on_entry label_cell) 0 hi (slotted_at w) (exact_slotted w) 0 ks)

  -- their child cells
  pub child_cells_of_slotted : dense_child_emissions hi 0 ks ≡ map_emissions (on_entry child_cell) (slotted_emissions 0 hi w ks)
  unfolding dense_child_emissions slotted_emissions
  child_cells_of_slotted = sym (map_keys (on_entry child_cell) 0 hi (slotted_at w) (exact_slotted w) 0 ks)

  -- their exact cells
  pub exact_cells_of_slotted : dense_exact_emissions hi 0 ks ≡ map_emissions (on_entry exact_cell) (slotted_emissions 0 hi w ks)
  unfolding dense_exact_emissions slotted_emissions
  exact_cells_of_slotted = sym (map_keys (on_entry exact_cell) 0 hi (slotted_at w) (exact_slotted w) 0 ks)

-- the values of all levels, mapped
pub values_map : {A B : Type 0} (f : A → B) (es : List (Emission A)) (d : ℕ) → values_below (map_emissions f es) d ≡ map f (values_below es d)
unfolding values_below
values_map f es zero = refl
values_map f es (suc d) = ap₂ ◌++◌ (values_map f es d) (level_map f d es) ∙ sym (map-append f (values_below es d) (level_values d es))

-- ---- slots: one emission a key

-- the level of a key's leaf: that of its last branch, or of the node that an exact leaf is
unfoldable pub leaf_level : ℕ → ℕ → ℕ → ℕ
leaf_level p q n = cond (eqb q n) n (max p q)

-- the slot of a key's leaf: of an open leaf hash bits and the bits behind its cut, of an exact one zeros
unfoldable pub key_slot : SlotBits → ℕ → ℕ → Bytes → Bits
key_slot w p q k = cond (eqb q (length k)) (replicate (width_of w) false) (suffix_bits w.hash_width w.real_width (cut_length p q (length k)) k)

-- the slots of keys, each on its leaf's level
unfoldable pub slot_emissions : SlotBits → ℕ → List Bytes → List (Emission Bits)
unfolding leaf_level key_slot next_shared
slot_emissions w p [] = []
slot_emissions w p (k ∷ ks) = emission (leaf_level (pred p) (next_shared k ks) (length k)) (key_slot w (pred p) (next_shared k ks) k) ∷ slot_emissions w (suc (next_shared k ks)) ks

-- ---- levels

-- keys are not empty
pub keys_nonempty : (ks : List Bytes) → Keys ks → Nonempty ks
keys_nonempty [] h = tt
keys_nonempty (k ∷ ks) h = (h.0.least, keys_nonempty ks h.1)

-- the next key shares less than its length with this one
abbrev pub NextLonger : ℕ → List Bytes → Type 0
NextLonger q [] = Unit
NextLonger q (m ∷ ms) = q < length m

-- what the numbers of a key are: what it shares with the keys before and behind, and its length
pub record KeyNumbers (p q n : ℕ) : Type 0 where
  pub before : p < n
  pub behind : q ≤ n
  pub size : n ≤ 64
  pub exact : q ≡ n → n < 64

-- the numbers of the first key, and the next one's
pub key_numbers : (p : ℕ) (k : Bytes) (ks : List Bytes) → p < length k → Keys (k ∷ ks) → Ascending (k ∷ ks) → KeyNumbers p (next_shared k ks) (length k) × NextLonger (next_shared k ks) ks
unfolding next_shared
key_numbers p k [] h s a = (record { before = h; behind = omega arith; size = s.0.fits; exact = λ e. absurd (omega (arith, s.0.least)) }, tt)
key_numbers p k (m ∷ ms) h s a =
    let u = above_short k m a.0.0 in
    let v : shared k m < length m = omega (arith, u, shared_comm k m) in
    (record { before = h; behind = next_shared_le k (m ∷ ms); size = s.0.fits; exact = λ e. omega (arith, v, s.1.0.fits) }, v)

-- every emission of a key list is on a level below 64
pub emissions_below : {A : Type 0} (lo hi : ℕ) (F : ℕ → ℕ → Bytes → ℕ → A) (t : A) (p : ℕ) (ks : List Bytes) → NextLonger (pred p) ks → Keys ks → Ascending ks → LevelsBelow 64 (emissions lo hi F t p ks)
unfolding emissions
emissions_below lo hi F t p [] l s a = tt
emissions_below lo hi F t p (k ∷ ks) l s a =
    let u = key_numbers (pred p) k ks l s a in
    let q : ℕ = next_shared k ks in
    below_append 64 (key_emissions lo hi (F p q k) t (pred p) q (length k)) (emissions lo hi F t (suc q) ks)
    (key_below lo hi (F p q k) t (pred p) q (length k) (omega (arith, cut_le (pred p) q (length k) u.0.before u.0.behind, u.0.size)) u.0.exact)
    (emissions_below lo hi F t (suc q) ks u.1 s.1 a.1)

-- the first key starts every node, and shares nothing with a key before
pub first_longer : (ks : List Bytes) → Keys ks → NextLonger 0 ks
first_longer [] s = tt
first_longer (k ∷ ks) s = s.0.least

-- a leaf's level is not before the level where its key leaves the key before it
pub leaf_level_from : (p q n : ℕ) → KeyNumbers p q n → p ≤ leaf_level p q n
unfolding leaf_level
leaf_level_from p q n u = go (eqb q n)
  where
    go : (b : Bool) → p ≤ cond b n (max p q)
    go true = omega (arith, u.before)
    go false = omega arith

-- a leaf's level is below 64
pub leaf_level_below : (p q n : ℕ) → KeyNumbers p q n → leaf_level p q n < 64
unfolding leaf_level
leaf_level_below p q n u = go (eqb q n) refl
  where
    go : (b : Bool) → eqb q n ≡ b → cond b n (max p q) < 64
    go true e = u.exact (eqb-true q n e)
    go false e = less (eqb-false q n e)
      where
        less : (q ≡ n → ⊥) → max p q < 64
        less z = omega (arith, u.before, u.behind, u.size)

-- every slot is on a level below 64
pub slots_below : (w : SlotBits) (p : ℕ) (ks : List Bytes) → NextLonger (pred p) ks → Keys ks → Ascending ks → LevelsBelow 64 (slot_emissions w p ks)
unfolding slot_emissions
slots_below w p [] l s a = tt
slots_below w p (k ∷ ks) l s a =
    let u = key_numbers (pred p) k ks l s a in
    (leaf_level_below (pred p) (next_shared k ks) (length k) u.0, slots_below w (suc (next_shared k ks)) ks u.1 s.1 a.1)
