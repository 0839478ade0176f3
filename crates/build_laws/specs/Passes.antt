-- What the passes that fill bodies do, emission by emission, to the bytes of a body and the cursors of the levels.
use Rattle.std.specs.Prelude.{ℕ, ◌+◌, ◌*◌, ◌≤◌, Bool, true, false, not, ◌&&◌, List, [], ◌∷◌, length, get_or, set, leb, ltb, eqb}
use Rattle.spec.specs.Bytes.{Bytes, Bits}
use Rattle.bits.specs.Bits.{with_bit, key}
use Rattle.build_laws.specs.SlotWidths.{width_of, no_bits}
use Rattle.build_laws.specs.LevelEntries.{pred}
use Rattle.build_laws.specs.Emissions.{Emission, emission, key_emissions, emissions}
use Rattle.build_laws.specs.KeyEntries.{continues_at, entry_at, exact_entry}
use Rattle.build_laws.specs.BitPass.{Room}
use Rattle.build_laws.specs.BytePass.{ByteState, put_byte, one_step, at_cursor}
use Rattle.build_laws.specs.DenseRows.{cell_step, cell_ones, label_cell, child_cell, exact_cell}
use Rattle.build_laws.specs.PassEmissions.{leaf_level, key_slot, slot_emissions, KeyNumbers}
use Rattle.build_laws.specs.BodyLaws.{bit_at, slot_at}
use Rattle.build_laws.specs.declared.Entry.{Entry}
use Rattle.build_laws.specs.declared.Kind.{Kind}
use Rattle.build_laws.specs.declared.Kind.TheVariants.{DL, DC, DP, SL, SC, SB}
use Rattle.build_laws.specs.declared.Body.{Body}
use Rattle.build_laws.specs.declared.Body.TheVariants.{Entries, Slots}
use Rattle.build_laws.specs.Limits.{counter_max}
use Rattle.build_laws.specs.declared.Key.{Key}
use Rattle.build_laws.specs.declared.Pass.{Pass}
use Rattle.build_laws.specs.declared.SlotBits.{SlotBits}
use Rattle.build_laws.specs.declared.LevelRange.{LevelRange}

-- the bits at these positions set, one after the other
unfoldable pub with_bits : List ℕ → Bytes → Bytes
unfolding with_bit
with_bits [] s = s
with_bits (i ∷ is) s = with_bits is (with_bit s i)

module _ {A : Type 0} (inc : A → ℕ) (ones-at : ℕ → A → List ℕ) where
  -- an emission sets the bits that its level's cursor and its value give, and moves the cursor on
  abbrev pub set_at_cursor : Emission A → ByteState → ByteState
  set_at_cursor (emission d x) s = record {
    bytes = with_bits (ones-at (get_or s.cursors d 0) x) s.bytes;
    cursors = set s.cursors d (get_or s.cursors d 0 + inc x);
  }

  -- emissions one after the other
  unfoldable pub set_all : List (Emission A) → ByteState → ByteState
  set_all [] s = s
  set_all (e ∷ es) s = set_all es (set_at_cursor e s)

-- ---- entries

-- how far an entry moves its level's cursor: by an entry, or by a node
abbrev pub kind_step : Kind → Entry → ℕ
kind_step DL e = cell_step (label_cell e)
kind_step DC e = cell_step (child_cell e)
kind_step DP e = cell_step (exact_cell e)
kind_step SL e = 1
kind_step SC e = 1
kind_step SB e = 1

-- the positions that an entry sets: bits, and for S-Labels a byte; those of S-HasChild and S-LOUDS are set where the body has zeros
abbrev pub kind_ones : Kind → ℕ → Entry → List ℕ
kind_ones DL c e = cell_ones 256 c (label_cell e)
kind_ones DC c e = cell_ones 256 c (child_cell e)
kind_ones DP c e = cell_ones 1 c (exact_cell e)
kind_ones SL c e = at_cursor c e.label
kind_ones SC c e = bit_at c (not e.child)
kind_ones SB c e = bit_at c (not e.start)

-- how many positions n bytes have
abbrev pub capacity : Kind → ℕ → ℕ
capacity DL n = 8 * n
capacity DC n = 8 * n
capacity DP n = 8 * n
capacity SL n = n
capacity SC n = 8 * n
capacity SB n = 8 * n

-- what an entry does in a body
abbrev pub write_entry : Kind → Emission Entry → ByteState → ByteState
write_entry DL (emission d e) s = set_at_cursor cell_step (cell_ones 256) (emission d (label_cell e)) s
write_entry DC (emission d e) s = set_at_cursor cell_step (cell_ones 256) (emission d (child_cell e)) s
write_entry DP (emission d e) s = set_at_cursor cell_step (cell_ones 1) (emission d (exact_cell e)) s
write_entry SL (emission d e) s = put_byte (emission d e.label) s
write_entry SC (emission d e) s = set_at_cursor one_step bit_at (emission d (not e.child)) s
write_entry SB (emission d e) s = set_at_cursor one_step bit_at (emission d (not e.start)) s

-- entries one after the other
unfoldable pub write_entries : Kind → List (Emission Entry) → ByteState → ByteState
write_entries kind [] s = s
write_entries kind (e ∷ es) s = write_entries kind es (write_entry kind e s)

-- the key is an exact leaf on one of the levels
abbrev pub key_exact : ℕ → ℕ → ℕ → ℕ → Bool
key_exact q n lo hi = eqb q n && (leb lo n && ltb n hi)

-- a key's entries on the levels from lo to below hi
abbrev pub key_entries : ℕ → ℕ → ℕ → ℕ → Bytes → List (Emission Entry)
key_entries lo hi p q k = key_emissions lo hi (entry_at p q k) exact_entry (pred p) q (length k)

-- the entries of keys on these levels
abbrev pub all_entries : ℕ → ℕ → ℕ → List Bytes → List (Emission Entry)
all_entries lo hi p ks = emissions lo hi entry_at exact_entry p ks

-- there is room in so many bytes for what entries do in a body
abbrev pub EntriesRoom : Kind → List (Emission Entry) → ℕ → List ℕ → Type 0
EntriesRoom kind es size c = Room (kind_step kind) (kind_ones kind) (capacity kind size) counter_max es c

-- there is room in so many bytes for the bits of slots
abbrev pub SlotsRoom : SlotBits → List (Emission Bits) → ℕ → List ℕ → Type 0
SlotsRoom w es size c = Room one_step (slot_at (width_of w)) (8 * size) counter_max es c

-- ---- a key of the list

-- the bytes of a key of the list
abbrev pub key_bytes : Bytes → Key → Bytes
key_bytes s k = key s k.at k.len

-- a key of the list: its bytes are there, and its numbers are those of a key with its neighbours
pub record ListedKey (s : Bytes) (k : Key) : Type 0 where
  pub within : k.at + k.len ≤ length s
  pub numbers : KeyNumbers (pred k.first) k.next k.len

-- the entries of a key of these bytes on some levels
abbrev pub listed_entries : LevelRange → Key → Bytes → List (Emission Entry)
listed_entries l k b = key_entries l.lo l.hi k.first k.next b

-- for each entry of a key on some levels, whether it is a leaf
abbrev pub listed_leaves : LevelRange → Key → List (Emission Bool)
listed_leaves l k = key_emissions l.lo l.hi (λ d. not (continues_at k.first k.next k.len d)) true (pred k.first) k.next k.len

-- for each, whether it is not the first of its node
abbrev pub listed_later : LevelRange → Key → List (Emission Bool)
listed_later l k = key_emissions l.lo l.hi (λ d. not (leb k.first d)) false (pred k.first) k.next k.len

-- there is room in so many bytes for the bits of entries
abbrev pub BitsRoom : List (Emission Bool) → ℕ → List ℕ → Type 0
BitsRoom es size c = Room one_step bit_at (8 * size) counter_max es c

-- the slot of a key of these bytes, on the level of its leaf
abbrev pub listed_slot : SlotBits → Key → Bytes → Emission Bits
listed_slot w k b = emission (leaf_level (pred k.first) k.next (length b)) (key_slot w (pred k.first) k.next b)

-- ---- bodies

-- what a key does in a body
abbrev pub write_key : Body → ℕ → ℕ → SlotBits → ℕ → ℕ → Bytes → ByteState → ByteState
write_key (Entries kind) lo hi w p q k s = write_entries kind (key_entries lo hi p q k) s
write_key Slots lo hi w p q k s = set_at_cursor one_step (slot_at (width_of w)) (emission (leaf_level (pred p) q (length k)) (key_slot w (pred p) q k)) s

-- what keys do in a body
abbrev pub write_keys : Body → ℕ → ℕ → SlotBits → ℕ → List Bytes → ByteState → ByteState
write_keys (Entries kind) lo hi w p ks s = write_entries kind (all_entries lo hi p ks) s
write_keys Slots lo hi w p ks s = set_all one_step (slot_at (width_of w)) (slot_emissions w p ks) s

-- there is room in so many bytes for what a key does
abbrev pub KeyRoom : Body → ℕ → ℕ → SlotBits → ℕ → ℕ → Bytes → ℕ → List ℕ → Type 0
KeyRoom (Entries kind) lo hi w p q k size c = Room (kind_step kind) (kind_ones kind) (capacity kind size) counter_max (key_entries lo hi p q k) c
KeyRoom Slots lo hi w p q k size c = Room one_step (slot_at (width_of w)) (8 * size) counter_max (emission (leaf_level (pred p) q (length k)) (key_slot w (pred p) q k) ∷ []) c

-- there is room for what keys do
abbrev pub KeysRoom : Body → ℕ → ℕ → SlotBits → ℕ → List Bytes → ℕ → List ℕ → Type 0
KeysRoom (Entries kind) lo hi w p ks size c = Room (kind_step kind) (kind_ones kind) (capacity kind size) counter_max (all_entries lo hi p ks) c
KeysRoom Slots lo hi w p ks size c = Room one_step (slot_at (width_of w)) (8 * size) counter_max (slot_emissions w p ks) c

-- ---- passes

-- the pass of a body of entries on some levels
abbrev pub entries_pass : Kind → LevelRange → Pass
entries_pass kind l = record { body = Entries kind; levels = l; slot = no_bits }

-- the pass of the slots
abbrev pub slots_pass : SlotBits → Pass
slots_pass w = record { body = Slots; levels = record { lo = 0; hi = 0 }; slot = w }

-- what a pass does with one key, of these bytes
abbrev pub pass_key : Pass → Key → Bytes → ByteState → ByteState
pass_key p k b s = write_key p.body p.levels.lo p.levels.hi p.slot k.first k.next b s

-- what a pass does with keys, the first of which starts nodes from the level `first` on
abbrev pub pass_keys : Pass → ℕ → List Bytes → ByteState → ByteState
pass_keys p first ks s = write_keys p.body p.levels.lo p.levels.hi p.slot first ks s

-- there is room in so many bytes for what a pass does with one key
abbrev pub KeyRoomOf : Pass → Key → Bytes → ℕ → List ℕ → Type 0
KeyRoomOf p k b size c = KeyRoom p.body p.levels.lo p.levels.hi p.slot k.first k.next b size c

-- there is room for what it does with keys
abbrev pub PassRoom : Pass → ℕ → List Bytes → ℕ → List ℕ → Type 0
PassRoom p first ks size c = KeysRoom p.body p.levels.lo p.levels.hi p.slot first ks size c
