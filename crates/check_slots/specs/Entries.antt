-- What the functions over the sparse entries ask and say.
use Rattle.std.specs.Prelude.{ℕ, ◌+◌, ◌*◌, ◌≤◌, ◌<◌, ◌≡◌, Bool, ◌||◌, not, length, get_or, eqb}
use Rattle.spec.specs.Bytes.{Bytes}
use Rattle.bits.specs.Bits.{rank}
use Rattle.check_levels.specs.Positions.{bits}
use Rattle.check_slots.specs.NodeSlots.{slot_clear}
use Rattle.check_slots.specs.SlotBits.{SlotsSized}
use Rattle.check_slots.specs.SparseExact.{sparse_slot, sparse_exact}
use Rattle.check_slots.specs.declared.sparse.SparseSlots.{SparseSlots}
use Rattle.check_slots.specs.declared.sparse.EntryWord.{EntryWord}

-- the labels, the continuing bits and the slots have the lengths that the counts give, and these are few
pub record Sized (sl sc sv : Bytes) (z : SparseSlots) : Type 0 where
  -- one label an entry
  pub labels : length sl ≡ z.entries
  -- one bit an entry
  pub children : z.entries ≤ 8 * length sc
  -- one slot a leaf
  pub slots : SlotsSized sv z.leaves z.width
  pub few_entries : z.entries < 4294967296
  -- as many dense leaves as leaves, at most
  pub few_dense : z.first.0 ≤ 65535

-- a word that has an entry, and the entries that continue before it
pub record WordOf (sc : Bytes) (z : SparseSlots) (w : EntryWord) : Type 0 where
  pub some : 64 * w.number < z.entries
  pub children : w.children ≡ rank sc (64 * w.number)

-- an entry of a word by its position in it
pub record EntryOf (sc : Bytes) (z : SparseSlots) (w : EntryWord) (at : ℕ) : Type 0 where
  pub word : WordOf sc z w
  pub inside : at < 64
  pub some : 64 * w.number + at < z.entries

-- slot v is clear
abbrev pub clear_slot : Bytes → SparseSlots → ℕ → Bool
clear_slot sv z v = slot_clear 0 z.width (bits sv (z.leaves * z.width)) v

-- the entry at position p, which starts a node with several entries, has another label than FF, or the exact leaf's slot is clear
abbrev pub entry_clear : Bytes → Bytes → Bytes → SparseSlots → ℕ → Bool
entry_clear sl sc sv z p = not (eqb (get_or sl p 0) 255) || clear_slot sv z (sparse_slot sc z.first.0 p)

-- the entry at a position is no exact leaf, or its slot is clear
abbrev pub exact_test : Bytes → Bytes → Bytes → Bytes → SparseSlots → ℕ → Bool
exact_test sl sc sb sv z = sparse_exact (clear_slot sv z) sl sc sb z.entries z.first.0
