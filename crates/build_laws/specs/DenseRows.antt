-- The dense bodies of nodes, rows of 256 bits or of one, by the positions that the nodes' entries set in them. Used by the laws of the bodies.
use Prim.Native.Nat.{ℕ, ◌+◌, ◌-◌, ◌*◌}
use Rattle.std.specs.Prelude.{Bool, cond, not}
use mathlib.Core.List.{List, [], ◌∷◌}
use Rattle.spec.specs.Bytes.{bit}
use Rattle.build_laws.specs.TrieEntries.{Slotted}
use Rattle.build_laws.specs.declared.Cell.{Cell}
use Rattle.build_laws.specs.declared.Entry.{Entry}

-- a cell: whether it starts a node, whether its bit is set, and the column of its bit in the node's row
abbrev pub cell : Bool → Bool → ℕ → Cell
cell b s x = record { start = b; set = s; column = x }

-- the node cursor goes on where a node starts
abbrev pub cell_step : Cell → ℕ
cell_step x = bit x.start

-- The bit of a cell in rows of w bits: in the row of the node that it starts, of the number c, or else of the one started last.
abbrev pub cell_ones : ℕ → ℕ → Cell → List ℕ
cell_ones w c x = cond x.set ((w * (c + bit x.start - 1) + x.column) ∷ []) []

-- the cell of D-Labels: an entry's label, but for an exact leaf
abbrev pub label_cell : Entry → Cell
label_cell e = cell e.start (not e.exact) e.label

-- the cell of D-HasChild: the label of an entry that continues
abbrev pub child_cell : Entry → Cell
child_cell e = cell e.start e.child e.label

-- the cell of D-IsPrefixKey: an exact leaf
abbrev pub exact_cell : Entry → Cell
exact_cell e = cell e.start e.exact 0

-- the cell of an entry with its slot
abbrev pub on_entry : (Entry → Cell) → Slotted → Cell
on_entry f i = f i.entry
