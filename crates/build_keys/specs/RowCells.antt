-- The cells of a key in D-Labels and D-HasChild, whose rows have a bit for each label: they differ in the branches whose bit is set. Used by write_row_cells.
use Rattle.std.specs.Prelude.{ℕ, ◌+◌, ◌*◌, ◌<◌, ◌≡◌, refl, Bool, true, false, ◌||◌, List, [], ◌∷◌, get_or, leb, ltb}
use Rattle.std.proofs.Common.{sym, ap, ◌∙◌, arith}
use Rattle.spec.specs.Bytes.{Bytes}
use Rattle.build_laws.specs.LevelEntries.{pred}
use Rattle.build_laws.specs.Emissions.{emission}
use Rattle.build_laws.specs.BitPass.{Room}
use Rattle.build_laws.specs.BytePass.{ByteState}
use Rattle.build_laws.specs.DenseRows.{cell, cell_step, cell_ones, label_cell, child_cell}
use Rattle.build_laws.specs.PassEmissions.{leaf_level}
use Rattle.build_laws.specs.declared.Cell.{Cell}
use Rattle.build_laws.specs.declared.Entry.{Entry}
use Rattle.build_laws.specs.declared.Key.{Key}
use Rattle.build_laws.specs.declared.LevelRange.{LevelRange}
use Rattle.build_laws.specs.declared.Kind.{Kind}
use Rattle.build_laws.specs.declared.Kind.TheVariants.{DL, DC}
use Rattle.build_laws.specs.KeyEntries.{continues_at, exact_entry}
use Rattle.build_laws.specs.KeyLaws.{key_byte, key_length}
use Rattle.build_laws.specs.Passes.{ListedKey, EntriesRoom, set_at_cursor, write_entry}
use Rattle.build_laws.specs.Limits.{counter_max}
use Rattle.build_keys.specs.EntryLaws.{BranchLevels, key_branch}
use Rattle.build_keys.specs.KeySparseBits.{continues_above}

-- the body with the bits of all branches, or of those that continue
abbrev pub row_kind : Bool → Kind
row_kind true = DL
row_kind false = DC

-- an entry's cell there
abbrev pub row_cell : Bool → Entry → Cell
row_cell true = label_cell
row_cell false = child_cell

-- what an entry's cell does is what the entry does
pub row_written : (all : Bool) (d : ℕ) (e : Entry) (x : Cell) (z z' : ByteState) → x ≡ row_cell all e → z' ≡ set_at_cursor cell_step (cell_ones 256) (emission d x) z → z' ≡ write_entry (row_kind all) (emission d e) z
row_written true d e x z z' q w = rw q at w
row_written false d e x z z' q w = rw q at w

-- room for an entry is room for its cell
pub row_room : (all : Bool) (n d : ℕ) (e : Entry) (x : Cell) (c : List ℕ) → x ≡ row_cell all e → EntriesRoom (row_kind all) (emission d e ∷ []) n c → Room cell_step (cell_ones 256) (8 * n) counter_max (emission d x ∷ []) c
row_room true n d e x c q r = rw q r
row_room false n d e x c q r = rw q r

branch_cell : (all : Bool) (e : Entry) (x : Bool) (y : ℕ) → e.exact ≡ false → x ≡ e.child → y ≡ e.label → cell e.start (all || x) y ≡ row_cell all e
branch_cell true e x y f g h = rw (f, h)
branch_cell false e x y f g h = rw (g, h)

-- the cell of a branch, whose bit is set for all branches or for those above the level of the leaf
pub row_branch : {s : Bytes} {k : Key} {l b : LevelRange} (all : Bool) (d leaf x : ℕ) → ListedKey s k → BranchLevels k l b → d < b.hi → leaf ≡ leaf_level (pred k.first) k.next k.len → x ≡ get_or s (k.at + d) 0
    → cell (leb k.first d) (all || ltb d leaf) x ≡ row_cell all (key_branch s k d)
row_branch {s} {k} {l} {b} all d leaf x i v h e f =
    branch_cell all (key_branch s k d) (ltb d leaf) x refl
    (ap (ltb d) e ∙ sym (continues_above k.first k.next k.len d (omega (arith, v.hi_is))) ∙ ap (λ (n : ℕ). continues_at k.first k.next n d) (sym (key_length s k.at k.len i.within)))
    (f ∙ key_byte s k.at k.len d (omega (arith, v.within)))

-- the exact leaf's cell
pub row_exact : (all : Bool) → cell true false 255 ≡ row_cell all exact_entry
row_exact true = refl
row_exact false = refl
