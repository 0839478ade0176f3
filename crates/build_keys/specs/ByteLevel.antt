-- What the passes do to bytes is what they do to the bits of these bytes, and entries written are functions of them written. Used by the laws of the bodies.
use Rattle.std.specs.Prelude.{ℕ, ◌+◌, ◌*◌, ◌≡◌, refl, not, List, [], ◌∷◌, length, get_or, set}
use Rattle.std.proofs.Common.{sym, ap, ◌∙◌}
use Rattle.spec.specs.Bytes.{Bytes, Bits, unpack}
use Rattle.bits.specs.Bits.{with_bit}
use Rattle.bits.proofs.BitLaws.{length_with_bit}
use Rattle.bits.proofs.UnpackLaws.{unpack_with_bit}
use Rattle.build_laws.specs.Emissions.{Emission, emission, map_emissions}
use Rattle.build_laws.specs.SetBits.{set_bits}
use Rattle.build_laws.specs.BitPass.{bit_state, write_all_bits, Room, PositionsBelow}
use Rattle.build_laws.specs.BytePass.{ByteState, put_byte, put_bytes, one_step}
use Rattle.build_laws.specs.DenseRows.{cell_step, cell_ones, label_cell, child_cell, exact_cell}
use Rattle.build_laws.specs.BodyLaws.{bit_at}
use Rattle.build_laws.specs.declared.Entry.{Entry}
use Rattle.build_laws.specs.declared.Kind.TheVariants.{DL, DC, DP, SL, SC, SB}
use Rattle.build_laws.specs.Passes.{with_bits, set_at_cursor, set_all, write_entries}
use Rattle.build_keys.specs.CursorWrites.{length_with_bits}

-- ---- bits in bytes

below_same : (n m : ℕ) (is : List ℕ) → n ≡ m → PositionsBelow n is → PositionsBelow m is
below_same n m is e p = rw e at p

-- bits set in bytes are set among their bits
unpack_with_bits : (is : List ℕ) (s : Bytes) → PositionsBelow (8 * length s) is → unpack (with_bits is s) ≡ set_bits is (unpack s)
unfolding with_bits set_bits
unpack_with_bits [] s p = refl
unpack_with_bits (i ∷ is) s p =
    unpack_with_bits is (with_bit s i) (below_same (8 * length s) (8 * length (with_bit s i)) is (ap (λ (n : ℕ). 8 * n) (sym (length_with_bit s i))) p.1) ∙ ap (set_bits is) (unpack_with_bit s i p.0)

room_same : {A : Type 0} (inc : A → ℕ) (ones-at : ℕ → A → List ℕ) (n m top : ℕ) (es : List (Emission A)) (c : List ℕ) → n ≡ m → Room inc ones-at n top es c → Room inc ones-at m top es c
room_same inc ones-at n m top es c e r = rw e at r

-- A pass over bytes is the pass over their bits.
pub set_all_bits : {A : Type 0} (inc : A → ℕ) (ones-at : ℕ → A → List ℕ) (top : ℕ) (es : List (Emission A)) (z : ByteState) → Room inc ones-at (8 * length z.bytes) top es z.cursors
    → unpack (set_all inc ones-at es z).bytes ≡ (write_all_bits inc ones-at es (bit_state (unpack z.bytes) z.cursors)).bits
unfolding set_all write_all_bits
set_all_bits inc ones-at top [] z r = refl
set_all_bits inc ones-at top (emission d x ∷ es) z r =
    let is : List ℕ = ones-at (get_or z.cursors d 0) x in
    let c : List ℕ = set z.cursors d (get_or z.cursors d 0 + inc x) in
    set_all_bits inc ones-at top es (set_at_cursor inc ones-at (emission d x) z)
    (room_same inc ones-at (8 * length z.bytes) (8 * length (with_bits is z.bytes)) top es c (ap (λ (n : ℕ). 8 * n) (sym (length_with_bits is z.bytes))) r.3)
    ∙ ap (λ (b : Bits). (write_all_bits inc ones-at es (bit_state b c)).bits) (unpack_with_bits is z.bytes r.2)

-- ---- entries by their kind

-- labels are written
pub labels_put : (es : List (Emission Entry)) (z : ByteState) → write_entries SL es z ≡ put_bytes (map_emissions (λ (e : Entry). e.label) es) z
unfolding write_entries put_bytes map_emissions
labels_put [] z = refl
labels_put (emission d e ∷ es) z = labels_put es (put_byte (emission d e.label) z)

-- the bits of leaves are set at the cursors
pub leaves_set : (es : List (Emission Entry)) (z : ByteState) → write_entries SC es z ≡ set_all one_step bit_at (map_emissions (λ (e : Entry). not e.child) es) z
unfolding write_entries set_all map_emissions
leaves_set [] z = refl
leaves_set (emission d e ∷ es) z = leaves_set es (set_at_cursor one_step bit_at (emission d (not e.child)) z)

-- the bits of entries that are not the first of their node are set at the cursors
pub later_set : (es : List (Emission Entry)) (z : ByteState) → write_entries SB es z ≡ set_all one_step bit_at (map_emissions (λ (e : Entry). not e.start) es) z
unfolding write_entries set_all map_emissions
later_set [] z = refl
later_set (emission d e ∷ es) z = later_set es (set_at_cursor one_step bit_at (emission d (not e.start)) z)

-- label cells are set in their rows
pub label_cells_set : (es : List (Emission Entry)) (z : ByteState) → write_entries DL es z ≡ set_all cell_step (cell_ones 256) (map_emissions label_cell es) z
unfolding write_entries set_all map_emissions
label_cells_set [] z = refl
label_cells_set (emission d e ∷ es) z = label_cells_set es (set_at_cursor cell_step (cell_ones 256) (emission d (label_cell e)) z)

-- child cells are set in their rows
pub child_cells_set : (es : List (Emission Entry)) (z : ByteState) → write_entries DC es z ≡ set_all cell_step (cell_ones 256) (map_emissions child_cell es) z
unfolding write_entries set_all map_emissions
child_cells_set [] z = refl
child_cells_set (emission d e ∷ es) z = child_cells_set es (set_at_cursor cell_step (cell_ones 256) (emission d (child_cell e)) z)

-- exact cells are set in their rows
pub exact_cells_set : (es : List (Emission Entry)) (z : ByteState) → write_entries DP es z ≡ set_all cell_step (cell_ones 1) (map_emissions exact_cell es) z
unfolding write_entries set_all map_emissions
exact_cells_set [] z = refl
exact_cells_set (emission d e ∷ es) z = exact_cells_set es (set_at_cursor cell_step (cell_ones 1) (emission d (exact_cell e)) z)
