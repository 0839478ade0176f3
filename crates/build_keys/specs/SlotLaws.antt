-- A key's slot by cases of its kind, and what writing it does. Used by the function that writes a slot.
use Rattle.std.specs.Prelude.{ℕ, zero, suc, ◌+◌, ◌*◌, ◌≡◌, refl, false, List, [], length, get_or, set, replicate}
use Rattle.std.proofs.Common.{sym, ap, ap₂, ◌∙◌, eq-eqb, ne_eqb}
use Rattle.spec.specs.Bytes.{Bytes, Bits}
use Rattle.spec.specs.Leaves.{suffix_bits}
use Rattle.spec.specs.Image.{positions}
use Rattle.build_laws.specs.SlotWidths.{width_of}
use Rattle.build_laws.specs.NeighbourLeaves.{cut_length}
use Rattle.build_laws.specs.Emissions.{emission}
use Rattle.build_laws.specs.BytePass.{byte_state, one_step}
use Rattle.build_laws.specs.PassEmissions.{key_slot}
use Rattle.build_laws.specs.BodyLaws.{slot_at}
use Rattle.build_laws.specs.Passes.{with_bits, set_at_cursor}
use Rattle.build_keys.specs.CursorWrites.{with_none}
use Rattle.build_laws.specs.declared.Key.{Key}
use Rattle.build_laws.specs.LevelEntries.{pred}
use Rattle.build_laws.specs.declared.SlotBits.{SlotBits}

-- the suffix of a key of the list that is an open leaf, of these bytes
abbrev pub key_suffix : SlotBits → Key → Bytes → Bits
key_suffix w k b = suffix_bits w.hash_width w.real_width (cut_length (pred k.first) k.next k.len) b

no_ones : (n base : ℕ) → positions base (replicate n false) ≡ []
unfolding positions
no_ones zero base = refl
no_ones (suc n) base = no_ones n (suc base)

-- an open leaf's slot has its key's suffix
pub slot_open : (w : SlotBits) (p q m : ℕ) (k : Bytes) → length k ≡ m → (q ≡ m → ⊥) → suffix_bits w.hash_width w.real_width (cut_length p q m) k ≡ key_slot w p q k
unfolding key_slot
slot_open w p q m k e h = sym (rw (ne_eqb q (length k) (λ z. h (z ∙ e))) (ap (λ (i : ℕ). suffix_bits w.hash_width w.real_width (cut_length p q i) k) e))

-- an exact leaf's slot sets no bit
pub slot_exact : (w : SlotBits) (p q m base : ℕ) (k out : Bytes) → length k ≡ m → q ≡ m → out ≡ with_bits (positions base (key_slot w p q k)) out
unfolding key_slot
slot_exact w p q m base k out e h = sym (rw (eq-eqb q (length k) (h ∙ sym e), no_ones (width_of w) base) (with_none out))

-- a slot is written, and the cursor goes on
pub slot_done : (cur out o : List ℕ) (d level n base : ℕ) (s : Bits) → d ≡ level → base ≡ n * get_or cur d 0 → o ≡ with_bits (positions base s) out
    → byte_state o (set cur d (get_or cur d 0 + 1)) ≡ set_at_cursor one_step (slot_at n) (emission level s) (byte_state out cur)
slot_done cur out o d level n base s e f g =
    ap₂ (λ (x : List ℕ) (i : ℕ). byte_state x (set cur i (get_or cur i 0 + 1))) (g ∙ ap (λ (i : ℕ). with_bits (positions i s) out) (f ∙ ap (λ (i : ℕ). n * get_or cur i 0) e)) e
