-- Setting the number's ones sets the bits of the slot.
use mathlib.Core.Path.{ap, ◌∙◌}
use Prim.Native.Nat.{ℕ, ◌+◌, ◌/◌, ◌%◌}
use native.Mathlib.Omega.{arith}
use Rattle.bits.specs.Bits.{key, with_number}
use Rattle.build_laws.specs.LevelEntries.{pred}
use Rattle.build_laws.specs.NeighbourLeaves.{cut_length}
use Rattle.image.specs.SuffixNumbers.{whole_short, whole_small}
use Rattle.build_keys.specs.SlotLaws.{key_suffix}
use Rattle.build_keys.specs.SuffixLaws.{wide_bits}
use Rattle.build_keys.proofs.slots.SlotWriter.write_suffix.Goals as goal

pub set_wide_number-requires : goal.set_wide_number-requires
set_wide_number-requires c =
    let a = c.args in
    let w = a.self.now in
    (omega (arith, c.suffix_number.ensures, whole_small w.slot.hash_width w.slot.real_width (cut_length (pred a.k.first) a.k.next a.k.len) (key a.s.now a.k.at a.k.len) w.narrow.0 w.narrow.1), c.requires.1)

pub returns : goal.returns
returns c =
    let a = c.args in
    let w = a.self.now in
    let k = key a.s.now a.k.at a.k.len in
    let i : ℕ = a.base.0 in
    c.set_wide_number.ensures ∙ ap (λ (v : ℕ). with_number (with_number a.out.now i (v % 65536)) (i + 16) (v / 65536)) c.suffix_number.ensures
    ∙ wide_bits (key_suffix w.slot a.k k) i a.out.now (whole_short w.slot.hash_width w.slot.real_width (cut_length (pred a.k.first) a.k.next a.k.len) k w.narrow.0 w.narrow.1)
