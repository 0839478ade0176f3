-- How many hash bits and real bits a suffix slot has, by settings, and its width.
use Rattle.std.specs.Prelude.{ℕ, ◌+◌}
use Rattle.spec.specs.Image.{Settings}
use Rattle.build_laws.specs.declared.SlotBits.{SlotBits}

-- the bits of a slot together
abbrev pub width_of : SlotBits → ℕ
width_of w = w.hash_width + w.real_width

-- those that settings say
abbrev pub slot_bits : Settings → SlotBits
slot_bits st = record { hash_width = st.hash_width; real_width = st.real_width }

-- a slot of no bits
abbrev pub no_bits : SlotBits
no_bits = record { hash_width = 0; real_width = 0 }
