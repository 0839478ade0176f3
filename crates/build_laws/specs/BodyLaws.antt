-- The bodies of a key list's image that are filled by a pass over the keys: SL, SC, SB, SV, DL, DC, DP. For each, the law that turns what the pass leaves into the body of document 01,
-- and that there is room for all that it writes. Used by the builder's fillers.
use Rattle.std.specs.Prelude.{ℕ, ◌*◌, Bool, cond, List, [], ◌∷◌}
use Rattle.spec.specs.Bytes.{Bits}
use Rattle.spec.specs.Image.{positions}

-- one bit at the cursor
abbrev pub bit_at : ℕ → Bool → List ℕ
bit_at c b = cond b (c ∷ []) []

-- a slot of w bits at w times the cursor
abbrev pub slot_at : ℕ → ℕ → Bits → List ℕ
slot_at w c s = positions (w * c) s
