-- Document 02, order 4, "with h 0 and the hash bits struck out": what is left of an image, as bytes, if its hash bits are struck out.
use Rattle.std.specs.Prelude.{ℕ, zero, suc, ◌+◌, ◌*◌, cond, List, [], ◌∷◌, ◌++◌, length, get_or, take, drop, eqb}
use Rattle.std.proofs.Math.Option.{none, some}
use Rattle.spec.specs.Bytes.{Bytes, Bits, blocks, pack, unpack}
use Rattle.spec.specs.Image.{Settings, slot_width, write_records}
use Rattle.spec.specs.Frame.{rows_of, read_bodies, read_settings, read_counts}

-- the n real bits of each of k slots, which have h hash bits before them
unfoldable pub real_slots : ℕ → ℕ → ℕ → Bits → Bits
real_slots h n zero bs = []
real_slots h n (suc k) bs = take n (drop h bs) ++ real_slots h n k (drop (h + n) bs)

-- SV's body without hash bits, by the settings and the number of leaves
unfoldable pub struck_slots : Settings → ℕ → Bytes → Bytes
unfolding real_slots pack unpack
struck_slots st k sv = pack (real_slots st.hash_width st.real_width k (unpack sv))

-- SV's body, the seventh
abbrev pub slots_body : List Bytes → Bytes
slots_body bs = get_or bs 6 []

-- the bodies with that instead
unfoldable pub struck_bodies : Settings → ℕ → List Bytes → List Bytes
unfolding struck_slots
struck_bodies st k bs = take 6 bs ++ (struck_slots st k (slots_body bs) ∷ drop 7 bs)

-- the header with h 0
unfoldable pub struck_header : Bytes → Bytes
struck_header s = take 5 s ++ (0 ∷ take 16 (drop 6 s))

-- An image with h 0 and the hash bits struck out. A byte string without the records of an image, or whose SV is not as long as its slots, has no hash bits to strike out and stays as it is: number 11 or 12 applies to it.
unfoldable pub struck : Bytes → Bytes
unfolding read_bodies read_settings read_counts struck_header struck_bodies write_records
struck s =
    elim (read_bodies (rows_of s) (drop 22 s)) [
      | none ↦ s
      | some bs ↦
          let st : Settings = read_settings s in
          let k : ℕ = (read_counts s).leaves in
          cond (eqb (length (slots_body bs)) (blocks 8 (k * slot_width st))) (struck_header s ++ write_records (rows_of s) (struck_bodies st k bs)) s
    ]
