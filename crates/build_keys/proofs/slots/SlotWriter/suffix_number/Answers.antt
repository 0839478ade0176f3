-- The hash bits are the lowest.
use mathlib.Core.Path.{◌≡◌, sym, ap, ap₂, ◌∙◌}
use Prim.Native.Nat.{ℕ, ◌+◌, ◌*◌, ◌%◌, ◌^◌, ◌≤◌, ◌<◌}
use native.Mathlib.Omega.{arith}
use lib.Pow.{shl_exact}
use Rattle.spec.specs.Bytes.{Bytes, low_first}
use Rattle.spec.specs.Leaves.{bits_behind, hash_bits, suffix_bits}
use Rattle.bits.specs.Bits.{key}
use Rattle.build_laws.specs.LevelEntries.{pred}
use Rattle.build_laws.specs.NeighbourLeaves.{cut_length}
use Rattle.image.specs.SuffixNumbers.{suffix_small, whole_number, whole_small}
use Rattle.build_keys.proofs.slots.SlotWriter.suffix_number.Goals as goal

-- the number of the suffix, as computed
suffix_is : (h n c x y : ℕ) (k : Bytes) → h ≤ 16 → n ≤ 16 → x ≡ low_first (hash_bits h k) → y ≡ low_first (bits_behind n c k) → x + y * 2 ^ h % 2 ^ 64 ≡ low_first (suffix_bits h n c k)
suffix_is h n c x y k a b e f =
    let small : y < 65536 = omega (arith, suffix_small n c k b) in
    ap (λ (z : ℕ). x + z) (shl_exact 16 h 64 small (omega arith)) ∙ ap₂ (λ (u v : ℕ). u + v * 2 ^ h) e f ∙ sym (whole_number h n c k)

pub returns : goal.returns
returns c =
    let a = c.args in
    let w = a.self.now in
    let k : Bytes = key a.s.now a.k.at a.k.len in
    let e = c.part-key.ensures in
    suffix_is w.slot.hash_width w.slot.real_width (cut_length (pred a.k.first) a.k.next a.k.len) _ _ k w.narrow.0 w.narrow.1
    (c.hash_number-hash.ensures ∙ ap (λ (x : Bytes). low_first (hash_bits w.slot.hash_width x)) e)
    (c.real_number-real.ensures ∙ ap₂ (λ (i : ℕ) (x : Bytes). low_first (bits_behind w.slot.real_width i x)) c.cut_length-cut.ensures.0 e)

pub overflow_add-result : goal.overflow_add-result
overflow_add-result c =
    let a = c.args in
    let w = a.self.now in
    omega (arith, returns c, whole_small w.slot.hash_width w.slot.real_width (cut_length (pred a.k.first) a.k.next a.k.len) (key a.s.now a.k.at a.k.len) w.narrow.0 w.narrow.1)
