-- Each count is written behind what stands before it.
use lib.ListN.{length-append, length}
use Rattle.spec.specs.Bytes.{le32}
use Rattle.spec.specs.Image.{header}
use Rattle.bits.specs.Bits.{overlaid}
use Rattle.image.specs.Header.{first_bytes}
use Rattle.bits.proofs.Overlaying.{overlaid_behind}
use Rattle.bits.proofs.Overlaying.{length_le32}
use mathlib.Core.List.{append_assoc, List, ◌++◌}
use mathlib.Core.Path.{◌≡◌, refl, ap, ◌∙◌}
use Prim.Native.Nat.{ℕ}
use native.Mathlib.Omega.{arith}
use Rattle.image.proofs.header_bytes.write_header.Goals as goal

pub returns : goal.returns
unfolding header
returns c =
    let a = c.args in
    let room = c.requires.1 in
    let out = a.out.now in
    let leaves = le32 a.h.leaves in
    let nodes = le32 a.h.dense.nodes in
    let entries = le32 a.h.sparse.entries in
    let sparse = le32 a.h.sparse.nodes in
    let f : List ℕ = first_bytes a.h.version a.h.dense.levels a.h.real_width a.h.hash_width in
    let la = length_le32 a.h.leaves in
    let lb = length_le32 a.h.dense.nodes in
    let lc = length_le32 a.h.sparse.entries in
    let ld = length_le32 a.h.sparse.nodes in
    let x : List ℕ = f ++ leaves in
    let lx : length x ≡ 10 = length-append f leaves ∙ omega (arith, la) in
    let y : List ℕ = x ++ nodes in
    let ly : length y ≡ 14 = length-append x nodes ∙ omega (arith, lx, lb) in
    let z : List ℕ = y ++ entries in
    let lz : length z ≡ 18 = length-append y entries ∙ omega (arith, ly, lc) in
    let e₁ = overlaid_behind out _ _ f leaves 0 6 refl (omega (arith, la, room)) c.write_settings.ensures c.write32.ensures in
    let e₂ = overlaid_behind out _ _ x nodes 0 10 (omega (arith, lx)) (omega (arith, lb, room)) e₁ c.write32-2.ensures in
    let e₃ = overlaid_behind out _ _ y entries 0 14 (omega (arith, ly)) (omega (arith, lc, room)) e₂ c.write32-3.ensures in
    let e₄ = overlaid_behind out _ _ z sparse 0 18 (omega (arith, lz)) (omega (arith, ld, room)) e₃ c.write32-4.ensures in
    e₄ ∙ ap (overlaid out 0) (append_assoc y entries sparse ∙ append_assoc x nodes (entries ++ sparse) ∙ append_assoc f leaves (nodes ++ (entries ++ sparse)))
