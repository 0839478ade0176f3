-- One more carries where the label is FF.
use mathlib.Core.Path.{ap, ◌∙◌}
use Prim.Native.Nat.{ℕ, ◌/◌}
use lib.Bits.{bit_and}
use Rattle.bits.proofs.ValueLaws.{Small}
use Rattle.check_trie.specs.LaneLaws.{low_bytes, fulls_eight}
use Rattle.check_trie.proofs.label_masks.full_of_eight.Goals as goal

pub returns : goal.returns
returns c =
    let even-bytes = c.even_bytes-even in
    let read64 = c.read64-w in
    let a = c.args in
    let small : Small a.sl.now = λ i. (c.shared_slice_known-1.given i).fits in
    c.gather.ensures
    ∙ fulls_eight a.sl.now small a.at even-bytes.result c.even_bytes-odd.result
    (even-bytes.ensures.0 ∙ ap (λ (k : ℕ). bit_and k low_bytes) read64.ensures)
    (c.even_bytes-odd.ensures.0 ∙ ap (λ (k : ℕ). bit_and (k / 256) low_bytes) read64.ensures)
