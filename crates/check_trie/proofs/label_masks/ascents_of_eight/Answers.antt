-- The next label and the complement carry where the label is below it.
use mathlib.Core.Path.{ap, ◌∙◌}
use Prim.Native.Nat.{ℕ, ◌/◌}
use lib.Bits.{bit_and}
use Rattle.bits.proofs.ValueLaws.{Small}
use Rattle.check_trie.specs.LaneLaws.{low_bytes, ascents_eight}
use Rattle.check_trie.proofs.label_masks.ascents_of_eight.Goals as goal

pub returns : goal.returns
returns c =
    let even-bytes = c.even_bytes-even in
    let even-bytes2 = c.even_bytes-odd in
    let read64 = c.read64-w in
    let a = c.args in
    let small : Small a.sl.now = λ i. (c.shared_slice_known-1.given i).fits in
    c.gather.ensures
    ∙ ascents_eight a.sl.now small a.at even-bytes.result even-bytes2.result c.even_bytes-next.result
    (even-bytes.ensures.0 ∙ ap (λ (k : ℕ). bit_and k low_bytes) read64.ensures)
    (even-bytes2.ensures.0 ∙ ap (λ (k : ℕ). bit_and (k / 256) low_bytes) read64.ensures)
    (c.even_bytes-next.ensures.0 ∙ ap (λ (k : ℕ). bit_and (k / 256) low_bytes) c.read64.ensures)
