-- The disjunction of the four words tells.
use mathlib.Core.Path.{ap, ap₂, ◌∙◌}
use lib.Bits.{bit_or}
use lib.Dec.{ltb}
use Rattle.bits.proofs.ValueLaws.{Small}
use Rattle.check_trie.specs.DensePositions.{some_set}
use Rattle.check_trie.proofs.dense.some_set.Goals as goal

pub returns : goal.returns
returns c =
    let a = c.args in
    let small : Small a.row.now = λ i. (c.shared_slice_known-1.given i).fits in
    ap (ltb 0) (ap₂ bit_or (ap₂ bit_or (ap₂ bit_or c.read64.ensures c.read64-2.ensures) c.read64-3.ensures) c.read64-4.ensures) ∙ some_set a.row.now small
