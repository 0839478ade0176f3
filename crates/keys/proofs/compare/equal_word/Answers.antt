use native.Mathlib.Omega.{arith}
use Rattle.keys.proofs.PrefixLaws.{word_equal}
use Rattle.bits.proofs.ValueLaws.{Small}
use Rattle.keys.proofs.compare.equal_word.Goals as goal

pub returns : goal.returns
returns c =
    let a = c.args in
    let k = c.equal_bytes in
    let small₁ : Small a.p.now = λ i. (c.shared_slice_known-1.given i).fits in
    let small₂ : Small a.q.now = λ i. (c.shared_slice_known-2-1.given i).fits in
    word_equal a.p.now a.q.now small₁ small₂ a.i k.result (omega arith) (omega arith) c.read64.ensures c.read64-2.ensures k.ensures.0 k.ensures.1 k.ensures.2
