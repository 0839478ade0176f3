use native.Mathlib.Omega.{arith}
use native.Mathlib.Nat.{add-zero}
use Rattle.bits.proofs.ValueLaws.{Small, word_bytes}
use Rattle.bits.proofs.numbers.read64.Goals as goal

pub returns : goal.returns
returns c =
    let a = c.args in
    let small : Small a.s.now = λ i. (c.shared_slice_known-9-1.given i).fits in
    omega (arith, c.from_le_bytes.ensures, rw add-zero at (word_bytes a.at a.s.now small))
