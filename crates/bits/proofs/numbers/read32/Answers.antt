use mathlib.Core.Path.{◌≡◌}
use Prim.Native.Nat.{ℕ, ◌+◌}
use native.Mathlib.Omega.{arith}
use lib.ListN.{get_or, drop}
use lib.Seq.{get_or-drop}
use native.Mathlib.Nat.{add-zero}
use Rattle.spec.specs.Bytes.{from32}
use Rattle.bits.proofs.numbers.read32.Goals as goal

pub returns : goal.returns
unfolding from32
returns c =
    let a = c.args in
    let g : (k : ℕ) → get_or (drop a.at a.s.now) k 0 ≡ get_or a.s.now (a.at + k) 0 = λ k. get_or-drop a.at a.s.now k 0 in
    (omega (arith, c.from_le_bytes.ensures, rw add-zero at (g 0), g 1, g 2, g 3), omega arith)
