-- The three bytes, one after the other.
use Prim.Native.Nat.{◌%◌}
use native.Mathlib.Nat.{mod-lt, zero-lt-suc}
use native.Mathlib.Omega.{arith}
use lib.Pow.{shl_exact}
use Rattle.bits.proofs.NumberLaws.{number_set}
use Rattle.bits.proofs.ranks.set_number.Goals as goal

pub returns : goal.returns
returns c =
    let a = c.args in
    number_set a.out.now _ _ _ a.i a.v _ (shl_exact 16 (a.i % 8) 64 c.requires (omega (arith, mod-lt a.i (zero-lt-suc 7)))) c.set_ones.ensures c.set_ones-2.ensures c.set_ones-3.ensures
