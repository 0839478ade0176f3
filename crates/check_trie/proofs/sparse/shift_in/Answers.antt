-- The bits behind those of a word are its own, shifted, and the lowest of the next word.
use native.Mathlib.Nat.{mod-eq_of_lt}
use lib.Bits.{bit_or}
use mathlib.Core.Path.{ap}
use Prim.Native.Nat.{◌/◌}
use native.Mathlib.Omega.{arith}
use Rattle.check_trie.proofs.sparse.shift_in.Goals as goal

pub returns : goal.returns
returns c =
    ap (bit_or (c.args.x / 2)) (mod-eq_of_lt (omega arith))
