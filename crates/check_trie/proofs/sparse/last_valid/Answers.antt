-- The last entry of a node is judged by its two bits.
use mathlib.Core.Path.{ap₂}
use Prim.Native.Nat.{ℕ}
use mathlib.Core.Bool.{not, ◌||◌}
use lib.Dec.{eqb}
use Rattle.check_trie.proofs.sparse.last_valid.Goals as goal

pub returns : goal.returns
returns c =
    ap₂ (λ (a b : ℕ). not (eqb a 1) || eqb b 1) c.bit_at-start.ensures c.bit_at-continues.ensures
