-- The nodes before index i have been copied.
use Prim.Native.Nat.{ℕ, ◌<◌, ◌≤◌}
use mathlib.Core.Path.{◌≡◌}
use lib.ListN.{length, get_or}
use Rattle.nav_branches.specs.Paths.{node_on}
use Rattle.walk_cursor.proofs.locate.node_numbers.Given as goal

abbrev pub invariant-loop-i : goal.invariant-loop-i
invariant-loop-i l = (length l.numbers ≡ 64) × (l.i ≤ 64) × ((j : ℕ) → j < l.i → get_or l.numbers j 0 ≡ node_on l.path.nodes j)
