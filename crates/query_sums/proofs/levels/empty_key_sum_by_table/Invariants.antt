-- The loop, from the last level up: the sum is that of the first nodes from level t on, and the next level's first node is known.
use Prim.Native.Nat.{◌-◌, ◌*◌, ◌≤◌}
use mathlib.Core.Path.{◌≡◌}
use mathlib.Core.List.{[]}
use Rattle.nav_nodes.specs.Accepted.{nodes}
use Rattle.query_descent.specs.LevelSums.{slots_below}
use Rattle.query_sums.specs.LevelTable.{level_count, level_at}
use Rattle.query_sums.proofs.levels.empty_key_sum_by_table.Given as goal

abbrev pub invariant-loop-t : goal.invariant-loop-t
invariant-loop-t l = (l.t ≤ level_count l.image.bytes.now l.image.frame) × (l.next ≡ level_at l.image.bytes.now l.image.frame l.t) × (l.sum ≡ slots_below (nodes l.image.bytes.now l.image.frame) (64 - l.t) (level_at l.image.bytes.now l.image.frame l.t) []) × (l.sum ≤ (64 - l.t) * 65535)
