-- The loop: the nodes before i are judged.
use mathlib.Core.Path.{◌≡◌}
use Prim.Native.Nat.{◌*◌, ◌-◌, ◌≤◌}
use mathlib.Core.Bool.{true, ◌&&◌}
use Rattle.spec.specs.Trie.{covered}
use Rattle.check_levels.specs.Ranges.{all_from}
use Rattle.check_levels.specs.DenseNodes.{dense_nodes_valid}
use Rattle.check_levels.specs.Positions.{bits}
use Rattle.check_trie.specs.DensePositions.{dense_node_valid}
use Rattle.check_trie.proofs.dense.dense_valid.Given as goal

abbrev pub invariant-loop-i : goal.invariant-loop-i
invariant-loop-i l = (l.i ≤ l.n) × (covered (bits l.dc (256 * l.n)) (bits l.dl (256 * l.n)) && dense_nodes_valid true (bits l.dl (256 * l.n)) (bits l.dc (256 * l.n)) (bits l.dp l.n) ≡ all_from (dense_node_valid l.dl l.dc l.dp) l.i (l.n - l.i))
