-- Each level is one step of the laws in `Levels`; the levels left fall.
use Prim.Native.Nat.{◌-◌}
use Rattle.query_sums.proofs.levels.+go_down.Given as goal

abbrev pub decreases-go_down : goal.decreases-go_down
decreases-go_down l = l.depth - l.from.depth
