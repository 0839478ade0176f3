use lib.ListN.{get_or}
use Prim.Native.Nat.{◌-◌, ◌≤◌, ◌<◌}
use Rattle.nav_branches.proofs.branches.search.Given as goal

abbrev pub invariant-loop-lo : goal.invariant-loop-lo
invariant-loop-lo l = (l.from ≤ l.lo) × (l.lo ≤ l.hi) × (l.hi ≤ l.to) × (l.from < l.lo → get_or l.labels (l.lo - 1) 0 < l.y) × (l.hi < l.to → l.y ≤ get_or l.labels l.hi 0)

abbrev pub decreases-loop-lo : goal.decreases-loop-lo
decreases-loop-lo l = l.hi - l.lo
