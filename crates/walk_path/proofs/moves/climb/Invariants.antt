-- No leaf is passed on the way up: a node without a branch left is left for the one above it.
use Prim.Native.Nat.{◌≤◌}
use mathlib.Core.Path.{◌≡◌}
use Rattle.nav_nodes.specs.Accepted.{nodes}
use Rattle.nav_branches.specs.Paths.{onward}
use Rattle.walk_path.specs.Levels.{numbered, Levels}
use Rattle.walk_path.proofs.moves.climb.Given as goal

abbrev pub invariant-loop-branch : goal.invariant-loop-branch
invariant-loop-branch l = (l.d ≤ l.initial.d) × (l.y ≤ 256) × (onward (nodes l.image.bytes.now l.image.frame) (numbered l.trail.nodes) l.trail.labels l.initial.d l.initial.y ≡ onward (nodes l.image.bytes.now l.image.frame) (numbered l.trail.nodes) l.trail.labels l.d l.y) × Levels l.image.bytes.now l.image.frame l.trail.nodes l.trail.entries l.trail.labels l.d l.y

abbrev pub decreases-loop-branch : goal.decreases-loop-branch
decreases-loop-branch l = l.d
