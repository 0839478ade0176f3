-- What the functions that find the first leaf that a start has not passed ask and give.
use Rattle.std.specs.Prelude.{◌≤◌, ◌≡◌, length, Option}
use Rattle.spec.specs.Bytes.{Bytes}
use Rattle.spec.specs.Nodes.{read_leaves}
use Rattle.image.specs.declared.Frame.{Frame}
use Rattle.nav_branches.specs.declared.LeafStop.TheVariants.{Nowhere}
use Rattle.nav_nodes.specs.Accepted.{Accepted}
use Rattle.query_descent.specs.declared.HigherLabel.{HigherLabel}
use Rattle.query_seek.specs.LeafKeys.{BeginsWith, Reached}
use Rattle.query_descent.specs.Ordered.{next_leaf}
use Rattle.query_descent.specs.Seeking.{HigherIn, KeyFollowed}
use Rattle.query_descent.specs.Summed.{Summed}
use Rattle.query_seek.specs.declared.way.Way.{Way}
use Rattle.query_seek.specs.declared.next.NextLeaf.{NextLeaf}

-- This is the last higher label that a start has passed, and a key of 64 bytes begins with the start.
pub record PassedHigher (s : Bytes) (f : Frame) (start : Bytes) (higher : Option HigherLabel) (key : Bytes) : Type 0 where
  pub accepted : Accepted s f
  pub short : length start ≤ 64
  pub key_size : length key ≡ 64
  pub begins : BeginsWith key start
  pub inside : HigherIn s f start (length start) higher

-- The start of a seek has been followed this way, and a key of 64 bytes begins with it.
pub record WayFollowed (s : Bytes) (f : Frame) (start : Bytes) (way : Way) (key : Bytes) : Type 0 where
  pub accepted : Accepted s f
  pub short : length start ≤ 64
  pub key_size : length key ≡ 64
  pub begins : BeginsWith key start
  pub ended : KeyFollowed s f start way.bound.end way.higher way.bound.level.node.0 way.bound.level.depth way.bound.level.sum

-- The first leaf that the start has not passed, with its cut key at the front of a key, and the start's bound.
pub record IsNextLeaf (s : Bytes) (f : Frame) (start key : Bytes) (r : NextLeaf) : Type 0 where
  pub leaf : Reached s f (next_leaf f.hash_width (read_leaves s) start) key r.end
  -- where there is a leaf, the bound is that of the start
  pub bound : (r.end.stop ≡ Nowhere → ⊥) → Summed s f start r.level.node.0 r.level.depth r.level.sum
