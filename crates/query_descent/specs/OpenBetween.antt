-- An open leaf whose cut key begins two bounds: whether it has a possible key between them.
use Rattle.std.specs.Prelude.{ℕ, ◌<◌, ◌≤◌, Bool, not, ◌&&◌, length, drop}
use Rattle.spec.specs.Bytes.{Bytes}
use Rattle.image.specs.declared.Frame.{Frame}
use Rattle.nav_nodes.specs.Accepted.{Accepted, nodes}
use Rattle.nav_nodes.specs.Slots.{slot_of}
use Rattle.query_descent.specs.Bounds.{slot_passed, slot_reached}

-- The slot of an open leaf whose cut key is the first d bytes of both bounds.
pub record OpenBetween (s : Bytes) (f : Frame) (lo hi : Bytes) (slot d : ℕ) : Type 0 where
  pub accepted : Accepted s f
  pub slot_in : slot < f.leaves
  pub lo_in : d ≤ length lo
  pub hi_in : d ≤ length hi
  pub lo_short : length lo ≤ 64
  pub hi_short : length hi ≤ 64

-- whether that leaf neither ends below the lower bound nor starts above the upper
abbrev pub open_between : Bytes → Frame → Bytes → Bytes → ℕ → ℕ → Bool
open_between s f lo hi slot d =
    not (slot_passed f.hash_width (length lo) (slot_of f.width (nodes s f) slot) (drop d lo)) && slot_reached f.hash_width (length hi) (slot_of f.width (nodes s f) slot) (drop d hi)
