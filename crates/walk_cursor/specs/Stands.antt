-- Where a cursor stands: at a leaf of the image, or behind the last one.
use Rattle.std.specs.Prelude.{ℕ, ◌+◌, ◌-◌, ◌<◌, ◌≤◌, ◌≡◌, true, false, get_or, drop}
use Rattle.std.proofs.Math.Option.{some}
use Rattle.std.proofs.Math.ListN.{get_elem?}
use Rattle.spec.specs.Bytes.{Bytes, low_bits}
use Rattle.spec.specs.Nodes.{read_leaves}
use Rattle.image.specs.declared.Frame.{Frame}
use Rattle.image.specs.declared.Leaf.{Leaf as Value}
use Rattle.image.specs.declared.ValuePos.{ValuePos}
use Rattle.image.specs.Value.{leaf_of, Sized}
use Rattle.nav_branches.specs.declared.LeafStop.TheVariants as Stop
use Rattle.nav_nodes.specs.Accepted.{Accepted, nodes}
use Rattle.nav_branches.specs.Paths.{standing}
use Rattle.nav_branches.specs.PathSteps.{Ends}
use Rattle.nav_nodes.specs.Slots.{slot_of}
use Rattle.nav_branches.specs.declared.LeafEnd.{LeafEnd}
use Rattle.walk_path.specs.declared.moves.Resume.{Resume}
use Rattle.walk_path.specs.declared.moves.Trail.{Trail}
use Rattle.walk_path.specs.Levels.{numbered, Kept, Room}
use Rattle.walk_cursor.specs.declared.Cursor.{Cursor}

-- The cursor's leaf and those behind its path are the leaves of the image from its place on.
pub record Stands (s : Bytes) (f : Frame) (c : Cursor) : Type 0 where
  -- the place is a leaf's, or behind the last one
  pub within : c.place ≤ f.leaves
  pub ends : Ends s f (numbered c.trail.nodes) c.end.depth c.end.stop
  pub leaves_are : drop c.place (read_leaves s) ≡ standing f.width (nodes s f) (numbered c.trail.nodes) c.trail.labels c.end.depth c.end.stop
  -- what it keeps of the levels holds
  pub kept : Kept s f c.trail.nodes c.trail.entries c.trail.labels c.end
  pub room : Room c.trail.nodes c.trail.entries c.trail.labels

-- The cursor stands at a leaf of the image.
pub record AtLeaf (s : Bytes) (f : Frame) (c : Cursor) : Type 0 where
  pub accepted : Accepted s f
  pub stands : Stands s f c
  pub inside : c.place < f.leaves

-- The cursor stands at this place.
pub record StandsAt (s : Bytes) (f : Frame) (place : ℕ) (c : Cursor) : Type 0 where
  pub stands : Stands s f c
  pub place_is : c.place ≡ place

-- The cursor stands at no leaf.
pub record NoLeaf (place : ℕ) (c : Cursor) : Type 0 where
  pub stop_is : c.end.stop ≡ Stop.Nowhere
  pub depth_is : c.end.depth ≡ 0
  pub place_is : c.place ≡ place
  pub room : Room c.trail.nodes c.trail.entries c.trail.labels

-- the cursor of a trail at a place
abbrev pub cursor_of : Trail → LeafEnd → ℕ → Cursor
cursor_of t e place = record { trail = t; end = e; place = place }

-- The cursor of the trail stands at a leaf.
pub record CanAdvance (s : Bytes) (f : Frame) (t : Trail) (e : LeafEnd) : Type 0 where
  pub place : ℕ
  pub at : AtLeaf s f (cursor_of t e place)

-- The cursor of the trail t stands at the next place.
pub record Advances (s : Bytes) (f : Frame) (t₀ : Trail) (e₀ : LeafEnd) (t : Trail) (e : LeafEnd) : Type 0 where
  pub stands : (place : ℕ) → AtLeaf s f (cursor_of t₀ e₀ place) → Stands s f (cursor_of t e (place + 1))

-- An open leaf has a label before it, and at most 64.
abbrev pub HasEnd : LeafEnd → Type 0
HasEnd e = (v : ValuePos) → e.stop ≡ Stop.Open v → (0 < e.depth) × (e.depth ≤ 64)

-- The slot of an open leaf is one of the image's.
abbrev pub SlotInside : Frame → LeafEnd → Type 0
SlotInside f e = (v : ValuePos) → e.stop ≡ Stop.Open v → v.0 < f.leaves

-- Where the search for the next leaf starts: at the branches of an exact leaf, or behind the label of an open one.
pub record ResumesFrom (cut : Bytes) (e : LeafEnd) (r : Resume) : Type 0 where
  pub exact_end : e.stop ≡ Stop.Exact → (r.depth ≡ e.depth) × (r.from ≡ 0)
  pub open_end : (v : ValuePos) → e.stop ≡ Stop.Open v → (r.depth ≡ e.depth - 1) × (r.from ≡ get_or cut (e.depth - 1) 0 + 1) × (r.from ≤ 256)

-- The leaf by value where a path with these labels ends: its suffix bits are those of the slot of an open leaf, and none are set for an exact one.
pub record ReadsLeaf (s : Bytes) (f : Frame) (cut : Bytes) (e : LeafEnd) (v : Value) : Type 0 where
  pub cut_is : v.cut ≡ cut
  pub len_is : v.len ≡ e.depth
  pub width_is : v.width ≡ f.width
  pub exact_end : e.stop ≡ Stop.Exact → (v.exact ≡ true) × (v.suffix ≡ 0)
  pub open_end : (p : ValuePos) → e.stop ≡ Stop.Open p → (v.exact ≡ false) × (low_bits f.width v.suffix ≡ slot_of f.width (nodes s f) p.0)

-- The leaf by value is the one at this place of the image, and its key and suffix are in range.
pub record IsLeaf (s : Bytes) (place : ℕ) (v : Value) : Type 0 where
  pub leaf_is : get_elem? (read_leaves s) place ≡ some (leaf_of v)
  pub sized : Sized v
