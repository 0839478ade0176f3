-- The leaf that a seek reaches, by its lowest key: down from a node or a branch to the first leaf, with the labels in a key.
use Rattle.std.specs.Prelude.{ℕ, ◌+◌, ◌-◌, ◌<◌, ◌≤◌, ◌≡◌, refl, true, false, length, get_or, take, set}
use Rattle.std.proofs.Common.{sym, ap, ◌∙◌, arith, length-set, take-take}
use Rattle.std.proofs.Math.Option.{Option, none, some}
use Rattle.spec.specs.Bytes.{Bytes, Bits}
use Rattle.spec.specs.Leaves.{Leaf, real, lowest}
use Rattle.image.specs.declared.Frame.{Frame}
use Rattle.image.specs.declared.NodeNum.{NodeNum}
use Rattle.image.specs.declared.ValuePos.{ValuePos}
use Rattle.nav_nodes.specs.declared.BranchKind.TheVariants as Kind
use Rattle.nav_nodes.specs.declared.FirstBranch.{FirstBranch}
use Rattle.nav_nodes.specs.declared.Found.{Found}
use Rattle.nav_branches.specs.declared.LeafEnd.{LeafEnd}
use Rattle.nav_branches.specs.declared.LeafStop.{LeafStop}
use Rattle.nav_branches.specs.declared.LeafStop.TheVariants.{Nowhere, Exact, Open}
use Rattle.nav_nodes.specs.declared.NextBranch.{NextBranch}
use Rattle.nav_nodes.specs.Accepted.{Accepted, nodes}
use Rattle.nav_branches.specs.Below.{OnLevel, level_left}
use Rattle.nav_nodes.specs.FoundBranch.{IsFirstBranch}
use Rattle.nav_branches.specs.PathSteps.{BranchFrom, NodeBranch, own_branch, first_there, leaf_slot, child_on}
use Rattle.nav_nodes.specs.Positions.{child_at, slot_at}
use Rattle.nav_nodes.specs.Slots.{slot_of}
use Rattle.query_descent.specs.Bounds.{low_rest}
use Rattle.query_descent.specs.FirstLeaf.{leaf_below, leaf_behind, below_exact, below_plain, behind_own, behind_leaf, behind_child}
use Rattle.query_descent.specs.Seeks.{low_each, low_of}
use Rattle.query_descent.specs.Seeking.{HasHigher}

-- An optional leaf is the one at this stop, whose cut key is the first `depth` bytes of `cut`.
pub record HasKey (s : Bytes) (f : Frame) (leaf : Option Leaf) (stop : LeafStop) (cut : Bytes) (depth : ℕ) : Type 0 where
  -- both have the same lowest key
  pub low_is : low_each f.hash_width leaf ≡ low_of f.hash_width f.width (nodes s f) stop (take depth cut)
  -- a cut key has at most 64 bytes
  pub depth_in : depth ≤ 64
  -- an open leaf's slot is one of the leaves
  pub slot_in : (v : ValuePos) → stop ≡ Open v → v.0 < f.leaves

-- A leaf at a stop, whose cut key is the first `depth` bytes of a key of 64.
pub record LeafAt (s : Bytes) (f : Frame) (stop : LeafStop) (key : Bytes) (depth : ℕ) : Type 0 where
  pub accepted : Accepted s f
  pub there : stop ≡ Nowhere → ⊥
  pub slot_in : (v : ValuePos) → stop ≡ Open v → v.0 < f.leaves
  pub key_size : length key ≡ 64
  pub depth_in : depth ≤ 64

-- The lowest key of the leaf at a stop with this cut key is the first n bytes of a key of 64.
pub record LowestKey (s : Bytes) (f : Frame) (stop : LeafStop) (cut key : Bytes) (n : ℕ) : Type 0 where
  pub low_is : low_of f.hash_width f.width (nodes s f) stop cut ≡ some (take n key)
  pub upto : n ≤ 64
  pub key_size : length key ≡ 64

-- no leaf
pub no_key : (s : Bytes) (f : Frame) (cut : Bytes) → HasKey s f none Nowhere cut 0
no_key s f cut = record { low_is = refl; depth_in = omega arith; slot_in = λ v q. let z : ◌≡◌ {A = ℕ} 0 1 = cc in absurd (omega arith) }

-- the open leaf behind the first d bytes of `cut`
pub open_key : (s : Bytes) (f : Frame) (v : ValuePos) (cut : Bytes) (d : ℕ) → d ≤ 64 → v.0 < f.leaves → HasKey s f (some (record { cut = take d cut; exact = false; suffix = slot_of f.width (nodes s f) v.0 })) (Open v) cut d
unfolding lowest low_rest real
open_key s f v cut d h i = record { low_is = refl; depth_in = h; slot_in = λ u q. let e : v ≡ u = cc in rw e at i }

-- the exact leaf there
exact_key : (s : Bytes) (f : Frame) (suffix : Bits) (cut : Bytes) (d : ℕ) → d ≤ 64 → HasKey s f (some (record { cut = take d cut; exact = true; suffix = suffix })) Exact cut d
unfolding lowest real
exact_key s f suffix cut d h = record { low_is = refl; depth_in = h; slot_in = λ u q. let z : ◌≡◌ {A = ℕ} 0 1 = cc in absurd (omega arith) }

-- ---- a key that begins with the start

-- the key begins with the start
abbrev pub BeginsWith : Bytes → Bytes → Type 0
BeginsWith key start = take (length start) key ≡ start

-- its front is that of the start
pub same_front : (key start : Bytes) → BeginsWith key start → (d : ℕ) → d ≤ length start → take d key ≡ take d start
same_front key start b d h = sym (take-take d (length start) key h) ∙ ap (take d) b

-- ---- the way down to the first leaf

-- The leaf is the first behind branch b of node m, to which the first d bytes of a key of 64 lead.
pub record FirstBehind (s : Bytes) (f : Frame) (leaf : Option Leaf) (key : Bytes) (m d : ℕ) (b : NextBranch) : Type 0 where
  pub accepted : Accepted s f
  pub branch : NodeBranch s f m d b
  pub key_size : length key ≡ 64
  pub leaf_is : leaf ≡ leaf_behind (nodes s f) key m d b.label

-- The leaf is the first at or below node m, to which the first d bytes of a key of 64 lead.
pub record FirstBelow (s : Bytes) (f : Frame) (leaf : Option Leaf) (key : Bytes) (m d : ℕ) : Type 0 where
  pub accepted : Accepted s f
  pub level : OnLevel (nodes s f) (64 - d) m
  pub key_size : length key ≡ 64
  pub leaf_is : leaf ≡ leaf_below (nodes s f) key m d

-- The leaf is the one where a way from the root ends, whose labels are at the front of a key of 64 bytes.
pub record Reached (s : Bytes) (f : Frame) (leaf : Option Leaf) (key : Bytes) (end : LeafEnd) : Type 0 where
  pub key_is : HasKey s f leaf end.stop key end.depth
  pub key_size : length key ≡ 64

-- a node and its first branch
module _ {s : Bytes} {f : Frame} {leaf : Option Leaf} {key : Bytes} {m d : ℕ} (w : FirstBelow s f leaf key m d) where
  -- a node on its level stands above the 64th
  below_deep : d < 64
  below_deep = omega (arith, level_left (nodes s f) (64 - d) m w.level)

  module _ (first : FirstBranch) (n : IsFirstBranch s f m first) where
    -- the node is an exact leaf
    pub exact_reached : first.exact ≡ true → Reached s f leaf key (record { depth = d; stop = Exact })
    exact_reached e =
        record { key_is = rw (w.leaf_is ∙ below_exact (nodes s f) key m d below_deep (sym n.exact_is ∙ e)) (exact_key s f _ key d (omega (arith, below_deep))); key_size = w.key_size }

    -- it is none, and has a first branch
    pub first_behind : first.exact ≡ false → FirstBehind s f leaf key m d first.branch
    first_behind e =
        let there = first_there s f (64 - d) m first.branch w.level n.branch_is in
        record {
          accepted = w.accepted;
          branch = record { deep = below_deep; on = w.level; there = there; branch_is = own_branch s f (64 - d) m 0 first.branch w.level n.branch_is there };
          key_size = w.key_size;
          leaf_is = w.leaf_is ∙ below_plain (nodes s f) key m d below_deep (sym n.exact_is ∙ e) ∙ behind_own s f key m d 0 first.branch w.level n.branch_is there;
        }

-- a branch, whose label goes to the key
module _ {s : Bytes} {f : Frame} {leaf : Option Leaf} {key : Bytes} {m d : ℕ} {b : NextBranch} (w : FirstBehind s f leaf key m d b) where
  label_size : length (set key d b.label) ≡ 64
  label_size = length-set key d b.label ∙ w.key_size

  -- it ends at an open leaf
  pub open_reached : (v : ValuePos) → v.0 ≡ slot_at s f m b.at.0 → b.kind ≡ Kind.Leaf → Reached s f leaf (set key d b.label) (record { depth = d + 1; stop = Open v })
  open_reached v is ends = record {
    key_is =
        rw (w.leaf_is ∙ behind_leaf s f w.accepted key m d b w.branch w.key_size v is ends)
        (open_key s f v (set key d b.label) (d + 1) (omega (arith, w.branch.deep)) (leaf_slot s f w.accepted m d b w.branch v is ends));
    key_size = label_size;
  }

  -- it continues to a node
  pub child_below : (c : NodeNum) → c.0 ≡ child_at s f m b.at.0 → b.kind ≡ Kind.Child → FirstBelow s f leaf (set key d b.label) c.0 (d + 1)
  child_below c is continues = record {
    accepted = w.accepted;
    level = child_on s f w.accepted m d b w.branch c is continues;
    key_size = label_size;
    leaf_is = w.leaf_is ∙ behind_child s f w.accepted key m d b w.branch w.key_size c is continues;
  }

-- ---- from the way along a start

module _ {s : Bytes} {f : Frame} (a : Accepted s f) {key start : Bytes} (size : length key ≡ 64) (begins : BeginsWith key start) {m d : ℕ} where
  -- the node where the way ends
  pub start_below : d ≤ length start → OnLevel (nodes s f) (64 - d) m → FirstBelow s f (leaf_below (nodes s f) start m d) key m d
  start_below h on = record { accepted = a; level = on; key_size = size; leaf_is = rw (same_front key start begins d h) }

  -- the first branch of a node on the way with a higher label than the start's byte
  pub start_behind : {at : Found} {b : NextBranch} → d < length start → length start ≤ 64 → HasHigher s f start m d at → BranchFrom s f m (get_or start d 0 + 1) b → FirstBehind s f (leaf_behind (nodes s f) start m d (get_or start d 0 + 1)) key m d b
  start_behind {at} {b} h short up is =
      let there : b.kind ≡ Kind.Absent → ⊥ = λ e. up.label_there (sym is.kind_is ∙ e) in
      record {
        accepted = a;
        branch = record { deep = omega arith; on = up.level; there = there; branch_is = own_branch s f (64 - d) m (get_or start d 0 + 1) b up.level is there };
        key_size = size;
        leaf_is = behind_own s f start m d (get_or start d 0 + 1) b up.level is there ∙ rw (same_front key start begins d (omega arith));
      }
