-- The way down from a node of a path to the first leaf, step by step.
use Rattle.std.specs.Prelude.{ℕ, ◌+◌, ◌-◌, ◌<◌, ◌≡◌, refl, true, false, length, set}
use Rattle.std.proofs.Common.{sym, ◌∙◌, length-set}
use Rattle.spec.specs.Bytes.{Bytes}
use Rattle.image.specs.declared.Frame.{Frame}
use Rattle.image.specs.declared.NodeNum.{NodeNum}
use Rattle.image.specs.declared.ValuePos.{ValuePos}
use Rattle.nav_nodes.specs.declared.BranchKind.TheVariants as Kind
use Rattle.nav_branches.specs.declared.LeafStop.TheVariants as Stop
use Rattle.nav_nodes.specs.declared.FirstBranch.{FirstBranch}
use Rattle.nav_nodes.specs.declared.NextBranch.{NextBranch}
use Rattle.nav_branches.specs.declared.Path.{Path}
use Rattle.nav_nodes.specs.Accepted.{Accepted, nodes}
use Rattle.nav_nodes.specs.Positions.{child_at, slot_at}
use Rattle.nav_nodes.specs.FoundBranch.{IsFirstBranch}
use Rattle.nav_branches.specs.Paths.{node_on, onward, downward, OnLevels, downward_exact, downward_plain}
use Rattle.nav_branches.specs.Below.{OnLevel}
use Rattle.nav_branches.specs.PathSteps.{BranchFrom, HasBranch, ends_exact, ends_open, branch_found, branch_onward, first_there, leaf_onward, leaf_slot, child_on, child_deep, child_node, child_levels, child_downward}
use Rattle.nav_branches.specs.PathContracts.{Reaches}

-- On the way down behind the branch with label y of the path's node at a depth, node d of the path p has the branch b, and no leaf is passed.
pub record Descends (s : Bytes) (f : Frame) (path : Path) (depth y : ℕ) (p : Path) (d : ℕ) (b : NextBranch) : Type 0 where
  pub branch : HasBranch s f p.nodes d b
  -- the path has room for 64 nodes and labels
  pub nodes_room : length p.nodes ≡ 64
  pub labels_room : length p.labels ≡ 64
  -- the leaves from the branch on are those that were asked for
  pub leaves_are : onward (nodes s f) path.nodes path.labels depth y ≡ onward (nodes s f) p.nodes p.labels d b.label
  -- where the nodes to the depth stand on their levels, so do those to d
  pub levels : OnLevels (nodes s f) path.nodes depth → OnLevels (nodes s f) p.nodes d

-- the first branch
pub descends_first : (s : Bytes) (f : Frame) (path : Path) (depth : ℕ) (b : NextBranch) → length path.nodes ≡ 64 → length path.labels ≡ 64 → HasBranch s f path.nodes depth b
    → Descends s f path depth b.label path depth b
descends_first s f path depth b n l h = record { branch = h; nodes_room = n; labels_room = l; leaves_are = refl; levels = λ on. on }

module _ (s : Bytes) (f : Frame) (a : Accepted s f) (path : Path) (depth y : ℕ) (p : Path) (d : ℕ) (b : NextBranch) (w : Descends s f path depth y p d b) where
  -- the branch ends at an open leaf
  pub leaf_reached : (v : ValuePos) → v.0 ≡ slot_at s f (node_on p.nodes d) b.at.0 → b.kind ≡ Kind.Leaf
      → Reaches s f path depth (onward (nodes s f) path.nodes path.labels depth y) (record { path = record { nodes = p.nodes; labels = set p.labels d b.label }; stop = Stop.Open v; depth = d + 1 })
  leaf_reached v is ends =
      let inside = leaf_slot s f a (node_on p.nodes d) d b w.branch v is ends in
      record {
        leaves_are = w.leaves_are ∙ leaf_onward s f a p.nodes p.labels d b w.branch v is ends w.labels_room;
        levels = λ on. ends_open s f p.nodes d w.branch.deep (w.levels on) v inside;
      }

  -- it continues to a node
  module _ (c : NodeNum) (is : c.0 ≡ child_at s f (node_on p.nodes d) b.at.0) (continues : b.kind ≡ Kind.Child) where
    pub next_deep : d + 1 < 64
    next_deep = child_deep s f a (node_on p.nodes d) d b w.branch c is continues

    pub next_on : OnLevel (nodes s f) (64 - (d + 1)) c.0
    next_on = child_on s f a (node_on p.nodes d) d b w.branch c is continues

    next_node : node_on (set p.nodes (d + 1) c) (d + 1) ≡ c.0
    next_node = child_node s f a p.nodes p.labels d b w.branch c is continues w.nodes_room

    next_levels : OnLevels (nodes s f) path.nodes depth → OnLevels (nodes s f) (set p.nodes (d + 1) c) (d + 1)
    next_levels on = child_levels s f a p.nodes p.labels d b w.branch c is continues w.nodes_room (w.levels on)

    next_leaves : onward (nodes s f) path.nodes path.labels depth y ≡ downward (nodes s f) (set p.nodes (d + 1) c) (set p.labels d b.label) (d + 1)
    next_leaves = w.leaves_are ∙ child_downward s f a p.nodes p.labels d b w.branch c is continues w.nodes_room w.labels_room

    module _ (first : FirstBranch) (n : IsFirstBranch s f c.0 first) where
      -- the node is an exact leaf
      pub exact_reached : first.exact ≡ true
          → Reaches s f path depth (onward (nodes s f) path.nodes path.labels depth y) (record { path = record { nodes = set p.nodes (d + 1) c; labels = set p.labels d b.label }; stop = Stop.Exact; depth = d + 1 })
      exact_reached e = record {
        leaves_are = next_leaves ∙ downward_exact (nodes s f) (set p.nodes (d + 1) c) (set p.labels d b.label) (d + 1) next_deep f.width (rw next_node (sym n.exact_is ∙ e));
        levels = λ on. ends_exact s f (set p.nodes (d + 1) c) (d + 1) next_deep (next_levels on);
      }

      -- it is none, and has a first branch
      pub descends_next : first.exact ≡ false → Descends s f path depth y (record { nodes = set p.nodes (d + 1) c; labels = set p.labels d b.label }) (d + 1) first.branch
      descends_next e =
          let is : BranchFrom s f (node_on (set p.nodes (d + 1) c) (d + 1)) 0 first.branch = rw next_node n.branch_is in
          let on : OnLevel (nodes s f) (64 - (d + 1)) (node_on (set p.nodes (d + 1) c) (d + 1)) = rw next_node next_on in
          let there = first_there s f (64 - (d + 1)) c.0 first.branch next_on n.branch_is in
          record {
            branch = branch_found s f (set p.nodes (d + 1) c) (set p.labels d b.label) (d + 1) 0 first.branch is next_deep on there;
            nodes_room = length-set p.nodes (d + 1) c ∙ w.nodes_room;
            labels_room = length-set p.labels d b.label ∙ w.labels_room;
            leaves_are = next_leaves ∙ downward_plain (nodes s f) (set p.nodes (d + 1) c) (set p.labels d b.label) (d + 1) next_deep (rw next_node (sym n.exact_is ∙ e))
                ∙ branch_onward s f (set p.nodes (d + 1) c) (set p.labels d b.label) (d + 1) 0 first.branch is next_deep on there;
            levels = next_levels;
          }
