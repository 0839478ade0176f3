-- A seek over an image's nodes: the lowest key of the leaf that is found, and the first leaf that a key has not passed, from the root on.
use Rattle.std.specs.Prelude.{ℕ, ◌<◌, ◌≡◌, drop}
use Rattle.std.proofs.Math.Path.{refl, sym, ap}
use Rattle.std.proofs.Common.{◌∙◌}
use Rattle.std.proofs.Math.Bool.{false}
use mathlib.Core.List.{List, [], ◌∷◌, ◌++◌}
use Rattle.std.proofs.Math.Option.{Option, none, some}
use native.Mathlib.Omega.{arith}
use Rattle.std.proofs.Math.ListN.{length}
use Rattle.spec.specs.Bytes.{Bytes, concat}
use Rattle.spec.specs.Leaves.{Leaf, real, lowest}
use Rattle.spec.specs.Nodes.{Node, read_leaves}
use Rattle.spec.specs.Questions.{Sought, found, greater}
use Rattle.spec.specs.Questions as spec
use Rattle.theory.proofs.LevelTrie.{trie}
use Rattle.image.specs.declared.Frame.{Frame}
use Rattle.nav_branches.specs.declared.LeafStop.{LeafStop}
use Rattle.nav_branches.specs.declared.LeafStop.TheVariants.{Nowhere, Exact, Open}
use Rattle.nav_nodes.specs.Accepted.{Accepted, nodes}
use Rattle.nav_branches.specs.Below.{below, OnLevel, Root, level_node, trie_root}
use Rattle.nav_nodes.specs.Counting.{counts}
use Rattle.nav_nodes.specs.FoundBranch.{node_count}
use Rattle.nav_nodes.specs.Slots.{slot_of}
use Rattle.query_descent.specs.Bounds.{low_rest, slot_passed, real_highest}
use Rattle.query_descent.specs.Followed.{node_length}
use Rattle.query_descent.specs.Next.{or_else, next_of, behind_each, next_from}
use Rattle.query_descent.specs.Ordered.{next_leaf, found_leaf}

-- ---- the lowest key of the leaf that is found

-- the lowest key of an optional leaf with h hash bits
abbrev pub low_each : ℕ → Option Leaf → Option Bytes
low_each h none = none
low_each h (some l) = some (lowest (real h l))

-- the lowest key of the leaf at a stop with this cut key: none; of an exact leaf the cut key itself; of an open leaf the cut key and the real bits of its suffix
abbrev pub low_of : ℕ → ℕ → List Node → LeafStop → Bytes → Option Bytes
low_of h w ns Nowhere cut = none
low_of h w ns Exact cut = some cut
low_of h w ns (Open v) cut = some (cut ++ low_rest (length cut) (drop h (slot_of w ns v.0)))

-- what a seek finds, by the lowest key of the leaf
abbrev pub found_low : Option Bytes → ℕ → Bytes → Sought
found_low none i start = spec.none
found_low (some k) i start = found i (greater start k)

pub found_each : (h : ℕ) (o : Option Leaf) (i : ℕ) (start : Bytes) → found_leaf h o i start ≡ found_low (low_each h o) i start
unfolding found_leaf
found_each h none i start = refl
found_each h (some l) i start = refl

-- ---- from the root

next_leaf_of : (h : ℕ) (ls : List Leaf) (k : Bytes) → next_leaf h ls k ≡ next_of (counts false (slot_passed h (length k)) k) ls
unfolding next_leaf next_of
next_leaf_of h [] k = refl
next_leaf_of h (l ∷ ls) k = rw (real_highest h l k, next_leaf_of h ls k)

behind_nothing : (o : Option Leaf) → or_else (behind_each [] o) none ≡ o
behind_nothing none = refl
behind_nothing (some l) = refl

module _ (s : Bytes) (f : Frame) (a : Accepted s f) where
  -- an image with leaves has a root, and all its leaves are below it
  pub root_of : 0 < length (read_leaves s) → Root (nodes s f) (read_leaves s)
  root_of h = trie_root f.width (read_leaves s) (nodes s f) a.realizable a.well_sized a.trie_is h

  -- one with nodes has leaves
  pub some_leaf : 0 < node_count f → 0 < length (read_leaves s)
  unfolding trie concat
  some_leaf h = go (read_leaves s) a.trie_is
    where
      go : (ls : List Leaf) → nodes s f ≡ concat (trie ls) → 0 < length ls
      go [] e = absurd (omega (arith, node_length s f a, ap length e))
      go (l ∷ ls) e = omega arith

  -- An image without nodes has no leaf that a key has not passed.
  pub next_nowhere : node_count f ≡ 0 → (k : Bytes) → next_leaf f.hash_width (read_leaves s) k ≡ none
  unfolding next_leaf
  next_nowhere z k = go (read_leaves s) root_of
    where
      go : (ls : List Leaf) → (0 < length ls → Root (nodes s f) ls) → next_leaf f.hash_width ls k ≡ none
      go [] r = refl
      go (l ∷ ls) r = absurd (omega (arith, level_node (nodes s f) 64 0 (r (omega arith)).on, node_length s f a))

  -- The root of an image with nodes stands on the first of 64 levels.
  pub root_level : 0 < node_count f → OnLevel (nodes s f) 64 0
  root_level h = (root_of (some_leaf h)).on

  -- The first leaf that a key has not passed, from the root on.
  pub next_root : 0 < node_count f → (k : Bytes) → next_leaf f.hash_width (read_leaves s) k ≡ next_from (slot_passed f.hash_width (length k)) (nodes s f) 64 0 [] k none
  unfolding next_from
  next_root h k =
      next_leaf_of f.hash_width (read_leaves s) k ∙ ap (next_of (counts false (slot_passed f.hash_width (length k)) k)) (sym (root_of (some_leaf h)).whole)
      ∙ sym (behind_nothing (next_of (counts false (slot_passed f.hash_width (length k)) k) (below (nodes s f) 64 0)))
