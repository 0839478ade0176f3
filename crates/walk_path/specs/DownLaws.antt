-- The way down behind a branch of the path, with the levels kept: a branch is taken, and the node behind it entered.
use Rattle.std.specs.Prelude.{ℕ, ◌+◌, ◌-◌, ◌<◌, ◌≡◌, refl, Bool, true, false, List, length, get_or, set, ltb}
use Rattle.std.proofs.Common.{sym, ap, ◌∙◌, arith, length-set, get_or-set_same, get_or-set_other, ltb-true, ltb-false}
use Rattle.std.proofs.lemmas.List.{length-map}
use Rattle.spec.specs.Bytes.{Bytes}
use Rattle.image.specs.declared.Frame.{Frame}
use Rattle.image.specs.declared.ValuePos.{ValuePos}
use Rattle.nav_nodes.specs.declared.BranchKind.TheVariants as Kind
use Rattle.nav_branches.specs.declared.LeafStop.TheVariants as Stop
use Rattle.nav_nodes.specs.declared.NextBranch.{NextBranch}
use Rattle.nav_nodes.specs.Accepted.{Accepted, nodes}
use Rattle.nav_nodes.specs.Positions.{branch_index, child_at, slot_at}
use Rattle.nav_nodes.specs.NextBranch.{NamedBranch, IsNextBranch}
use Rattle.nav_nodes.specs.NumberBounds.{child_range}
use Rattle.nav_branches.specs.Below.{OnLevel, level_branch}
use Rattle.nav_branches.specs.Paths.{node_on}
use Rattle.nav_branches.specs.PathSteps.{node_in}
use Rattle.nav_nodes.specs.FoundBranch.{node_count, IsPosition}
use Rattle.nav_branches.specs.declared.paths.Higher.{Higher}
use Rattle.walk_path.specs.PathLaws.{Descends, descends_first, leaf_reached, next_deep, next_on, exact_reached, descends_next}
use Rattle.walk_path.specs.declared.entries.Entry.{Entry}
use Rattle.walk_path.specs.declared.moves.Entered.{Entered}
use Rattle.walk_path.specs.Entries.{child_from, BehindNode}
use Rattle.walk_path.specs.Levels.{numbered, path_of, entry_on, with_entry, BehindTaken, Taken, Rows, Levels, OnNode, Enters, CanDescend, Descended}
use Rattle.walk_path.specs.LevelLaws.{numbered_at, numbered_set, kept_at, kept_child, kept_room, other_at, other_child, next_behind, child_behind}

-- On the way down behind a branch, node d of the path has the branch b and the child c from it on, and the other levels are kept.
pub record GoesDown (s : Bytes) (f : Frame) (ns₀ : List ℕ) (cut₀ : Bytes) (depth y : ℕ) (ns es : List ℕ) (cut : Bytes) (d : ℕ) (b : NextBranch) (c : ℕ) : Type 0 where
  pub descends : Descends s f (path_of ns₀ cut₀) depth y (path_of ns cut) d b
  pub room : length es ≡ 128
  pub rows : Rows s f ns es cut d
  pub child_is : c ≡ child_at s f (get_or ns d 0) b.at.0

-- the first branch
pub goes_first : (s : Bytes) (f : Frame) (ns es : List ℕ) (cut : Bytes) (h : Higher) → CanDescend s f ns es cut h → (c : ℕ) → c ≡ child_at s f (get_or ns h.depth 0) h.branch.at.0
    → GoesDown s f ns cut h.depth h.branch.label ns es cut h.depth h.branch c
goes_first s f ns es cut h w c e = record {
  descends = descends_first s f (path_of ns cut) h.depth h.branch (length-map ns (λ (n : ℕ). record { 0 = n }) ∙ w.room.nodes_room) w.room.labels_room w.branch;
  room = w.room.entries_room;
  rows = w.rows;
  child_is = e;
}

module _ (s : Bytes) (f : Frame) (a : Accepted s f) (ns₀ : List ℕ) (cut₀ : Bytes) (depth y : ℕ) (ns es : List ℕ) (cut : Bytes) (d : ℕ) (b : NextBranch) (c : ℕ) (g : GoesDown s f ns₀ cut₀ depth y ns es cut d b c) where
  pub goes_deep : d < 64
  goes_deep = g.descends.branch.deep

  on_level : OnLevel (nodes s f) (64 - d) (get_or ns d 0)
  on_level = rw (numbered_at ns d) at g.descends.branch.on

  inside : get_or ns d 0 < node_count f
  inside = node_in s f a (64 - d) (get_or ns d 0) on_level

  branch_is : IsNextBranch s f (get_or ns d 0) b.label b.kind b.label b.at.0
  branch_is = rw (numbered_at ns d) at g.descends.branch.branch_is

  -- the branch has a label and a position
  pub goes_named : NamedBranch s f (get_or ns d 0) b.label b.label b.at.0
  goes_named = branch_is.there g.descends.branch.there

  pub goes_position : IsPosition s f (get_or ns d 0) b.at.0
  goes_position = record { accepted = a; within = goes_named.at_is.within }

  -- positions and node numbers are small
  pub goes_small : (b.at.0 < 4294967296) × (c < 4294967296)
  goes_small =
      let w = goes_named.at_is in
      (by_kind (ltb (get_or ns d 0) f.dense.nodes) refl, omega (arith, g.child_is, w.child_is, (child_range (nodes s f) (get_or ns d 0) (branch_index s f (get_or ns d 0) b.label)).1, a.node_total (omega (arith, inside)), a.dense_size, a.sparse_size, a.writable.few_dense, a.writable.few_sparse))
    where
      by_kind : (t : Bool) → ltb (get_or ns d 0) f.dense.nodes ≡ t → b.at.0 < 4294967296
      by_kind true q = omega (arith, (goes_named.at_is.within.dense (ltb-true (get_or ns d 0) f.dense.nodes q)).0, a.dense_size, a.writable.few_dense)
      by_kind false q = omega (arith, goes_named.at_is.within.sparse (ltb-false (get_or ns d 0) f.dense.nodes q), a.entry_size, a.writable.few_entries)

  module _ (e : Entry) (w : BehindTaken f (get_or ns d 0) b c e) where
    -- the branch is taken on its level
    here : Taken s f (get_or ns d 0) (entry_on (with_entry es d e) d) (b.label + 1)
    here = by_kind (ltb (get_or ns d 0) f.dense.nodes) refl
      where
        by_kind : (t : Bool) → ltb (get_or ns d 0) f.dense.nodes ≡ t → Taken s f (get_or ns d 0) (entry_on (with_entry es d e) d) (b.label + 1)
        by_kind true q =
            let z : get_or (with_entry es d e) d 0 ≡ 0 = kept_at es g.room d e goes_deep ∙ w.dense (ltb-true (get_or ns d 0) f.dense.nodes q) in
            record { next = record { sparse = λ k. absurd (omega arith); entry_is = λ k. absurd (omega arith); behind = λ k. absurd (omega arith) }; child_is = λ k. absurd (omega arith) }
        by_kind false q =
            let h = ltb-false (get_or ns d 0) f.dense.nodes q in
            let z : get_or (with_entry es d e) d 0 ≡ b.at.0 + 1 = kept_at es g.room d e goes_deep ∙ (w.sparse h).0 in
            let k : get_or (with_entry es d e) (64 + d) 0 ≡ child_from s f (b.at.0 + 1) =
            kept_child es g.room d e goes_deep ∙ omega (arith, (w.sparse h).1, g.child_is, child_behind s f a (get_or ns d 0) h inside b branch_is g.descends.branch.there) in
            record {
              next = rw z (next_behind s f a (get_or ns d 0) h inside b branch_is g.descends.branch.there);
              child_is = λ q. k ∙ ap (child_from s f) (sym z);
            }

    label_here : get_or (set cut d b.label) d 0 ≡ b.label
    label_here = get_or-set_same cut d b.label 0 (omega (arith, g.descends.labels_room, goes_deep))

    -- and the levels are kept there
    levels : Levels s f ns (with_entry es d e) (set cut d b.label) d (get_or (set cut d b.label) d 0 + 1)
    levels = record {
      rows = record {
        above = λ i h. rw (other_at es g.room d e goes_deep i (omega (arith, goes_deep)) (λ q. omega arith), other_child es g.room d e goes_deep i (omega (arith, goes_deep)) (λ q. omega arith), get_or-set_other cut d i b.label 0 (λ q. omega arith)) (g.rows.above i h);
        below = λ i h k. rw (other_at es g.room d e goes_deep i k (λ q. omega arith), other_child es g.room d e goes_deep i k (λ q. omega arith)) (g.rows.below i h k);
      };
      here = rw label_here here;
    }

    nodes_room : length ns ≡ 64
    nodes_room = sym (length-map ns (λ (n : ℕ). record { 0 = n })) ∙ g.descends.nodes_room

    labels_room : length (set cut d b.label) ≡ 64
    labels_room = length-set cut d b.label ∙ g.descends.labels_room

    -- the branch ends at an open leaf
    pub down_leaf : (v : ValuePos) → v.0 ≡ slot_at s f (get_or ns d 0) b.at.0 → b.kind ≡ Kind.Leaf
        → Descended s f ns₀ cut₀ depth y ns (with_entry es d e) (set cut d b.label) (record { depth = d + 1; stop = Stop.Open v })
    down_leaf v is ends = record {
      reaches = leaf_reached s f a (path_of ns₀ cut₀) depth y (path_of ns cut) d b g.descends v (rw (numbered_at ns d) is) ends;
      kept = record {
        exact_end = λ q. let z : ◌≡◌ {A = ℕ} 0 1 = cc in absurd (omega arith);
        open_end = λ u q. let z : d + 1 - 1 ≡ d = omega arith in rw z levels;
      };
      room = record { nodes_room = nodes_room; entries_room = kept_room es g.room d e goes_deep; labels_room = labels_room };
    }

    -- it continues to a node
    module _ (continues : b.kind ≡ Kind.Child) where
      is : c ≡ child_at s f (node_on (numbered ns) d) b.at.0
      is = rw (numbered_at ns d) g.child_is

      pub down_deep : d + 1 < 64
      down_deep = next_deep s f a (path_of ns₀ cut₀) depth y (path_of ns cut) d b g.descends (record { 0 = c }) is continues

      child_on : OnLevel (nodes s f) (64 - (d + 1)) c
      child_on = next_on s f a (path_of ns₀ cut₀) depth y (path_of ns cut) d b g.descends (record { 0 = c }) is continues

      pub down_node : OnNode s f c
      down_node = record { inside = node_in s f a (64 - (d + 1)) c child_on; there = level_branch (nodes s f) (64 - (d + 1)) c child_on }

      -- it is not the root
      pub down_behind : 0 < c
      down_behind = omega (arith, g.child_is, goes_named.at_is.child_is, (child_range (nodes s f) (get_or ns d 0) (branch_index s f (get_or ns d 0) b.label)).0)

      -- the node last visited on its level is left
      pub down_last : BehindNode s f (get_or ns (d + 1) 0) (entry_on (with_entry es d e) (d + 1))
      down_last = levels.rows.below (d + 1) (omega arith) down_deep

      module _ (r : Entered) (t : Enters s f c r) where
        room' : length (with_entry es d e) ≡ 128
        room' = kept_room es g.room d e goes_deep

        node_here : get_or (set ns (d + 1) c) (d + 1) 0 ≡ c
        node_here = get_or-set_same ns (d + 1) c 0 (omega (arith, nodes_room, down_deep))

        -- the levels above the node, and those below it
        rows : Rows s f (set ns (d + 1) c) (with_entry (with_entry es d e) (d + 1) r.entry) (set cut d b.label) (d + 1)
        rows = record {
          above = λ i h. rw (get_or-set_other ns (d + 1) i c 0 (λ q. omega arith), other_at (with_entry es d e) room' (d + 1) r.entry down_deep i (omega (arith, down_deep)) (λ q. omega arith), other_child (with_entry es d e) room' (d + 1) r.entry down_deep i (omega (arith, down_deep)) (λ q. omega arith)) (by_level i h (ltb i d) refl);
          below = λ i h k. rw (get_or-set_other ns (d + 1) i c 0 (λ q. omega arith), other_at (with_entry es d e) room' (d + 1) r.entry down_deep i k (λ q. omega arith), other_child (with_entry es d e) room' (d + 1) r.entry down_deep i k (λ q. omega arith)) (levels.rows.below i (omega arith) k);
        }
          where
            by_level : (i : ℕ) → i < d + 1 → (t : Bool) → ltb i d ≡ t → Taken s f (get_or ns i 0) (entry_on (with_entry es d e) i) (get_or (set cut d b.label) i 0 + 1)
            by_level i h true q = levels.rows.above i (ltb-true i d q)
            by_level i h false q = let z : i ≡ d = omega (arith, ltb-false i d q) in rw z levels.here

        -- the node is an exact leaf
        pub down_exact : r.first.exact ≡ true
            → Descended s f ns₀ cut₀ depth y (set ns (d + 1) c) (with_entry (with_entry es d e) (d + 1) r.entry) (set cut d b.label) (record { depth = d + 1; stop = Stop.Exact })
        down_exact x =
            let at = kept_at (with_entry es d e) room' (d + 1) r.entry down_deep in
            let child = kept_child (with_entry es d e) room' (d + 1) r.entry down_deep in
            record {
              reaches = rw (numbered_set ns (d + 1) c) at (exact_reached s f a (path_of ns₀ cut₀) depth y (path_of ns cut) d b g.descends (record { 0 = c }) is continues r.first t.first_is x);
              kept = record {
                exact_end = λ q. record { rows = rows; here = record { next = rw (node_here, at) (t.next x); child_is = rw (at, child) t.from } };
                open_end = λ u q. let z : ◌≡◌ {A = ℕ} 0 1 = cc in absurd (omega arith);
              };
              room = record { nodes_room = length-set ns (d + 1) c ∙ nodes_room; entries_room = kept_room (with_entry es d e) room' (d + 1) r.entry down_deep; labels_room = labels_room };
            }

        -- it is none, and has a first branch
        pub down_next : r.first.exact ≡ false
            → GoesDown s f ns₀ cut₀ depth y (set ns (d + 1) c) (with_entry (with_entry es d e) (d + 1) r.entry) (set cut d b.label) (d + 1) r.first.branch r.entry.child.0
        down_next x = record {
          descends = rw (numbered_set ns (d + 1) c) at (descends_next s f a (path_of ns₀ cut₀) depth y (path_of ns cut) d b g.descends (record { 0 = c }) is continues r.first t.first_is x);
          room = kept_room (with_entry es d e) room' (d + 1) r.entry down_deep;
          rows = rows;
          child_is = rw node_here t.child_is;
        }
