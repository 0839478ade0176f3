-- Laws of the descent to a place: how a range of labels is halved, and how the path goes on behind the branch that is taken.
use Rattle.std.specs.Prelude.{ℕ, zero, suc, ◌+◌, ◌-◌, ◌/◌, ◌<◌, ◌≤◌, ◌≡◌, Bool, true, false, drop, set}
use Rattle.std.proofs.Math.Path.{refl, ap}
use Rattle.std.proofs.Common.{sym, ap₂, ◌∙◌, arith, length-append, length-set}
use mathlib.Core.List.{List, [], ◌∷◌, ◌++◌, map}
use Rattle.std.proofs.Math.ListN.{length}
use Rattle.std.proofs.lemmas.List.{length-map}
use Rattle.std.proofs.lemmas.Bool.{lt-leb}
use Rattle.spec.specs.Bytes.{Bytes, bit}
use Rattle.spec.specs.Nodes.{Branch, label_of, is_exact, prefix, exact_leaf, read_leaves}
use Rattle.image.specs.declared.Frame.{Frame}
use Rattle.image.specs.declared.NodeNum.{NodeNum}
use Rattle.image.specs.declared.ValuePos.{ValuePos}
use Rattle.nav_nodes.specs.declared.BranchKind.TheVariants as Kind
use Rattle.nav_branches.specs.declared.LeafStop.TheVariants as Stop
use Rattle.nav_nodes.specs.declared.NextBranch.{NextBranch}
use Rattle.nav_branches.specs.declared.Path.{Path}
use Rattle.nav_nodes.specs.Counting.{labels_below}
use Rattle.nav_nodes.specs.Slots.{node_at}
use Rattle.nav_nodes.specs.Descent.{child_number}
use Rattle.nav_nodes.specs.NextLabel.{first_kind}
use Rattle.nav_nodes.specs.NumberBounds.{node_total, child_range, slot_range}
use Rattle.nav_nodes.specs.Accepted.{Accepted, nodes, dense_nodes, sparse_nodes}
use Rattle.nav_nodes.specs.Positions.{branches, branch_index, child_at, slot_at, BranchAt}
use Rattle.nav_nodes.specs.FoundBranch.{node_count, IsPosition}
use Rattle.nav_nodes.specs.SparsePositions.{small_node}
use Rattle.nav_branches.specs.Below.{OnLevel, own_slot, below, from_label, below_step, from_none, from_leaf, from_node, level_rising, level_branch, level_node, trie_root}
use Rattle.nav_branches.specs.Paths.{node_on, onward, downward, standing, OnLevels, standing_exact, onward_root, downward_exact, downward_plain}
use Rattle.nav_branches.specs.PathSteps.{BranchFrom, HasBranch, ends_exact, ends_open, branch_found, branch_onward, leaf_onward, leaf_slot, child_on, child_deep, child_node, child_levels, child_downward}
use Rattle.nav_branches.specs.PathContracts.{RootOnly}
use Rattle.query_descent.specs.LevelSums.{slots_below}
use Rattle.theory.proofs.LinkedLevels.{Ascends}
use Rattle.theory.proofs.Lists.{all_append}
use Rattle.theory.proofs.NodeBits.{ByteLabels}
use Rattle.theory.specs.Terms.{IsBytes}
use Rattle.walk_cursor.specs.Counted.{branch_sum, own_length, from_fewer, from_summed, from_later, first_reached, none_between, onward_passed}
use Rattle.walk_cursor.specs.Places.{leaf_total}
use Rattle.walk_cursor.specs.declared.branch.Range.{Range}
use Rattle.walk_cursor.specs.Located.{leaves_at, lowered_range, Summable, MoreLeaves, Ranges, Narrows, Takes, Leads}

-- ---- the sum of a branch

module _ (s : Bytes) (f : Frame) (m d skip : ℕ) (w : MoreLeaves s f m d skip) where
  nodes_length : length (nodes s f) ≡ node_count f
  nodes_length = omega (arith, length-append (dense_nodes s f) (sparse_nodes s f), w.accepted.dense_size, w.accepted.sparse_size)

  inside : m < length (nodes s f)
  inside = level_node (nodes s f) (64 - d) m w.on

  -- the node is one of the image's
  pub node_inside : m < node_count f
  node_inside = omega (arith, inside, nodes_length)

  -- a position with a branch can be summed
  pub summable : (i p : ℕ) → BranchAt s f m i p → Summable s f m d p
  summable i p b =
      let a = w.accepted in
      let t = node_total f.width (read_leaves s) (nodes s f) a.realizable a.well_sized a.trie_is (omega (arith, inside)) in
      record {
        accepted = a;
        deep = w.deep;
        within = b.within;
        node_range = omega (arith, b.child_is, (child_range (nodes s f) m i).1, t, nodes_length);
        slot_range = omega (arith, b.slot_is, (slot_range (nodes s f) m i).1, a.writable.leaf_total, a.writable.few);
      }

  -- the sum of the branch at a position
  summed : (i p x : ℕ) → BranchAt s f m i p → x ≡ slot_at s f m p + slots_below (nodes s f) (63 - d) (child_at s f m p) [] → x ≡ branch_sum (nodes s f) (63 - d) m i
  summed i p x b e = rw (← b.child_is, ← b.slot_is) e

  -- The difference of two sums is the number of leaves between the branches.
  module _ (y p q start sum : ℕ) (b : BranchAt s f m (branch_index s f m y) p) (first : BranchAt s f m (branch_index s f m 0) q)
      (x : start ≡ slot_at s f m q + slots_below (nodes s f) (63 - d) (child_at s f m q) []) (z : sum ≡ slot_at s f m p + slots_below (nodes s f) (63 - d) (child_at s f m p) []) where
    sums : sum + leaves_at s f d m y ≡ start + leaves_at s f d m 0
    sums = rw (summed (branch_index s f m y) p sum b z, summed (branch_index s f m 0) q start first x) (from_summed (nodes s f) (63 - d) m y)

    pub start_below : start ≤ sum
    start_below = omega (arith, sums, from_fewer (nodes s f) (63 - d) m y)

    pub between_counted : sum - start + leaves_at s f d m y ≡ leaves_at s f d m 0
    between_counted = omega (arith, sums, start_below)

  -- ---- a range is narrowed

  module _ (r : Range) (g : Ranges s f m d skip r) (wide : r.low.label + 1 < r.high) where
    -- the middle lies between the ends
    pub middle_range : (r.low.label < r.low.label + (r.high - r.low.label) / 2) × (r.low.label + (r.high - r.low.label) / 2 < r.high)
    middle_range = (omega arith, omega arith)

    module _ (middle : ℕ) (is : middle ≡ r.low.label + (r.high - r.low.label) / 2) (b : NextBranch) (n : BranchFrom s f m middle b) where
      -- the high end moves to the middle
      lowered : skip + leaves_at s f d m middle < leaves_at s f d m 0 → Narrows s f m d skip r (lowered_range r middle)
      lowered h = record {
        ranges = record { first_at = g.first_at; from = g.from; low_is = g.low_is; there = g.there; counted = g.counted; reached = g.reached; passed = h; order = omega (arith, middle_range); labels = omega (arith, middle_range, g.labels) };
        less = omega (arith, middle_range, g.order);
      }

      -- no branch stands from the middle on
      pub narrowed_none : b.kind ≡ Kind.Absent → Narrows s f m d skip r (lowered_range r middle)
      narrowed_none e = lowered (omega (arith, w.more, ap length (from_none (nodes s f) (63 - d) m middle b.kind n.kind_is e)))

      module _ (there : b.kind ≡ Kind.Absent → ⊥) where
        reaches : middle ≤ b.label
        reaches = omega (arith, (n.there there).label_is, first_reached middle (branches s f m) (λ e. there (n.kind_is ∙ e)))

        -- none stands up to the high end
        pub narrowed_behind : r.high ≤ b.label → Narrows s f m d skip r (lowered_range r middle)
        narrowed_behind h =
            lowered (omega (arith, g.passed, from_later (nodes s f) (63 - d) m r.high middle (none_between middle r.high (branches s f m) (λ e. there (n.kind_is ∙ e)) (omega (arith, (n.there there).label_is)))))

        module _ (before : ℕ) (c : before + leaves_at s f d m middle ≡ leaves_at s f d m 0) where
          -- too many leaves stand before the branch
          pub narrowed_high : skip < before → Narrows s f m d skip r (lowered_range r middle)
          narrowed_high h = lowered (omega (arith, c))

          -- the branch becomes the low one
          pub narrowed_low : before ≤ skip → b.label < r.high → Narrows s f m d skip r (record { first = r.first; low = b; before = before; high = r.high })
          narrowed_low h l = record {
            ranges = record { first_at = g.first_at; from = middle; low_is = n; there = there; counted = c; reached = h; passed = g.passed; order = l; labels = g.labels };
            less = omega (arith, middle_range, reaches);
          }

  -- ---- the whole range

  small_labels : ByteLabels (node_at (nodes s f) m)
  small_labels = small_node (nodes s f) m (all_append ByteLabels (dense_nodes s f) (sparse_nodes s f) w.accepted.writable.dense_bytes w.accepted.writable.sparse_bytes) inside

  -- behind the label 255 stands no branch
  none_behind : leaves_at s f d m 256 ≡ 0
  unfolding first_kind labels_below
  none_behind = ap length (from_none (nodes s f) (63 - d) m 256 Kind.Absent (sym (ap first_kind (all_below (branches s f m) small_labels) ∙ no_kind)) refl)
    where
      no_kind : first_kind [] ≡ Kind.Absent
      no_kind = refl

      all_below : (es : List Branch) → IsBytes (map label_of es) → drop (labels_below 256 es) es ≡ []
      all_below [] h = refl
      all_below (e ∷ es) h = ap {B = List Branch} (λ (t : Bool). drop (elim t [ true ↦ 0 | false ↦ suc (labels_below 256 es) ]) (e ∷ es)) (lt-leb 256 (label_of e) h.0) ∙ all_below es h.1

  -- The range of all labels, from the first branch on.
  pub whole_range : (b : NextBranch) → BranchFrom s f m 0 b → Ranges s f m d skip (record { first = b.at; low = b; before = 0; high = 256 })
  whole_range b n =
      let there : b.kind ≡ Kind.Absent → ⊥ = λ e. level_branch (nodes s f) (64 - d) m w.on (sym n.kind_is ∙ e) in
      record {
        first_at = (n.there there).at_is;
        from = 0;
        low_is = n;
        there = there;
        counted = omega (arith, refl {a = leaves_at s f d m 0});
        reached = omega arith;
        passed = omega (arith, w.more, none_behind);
        order = (n.there there).label_byte;
        labels = omega arith;
      }

-- ---- down the path

-- The leaves from the place on are those of the path's node at depth d but its first `skip` ones, and those behind the path.
pub record Going (s : Bytes) (f : Frame) (place : ℕ) (p : Path) (d skip : ℕ) : Type 0 where
  pub deep : d < 64
  -- the path has room for 64 nodes and labels
  pub nodes_room : length p.nodes ≡ 64
  pub labels_room : length p.labels ≡ 64
  -- its nodes to depth d stand on their levels
  pub on : OnLevels (nodes s f) p.nodes d
  -- the node has more leaves than are passed
  pub more : skip < leaves_at s f d (node_on p.nodes d) 0
  pub leaves_are : drop place (read_leaves s) ≡ drop skip (onward (nodes s f) p.nodes p.labels d 0)

-- the root
pub going_root : (s : Bytes) (f : Frame) → Accepted s f → (place : ℕ) → place < f.leaves → (p : Path) → RootOnly p → Going s f place p 0 place
going_root s f a place inside p r =
    let total = leaf_total s f a in
    let root = trie_root f.width (read_leaves s) (nodes s f) a.realizable a.well_sized a.trie_is (omega (arith, total)) in
    let all : from_label (nodes s f) 63 (node_on p.nodes 0) 0 ≡ read_leaves s = rw r.root_is root.leaves in
    record {
      deep = omega arith;
      nodes_room = r.nodes_room;
      labels_room = r.labels_room;
      on = λ i h. let z : i ≡ 0 = omega arith in rw (z, r.root_is) root.on;
      more = omega (arith, total, ap length (sym all));
      leaves_are = ap (drop place) (sym (onward_root (nodes s f) p.nodes p.labels 0 ∙ all));
    }

module _ (s : Bytes) (f : Frame) (a : Accepted s f) (place : ℕ) (p : Path) (d skip : ℕ) (g : Going s f place p d skip) where
  up : OnLevel (nodes s f) (64 - d) (node_on p.nodes d)
  up = g.on d (omega arith)

  -- the node has more leaves than are passed
  pub has_more : MoreLeaves s f (node_on p.nodes d) d skip
  has_more = record { accepted = a; deep = g.deep; on = up; more = g.more }

  module _ (r : Range) (t : Takes s f (node_on p.nodes d) d skip r) where
    -- the leaves left to pass behind the branch
    abbrev left : ℕ
    left = skip - r.before

    taken : HasBranch s f p.nodes d r.low
    taken = branch_found s f p.nodes p.labels d t.ranges.from r.low t.ranges.low_is g.deep up t.ranges.there

    leaves_behind : drop place (read_leaves s) ≡ drop left (onward (nodes s f) p.nodes p.labels d r.low.label)
    leaves_behind =
        g.leaves_are ∙ onward_passed (nodes s f) p.nodes p.labels d t.ranges.from skip r.before t.ranges.counted t.ranges.reached
        ∙ ap (drop left) (branch_onward s f p.nodes p.labels d t.ranges.from r.low t.ranges.low_is g.deep up t.ranges.there)

    -- the branch has a position
    pub branch_position : IsPosition s f (node_on p.nodes d) r.low.at.0
    branch_position = record { accepted = a; within = (taken.branch_is.there taken.there).at_is.within }

    pub label_small : r.low.label < 256
    label_small = (taken.branch_is.there taken.there).label_byte

    behind_label : skip + leaves_at s f d (node_on p.nodes d) (r.low.label + 1) < leaves_at s f d (node_on p.nodes d) 0
    behind_label = rw (← t.single) t.ranges.passed

    rising : Ascends (branches s f (node_on p.nodes d))
    rising = level_rising (nodes s f) (64 - d) (node_on p.nodes d) up

    -- the branch ends at an open leaf: none is left to pass
    pub leads_open : (v : ValuePos) → v.0 ≡ slot_at s f (node_on p.nodes d) r.low.at.0 → r.low.kind ≡ Kind.Leaf
        → Leads s f place (record { path = record { nodes = p.nodes; labels = set p.labels d r.low.label }; stop = Stop.Open v; depth = d + 1 })
    leads_open v is ends =
        let n = t.ranges.low_is in
        let one = ap length (from_leaf (nodes s f) (63 - d) (node_on p.nodes d) t.ranges.from r.low.kind n.kind_is r.low.label rising (n.there t.ranges.there).label_is f.width a.writable.wide ends) in
        let z : left ≡ 0 = omega (arith, one, t.ranges.counted, behind_label) in
        record {
          nodes_room = g.nodes_room;
          labels_room = length-set p.labels d r.low.label ∙ g.labels_room;
          ends = ends_open s f p.nodes d g.deep g.on v (leaf_slot s f a (node_on p.nodes d) d r.low taken v is ends);
          leaves_are = leaves_behind ∙ ap (λ (n : ℕ). drop n (onward (nodes s f) p.nodes p.labels d r.low.label)) z ∙ leaf_onward s f a p.nodes p.labels d r.low taken v is ends g.labels_room;
        }

    -- it continues to a node
    module _ (c : NodeNum) (is : c.0 ≡ child_at s f (node_on p.nodes d) r.low.at.0) (continues : r.low.kind ≡ Kind.Child) where
      pub next_deep : d + 1 < 64
      next_deep = child_deep s f a (node_on p.nodes d) d r.low taken c is continues

      pub next_on : OnLevel (nodes s f) (64 - (d + 1)) c.0
      next_on = child_on s f a (node_on p.nodes d) d r.low taken c is continues

      next_node : node_on (set p.nodes (d + 1) c) (d + 1) ≡ c.0
      next_node = child_node s f a p.nodes p.labels d r.low taken c is continues g.nodes_room

      next_levels : OnLevels (nodes s f) (set p.nodes (d + 1) c) (d + 1)
      next_levels = child_levels s f a p.nodes p.labels d r.low taken c is continues g.nodes_room g.on

      next_leaves : drop place (read_leaves s) ≡ drop left (downward (nodes s f) (set p.nodes (d + 1) c) (set p.labels d r.low.label) (d + 1))
      next_leaves = leaves_behind ∙ ap (drop left) (child_downward s f a p.nodes p.labels d r.low taken c is continues g.nodes_room g.labels_room)

      -- the leaves at or below the node are more than those left to pass
      more_below : left < bit (is_exact (node_at (nodes s f) c.0)) + leaves_at s f (d + 1) c.0 0
      more_below =
          let n = t.ranges.low_is in
          let m : ℕ = child_number (nodes s f) (node_on p.nodes d) (branch_index s f (node_on p.nodes d) t.ranges.from) in
          let e : 63 - d ≡ suc (63 - (d + 1)) = omega (arith, next_deep) in
          let i : m ≡ c.0 = sym (is ∙ (n.there t.ranges.there).at_is.child_is) in
          let b : below (nodes s f) (63 - d) m ≡ exact_leaf (own_slot (node_at (nodes s f) c.0)) ++ from_label (nodes s f) (63 - (d + 1)) c.0 0 = ap₂ (below (nodes s f)) e i ∙ below_step (nodes s f) (63 - (d + 1)) c.0 in
          omega (
            arith,
            ap length (from_node (nodes s f) (63 - d) (node_on p.nodes d) t.ranges.from r.low.kind n.kind_is r.low.label rising (n.there t.ranges.there).label_is continues),
            length-append (map (prefix r.low.label) (below (nodes s f) (63 - d) m)) (from_label (nodes s f) (63 - d) (node_on p.nodes d) (r.low.label + 1)),
            length-map (below (nodes s f) (63 - d) m) (prefix r.low.label),
            ap length b,
            length-append (exact_leaf (own_slot (node_at (nodes s f) c.0))) (from_label (nodes s f) (63 - (d + 1)) c.0 0),
            own_length (node_at (nodes s f) c.0),
            t.ranges.counted,
            behind_label,
          )

      going : (n : ℕ) → n < leaves_at s f (d + 1) c.0 0 → drop place (read_leaves s) ≡ drop n (onward (nodes s f) (set p.nodes (d + 1) c) (set p.labels d r.low.label) (d + 1) 0)
          → Going s f place (record { nodes = set p.nodes (d + 1) c; labels = set p.labels d r.low.label }) (d + 1) n
      going n l q = record {
        deep = next_deep;
        nodes_room = length-set p.nodes (d + 1) c ∙ g.nodes_room;
        labels_room = length-set p.labels d r.low.label ∙ g.labels_room;
        on = next_levels;
        more = rw next_node l;
        leaves_are = q;
      }

      -- the node is an exact leaf
      module _ (own : is_exact (node_at (nodes s f) c.0) ≡ true) where
        own_first : downward (nodes s f) (set p.nodes (d + 1) c) (set p.labels d r.low.label) (d + 1) ≡ standing f.width (nodes s f) (set p.nodes (d + 1) c) (set p.labels d r.low.label) (d + 1) Stop.Exact
        own_first = downward_exact (nodes s f) (set p.nodes (d + 1) c) (set p.labels d r.low.label) (d + 1) next_deep f.width (rw next_node own)

        -- no leaf is left to pass: the path ends there
        pub leads_exact : left ≡ 0 → Leads s f place (record { path = record { nodes = set p.nodes (d + 1) c; labels = set p.labels d r.low.label }; stop = Stop.Exact; depth = d + 1 })
        leads_exact z = record {
          nodes_room = length-set p.nodes (d + 1) c ∙ g.nodes_room;
          labels_room = length-set p.labels d r.low.label ∙ g.labels_room;
          ends = ends_exact s f (set p.nodes (d + 1) c) (d + 1) next_deep next_levels;
          leaves_are = next_leaves ∙ ap (λ (n : ℕ). drop n (downward (nodes s f) (set p.nodes (d + 1) c) (set p.labels d r.low.label) (d + 1))) z ∙ own_first;
        }

        -- leaves are left: its own is passed
        pub own_passed : (left ≡ 0 → ⊥) → Going s f place (record { nodes = set p.nodes (d + 1) c; labels = set p.labels d r.low.label }) (d + 1) (left - 1)
        own_passed z =
            let n : left ≡ suc (left - 1) = positive left z in
            let one : bit (is_exact (node_at (nodes s f) c.0)) ≡ 1 = ap bit own in
            going (left - 1) (omega (arith, more_below))
            (next_leaves ∙ ap (λ (j : ℕ). drop j (downward (nodes s f) (set p.nodes (d + 1) c) (set p.labels d r.low.label) (d + 1))) n
            ∙ ap (drop (suc (left - 1))) (own_first ∙ standing_exact f.width (nodes s f) (set p.nodes (d + 1) c) (set p.labels d r.low.label) (d + 1)))
          where
            positive : (j : ℕ) → (j ≡ 0 → ⊥) → j ≡ suc (j - 1)
            positive zero q = absurd (q refl)
            positive (suc j) q = omega arith

      -- it is none
      pub none_passed : is_exact (node_at (nodes s f) c.0) ≡ false → Going s f place (record { nodes = set p.nodes (d + 1) c; labels = set p.labels d r.low.label }) (d + 1) left
      none_passed own =
          let none : bit (is_exact (node_at (nodes s f) c.0)) ≡ 0 = ap bit own in
          going left (omega (arith, more_below))
          (next_leaves ∙ ap (drop left) (downward_plain (nodes s f) (set p.nodes (d + 1) c) (set p.labels d r.low.label) (d + 1) next_deep (rw next_node own)))
