-- What the functions of two bounds ask and give: the way that two keys share, the bound of each from where they part, and what counts where it leads.
use Rattle.std.specs.Prelude.{ℕ, ◌+◌, ◌-◌, ◌<◌, ◌≤◌, ◌≡◌, refl, Bool, true, false, not, ◌&&◌, length, get_or, drop}
use Rattle.std.proofs.Common.{sym, ap, ◌∙◌, arith}
use Rattle.spec.specs.Bytes.{Bytes, bit, shared}
use Rattle.spec.specs.Nodes.{is_exact}
use Rattle.spec.specs.Questions.{counted}
use Rattle.image.specs.declared.Frame.{Frame}
use Rattle.image.specs.declared.ValuePos.{ValuePos}
use Rattle.nav_nodes.specs.declared.BranchKind.TheVariants.{Absent, Leaf, Child}
use Rattle.nav_nodes.specs.declared.Found.{Found}
use Rattle.nav_branches.specs.declared.LeafStop.{LeafStop}
use Rattle.nav_branches.specs.declared.LeafStop.TheVariants.{Nowhere, Open}
use Rattle.nav_nodes.specs.Accepted.{Accepted, nodes, real_leaves}
use Rattle.nav_nodes.specs.Slots.{node_at, slot_number, slot_of}
use Rattle.nav_nodes.specs.Descent.{child_number}
use Rattle.nav_nodes.specs.NextLabel.{kind_with}
use Rattle.nav_nodes.specs.Positions.{branches, branch_index, child_at, slot_at}
use Rattle.nav_nodes.specs.FoundBranch.{node_count, IsPosition, FoundBranch, BehindBranch}
use Rattle.query_descent.specs.declared.BoundEnd.{BoundEnd}
use Rattle.query_descent.specs.declared.BoundEnd.TheVariants as End
use Rattle.query_descent.specs.Bounds.{slot_passed, slot_reached}
use Rattle.query_descent.specs.OpenBetween.{OpenBetween, open_between}
use Rattle.query_descent.specs.LevelSums.{slots_below}
use Rattle.query_descent.specs.Leads.{Leads, BranchMissing, LeafBehind, along, shared_byte}
use Rattle.query_descent.specs.Steps.{exact_stop}
use Rattle.query_descent.specs.Followed.{Stopped, stopped_nowhere, sum_nowhere}
use Rattle.query_descent.specs.Summed.{Leading, Ended, passed_there, reached_there, end_unpassed, leading_root, leading_on, ended_none, ended_leaf, ended_end}
use Rattle.query_descent.specs.Answers.{value_none, value_exact, value_open, count_bounds}
use Rattle.query_sums.specs.declared.bounds.Bound.{Bound}
use Rattle.query_sums.specs.declared.levels.LevelSum.{LevelSum}
use Rattle.query_sums.specs.declared.levels.BoundSums.{BoundSums}
use Rattle.query_sums.specs.Levels.{DownTo, SumsApart}

-- the leaf where a bound ends, m its node: none, the node if it is an exact leaf, or the open leaf
abbrev pub leaf_of : Bytes → Frame → ℕ → BoundEnd → LeafStop
leaf_of s f m End.NoLeaf = Nowhere
leaf_of s f m End.Node = exact_stop (is_exact (node_at (nodes s f) m))
leaf_of s f m (End.Leaf v) = Open v

-- A key has led to where its bound ends.
pub record KeyEnded (s : Bytes) (f : Frame) (key : Bytes) (r : Bound) : Type 0 where
  -- the image is accepted
  pub accepted : Accepted s f
  -- the key is no longer than a path
  pub short : length key ≤ 64
  -- the leaf there
  pub stop_is : Stopped s f key (leaf_of s f r.level.node.0 r.end) r.level.depth
  -- a node there is one of the nodes
  pub inside : r.end ≡ End.Node → r.level.node.0 < node_count f

-- ---- the way that two keys share

-- The bytes that two keys share lead to a node, with the same sum of slot numbers on the levels above it.
pub record Parted (s : Bytes) (f : Frame) (lo hi : Bytes) (node depth : ℕ) : Type 0 where
  pub accepted : Accepted s f
  pub lo_short : length lo ≤ 64
  pub hi_short : length hi ≤ 64
  -- the sum
  pub above : ℕ
  pub lower : Leading s f lo node depth above
  pub upper : Leading s f hi node depth above

-- Both keys have led to the same leaf or nowhere, by the same branch, so that their sums are the same.
pub record SameStop (s : Bytes) (f : Frame) (lo hi : Bytes) (stop : LeafStop) (depth : ℕ) : Type 0 where
  pub sums : slots_below (nodes s f) 64 0 lo ≡ slots_below (nodes s f) 64 0 hi
  pub lower : Stopped s f lo stop depth
  pub upper : Stopped s f hi stop depth

-- The bytes that two keys share lead both to the open leaf behind the branch of node m at position p, d bytes down.
pub record LeafShared (s : Bytes) (f : Frame) (lo hi : Bytes) (m p d : ℕ) : Type 0 where
  pub position : IsPosition s f m p
  pub cut : OpenBetween s f lo hi (slot_at s f m p) d
  -- the leaf alone is left
  pub count_is : counted (real_leaves s f) lo hi ≡ bit (open_between s f lo hi (slot_at s f m p) d)

-- ---- the bound of a key

-- The first bytes of a key lead to a node, from where the key is followed.
pub record LeadsOn (s : Bytes) (f : Frame) (key : Bytes) (from : LevelSum) : Type 0 where
  pub accepted : Accepted s f
  pub short : length key ≤ 64
  -- the sum on the levels above, beside the bound's own
  pub above : ℕ
  pub leads : Leading s f key from.node.0 from.depth (above + from.sum)

-- The bound of a key that has ended, whose sum leaves out a sum on the levels above.
pub record BoundEnded (s : Bytes) (f : Frame) (key : Bytes) (above : ℕ) (r : Bound) : Type 0 where
  pub ended : Ended s f key (leaf_of s f r.level.node.0 r.end) r.level.node.0 r.level.depth (above + r.level.sum)
  -- a node where the key leads is one of the nodes
  pub inside : r.end ≡ End.Node → r.level.node.0 < node_count f

module _ (s : Bytes) (f : Frame) (lo hi : Bytes) (fork : LevelSum) (o : Parted s f lo hi fork.node.0 fork.depth) (none : fork.sum ≡ 0) where
  none_above : o.above + fork.sum ≡ o.above
  none_above = omega arith

  -- the lower bound is followed from where the ways part
  pub lower_leads : Leading s f lo fork.node.0 fork.depth (o.above + fork.sum)
  lower_leads = rw none_above o.lower

  -- and so is the upper
  pub upper_leads : Leading s f hi fork.node.0 fork.depth (o.above + fork.sum)
  upper_leads = rw none_above o.upper

module _ (s : Bytes) (f : Frame) (a : Accepted s f) (key : Bytes) (short : length key ≤ 64) (above : ℕ) (r : Bound) (o : BoundEnded s f key above r) where
  -- a bound whose key has ended goes down through all levels
  pub bound_down : DownTo s f r.level 64
  bound_down = record {
    accepted = a;
    node_in = o.ended.node_in;
    from_in = omega (arith, o.ended.stop_is.depth_in);
    depth_in = omega arith;
    small = omega (arith, o.ended.small);
  }

  -- its key has led somewhere
  pub bound_key : KeyEnded s f key r
  bound_key = record { accepted = a; short = short; stop_is = o.ended.stop_is; inside = o.inside }

-- ---- what counts where a key leads

module _ (s : Bytes) (f : Frame) (key : Bytes) (r : Bound) (o : KeyEnded s f key r) where
  -- the leaf there, and the bytes that are passed
  abbrev stop : LeafStop
  stop = leaf_of s f r.level.node.0 r.end

  abbrev depth : ℕ
  depth = r.level.depth

  -- the leaf, as the bound ends
  stop_at : (end : BoundEnd) → r.end ≡ end → stop ≡ leaf_of s f r.level.node.0 end
  stop_at end e = ap (leaf_of s f r.level.node.0) e

  -- the slot of an open leaf is one of the leaves
  pub slot_inside : (v : ValuePos) → r.end ≡ End.Leaf v → v.0 < f.leaves
  slot_inside v e = o.stop_is.leaf_in v (stop_at (End.Leaf v) e)

  -- nothing is passed
  pub passed_nowhere : r.end ≡ End.NoLeaf → passed_there s f key ≡ 0
  passed_nowhere e = value_none s f o.accepted key stop depth o.stop_is.leads false (slot_passed f.hash_width (length key)) (stop_at End.NoLeaf e)

  -- nor where the key ends at a node
  pub passed_node : r.end ≡ End.Node → passed_there s f key ≡ 0
  passed_node e = end_unpassed s f o.accepted key depth (is_exact (node_at (nodes s f) r.level.node.0)) (rw e at o.stop_is)

  -- an open leaf is passed by its highest key
  pub passed_leaf : (v : ValuePos) → r.end ≡ End.Leaf v → passed_there s f key ≡ bit (slot_passed f.hash_width (length key) (slot_of f.width (nodes s f) v.0) (drop depth key))
  passed_leaf v e = value_open s f o.accepted key stop depth o.stop_is.leads false (slot_passed f.hash_width (length key)) v (stop_at (End.Leaf v) e)

  -- nothing is reached
  pub reached_nowhere : r.end ≡ End.NoLeaf → reached_there s f key ≡ 0
  reached_nowhere e = value_none s f o.accepted key stop depth o.stop_is.leads true (slot_reached f.hash_width (length key)) (stop_at End.NoLeaf e)

  -- a node is reached if it is an exact leaf
  pub reached_node : r.end ≡ End.Node → reached_there s f key ≡ bit (is_exact (node_at (nodes s f) r.level.node.0))
  reached_node e = go (is_exact (node_at (nodes s f) r.level.node.0)) (stop_at End.Node e)
    where
      go : (b : Bool) → stop ≡ exact_stop b → reached_there s f key ≡ bit b
      go true q = value_exact s f o.accepted key stop depth o.stop_is.leads true (slot_reached f.hash_width (length key)) q
      go false q = value_none s f o.accepted key stop depth o.stop_is.leads true (slot_reached f.hash_width (length key)) q

  -- an open leaf is reached by its lowest key
  pub reached_leaf : (v : ValuePos) → r.end ≡ End.Leaf v → reached_there s f key ≡ bit (slot_reached f.hash_width (length key) (slot_of f.width (nodes s f) v.0) (drop depth key))
  reached_leaf v e = value_open s f o.accepted key stop depth o.stop_is.leads true (slot_reached f.hash_width (length key)) v (stop_at (End.Leaf v) e)

-- ---- along the way that two keys share

module _ (s : Bytes) (f : Frame) (a : Accepted s f) (lo hi : Bytes) (g : length lo ≤ 64) (h : length hi ≤ 64) where
  -- no byte is passed
  parted_root : 0 < node_count f → Parted s f lo hi 0 0
  parted_root n = record { accepted = a; lo_short = g; hi_short = h; above = 0; lower = leading_root s f a lo n; upper = leading_root s f a hi n }

  -- what a node has at the next byte that both keys share
  module _ (m d : ℕ) (o : Parted s f lo hi m d) (within : d < shared lo hi) (b : Found) (t : FoundBranch s f m (get_or lo d 0) b) where
    -- the child behind the branch of the shared byte, and its slot
    abbrev child : ℕ
    child = child_number (nodes s f) m (branch_index s f m (get_or lo d 0))

    abbrev slot : ℕ
    slot = slot_number (nodes s f) m (branch_index s f m (get_or lo d 0))

    same : get_or lo d 0 ≡ get_or hi d 0
    same = (shared_byte lo hi d within).2

    upper_kind : b.kind ≡ kind_with (get_or hi d 0) (drop (branch_index s f m (get_or hi d 0)) (branches s f m))
    upper_kind = rw same at t.kind_is

    upper_child : child ≡ child_number (nodes s f) m (branch_index s f m (get_or hi d 0))
    upper_child = ap (λ (y : ℕ). child_number (nodes s f) m (branch_index s f m y)) same

    upper_slot : slot ≡ slot_number (nodes s f) m (branch_index s f m (get_or hi d 0))
    upper_slot = ap (λ (y : ℕ). slot_number (nodes s f) m (branch_index s f m y)) same

    -- a branch that continues: both keys go on, with the same sum
    parted_next : b.kind ≡ Child → (c : ℕ) → c ≡ child_at s f m b.at.0 → Parted s f lo hi c (d + 1)
    parted_next k c e = let z : c ≡ child = e ∙ t.at_is.child_is in rw z (record {
      accepted = a;
      lo_short = g;
      hi_short = h;
      above = o.above + slot;
      lower = leading_on s f a lo m d o.above o.lower b.kind child slot (shared_byte lo hi d within).0 g t.kind_is refl refl k;
      upper = leading_on s f a hi m d o.above o.upper b.kind child slot (shared_byte lo hi d within).1 h upper_kind upper_child upper_slot k;
    })

    -- no branch: both keys lead nowhere
    same_none : b.kind ≡ Absent → SameStop s f lo hi Nowhere (d + 1)
    same_none k =
        let x = ended_none s f a lo m d o.above o.lower b.kind child slot (shared_byte lo hi d within).0 g t.kind_is refl refl k in
        let y = ended_none s f a hi m d o.above o.upper b.kind child slot (shared_byte lo hi d within).1 h upper_kind upper_child upper_slot k in
        record { sums = x.sums ∙ sym y.sums; lower = x.stop_is; upper = y.stop_is }

    -- a branch that ends: both keys lead to its open leaf
    same_leaf : b.kind ≡ Leaf → (v : ValuePos) → v.0 ≡ slot_at s f m b.at.0 → SameStop s f lo hi (Open v) (d + 1)
    same_leaf k v e =
        let x = ended_leaf s f a lo m d o.above o.lower b.kind child slot (shared_byte lo hi d within).0 g t.kind_is refl refl k v (e ∙ t.at_is.slot_is) in
        let y = ended_leaf s f a hi m d o.above o.upper b.kind child slot (shared_byte lo hi d within).1 h upper_kind upper_child upper_slot k v (e ∙ t.at_is.slot_is) in
        record { sums = x.sums ∙ sym y.sums; lower = x.stop_is; upper = y.stop_is }

  -- The node to which bytes that both keys share lead has the same sum above it for both.
  pub leads_parted : {d m : ℕ} → Leads s f lo d m → d ≤ shared lo hi → Parted s f lo hi m d
  leads_parted l = along (λ (d m : ℕ). d ≤ shared lo hi → Parted s f lo hi m d) (λ n q. parted_root n)
      (λ d m c o b q. parted_next m d (o (omega arith)) (omega arith) b.branch b.here.found b.continues c b.child_is) l

  -- By the same sums: what hi has reached where both keys lead, less what lo has passed there.
  count_same : (stop : LeafStop) (d : ℕ) → SameStop s f lo hi stop d → (u v : ℕ) → u ≡ passed_there s f lo → v ≡ reached_there s f hi → counted (real_leaves s f) lo hi ≡ v - u
  count_same stop d t u v p q = omega (arith, count_bounds s f a lo hi g h (slots_below (nodes s f) 64 0 lo) (slots_below (nodes s f) 64 0 hi) u v refl refl p q, t.sums)

  -- Where both keys lead nowhere, no leaf lies between them.
  none_between : (d : ℕ) → SameStop s f lo hi Nowhere d → counted (real_leaves s f) lo hi ≡ 0
  none_between d t = count_same Nowhere d t 0 0 (sym (value_none s f a lo Nowhere d t.lower.leads false (slot_passed f.hash_width (length lo)) refl)) (sym (value_none s f a hi Nowhere d t.upper.leads true (slot_reached f.hash_width (length hi)) refl))

  -- An image without nodes has no leaf between two keys.
  pub count_nowhere : node_count f ≡ 0 → counted (real_leaves s f) lo hi ≡ 0
  count_nowhere z = none_between 0 (record { sums = sum_nowhere s f a lo g z ∙ sym (sum_nowhere s f a hi h z); lower = stopped_nowhere s f a lo z; upper = stopped_nowhere s f a hi z })

  -- Nor has one in which a node on the shared way has no branch with the next shared byte.
  pub count_absent : BranchMissing s f lo (shared lo hi) → counted (real_leaves s f) lo hi ≡ 0
  count_absent t = none_between (t.depth + 1) (same_none t.node t.depth (leads_parted t.leads (omega (arith, t.inside))) t.inside t.branch t.here.found t.absent)

  -- Where the shared way ends at an open leaf, that leaf alone can lie between the keys.
  pub count_shared : (m p d : ℕ) → LeafBehind s f lo (shared lo hi) m p d → LeafShared s f lo hi m p d
  count_shared m p d t =
      let v : ValuePos = record { 0 = slot_at s f m p } in
      let x = same_leaf m t.depth (leads_parted t.leads (omega (arith, t.inside))) t.inside t.branch t.here.found t.ends v (ap (slot_at s f m) t.at_is) in
      let y : SameStop s f lo hi (Open v) d = rw t.passed x in
      record {
        position = record { accepted = a; within = rw t.at_is t.here.found.at_is.within };
        cut = record { accepted = a; slot_in = y.lower.leaf_in v refl; lo_in = y.lower.depth_in; hi_in = y.upper.depth_in; lo_short = g; hi_short = h };
        count_is = count_same (Open v) d y _ _ (sym (value_open s f a lo (Open v) d y.lower.leads false (slot_passed f.hash_width (length lo)) v refl)) (sym (value_open s f a hi (Open v) d y.upper.leads true (slot_reached f.hash_width (length hi)) v refl))
            ∙ one_less (slot_passed f.hash_width (length lo) (slot_of f.width (nodes s f) v.0) (drop d lo)) (slot_reached f.hash_width (length hi) (slot_of f.width (nodes s f) v.0) (drop d hi));
      }
    where
      one_less : (p r : Bool) → bit r - bit p ≡ bit (not p && r)
      one_less true true = refl
      one_less true false = refl
      one_less false r = omega arith

-- ---- one level of a bound

module _ (s : Bytes) (f : Frame) (a : Accepted s f) (key : Bytes) (short : length key ≤ 64) (above : ℕ) (from : LevelSum) (o : Leading s f key from.node.0 from.depth (above + from.sum)) where
  -- the key ends at the node
  pub bound_end : length key ≤ from.depth → BoundEnded s f key above (record { level = from; end = End.Node })
  bound_end h = record {
    ended = ended_end s f a key from.node.0 from.depth (above + from.sum) o h;
    inside = λ q. o.node_in;
  }

  module _ (h : from.depth < length key) (b : Found) (t : FoundBranch s f from.node.0 (get_or key from.depth 0) b) (to : LevelSum) (slot : ValuePos) (v : BehindBranch s f from.node.0 b.at.0 to.node.0 slot.0)
      (d : to.depth ≡ from.depth + 1) (w : to.sum ≡ from.sum + slot.0) where
    to_sum : above + to.sum ≡ above + from.sum + slot.0
    to_sum = omega arith

    to_child : to.node.0 ≡ child_number (nodes s f) from.node.0 (branch_index s f from.node.0 (get_or key from.depth 0))
    to_child = v.child_is ∙ t.at_is.child_is

    to_slot : slot.0 ≡ slot_number (nodes s f) from.node.0 (branch_index s f from.node.0 (get_or key from.depth 0))
    to_slot = v.slot_is ∙ t.at_is.slot_is

    -- a branch that continues
    pub bound_next : b.kind ≡ Child → Leading s f key to.node.0 to.depth (above + to.sum)
    bound_next k = rw (d, to_sum) (leading_on s f a key from.node.0 from.depth (above + from.sum) o b.kind to.node.0 slot.0 h short t.kind_is to_child to_slot k)

    -- none: the key leads nowhere
    pub bound_none : b.kind ≡ Absent → BoundEnded s f key above (record { level = to; end = End.NoLeaf })
    bound_none k = record {
      ended = rw (d, to_sum) (ended_none s f a key from.node.0 from.depth (above + from.sum) o b.kind to.node.0 slot.0 h short t.kind_is to_child to_slot k);
      inside = λ q. let z : ◌≡◌ {A = ℕ} 0 1 = cc in absurd (omega arith);
    }

    -- one that ends: the key leads to its open leaf
    pub bound_leaf : b.kind ≡ Leaf → BoundEnded s f key above (record { level = to; end = End.Leaf slot })
    bound_leaf k = record {
      ended = rw (d, to_sum) (ended_leaf s f a key from.node.0 from.depth (above + from.sum) o b.kind to.node.0 slot.0 h short t.kind_is to_child to_slot k slot refl);
      inside = λ q. let z : ◌≡◌ {A = ℕ} 0 1 = cc in absurd (omega arith);
    }

-- ---- counts

-- Two bounds from where the keys part: their sums, as far as they differ, and what counts where each key leads.
pub count_parted : (s : Bytes) (f : Frame) (lo hi : Bytes) (above : ℕ) (a b : Bound) → Accepted s f → length lo ≤ 64 → length hi ≤ 64 → BoundEnded s f lo above a → BoundEnded s f hi above b → (r : BoundSums) → SumsApart s f a.level b.level r
    → (u v : ℕ) → u ≡ passed_there s f lo → v ≡ reached_there s f hi → counted (real_leaves s f) lo hi ≡ (r.upper + v) - (r.lower + u)
count_parted s f lo hi above a b z g h x y r t u v p q =
    omega (arith, count_bounds s f z lo hi g h (slots_below (nodes s f) 64 0 lo) (slots_below (nodes s f) 64 0 hi) u v refl refl p q, x.ended.sums, y.ended.sums, t.apart)
