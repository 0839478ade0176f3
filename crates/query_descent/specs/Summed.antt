-- The bound of a key by the sum of its slot numbers level by level: on the key's way, and where it has led, with what is left on the levels below.
use Rattle.std.specs.Prelude.{ℕ, zero, suc, ◌+◌, ◌-◌, ◌*◌, ◌<◌, ◌≤◌, ◌≡◌, refl, Bool, true, false, [], length, get_or, drop}
use Rattle.std.proofs.Common.{ap, ◌∙◌, mul-le-mul_right, arith, drop_of_length-le}
use Rattle.spec.specs.Bytes.{Bytes, bit}
use Rattle.spec.specs.Nodes.{is_exact, total, children_of}
use Rattle.image.specs.declared.Frame.{Frame}
use Rattle.image.specs.declared.ValuePos.{ValuePos}
use Rattle.nav_nodes.specs.declared.BranchKind.{BranchKind}
use Rattle.nav_nodes.specs.declared.BranchKind.TheVariants.{Absent, Leaf, Child}
use Rattle.nav_branches.specs.declared.LeafStop.{LeafStop}
use Rattle.nav_branches.specs.declared.LeafStop.TheVariants.{Nowhere, Exact, Open}
use Rattle.query_descent.specs.Bounds.{slot_passed, slot_reached}
use Rattle.nav_nodes.specs.Slots.{node_at, leaves_before, slot_number, slot_of}
use Rattle.nav_nodes.specs.Descent.{descend, children_before, child_number, value}
use Rattle.nav_nodes.specs.NextLabel.{kind_with}
use Rattle.query_descent.specs.LevelSums.{slots_below, slots_behind}
use Rattle.nav_nodes.specs.NumberBounds.{child_range, slot_range, children_all, leaves_all}
use Rattle.query_descent.specs.Steps.{exact_stop}
use Rattle.query_descent.specs.SuffixBytes.{bit_le}
use Rattle.nav_nodes.specs.Accepted.{Accepted, nodes}
use Rattle.nav_nodes.specs.Positions.{branches, branch_index}
use Rattle.nav_nodes.specs.FoundBranch.{node_count}
use Rattle.query_descent.specs.Answers.{value_none, value_exact, value_open}
use Rattle.query_descent.specs.Followed.{Stopped, node_length, byte_on, stopped_end, stopped_none, stopped_open, sum_on, sum_off, level_next}

-- the sum of the slot numbers of the empty key's bound, which is the first node of every level
abbrev pub empty_key_sum : Bytes → Frame → ℕ
empty_key_sum s f = slots_below (nodes s f) 64 0 []

-- what counts where a key leads, beside the slot numbers of its bound: 1 for an open leaf that it has passed
abbrev pub passed_there : Bytes → Frame → Bytes → ℕ
passed_there s f key = value false (slot_passed f.hash_width (length key)) f.width (nodes s f) (descend (nodes s f) 0 key)

-- the same for the leaves that it has reached: 1 for an exact leaf, and for an open one that it has reached
abbrev pub reached_there : Bytes → Frame → Bytes → ℕ
reached_there s f key = value true (slot_reached f.hash_width (length key)) f.width (nodes s f) (descend (nodes s f) 0 key)

-- the first bytes of a key lead to a node, with the sum of the slot numbers on the levels above it
pub record Leading (s : Bytes) (f : Frame) (key : Bytes) (node depth sum : ℕ) : Type 0 where
  pub node_in : node < node_count f
  pub depth_in : depth ≤ length key
  pub small : sum ≤ depth * 65535
  pub leads : descend (nodes s f) 0 key ≡ descend (nodes s f) node (drop depth key)
  pub sums : slots_below (nodes s f) 64 0 key ≡ sum + slots_below (nodes s f) (64 - depth) node (drop depth key)

-- where a key has led: the leaf there, the first node of a level that does not lie before the key's bound, and the sum on the levels above it
pub record Ended (s : Bytes) (f : Frame) (key : Bytes) (leaf : LeafStop) (node depth sum : ℕ) : Type 0 where
  pub node_in : node ≤ node_count f
  pub small : sum ≤ depth * 65535
  pub sums : slots_below (nodes s f) 64 0 key ≡ sum + slots_below (nodes s f) (64 - depth) node []
  pub stop_is : Stopped s f key leaf depth

-- the same bound, with an open leaf that the key has passed in the sum
pub record Summed (s : Bytes) (f : Frame) (key : Bytes) (node depth sum : ℕ) : Type 0 where
  pub node_in : node ≤ node_count f
  pub depth_in : depth ≤ length key
  pub small : sum ≤ depth * 65535 + 1
  pub sums : slots_below (nodes s f) 64 0 key + passed_there s f key ≡ sum + slots_below (nodes s f) (64 - depth) node []

-- ---- numbers on one level

module _ (s : Bytes) (f : Frame) (a : Accepted s f) where
  node_few : length (nodes s f) ≤ 1 + total children_of (nodes s f)
  node_few = rw (node_length s f a) (go (node_count f) a.node_total)
    where
      go : (n : ℕ) → (0 < n → n ≡ 1 + total children_of (nodes s f)) → n ≤ 1 + total children_of (nodes s f)
      go zero h = omega arith
      go (suc n) h = omega (arith, h (omega arith))

  -- behind the last node: all leaves, on each level left
  pub rest_full : (node l : ℕ) (key : Bytes) → node ≡ node_count f → length key ≤ l → slots_below (nodes s f) l node key ≡ l * f.leaves
  rest_full node l key h k = slots_behind (nodes s f) l node key k (omega (arith, node_length s f a)) node_few ∙ ap (λ (n : ℕ). l * n) a.writable.leaf_total

  -- the first node of the next level is one of the nodes, or behind the last
  pub rest_node : (node : ℕ) → 0 < node_count f → 1 + children_before (nodes s f) node ≤ node_count f
  rest_node node h = omega (arith, a.node_total h, children_all (nodes s f) node)

  -- no more leaves than there are
  pub rest_leaves : (node : ℕ) → leaves_before (nodes s f) node ≤ 65535
  rest_leaves node = omega (arith, leaves_all (nodes s f) node, a.writable.leaf_total, a.writable.few)

  -- nor more before a branch
  pub rest_slot : (node i : ℕ) → slot_number (nodes s f) node i ≤ 65535
  rest_slot node i = omega (arith, (slot_range (nodes s f) node i).1, a.writable.leaf_total, a.writable.few)

  -- the first node behind the branches before a branch is one of the nodes, or behind the last
  rest_child : (node i : ℕ) → 0 < node_count f → child_number (nodes s f) node i ≤ node_count f
  rest_child node i h = omega (arith, (child_range (nodes s f) node i).1, a.node_total h)

  -- and so few over all levels that the sum fits
  pub rest_few : (l : ℕ) → l ≤ 64 → l * f.leaves ≤ 4194240
  rest_few l h = omega (arith, mul-le-mul_right f.leaves h, a.writable.few)

-- ---- along a key

module _ (s : Bytes) (f : Frame) (a : Accepted s f) (key : Bytes) where
  -- no byte leads to the root
  pub leading_root : 0 < node_count f → Leading s f key 0 0 0
  leading_root h = record { node_in = h; depth_in = omega arith; small = omega arith; leads = refl; sums = omega (arith, refl {a = slots_below (nodes s f) 64 0 key}) }

  -- what counts where the key has led goes into the sum
  summed : (leaf : LeafStop) (m d sum : ℕ) → Ended s f key leaf m d sum → (n : ℕ) → n ≤ 1 → passed_there s f key ≡ n → Summed s f key m d (sum + n)
  summed leaf m d sum o n t e = record { node_in = o.node_in; depth_in = o.stop_is.depth_in; small = omega (arith, o.small); sums = omega (arith, o.sums) }

  -- where nothing counts, the sum is the same
  unsummed : (leaf : LeafStop) (m d sum : ℕ) → Ended s f key leaf m d sum → passed_there s f key ≡ 0 → Summed s f key m d sum
  unsummed leaf m d sum o e = let z : sum + 0 ≡ sum = omega arith in rw z at (summed leaf m d sum o 0 (omega arith) e)

  -- an exact leaf at the key's end is not passed
  pub end_unpassed : (d : ℕ) (b : Bool) → Stopped s f key (exact_stop b) d → passed_there s f key ≡ 0
  end_unpassed d true t = value_exact s f a key Exact d t.leads false (slot_passed f.hash_width (length key)) refl
  end_unpassed d false t = value_none s f a key Nowhere d t.leads false (slot_passed f.hash_width (length key)) refl

  module _ (m d sum : ℕ) (o : Leading s f key m d sum) where
    -- the end of the key, at a node that may be an exact leaf
    pub ended_end : length key ≤ d → Ended s f key (exact_stop (is_exact (node_at (nodes s f) m))) m d sum
    ended_end h = record {
      node_in = omega (arith, o.node_in);
      small = o.small;
      sums = omega (arith, o.sums, ap (slots_below (nodes s f) (64 - d) m) (drop_of_length-le key {i = d} h));
      stop_is = stopped_end s f a key d m (exact_stop (is_exact (node_at (nodes s f) m))) (omega (arith, o.depth_in)) refl o.leads;
    }

    pub summed_end : length key ≤ d → Summed s f key m d sum
    summed_end h = let e = ended_end h in unsummed (exact_stop (is_exact (node_at (nodes s f) m))) m d sum e (end_unpassed d (is_exact (node_at (nodes s f) m)) e.stop_is)

    module _ (kind : BranchKind) (child slot : ℕ) (h : d < length key) (short : length key ≤ 64) (is : kind ≡ kind_with (get_or key d 0) (drop (branch_index s f m (get_or key d 0)) (branches s f m)))
        (child_is : child ≡ child_number (nodes s f) m (branch_index s f m (get_or key d 0))) (slot_is : slot ≡ slot_number (nodes s f) m (branch_index s f m (get_or key d 0))) where
      slot_few : slot ≤ 65535
      slot_few = rw slot_is (rest_slot s f a m (branch_index s f m (get_or key d 0)))

      -- a branch that continues: the next byte leads to the node behind it
      pub leading_on : kind ≡ Child → Leading s f key child (d + 1) (sum + slot)
      leading_on k =
          let b = byte_on s f a key m d kind h is k (omega (arith, o.node_in)) o.leads in
          let w = rw (level_next d) at (sum_on s f a key m d kind h is k (64 - d)) in
          record {
            node_in = rw child_is b.0;
            depth_in = omega arith;
            small = omega (arith, o.small, slot_few);
            leads = rw child_is b.1;
            sums = rw child_is (omega (arith, o.sums, w));
          }

      -- none: the first node behind the branches before the byte
      off : (kind ≡ Child → ⊥) → (leaf : LeafStop) → Stopped s f key leaf (d + 1) → Ended s f key leaf child (d + 1) (sum + slot)
      off k leaf t =
          let w = rw (level_next d) at (sum_off s f a key m d kind h is k (64 - d)) in
          record {
            node_in = rw child_is (rest_child s f a m (branch_index s f m (get_or key d 0)) (omega (arith, o.node_in)));
            small = omega (arith, o.small, slot_few);
            sums = rw child_is (omega (arith, o.sums, w));
            stop_is = t;
          }

      -- no branch at all
      pub ended_none : kind ≡ Absent → Ended s f key Nowhere child (d + 1) (sum + slot)
      ended_none k = off (λ q. let n : ◌≡◌ {A = ℕ} 0 1 = cc in omega arith) Nowhere (stopped_none s f a key m d kind h is k o.leads)

      -- an open leaf
      pub ended_leaf : kind ≡ Leaf → (v : ValuePos) → v.0 ≡ slot → Ended s f key (Open v) child (d + 1) (sum + slot)
      ended_leaf k v e = off (λ q. let n : ◌≡◌ {A = ℕ} 0 1 = cc in omega arith) (Open v) (stopped_open s f a key m d kind h is v (e ∙ slot_is) k o.leads)

      pub summed_none : kind ≡ Absent → Summed s f key child (d + 1) (sum + slot)
      summed_none k = let e = ended_none k in unsummed Nowhere child (d + 1) (sum + slot) e (value_none s f a key Nowhere (d + 1) e.stop_is.leads false (slot_passed f.hash_width (length key)) refl)

      -- an open leaf counts if the key has passed it
      pub summed_leaf : kind ≡ Leaf → Summed s f key child (d + 1) (sum + slot + bit (slot_passed f.hash_width (length key) (slot_of f.width (nodes s f) slot) (drop (d + 1) key)))
      summed_leaf k =
          let v : ValuePos = record { 0 = slot } in
          let e = ended_leaf k v refl in
          let b = slot_passed f.hash_width (length key) (slot_of f.width (nodes s f) slot) (drop (d + 1) key) in
          summed (Open v) child (d + 1) (sum + slot) e (bit b) (bit_le b) (value_open s f a key (Open v) (d + 1) e.stop_is.leads false (slot_passed f.hash_width (length key)) v refl)
