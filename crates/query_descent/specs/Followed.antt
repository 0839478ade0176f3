-- Where the bytes of a key lead from the root, and the sum of its slot numbers, one level at a time.
use Rattle.std.specs.Prelude.{ℕ, suc, ◌+◌, ◌-◌, ◌<◌, ◌≤◌, ◌≡◌, refl, Bool, true, false, [], length, get_or, drop}
use Rattle.std.proofs.Common.{sym, ap, ◌∙◌, length-append, drop_of_length-le}
use native.Mathlib.Omega.{arith}
use Rattle.spec.specs.Bytes.{Bytes}
use Rattle.spec.specs.Nodes.{is_exact, read_leaves}
use Rattle.image.specs.declared.Frame.{Frame}
use Rattle.image.specs.declared.ValuePos.{ValuePos}
use Rattle.nav_nodes.specs.declared.BranchKind.{BranchKind}
use Rattle.nav_nodes.specs.declared.BranchKind.TheVariants.{Absent, Leaf, Child}
use Rattle.nav_nodes.specs.declared.Found.{Found}
use Rattle.nav_branches.specs.declared.LeafStop.{LeafStop}
use Rattle.nav_branches.specs.declared.LeafStop.TheVariants.{Nowhere, Open}
use Rattle.nav_nodes.specs.Slots.{node_at, slot_number}
use Rattle.nav_nodes.specs.Descent.{descend, at_open, children_before, child_number}
use Rattle.nav_nodes.specs.NextLabel.{kind_with}
use Rattle.nav_nodes.specs.NumberBounds.{child_in, child_range}
use Rattle.nav_nodes.specs.Accepted.{Accepted, nodes, dense_nodes, sparse_nodes}
use Rattle.nav_nodes.specs.Positions.{branches, branch_index, child_at, slot_at}
use Rattle.nav_nodes.specs.FoundBranch.{node_count, IsPosition, FoundBranch}
use Rattle.query_descent.specs.Root.{first_below, first_next, first_up, levels_end}
use Rattle.query_descent.specs.LevelSums.{slots_below, slots_on, slots_off, below_sums, between_nowhere}
use Rattle.query_descent.specs.Steps.{stop_of, exact_stop, goes_there, descend_none, descend_open, descend_on, descend_end, descend_nowhere, below_nowhere, slot_in}
use Rattle.query_descent.specs.SuffixBytes.{key_next}
use Rattle.query_descent.specs.Leads.{Leads, along, LeafBehind}

-- A key has led to this leaf, with so many of its bytes passed.
pub record Stopped (s : Bytes) (f : Frame) (key : Bytes) (stop : LeafStop) (depth : ℕ) : Type 0 where
  -- the leaf, and the bytes of the key behind it
  pub leads : descend (nodes s f) 0 key ≡ stop_of stop (drop depth key)
  -- no more bytes are passed than the key has
  pub depth_in : depth ≤ length key
  -- an open leaf's slot is one of the leaves
  pub leaf_in : (v : ValuePos) → stop ≡ Open v → v.0 < f.leaves

-- The first bytes of a key, `depth` of them, lead to a node.
pub record OnWay (s : Bytes) (f : Frame) (key : Bytes) (depth node : ℕ) : Type 0 where
  -- it is one of the nodes
  pub node_in : node < node_count f
  -- no more bytes are passed than the key has
  pub depth_in : depth ≤ length key
  -- the rest of the key leads on from the node
  pub leads : descend (nodes s f) 0 key ≡ descend (nodes s f) node (drop depth key)
  -- the levels below it end with the 64th
  pub levels_in : node_count f ≤ first_below (nodes s f) (64 - depth) node

-- The first bytes of a key, d of them, lead to the open leaf behind the branch of node m at position p.
pub record LeafReached (s : Bytes) (f : Frame) (key : Bytes) (m p d : ℕ) : Type 0 where
  -- the position is one of the node's kind
  pub position : IsPosition s f m p
  -- the leaf's slot is one of the leaves
  pub slot_inside : slot_at s f m p < f.leaves
  -- no more bytes are passed than the key has
  pub depth_in : d ≤ length key

-- one level fewer
pub level_next : (d : ℕ) → 64 - d - 1 ≡ 64 - (d + 1)
level_next d = omega arith

module _ (s : Bytes) (f : Frame) (a : Accepted s f) where
  -- as many nodes are read as the frame says
  pub node_length : length (nodes s f) ≡ node_count f
  node_length = omega (arith, length-append (dense_nodes s f) (sparse_nodes s f), a.dense_size, a.sparse_size)

module _ (s : Bytes) (f : Frame) (a : Accepted s f) (key : Bytes) where
  -- an image without nodes leads nowhere
  pub stopped_nowhere : node_count f ≡ 0 → Stopped s f key Nowhere 0
  stopped_nowhere z = record { leads = descend_nowhere (nodes s f) key (node_length s f a ∙ z); depth_in = omega arith; leaf_in = λ v q. let n : ◌≡◌ {A = ℕ} 0 1 = cc in absurd (omega arith) }

  -- and its keys have no sum
  pub sum_nowhere : length key ≤ 64 → node_count f ≡ 0 → slots_below (nodes s f) 64 0 key ≡ 0
  sum_nowhere h z =
      let e : length (nodes s f) ≡ 0 = node_length s f a ∙ z in
      omega (arith, below_sums (nodes s f) 64 0 0 key (omega arith) h, below_nowhere (nodes s f) 64 key e, between_nowhere (nodes s f) 64 0 e)

  -- no byte leads to the root
  way_root : 0 < node_count f → OnWay s f key 0 0
  way_root h = record {
    node_in = h;
    depth_in = omega arith;
    leads = refl;
    levels_in = omega (arith, node_length s f a, levels_end f.width (read_leaves s) (nodes s f) a.realizable a.well_sized a.trie_is);
  }

  -- no way is longer than 64 levels
  way_ends : (d m : ℕ) → 64 ≤ d → OnWay s f key d m → ⊥
  unfolding first_below
  way_ends d m h o = let z : 64 - d ≡ 0 = omega arith in let k = rw z at o.levels_in in omega (arith, o.node_in, k)

  -- the key ends at a node, which may be an exact leaf
  pub stopped_end : (d m : ℕ) (stop : LeafStop) → d ≡ length key → stop ≡ exact_stop (is_exact (node_at (nodes s f) m)) → descend (nodes s f) 0 key ≡ descend (nodes s f) m (drop d key) → Stopped s f key stop d
  stopped_end d m stop z x e = let n = drop_of_length-le key {i = d} (omega arith) in record {
    leads = e ∙ ap (descend (nodes s f) m) n ∙ descend_end (nodes s f) m (is_exact (node_at (nodes s f) m)) refl ∙ ap (λ (t : LeafStop). stop_of t []) (sym x) ∙ ap (stop_of stop) (sym n);
    depth_in = omega arith;
    leaf_in = λ v q. no_slot (is_exact (node_at (nodes s f) m)) v (sym x ∙ q);
  }
    where
      no_slot : (b : Bool) (v : ValuePos) → exact_stop b ≡ Open v → v.0 < f.leaves
      no_slot true v q = let n : ◌≡◌ {A = ℕ} 0 1 = cc in absurd (omega arith)
      no_slot false v q = let n : ◌≡◌ {A = ℕ} 0 1 = cc in absurd (omega arith)

  module _ (m d : ℕ) (kind : BranchKind) (h : d < length key) (is : kind ≡ kind_with (get_or key d 0) (drop (branch_index s f m (get_or key d 0)) (branches s f m))) where
    -- a branch that continues: the next byte leads to the node behind it
    pub byte_on : kind ≡ Child → 0 < node_count f → descend (nodes s f) 0 key ≡ descend (nodes s f) m (drop d key)
        → (child_number (nodes s f) m (branch_index s f m (get_or key d 0)) < node_count f) × (descend (nodes s f) 0 key ≡ descend (nodes s f) (child_number (nodes s f) m (branch_index s f m (get_or key d 0))) (drop (d + 1) key))
    byte_on k n e =
        let z = node_length s f a in
        let g = goes_there (nodes s f) m (get_or key d 0) (drop (d + 1) key) kind is k in
        let x = child_in (nodes s f) m (branch_index s f m (get_or key d 0)) (get_or key d 0) (z ∙ a.node_total n) g in
        (omega arith, e ∙ ap (descend (nodes s f) m) (key_next key d h) ∙ descend_on (nodes s f) m (get_or key d 0) (drop (d + 1) key) kind is k)

    -- on the next level
    way_on : kind ≡ Child → OnWay s f key d m → OnWay s f key (d + 1) (child_number (nodes s f) m (branch_index s f m (get_or key d 0)))
    way_on k o = let b = byte_on k (omega (arith, o.node_in)) o.leads in record {
      node_in = b.0;
      depth_in = omega arith;
      leads = b.1;
      levels_in = omega (arith, lower (below d (λ q. way_ends d m q o)), first_up (nodes s f) (64 - (d + 1)) (1 + children_before (nodes s f) m) (child_number (nodes s f) m (branch_index s f m (get_or key d 0))) (child_range (nodes s f) m (branch_index s f m (get_or key d 0))).0);
    }
      where
        below : (x : ℕ) → (64 ≤ x → ⊥) → x < 64
        below x h = omega arith

        lower : d < 64 → node_count f ≤ first_below (nodes s f) (64 - (d + 1)) (1 + children_before (nodes s f) m)
        lower q = let z : 64 - d ≡ suc (64 - (d + 1)) = omega arith in rw (z, first_next (nodes s f) (64 - (d + 1)) m) at o.levels_in

    -- none: the key leads nowhere
    pub stopped_none : kind ≡ Absent → descend (nodes s f) 0 key ≡ descend (nodes s f) m (drop d key) → Stopped s f key Nowhere (d + 1)
    stopped_none k e = record {
      leads = e ∙ ap (descend (nodes s f) m) (key_next key d h) ∙ descend_none (nodes s f) m (get_or key d 0) (drop (d + 1) key) kind is k;
      depth_in = omega arith;
      leaf_in = λ v q. let n : ◌≡◌ {A = ℕ} 0 1 = cc in absurd (omega arith);
    }

    -- one that ends: the key leads to its open leaf
    pub stopped_open : (v : ValuePos) → v.0 ≡ slot_number (nodes s f) m (branch_index s f m (get_or key d 0)) → kind ≡ Leaf → descend (nodes s f) 0 key ≡ descend (nodes s f) m (drop d key) → Stopped s f key (Open v) (d + 1)
    stopped_open v w k e = record {
      leads = e ∙ ap (descend (nodes s f) m) (key_next key d h) ∙ descend_open (nodes s f) m (get_or key d 0) (drop (d + 1) key) kind is k ∙ ap (λ (x : ℕ). at_open x (drop (d + 1) key)) (sym w);
      depth_in = omega arith;
      leaf_in = λ u q. let n : u.0 ≡ v.0 = cc in omega (arith, slot_in (nodes s f) m (get_or key d 0) kind is k, a.writable.leaf_total);
    }

    -- the sum of slot numbers, one level taken off
    pub sum_on : kind ≡ Child → (l : ℕ) → slots_below (nodes s f) l m (drop d key)
        ≡ slot_number (nodes s f) m (branch_index s f m (get_or key d 0)) + slots_below (nodes s f) (l - 1) (child_number (nodes s f) m (branch_index s f m (get_or key d 0))) (drop (d + 1) key)
    sum_on k l = ap (slots_below (nodes s f) l m) (key_next key d h) ∙ slots_on (nodes s f) m (get_or key d 0) (drop (d + 1) key) kind is l k

    -- a key that has left the trie counts on the levels below as one that has ended
    pub sum_off : (kind ≡ Child → ⊥) → (l : ℕ)
        → slots_below (nodes s f) l m (drop d key) ≡ slot_number (nodes s f) m (branch_index s f m (get_or key d 0)) + slots_below (nodes s f) (l - 1) (child_number (nodes s f) m (branch_index s f m (get_or key d 0))) []
    sum_off k l = ap (slots_below (nodes s f) l m) (key_next key d h) ∙ slots_off (nodes s f) m (get_or key d 0) (drop (d + 1) key) kind is l k

  -- What the node has at the key's next byte: the same laws, by the branch found there and what stands behind its position.
  module _ (m d : ℕ) (h : d < length key) (b : Found) (r : FoundBranch s f m (get_or key d 0) b) where
    -- the key goes on to the child
    way_child : (child : ℕ) → child ≡ child_at s f m b.at.0 → b.kind ≡ Child → OnWay s f key d m → OnWay s f key (d + 1) child
    way_child child e k o = let c = e ∙ r.at_is.child_is in rw c (way_on m d b.kind h r.kind_is k o)

    -- the key has left the trie
    pub way_none : b.kind ≡ Absent → OnWay s f key d m → Stopped s f key Nowhere (d + 1)
    way_none k o = stopped_none m d b.kind h r.kind_is k o.leads

    -- the key has led to an open leaf
    pub way_leaf : (v : ValuePos) → v.0 ≡ slot_at s f m b.at.0 → b.kind ≡ Leaf → OnWay s f key d m → Stopped s f key (Open v) (d + 1)
    way_leaf v e k o = stopped_open m d b.kind h r.kind_is v (e ∙ r.at_is.slot_is) k o.leads

  -- The node to which the first bytes of the key lead is on its way.
  pub leads_way : {d m : ℕ} → Leads s f key d m → OnWay s f key d m
  leads_way l = along (OnWay s f key) way_root (λ d m c o b. way_child m d b.here.more b.branch b.here.found c b.child_is b.continues o) l

  -- Where the first bytes of the key lead to an open leaf, its branch stands at a position of the node and its slot is one of the leaves.
  pub leaf_reached : {n m p d : ℕ} → LeafBehind s f key n m p d → LeafReached s f key m p d
  leaf_reached {m = m} t = let r = t.here.found in record {
    position = record { accepted = a; within = rw t.at_is r.at_is.within };
    slot_inside = omega (arith, ap (slot_at s f m) t.at_is, r.at_is.slot_is, slot_in (nodes s f) m (get_or key t.depth 0) t.branch.kind r.kind_is t.ends, a.writable.leaf_total);
    depth_in = omega (arith, t.passed, t.here.more);
  }
