-- What a bound asks and gives that goes down level by level once its key has ended.
use Rattle.std.specs.Prelude.{ℕ, ◌+◌, ◌-◌, ◌*◌, ◌<◌, ◌≤◌, ◌≡◌, refl, []}
use Rattle.std.proofs.Common.{sym, ap, ◌∙◌, mul-le-mul_left, mul-le-mul_right, add-mul, arith}
use Rattle.spec.specs.Bytes.{Bytes}
use Rattle.image.specs.declared.Frame.{Frame}
use Rattle.nav_nodes.specs.Accepted.{Accepted, nodes}
use Rattle.nav_nodes.specs.Slots.{leaves_before}
use Rattle.nav_nodes.specs.Descent.{children_before}
use Rattle.nav_nodes.specs.FoundBranch.{node_count}
use Rattle.query_descent.specs.LevelSums.{slots_below, slots_past, slots_ended}
use Rattle.query_descent.specs.Summed.{rest_full, rest_node, rest_leaves}
use Rattle.query_sums.specs.Chains.{ChainOf, chain_end, chain_sum}
use Rattle.query_sums.specs.LevelTable.{nodes_few}
use Rattle.query_descent.specs.Followed.{node_length}
use Rattle.query_sums.specs.declared.Chain.{Chain}
use Rattle.query_sums.specs.declared.levels.LevelSum.{LevelSum}
use Rattle.query_sums.specs.declared.levels.BoundSums.{BoundSums}

-- What a bound that goes down to a level asks: its key has ended.
pub record DownTo (s : Bytes) (f : Frame) (from : LevelSum) (depth : ℕ) : Type 0 where
  -- the image is accepted
  pub accepted : Accepted s f
  -- the first node that does not lie before the bound, or the number behind the last node
  pub node_in : from.node.0 ≤ node_count f
  -- the level is not above the bound's own
  pub from_in : from.depth ≤ depth
  -- and is one of the levels, or behind the last
  pub depth_in : depth ≤ 64
  -- the sum so far is small
  pub small : from.sum ≤ from.depth * 65535 + 1

-- The bound of a key that has ended, on a level further down.
pub record GoneDown (s : Bytes) (f : Frame) (from : LevelSum) (depth : ℕ) (to : LevelSum) : Type 0 where
  -- the first node of that level that does not lie before the bound, or the number behind the last node
  pub node_in : to.node.0 ≤ node_count f
  -- the level
  pub depth_is : to.depth ≡ depth
  -- with the levels left, the sum is the same
  pub sums : from.sum + slots_below (nodes s f) (64 - from.depth) from.node.0 [] ≡ to.sum + slots_below (nodes s f) (64 - depth) to.node.0 []
  -- the sum is small
  pub small : to.sum ≤ from.sum + (depth - from.depth) * 65535

-- The sum over all levels, for a bound whose key has ended.
abbrev pub SummedBelow : Bytes → Frame → LevelSum → ℕ → Type 0
SummedBelow s f from r = (r ≡ from.sum + slots_below (nodes s f) (64 - from.depth) from.node.0 []) × (r ≤ from.sum + (64 - from.depth) * 65535)

-- The bound on some level further down.
pub record Lowered (s : Bytes) (f : Frame) (from to : LevelSum) : Type 0 where
  pub deeper : from.depth < to.depth
  pub depth_in : to.depth ≤ 64
  pub gone : GoneDown s f from to.depth to

-- The sums of two bounds whose keys have ended, up to what both have in common.
pub record SumsApart (s : Bytes) (f : Frame) (a b : LevelSum) (r : BoundSums) : Type 0 where
  -- they differ as the sums over all levels do
  pub apart : (a.sum + slots_below (nodes s f) (64 - a.depth) a.node.0 []) + r.upper ≡ (b.sum + slots_below (nodes s f) (64 - b.depth) b.node.0 []) + r.lower
  -- the sums are small
  pub lower_small : r.lower ≤ 4194241
  pub upper_small : r.upper ≤ 4194241

-- ---- one level further down

module _ (s : Bytes) (f : Frame) (a : Accepted s f) (from : LevelSum) where
  -- no level further
  pub down_none : (depth : ℕ) → from.depth ≡ depth → from.node.0 ≤ node_count f → GoneDown s f from depth from
  down_none depth e h = record { node_in = h; depth_is = e; sums = ap (λ (l : ℕ). from.sum + slots_below (nodes s f) (64 - l) from.node.0 []) e; small = omega arith }

  module _ (b : LevelSum) (r : GoneDown s f from b.depth b) (depth : ℕ) (above : from.depth ≤ b.depth) (more : b.depth < depth) (fits : depth ≤ 64) where
    -- past the leaves before the bound's node
    pub down_next : (to : LevelSum) → to.node.0 ≡ children_before (nodes s f) b.node.0 + 1 → to.depth ≡ b.depth + 1 → to.sum ≡ b.sum + leaves_before (nodes s f) b.node.0 → b.node.0 < node_count f
        → GoneDown s f from to.depth to
    down_next to n d t h = record {
      node_in = omega (arith, rest_node s f a b.node.0 (omega arith));
      depth_is = refl;
      sums = omega (arith, r.sums, slots_ended (nodes s f) (64 - b.depth) b.node.0 (omega arith), level, ap (λ (m : ℕ). slots_below (nodes s f) (64 - to.depth) m []) node);
      small = omega (arith, r.small, rest_leaves s f a b.node.0);
    }
      where
        node : to.node.0 ≡ 1 + children_before (nodes s f) b.node.0
        node = omega arith

        level : slots_below (nodes s f) (64 - b.depth - 1) (1 + children_before (nodes s f) b.node.0) [] ≡ slots_below (nodes s f) (64 - to.depth) (1 + children_before (nodes s f) b.node.0) []
        level = let e : 64 - b.depth - 1 ≡ 64 - to.depth = omega arith in ap (λ (l : ℕ). slots_below (nodes s f) l (1 + children_before (nodes s f) b.node.0) []) e

    -- past all leaves, on each level left
    pub down_full : (to : LevelSum) → to.node.0 ≡ b.node.0 → to.depth ≡ depth → to.sum ≡ b.sum + (depth - b.depth) * f.leaves → b.node.0 ≡ node_count f → GoneDown s f from depth to
    down_full to n d t h = record {
      node_in = omega arith;
      depth_is = d;
      sums = omega (arith, r.sums, rest_full s f a b.node.0 (64 - b.depth) [] h (omega arith), rest_full s f a to.node.0 (64 - depth) [] (n ∙ h) (omega arith), split);
      small = omega (arith, r.small, mul-le-mul_left (depth - b.depth) a.writable.few);
    }
      where
        split : (64 - b.depth) * f.leaves ≡ (depth - b.depth) * f.leaves + (64 - depth) * f.leaves
        split = let e : 64 - b.depth ≡ (depth - b.depth) + (64 - depth) = omega arith in ap (λ (l : ℕ). l * f.leaves) e ∙ add-mul (depth - b.depth) (64 - depth) f.leaves

-- a bound on the next level has been lowered
pub lowered_next : (s : Bytes) (f : Frame) (from to : LevelSum) → from.depth < 64 → GoneDown s f from (from.depth + 1) to → Lowered s f from to
lowered_next s f from to h g = record {
  deeper = omega (arith, g.depth_is);
  depth_in = omega (arith, g.depth_is);
  gone = record { node_in = g.node_in; depth_is = refl; sums = g.sums ∙ ap (λ (l : ℕ). to.sum + slots_below (nodes s f) (64 - l) to.node.0 []) (sym g.depth_is); small = omega (arith, g.small, g.depth_is) };
}

-- ---- chains

-- a node lies on the first level of a chain, or just behind that level
abbrev pub OnChain : Chain → ℕ → Type 0
OnChain r n = (r.start ≤ n) × (n ≤ r.start + r.width)

-- the bound behind a chain
abbrev pub passed : LevelSum → Chain → LevelSum
passed from r = record { node = record { 0 = from.node.0 + r.levels * r.width }; depth = from.depth + r.levels; sum = from.sum + r.levels * r.leaves }

-- its numbers are short
pub record Passable (from : LevelSum) (r : Chain) : Type 0 where
  pub node : from.node.0 + r.levels * r.width < 1099511627776
  pub depth : from.depth + r.levels ≤ 64
  pub sum : from.sum + r.levels * r.leaves < 1099511627776

module _ (s : Bytes) (f : Frame) (from : LevelSum) (p : DownTo s f from 64) (r : Chain) (q : ChainOf s f from.depth r) (on : OnChain r from.node.0) where
  few : r.leaves ≤ 65535
  few = omega (arith, q.flat.leaves_are r.start (omega arith) (omega arith), rest_leaves s f p.accepted r.start)

  -- behind the chain the bound's node is one of the nodes, or behind the last
  node_end : from.node.0 + r.levels * r.width ≤ node_count f
  node_end = omega (arith, on.1, q.flat.next_is (chain_end r) (omega arith) (omega arith), rest_node s f p.accepted (chain_end r) some_node)
    where
      some_node : 0 < node_count f
      some_node = omega (arith, q.flat.inside, q.flat.next_is r.start (omega arith) (omega arith), mul-le-mul_right {m = 1} {n = r.levels} r.width r.not_empty)

  leaves_few : r.levels * r.leaves ≤ r.levels * 65535
  leaves_few = mul-le-mul_left r.levels few

  pub chain_passable : Passable from r
  chain_passable = record {
    node = omega (arith, node_end, nodes_few s f p.accepted, node_length s f p.accepted);
    depth = q.deep;
    sum = omega (arith, leaves_few, p.small, q.deep);
  }

  -- a bound on a chain passes it
  pub chain_passed : Lowered s f from (passed from r)
  chain_passed = record {
    deeper = omega (arith, r.not_empty);
    depth_in = q.deep;
    gone = record {
      node_in = node_end;
      depth_is = refl;
      sums = omega (arith, chain_sum s f r q.flat from.node.0 on.0 on.1 r.levels (64 - from.depth) (omega arith) (omega (arith, q.deep)), ap (λ (l : ℕ). slots_below (nodes s f) l (from.node.0 + r.levels * r.width) []) levels);
      small = omega (arith, leaves_few, ap (λ (n : ℕ). n * 65535) depth);
    };
  }
    where
      levels : 64 - from.depth - r.levels ≡ 64 - (from.depth + r.levels)
      levels = omega arith

      depth : from.depth + r.levels - from.depth ≡ r.levels
      depth = omega arith

-- ---- two bounds

module _ (s : Bytes) (f : Frame) (a : LevelSum) (p : DownTo s f a 64) (d : ℕ) (h : a.depth ≤ d) where
  -- a bound goes down to a level
  pub down_first : d ≤ 64 → DownTo s f a d
  down_first k = record { accepted = p.accepted; node_in = p.node_in; from_in = h; depth_in = k; small = p.small }

  module _ (x : LevelSum) (r : GoneDown s f a d x) (e : ℕ) (below : d ≤ e) where
    -- and from there to another
    pub down_again : e ≤ 64 → DownTo s f x e
    down_again k = record { accepted = p.accepted; node_in = r.node_in; from_in = omega (arith, r.depth_is); depth_in = k; small = omega (arith, r.small, r.depth_is, p.small) }

    -- it has then gone down to the last
    pub gone_again : (y : LevelSum) → GoneDown s f x e y → GoneDown s f a e y
    gone_again y t = record {
      node_in = t.node_in;
      depth_is = t.depth_is;
      sums = omega (arith, r.sums, t.sums, ap (λ (l : ℕ). slots_below (nodes s f) (64 - l) x.node.0 []) r.depth_is);
      small = omega (arith, r.small, t.small, r.depth_is);
    }

module _ (s : Bytes) (f : Frame) (a b : LevelSum) where
  -- on one level: both add the same on the levels left
  module _ (p : DownTo s f a 64) (q : DownTo s f b 64) (d : ℕ) (g : a.depth ≤ d) (h : b.depth ≤ d) (fits : d ≤ 64) (x y : LevelSum) (t : GoneDown s f a d x) (u : GoneDown s f b d y) where
    apart_by : slots_below (nodes s f) (64 - d) x.node.0 [] ≡ slots_below (nodes s f) (64 - d) y.node.0 [] → SumsApart s f a b (record { lower = x.sum; upper = y.sum })
    apart_by e = record { apart = omega (arith, t.sums, u.sums); lower_small = omega (arith, t.small, p.small); upper_small = omega (arith, u.small, q.small) }

    -- as both have the same node
    pub apart_same : x.node.0 ≡ y.node.0 → SumsApart s f a b (record { lower = x.sum; upper = y.sum })
    apart_same e = apart_by (ap (λ (m : ℕ). slots_below (nodes s f) (64 - d) m []) e)

    -- as no level is left
    pub apart_end : 64 ≤ d → SumsApart s f a b (record { lower = x.sum; upper = y.sum })
    apart_end k = let z : 64 - d ≡ 0 = omega arith in apart_by (rw z (slots_past (nodes s f) x.node.0 ∙ sym (slots_past (nodes s f) y.node.0)))

  -- the sums of two bounds that have gone down are those of the bounds above
  pub apart_above : (d : ℕ) (x y : LevelSum) → GoneDown s f a d x → GoneDown s f b d y → (r : BoundSums) → SumsApart s f x y r → SumsApart s f a b r
  apart_above d x y t u r o = record {
    apart = omega (arith, o.apart, t.sums, u.sums, ap (λ (l : ℕ). slots_below (nodes s f) (64 - l) x.node.0 []) t.depth_is, ap (λ (l : ℕ). slots_below (nodes s f) (64 - l) y.node.0 []) u.depth_is);
    lower_small = o.lower_small;
    upper_small = o.upper_small;
  }
