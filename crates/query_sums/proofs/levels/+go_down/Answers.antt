use Rattle.std.proofs.Common.{◌≡◌, ℕ, ◌+◌, ◌-◌, ◌*◌, ◌<◌, refl, subst, arith}
use Rattle.spec.specs.Bytes.{Bytes}
use Rattle.image.specs.declared.Frame.{Frame}
use Rattle.nav_nodes.specs.Accepted.{nodes}
use Rattle.nav_nodes.specs.Slots.{leaves_before}
use Rattle.nav_nodes.specs.Descent.{children_before}
use Rattle.nav_nodes.specs.FoundBranch.{node_count}
use Rattle.query_descent.specs.Summed.{rest_node, rest_leaves}
use Rattle.query_sums.specs.declared.levels.LevelSum.{LevelSum}
use Rattle.query_sums.specs.Levels.{DownTo, GoneDown, down_none, down_next, down_full, down_again, gone_again}
use Rattle.query_sums.proofs.levels.+go_down.Goals as goal

module _ (s : Bytes) (f : Frame) (from : LevelSum) (depth : ℕ) (p : DownTo s f from depth) where
  -- no level further
  here : GoneDown s f from from.depth from
  here = down_none s f p.accepted from from.depth refl p.node_in

  -- past all leaves, on each level left
  full : (to : LevelSum) → from.depth < depth → from.node.0 ≡ node_count f → to.node.0 ≡ from.node.0 → to.depth ≡ depth → to.sum ≡ from.sum + (depth - from.depth) * f.leaves → GoneDown s f from depth to
  full to h e n d t = down_full s f p.accepted from from here depth (omega arith) h p.depth_in to n d t e

  module _ (h : from.depth < depth) (i : from.node.0 < node_count f) (to : LevelSum) (n : to.node.0 ≡ children_before (nodes s f) from.node.0 + 1) (d : to.depth ≡ from.depth + 1) (t : to.sum ≡ from.sum + leaves_before (nodes s f) from.node.0) where
    -- one level further down
    next_down : GoneDown s f from (from.depth + 1) to
    next_down = subst (λ (x : ℕ). GoneDown s f from x to) d (down_next s f p.accepted from from here depth (omega arith) h p.depth_in to n d t i)

    -- the bound may go down through all levels
    whole : DownTo s f from 64
    whole = record { accepted = p.accepted; node_in = p.node_in; from_in = omega (arith, p.from_in, p.depth_in); depth_in = omega arith; small = p.small }

    -- and from there on to the level
    next_again : DownTo s f to depth
    next_again = down_again s f from whole (from.depth + 1) (omega arith) to next_down depth (omega (arith, h)) p.depth_in

    then_gone : (y : LevelSum) → GoneDown s f to depth y → GoneDown s f from depth y
    then_gone y g = gone_again s f from whole (from.depth + 1) (omega arith) to next_down depth (omega (arith, h)) y g

pub returns-then-node-image : goal.returns-then-node-image
returns-then-node-image t c =
    let v = c.args.image.now in
    let a = c.args in
    full v.bytes.now v.frame a.from a.depth c.requires _ (omega (arith, c.requires.from_in, c.if-from-depth.false)) c.if-node-image.true refl refl refl

pub overflow_add-next : goal.overflow_add-next
overflow_add-next t c =
    let v = c.args.image.now in
    let a = c.args in
    let p = c.requires.accepted in
    omega (arith, c.counts_before-before.ensures.children_are, rest_node v.bytes.now v.frame p a.from.node.0 (omega (arith, c.requires.node_in, c.if-node-image.false)), p.dense_size, p.sparse_size, p.writable.few_dense, p.writable.few_sparse)

pub overflow_add-next-3 : goal.overflow_add-next-3
overflow_add-next-3 t c =
    let v = c.args.image.now in
    let a = c.args in
    let p = c.requires in
    omega (arith, c.counts_before-before.ensures.leaves_are, rest_leaves v.bytes.now v.frame p.accepted a.from.node.0, p.small, p.from_in, p.depth_in)

pub go_down-requires : goal.go_down-requires
go_down-requires t c =
    let v = c.args.image.now in
    let a = c.args in
    let p = c.requires in
    let n = c.counts_before-before.ensures in
    let more : a.from.depth < a.depth = omega (arith, p.from_in, c.if-from-depth.false) in
    (omega (arith, c.decreases, more), next_again v.bytes.now v.frame a.from a.depth p more (omega (arith, p.node_in, c.if-node-image.false)) _ (omega (arith, n.children_are)) refl (omega (arith, n.leaves_are)))

pub returns : goal.returns
returns t c =
    let v = c.args.image.now in
    let a = c.args in
    let p = c.requires in
    let n = c.counts_before-before.ensures in
    let more : a.from.depth < a.depth = omega (arith, p.from_in, c.if-from-depth.false) in
    let to : LevelSum = record { node = record { 0 = c.counts_before-before.result.children + 1 }; depth = a.from.depth + 1; sum = a.from.sum + c.counts_before-before.result.leaves } in
    then_gone v.bytes.now v.frame a.from a.depth p more (omega (arith, p.node_in, c.if-node-image.false)) to (omega (arith, n.children_are)) refl (omega (arith, n.leaves_are)) c.go_down.result c.go_down.ensures
