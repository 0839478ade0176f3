-- The branch lies in the range, which gets narrower until it has one label.
use native.Mathlib.Omega.{arith}
use Rattle.walk_cursor.specs.LocateLaws.{node_inside, whole_range}
use Rattle.walk_cursor.proofs.branch.take_branch.Goals as goal

pub next_branch-low-requires : goal.next_branch-low-requires
next_branch-low-requires c =
    let a = c.args in
    (record { accepted = c.requires.accepted; inside = node_inside a.image.now.bytes.now a.image.now.frame a.m.0 a.depth a.skip c.requires }, omega arith)

pub loop-r-init : goal.loop-r-init
loop-r-init c =
    let a = c.args in
    whole_range a.image.now.bytes.now a.image.now.frame a.m.0 a.depth a.skip c.requires c.next_branch-low.result c.next_branch-low.ensures

pub overflow_add-r : goal.overflow_add-r
overflow_add-r c =
    omega (arith, c.loop-r.invariant.order, c.loop-r.invariant.labels)

pub narrow-r-requires : goal.narrow-r-requires
narrow-r-requires c =
    (c.requires, c.loop-r.invariant, c.loop-r-test.true)

pub loop-r-smaller : goal.loop-r-smaller
loop-r-smaller c =
    c.narrow-r.ensures.less

pub loop-r-preserved : goal.loop-r-preserved
loop-r-preserved c =
    c.narrow-r.ensures.ranges

pub returns : goal.returns
returns c =
    let g = c.loop-r.invariant in record { ranges = g; single = omega (arith, g.order, c.loop-r-test.false) }
