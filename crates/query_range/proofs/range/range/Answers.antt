use Rattle.theory.proofs.Order.{shared_le}
use Rattle.nav_nodes.specs.FromCheck.{accepted}
use Rattle.query_range.specs.RangeWays.{range_nowhere, range_absent, range_node, range_leaf}
use Rattle.spec.specs.Bytes.{bit}
use mathlib.Core.Logic.{⊎_elim}
use mathlib.Core.Path.{sym, ap, ◌∙◌}
use native.Mathlib.Omega.{arith}
use Rattle.query_range.proofs.range.range.Goals as goal

pub follow-requires : goal.follow-requires
follow-requires c =
    omega (arith, c.shared-n.ensures, shared_le c.args.lo.now c.args.hi.now)

pub at_node-requires : goal.at_node-requires
at_node-requires c =
    let v = c.args.image.now in
    (range_node v.bytes.now v.frame c.args.lo.now c.args.hi.now (accepted v) c.requires.0 c.requires.1 (omega (arith, c.shared-n.ensures)) c.in-Node.ensures, c.shared-n.ensures)

pub slot-requires : goal.slot-requires
slot-requires c =
    let v = c.args.image.now in
    let leaf = range_leaf v.bytes.now v.frame c.args.lo.now c.args.hi.now (accepted v) c.requires.0 c.requires.1 (omega (arith, c.shared-n.ensures)) c.in-Leaf.ensures in
    record { accepted = accepted v; within = leaf.within }

pub open_between-requires : goal.open_between-requires
open_between-requires c =
    let v = c.args.image.now in
    let leaf = range_leaf v.bytes.now v.frame c.args.lo.now c.args.hi.now (accepted v) c.requires.0 c.requires.1 (omega (arith, c.shared-n.ensures)) c.in-Leaf.ensures in
    record { accepted = accepted v; slot_in = rw c.slot.ensures leaf.slot_in; lo_in = leaf.lo_in; hi_in = leaf.hi_in; lo_short = c.requires.0; hi_short = c.requires.1 }

pub returns-in-NoNodes : goal.returns-in-NoNodes
returns-in-NoNodes c =
    let v = c.args.image.now in
    ⊎_elim (λ e. range_nowhere v.bytes.now v.frame (accepted v) (rw e at c.follow.ensures) c.args.lo.now c.args.hi.now)
    (λ e. range_absent v.bytes.now v.frame c.args.lo.now c.args.hi.now (accepted v) c.requires.0 c.requires.1 (omega (arith, c.shared-n.ensures)) (rw e at c.follow.ensures)) c.in-NoNodes.is

pub returns-in-Node : goal.returns-in-Node
returns-in-Node c =
    let v = c.args.image.now in
    let node = range_node v.bytes.now v.frame c.args.lo.now c.args.hi.now (accepted v) c.requires.0 c.requires.1 (omega (arith, c.shared-n.ensures)) c.in-Node.ensures in
    node.decides ∙ ap bit (sym c.at_node.ensures)

pub returns-in-Leaf : goal.returns-in-Leaf
returns-in-Leaf c =
    let v = c.args.image.now in
    let leaf = range_leaf v.bytes.now v.frame c.args.lo.now c.args.hi.now (accepted v) c.requires.0 c.requires.1 (omega (arith, c.shared-n.ensures)) c.in-Leaf.ensures in
    rw (c.open_between.ensures, c.slot.ensures) leaf.decides
