use Rattle.nav_nodes.specs.FromCheck.{accepted}
use Rattle.query_descent.specs.Answers.{bound}
use Rattle.query_descent.specs.Followed.{leaf_reached}
use Rattle.query_point.specs.StemWay.{stem_nowhere, stem_none, stem_ended, stem_leaf}
use native.Mathlib.Omega.{arith}
use mathlib.Core.Logic.{⊎_elim}
use mathlib.Core.Path.{sym, ap, ◌∙◌}
use Rattle.spec.specs.Bytes.{bit}
use Rattle.query_point.proofs.stem.begins_with.Goals as goal

pub slot-requires : goal.slot-requires
slot-requires c =
    let v = c.args.image.now in
    (leaf_reached v.bytes.now v.frame (accepted v) c.args.stem.now c.in-Leaf.ensures).position

pub real_agrees-requires : goal.real_agrees-requires
real_agrees-requires c =
    let v = c.args.image.now in
    let reached = leaf_reached v.bytes.now v.frame (accepted v) c.args.stem.now c.in-Leaf.ensures in
    (omega (arith, c.slot.ensures, reached.slot_inside), reached.depth_in, c.requires)

pub returns-in-NoNodes : goal.returns-in-NoNodes
returns-in-NoNodes c =
    let v = c.args.image.now in
    let b = bound c.args.stem.now (λ i. omega (arith, c.type_inv.stem i)) c.requires in
    ⊎_elim (λ e. stem_nowhere v.bytes.now v.frame (accepted v) c.args.stem.now b (rw e at c.follow.ensures)) (λ e. stem_none v.bytes.now v.frame (accepted v) c.args.stem.now b (rw e at c.follow.ensures)) c.in-NoNodes.is

pub returns-in-Node : goal.returns-in-Node
returns-in-Node c =
    let v = c.args.image.now in
    stem_ended v.bytes.now v.frame (accepted v) c.args.stem.now (bound c.args.stem.now (λ i. omega (arith, c.type_inv.stem i)) c.requires) c.in-Node.ensures

pub returns-in-Leaf : goal.returns-in-Leaf
returns-in-Leaf c =
    let v = c.args.image.now in
    stem_leaf v.bytes.now v.frame (accepted v) c.args.stem.now (bound c.args.stem.now (λ i. omega (arith, c.type_inv.stem i)) c.requires) c.in-Leaf.ensures c.slot.result.0 c.slot.ensures
    ∙ ap bit (sym c.real_agrees.ensures)
