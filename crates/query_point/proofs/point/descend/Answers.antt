-- The end to which the key's bytes lead is told by `follow`; a law for each end says the rule.
use Rattle.nav_nodes.specs.FromCheck.{accepted}
use Rattle.query_descent.specs.Answers.{bound}
use Rattle.query_descent.specs.Followed.{leads_way}
use Rattle.query_point.specs.Rules.{rule_nowhere, rule_missing, rule_node, rule_leaf}
use native.Mathlib.Omega.{arith}
use mathlib.Core.Path.{sym, ◌∙◌}
use Rattle.query_point.proofs.point.descend.Goals as goal

pub node_rule-requires : goal.node_rule-requires
node_rule-requires c =
    let v = c.args.image.now in
    record { accepted = accepted v; inside = (leads_way v.bytes.now v.frame (accepted v) c.args.key.now c.in-Node.ensures).node_in }

pub leaf_rule-requires : goal.leaf_rule-requires
leaf_rule-requires c =
    let v = c.args.image.now in
    let l = c.in-Leaf.ensures in
    (record { accepted = accepted v; within = rw l.at_is l.here.found.at_is.within }, (rule_leaf v.bytes.now v.frame (accepted v) c.args.key.now l).0, omega (arith, l.passed, l.inside))

pub returns-in-NoNodes : goal.returns-in-NoNodes
returns-in-NoNodes c =
    let v = c.args.image.now in
    sym (rule_nowhere v.bytes.now v.frame (accepted v) c.args.key.now c.in-NoNodes.ensures)

pub returns-in-NoBranch : goal.returns-in-NoBranch
returns-in-NoBranch c =
    let v = c.args.image.now in
    sym (rule_missing v.bytes.now v.frame (accepted v) c.args.key.now (bound c.args.key.now (λ i. omega (arith, c.type_inv.key i)) c.requires) c.in-NoBranch.ensures)

pub returns-in-Node : goal.returns-in-Node
returns-in-Node c =
    let v = c.args.image.now in
    c.node_rule.ensures ∙ sym (rule_node v.bytes.now v.frame (accepted v) c.args.key.now (bound c.args.key.now (λ i. omega (arith, c.type_inv.key i)) c.requires) c.in-Node.ensures)

pub returns-in-Leaf : goal.returns-in-Leaf
returns-in-Leaf c =
    let v = c.args.image.now in
    rw c.leaf_rule.ensures (sym (rule_leaf v.bytes.now v.frame (accepted v) c.args.key.now c.in-Leaf.ensures).1)
