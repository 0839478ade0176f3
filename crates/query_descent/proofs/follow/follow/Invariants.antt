use Rattle.query_descent.specs.Leads.{Leads}
use Rattle.query_descent.proofs.follow.follow.Given as goal

abbrev pub invariant-loop-depth : goal.invariant-loop-depth
invariant-loop-depth l = Leads l.image.bytes.now l.image.frame l.key l.depth l.node.0
