-- The continuing branches are counted, and the entries are those that the sparse nodes leave.
use mathlib.Core.Path.{◌≡◌}
use native.Mathlib.Omega.{arith}
use Rattle.bits.specs.Bits.{rank}
use Rattle.accepted.specs.Uncounted.{some_node, few, entries_left}
use Rattle.accepted.proofs.frame.dense_totals.Goals as goal

pub overflow_add-nodes : goal.overflow_add-nodes
overflow_add-nodes c =
    let l = few c.args.image.now c.args.f c.requires in omega (arith, l.0, l.1)

pub returns-then-nodes-eq0 : goal.returns-then-nodes-eq0
unfolding rank
returns-then-nodes-eq0 c =
    let z : c.args.f.dense.nodes ≡ 0 = omega (arith, c.if-nodes-eq0.true) in record { children = rw z; entries = rw z }

pub overflow_add-result : goal.overflow_add-result
overflow_add-result c =
    let l = few c.args.image.now c.args.f c.requires in omega (arith, l.0, l.1, l.2)

pub overflow_sub-result-2 : goal.overflow_sub-result-2
overflow_sub-result-2 c =
    omega (arith, entries_left c.args.image.now c.args.f c.requires (some_node c.if-nodes-eq0.false))

pub returns : goal.returns
returns c =
    record { children = c.dense_children.ensures; entries = omega (arith, entries_left c.args.image.now c.args.f c.requires (some_node c.if-nodes-eq0.false)) }
