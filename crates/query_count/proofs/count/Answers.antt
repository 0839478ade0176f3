use Rattle.nav_nodes.specs.FromCheck.{accepted}
use Rattle.query_sums.specs.Bounds.{LeafShared, leads_parted, count_nowhere, count_absent, count_shared}
use Rattle.query_descent.specs.OpenBetween.{open_between}
use Rattle.query_descent.specs.declared.KeyEnd.TheVariants as End
use Rattle.spec.specs.Bytes.{bit}
use Rattle.theory.proofs.Order.{shared_le}
use mathlib.Core.Logic.{⊎_elim}
use mathlib.Core.Path.{◌≡◌, refl, sym, ap, ◌∙◌}
use native.Mathlib.Omega.{arith}
use Rattle.query_count.proofs.count.Goals as goal
use Rattle.query_count.proofs.count.Goals.{In-Leaf}

-- the open leaf to which both keys lead
leaf : (c : In-Leaf) → LeafShared c.args.image.now.bytes.now c.args.image.now.frame c.args.lo.now c.args.hi.now c.in-Leaf.node.0 c.in-Leaf.at.0 c.in-Leaf.depth
leaf c =
    let v = c.args.image.now in
    count_shared v.bytes.now v.frame (accepted v) c.args.lo.now c.args.hi.now c.requires.0 c.requires.1 c.in-Leaf.node.0 c.in-Leaf.at.0 c.in-Leaf.depth (rw (c.in-Leaf.is, c.shared-n.ensures) at c.follow.ensures)

pub follow-requires : goal.follow-requires
follow-requires c =
    omega (arith, c.shared-n.ensures, shared_le c.args.lo.now c.args.hi.now)

pub count_apart-requires : goal.count_apart-requires
count_apart-requires c =
    let v = c.args.image.now in
    (leads_parted v.bytes.now v.frame (accepted v) c.args.lo.now c.args.hi.now c.requires.0 c.requires.1 (rw c.in-Node.is at c.follow.ensures) (omega (arith, c.shared-n.ensures)), refl)

pub slot-leaf-requires : goal.slot-leaf-requires
slot-leaf-requires c =
    (leaf (goal.at.slot-leaf-requires c).In-Leaf).position

pub open_between-requires : goal.open_between-requires
open_between-requires c =
    rw c.slot-leaf.ensures (leaf (goal.at.open_between-requires c).In-Leaf).cut

pub returns-in-NoNodes : goal.returns-in-NoNodes
returns-in-NoNodes c =
    let v = c.args.image.now in
    ⊎_elim
    (λ (e : c.follow.result ≡ End.NoNodes). sym (count_nowhere v.bytes.now v.frame (accepted v) c.args.lo.now c.args.hi.now c.requires.0 c.requires.1 (rw e at c.follow.ensures)))
    (λ (e : c.follow.result ≡ End.NoBranch). sym (count_absent v.bytes.now v.frame (accepted v) c.args.lo.now c.args.hi.now c.requires.0 c.requires.1 (rw (e, c.shared-n.ensures) at c.follow.ensures)))
    c.in-NoNodes.is

pub returns-in-Leaf : goal.returns-in-Leaf
returns-in-Leaf c =
    let v = c.args.image.now in
    let e : c.open_between.result ≡ open_between v.bytes.now v.frame c.args.lo.now c.args.hi.now _ c.in-Leaf.depth = rw c.slot-leaf.ensures at c.open_between.ensures in
    c.from.ensures ∙ ap bit e ∙ sym (leaf (goal.at.returns-in-Leaf c).In-Leaf).count_is
