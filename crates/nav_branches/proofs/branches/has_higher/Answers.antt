use Rattle.nav_nodes.specs.FoundBranch.{higher_found}
use Rattle.nav_nodes.specs.NextLabel.{is_there}
use Rattle.spec.specs.Bytes.{bit}
use native.Mathlib.Omega.{arith}
use mathlib.Core.Path.{◌≡◌, ap, sym, ◌∙◌}
use Rattle.nav_branches.proofs.branches.has_higher.Goals as goal

pub returns : goal.returns
returns c =
    let a = c.args in
    let v = a.image.now in
    let p = c.requires in
    let h = higher_found v.bytes.now v.frame a.m.0 a.y a.b (record { accepted = p.0.accepted; behind_dense = omega arith; inside = p.0.inside }) p.2 in
    let at_is : c.from.result ≡ bit (is_there a.b.kind) = c.from.ensures ∙ ap bit c.is_there-2.ensures in
    rw at_is (sym h)
