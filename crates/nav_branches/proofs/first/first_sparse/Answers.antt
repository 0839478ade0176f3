use Rattle.nav_nodes.proofs.NextBranchLaws.{sparse_next}
use Rattle.nav_nodes.specs.Positions.{branches}
use Rattle.nav_nodes.specs.Counting.{none_below_zero}
use native.Mathlib.Omega.{arith}
use Rattle.nav_branches.proofs.first.first_sparse.Goals as goal

pub returns : goal.returns
returns c =
    let a = c.args in
    let v = a.image.now in
    let p = c.requires in
    let e = c.entries_of-e in
    let r = e.ensures in
    let z = none_below_zero (branches v.bytes.now v.frame a.m.0) in
    record {
      exact_is = r.exact_is;
      branch_is = sparse_next v.bytes.now v.frame p.accepted a.m.0 0 e.result.first.0 e.result.first.0 p.behind_dense p.inside r.first_is (omega arith) e.result.end.0 r.end_is r.end_inside c.entry_branch.result c.entry_branch.ensures;
    }
