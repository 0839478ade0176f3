use Rattle.nav_nodes.specs.Positions.{labels_room, index_sparse}
use Rattle.image.specs.Records.{tail_part}
use Rattle.nav_nodes.proofs.NextBranchLaws.{sparse_next}
use lib.ListN.{length-drop}
use native.Mathlib.Omega.{arith}
use Rattle.nav_branches.proofs.branches.next_sparse.Goals as goal

pub search-p-requires : goal.search-p-requires
search-p-requires c =
    let v = c.args.image.now in
    let r = c.entries_of-e.ensures in
    rw (tail_part v.bytes.now v.frame.sl) (omega (arith, r.end_is), omega (arith, r.end_inside, length-drop v.frame.sl v.bytes.now, labels_room v.bytes.now v.frame c.requires.accepted))

pub returns : goal.returns
returns c =
    let a = c.args in
    let v = a.image.now in
    let p = c.requires in
    let e = c.entries_of-e in
    let r = e.ensures in
    let at = c.search-p.result in
    let w = rw (tail_part v.bytes.now v.frame.sl) at c.search-p.ensures in
    let q = index_sparse v.bytes.now v.frame p.accepted a.m.0 p.behind_dense p.inside e.result.first.0 r.first_is at a.y w.0 (omega (arith, w.1, r.end_is)) w.2 (λ k. w.3 (omega (arith, r.end_is))) in
    sparse_next v.bytes.now v.frame p.accepted a.m.0 a.y at e.result.first.0 p.behind_dense p.inside r.first_is q e.result.end.0 r.end_is r.end_inside c.entry_branch.result c.entry_branch.ensures
