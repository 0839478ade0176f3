-- The entry behind the last one is the next branch, or the next node's.
use Prim.Native.Nat.{◌+◌, ◌-◌, ◌<◌}
use native.Mathlib.Omega.{arith}
use lib.ListN.{drop}
use Rattle.bits_select.specs.SelectLaws.{select_le}
use Rattle.nav_nodes.specs.FoundBranch.{IsSparse}
use Rattle.walk_path.specs.Entries.{start_of}
use Rattle.walk_path.specs.EntryLaws.{next_gone, next_there, entry_reached}
use Rattle.walk_path.proofs.entries.next_at.Goals as goal

pub branch_at-requires : goal.branch_at-requires
branch_at-requires c =
    let sparse : IsSparse c.args.image.now.bytes.now c.args.image.now.frame c.args.m.0 = let n = c.if-at-eq0.false in record { accepted = c.requires.0.accepted; behind_dense = c.requires.2.sparse (omega arith); inside = c.requires.0.inside } in
    let own : c.args.at.0 < start_of c.args.image.now.bytes.now c.args.image.now.frame (c.args.m.0 + 1) = let a = c.args in
    let z = c.if-at-eq0.false in
    let n = sparse in
    c.goes_on.ensures.inside a.m.0 n (entry_reached a.image.now.bytes.now a.image.now.frame n.accepted a.m.0 n.behind_dense n.inside a.y a.at.0 (c.requires.2.entry_is (omega arith))) c.if-goes_on.true in
    let a = c.args in
    omega (arith, select_le (drop a.image.now.frame.sb a.image.now.bytes.now) a.image.now.frame.sparse.entries (a.m.0 + 1 - a.image.now.frame.dense.nodes), own)

pub returns-then-goes_on : goal.returns-then-goes_on
returns-then-goes_on c =
    let sparse : IsSparse c.args.image.now.bytes.now c.args.image.now.frame c.args.m.0 = let n = c.if-at-eq0.false in record { accepted = c.requires.0.accepted; behind_dense = c.requires.2.sparse (omega arith); inside = c.requires.0.inside } in
    let own : c.args.at.0 < start_of c.args.image.now.bytes.now c.args.image.now.frame (c.args.m.0 + 1) = let a = c.args in
    let z = c.if-at-eq0.false in
    let n = sparse in
    c.goes_on.ensures.inside a.m.0 n (entry_reached a.image.now.bytes.now a.image.now.frame n.accepted a.m.0 n.behind_dense n.inside a.y a.at.0 (c.requires.2.entry_is (omega arith))) c.if-goes_on.true in
    let a = c.args in
    let z = c.if-at-eq0.false in
    let n = sparse in
    next_there a.image.now.bytes.now a.image.now.frame n.accepted a.m.0 n.behind_dense n.inside a.y a.at.0 (c.requires.2.entry_is (omega arith)) own c.branch_at.result c.branch_at.ensures

pub returns : goal.returns
returns c =
    let sparse : IsSparse c.args.image.now.bytes.now c.args.image.now.frame c.args.m.0 = let n = c.if-at-eq0.false in record { accepted = c.requires.0.accepted; behind_dense = c.requires.2.sparse (omega arith); inside = c.requires.0.inside } in
    let a = c.args in
    let z = c.if-at-eq0.false in
    let n = sparse in
    next_gone a.image.now.bytes.now a.image.now.frame n.accepted a.m.0 n.behind_dense n.inside a.y a.at.0 (c.requires.2.entry_is (omega arith)) (c.goes_on.ensures.outside a.m.0 n (c.requires.2.behind (omega arith)) c.if-goes_on.false)
