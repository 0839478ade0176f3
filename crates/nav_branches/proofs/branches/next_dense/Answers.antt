use Rattle.nav_nodes.specs.FromCheck.{accepted}
use Rattle.nav_nodes.proofs.NextBranchLaws.{dense_none, dense_some}
use Rattle.image.specs.Records.{tail_part}
use Rattle.bits.specs.Bits.{bit_at}
use mathlib.Core.List.{List}
use Prim.Native.Nat.{ℕ}
use native.Mathlib.Omega.{arith}
use mathlib.Core.Path.{ap, ◌∙◌}
use Rattle.nav_branches.proofs.branches.next_dense.Goals as goal

pub returns-then-p-end : goal.returns-then-p-end
returns-then-p-end c =
    let a = c.args in
    let v = a.image.now in
    let p = c.requires in
    let e = rw (tail_part v.bytes.now v.frame.dl) at c.next_one-p.ensures.0 in
    dense_none v.bytes.now v.frame (accepted v) a.m.0 a.y c.next_one-p.result p.0 p.1 e (omega arith)

pub returns : goal.returns
returns c =
    let a = c.args in
    let v = a.image.now in
    let p = c.requires in
    let e = rw (tail_part v.bytes.now v.frame.dl) at c.next_one-p.ensures.0 in
    let b = dense_some v.bytes.now v.frame (accepted v) a.m.0 a.y c.next_one-p.result p.0 p.1 e (omega arith) c.bit_at-continues.result (c.bit_at-continues.ensures ∙ ap (λ (z : List ℕ). bit_at z c.next_one-p.result) (tail_part v.bytes.now v.frame.dc)) in
    rw c.kind_there.ensures b
