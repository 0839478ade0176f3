use Rattle.nav_branches.proofs.EdgeLaws.{last_none, last_other, last_own}
use Rattle.image.specs.Records.{tail_part}
use Rattle.bits.specs.Bits.{bit_at}
use mathlib.Core.List.{List}
use Prim.Native.Nat.{ℕ, ◌-◌}
use native.Mathlib.Omega.{arith}
use mathlib.Core.Path.{refl, ap, ◌∙◌}
use Rattle.nav_branches.proofs.edges.last_sparse.Goals as goal

pub returns-then-e : goal.returns-then-e
returns-then-e c =
    let v = c.args.image.now in
    let e = c.entries_of-e in
    last_none v.bytes.now v.frame c.args.m.0 c.requires c.args.y e.result.first.0 e.result.end.0 e.result.exact e.ensures _ refl (omega arith)

pub returns-then-last-y : goal.returns-then-last-y
returns-then-last-y c =
    let v = c.args.image.now in
    let e = c.entries_of-e in
    let w = c.from-last in
    last_other v.bytes.now v.frame c.args.m.0 c.requires c.args.y e.result.first.0 e.result.end.0 e.result.exact e.ensures (omega arith) w.result w.ensures _ refl c.if-last-y.true

pub returns : goal.returns
returns c =
    let v = c.args.image.now in
    let e = c.entries_of-e in
    let w = c.from-last in
    let b = c.bit_at in
    rw c.kind_there.ensures
    (last_own v.bytes.now v.frame c.args.m.0 c.requires c.args.y e.result.first.0 e.result.end.0 e.result.exact e.ensures (omega (arith, c.if-e.false)) w.result w.ensures _ b.result refl c.if-last-y.false (b.ensures ∙ ap (λ (z : List ℕ). bit_at z (e.result.end.0 - 1)) (tail_part v.bytes.now v.frame.sc)))
