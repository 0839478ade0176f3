use Rattle.nav_nodes.specs.FromCheck.{accepted}
use Rattle.nav_nodes.specs.Positions.{kind_dense, branch_dense}
use Rattle.image.specs.Records.{tail_part}
use Rattle.bits.specs.Bits.{bit_at}
use mathlib.Core.List.{List}
use Prim.Native.Nat.{ℕ, ◌+◌, ◌*◌}
use native.Mathlib.Omega.{arith}
use mathlib.Core.Path.{ap, ◌∙◌}
use Rattle.nav_branches.proofs.branches.find_dense.Goals as goal
use Rattle.nav_branches.proofs.branches.find_dense.Goals.{then-label-eq0, else-label-eq0}

pub returns : goal.returns
returns c =
    let a = c.args in
    let v = a.image.now in
    let p = c.requires in
    let label_is = c.bit_at-label.ensures ∙ ap (λ (z : List ℕ). bit_at z (256 * a.m.0 + a.y)) (tail_part v.bytes.now v.frame.dl) in
    let child_is = c.bit_at-continues.ensures ∙ ap (λ (z : List ℕ). bit_at z (256 * a.m.0 + a.y)) (tail_part v.bytes.now v.frame.dc) in
    let k = kind_dense v.bytes.now v.frame (accepted v) a.m.0 a.y p.0 p.1 c.bit_at-label.result c.bit_at-continues.result label_is child_is in
    record {
      kind_is = elim c.if-label-eq0.branch [
        | then-label-eq0 w ↦ w.result-is ∙ k.0 w.if-label-eq0.true
        | else-label-eq0 w ↦ w.result-is ∙ w.kind_there.ensures ∙ k.1 w.if-label-eq0.false
      ];
      at_is = branch_dense v.bytes.now v.frame (accepted v) a.m.0 a.y p.0 (omega arith);
      end_is = λ h. absurd (omega arith);
    }
