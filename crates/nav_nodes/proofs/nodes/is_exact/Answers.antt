use Rattle.nav_nodes.specs.Positions.{exact_dense}
use Rattle.nav_nodes.specs.NextLabel.{bit_one}
use Rattle.nav_nodes.specs.Accepted.{nodes}
use Rattle.nav_nodes.specs.Slots.{node_at}
use Rattle.spec.specs.Nodes.{is_exact}
use Rattle.image.specs.Records.{tail_part}
use Rattle.bits.specs.Bits.{bit_at}
use mathlib.Core.List.{List}
use Prim.Native.Nat.{ℕ}
use lib.Dec.{eqb}
use native.Mathlib.Omega.{arith}
use mathlib.Core.Path.{ap, ◌∙◌}
use Rattle.nav_nodes.proofs.nodes.is_exact.Goals as goal

pub returns-then-m-image : goal.returns-then-m-image
returns-then-m-image c =
    let a = c.args in
    let v = a.image.now in
    let bit_is = c.bit_at.ensures ∙ ap (λ (z : List ℕ). bit_at z a.m.0) (tail_part v.bytes.now v.frame.dp) ∙ exact_dense v.bytes.now v.frame c.requires.accepted a.m.0 0 (omega arith) in
    ap (λ (z : ℕ). eqb z 1) bit_is ∙ bit_one (is_exact (node_at (nodes v.bytes.now v.frame) a.m.0))
