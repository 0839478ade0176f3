-- A node is an exact leaf where two entries stand behind its start and the first label is FF.
use Rattle.nav_nodes.specs.Positions.{entries_valid, sole_plain, other_plain, first_exact}
use Rattle.nav_nodes.specs.Tables.{start_found}
use Rattle.bits.specs.Bits.{select}
use borrow.Author.Tests.{eqb-true, eqb-false, lt-leb}
use Prim.Native.Nat.{◌+◌}
use mathlib.Core.Path.{refl, sym, ap, ◌∙◌, ◌≡◌}
use mathlib.Core.Bool.{Bool, true, false}
use lib.Dec.{eqb}
use lib.ListN.{drop, get_or}
use native.Mathlib.Omega.{arith}
use Rattle.spec.specs.Nodes.{is_exact}
use Rattle.nav_nodes.specs.Slots.{node_at}
use Rattle.nav_nodes.specs.Accepted.{nodes}
use Rattle.nav_nodes.proofs.nodes.entries_of.Goals as goal
use Rattle.nav_nodes.proofs.nodes.entries_of.Goals.{then-start-end, else-start-end}

pub next_start-end-requires : goal.next_start-end-requires
next_start-end-requires c =
    let a = c.args in
    let v = a.image.now in
    let p = c.requires in
    (start_found v.bytes.now v.frame p.accepted a.m.0 c.node_start-start.result.0 p.behind_dense p.inside c.node_start-start.ensures.0).0

pub returns : goal.returns
returns c =
    let a = c.args in
    let v = a.image.now in
    let p = c.requires in
    let start = c.node_start-start.result.0 in
    let end = c.next_start-end.result.0 in
    let n = c.node_start-start.ensures.0 in
    let e = c.next_start-end.ensures.0 ∙ ap (select (drop v.frame.sb v.bytes.now) v.frame.sparse.entries) (start_found v.bytes.now v.frame p.accepted a.m.0 start p.behind_dense p.inside n).1 in
    let alone = sole_plain v.bytes.now v.frame p.accepted a.m.0 p.behind_dense p.inside start end n e in
    let other = other_plain v.bytes.now v.frame p.accepted a.m.0 p.behind_dense p.inside start n in
    let extra = first_exact v.bytes.now v.frame p.accepted a.m.0 p.behind_dense p.inside start end n e in
    let x : is_exact (node_at (nodes v.bytes.now v.frame) a.m.0) ≡ c.if-start-end.exact =
    elim c.if-start-end.branch [
      | then-start-end w ↦ let h = w.if-start-end.true in tested (eqb (get_or v.bytes.now (v.frame.sl + start) 0) 255) (λ t. extra (omega arith) (eqb-true _ _ t)) (λ t. other (eqb-false _ _ t)) ∙ sym w.exact-is
      | else-start-end w ↦ let h = w.if-start-end.false in alone (omega arith) ∙ sym (w.exact-is ∙ lt-leb (start + 2) end (omega arith))
    ] in
    let r = entries_valid v.bytes.now v.frame p.accepted a.m.0 p.behind_dense p.inside start end c.if-start-end.exact n e x in
    record { exact_is = sym x; first_is = omega (arith, r.1); end_is = omega (arith, r.2); end_inside = c.next_start-end.ensures.1 }
  where
    tested : {x : Bool} (b : Bool) → (b ≡ true → x ≡ true) → (b ≡ false → x ≡ false) → x ≡ b
    tested true f g = f refl
    tested false f g = g refl
