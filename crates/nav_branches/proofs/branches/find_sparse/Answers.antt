use Rattle.nav_nodes.specs.Positions.{branches, branch_index, labels_room, index_sparse, branch_sparse, none_end, none_other, one_there}
use Rattle.image.specs.Records.{tail_part}
use Rattle.nav_nodes.specs.Counting.{labels_below_le}
use Rattle.bits.specs.Bits.{bit_at}
use lib.ListN.{length-drop}
use mathlib.Core.List.{List}
use Prim.Native.Nat.{ℕ}
use native.Mathlib.Omega.{arith}
use mathlib.Core.Path.{sym, ap, ◌∙◌}
use Rattle.nav_branches.proofs.branches.find_sparse.Goals as goal
use Rattle.nav_branches.proofs.branches.find_sparse.Goals.{then-p-e+then-from-y, else-p-e, else-p-e-via-then-p-e+else-from-y, else-p-e-via-else-p-e}

pub search-p-requires : goal.search-p-requires
search-p-requires c =
    let v = c.args.image.now in
    let r = c.entries_of-e.ensures in
    rw (tail_part v.bytes.now v.frame.sl) (omega (arith, r.end_is), omega (arith, r.end_inside, length-drop v.frame.sl v.bytes.now, labels_room v.bytes.now v.frame c.requires.accepted))

pub returns : goal.returns
returns c =
    let a = c.args in
    let v = a.image.now in
    let p = c.requires in
    let first = c.entries_of-e.result.first.0 in
    let at = c.search-p.result in
    let r = c.entries_of-e.ensures in
    let found = rw (tail_part v.bytes.now v.frame.sl) at c.search-p.ensures in
    let q = index_sparse v.bytes.now v.frame p.accepted a.m.0 p.behind_dense p.inside first r.first_is at a.y found.0 (omega (arith, found.1, r.end_is)) found.2 (λ k. found.3 (omega (arith, r.end_is))) in
    let b = branch_sparse v.bytes.now v.frame p.accepted a.m.0 p.behind_dense p.inside first r.first_is (branch_index v.bytes.now v.frame a.m.0 a.y) (labels_below_le a.y (branches v.bytes.now v.frame a.m.0)) (omega (arith, found.1, r.end_inside)) in
    record {
      kind_is = elim c.if-p-e.branch [
        | then-p-e+then-from-y w ↦
            w.kind-is ∙ w.kind_there-kind.ensures
            ∙ one_there v.bytes.now v.frame p.accepted a.m.0 p.behind_dense p.inside first r.first_is at a.y w.bit_at.result q (omega (arith, r.end_is, w.if-p-e.true)) (sym w.from.ensures ∙ w.if-from-y.true) (w.bit_at.ensures ∙ ap (λ (z : List ℕ). bit_at z at) (tail_part v.bytes.now v.frame.sc))
        | else-p-e w ↦
            w.kind-is ∙ elim w.else-p-e.branch [
              | else-p-e-via-then-p-e+else-from-y u ↦ none_other v.bytes.now v.frame p.accepted a.m.0 p.behind_dense p.inside first r.first_is at a.y q (omega (arith, r.end_is, u.if-p-e.true)) (λ e. u.if-from-y.false (u.from.ensures ∙ e))
              | else-p-e-via-else-p-e u ↦ none_end v.bytes.now v.frame p.accepted a.m.0 p.behind_dense p.inside first r.first_is at a.y q (omega (arith, r.end_is, u.if-p-e.false))
            ]
      ];
      at_is = rw (← q) at b;
      end_is = λ h. omega (arith, q, r.end_is);
    }
