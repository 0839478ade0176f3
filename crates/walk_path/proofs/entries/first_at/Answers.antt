-- A first FF with another entry behind it is the extra one of an exact leaf.
use Prim.Native.Nat.{ℕ, ◌+◌, ◌-◌, ◌≤◌, ◌<◌}
use mathlib.Core.Path.{◌≡◌, sym, ◌∙◌}
use native.Mathlib.Omega.{arith}
use lib.ListN.{drop}
use Rattle.bits_select.specs.SelectLaws.{select_le}
use Rattle.nav_nodes.specs.FoundBranch.{IsSparse}
use Rattle.walk_path.specs.Entries.{start_of}
use Rattle.walk_path.specs.EntryLaws.{start_below, first_other, first_sole, first_extra}
use Rattle.walk_path.proofs.entries.first_at.Goals as goal
use Rattle.walk_path.proofs.entries.first_at.Goals.{else-first-eq-EXTRA-via-then-first-eq-EXTRA+else-goes_on, else-first-eq-EXTRA-via-else-first-eq-EXTRA}

pub branch_at-first-requires : goal.branch_at-first-requires
branch_at-first-requires c =
    let sparse : IsSparse c.args.image.now.bytes.now c.args.image.now.frame c.args.m.0 = let n = c.if-m-image.false in record { accepted = c.requires.0.accepted; behind_dense = omega arith; inside = c.requires.0.inside } in
    let starts : c.args.at.0 ≡ start_of c.args.image.now.bytes.now c.args.image.now.frame c.args.m.0 = let n = c.if-m-image.false in c.requires.1 (omega arith) in
    let few : (k : ℕ) → start_of c.args.image.now.bytes.now c.args.image.now.frame k ≤ c.args.image.now.frame.sparse.entries = λ k. select_le (drop c.args.image.now.frame.sb c.args.image.now.bytes.now) c.args.image.now.frame.sparse.entries (k - c.args.image.now.frame.dense.nodes) in
    let a = c.args in
    let n = sparse in
    omega (arith, starts, start_below a.image.now.bytes.now a.image.now.frame n.accepted a.m.0 n.behind_dense n.inside, few (a.m.0 + 1))

pub overflow_add-at : goal.overflow_add-at
overflow_add-at c =
    let starts : c.args.at.0 ≡ start_of c.args.image.now.bytes.now c.args.image.now.frame c.args.m.0 = let n = c.if-m-image.false in c.requires.1 (omega arith) in
    let few : (k : ℕ) → start_of c.args.image.now.bytes.now c.args.image.now.frame k ≤ c.args.image.now.frame.sparse.entries = λ k. select_le (drop c.args.image.now.frame.sb c.args.image.now.bytes.now) c.args.image.now.frame.sparse.entries (k - c.args.image.now.frame.dense.nodes) in
    omega (arith, starts, few c.args.m.0, c.requires.0.accepted.writable.few_entries, c.requires.0.accepted.entry_size)

pub overflow_add-at-then-goes_on : goal.overflow_add-at-then-goes_on
overflow_add-at-then-goes_on c =
    let starts : c.args.at.0 ≡ start_of c.args.image.now.bytes.now c.args.image.now.frame c.args.m.0 = let n = c.if-m-image.false in c.requires.1 (omega arith) in
    let few : (k : ℕ) → start_of c.args.image.now.bytes.now c.args.image.now.frame k ≤ c.args.image.now.frame.sparse.entries = λ k. select_le (drop c.args.image.now.frame.sb c.args.image.now.bytes.now) c.args.image.now.frame.sparse.entries (k - c.args.image.now.frame.dense.nodes) in
    omega (arith, starts, few c.args.m.0, c.requires.0.accepted.writable.few_entries, c.requires.0.accepted.entry_size)

pub branch_at-requires : goal.branch_at-requires
branch_at-requires c =
    let sparse : IsSparse c.args.image.now.bytes.now c.args.image.now.frame c.args.m.0 = let n = c.if-m-image.false in record { accepted = c.requires.0.accepted; behind_dense = omega arith; inside = c.requires.0.inside } in
    let starts : c.args.at.0 ≡ start_of c.args.image.now.bytes.now c.args.image.now.frame c.args.m.0 = let n = c.if-m-image.false in c.requires.1 (omega arith) in
    let extra : c.args.at.0 + 1 < start_of c.args.image.now.bytes.now c.args.image.now.frame (c.args.m.0 + 1) = let a = c.args in
    let n = sparse in
    c.goes_on.ensures.inside a.m.0 n (omega (arith, starts, start_below a.image.now.bytes.now a.image.now.frame n.accepted a.m.0 n.behind_dense n.inside)) c.if-goes_on.true in
    let few : (k : ℕ) → start_of c.args.image.now.bytes.now c.args.image.now.frame k ≤ c.args.image.now.frame.sparse.entries = λ k. select_le (drop c.args.image.now.frame.sb c.args.image.now.bytes.now) c.args.image.now.frame.sparse.entries (k - c.args.image.now.frame.dense.nodes) in
    omega (arith, extra, few (c.args.m.0 + 1))

pub returns-then-goes_on : goal.returns-then-goes_on
returns-then-goes_on c =
    let sparse : IsSparse c.args.image.now.bytes.now c.args.image.now.frame c.args.m.0 = let n = c.if-m-image.false in record { accepted = c.requires.0.accepted; behind_dense = omega arith; inside = c.requires.0.inside } in
    let starts : c.args.at.0 ≡ start_of c.args.image.now.bytes.now c.args.image.now.frame c.args.m.0 = let n = c.if-m-image.false in c.requires.1 (omega arith) in
    let extra : c.args.at.0 + 1 < start_of c.args.image.now.bytes.now c.args.image.now.frame (c.args.m.0 + 1) = let a = c.args in
    let n = sparse in
    c.goes_on.ensures.inside a.m.0 n (omega (arith, starts, start_below a.image.now.bytes.now a.image.now.frame n.accepted a.m.0 n.behind_dense n.inside)) c.if-goes_on.true in
    let a = c.args in
    let n = sparse in
    first_extra a.image.now.bytes.now a.image.now.frame n.accepted a.m.0 n.behind_dense n.inside a.at.0 starts c.branch_at.result (sym c.branch_at-first.ensures.label_is ∙ c.if-first-eq-EXTRA.true) extra c.branch_at.ensures

pub returns : goal.returns
returns c =
    let sparse : IsSparse c.args.image.now.bytes.now c.args.image.now.frame c.args.m.0 = let n = c.if-m-image.false in record { accepted = c.requires.0.accepted; behind_dense = omega arith; inside = c.requires.0.inside } in
    let starts : c.args.at.0 ≡ start_of c.args.image.now.bytes.now c.args.image.now.frame c.args.m.0 = let n = c.if-m-image.false in c.requires.1 (omega arith) in
    let v = c.args.image.now in
    elim c.else-first-eq-EXTRA.branch [
      | else-first-eq-EXTRA-via-then-first-eq-EXTRA+else-goes_on w ↦
          first_sole v.bytes.now v.frame sparse.accepted c.args.m.0 sparse.behind_dense sparse.inside c.args.at.0 starts c.branch_at-first.result (w.goes_on.ensures.outside c.args.m.0 sparse (omega (arith, starts)) w.if-goes_on.false) c.branch_at-first.ensures
      | else-first-eq-EXTRA-via-else-first-eq-EXTRA w ↦
          first_other v.bytes.now v.frame sparse.accepted c.args.m.0 sparse.behind_dense sparse.inside c.args.at.0 starts c.branch_at-first.result (λ e. w.if-first-eq-EXTRA.false (c.branch_at-first.ensures.label_is ∙ e)) c.branch_at-first.ensures
    ]
