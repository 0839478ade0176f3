-- The entry behind the last node of the level, if this is the next node; else by select and rank.
use Prim.Native.Nat.{◌+◌}
use mathlib.Core.Path.{◌≡◌, ap, ◌∙◌}
use native.Mathlib.Omega.{arith}
use lib.ListN.{drop}
use Rattle.bits.proofs.RankLaws.{rank_le}
use Rattle.nav_nodes.specs.Positions.{dense_kids, dense_totals, few_children}
use Rattle.walk_path.specs.Entries.{start_of}
use Rattle.walk_path.proofs.entries.start_at.Goals as goal

pub returns-then-m-last : goal.returns-then-m-last
returns-then-m-last c =
    let a = c.args in
    let z = c.if-known-ne0.true in
    let next : a.last.0 + 1 ≡ a.m.0 = omega (arith, c.if-m-last.true) in
    λ d. record { entry_is = c.requires.2.entry_is (omega arith) ∙ ap (start_of a.image.now.bytes.now a.image.now.frame) next; child_is = c.requires.2.child_is (omega arith) }

pub overflow_add-result : goal.overflow_add-result
overflow_add-result c =
    let a = c.args in
    let p = c.requires.0.accepted in
    omega (arith, (dense_totals a.image.now.bytes.now a.image.now.frame p).0, few_children a.image.now.bytes.now a.image.now.frame p a.image.now.frame.dense.nodes (omega arith), c.entry_rank.ensures, rank_le (drop a.image.now.frame.sc a.image.now.bytes.now) c.node_start-start.result.0, c.node_start-start.ensures.1, p.writable.few_entries, p.entry_size)

pub overflow_add-result-2 : goal.overflow_add-result-2
overflow_add-result-2 c =
    let a = c.args in
    let p = c.requires.0.accepted in
    omega (arith, (dense_totals a.image.now.bytes.now a.image.now.frame p).0, few_children a.image.now.bytes.now a.image.now.frame p a.image.now.frame.dense.nodes (omega arith), c.entry_rank.ensures, rank_le (drop a.image.now.frame.sc a.image.now.bytes.now) c.node_start-start.result.0, c.node_start-start.ensures.1, p.writable.few_entries, p.entry_size)

pub returns : goal.returns
returns c =
    let a = c.args in
    let p = c.requires.0.accepted in
    λ d. record { entry_is = c.node_start-start.ensures.0; child_is = omega (arith, (dense_totals a.image.now.bytes.now a.image.now.frame p).0, dense_kids a.image.now.bytes.now a.image.now.frame p, c.entry_rank.ensures) }
