-- An entry starts a node exactly if its bit in S-LOUDS is set.
use Prim.Native.Nat.{ℕ, ◌+◌, ◌-◌}
use lib.ListN.{drop}
use mathlib.Core.Path.{sym, ap, ◌∙◌}
use mathlib.Core.Bool.{true≢false}
use mathlib.Core.List.{List}
use native.Mathlib.Omega.{arith}
use borrow.Author.Tests.{eqb-true, eqb-false}
use Rattle.bits.specs.Bits.{bit_at}
use Rattle.bits_select.specs.SelectLaws.{select_le}
use Rattle.image.specs.Records.{tail_part}
use Rattle.nav_nodes.specs.FromCheck.{accepted}
use Rattle.nav_nodes.specs.Tables.{starts_sampled}
use Rattle.walk_path.specs.EntryLaws.{louds_inside, louds_outside}
use Rattle.walk_path.proofs.entries.goes_on.Goals as goal

pub returns-then-at-image : goal.returns-then-at-image
returns-then-at-image c =
    let a = c.args in
    record {
      inside = λ m n h e. absurd (true≢false (sym e));
      outside = λ m n h e. omega (arith, select_le (drop a.image.now.frame.sb a.image.now.bytes.now) a.image.now.frame.sparse.entries (m + 1 - a.image.now.frame.dense.nodes));
    }

pub bit_at-requires : goal.bit_at-requires
bit_at-requires c =
    rw (tail_part c.args.image.now.bytes.now c.args.image.now.frame.sb) (omega (arith, (starts_sampled c.args.image.now.bytes.now c.args.image.now.frame (accepted c.args.image.now)).0))

pub returns : goal.returns
returns c =
    let a = c.args in
    let is = c.bit_at.ensures ∙ ap (λ (z : List ℕ). bit_at z a.at.0) (tail_part a.image.now.bytes.now a.image.now.frame.sb) in
    record {
      inside = λ m n h e. louds_inside a.image.now.bytes.now a.image.now.frame n.accepted m n.behind_dense n.inside a.at.0 h (omega arith) (sym is ∙ eqb-true c.bit_at.result 0 e);
      outside = λ m n h e. louds_outside a.image.now.bytes.now a.image.now.frame n.accepted m n.behind_dense n.inside a.at.0 h (λ z. eqb-false c.bit_at.result 0 e (is ∙ z));
    }
