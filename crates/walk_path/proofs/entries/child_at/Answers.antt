-- The child from the known entry on, or by rank.
use mathlib.Core.Path.{ap, ◌∙◌}
use native.Mathlib.Omega.{arith}
use borrow.Author.Tests.{le-ltb}
use Rattle.nav_nodes.specs.Positions.{child_at}
use Rattle.walk_path.specs.Entries.{child_from}
use Rattle.walk_path.proofs.entries.child_at.Goals as goal

pub returns-then-known-at : goal.returns-then-known-at
unfolding child_at
returns-then-known-at c =
    let a = c.args in
    let z = c.if-known-ne0.true in
    let k = c.requires.1 (omega arith) in
    rw (le-ltb a.m.0 a.image.now.frame.dense.nodes k.0) (k.1 ∙ ap (child_from a.image.now.bytes.now a.image.now.frame) c.if-known-at.true)
