use Rattle.nav_branches.proofs.EdgeLaws.{end_room, higher_there}
use Rattle.spec.specs.Bytes.{bit}
use mathlib.Core.Path.{ap, ◌∙◌}
use native.Mathlib.Omega.{arith}
use Rattle.nav_branches.proofs.edges.next_higher.Goals as goal

pub entry_branch-requires : goal.entry_branch-requires
entry_branch-requires c =
    let v = c.args.image.now in
    end_room v.bytes.now v.frame c.args.m.0 (record { accepted = c.requires.0.accepted; behind_dense = omega arith; inside = c.requires.0.inside }) c.args.y c.args.b c.requires.2

pub returns : goal.returns
returns c =
    let v = c.args.image.now in
    higher_there v.bytes.now v.frame c.args.m.0 (record { accepted = c.requires.0.accepted; behind_dense = omega arith; inside = c.requires.0.inside }) c.args.y c.args.b c.requires.2 _ (omega (arith, c.from.ensures ∙ ap bit c.is_there.ensures)) c.entry_branch.result c.entry_branch.ensures
