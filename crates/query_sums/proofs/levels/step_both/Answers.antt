-- Both bounds pass the chain, or go to the next level.
use mathlib.Core.Path.{refl, sym, ap, ◌∙◌}
use Prim.Native.Nat.{ℕ, ◌+◌}
use Rattle.query_sums.specs.Levels.{chain_passable, chain_passed, lowered_next}
use Rattle.query_sums.proofs.levels.step_both.Goals as goal

pub pass_chain-requires : goal.pass_chain-requires
pass_chain-requires c =
    let v = c.args.image.now in
    chain_passable v.bytes.now v.frame c.args.a c.requires.0 c.in-Some.chain c.in-Some.ensures (c.if-on_chain.ensures.0 refl)

pub pass_chain-requires-2 : goal.pass_chain-requires-2
pass_chain-requires-2 c =
    let v = c.args.image.now in
    chain_passable v.bytes.now v.frame c.args.b c.requires.1 c.in-Some.chain (rw c.requires.2 at c.in-Some.ensures) (c.if-on_chain-2.ensures.0 refl)

pub returns : goal.returns
returns c =
    let v = c.args.image.now in
    let r = c.in-Some.chain in (
      rw c.pass_chain.ensures (chain_passed v.bytes.now v.frame c.args.a c.requires.0 r c.in-Some.ensures (c.if-on_chain.ensures.0 refl)),
      rw c.pass_chain-2.ensures (chain_passed v.bytes.now v.frame c.args.b c.requires.1 r (rw c.requires.2 at c.in-Some.ensures) (c.if-on_chain-2.ensures.0 refl)),
      rw (c.pass_chain.ensures, c.pass_chain-2.ensures) (ap (λ (d : ℕ). d + r.levels) c.requires.2),
    )

pub returns-2 : goal.returns-2
returns-2 c =
    let v = c.args.image.now in
    let x = c.go_down.ensures in
    let y = c.go_down-2.ensures in (
      lowered_next v.bytes.now v.frame c.args.a c.go_down.result c.requires.3 x,
      lowered_next v.bytes.now v.frame c.args.b c.go_down-2.result (rw (← c.requires.2) c.requires.3) (rw c.requires.2 at y),
      x.depth_is ∙ sym y.depth_is,
    )
