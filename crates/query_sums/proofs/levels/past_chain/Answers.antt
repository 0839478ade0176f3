-- The bound passes the chain on which it stands.
use mathlib.Core.Path.{refl}
use native.Mathlib.Omega.{arith}
use Rattle.query_sums.specs.Levels.{passed, chain_passable, chain_passed, down_again}
use Rattle.query_sums.proofs.levels.past_chain.Goals as goal

pub pass_chain-requires : goal.pass_chain-requires
pass_chain-requires c =
    let v = c.args.image.now in
    chain_passable v.bytes.now v.frame c.args.from c.requires c.in-Some.chain c.in-Some.ensures (c.if-on_chain.ensures.0 refl)

pub returns-in-Some : goal.returns-in-Some
returns-in-Some c =
    let v = c.args.image.now in
    let from = c.args.from in
    let o = chain_passed v.bytes.now v.frame from c.requires c.in-Some.chain c.in-Some.ensures (c.if-on_chain.ensures.0 refl) in
    let to = passed from c.in-Some.chain in
    rw c.pass_chain.ensures (down_again v.bytes.now v.frame from c.requires to.depth (omega (arith, o.deeper)) to o.gone 64 o.depth_in (omega arith), omega (arith, o.deeper), o.gone)
