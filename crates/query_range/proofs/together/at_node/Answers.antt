use Rattle.query_descent.specs.Leads.{shared_parts}
use Rattle.query_range.specs.RangeWays.{met_stop, met_ended}
use lib.ListN.{length}
use Prim.Native.Nat.{◌<◌}
use mathlib.Core.Path.{sym, ◌∙◌}
use native.Mathlib.Omega.{arith}
use Rattle.query_range.proofs.together.at_node.Goals as goal

pub returns-then-depth-lo : goal.returns-then-depth-lo
returns-then-depth-lo c =
    let p = c.requires.0 in
    c.reached_below.ensures ∙ sym (met_stop p.lower p.upper (omega (arith, c.if-depth-lo.true)))

pub returns-then-depth-hi : goal.returns-then-depth-hi
returns-then-depth-hi c =
    let p = c.requires.0 in
    sym (met_ended p.lower p.upper (omega (arith, c.if-depth-lo.false, p.lower.depth_in)) (omega (arith, c.if-depth-hi.true)))

pub apart-requires : goal.apart-requires
apart-requires c =
    let p = c.requires.0 in
    let more : c.args.depth < length c.args.lo.now = omega (arith, c.if-depth-lo.false, p.lower.depth_in) in
    let further : c.args.depth < length c.args.hi.now = omega (arith, c.if-depth-hi.false, p.upper.depth_in) in
    record {
      lower = p.lower;
      upper = p.upper;
      lo_more = more;
      hi_more = further;
      differ = shared_parts c.args.lo.now c.args.hi.now c.args.depth c.requires.1 more further;
    }
