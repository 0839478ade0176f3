use Rattle.query_sums.specs.Bounds.{BoundEnded, lower_leads, upper_leads, bound_down, bound_key, count_parted}
use mathlib.Core.Path.{sym, ◌∙◌}
use Rattle.query_count.proofs.count_apart.Goals as goal
use Rattle.query_count.proofs.count_apart.Goals.{After-bound_from-upper}

module _ (c : After-bound_from-upper) where
  -- the lower bound, and the upper, from where the ways part
  lower : BoundEnded c.args.image.now.bytes.now c.args.image.now.frame c.args.lo.now c.requires.0.above c.bound_from-lower.result
  lower = let v = c.args.image.now in c.bound_from-lower.ensures c.requires.0.above (lower_leads v.bytes.now v.frame c.args.lo.now c.args.hi.now c.args.fork c.requires.0 c.requires.1)

  upper : BoundEnded c.args.image.now.bytes.now c.args.image.now.frame c.args.hi.now c.requires.0.above c.bound_from-upper.result
  upper = let v = c.args.image.now in c.bound_from-upper.ensures c.requires.0.above (upper_leads v.bytes.now v.frame c.args.lo.now c.args.hi.now c.args.fork c.requires.0 c.requires.1)

pub bound_from-lower-requires : goal.bound_from-lower-requires
bound_from-lower-requires c =
    let v = c.args.image.now in
    let p = c.requires.0 in
    record { accepted = p.accepted; short = p.lo_short; above = p.above; leads = lower_leads v.bytes.now v.frame c.args.lo.now c.args.hi.now c.args.fork p c.requires.1 }

pub bound_from-upper-requires : goal.bound_from-upper-requires
bound_from-upper-requires c =
    let v = c.args.image.now in
    let p = c.requires.0 in
    record { accepted = p.accepted; short = p.hi_short; above = p.above; leads = upper_leads v.bytes.now v.frame c.args.lo.now c.args.hi.now c.args.fork p c.requires.1 }

pub sums_apart-sums-requires : goal.sums_apart-sums-requires
sums_apart-sums-requires c =
    let v = c.args.image.now in
    let p = c.requires.0 in
    let b = (goal.at.sums_apart-sums-requires c).After-bound_from-upper in
    (bound_down v.bytes.now v.frame p.accepted c.args.lo.now p.lo_short p.above c.bound_from-lower.result (lower b), bound_down v.bytes.now v.frame p.accepted c.args.hi.now p.hi_short p.above c.bound_from-upper.result (upper b))

pub passed_at-requires : goal.passed_at-requires
passed_at-requires c =
    let v = c.args.image.now in
    let p = c.requires.0 in
    bound_key v.bytes.now v.frame p.accepted c.args.lo.now p.lo_short p.above c.bound_from-lower.result (lower (goal.at.passed_at-requires c).After-bound_from-upper)

pub reached_at-requires : goal.reached_at-requires
reached_at-requires c =
    let v = c.args.image.now in
    let p = c.requires.0 in
    bound_key v.bytes.now v.frame p.accepted c.args.hi.now p.hi_short p.above c.bound_from-upper.result (upper (goal.at.reached_at-requires c).After-bound_from-upper)

pub returns : goal.returns
returns c =
    let v = c.args.image.now in
    let p = c.requires.0 in
    let b = (goal.at.returns c).After-bound_from-upper in
    c.saturating_sub.ensures
    ∙ sym (count_parted v.bytes.now v.frame c.args.lo.now c.args.hi.now p.above c.bound_from-lower.result c.bound_from-upper.result p.accepted p.lo_short p.hi_short (lower b) (upper b) c.sums_apart-sums.result c.sums_apart-sums.ensures c.passed_at.result c.reached_at.result c.passed_at.ensures.0 c.reached_at.ensures.0)
