-- The levels are counted, and give the header and the starts.
use mathlib.Core.Path.{refl}
use Rattle.spec.specs.Keys.{keys_of}
use Rattle.build_laws.specs.Limits.{counters, counter_max}
use Rattle.build_keys.specs.CounterRoom.{counters_room}
use Rattle.build_records.specs.Plan.{entry_sums, node_sums, header_short, plan_made}
use Rattle.image.specs.Header.{asked}
use native.Mathlib.Omega.{arith}
use Rattle.build.proofs.JudgeLaws.{ready}
use Rattle.build.proofs.layout.lay_out.Goals as goal

pub count_levels-requires : goal.count_levels-requires
count_levels-requires c =
    let l = c.args.list.now in
    let r = ready l in
    let b = r.built in
    (record { records = r.records; each = b.keys; up = b.up }, counters_room counter_max (keys_of l.bytes.now) (omega arith) b.keys b.up b.few, c.requires)

pub total-requires : goal.total-requires
total-requires c =
    let l = c.args.list.now in
    let r = ready l in
    (omega (arith, r.built.dense_range), node_sums l.bytes.now (asked l.settings) r _ c.count_levels.ensures 0 counters (omega arith))

pub total-requires-2 : goal.total-requires-2
total-requires-2 c =
    let l = c.args.list.now in
    (omega arith, node_sums l.bytes.now (asked l.settings) (ready l) _ c.count_levels.ensures l.settings.dense_levels counters (omega arith))

pub total-requires-3 : goal.total-requires-3
total-requires-3 c =
    let l = c.args.list.now in
    (omega arith, entry_sums l.bytes.now (asked l.settings) (ready l) _ c.count_levels.ensures l.settings.dense_levels counters (omega arith))

pub record_starts-requires : goal.record_starts-requires
record_starts-requires c =
    let l = c.args.list.now in
    header_short l.bytes.now (asked l.settings) (ready l) _ c.count_levels.ensures l.count _ _ _ l.counted c.total.ensures c.total-2.ensures c.total-3.ensures

pub returns : goal.returns
returns c =
    let l = c.args.list.now in
    let counted = c.count_levels.ensures in
    (plan_made l.bytes.now (asked l.settings) (ready l) _ counted l.count _ _ _ l.counted c.total.ensures c.total-2.ensures c.total-3.ensures _ c.record_starts.ensures, refl, counted)
