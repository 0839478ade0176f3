-- One record more stands behind those before it.
use Prim.Native.Nat.{ℕ}
use mathlib.Core.Path.{◌≡◌, subst, ap, ◌∙◌}
use Rattle.spec.specs.Keys.{keys_of}
use Rattle.build_keys.specs.CountPass.{list_counts}
use Rattle.build_keys.specs.declared.LevelCounts.{LevelCounts}
use Rattle.build_records.specs.Plan.{source_counters, Written, written_none, written_asks, written_more, written_all}
use native.Mathlib.Omega.{arith}
use Rattle.build_records.proofs.records.write_records.Goals as goal

pub loop-i-init : goal.loop-i-init
loop-i-init c =
    let pre = c.requires in
    let a = c.args in
    (omega arith, written_none a.list.now a.plan pre.0 a.out.now pre.1)

pub write_record-requires : goal.write_record-requires
write_record-requires c =
    let pre = c.requires in
    let a = c.args in
    let l = c.loop-i in
    let source = c.of_record in (
      written_asks a.list.now a.plan pre.0 a.out.now pre.1 l.i l.out (omega arith) l.invariant.1,
      c.counters.ensures ∙ ap (λ (x : LevelCounts). source_counters x source.result) pre.2 ∙ ap (source_counters (list_counts (keys_of a.list.now))) source.ensures,
    )

pub loop-i-preserved : goal.loop-i-preserved
loop-i-preserved c =
    let pre = c.requires in
    let a = c.args in
    let l = c.loop-i in
    (omega arith, written_more a.list.now a.plan pre.0 a.out.now pre.1 l.i l.out _ (omega arith) l.invariant.1 c.write_record.ensures)

pub returns : goal.returns
returns c =
    let pre = c.requires in
    let a = c.args in
    let l = c.loop-i in
    let e : l.i ≡ 12 = omega arith in
    written_all a.list.now a.plan pre.0 a.out.now pre.1 l.out (subst (λ (n : ℕ). Written a.list.now a.plan a.out.now n l.out) e l.invariant.1)
