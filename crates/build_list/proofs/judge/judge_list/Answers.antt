-- Each record gives the number of the list, or leaves it to the records behind.
use mathlib.Core.Path.{◌≡◌, sym, ap, ◌∙◌}
use Prim.Native.Nat.{ℕ, ◌+◌, ◌-◌}
use Rattle.std.proofs.lemmas.Result.{err_from_is_err_and}
use Rattle.bits.specs.Bits.{key}
use Rattle.build_list.specs.KeyList.{counted}
use Rattle.build_list.specs.ListLaws.{judge_start, judge_end, judge_number, judge_more}
use native.Mathlib.Omega.{arith}
use lib.ListN.{length, drop}
use Rattle.spec.specs.Keys.{parse_records}
use Rattle.build_list.proofs.judge.judge_list.Goals as goal

pub loop-at-init : goal.loop-at-init
loop-at-init c =
    (omega arith, omega arith, omega arith, omega arith, judge_start c.args.s.now)

pub returns-in_err-m : goal.returns-in_err-m
returns-in_err-m c =
    let a = c.args in
    let l = c.loop-at in
    let e = err_from_is_err_and c.from_residual.result c.from_residual.ensures.1 in
    rw (e.1, e.2) (sym (l.invariant.4 ∙ judge_number a.s.now l.at l.count (key a.s.now l.last l.m) (length a.s.now - l.count) c.in_err-m.field-0.0 (omega arith) c.in_err-m.ensures))

pub loop-at-preserved : goal.loop-at-preserved
loop-at-preserved c =
    let a = c.args in
    let l = c.loop-at in
    let n = c.in_ok-m.m in
    let r = c.in_ok-m.ensures in
    let e : length a.s.now - l.count - 1 ≡ length a.s.now - (l.count + 1) = omega arith in (
      omega arith,
      omega (arith, r.within),
      r.within,
      omega (arith, r.few),
      l.invariant.4 ∙ judge_more a.s.now l.at l.count (key a.s.now l.last l.m) (length a.s.now - l.count) n (omega arith) r
          ∙ ap (λ (f : ℕ). counted (l.count + 1) (parse_records f (l.count + 1) (key a.s.now (l.at + 3) n) (drop (l.at + 3 + n) a.s.now))) e,
    )

pub returns : goal.returns
returns c =
    let a = c.args in
    let l = c.loop-at in
    sym (l.invariant.4 ∙ judge_end a.s.now l.at l.count (key a.s.now l.last l.m) (length a.s.now - l.count) (omega arith))
