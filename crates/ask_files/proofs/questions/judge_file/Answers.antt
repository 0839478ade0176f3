-- The questions passed are counted, and the rest of the file decides. Each question takes at least a byte, so a byte of fuel is left for each.
use mathlib.Core.Path.{◌≡◌, sym, ap, ◌∙◌}
use Prim.Native.Nat.{ℕ, ◌+◌, ◌-◌}
use native.Mathlib.Omega.{arith}
use lib.ListN.{length, drop}
use Rattle.std.proofs.lemmas.Result.{err_from_is_err_and}
use Rattle.spec.specs.Questions.{parse_from}
use Rattle.ask_files.specs.Questions.{counted}
use Rattle.ask_files.proofs.JudgeLaws.{judge_start, judge_end, judge_many, judge_refused, judge_more}
use Rattle.ask_files.proofs.questions.judge_file.Goals as goal

pub loop-at-init : goal.loop-at-init
loop-at-init c =
    (omega arith, omega arith, omega arith, judge_start c.args.s.now)

pub returns-then-count-eq-MAX_QUESTIONS : goal.returns-then-count-eq-MAX_QUESTIONS
returns-then-count-eq-MAX_QUESTIONS c =
    let a = c.args in
    let l = c.loop-at in
    sym (l.invariant.3 ∙ judge_many a.s.now l.at l.count c.loop-at-test.true (length a.s.now - l.count) (omega arith) c.if-count-eq-MAX_QUESTIONS.true)

pub returns-in_err-at : goal.returns-in_err-at
returns-in_err-at c =
    let a = c.args in
    let l = c.loop-at in
    let p = err_from_is_err_and c.from_residual.result c.from_residual.ensures.1 in
    rw (p.1, p.2) (sym (l.invariant.3 ∙ judge_refused a.s.now l.at l.count c.loop-at-test.true c.if-count-eq-MAX_QUESTIONS.false (length a.s.now - l.count) _ (omega arith) c.in_err-at.ensures))

pub loop-at-preserved : goal.loop-at-preserved
loop-at-preserved c =
    let a = c.args in
    let l = c.loop-at in
    let k = c.in_ok-at.ensures in
    let f : length a.s.now - l.count - 1 ≡ length a.s.now - (l.count + 1) = omega arith in (
      omega (arith, k.1),
      k.2,
      omega arith,
      l.invariant.3 ∙ judge_more a.s.now l.at l.count c.loop-at-test.true c.if-count-eq-MAX_QUESTIONS.false (length a.s.now - l.count) _ (omega arith) k
          ∙ ap (λ (g : ℕ). counted (l.count + 1) (parse_from g (l.count + 1) (drop c.in_ok-at.at a.s.now))) f,
    )

pub returns : goal.returns
returns c =
    let a = c.args in
    let l = c.loop-at in
    sym (l.invariant.3 ∙ judge_end a.s.now l.at l.count (length a.s.now - l.count) c.loop-at-test.false)
