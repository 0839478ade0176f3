-- The answer by what reading the frame and judging the image gave.
use mathlib.Core.Path.{◌≡◌, sym}
use Rattle.std.specs.Prelude.{Result, Ok, Err}
use Rattle.std.proofs.lemmas.Result.{err_from_is_err_and}
use Rattle.spec.specs.Bytes.{Bytes}
use Rattle.spec.specs.Check.{check}
use Rattle.theory.proofs.RefusalNumbers.{check_accepts, check_refused}
use Rattle.image.specs.declared.refusals.Refusal.{Refusal}
use Rattle.image.specs.Refusals.{number_of, number_positive}
use Rattle.check_image.specs.Answers.{answer, Judged, refuses}
use Rattle.check_image.proofs.check.Goals as goal

-- what judging says is the answer
judged : (s : Bytes) (r : Result (Unit {0}) Refusal) → Judged s r → answer r ≡ check s
judged s (Ok _) v = sym ((check_accepts s).1 v)
judged s (Err r) v = sym ((check_refused s (number_of r)).1 (v, number_positive r))

pub returns-in_err-read : goal.returns-in_err-read
returns-in_err-read c =
    let r = c.in_err-read.field-0.0 in
    let p = err_from_is_err_and c.from_residual.result c.from_residual.ensures.1 in
    rw (p.1, p.2) (judged c.args.image.now (Err r) (refuses r c.in_err-read.ensures.read.1))

pub returns : goal.returns
returns c =
    judged c.args.image.now c.judge.result (rw c.in_ok-read.ensures.read at c.judge.ensures)
