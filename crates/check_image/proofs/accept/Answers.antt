-- A refusal of the reader is by the verdict's number; an image that passes is accepted with the frame that was read.
use mathlib.Core.Path.{◌≡◌, subst}
use Prim.Native.Nat.{ℕ}
use mathlib.Core.List.{List}
use Rattle.std.proofs.lemmas.Result.{err_from_is_err_and}
use Rattle.spec.specs.Check.{verdict}
use Rattle.image.specs.FrameOf.{FrameOf}
use Rattle.image.specs.FromCheck.{all_bytes, checked_accepted}
use Rattle.image.specs.Inside.{accepted_inside}
use Rattle.check_image.specs.Answers.{refuses}
use Rattle.check_image.proofs.accept.Goals as goal

pub returns-in_err-read-clause-checked : goal.returns-in_err-read-clause-checked
returns-in_err-read-clause-checked c =
    let p = err_from_is_err_and c.from_residual.result c.from_residual.ensures.1 in
    rw (p.1, p.2) (refuses c.in_err-read.field-0.0 c.in_err-read.ensures.read.1)

pub invariant_of-result : goal.invariant_of-result
invariant_of-result c =
    let v = c.in_ok-read.read.image in
    let a = checked_accepted v.bytes.now v.frame (all_bytes v.bytes.now v.in_range) v.framed c.in_ok-judge.ensures in
    record { in_range = v.in_range; inside = accepted_inside v.bytes.now v.frame a; accepted = a }

pub returns-clause-checked : goal.returns-clause-checked
returns-clause-checked c =
    let v = c.in_ok-read.read.image in
    let e = c.in_ok-read.ensures.read in
    (e, subst (λ (z : List ℕ). FrameOf z v.frame) e v.framed, subst (λ (z : List ℕ). verdict z ≡ 0) e c.in_ok-judge.ensures)
