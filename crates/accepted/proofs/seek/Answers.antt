-- The reply to the seek, with its key behind the byte of its length.
use mathlib.Core.Path.{◌≡◌, sym, ap, ◌∙◌}
use native.Mathlib.Omega.{arith}
use lib.ListN.{length, take, length-set}
use lib.Seq.{length-take-le}
use Rattle.std.proofs.lemmas.Result.{err_from_is_err_and}
use Rattle.spec.specs.Questions.{QS, Reply}
use Rattle.theory.proofs.OneQuestionLaws.{key_long, key_fits, seek_keys}
use Rattle.nav_nodes.specs.FromCheck.{accepted}
use Rattle.accepted.proofs.NumberLaws.{refused_number, refused_key, replied_number, replied_key}
use Rattle.accepted.proofs.seek.Goals as goal

pub returns-in_err-judge_key : goal.returns-in_err-judge_key
returns-in_err-judge_key c =
    let a = c.args in
    let p = err_from_is_err_and c.from_residual.result c.from_residual.ensures.1 in
    let k = c.in_err-judge_key.ensures in
    let e = k.1 ∙ sym (seek_keys a.start.now ∙ key_long a.start.now k.0) in
    rw (p.1, p.2) (refused_number a.image.now (QS a.start.now) _ e, refused_key a.image.now (QS a.start.now) _ e a.found.now)

pub returns : goal.returns
returns c =
    let r = c.seek_reply-reply in
    let key_length : r.result.n ≡ length (take r.result.n r.new.key) = let z = r.ensures.0 in sym (length-take-le r.result.n r.new.key (omega (arith, z.small, z.buffer))) in
    let a = c.args in
    let e = seek_keys a.start.now ∙ key_fits a.start.now c.in_ok-judge_key.ensures in
    let g = c.accepted_image-accepted in
    let s = g.result.bytes.now in
    let f = g.result.frame in
    let w = r.ensures.1 in
    rw (← g.ensures.bytes) (
      replied_number s (QS a.start.now) e f (accepted g.result) _ (ap (λ (z : Reply). z.number) w),
      c.write_bytes.ensures
          ∙ replied_key s (QS a.start.now) e f (accepted g.result) a.found.now r.new.key r.result.n (ap (λ (z : Reply). z.key) w) key_length
          (omega (arith, length-set a.found.now 0 r.result.n)),
    )
