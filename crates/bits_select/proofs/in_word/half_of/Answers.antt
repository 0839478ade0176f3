use native.Mathlib.Omega.{arith}
use lib.Pow.{pow_pos}
use Rattle.bits.proofs.RankLaws.{one_shl}
use Rattle.bits_select.specs.NarrowLaws.{narrowed_low, narrowed_high}
use Rattle.bits_select.proofs.in_word.half_of.Goals as goal

pub nonzero_rem-low : goal.nonzero_rem-low
nonzero_rem-low c =
    rw (one_shl 64 c.args.w (omega arith)) (pow_pos c.args.w)

pub returns-then-field-low : goal.returns-then-field-low
returns-then-field-low c =
    let a = c.args in
    record {
      within = omega arith;
      narrowed = λ x m k n p. narrowed_low x m a.w k a.field.at a.field.left a.counts n p (rw (one_shl 64 a.w (omega arith)) at c.if-field-low.true);
    }

pub returns : goal.returns
returns c =
    let a = c.args in
    record {
      within = omega arith;
      narrowed = λ x m k n p. rw (one_shl 64 a.w (omega arith)) (narrowed_high x m a.w k a.field.at a.field.left a.counts n p (rw (one_shl 64 a.w (omega arith)) at c.if-field-low.false));
    }
