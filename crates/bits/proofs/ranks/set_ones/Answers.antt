-- By cases of the slice's end.
use mathlib.Core.Path.{sym}
use Rattle.bits.proofs.NumberLaws.{with_ones_is, with_ones_out}
use Rattle.bits.proofs.ranks.set_ones.Goals as goal

pub returns-then-q-out : goal.returns-then-q-out
returns-then-q-out c =
    sym (with_ones_is _ _ _)

pub returns-else-q-out : goal.returns-else-q-out
returns-else-q-out c =
    sym (with_ones_out _ _ _ c.if-q-out.false)
