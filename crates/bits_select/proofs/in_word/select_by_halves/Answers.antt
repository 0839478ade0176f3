use Rattle.bits_select.specs.CountLaws.{counts_digits}
use Rattle.bits_select.specs.NarrowLaws.{narrowed_bit}
use Rattle.bits_select.proofs.in_word.select_by_halves.Goals as goal

pub returns : goal.returns
returns c =
    let a = c.args in
    narrowed_bit a.x a.m _ _ (c.half_of-bit.ensures.narrowed a.x a.m 32 (counts_digits 64 a.x) c.pair_of.ensures)
