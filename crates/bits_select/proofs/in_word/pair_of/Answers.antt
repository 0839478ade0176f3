-- Each half holds the one, from the word down to a pair of bits.
use native.Mathlib.Omega.{arith}
use Rattle.bits_select.specs.NarrowLaws.{narrowed_word}
use Rattle.bits_select.proofs.in_word.pair_of.Goals as goal

pub returns : goal.returns
returns c =
    let a = c.args in
    let n = c.field_counts-n.ensures in
    let word = narrowed_word a.x a.m (omega arith) c.requires in
    let in-32 = c.half_of-in_32.ensures.narrowed a.x a.m 1 n.halves word in
    let in-16 = c.half_of-in_16.ensures.narrowed a.x a.m 2 n.sixteens in-32 in
    let in-8 = c.half_of-in_8.ensures.narrowed a.x a.m 4 n.eights in-16 in
    let in-4 = c.half_of-in_4.ensures.narrowed a.x a.m 8 n.fours in-8 in
    c.half_of.ensures.narrowed a.x a.m 16 n.pairs in-4
