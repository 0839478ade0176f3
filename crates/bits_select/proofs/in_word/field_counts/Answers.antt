use Rattle.bits_select.specs.CountLaws.{every_other, field_counts}
use Rattle.bits_select.proofs.in_word.field_counts.Goals as goal

-- each mask is the number that has every other field
pub returns : goal.returns
unfolding every_other
returns c =
    let x = c.args.x in
    field_counts x _ _ _ _ _ c.paired-of_2.ensures c.paired-of_4.ensures c.paired-of_8.ensures c.paired-of_16.ensures c.paired-of_32.ensures
