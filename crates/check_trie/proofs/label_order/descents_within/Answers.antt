-- Flags that have their digits are those of labels that have them.
use Rattle.check_trie.specs.FlagLaws.{flags_within}
use Rattle.check_trie.proofs.label_order.descents_within.Goals as goal

pub returns : goal.returns
returns c =
    let a = c.args in
    λ e. flags_within a.sl.now c.flag_descents.new.flags a.at a.y c.flag_descents.ensures (c.flags_within.ensures e)
