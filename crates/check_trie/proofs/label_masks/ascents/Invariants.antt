-- The test of a label by its position.
use Rattle.std.specs.Prelude.{suc, get_or, ltb}
use Rattle.check_trie.proofs.label_masks.ascents.Given as goal

abbrev pub ghost-mask_of_64 : goal.ghost-mask_of_64
ghost-mask_of_64 a = λ j. ltb (get_or a.eight.0.now j 0) (get_or a.eight.0.now (suc j) 0)
