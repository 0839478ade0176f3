-- The test of a label by its position.
use Rattle.std.specs.Prelude.{get_or, eqb}
use Rattle.check_trie.proofs.label_masks.full_labels.Given as goal

abbrev pub ghost-mask_of_64 : goal.ghost-mask_of_64
ghost-mask_of_64 a = λ j. eqb (get_or a.eight.0.now j 0) 255
