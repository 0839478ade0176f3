-- The eight labels from each position on have the mask of their answers.
use Rattle.check_trie.proofs.label_masks.full_labels.Goals as goal

pub returns : goal.returns
returns c =
    c.mask_of_64.ensures
