use mathlib.Core.Path.{refl}
use Rattle.check_trie.proofs.trie.sums_valid.Goals as goal

pub returns : goal.returns
returns c =
    refl
