-- The low byte of each lane stays.
use mathlib.Core.Path.{refl}
use lib.Bits.{and_le_r}
use Rattle.check_trie.specs.LaneLaws.{low_bytes}
use Rattle.check_trie.proofs.label_masks.even_bytes.Goals as goal

pub returns : goal.returns
returns c =
    (refl, and_le_r c.args.w low_bytes)
