-- The loop: the labels passed are flagged.
use mathlib.Core.Path.{◌≡◌}
use Prim.Native.Nat.{◌-◌, ◌≤◌}
use lib.ListN.{length}
use Rattle.check_trie.specs.FlagLaws.{FlaggedTo}
use Rattle.check_trie.proofs.label_order.flag_descents.Given as goal

abbrev pub invariant-loop-i : goal.invariant-loop-i
invariant-loop-i l = (l.i ≤ 64) × (length l.flags ≡ 64) × FlaggedTo l.sl l.at l.flags l.i

abbrev pub decreases-loop-i : goal.decreases-loop-i
decreases-loop-i l = 64 - l.i
