-- The loop: each label passed that is flagged has its digit, or a bit is found.
use mathlib.Core.Path.{◌≡◌}
use Prim.Native.Nat.{◌*◌, ◌/◌, ◌^◌, ◌≤◌}
use Rattle.check_trie.specs.FlagLaws.{Found}
use Rattle.check_trie.proofs.label_order.flags_within.Given as goal

abbrev pub invariant-loop-k : goal.invariant-loop-k
invariant-loop-k l = (l.k ≤ 8) × (l.rest ≡ l.y / 2 ^ (8 * l.k)) × Found l.flags l.y l.found (8 * l.k)
