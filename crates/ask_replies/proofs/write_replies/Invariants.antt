-- The replies to the questions passed stand in the buffer, one behind the other.
use mathlib.Core.Path.{◌≡◌}
use Prim.Native.Nat.{◌≤◌, ◌-◌}
use lib.ListN.{length}
use Rattle.spec.specs.Nodes.{read_leaves}
use Rattle.ask_files.specs.ReplyLaws.{Replied}
use Rattle.ask_replies.proofs.write_replies.Given as goal

abbrev pub invariant-loop-at : goal.invariant-loop-at
invariant-loop-at l = (l.at ≤ length l.file) × Replied l.image.frame.hash_width (read_leaves l.image.bytes.now) l.file l.initial.out l.at l.to l.out × (length l.key ≡ 64)

abbrev pub decreases-loop-at : goal.decreases-loop-at
decreases-loop-at l = length l.file - l.at
