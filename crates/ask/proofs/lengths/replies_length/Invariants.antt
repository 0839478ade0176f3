-- The replies to the questions passed are summed, and the sum stays small.
use Prim.Native.Nat.{◌≤◌, ◌-◌}
use lib.ListN.{length}
use Rattle.spec.specs.Nodes.{read_leaves}
use Rattle.ask_files.specs.ReplyLaws.{Measured}
use Rattle.ask.proofs.lengths.replies_length.Given as goal

abbrev pub invariant-loop-at : goal.invariant-loop-at
invariant-loop-at l = (l.at ≤ length l.file) × Measured l.image.frame.hash_width (read_leaves l.image.bytes.now) l.file l.at l.total

abbrev pub decreases-loop-at : goal.decreases-loop-at
decreases-loop-at l = length l.file - l.at
