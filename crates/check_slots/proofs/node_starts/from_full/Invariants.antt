-- The loop: what is left of the starts has all those with the label FF.
use Rattle.check_slots.specs.SparseWords.{FullKept}
use Rattle.check_slots.proofs.node_starts.from_full.Given as goal

abbrev pub invariant-loop-rest : goal.invariant-loop-rest
invariant-loop-rest l = FullKept l.sl l.q l.starts l.rest

abbrev pub decreases-loop-rest : goal.decreases-loop-rest
decreases-loop-rest l = l.rest
