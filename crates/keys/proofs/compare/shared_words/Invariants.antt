use Prim.Native.Nat.{◌-◌, ◌≤◌}
use Rattle.spec.specs.Bytes.{shared}
use Rattle.keys.proofs.compare.shared_words.Given as goal

abbrev pub invariant-loop-i : goal.invariant-loop-i
invariant-loop-i l = (l.i ≤ l.n) × (l.i ≤ shared l.p l.q)

abbrev pub decreases-loop-i : goal.decreases-loop-i
decreases-loop-i l = l.n - l.i
