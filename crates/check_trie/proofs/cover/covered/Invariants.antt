-- The loop: the words before q are covered.
use Prim.Native.Nat.{◌*◌, ◌≤◌}
use Rattle.bits.specs.Bits.{Covers}
use Rattle.check_trie.proofs.cover.covered.Given as goal

abbrev pub invariant-loop-q : goal.invariant-loop-q
invariant-loop-q l = (l.q ≤ l.w) × Covers l.xs l.ys (64 * l.q)
