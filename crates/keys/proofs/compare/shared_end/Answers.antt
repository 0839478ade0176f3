-- The word's bytes before its first difference are shared with all before the word, and no more.
use Prim.Native.Nat.{◌-◌}
use native.Mathlib.Omega.{arith}
use Rattle.keys.proofs.PrefixLaws.{shared_from, shared_same}
use Rattle.keys.proofs.compare.shared_end.Goals as goal

pub returns : goal.returns
returns c =
    let a = c.args in
    let s = shared_same a.p.now a.q.now in
    omega (arith, shared_from (a.n - 8) a.p.now a.q.now c.requires.2, s.1, s.2, c.equal_word.ensures)
