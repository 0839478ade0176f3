use native.Mathlib.Omega.{arith}
use Rattle.keys.proofs.PrefixLaws.{shared_from}
use Rattle.keys.proofs.compare.shared_words.Goals as goal

pub returns-then-k-lt8 : goal.returns-then-k-lt8
returns-then-k-lt8 c =
    let a = c.args in
    let l = c.loop-i in
    omega (arith, shared_from l.i a.p.now a.q.now l.invariant.1, c.equal_word-k.ensures)

pub loop-i-preserved : goal.loop-i-preserved
loop-i-preserved c =
    let a = c.args in
    let l = c.loop-i in
    (omega arith, omega (arith, shared_from l.i a.p.now a.q.now l.invariant.1, c.equal_word-k.ensures))
