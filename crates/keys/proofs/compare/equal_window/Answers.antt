use native.Mathlib.Omega.{arith}
use Rattle.keys.proofs.PrefixLaws.{shared_on, window_shared}
use Rattle.keys.proofs.compare.equal_window.Goals as goal

pub returns-then-second-lt8 : goal.returns-then-second-lt8
returns-then-second-lt8 c =
    let a = c.args in
    omega (arith, shared_on a.p.now a.q.now 0 c.requires.2, c.equal_word-second.ensures)

pub returns : goal.returns
returns c =
    let a = c.args in
    let second = c.equal_word-second in
    let behind = c.equal_with_rest-last in
    window_shared a.p.now a.q.now c.requires.2 (omega (arith, second.ensures)) _ _ _ behind.result c.equal_with_rest.result c.equal_word-3.ensures c.equal_word.ensures c.equal_word-2.ensures behind.ensures.1 behind.ensures.2 c.equal_with_rest.ensures.1 c.equal_with_rest.ensures.2
