use mathlib.Core.Path.{sym, ◌∙◌}
use Prim.Native.Nat.{◌*◌}
use native.Mathlib.Omega.{arith}
use Rattle.bits.specs.Bits.{rank}
use Rattle.bits.proofs.ValueLaws.{Small}
use Rattle.bits.proofs.RankLaws.{rank_up}
use Rattle.bits_select.specs.WordLaws.{rank_clear, select_word}
use Rattle.bits_select.specs.SelectLaws.{select_all}
use Rattle.bits_select.proofs.select.next_from.Goals as goal

pub returns-then-x-ne0 : goal.returns-then-x-ne0
returns-then-x-ne0 c =
    let a = c.args in
    let l = c.lowest_one in
    let small : Small a.s.now = λ i. (c.shared_slice_known-1.given i).fits in
    let word = c.read_word-x in
    c.min.ensures
    ∙ select_word a.s.now small c.loop-q.q 0 (64 * c.loop-q.q) word.result (omega arith) (omega (arith, word.ensures)) a.n (rank a.s.now (64 * a.from)) l.result (omega arith) (omega arith) (omega arith)

pub loop-q-preserved : goal.loop-q-preserved
loop-q-preserved c =
    let a = c.args in
    let small : Small a.s.now = λ i. (c.shared_slice_known-1.given i).fits in
    let word = c.read_word-x in
    (omega arith, rank_clear a.s.now small c.loop-q.q 0 (64 * c.loop-q.q) word.result (omega arith) (omega (arith, word.ensures)) (omega arith) (omega arith) ∙ c.loop-q.invariant.1)

pub returns : goal.returns
returns c =
    let a = c.args in
    sym (select_all a.s.now a.n (rank a.s.now (64 * a.from)) (omega (arith, rank_up a.s.now a.n (64 * c.loop-q.q) (omega arith))))
