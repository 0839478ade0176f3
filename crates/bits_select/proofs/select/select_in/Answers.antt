use mathlib.Core.Path.{ap, ◌∙◌}
use Prim.Native.Nat.{◌+◌, ◌*◌}
use native.Mathlib.Omega.{arith}
use lib.Count.{ones}
use Rattle.bits.specs.Bits.{rank}
use Rattle.bits.proofs.ValueLaws.{Small}
use Rattle.bits.proofs.RankLaws.{rank_whole_word}
use Rattle.bits_select.specs.WordLaws.{select_word}
use Rattle.bits_select.proofs.select.select_in.Goals as goal

pub select_by_halves-requires : goal.select_by_halves-requires
select_by_halves-requires c =
    let a = c.args in
    let small : Small a.s.now = λ i. (c.shared_slice_known-1.given i).fits in
    omega (arith, c.requires.2, (rank_whole_word a.s.now small a.q).0, ap ones c.read_word.ensures)

pub returns : goal.returns
returns c =
    let a = c.args in
    let t = c.select_by_halves in
    let word = c.read_word in
    let small : Small a.s.now = λ i. (c.shared_slice_known-1.given i).fits in
    (c.min.ensures ∙ select_word a.s.now small a.q 0 (64 * a.q) word.result (omega arith) (omega (arith, word.ensures)) a.n (rank a.s.now (64 * a.q) + a.m) t.result (omega arith) (omega arith) (omega arith), omega arith)
