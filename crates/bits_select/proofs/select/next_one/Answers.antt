use mathlib.Core.Path.{ap, ◌∙◌}
use Prim.Native.Nat.{ℕ, ◌/◌, ◌%◌, ◌^◌}
use native.Mathlib.Omega.{arith}
use Rattle.bits.specs.Bits.{rank, select}
use Rattle.bits.proofs.ValueLaws.{Small}
use Rattle.bits_select.specs.SelectLaws.{select_behind, select_le}
use Rattle.bits_select.specs.WordLaws.{word_room, rank_clear, select_word}
use Rattle.bits_select.proofs.select.next_one.Goals as goal

pub overflow_add-from : goal.overflow_add-from
overflow_add-from c =
    let a = c.args in
    let r = word_room (a.from % 64) c.read_word.result c.lowest_one.result (omega arith) (omega arith) c.lowest_one.ensures.2 in
    omega arith

pub returns-then-x-ne0 : goal.returns-then-x-ne0
returns-then-x-ne0 c =
    let a = c.args in
    let l = c.lowest_one in
    let word = c.read_word in
    let j = a.from % 64 in
    let small : Small a.s.now = λ i. (c.shared_slice_known-1.given i).fits in
    let r = word_room j word.result l.result (omega arith) (omega arith) l.ensures.2 in
    (c.min.ensures ∙ select_word a.s.now small (a.from / 64) j a.from (word.result / 2 ^ j) (omega arith) (ap (λ (n : ℕ). n / 2 ^ j) word.ensures) a.n (rank a.s.now a.from) l.result r (omega arith) (omega arith), omega arith, omega arith)

pub returns : goal.returns
returns c =
    let a = c.args in
    let s = a.s.now in
    let word = c.read_word in
    let j = a.from % 64 in
    let small : Small s = λ i. (c.shared_slice_known-1.given i).fits in
    let z = rank_clear s small (a.from / 64) j a.from (word.result / 2 ^ j) (omega arith) (ap (λ (n : ℕ). n / 2 ^ j) word.ensures) (omega arith) (omega arith) in
    let e = c.next_from.ensures ∙ ap (select s a.n) z in
    (e, omega (arith, e, select_behind s a.n (rank s a.from) a.from (omega arith) (omega arith)), omega (arith, e, select_le s a.n (rank s a.from)))
