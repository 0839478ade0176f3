-- The 64 entries are judged by one number of 64 digits, which is 0 where each is valid.
use mathlib.Core.Path.{refl}
use Prim.Native.Nat.{◌*◌, ◌^◌, ◌<◌}
use Rattle.bits.proofs.ValueLaws.{Small, word_lt}
use Rattle.check_levels.specs.MaskLaws.{mask}
use Rattle.check_trie.specs.WordEntries.{ascends, next_bits_lt, word_judged, word_ascends, word_lasts}
use Rattle.check_trie.specs.FlagLaws.{none_descends}
use Rattle.check_trie.proofs.sparse.word_valid.Goals as goal

pub returns-then-y-eq0 : goal.returns-then-y-eq0
returns-then-y-eq0 c =
    let read64 = c.read64-x in
    let read_word = c.read_word in
    let shift_in = c.shift_in-y in
    let a = c.args in
    let small₁ : Small a.bodies.now.labels.now = λ i. (a.bodies.now.in_range i).0 in
    let small₂ : Small a.bodies.now.children.now = λ i. (a.bodies.now.in_range i).1 in
    let small₃ : Small a.bodies.now.starts.now = λ i. (a.bodies.now.in_range i).2 in
    word_lasts a.bodies.now.labels.now a.bodies.now.children.now a.bodies.now.starts.now small₁ small₂ small₃ a.q read64.result read_word.result shift_in.result c.read64-c.result
    read64.ensures read_word.ensures shift_in.ensures c.read64-c.ensures c.if-y-eq0.true

pub returns-then-descents_within : goal.returns-then-descents_within
returns-then-descents_within c =
    let read64 = c.read64-x in
    let read_word = c.read_word in
    let shift_in = c.shift_in-y in
    let read642 = c.read64-c in
    let a = c.args in
    let small₁ : Small a.bodies.now.labels.now = λ i. (a.bodies.now.in_range i).0 in
    let small₂ : Small a.bodies.now.children.now = λ i. (a.bodies.now.in_range i).1 in
    let small₃ : Small a.bodies.now.starts.now = λ i. (a.bodies.now.in_range i).2 in
    let few : shift_in.result < 2 ^ 64 = rw shift_in.ensures (next_bits_lt read64.result read_word.result (rw read64.ensures (word_lt a.bodies.now.starts.now (a.q * 8)))) in
    word_ascends a.bodies.now.labels.now a.bodies.now.children.now a.bodies.now.starts.now small₁ small₂ small₃ a.q read64.result read_word.result shift_in.result read642.result
    read64.ensures read_word.ensures shift_in.ensures read642.ensures (mask (ascends a.bodies.now.labels.now (64 * a.q)) 64) refl
    (none_descends a.bodies.now.labels.now (64 * a.q) shift_in.result few (c.descents_within.ensures c.if-descents_within.true))

pub returns : goal.returns
returns c =
    let read64 = c.read64-x in
    let read_word = c.read_word in
    let shift_in = c.shift_in-y in
    let read642 = c.read64-c in
    let ascents = c.ascents in
    let a = c.args in
    let small₁ : Small a.bodies.now.labels.now = λ i. (a.bodies.now.in_range i).0 in
    let small₂ : Small a.bodies.now.children.now = λ i. (a.bodies.now.in_range i).1 in
    let small₃ : Small a.bodies.now.starts.now = λ i. (a.bodies.now.in_range i).2 in
    word_judged a.bodies.now.labels.now a.bodies.now.children.now a.bodies.now.starts.now small₁ small₂ small₃ a.q read64.result read_word.result shift_in.result read642.result
    read64.ensures read_word.ensures shift_in.ensures read642.ensures ascents.result c.full_labels.result ascents.ensures c.full_labels.ensures
