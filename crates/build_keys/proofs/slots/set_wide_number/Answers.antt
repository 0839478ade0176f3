-- A number below 2^16 has no ones behind its low 16 bits.
use mathlib.Core.Path.{◌≡◌, sym, ap, ◌∙◌}
use Prim.Native.Nat.{◌+◌, ◌/◌, ◌%◌}
use native.Mathlib.Omega.{arith}
use Rattle.spec.specs.Bytes.{Bytes}
use Rattle.bits.specs.Bits.{with_number}
use Rattle.build_keys.specs.SuffixLaws.{no_number}
use Rattle.build_keys.proofs.slots.set_wide_number.Goals as goal

pub returns-else-v-ge-NUMBER_LIMIT : goal.returns-else-v-ge-NUMBER_LIMIT
returns-else-v-ge-NUMBER_LIMIT c =
    let a = c.args in
    let o : Bytes = with_number a.out.now a.i (a.v % 65536) in
    let none : 0 ≡ a.v / 65536 = omega arith in
    c.set_number.ensures ∙ sym (no_number o (a.i + 16)) ∙ ap (with_number o (a.i + 16)) none
