-- The digits of the word are the bits, and those of its half the bits behind them.
use mathlib.Core.Path.{sym}
use Prim.Native.Nat.{◌+◌, ◌*◌}
use Rattle.bits.proofs.ValueLaws.{Small}
use Rattle.check_slots.specs.SparseWords.{starts_are}
use Rattle.check_slots.specs.WordDigits.{bit_low}
use Rattle.check_slots.proofs.node_starts.several.Goals as goal

pub returns : goal.returns
returns c =
    let a = c.args in
    let small : Small a.sb.now = λ i. (c.shared_slice_known-2-1.given i).fits in
    rw (c.lone.ensures, c.from.ensures) (starts_are a.sb.now small a.q _ _ c.read64.ensures (sym (bit_low a.sb.now (a.q * 8 + 8))))
