-- No bit stands behind the last word.
use mathlib.Core.Path.{sym, ap, ◌∙◌}
use Prim.Native.Nat.{ℕ, ◌+◌, ◌*◌, ◌%◌}
use lib.ListN.{get_or-eq_default}
use Rattle.bits.proofs.ValueLaws.{Small}
use Rattle.check_slots.specs.SparseWords.{starts_are}
use Rattle.check_slots.specs.WordDigits.{bit_low}
use Rattle.check_slots.proofs.node_starts.last_several.Goals as goal

pub returns : goal.returns
returns c =
    let a = c.args in
    let p = c.requires in
    let small : Small a.sb.now = λ i. (c.shared_slice_known-1.given i).fits in
    rw c.lone.ensures (starts_are a.sb.now small a.q _ 0 c.read_word.ensures (sym (bit_low a.sb.now (a.q * 8 + 8) ∙ ap (λ (n : ℕ). n % 2) (get_or-eq_default a.sb.now 0 p.1))))
