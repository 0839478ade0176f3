-- The bits in a row are those before its whole bytes, these, and the bits behind them.
use mathlib.Core.Path.{ap, ap₂, ◌∙◌}
use mathlib.Core.Bool.{Bool, ◌&&◌}
use Prim.Native.Nat.{ℕ, ◌*◌, ◌/◌}
use native.Mathlib.Omega.{arith}
use Rattle.spec.specs.Bytes.{Bytes}
use Rattle.check_slots.specs.SlotBits.{bits_clear, bits_parts}
use Rattle.check_slots.proofs.clear.bits_clear.Goals as goal

pub returns : goal.returns
returns c =
    let a = c.args in
    let s : Bytes = a.s.now in
    let first : ℕ = 8 * c.bytes_for-first.result in
    let last : ℕ = 8 * (a.to.0 / 8) in
    ap₂ ◌&&◌ (ap₂ ◌&&◌ c.few_clear-2.ensures c.bytes_clear.ensures) c.few_clear-3.ensures
    ∙ ap (λ (t : Bool). t && bits_clear s last a.to.0) (bits_parts s a.from.0 first last (omega arith) (omega arith))
    ∙ bits_parts s a.from.0 last a.to.0 (omega arith) (omega arith)
