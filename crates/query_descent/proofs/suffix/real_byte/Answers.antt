use Rattle.nav_nodes.specs.Accepted.{nodes, real_slot}
use Rattle.nav_nodes.specs.FromCheck.{accepted}
use Rattle.query_descent.specs.SlotBits.{mirrored_reversed, byte_filled, byte_lt, fill_rest}
use Rattle.query_descent.specs.SuffixBytes.{real_past}
use Rattle.nav_nodes.specs.Slots.{slot_of}
use Rattle.spec.specs.Bytes.{Bits, bit}
use lib.ListN.{get_or, drop}
use lib.Seq.{get_or-drop}
use Prim.Native.Nat.{ℕ, ◌+◌, ◌-◌, ◌*◌, ◌/◌, ◌^◌}
use native.Mathlib.Omega.{arith}
use native.Mathlib.Nat.{add_assoc}
use mathlib.Core.Path.{sym, ap, ◌∙◌}
use Rattle.query_descent.proofs.suffix.real_byte.Goals as goal

pub returns-then-n-first : goal.returns-then-n-first
returns-then-n-first c =
    let a = c.args in
    let v = a.image.now in
    let t : Bits = real_slot v.bytes.now v.frame a.slot.0 in
    let past = real_past v.bytes.now v.frame (accepted v) a.slot.0 c.requires.0 a.ones in
    let r = fill_rest a.ones 8 (drop (8 * a.i) t) (λ j l. get_or-drop (8 * a.i) t j a.ones ∙ past (8 * a.i + j) (omega arith)) in
    (omega (arith, r, c.filled_below.ensures), omega (arith, r, c.filled_below.ensures, byte_lt a.ones (drop (8 * a.i) t)))

pub returns : goal.returns
returns c =
    let a = c.args in
    let v = a.image.now in
    let p = accepted v in
    let f = v.frame in
    let whole : Bits = slot_of f.width (nodes v.bytes.now f) a.slot.0 in
    let t : Bits = real_slot v.bytes.now f a.slot.0 in
    let past = real_past v.bytes.now f p a.slot.0 c.requires.0 a.ones in
    let n = c.min.result in
    let x = c.slot_bits-x in
    let r = byte_filled a.ones n (drop (8 * a.i) t) x.result (omega arith) (λ j l. x.ensures a.ones j (omega (arith, p.width_is)) ∙ ap (λ (m : ℕ). bit (get_or whole m a.ones)) (add_assoc f.hash_width (8 * a.i) j)
    ∙ ap bit (sym (get_or-drop (8 * a.i) t j a.ones ∙ get_or-drop f.hash_width whole (8 * a.i + j) a.ones))) (λ j l k. get_or-drop (8 * a.i) t j a.ones ∙ past (8 * a.i + j) (omega arith)) in
    let e = c.filled_below-2.ensures ∙ ap (λ (z : ℕ). z / 2 ^ (8 - n) * 2 ^ (8 - n) + bit a.ones * (2 ^ (8 - n) - 1)) (c.reversed.ensures.0 ∙ mirrored_reversed x.result) ∙ r in
    (e, omega (arith, e, byte_lt a.ones (drop (8 * a.i) t)))
