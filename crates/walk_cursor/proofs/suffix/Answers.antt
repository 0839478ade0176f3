use Prim.Native.Nat.{ℕ, ◌+◌}
use native.Mathlib.Omega.{arith}
use mathlib.Core.Bool.{false}
use mathlib.Core.Path.{◌≡◌, ap, ◌∙◌}
use lib.ListN.{drop, get_or}
use Rattle.spec.specs.Bytes.{bit}
use Rattle.nav_nodes.specs.FromCheck.{accepted}
use Rattle.nav_nodes.specs.Slots.{slot_of}
use Rattle.query_descent.specs.SuffixBytes.{slot_length}
use Rattle.nav_nodes.specs.Accepted.{nodes}
use Rattle.walk_cursor.specs.SuffixNumber.{number_bits}
use Rattle.walk_cursor.proofs.suffix.Goals as goal

pub returns-then-image-eq0 : goal.returns-then-image-eq0
returns-then-image-eq0 c =
    let a = c.args in
    let p = accepted a.image.now in
    let z = slot_length a.image.now.frame.width (nodes a.image.now.bytes.now a.image.now.frame) (drop a.image.now.frame.sv a.image.now.bytes.now) p.writable.wide p.SV.1 a.slot.0 (omega (arith, c.requires, p.writable.leaf_total)) in
    number_bits (slot_of a.image.now.frame.width (nodes a.image.now.bytes.now a.image.now.frame) a.slot.0) a.image.now.frame.width 0 z (λ j l. absurd (omega (arith, l, c.if-image-eq0.true)))

pub returns : goal.returns
returns c =
    let a = c.args in
    let p = accepted a.image.now in
    let z = slot_length a.image.now.frame.width (nodes a.image.now.bytes.now a.image.now.frame) (drop a.image.now.frame.sv a.image.now.bytes.now) p.writable.wide p.SV.1 a.slot.0 (omega (arith, c.requires, p.writable.leaf_total)) in
    number_bits (slot_of a.image.now.frame.width (nodes a.image.now.bytes.now a.image.now.frame) a.slot.0) a.image.now.frame.width c.slot_bits.result z
    (λ j l. let w : 0 + j ≡ j = omega arith in c.slot_bits.ensures false j (omega arith) ∙ ap (λ (i : ℕ). bit (get_or (slot_of a.image.now.frame.width (nodes a.image.now.bytes.now a.image.now.frame) a.slot.0) i false)) w)
