use Rattle.bits.proofs.RankLaws.{one_shl}
use Rattle.nav_nodes.specs.Accepted.{nodes, hash_slot}
use Rattle.nav_nodes.specs.FromCheck.{accepted}
use Rattle.nav_nodes.specs.Slots.{slot_of}
use Rattle.query_descent.specs.SuffixBytes.{hash_length}
use Rattle.query_descent.specs.SuffixBits.{number_same}
use Rattle.spec.specs.Bytes.{Bits, bit}
use Rattle.spec.specs.Leaves.{hash_bits}
use Rattle.theory.proofs.KeyLeaves.{length_hash_bits}
use lib.ListN.{get_or}
use lib.Seq.{get_or-take}
use mathlib.Core.Bool.{false}
use mathlib.Core.Path.{◌≡◌, sym, ap, ◌∙◌}
use Prim.Native.Nat.{ℕ, ◌+◌}
use native.Mathlib.Omega.{arith}
use Rattle.query_descent.proofs.suffix.hash_equals.Goals as goal

pub returns : goal.returns
returns c =
    let v = c.args.image.now in
    let p = accepted v in
    let s = v.bytes.now in
    let f = v.frame in
    let m = c.args.slot.0 in
    let k = c.args.key.now in
    let h = f.hash_width in
    let t : Bits = slot_of f.width (nodes s f) m in
    let x = c.slot_bits-x in
    rw (one_shl 64 h (omega (arith, p.hash_range)), c.hash_number.ensures)
    (number_same (hash_slot s f m) (hash_bits h k) h x.result (hash_length s f p m c.requires) (length_hash_bits h k)
    (λ j l. let z : 0 + j ≡ j = omega arith in x.ensures false j (omega (arith, p.width_is)) ∙ ap (λ (i : ℕ). bit (get_or t i false)) z ∙ ap bit (sym (get_or-take h t j false l))))
