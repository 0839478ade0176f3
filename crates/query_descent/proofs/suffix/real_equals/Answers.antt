use Rattle.bits.proofs.RankLaws.{one_shl}
use Rattle.nav_nodes.specs.Accepted.{nodes, real_slot}
use Rattle.nav_nodes.specs.FromCheck.{accepted}
use Rattle.nav_nodes.specs.Slots.{slot_of}
use Rattle.query_descent.specs.SuffixBytes.{real_length}
use Rattle.query_descent.specs.SuffixBits.{suffix_same, suffix_none}
use Rattle.spec.specs.Bytes.{Bits, bit}
use lib.ListN.{drop}
use lib.Seq.{get_or-drop}
use mathlib.Core.Bool.{false}
use mathlib.Core.Path.{sym, ap, ◌∙◌}
use native.Mathlib.Omega.{arith}
use Rattle.query_descent.proofs.suffix.real_equals.Goals as goal

pub returns-then-image-eq0 : goal.returns-then-image-eq0
returns-then-image-eq0 c =
    let v = c.args.image.now in
    let m = c.args.slot.0 in
    let n = real_length v.bytes.now v.frame (accepted v) m c.requires.0 in
    sym (suffix_none (real_slot v.bytes.now v.frame m) (drop c.args.d c.args.key.now) (omega (arith, n, c.if-image-eq0.true)))

pub returns : goal.returns
returns c =
    let v = c.args.image.now in
    let p = accepted v in
    let s = v.bytes.now in
    let f = v.frame in
    let m = c.args.slot.0 in
    let t : Bits = slot_of f.width (nodes s f) m in
    let n = real_length s f p m c.requires.0 in
    let x = c.slot_bits-x in
    rw (one_shl 64 f.real_width (omega (arith, p.real_range)), c.real_number.ensures)
    (suffix_same (real_slot s f m) f.real_width c.args.d x.result c.args.key.now n
    (λ j l. x.ensures false j (omega (arith, p.width_is)) ∙ ap bit (sym (get_or-drop f.hash_width t j false))))
