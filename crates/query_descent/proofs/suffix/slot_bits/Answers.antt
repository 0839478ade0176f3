use Rattle.image.specs.Records.{tail_part}
use Rattle.nav_nodes.specs.Accepted.{nodes}
use Rattle.nav_nodes.specs.FromCheck.{accepted}
use Rattle.query_descent.specs.SuffixBytes.{slot_bit}
use Rattle.bits.specs.Bits.{bit_at, word}
use Rattle.bits.proofs.ValueLaws.{Small, small_drop, word_bit}
use lib.ListN.{drop}
use lib.Pow.{shr-shr}
use mathlib.Core.List.{List}
use mathlib.Core.Path.{◌≡◌, ap, ◌∙◌}
use Prim.Native.Nat.{ℕ, ◌+◌, ◌*◌, ◌/◌, ◌%◌, ◌^◌}
use native.Mathlib.Omega.{arith}
use Rattle.query_descent.proofs.suffix.slot_bits.Goals as goal

pub returns : goal.returns
returns c =
    let v = c.args.image.now in
    let p = accepted v in
    let w = p.writable in
    let s = v.bytes.now in
    let f = v.frame in
    let m = c.args.slot.0 in
    let sv = drop f.sv s in
    let k = m * f.width + c.args.i in
    let small : Small (drop f.sv s) = small_drop f.sv s v.in_range in
    let e = c.read_from.ensures ∙ ap (λ (z : List ℕ). word z (k / 8)) (tail_part s f.sv) in
    λ ones j l.
    let at : 8 * (k / 8) + (k % 8 + j) ≡ m * f.width + (c.args.i + j) = omega arith in
    ap (λ (n : ℕ). n % 2) (shr-shr c.read_from.result (k % 8) j) ∙ ap (λ (n : ℕ). n / 2 ^ (k % 8 + j) % 2) e
    ∙ word_bit sv small (k / 8) (k % 8 + j) (omega (arith, w.width_range)) ∙ ap (bit_at sv) at
    ∙ (slot_bit f.width (nodes s f) sv w.wide p.SV.1 m (omega (arith, c.requires.0, w.leaf_total)) ones (c.args.i + j) l).1
