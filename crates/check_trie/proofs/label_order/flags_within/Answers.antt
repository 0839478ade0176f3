-- The loop: each label passed that is flagged has its digit, or a bit is found.
use mathlib.Core.Path.{◌≡◌, sym, ap, ◌∙◌}
use Prim.Native.Nat.{ℕ, ◌+◌, ◌*◌, ◌/◌, ◌^◌}
use native.Mathlib.Omega.{arith}
use lib.Pow.{shr-shr}
use lib.Bits.{bit_and}
use borrow.Author.Tests.{eqb-true}
use Rattle.bits.proofs.ValueLaws.{Small}
use Rattle.check_trie.specs.FlagLaws.{diagonal, found_more, none_found}
use Rattle.check_trie.proofs.label_order.flags_within.Goals as goal

pub loop-k-init : goal.loop-k-init
loop-k-init c =
    (omega arith, omega arith, λ i h. absurd (omega arith))

pub loop-k-preserved : goal.loop-k-preserved
loop-k-preserved c =
    let l = c.loop-k in
    let a = c.args in
    let small : Small a.flags.now = λ i. (c.shared_slice_known-1.given i).fits in
    let e : 8 * (l.k + 1) ≡ 8 * l.k + 8 = omega arith in (
      omega arith,
      ap (λ (n : ℕ). n / 256) l.invariant.1 ∙ shr-shr a.y (8 * l.k) 8 ∙ ap (λ (n : ℕ). a.y / 2 ^ n) (sym e),
      rw c.read64.ensures (found_more a.flags.now small a.y l.rest l.found l.k l.invariant.1 l.invariant.2),
    )

pub returns : goal.returns
returns c =
    let l = c.loop-k in
    let a = c.args in
    let e : 8 * l.k ≡ 64 = omega arith in
    λ z. none_found a.flags.now a.y l.found (rw e at l.invariant.2) (eqb-true (bit_and l.found diagonal) 0 z)
