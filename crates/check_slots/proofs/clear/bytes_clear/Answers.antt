-- The loop: the bytes before i are zero where the greatest of them is.
use mathlib.Core.Path.{◌≡◌, refl, sym, ap, ◌∙◌}
use Prim.Native.Nat.{ℕ, ◌*◌}
use native.Mathlib.Omega.{arith}
use lib.ListN.{get_or}
use lib.Dec.{eqb}
use borrow.Author.Tests.{eq-eqb}
use Rattle.bits.specs.Bits.{rank}
use Rattle.bits.proofs.ValueLaws.{Small}
use Rattle.check_slots.specs.SlotBits.{bits_clear}
use Rattle.check_slots.specs.SlotWords.{byte_greater, byte_smaller}
use Rattle.check_slots.proofs.clear.bytes_clear.Goals.{then-greatest-byte, else-greatest-byte}
use Rattle.check_slots.proofs.clear.bytes_clear.Goals as goal

pub loop-i-init : goal.loop-i-init
loop-i-init c =
    (omega arith, omega arith, sym (eq-eqb (rank c.args.s.now (8 * c.args.from)) _ refl))

pub bounds-s-i : goal.bounds-s-i
bounds-s-i c =
    omega arith

pub overflow_add-i : goal.overflow_add-i
overflow_add-i c =
    omega arith

pub loop-i-smaller : goal.loop-i-smaller
loop-i-smaller c =
    omega arith

pub loop-i-preserved : goal.loop-i-preserved
loop-i-preserved c =
    let a = c.args in
    let l = c.loop-i in
    let small : Small a.s.now = λ i. (c.shared_slice_known-1.given i).fits in (
      omega arith,
      omega arith,
      elim c.if-greatest-byte.branch [
        | then-greatest-byte w ↦ let e : c.if-greatest-byte.greatest ≡ get_or a.s.now l.i 0 = omega arith in ap (λ (n : ℕ). eqb n 0) e ∙ byte_greater a.s.now small a.from l.i l.greatest l.invariant.0 l.invariant.2 (omega arith)
        | else-greatest-byte w ↦ let e : c.if-greatest-byte.greatest ≡ l.greatest = omega arith in ap (λ (n : ℕ). eqb n 0) e ∙ byte_smaller a.s.now small a.from l.i l.greatest l.invariant.0 l.invariant.2 (omega arith)
      ],
    )

pub returns : goal.returns
returns c =
    let a = c.args in
    let l = c.loop-i in
    let e : l.i ≡ a.to = omega arith in
    l.invariant.2 ∙ ap (λ (k : ℕ). bits_clear a.s.now (8 * a.from) (8 * k)) e
