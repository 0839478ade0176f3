-- The loop: no label before the position is above the greatest.
use Prim.Native.Nat.{ℕ, ◌+◌, ◌≤◌, ◌<◌}
use native.Mathlib.Omega.{arith}
use lib.ListN.{get_or}
use borrow.Author.Count.{below_more}
use borrow.Author.Tests.{ltb-true}
use Rattle.spec.specs.Bytes.{Bytes}
use Rattle.check_slots.proofs.node_starts.none_full.Goals.{then-greatest-label, else-greatest-label}
use Rattle.check_slots.proofs.node_starts.none_full.Goals as goal

-- no label of those from `at` on, up to number i, is above g
abbrev AtMost : Bytes → ℕ → ℕ → ℕ → Type 0
AtMost sl at g i = (k : ℕ) → k < i → get_or sl (at + k) 0 ≤ g

-- one label more
one_more : (sl : Bytes) (at g h i : ℕ) → AtMost sl at g i → g ≤ h → get_or sl (at + i) 0 ≤ h → AtMost sl at h (i + 1)
one_more sl at g h i a l m = below_more (λ (k : ℕ). get_or sl (at + k) 0 ≤ h) i (λ k u. omega (arith, a k u)) m

pub loop-i-init : goal.loop-i-init
loop-i-init c =
    (omega arith, λ k l. absurd (omega arith))

pub overflow_add-label : goal.overflow_add-label
overflow_add-label c =
    omega arith

pub bounds-sl-at : goal.bounds-sl-at
bounds-sl-at c =
    omega arith

pub overflow_add-i : goal.overflow_add-i
overflow_add-i c =
    omega arith

pub loop-i-smaller : goal.loop-i-smaller
loop-i-smaller c =
    omega arith

pub loop-i-preserved : goal.loop-i-preserved
loop-i-preserved c =
    let a = c.args in
    let l = c.loop-i in (
      omega arith,
      elim c.if-greatest-label.branch [
        | then-greatest-label w ↦ one_more a.sl.now a.at l.greatest c.if-greatest-label.greatest l.i l.invariant.1 (omega arith) (omega arith)
        | else-greatest-label w ↦ one_more a.sl.now a.at l.greatest c.if-greatest-label.greatest l.i l.invariant.1 (omega arith) (omega arith)
      ],
    )

pub returns : goal.returns
returns c t i h =
    let l = c.loop-i in
    omega (arith, ltb-true l.greatest 255 t, l.invariant.1 i (omega arith))
