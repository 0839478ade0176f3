-- The tests of a record, in their order.
use mathlib.Core.Path.{sym, ap, ◌∙◌}
use Prim.Native.Nat.{ℕ, ◌+◌}
use mathlib.Core.List.{List}
use native.Mathlib.Omega.{arith}
use lib.ListN.{get_or}
use Rattle.image.specs.Records.{row_at, record_short, record_past, record_first, record_second, record_stands}
use Rattle.check_frame.proofs.record_end.Goals as goal

pub returns-then-left-lt-BEFORE_BODY : goal.returns-then-left-lt-BEFORE_BODY
returns-then-left-lt-BEFORE_BODY c =
    let a = c.args in record_short (row_at a.i) a.image.now a.at c.if-left-lt-BEFORE_BODY.true

pub returns-then-left-len : goal.returns-then-left-len
returns-then-left-len c =
    let a = c.args in
    record_past (row_at a.i) a.image.now a.at (rw (← c.read32-len.ensures.0) c.if-left-len.true)

pub returns-then-image-at : goal.returns-then-image-at
returns-then-image-at c =
    let a = c.args in
    record_first (row_at a.i) a.image.now a.at (λ q. c.if-image-at.true (q ∙ sym (ap (λ (z : List ℕ). get_or z 0 0) c.mark-mark.ensures)))

pub returns-then-image-at-2 : goal.returns-then-image-at-2
returns-then-image-at-2 c =
    let a = c.args in
    record_second (row_at a.i) a.image.now a.at (λ q. c.if-image-at-2.true (q ∙ sym (ap (λ (z : List ℕ). get_or z 1 0) c.mark-mark.ensures)))

pub returns : goal.returns
returns c =
    let a = c.args in
    let l = c.read32-len.ensures.0 in (
      record_stands (row_at a.i) a.image.now a.at (omega arith) (rw l at c.if-left-len.false)
          (c.if-image-at.false ∙ ap (λ (z : List ℕ). get_or z 0 0) c.mark-mark.ensures) (c.if-image-at-2.false ∙ ap (λ (z : List ℕ). get_or z 1 0) c.mark-mark.ensures),
      ap (λ (n : ℕ). a.at + 6 + n) l,
    )
