-- The loop's invariant: the records left, from where the loop is, stand up to the end, and all lengths agree if theirs do.
use Prim.Native.Nat.{ℕ, ◌+◌, ◌≤◌, ◌<◌}
use mathlib.Core.Path.{◌≡◌, refl, sym, ap, ◌∙◌}
use mathlib.Core.Bool.{true}
use mathlib.Core.Option.{some}
use native.Mathlib.Omega.{arith}
use lib.ListN.{length, drop}
use Rattle.spec.specs.Bytes.{Bytes}
use Rattle.spec.specs.Image.{rows}
use Rattle.image.specs.Header.{settings_of, counts_of}
use Rattle.image.specs.Records.{records_end, lengths_agree, row_at, stands, record_end, record_within, rows_from, rows_end, first_stands, end_more, agree_more, agree_not}
use Rattle.check_frame.proofs.lengths_valid.Goals as goal

module _ (s : Bytes) (i at e : ℕ) (h : i < 12) (l : at ≤ length s) (f : records_end (drop i rows) s at ≡ some e) where
  -- the next record stands
  next_stands : stands (row_at i) s at ≡ true
  next_stands = first_stands (row_at i) (drop (i + 1) rows) s at e (rw (rows_from i h) at f)

  -- it lies within the bytes
  next_within : (at + 6 ≤ length s) × (record_end s at ≤ length s)
  next_within = record_within (row_at i) s at l next_stands

pub loop-i-init : goal.loop-i-init
loop-i-init c =
    let r = c.requires.1 in (omega arith, r.long, (r.middle, r.twelve), refl)

pub overflow_add-at : goal.overflow_add-at
overflow_add-at c =
    let l = c.loop-i in
    let s = c.args.image.now in
    let w = next_within s l.i l.at l.invariant.2.0 c.loop-i-test.true l.invariant.1 l.invariant.2.1 in
    omega (arith, w.0)

pub read32-len-requires : goal.read32-len-requires
read32-len-requires c =
    let l = c.loop-i in
    let s = c.args.image.now in
    let w = next_within s l.i l.at l.invariant.2.0 c.loop-i-test.true l.invariant.1 l.invariant.2.1 in
    omega (arith, w.0)

pub body_size-requires : goal.body_size-requires
body_size-requires c =
    (c.requires.0, c.loop-i-test.true)

pub returns-then-len-body_size : goal.returns-then-len-body_size
returns-then-len-body_size c =
    let l = c.loop-i in
    let a = c.args in
    let h : l.i < 12 = c.loop-i-test.true in
    let n = agree_not (settings_of a.h) (counts_of a.h) (row_at l.i) (drop (l.i + 1) rows) a.image.now l.at (λ q. c.if-len-body_size.true (c.read32-len.ensures.0 ∙ q ∙ sym c.body_size.ensures.0)) in
    sym (l.invariant.3 ∙ rw (rows_from l.i h) n)

pub overflow_add-at-in-loop-i : goal.overflow_add-at-in-loop-i
overflow_add-at-in-loop-i c =
    let l = c.loop-i in
    let s = c.args.image.now in
    let w = next_within s l.i l.at l.invariant.2.0 c.loop-i-test.true l.invariant.1 l.invariant.2.1 in
    omega (arith, w.1, c.read32-len.ensures.0)

pub overflow_add-at-in-loop-i-2 : goal.overflow_add-at-in-loop-i-2
overflow_add-at-in-loop-i-2 c =
    let l = c.loop-i in
    let s = c.args.image.now in
    let w = next_within s l.i l.at l.invariant.2.0 c.loop-i-test.true l.invariant.1 l.invariant.2.1 in
    omega (arith, w.1, c.read32-len.ensures.0)

pub loop-i-preserved : goal.loop-i-preserved
loop-i-preserved c =
    let l = c.loop-i in
    let a = c.args in
    let s = a.image.now in
    let h : l.i < 12 = c.loop-i-test.true in
    let rest = drop (l.i + 1) rows in
    let p = next_stands s l.i l.at l.invariant.2.0 h l.invariant.1 l.invariant.2.1 in
    let w = next_within s l.i l.at l.invariant.2.0 h l.invariant.1 l.invariant.2.1 in
    let n : l.at + 6 + c.read32-len.result ≡ record_end s l.at = ap (λ (k : ℕ). l.at + 6 + k) c.read32-len.ensures.0 in
    let q = sym c.read32-len.ensures.0 ∙ c.if-len-body_size.false ∙ c.body_size.ensures.0 in (
      omega arith,
      rw n w.1,
      (l.invariant.2.0, rw n (sym (end_more (row_at l.i) rest s l.at p) ∙ rw (rows_from l.i h) at l.invariant.2.1)),
      rw n (l.invariant.3 ∙ rw (rows_from l.i h) (agree_more (settings_of a.h) (counts_of a.h) (row_at l.i) rest s l.at q)),
    )

pub returns : goal.returns
unfolding lengths_agree
returns c =
    let l = c.loop-i in
    let e : l.i ≡ 12 = omega arith in
    sym (l.invariant.3 ∙ rw (e, rows_end))
