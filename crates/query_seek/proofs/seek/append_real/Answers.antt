use Rattle.query_descent.specs.LowestKeys.{filling_none, filling_zero, filling_byte, filling_done}
use Rattle.nav_nodes.specs.FromCheck.{accepted}
use Rattle.query_seek.proofs.SeekLaws.{low_open}
use Rattle.query_descent.specs.SuffixBytes.{real_length}
use Rattle.nav_nodes.specs.Accepted.{real_slot}
use lib.ListN.{length-set}
use mathlib.Core.Logic.{inl, inr}
use native.Mathlib.Omega.{arith}
use mathlib.Core.Path.{◌∙◌}
use Rattle.query_seek.proofs.seek.append_real.Goals as goal
use Rattle.query_seek.proofs.seek.append_real.Goals.{then-x-ne0, else-x-ne0}

pub loop-i-init : goal.loop-i-init
loop-i-init c =
    let v = c.args.image.now in
    (c.requires.1, filling_none c.args.key.now c.args.depth (real_slot v.bytes.now v.frame c.args.slot.0))

pub returns-then-i-depth : goal.returns-then-i-depth
returns-then-i-depth c =
    let v = c.args.image.now in
    let a = c.args in
    let l = c.loop-i in
    let s = real_slot v.bytes.now v.frame a.slot.0 in
    let n = real_length v.bytes.now v.frame (accepted v) a.slot.0 c.requires.0 in
    let low = filling_done a.key.now l.key a.depth l.end l.i s l.invariant.1 (omega arith) (inl (omega arith)) in
    record { low_is = low_open v.bytes.now v.frame a.slot a.depth a.key.now _ (omega (arith, c.requires)) low; upto = omega arith; key_size = l.invariant.0 }

pub loop-i-preserved : goal.loop-i-preserved
loop-i-preserved c =
    let v = c.args.image.now in
    let a = c.args in
    let l = c.loop-i in
    let x = c.real_byte-x.result in
    let s = real_slot v.bytes.now v.frame a.slot.0 in
    let n = real_length v.bytes.now v.frame (accepted v) a.slot.0 c.requires.0 in (
      length-set l.key l.i x ∙ l.invariant.0,
      elim c.if-x-ne0.branch [
        | then-x-ne0 w ↦ rw w.end-is (filling_byte a.key.now l.key a.depth l.end l.i s l.invariant.1 x (omega arith) (omega arith) c.real_byte-x.ensures.0 w.if-x-ne0.true)
        | else-x-ne0 w ↦ rw w.end-is (filling_zero a.key.now l.key a.depth l.end l.i s l.invariant.1 x (omega arith) (omega arith) c.real_byte-x.ensures.0 (omega (arith, w.if-x-ne0.false)))
      ],
    )

pub returns : goal.returns
returns c =
    let v = c.args.image.now in
    let a = c.args in
    let l = c.loop-i in
    let s = real_slot v.bytes.now v.frame a.slot.0 in
    let low = filling_done a.key.now l.key a.depth l.end l.i s l.invariant.1 (omega arith) (inr (omega arith)) in
    record { low_is = low_open v.bytes.now v.frame a.slot a.depth a.key.now _ (omega (arith, c.requires)) low; upto = omega arith; key_size = l.invariant.0 }
