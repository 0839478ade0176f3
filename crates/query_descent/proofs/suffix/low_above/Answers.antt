use Rattle.nav_nodes.specs.Accepted.{real_slot}
use Rattle.nav_nodes.specs.FromCheck.{accepted}
use Rattle.query_descent.specs.SuffixBytes.{real_length, low_whole, low_ended, low_byte_less, low_byte_more, low_byte_same}
use mathlib.Core.Logic.{inl, inr}
use mathlib.Core.Bool.{not}
use native.Mathlib.Omega.{arith}
use mathlib.Core.Path.{ap, ◌∙◌}
use Rattle.query_descent.proofs.suffix.low_above.Goals as goal

pub loop-i-init : goal.loop-i-init
loop-i-init c =
    let a = c.args in
    low_whole a.key.now a.d (real_slot a.image.now.bytes.now a.image.now.frame a.slot.0) c.requires.1

pub returns-then-i-d : goal.returns-then-i-d
returns-then-i-d c =
    let a = c.args in
    let v = a.image.now in
    let l = c.loop-i in
    let n = real_length v.bytes.now v.frame (accepted v) a.slot.0 c.requires.0 in
    l.invariant ∙ ap not (low_ended (real_slot v.bytes.now v.frame a.slot.0) a.key.now a.d l.i (omega arith) (inl (omega (arith, n))))

pub returns-then-y-x : goal.returns-then-y-x
returns-then-y-x c =
    let a = c.args in
    let l = c.loop-i in
    l.invariant ∙ ap not (low_byte_less (real_slot a.image.now.bytes.now a.image.now.frame a.slot.0) a.key.now a.d l.i (omega arith) (omega arith) (omega (arith, c.real_byte-x.ensures.0, c.byte_or_zero.ensures, c.from-y.ensures)))

pub returns-then-x-y : goal.returns-then-x-y
returns-then-x-y c =
    let a = c.args in
    let l = c.loop-i in
    l.invariant ∙ ap not (low_byte_more (real_slot a.image.now.bytes.now a.image.now.frame a.slot.0) a.key.now a.d l.i (omega arith) (omega arith) (omega (arith, c.real_byte-x.ensures.0, c.byte_or_zero.ensures, c.from-y.ensures)))

pub loop-i-preserved : goal.loop-i-preserved
loop-i-preserved c =
    let a = c.args in
    let l = c.loop-i in
    l.invariant ∙ ap not (low_byte_same (real_slot a.image.now.bytes.now a.image.now.frame a.slot.0) a.key.now a.d l.i (omega arith) (omega arith) (omega (arith, c.real_byte-x.ensures.0, c.byte_or_zero.ensures, c.from-y.ensures)))

pub returns : goal.returns
returns c =
    let a = c.args in
    let l = c.loop-i in
    l.invariant ∙ ap not (low_ended (real_slot a.image.now.bytes.now a.image.now.frame a.slot.0) a.key.now a.d l.i (omega (arith, c.requires)) (inr (omega arith)))
