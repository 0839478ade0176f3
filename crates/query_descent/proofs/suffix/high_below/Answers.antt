use Rattle.nav_nodes.specs.Accepted.{real_slot}
use Rattle.query_descent.specs.SuffixBytes.{high_whole, high_ended, high_byte_less, high_byte_more, high_byte_same}
use native.Mathlib.Omega.{arith}
use mathlib.Core.Path.{sym, ◌∙◌}
use Rattle.query_descent.proofs.suffix.high_below.Goals as goal

pub loop-i-init : goal.loop-i-init
loop-i-init c =
    let a = c.args in
    high_whole a.key.now a.d (real_slot a.image.now.bytes.now a.image.now.frame a.slot.0) c.requires.1

pub returns-then-x-y : goal.returns-then-x-y
returns-then-x-y c =
    let a = c.args in
    let l = c.loop-i in
    sym (l.invariant ∙ high_byte_less (real_slot a.image.now.bytes.now a.image.now.frame a.slot.0) a.key.now a.d l.i (omega arith) (omega arith) (omega (arith, c.requires.2)) (omega (arith, c.real_byte-x.ensures.0, c.from-y.ensures)))

pub returns-then-y-x : goal.returns-then-y-x
returns-then-y-x c =
    let a = c.args in
    let l = c.loop-i in
    sym (l.invariant ∙ high_byte_more (real_slot a.image.now.bytes.now a.image.now.frame a.slot.0) a.key.now a.d l.i (omega arith) (omega arith) (omega (arith, c.requires.2)) (omega (arith, c.real_byte-x.ensures.0, c.from-y.ensures)))

pub loop-i-preserved : goal.loop-i-preserved
loop-i-preserved c =
    let a = c.args in
    let l = c.loop-i in
    l.invariant ∙ high_byte_same (real_slot a.image.now.bytes.now a.image.now.frame a.slot.0) a.key.now a.d l.i (omega arith) (omega arith) (omega (arith, c.requires.2)) (omega (arith, c.real_byte-x.ensures.0, c.from-y.ensures))

pub returns : goal.returns
returns c =
    let a = c.args in
    let l = c.loop-i in
    sym (l.invariant ∙ high_ended (real_slot a.image.now.bytes.now a.image.now.frame a.slot.0) a.key.now a.d l.i (omega arith) (omega arith))
