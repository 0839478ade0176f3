use Rattle.nav_nodes.specs.Accepted.{real_slot}
use Rattle.nav_nodes.specs.FromCheck.{accepted, all_bytes}
use Rattle.query_point.specs.StemLeaves.{agrees_ended, agrees_past, agrees_less, agrees_more, agrees_next}
use Rattle.query_descent.specs.SuffixBytes.{real_length}
use native.Mathlib.Omega.{arith}
use mathlib.Core.Path.{sym, ◌∙◌}
use Rattle.query_point.proofs.stem_suffix.real_agrees.Goals as goal

pub returns-then-i-d : goal.returns-then-i-d
returns-then-i-d c =
    let a = c.args in
    let v = a.image.now in
    let n = real_length v.bytes.now v.frame (accepted v) a.slot.0 c.requires.0 in
    sym (c.loop-i.invariant ∙ agrees_past (real_slot v.bytes.now v.frame a.slot.0) a.stem.now a.d c.loop-i.i (omega (arith, n)) (all_bytes a.stem.now (λ i. omega (arith, c.type_inv.stem i))))

pub returns-then-y-real_byte : goal.returns-then-y-real_byte
returns-then-y-real_byte c =
    let a = c.args in
    let v = a.image.now in
    sym (c.loop-i.invariant ∙ agrees_less (real_slot v.bytes.now v.frame a.slot.0) a.stem.now a.d c.loop-i.i (omega arith) (omega (arith, c.real_byte.ensures.0, c.from-y.ensures)))

pub returns-then-real_byte-y : goal.returns-then-real_byte-y
returns-then-real_byte-y c =
    let a = c.args in
    let v = a.image.now in
    sym (c.loop-i.invariant ∙ agrees_more (real_slot v.bytes.now v.frame a.slot.0) a.stem.now a.d c.loop-i.i (omega arith) (omega (arith, c.real_byte-in-loop-i.ensures.0, c.from-y.ensures)))

pub loop-i-preserved : goal.loop-i-preserved
loop-i-preserved c =
    let a = c.args in
    let v = a.image.now in
    c.loop-i.invariant ∙ agrees_next (real_slot v.bytes.now v.frame a.slot.0) a.stem.now a.d c.loop-i.i (omega arith) (omega arith)
    (omega (arith, c.real_byte.ensures.0, c.from-y.ensures)) (omega (arith, c.real_byte-in-loop-i.ensures.0, c.from-y.ensures))

pub returns : goal.returns
returns c =
    let a = c.args in
    let v = a.image.now in
    sym (c.loop-i.invariant ∙ agrees_ended (real_slot v.bytes.now v.frame a.slot.0) a.stem.now a.d c.loop-i.i (omega arith))
