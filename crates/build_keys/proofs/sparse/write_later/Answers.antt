-- The bit where the key leaves the key before it is set, and the cursors behind move on.
use Prim.Native.Nat.{ℕ, ◌-◌, ◌<◌}
use mathlib.Core.Path.{subst, refl, sym, ap, ap₂, ◌∙◌}
use mathlib.Core.Bool.{Bool}
use mathlib.Core.List.{List}
use native.Mathlib.Omega.{arith}
use lib.ListN.{length}
use Rattle.build_laws.specs.Emissions.{emission}
use Rattle.build_laws.specs.BytePass.{byte_state, one_step}
use Rattle.build_laws.specs.BodyLaws.{bit_at}
use Rattle.build_laws.specs.Cursors.{counts}
use Rattle.build_laws.specs.Passes.{set_at_cursor}
use Rattle.build_keys.specs.CountPass.{CounterRoom}
use Rattle.build_keys.specs.KeySparseBits.{blank, behind_level, later_room, later_cursors, later_cursors_only, later_does, later_none}
use Rattle.build_keys.proofs.sparse.write_later.Goals.{then-is_among, else-is_among}
use Rattle.build_keys.proofs.sparse.write_later.Goals as goal

pub put_bit-requires : goal.put_bit-requires
put_bit-requires c =
    let a = c.args in
    let k = a.k in
    let b = c.split_level-b in
    rw (behind_level k.first b.result) (later_room a.l k b.result _ b.ensures refl (omega (arith, b.ensures, c.requires.0.before)) (length a.out.now) a.cur.now c.requires.1 (sym c.is_among.ensures ∙ c.if-is_among.true))

pub move_on-requires : goal.move_on-requires
move_on-requires c =
    let a = c.args in
    let k = a.k in
    let b = c.split_level-b in
    let d = c.leaf_level in
    let i = c.if-is_among in
    let h : b.result < k.len = omega (arith, b.ensures, c.requires.0.before) in
    let told = sym c.is_among.ensures in
    let is = ap (λ (x : Bool). set_at_cursor one_step bit_at (emission b.result x) (byte_state a.out.now a.cur.now)) (behind_level k.first b.result) in
    elim c.if-is_among.branch [
      | then-is_among w ↦
          later_cursors a.l k b.result d.result b.ensures d.ensures.0 h c.max.result c.min.result c.max.ensures c.min.ensures (length a.out.now)
          a.out.now i.out a.cur.now i.cur c.requires.1 (told ∙ w.if-is_among.true) (ap₂ byte_state w.out-is w.cur-is ∙ w.put_bit.ensures ∙ is)
      | else-is_among w ↦
          subst (λ (z : List ℕ). CounterRoom one_step (blank c.max.result (c.min.result - c.max.result)) z) (sym w.cur-is)
          (later_cursors_only a.l k b.result d.result b.ensures d.ensures.0 h c.max.result c.min.result c.max.ensures c.min.ensures (length a.out.now) a.cur.now c.requires.1 (told ∙ w.if-is_among.false))
    ]

pub returns : goal.returns
returns c =
    let a = c.args in
    let k = a.k in
    let b = c.split_level-b in
    let d = c.leaf_level in
    let i = c.if-is_among in
    let h : b.result < k.len = omega (arith, b.ensures, c.requires.0.before) in
    let told = sym c.is_among.ensures in
    let is = ap (λ (x : Bool). set_at_cursor one_step bit_at (emission b.result x) (byte_state a.out.now a.cur.now)) (behind_level k.first b.result) in
    elim c.if-is_among.branch [
      | then-is_among w ↦
          later_does a.l k b.result d.result b.ensures d.ensures.0 h c.max.result c.min.result c.max.ensures c.min.ensures
          a.out.now i.out a.cur.now i.cur _ (told ∙ w.if-is_among.true) (ap₂ byte_state w.out-is w.cur-is ∙ w.put_bit.ensures ∙ is) c.move_on.ensures
      | else-is_among w ↦
          ap (λ (o : List ℕ). byte_state o c.move_on.new.cur) w.out-is
          ∙ later_none a.l k b.result d.result b.ensures d.ensures.0 h c.max.result c.min.result c.max.ensures c.min.ensures a.out.now a.cur.now _ (told ∙ w.if-is_among.false)
          (c.move_on.ensures ∙ ap (counts one_step (blank c.max.result (c.min.result - c.max.result))) w.cur-is)
    ]
