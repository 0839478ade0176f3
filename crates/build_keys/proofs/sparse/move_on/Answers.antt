-- What is left to count stands from level d on.
use Prim.Native.Nat.{ℕ, ◌+◌, ◌-◌, ◌<◌}
use mathlib.Core.Path.{refl}
use native.Mathlib.Omega.{arith}
use Rattle.build_laws.specs.BytePass.{one_step}
use Rattle.build_keys.specs.KeySparseBits.{blank, blank_more, blank_none}
use Rattle.build_keys.specs.EntryLaws.{ToCount, count_next, count_done}
use mathlib.Core.Bool.{false}
use mathlib.Core.List.{List, ◌∷◌}
use Rattle.build_laws.specs.Emissions.{emission}
use Rattle.build_keys.proofs.sparse.move_on.Goals as goal

next : (d to : ℕ) (cur final : List ℕ) → d < to → ToCount one_step (blank d (to - d)) cur final → ToCount one_step (emission d false ∷ blank (d + 1) (to - (d + 1))) cur final
next d to cur final h t = rw (blank_more d to h) at t

pub loop-d-init : goal.loop-d-init
loop-d-init c =
    record { final_is = refl; room = c.requires }

pub offset_bounds-cur-d : goal.offset_bounds-cur-d
offset_bounds-cur-d c =
    let l = c.loop-d in
    let t = next l.d c.args.to l.cur _ c.loop-d-test.true l.invariant in
    omega (arith, t.room.0)

pub bounds-cur-d : goal.bounds-cur-d
bounds-cur-d c =
    let l = c.loop-d in
    let t = next l.d c.args.to l.cur _ c.loop-d-test.true l.invariant in
    omega (arith, t.room.0)

pub overflow_add-cur : goal.overflow_add-cur
overflow_add-cur c =
    let l = c.loop-d in
    let t = next l.d c.args.to l.cur _ c.loop-d-test.true l.invariant in
    omega (arith, t.room.1)

pub bounds-cur-d-in-loop-d : goal.bounds-cur-d-in-loop-d
bounds-cur-d-in-loop-d c =
    let l = c.loop-d in
    let t = next l.d c.args.to l.cur _ c.loop-d-test.true l.invariant in
    omega (arith, t.room.0)

pub loop-d-preserved : goal.loop-d-preserved
loop-d-preserved c =
    let l = c.loop-d in
    let t = next l.d c.args.to l.cur _ c.loop-d-test.true l.invariant in
    count_next one_step l.d false (blank (l.d + 1) (c.args.to - (l.d + 1))) l.cur _ _ refl t

pub returns : goal.returns
returns c =
    let l = c.loop-d in
    count_done one_step l.cur _ (rw (blank_none l.d c.args.to c.loop-d-test.false) at l.invariant)
