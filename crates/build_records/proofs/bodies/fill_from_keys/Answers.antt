-- The bytes are cleared, the cursors go to the levels' starts, and the pass leaves the body, or its bits flipped, which are flipped again.
use mathlib.Core.Path.{◌≡◌, sym, ◌∙◌}
use mathlib.Core.List.{[], append-nil}
use lib.ListN.{length, replicate}
use Rattle.build_laws.specs.PackedBody.{small_of}
use Rattle.build_records.specs.BodyWritten.{ready_list, empty_body, sums_small, pass_room, pass_leaves, flip_room, body_again, body_whole}
use Rattle.build_records.specs.Plan.{list_body}
use Rattle.std.proofs.Common.{eqb-true}
use native.Mathlib.Omega.{arith}
use borrow.Author.Rules.{rules}
use Rattle.build_records.proofs.bodies.fill_from_keys.Goals as goal

pub returns-then-is_empty : goal.returns-then-is_empty
returns-then-is_empty c =
    let a = c.args in
    empty_body (list_body a.list.now a.plan a.body) a.out.now c.requires.size (eqb-true (length a.out.now) 0 (sym c.is_empty.ensures ∙ c.if-is_empty.true))

pub set_offsets-requires : goal.set_offsets-requires
set_offsets-requires c =
    let a = c.args in
    let w = c.requires in
    sums_small a.list.now a.plan w.planned a.body a.cnt.now w.counted _ c.level_range-levels.ensures

pub write_keys-requires : goal.write_keys-requires
write_keys-requires c =
    let a = c.args in
    let w = c.requires in
    let starts = c.set_offsets in
    record {
      accepted_list = (ready_list a.list.now a.plan w.planned, w.planned.ready.built.hash_range, w.planned.ready.built.real_range);
      pass_room = pass_room a.list.now a.plan w.planned a.body a.cnt.now w.counted _ c.level_range-levels.ensures starts.new.cur starts.ensures.1 starts.ensures.0
          (length c.fill.new.self) (omega (arith, w.size, c.fill.auto.self));
    }

pub flip-requires : goal.flip-requires
flip-requires c =
    let a = c.args in
    let w = c.requires in
    flip_room a.list.now a.plan w.planned a.body (length c.write_keys.new.out) (sym c.leaves_flipped.ensures ∙ c.if-leaves_flipped.true) (omega (arith, w.size, c.fill.auto.self, c.write_keys.auto.out))

pub returns-then-leaves_flipped : goal.returns-then-leaves_flipped
returns-then-leaves_flipped c =
    let a = c.args in
    let w = c.requires in
    let starts = c.set_offsets in
    let o = c.write_keys.new.out in
    let cleared : c.fill.new.self ≡ replicate (length a.out.now) 0 = search rules in
    body_again a.list.now a.plan w.planned a.body [] o _ (sym c.leaves_flipped.ensures ∙ c.if-leaves_flipped.true)
    (pass_leaves a.list.now a.plan w.planned a.body a.cnt.now w.counted _ c.level_range-levels.ensures starts.new.cur starts.ensures.1 starts.ensures.0
    (length a.out.now) [] o _ w.size (small_of o (λ i. search rules)) tt (cleared ∙ sym (append-nil _)) c.write_keys.ensures)
    c.flip.ensures ∙ append-nil _

pub returns-else-leaves_flipped : goal.returns-else-leaves_flipped
returns-else-leaves_flipped c =
    let a = c.args in
    let w = c.requires in
    let starts = c.set_offsets in
    let o = c.write_keys.new.out in
    let cleared : c.fill.new.self ≡ replicate (length a.out.now) 0 = search rules in
    body_whole a.list.now a.plan w.planned a.body [] o (sym c.leaves_flipped.ensures ∙ c.if-leaves_flipped.false)
    (pass_leaves a.list.now a.plan w.planned a.body a.cnt.now w.counted _ c.level_range-levels.ensures starts.new.cur starts.ensures.1 starts.ensures.0
    (length a.out.now) [] o _ w.size (small_of o (λ i. search rules)) tt (cleared ∙ sym (append-nil _)) c.write_keys.ensures)
    ∙ append-nil _
