-- The records of the leaves passed stand at the front of the buffer.
use Rattle.std.proofs.Common.{◌≡◌, ◌+◌, ◌*◌, ◌/◌, length, ap, ◌∙◌, arith}
use Rattle.spec.specs.Nodes.{read_leaves}
use Rattle.spec.specs.WalkRecords.{record_size}
use Rattle.bits.specs.Bits.{overlaid}
use Rattle.image.specs.Value.{leaf_of}
use Rattle.nav_nodes.specs.FromCheck.{accepted}
use Rattle.walk_states.specs.Filling.{filled_none, filled_more, filled_full, filled_done}
use Rattle.walk_cursor.specs.Stands.{cursor_of}
use Rattle.walk_cursor.specs.Places.{leaf_total, leaf_read}
use Rattle.walk_states.specs.StateLaws.{can_step, record_is, writes_records}
use Rattle.walk_records.proofs.write_leaves.Goals as goal

pub loop-count-init : goal.loop-count-init
loop-count-init c =
    let w = c.args.from.now in
    let z : w.cursor.place + 0 ≡ w.cursor.place = omega arith in
    (omega arith, rw z c.requires.stands, filled_none (read_leaves w.image.bytes.now) w.cursor.place c.args.out.now)

pub overflow_add-from : goal.overflow_add-from
overflow_add-from c = omega (arith, c.loop-count.invariant.1.within, (accepted c.args.from.now.image).writable.few)

pub overflow_mul-result : goal.overflow_mul-result
overflow_mul-result c = omega (arith, c.loop-count.invariant.1.within, (accepted c.args.from.now.image).writable.few)

pub returns-then-from-count : goal.returns-then-from-count
returns-then-from-count c =
    let w = c.args.from.now in
    let l = c.loop-count in
    writes_records w c.requires c.args.out.now _ l.out
    (filled_done (read_leaves w.image.bytes.now) w.cursor.place c.args.out.now l.count l.out l.invariant.2 l.invariant.0 (omega (arith, leaf_total w.image.bytes.now w.image.frame (accepted w.image))))

pub advance-end-requires : goal.advance-end-requires
advance-end-requires c =
    let w = c.args.from.now in
    let l = c.loop-count in
    record { place = w.cursor.place + l.count; at = can_step (record { image = w.image; cursor = cursor_of l.trail l.end (w.cursor.place + l.count) }) (record { checked = c.requires.checked; stands = l.invariant.1 }) (omega (arith, c.if-from-count.false, l.invariant.1.within)) }

pub loop-count-preserved : goal.loop-count-preserved
loop-count-preserved c =
    let w = c.args.from.now in
    let l = c.loop-count in
    let at = can_step (record { image = w.image; cursor = cursor_of l.trail l.end (w.cursor.place + l.count) }) (record { checked = c.requires.checked; stands = l.invariant.1 }) (omega (arith, c.if-from-count.false, l.invariant.1.within)) in
    let leaf = leaf_of c.leaf_of.result in
    let found = (leaf_read w.image.bytes.now w.image.frame (cursor_of l.trail l.end (w.cursor.place + l.count)) at c.leaf_of.result c.leaf_of.ensures).leaf_is in
    let t = c.loop-count-test.true in
    let z : w.cursor.place + (l.count + 1) ≡ w.cursor.place + l.count + 1 = omega arith in (
      omega (arith, t),
      rw z (c.advance-end.ensures.stands (w.cursor.place + l.count) at),
      filled_more (read_leaves w.image.bytes.now) w.cursor.place c.args.out.now l.count l.out l.invariant.2 leaf _ (omega (arith, t)) found
          (c.write_record.ensures ∙ ap (overlaid l.out (record_size * l.count)) (record_is w.image.bytes.now w.image.frame (accepted w.image) (w.cursor.place + l.count) leaf found c.padded-l.result c.padded-l.ensures)),
    )

pub returns : goal.returns
returns c =
    let w = c.args.from.now in
    let l = c.loop-count in
    let e : l.count ≡ length c.args.out.now / record_size = omega (arith, l.invariant.0, c.loop-count-test.false) in
    rw (← e) (writes_records w c.requires c.args.out.now _ l.out (filled_full (read_leaves w.image.bytes.now) w.cursor.place c.args.out.now l.count l.out l.invariant.2 e))
