-- The parts of the record, one behind the other.
use mathlib.Core.Path.{◌≡◌, ◌∙◌}
use native.Mathlib.Omega.{arith}
use lib.ListN.{length, length-set}
use Rattle.walk_cursor.specs.LeafValues.{record_overlaid}
use Rattle.walk_records.proofs.write_record.Goals as goal

pub bounds-out-at-2 : goal.bounds-out-at-2
bounds-out-at-2 c =
    simp length-set (omega arith)

pub write_bytes-requires : goal.write_bytes-requires
write_bytes-requires c =
    let cut_length : length c.args.l.cut ≡ 64 = c.well_formed.1.1.0.1.1.0.1.0.1 in
    simp length-set (omega (arith, cut_length))

pub write32-requires : goal.write32-requires
write32-requires c =
    omega (arith, simp length-set at c.write_bytes.auto.out)

pub shape_of-out : goal.shape_of-out
shape_of-out c =
    c.write32.auto.s ∙ simp length-set at c.write_bytes.auto.out

pub returns : goal.returns
returns c =
    let cut_length : length c.args.l.cut ≡ 64 = c.well_formed.1.1.0.1.1.0.1.0.1 in
    let a = c.args in
    let keyed = c.write_bytes in
    record_overlaid a.out.now a.at a.l keyed.new.out _ c.requires.within cut_length (rw (← c.kind_byte.ensures) keyed.ensures) c.write32.ensures
