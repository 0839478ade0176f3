use mathlib.Core.Path.{sym}
use mathlib.Core.List.{◌++◌}
use Prim.Native.Nat.{◌+◌, ◌≤◌}
use native.Mathlib.Omega.{arith}
use lib.ListN.{length, length-append, length-take}
use Rattle.spec.specs.Print.{decimal}
use Rattle.image.specs.Value.{leaf_of}
use Rattle.print_text.specs.Writing.{written_append, written_as}
use Rattle.print_text.specs.Texts.{cut_text, slot_text, line_is, length_pieces, length_line}
use Rattle.bits.proofs.UnpackLaws.{length_low_bits}
use Rattle.print_text.proofs.lines.write_line.Goals as goal

pub write_decimal-kind-requires : goal.write_decimal-kind-requires
write_decimal-kind-requires c =
    let room : c.args.at + length (decimal c.args.i) + length (cut_text (leaf_of c.args.l)) + length (slot_text (leaf_of c.args.l)) + 1 ≤ length c.args.out.now = let v = c.args.l in
    let k : length (leaf_of v).cut ≤ 64 = omega (arith, length-take v.len v.cut, c.requires.0) in
    let n : length (leaf_of v).suffix ≤ 32 = omega (arith, length_low_bits v.width v.suffix, c.requires.0) in
    omega (arith, length_pieces c.args.i (leaf_of v), length_line c.args.i (leaf_of v) c.requires.1 k n) in
    omega (arith, room)

pub write_cut-slot-requires : goal.write_cut-slot-requires
write_cut-slot-requires c =
    let room : c.args.at + length (decimal c.args.i) + length (cut_text (leaf_of c.args.l)) + length (slot_text (leaf_of c.args.l)) + 1 ≤ length c.args.out.now = let v = c.args.l in
    let k : length (leaf_of v).cut ≤ 64 = omega (arith, length-take v.len v.cut, c.requires.0) in
    let n : length (leaf_of v).suffix ≤ 32 = omega (arith, length_low_bits v.width v.suffix, c.requires.0) in
    omega (arith, length_pieces c.args.i (leaf_of v), length_line c.args.i (leaf_of v) c.requires.1 k n) in
    (c.requires.0, omega (arith, room))

pub write_slot-end-requires : goal.write_slot-end-requires
write_slot-end-requires c =
    let room : c.args.at + length (decimal c.args.i) + length (cut_text (leaf_of c.args.l)) + length (slot_text (leaf_of c.args.l)) + 1 ≤ length c.args.out.now = let v = c.args.l in
    let k : length (leaf_of v).cut ≤ 64 = omega (arith, length-take v.len v.cut, c.requires.0) in
    let n : length (leaf_of v).suffix ≤ 32 = omega (arith, length_low_bits v.width v.suffix, c.requires.0) in
    omega (arith, length_pieces c.args.i (leaf_of v), length_line c.args.i (leaf_of v) c.requires.1 k n) in
    (c.requires.0, omega (arith, room, c))

pub write_byte-requires : goal.write_byte-requires
write_byte-requires c =
    let room : c.args.at + length (decimal c.args.i) + length (cut_text (leaf_of c.args.l)) + length (slot_text (leaf_of c.args.l)) + 1 ≤ length c.args.out.now = let v = c.args.l in
    let k : length (leaf_of v).cut ≤ 64 = omega (arith, length-take v.len v.cut, c.requires.0) in
    let n : length (leaf_of v).suffix ≤ 32 = omega (arith, length_low_bits v.width v.suffix, c.requires.0) in
    omega (arith, length_pieces c.args.i (leaf_of v), length_line c.args.i (leaf_of v) c.requires.1 k n) in
    omega (arith, room)

pub returns : goal.returns
returns c =
    let room : c.args.at + length (decimal c.args.i) + length (cut_text (leaf_of c.args.l)) + length (slot_text (leaf_of c.args.l)) + 1 ≤ length c.args.out.now = let v = c.args.l in
    let k : length (leaf_of v).cut ≤ 64 = omega (arith, length-take v.len v.cut, c.requires.0) in
    let n : length (leaf_of v).suffix ≤ 32 = omega (arith, length_low_bits v.width v.suffix, c.requires.0) in
    omega (arith, length_pieces c.args.i (leaf_of v), length_line c.args.i (leaf_of v) c.requires.1 k n) in
    let l = leaf_of c.args.l in
    let d = decimal c.args.i in
    let r = room in
    let e = length-append d (cut_text l) in
    let number = c.write_decimal-kind.ensures in
    let cut = written_append (omega arith) number c.write_cut-slot.ensures in
    let slot = written_append (omega arith) cut c.write_slot-end.ensures in
    written_as (written_append (omega (arith, length-append (d ++ cut_text l) (slot_text l))) slot c.write_byte.ensures) (sym (line_is c.args.i l))
