use mathlib.Core.Path.{◌≡◌, ap₂}
use Prim.Native.Nat.{◌+◌, ◌*◌, ◌/◌, ◌%◌}
use native.Mathlib.Omega.{arith}
use Rattle.bits.specs.Bits.{rank, select, select_in_byte}
use Rattle.bits_select.specs.TableLaws.{select_table_rule}
use Rattle.bits_select.proofs.byte_ones.select_in_pair.Goals as goal

-- the test of the whole table is computed here
pub returns : goal.returns
unfolding rank select
returns c =
    let a = c.args in
    let row : (8 * a.h + a.j) % 32 / 8 ≡ a.h = omega arith in
    let at : (8 * a.h + a.j) % 32 % 8 ≡ a.j = omega arith in
    rw (select_table_rule 32 (omega arith) (omega arith)) (ap₂ select_in_byte row at)
