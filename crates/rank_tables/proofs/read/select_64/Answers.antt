use mathlib.Core.Path.{sym}
use Prim.Native.Nat.{◌/◌}
use native.Mathlib.Omega.{arith}
use Rattle.bits_select.specs.SelectLaws.{select_all}
use Rattle.rank_tables.proofs.read.select_64.Goals as goal

pub returns-then-m-total : goal.returns-then-m-total
returns-then-m-total c =
    let a = c.args in
    let p = c.requires in
    (sym (select_all a.bits.now a.n a.m (omega arith)), omega arith)

pub read32-from-requires : goal.read32-from-requires
read32-from-requires c =
    let a = c.args in
    let p = c.requires in
    omega (arith, (p.2 (a.m / 64) (omega arith)).0)
