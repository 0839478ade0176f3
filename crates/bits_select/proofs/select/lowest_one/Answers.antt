use native.Mathlib.Numerals.{add-one}
use native.Mathlib.Omega.{arith}
use Rattle.bits_select.specs.WordLaws.{lowest, power_lt}
use Rattle.bits_select.proofs.select.lowest_one.Goals as goal

pub returns : goal.returns
returns c =
    let f = lowest 64 c.args.x c.requires (omega arith) in
    (f.0, rw add-one f.1, f.2, power_lt _ 64 c.args.x f.2 (omega arith))
