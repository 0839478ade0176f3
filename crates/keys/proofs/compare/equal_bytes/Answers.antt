use Prim.Native.Nat.{◌*◌, ◌/◌}
use native.Mathlib.Omega.{arith}
use Rattle.keys.proofs.PrefixLaws.{xor_same, xor_differ}
use lib.Count.{trailing_le, count_trailing_zeros}
use lib.Bits.{bit_xor}
use Rattle.keys.proofs.compare.equal_bytes.Goals as goal

pub returns : goal.returns
returns c =
    let z = bit_xor c.args.x c.args.y in
    (omega (arith, trailing_le 64 z), xor_same c.args.x c.args.y (8 * (count_trailing_zeros 64 z / 8)) (omega arith), xor_differ c.args.x c.args.y)
