use mathlib.Core.Path.{sym}
use Prim.Native.Nat.{◌%◌}
use Rattle.bits.proofs.RankLaws.{one_shl}
use native.Mathlib.Nat.{mod-lt, zero-lt-suc}
use Rattle.bits.proofs.BitLaws.{with_bit_is}
use Rattle.bits.proofs.ranks.set_bit.Goals as goal

pub returns : goal.returns
returns c =
    let a = c.args in
    rw (one_shl 8 (a.i % 8) (mod-lt a.i (zero-lt-suc 7))) (sym (with_bit_is a.out.now a.i))
