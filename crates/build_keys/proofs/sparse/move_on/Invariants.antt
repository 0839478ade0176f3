-- What is left to count stands from level d on.
use Prim.Native.Nat.{◌-◌}
use Rattle.build_laws.specs.Cursors.{counts}
use Rattle.build_laws.specs.BytePass.{one_step}
use Rattle.build_keys.specs.KeySparseBits.{blank}
use Rattle.build_keys.specs.EntryLaws.{ToCount}
use Rattle.build_keys.proofs.sparse.move_on.Given as goal

abbrev pub invariant-loop-d : goal.invariant-loop-d
invariant-loop-d l = ToCount one_step (blank l.d (l.to - l.d)) l.cur (counts one_step (blank l.from (l.to - l.from)) l.initial.cur)
