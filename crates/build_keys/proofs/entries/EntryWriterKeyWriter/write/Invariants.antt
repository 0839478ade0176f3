-- What is left of the key's entries stands from level d on; an exact leaf comes last.
use Prim.Native.Nat.{max}
use Rattle.build_laws.specs.LevelEntries.{pred}
use Rattle.build_keys.specs.EntryLaws.{Left}
use Rattle.build_keys.proofs.entries.EntryWriterKeyWriter.write.Given as goal

abbrev pub invariant-loop-d : goal.invariant-loop-d
invariant-loop-d g l = Left g.B.EntryBody.kind l.s l.k l.self.levels (record { lo = max (pred l.k.first) l.self.levels.lo; hi = l.d-end }) l.initial.out l.initial.cur l.out l.cur l.d
