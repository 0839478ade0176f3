-- Each turn counts one word more; a word has at most 64 ones, so at most one sample stands in it. Its entry is written in the part lent from the table's start.
use Prim.Native.Nat.{ℕ, ◌*◌, ◌-◌, min}
use mathlib.Core.Path.{◌≡◌}
use mathlib.Core.List.{List}
use Rattle.spec.specs.Bytes.{blocks}
use Rattle.bits.specs.Bits.{rank, select, part}
use Rattle.rank_tables.specs.Filling.{Filled}
use Rattle.rank_tables.proofs.sample_write.fill_samples.Given as goal

-- sample number i of the first bits of a body
abbrev samples : List ℕ → ℕ → ℕ → ℕ
samples body bits i = select body bits (64 * i)

abbrev pub invariant-loop-q : goal.invariant-loop-q
invariant-loop-q l = Filled l.initial.out l.from (l.end - l.from) l.table (samples (part l.initial.out l.from (l.end - l.from)) l.bits) l.t l.out × (l.ones ≡ rank (part l.initial.out l.from (l.end - l.from)) (min (64 * l.q) l.bits)) × (l.t ≡ blocks 64 l.ones)
