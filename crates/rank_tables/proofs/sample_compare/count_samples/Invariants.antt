-- Each turn counts one word more; where the ones pass the next multiple of 64, the word holds the next sample.
use Prim.Native.Nat.{◌*◌, min}
use mathlib.Core.Path.{◌≡◌}
use Rattle.spec.specs.Bytes.{blocks}
use Rattle.bits.specs.Bits.{rank}
use Rattle.rank_tables.specs.TableEntries.{all_below}
use Rattle.rank_tables.specs.Samples.{sampled}
use Rattle.rank_tables.proofs.sample_compare.count_samples.Given as goal

abbrev pub invariant-loop-q : goal.invariant-loop-q
invariant-loop-q l = (l.ones ≡ rank l.s (min (64 * l.q) l.n)) × (l.t ≡ blocks 64 l.ones) × (l.agrees ≡ all_below (sampled l.s l.n l.table) l.t)
