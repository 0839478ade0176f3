-- Each turn counts one word; where a block starts with it, the ones before it are compared with the block's entry.
use Prim.Native.Nat.{ℕ, ◌*◌, ◌≤◌, min}
use mathlib.Core.Path.{◌≡◌}
use Rattle.spec.specs.Bytes.{Bytes, blocks}
use Rattle.bits.specs.Bits.{rank}
use Rattle.rank_tables.specs.TableEntries.{table_entry_right, all_below}
use Rattle.rank_tables.proofs.rank_compare.count_ranks.Given as goal

-- entry i is the ones before block i
abbrev ranks : Bytes → ℕ → ℕ → ℕ
ranks body words b = rank body (64 * words * b)

abbrev pub invariant-loop-q : goal.invariant-loop-q
invariant-loop-q l = (l.ones ≡ rank l.body (min (64 * l.q) l.n)) × (l.b ≤ blocks (64 * l.words) l.n) × (l.start ≡ l.words * l.b) × (l.q ≤ l.start) × (l.agrees ≡ all_below (table_entry_right (ranks l.body l.words) l.table) l.b)
