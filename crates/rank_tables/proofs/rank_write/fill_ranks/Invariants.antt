-- Each turn counts on to the next block and writes its entry in the part lent from the table's start.
use mathlib.Core.Path.{◌≡◌}
use mathlib.Core.List.{List}
use Prim.Native.Nat.{ℕ, ◌*◌, ◌-◌, ◌≤◌}
use Rattle.bits.specs.Bits.{rank, part}
use Rattle.rank_tables.specs.Filling.{Filled}
use Rattle.rank_tables.proofs.rank_write.fill_ranks.Given as goal

-- rank number i of a body
abbrev ranks : List ℕ → ℕ → ℕ → ℕ
ranks body words i = rank body (64 * words * i)

abbrev pub invariant-loop-b : goal.invariant-loop-b
invariant-loop-b l = Filled l.initial.out l.from (l.end - l.from) l.table (ranks (part l.initial.out l.from (l.end - l.from)) l.words) l.b l.out × (l.q ≤ l.words * l.b) × (l.r ≡ rank (part l.initial.out l.from (l.end - l.from)) (64 * l.q))
