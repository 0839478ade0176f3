-- The level is found by the tables, which are right; behind the last node stand all entries and all branches.
use mathlib.Core.Path.{◌≡◌, refl}
use Prim.Native.Nat.{ℕ, ◌+◌, ◌≤◌, ◌<◌}
use native.Mathlib.Omega.{arith}
use mir.Val.{Fits}
use mir.Syntax.{w64}
use Rattle.check_slots.specs.LastLevels.{level_end}
use Rattle.check_slots.specs.Tables.{indexed}
use Rattle.check_slots.proofs.last_levels.level_below.Goals as goal

node_fits : {d m : ℕ} (b : ℕ) → b + 1 ≤ d + m → d < 4294967296 → m < 4294967296 → Fits w64 (b + 1)
node_fits b h k l = record { fits = omega arith }

nodes_fit : {d n : ℕ} → d < 4294967296 → n < 4294967296 → Fits w64 (d + n)
nodes_fit h l = record { fits = omega arith }

-- a node behind a sparse one is sparse
still_sparse : {d n m : ℕ} → d ≤ n → n ≤ m → d ≤ m
still_sparse h l = omega arith

at_end : {m n : ℕ} → m ≤ n → n ≤ m → m ≡ n
at_end h l = omega arith

pub overflow_add-node : goal.overflow_add-node
overflow_add-node c =
    node_fits c.args.level.branches c.requires.2.to c.requires.0.frame.dense c.requires.0.frame.sparse

pub overflow_add-f : goal.overflow_add-f
overflow_add-f c =
    let o = c.requires.0.frame in nodes_fit o.dense o.sparse

pub level_by_tables-requires : goal.level_by_tables-requires
level_by_tables-requires c =
    (indexed c.args.image.now.bytes.now c.args.image.now.frame c.requires.0, still_sparse c.requires.3 c.requires.2.from, c.if-node-f.true)

pub returns : goal.returns
returns c =
    let e = at_end c.requires.2.to c.if-node-f.false in
    (level_end c.args.image.now.bytes.now c.args.image.now.frame c.requires.0 c.requires.1 _ e refl e, refl)
