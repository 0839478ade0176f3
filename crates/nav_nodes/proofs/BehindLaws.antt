-- The numbers of what lies behind a branch at a position are below half of what a usize holds.
use Prim.Native.Nat.{ℕ, ◌+◌, ◌-◌, ◌<◌, ◌≤◌}
use native.Mathlib.Omega.{arith}
use lib.ListN.{drop}
use Rattle.bits.specs.Bits.{rank}
use Rattle.bits.proofs.RankLaws.{rank_le}
use Rattle.spec.specs.Bytes.{Bytes}
use Rattle.image.specs.declared.Frame.{Frame}
use Rattle.nav_nodes.specs.Accepted.{nodes}
use Rattle.nav_nodes.specs.FoundBranch.{IsPosition}
use Rattle.nav_nodes.specs.NumberBounds.{leaves_all}
use Rattle.nav_nodes.specs.Positions.{few_children, dense_totals}

module _ (s : Bytes) (f : Frame) (m p : ℕ) (here : IsPosition s f m p) where
  -- Of a dense node: the continuing branches before its branch,
  pub dense_child_room : m < f.dense.nodes → rank (drop f.dc s) p < 9223372036854775808
  dense_child_room h = omega (arith, rank_le (drop f.dc s) p, (here.within.dense h).0, here.accepted.dense_size, here.accepted.writable.few_dense)

  -- and the labels and exact leaves.
  pub dense_slot_room : m < f.dense.nodes → rank (drop f.dl s) p + rank (drop f.dp s) (m + 1) < 9223372036854775808
  dense_slot_room h = omega (arith, rank_le (drop f.dl s) p, rank_le (drop f.dp s) (m + 1), (here.within.dense h).0, here.accepted.dense_size, here.accepted.writable.few_dense)

  -- Of a sparse node: the continuing branches before its branch,
  pub sparse_child_room : f.dense.nodes ≤ m → f.totals.children + rank (drop f.sc s) p < 9223372036854775808
  sparse_child_room h =
      omega (arith, (dense_totals s f here.accepted).0, few_children s f here.accepted f.dense.nodes (omega arith), rank_le (drop f.sc s) p, here.within.sparse h, here.accepted.entry_size, here.accepted.writable.few_entries)

  -- and the leaves.
  pub sparse_slot_room : f.dense.nodes ≤ m → (f.totals.children ≤ f.totals.entries) × (rank (drop f.sc s) p ≤ p) × (f.totals.entries - f.totals.children + p < 9223372036854775808)
  sparse_slot_room h =
      let w = here.accepted.writable in
      let t = (dense_totals s f here.accepted).1 in
      (omega (arith, t), rank_le (drop f.sc s) p, omega (arith, t, leaves_all (nodes s f) f.dense.nodes, w.leaf_total, w.few, here.within.sparse h, w.few_entries, here.accepted.entry_size))
