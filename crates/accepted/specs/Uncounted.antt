-- The frame of an accepted image before its dense nodes are counted.
use Rattle.std.specs.Prelude.{ℕ, ◌+◌, ◌-◌, ◌*◌, ◌≤◌, ◌<◌, ◌≡◌, length, take, drop}
use Rattle.std.proofs.Math.Path.{ap}
use Rattle.std.proofs.Common.{arith, take_all}
use Rattle.spec.specs.Bytes.{Bytes}
use Rattle.spec.specs.Check.{verdict}
use Rattle.spec.specs.Nodes.{total, children_of}
use Rattle.spec.specs.Trie.{leaf_count}
use Rattle.bits.specs.Bits.{rank, select}
use Rattle.bits.proofs.RankLaws.{rank_le}
use Rattle.bits_select.specs.SelectLaws.{select_all}
use Rattle.image.specs.Header.{ReadsHeader}
use Rattle.image.specs.declared.Header.{Header}
use Rattle.image.specs.declared.DenseTotals.{DenseTotals}
use Rattle.image.specs.declared.Frame.{Frame}
use Rattle.theory.specs.Terms.{IsBytes}
use Rattle.check_frame.specs.FrameLaws.{frame_at, header_starts, uncounted, Totals, LaidOut, accepted_laid, laid_totals, laid_frame, frame_laid}
use Rattle.rank_tables.specs.Reading.{RankEntry, RankTable}
use Rattle.nav_nodes.specs.Accepted.{Accepted, nodes}
use Rattle.nav_nodes.specs.Slots.{leaves_before}
use Rattle.nav_nodes.specs.Descent.{children_before}
use Rattle.nav_nodes.specs.Positions.{before_sparse, dense_totals}
use Rattle.nav_nodes.specs.FoundBranch.{node_count}
use Rattle.image.specs.FrameOf.{FrameOf}
use Rattle.nav_nodes.specs.FromCheck.{checked_accepted}
use Rattle.nav_nodes.specs.Tables.{children_ranked, starts_sampled}
use Rattle.query_descent.specs.Followed.{node_length}

-- the frame f is that of a header, and with some totals it is the frame of the accepted image s
pub record Uncounted (s : Bytes) (f : Frame) : Type 0 where
  pub header : Header
  pub totals : DenseTotals
  pub frame_is : f ≡ frame_at header (header_starts header) uncounted
  pub accepted : Accepted s (frame_at header (header_starts header) totals)

module _ (s : Bytes) (f : Frame) (a : Accepted s f) where
  -- the sparse entries end with the last node
  last_end : select (drop f.sb s) f.sparse.entries (node_count f - f.dense.nodes) ≡ f.sparse.entries
  last_end = select_all (drop f.sb s) f.sparse.entries (node_count f - f.dense.nodes) (omega (arith, (starts_sampled s f a).1))

  -- the nodes before the last end are all
  all_nodes : take (node_count f) (nodes s f) ≡ nodes s f
  all_nodes = take_all (node_count f) (nodes s f) (omega (arith, node_length s f a))

  children_end : children_before (nodes s f) (node_count f) ≡ total children_of (nodes s f)
  unfolding children_before
  children_end = ap (total children_of) all_nodes

  leaves_end : leaves_before (nodes s f) (node_count f) ≡ leaf_count (nodes s f)
  unfolding leaves_before
  leaves_end = ap leaf_count all_nodes

  -- All entries together are a continuing branch for each node but the root, and one for each leaf.
  all_entries : 0 < node_count f → f.totals.entries + f.sparse.entries + 1 ≡ node_count f + f.leaves
  all_entries h =
      let q = before_sparse s f a (node_count f) (omega arith) (omega arith) in
      let d = dense_totals s f a in
      let r = ap (rank (drop f.sc s)) last_end in
      omega (arith, q.0, q.1, r, last_end, children_end, leaves_end, d.0, d.1, a.node_total h, a.writable.leaf_total, rank_le (drop f.sc s) f.sparse.entries)

-- where there is not no node, there is one
pub some_node : {n : ℕ} → (n ≡ 0 → ⊥) → 0 < n
some_node h = let z = h in omega arith

-- what is asked of the frame to count its dense nodes
module _ (s : Bytes) (f : Frame) (u : Uncounted s f) where
  -- nodes, entries and leaves are few
  pub few : (f.dense.nodes < 4294967296) × (f.sparse.nodes < 4294967296) × (f.leaves < 4294967296)
  few =
      let a = u.accepted in
      rw u.frame_is (omega (arith, a.writable.few_dense, a.dense_size), omega (arith, a.writable.few_sparse, a.sparse_size), omega (arith, a.writable.few))

  -- D-HasChild and its ranks
  pub children_at : (f.dc ≤ length s) × (f.rc ≤ length s) × RankTable 64 (256 * f.dense.nodes) (drop f.dc s) (drop f.rc s)
  children_at = let a = u.accepted in rw u.frame_is (a.DC.0, a.RC.0, children_ranked s _ a)

  -- the last word of D-HasChild, its rank, and that all bits end with it
  pub last_word : (last : ℕ) → 0 < f.dense.nodes → last ≡ 4 * f.dense.nodes - 1
      → RankEntry 64 (drop f.dc s) (drop f.rc s) last × (last * 8 + 8 ≤ length (drop f.dc s)) × (64 * last + 64 ≡ 256 * f.dense.nodes)
  last_word last h e = let r = children_at.2 in (r.1 last (omega arith), omega (arith, r.0), omega arith)

  -- the entries of the dense nodes are those that the sparse nodes leave
  pub entries_left : 0 < f.dense.nodes + f.sparse.nodes
      → rank (drop f.dl s) (256 * f.dense.nodes) + rank (drop f.dp s) f.dense.nodes + f.sparse.entries + 1 ≡ f.dense.nodes + f.sparse.nodes + f.leaves
  entries_left = let a = u.accepted in rw u.frame_is (λ h. omega (arith, all_entries s _ a h, a.items))

module _ (s : Bytes) (h : Header) (v : verdict s ≡ 0) (r : ReadsHeader s h) (small : IsBytes s) where
  laid : LaidOut s h
  laid = accepted_laid s h v r

  -- An image that the check takes has the frame of its header, but for the totals.
  pub header_frame : (f : Frame) → f ≡ frame_at h (header_starts h) uncounted → Uncounted s f
  header_frame f e = record { header = h; totals = laid_totals s h; frame_is = e; accepted = checked_accepted s (frame_at h (header_starts h) (laid_totals s h)) small (laid_frame s h laid) v }

  -- With its dense nodes counted that is its frame,
  pub counted_is : (t : DenseTotals) → Totals s (frame_at h (header_starts h) uncounted).dl (frame_at h (header_starts h) uncounted).dc (frame_at h (header_starts h) uncounted).dp h.dense.nodes t
      → FrameOf s (frame_at h (header_starts h) t)
  counted_is t n = frame_laid s h t laid n

  -- with which the image is accepted.
  pub counted_frame : (t : DenseTotals) → Totals s (frame_at h (header_starts h) uncounted).dl (frame_at h (header_starts h) uncounted).dc (frame_at h (header_starts h) uncounted).dp h.dense.nodes t
      → Accepted s (frame_at h (header_starts h) t)
  counted_frame t n = checked_accepted s (frame_at h (header_starts h) t) small (counted_is t n) v
