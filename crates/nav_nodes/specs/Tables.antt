-- What an accepted image's tables give: ranks by blocks, and every 64th start of a sparse node.
use Rattle.std.specs.Prelude.{ℕ, ◌+◌, ◌-◌, ◌*◌, ◌<◌, ◌≤◌, ◌≡◌, map, length, drop}
use Rattle.std.proofs.Common.{sym, ap, ◌∙◌, arith}
use Rattle.std.proofs.lemmas.List.{length-map}
use Rattle.spec.specs.Bytes.{Bytes, Bits, concat, ones}
use Rattle.spec.specs.Nodes.{is_exact}
use Rattle.bits.specs.Bits.{rank, select}
use Rattle.bits_select.specs.SelectLaws.{select_found}
use Rattle.image.specs.declared.Frame.{Frame}
use Rattle.rank_tables.specs.Reading.{RankTable, SampleTable}
use Rattle.nav_nodes.specs.Stored.{bits_room, bits_all, ranks_at, samples_at}
use Rattle.nav_nodes.specs.Accepted.{Accepted, dense_nodes, sparse_nodes}
use Rattle.theory.proofs.NodeBits.{dense_labels, dense_has_child, sparse_has_child, louds}
use Rattle.theory.proofs.DenseBits.{length_dl, length_dc}
use Rattle.theory.proofs.SparseBits.{length_sc, length_sb, louds_ones}

module _ (s : Bytes) (f : Frame) (a : Accepted s f) where
  -- D-Labels
  pub labels_ranked : RankTable 64 (256 * f.dense.nodes) (drop f.dl s) (drop f.rl s)
  labels_ranked =
      let bs : Bits = concat (map dense_labels (dense_nodes s f)) in
      let l = length_dl (dense_nodes s f) in
      let d = a.dense_size in
      let w = a.writable.few_dense in
      let h = a.DL.1 in (
        omega (arith, bits_room bs (drop f.dl s) h),
        λ b k. ranks_at 64 bs (drop f.dl s) (drop f.rl s) (omega arith) h a.RL.1 (omega arith) b (omega arith),
      )

  -- D-HasChild
  pub children_ranked : RankTable 64 (256 * f.dense.nodes) (drop f.dc s) (drop f.rc s)
  children_ranked =
      let bs : Bits = concat (map dense_has_child (dense_nodes s f)) in
      let l = length_dc (dense_nodes s f) in
      let d = a.dense_size in
      let w = a.writable.few_dense in
      let h = a.DC.1 in (
        omega (arith, bits_room bs (drop f.dc s) h),
        λ b k. ranks_at 64 bs (drop f.dc s) (drop f.rc s) (omega arith) h a.RC.1 (omega arith) b (omega arith),
      )

  -- D-IsPrefixKey
  pub exacts_ranked : RankTable 64 f.dense.nodes (drop f.dp s) (drop f.rp s)
  exacts_ranked =
      let bs : Bits = map is_exact (dense_nodes s f) in
      let l = length-map (dense_nodes s f) is_exact in
      let d = a.dense_size in
      let w = a.writable.few_dense in
      let h = a.DP.1 in (
        omega (arith, bits_room bs (drop f.dp s) h),
        λ b k. ranks_at 64 bs (drop f.dp s) (drop f.rp s) (omega arith) h a.RP.1 (omega arith) b (omega arith),
      )

  -- S-HasChild
  pub entries_ranked : RankTable 512 f.sparse.entries (drop f.sc s) (drop f.rs s)
  entries_ranked =
      let bs : Bits = concat (map sparse_has_child (sparse_nodes s f)) in
      let l = length_sc (sparse_nodes s f) a.writable.sparse_labelled in
      let d = a.entry_size in
      let w = a.writable.few_entries in
      let h = a.SC.1 in (
        omega (arith, bits_room bs (drop f.sc s) h),
        λ b k. ranks_at 512 bs (drop f.sc s) (drop f.rs s) (omega arith) h a.RS.1 (omega arith) b (omega arith),
      )

  -- S-LOUDS: as many ones as sparse nodes, and the samples
  pub starts_sampled : SampleTable f.sparse.entries f.sparse.nodes (drop f.sb s) (drop f.ts s)
  starts_sampled =
      let bs : Bits = concat (map louds (sparse_nodes s f)) in
      let l : length (concat (map louds (sparse_nodes s f))) ≡ f.sparse.entries = length_sb (sparse_nodes s f) a.writable.sparse_labelled ∙ a.entry_size in
      let n : ones (concat (map louds (sparse_nodes s f))) ≡ f.sparse.nodes = (louds_ones (sparse_nodes s f) a.writable.sparse_labelled).0 ∙ a.sparse_size in
      let d = a.entry_size in
      let w = a.writable.few_entries in
      let h = a.SB.1 in (
        omega (arith, bits_room bs (drop f.sb s) h),
        ap (rank (drop f.sb s)) (sym l) ∙ bits_all bs (drop f.sb s) h ∙ n,
        λ t k. rw l at (samples_at bs (drop f.sb s) (drop f.ts s) h a.TS.1 (omega arith) t (omega arith)),
      )

  -- a sparse node starts before the end of the entries, and as many starts stand up to and with its own as before the next node
  pub start_found : (m p : ℕ) → f.dense.nodes ≤ m → m < f.dense.nodes + f.sparse.nodes → p ≡ select (drop f.sb s) f.sparse.entries (m - f.dense.nodes)
      → (p < f.sparse.entries) × (rank (drop f.sb s) (p + 1) ≡ m + 1 - f.dense.nodes)
  start_found m p l h e =
      let r = select_found (drop f.sb s) f.sparse.entries (m - f.dense.nodes) (omega (arith, starts_sampled.1)) in
      (omega (arith, r.0), ap (λ (n : ℕ). rank (drop f.sb s) (n + 1)) e ∙ r.1 ∙ omega arith)
