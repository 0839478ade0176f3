-- The sparse bodies of an image whose tables are right: their ranks and samples, as they are read.
use Rattle.std.specs.Prelude.{◌*◌, ◌≡◌, true}
use Rattle.std.proofs.Common.{ap, ◌∙◌, arith}
use Rattle.spec.specs.Bytes.{Bytes, blocks}
use Rattle.theory.proofs.Lists.{and_both}
use Rattle.bits.specs.Bits.{rank, part}
use Rattle.bits.proofs.SliceParts.{length_part}
use Rattle.bits.proofs.PartLaws.{bits_room}
use Rattle.bits_select.specs.SelectLaws.{select_le, rank_select}
use Rattle.bits.proofs.ValueLaws.{Small}
use Rattle.image.specs.FrameOf.{within}
use Rattle.image.specs.declared.Frame.{Frame}
use Rattle.rank_tables.specs.Reading.{RankTable, SampleTable}
use Rattle.check_tables.specs.Tables.{RanksInside, sparse_agrees, holds_ranks, holds_samples, stored_rank, stored_sample}
use Rattle.check_levels.specs.Bodies.{sc_body, sb_body, bodies_sized}
use Rattle.check_levels.specs.Levels.{LoudsValid}

-- S-LOUDS has passed, and the tables of the sparse bodies are right
pub record Indexed (s : Bytes) (f : Frame) : Type 0 where
  pub louds : LoudsValid s f
  pub agrees : sparse_agrees s f ≡ true

module _ (s : Bytes) (f : Frame) (h : Indexed s f) where
  both : (holds_ranks s f.sc f.sparse.entries f.rs 512 ≡ true) × (holds_samples s f.sb f.sparse.entries f.ts (4 * blocks 64 f.sparse.nodes) ≡ true)
  both = and_both (holds_ranks s f.sc f.sparse.entries f.rs 512) (holds_samples s f.sb f.sparse.entries f.ts (4 * blocks 64 f.sparse.nodes)) h.agrees

  -- the ranks of S-HasChild
  pub entries_ranked : Small s → RankTable 512 f.sparse.entries (sc_body s f) (part s f.rs (4 * blocks 512 f.sparse.entries))
  entries_ranked small =
      let o = h.louds.frame in
      let w = within s f o in
      let z = length_part s f.rs (4 * blocks 512 f.sparse.entries) w.rs in
      let p : RanksInside s f.sc f.sparse.entries f.rs 8 = record { some = omega arith; few = omega arith; short = omega (arith, o.entries); body = w.sc; ranks = w.rs } in (
        bits_room f.sparse.entries (sc_body s f) (bodies_sized s f o).sc,
        λ b k. (omega arith, stored_rank s f.sc f.sparse.entries f.rs 8 b small p both.0 o.entries k),
      )

  -- the samples of S-LOUDS
  pub starts_sampled : Small s → SampleTable f.sparse.entries f.sparse.nodes (sb_body s f) (part s f.ts (4 * blocks 64 f.sparse.nodes))
  starts_sampled small =
      let o = h.louds.frame in
      let w = within s f o in
      let z = length_part s f.ts (4 * blocks 64 f.sparse.nodes) w.ts in
      let c = h.louds.count in (
        bits_room f.sparse.entries (sb_body s f) (bodies_sized s f o).sb,
        c,
        λ t k. let e = stored_sample s f.sb f.sparse.entries f.ts (4 * blocks 64 f.sparse.nodes) t small w.sb both.1 o.entries (omega arith) in (
          omega arith,
          rw e (select_le (sb_body s f) f.sparse.entries (64 * t)),
          ap (rank (sb_body s f)) e ∙ rank_select (sb_body s f) f.sparse.entries (64 * t) (omega arith),
        ),
      )
