-- The tables of document 01 are those that are counted in the bytes of finished bodies. Used by the functions that fill the records of tables.
use Rattle.std.specs.Prelude.{ℕ, ◌*◌, ◌≤◌, ◌<◌, ◌≡◌, List, length}
use Rattle.std.proofs.Common.{sym, ap, ap₂, ◌∙◌, arith}
use Rattle.spec.specs.Bytes.{Bytes, Bits, blocks, ones, pack}
use Rattle.spec.specs.Image.{Settings, Bodies, ranks, samples}
use Rattle.theory.proofs.BuildLaws.{BuiltFrom}
use Rattle.theory.proofs.Bits.{unpack_pack, length_pack}
use Rattle.bits.specs.Bits.{rank}
use Rattle.bits.proofs.UnpackLaws.{rank_unpack}
use Rattle.rank_tables.specs.TableEntries.{rank_table, sample_table}
use Rattle.rank_tables.specs.Ranks.{ranks_are}
use Rattle.rank_tables.specs.Samples.{samples_are}
use Rattle.build_laws.specs.Cursors.{sums}
use Rattle.build_laws.specs.Counters.{entry_counts, node_counts}
use Rattle.build_laws.specs.KeyBits.{key_bodies, bodies_are, DL_bits, DC_bits, DP_bits, SC_bits, SB_bits}
use Rattle.build_laws.specs.Lengths.{length_DL_bits, length_DC_bits, length_DP_bits, length_SC_bits, length_SB_bits, ones_SB}

packed_enough : (bs : Bits) → length bs ≤ 8 * length (pack bs)
packed_enough bs = omega (arith, length_pack bs)

-- ranks of bits are those of the bytes that hold them
ranks_packed : (w n : ℕ) (bs : Bits) (body table : Bytes) → 0 < w → length bs ≡ n → body ≡ pack bs → table ≡ ranks w bs → rank_table w body (blocks w n) ≡ table
ranks_packed w n bs body table p e f g =
    ap₂ (λ (s : Bytes) (k : ℕ). rank_table w s (blocks w k)) f (sym e) ∙ sym (ranks_are w (length bs) (pack bs) p (packed_enough bs)) ∙ ap (ranks w) (unpack_pack bs).0 ∙ sym g

module _ (st : Settings) (ks : List Bytes) (b : BuiltFrom st ks) where
  -- RL: the ranks of DL
  pub RL_table : rank_table 64 (key_bodies st ks).DL (blocks 64 (256 * sums (node_counts ks) 0 st.dense_levels)) ≡ (key_bodies st ks).RL
  RL_table = ranks_packed 64 _ (DL_bits st ks b) _ _ (omega arith) (length_DL_bits st ks b) (ap (λ (z : Bodies). z.DL) (bodies_are st ks b)) (ap (λ (z : Bodies). z.RL) (bodies_are st ks b))

  -- RC: the ranks of DC
  pub RC_table : rank_table 64 (key_bodies st ks).DC (blocks 64 (256 * sums (node_counts ks) 0 st.dense_levels)) ≡ (key_bodies st ks).RC
  RC_table = ranks_packed 64 _ (DC_bits st ks b) _ _ (omega arith) (length_DC_bits st ks b) (ap (λ (z : Bodies). z.DC) (bodies_are st ks b)) (ap (λ (z : Bodies). z.RC) (bodies_are st ks b))

  -- RP: the ranks of DP
  pub RP_table : rank_table 64 (key_bodies st ks).DP (blocks 64 (sums (node_counts ks) 0 st.dense_levels)) ≡ (key_bodies st ks).RP
  RP_table = ranks_packed 64 _ (DP_bits st ks b) _ _ (omega arith) (length_DP_bits st ks b) (ap (λ (z : Bodies). z.DP) (bodies_are st ks b)) (ap (λ (z : Bodies). z.RP) (bodies_are st ks b))

  -- RS: the ranks of SC, for blocks of 512 bits
  pub RS_table : rank_table 512 (key_bodies st ks).SC (blocks 512 (sums (entry_counts ks) st.dense_levels 64)) ≡ (key_bodies st ks).RS
  RS_table = ranks_packed 512 _ (SC_bits st ks b) _ _ (omega arith) (length_SC_bits st ks b) (ap (λ (z : Bodies). z.SC) (bodies_are st ks b)) (ap (λ (z : Bodies). z.RS) (bodies_are st ks b))

  -- SB has as many ones as there are sparse nodes
  pub SB_rank : rank (key_bodies st ks).SB (sums (entry_counts ks) st.dense_levels 64) ≡ sums (node_counts ks) st.dense_levels 64
  SB_rank =
      let bs : Bits = SB_bits st ks b in
      ap₂ rank (ap (λ (z : Bodies). z.SB) (bodies_are st ks b)) (sym (length_SB_bits st ks b)) ∙ rank_unpack (pack bs) (length bs) ∙ ap ones (unpack_pack bs).0 ∙ ones_SB st ks b

  -- TS: the samples of SB
  pub TS_table : sample_table (key_bodies st ks).SB (sums (entry_counts ks) st.dense_levels 64) (blocks 64 (rank (key_bodies st ks).SB (sums (entry_counts ks) st.dense_levels 64))) ≡ (key_bodies st ks).TS
  TS_table =
      let bs : Bits = SB_bits st ks b in
      ap₂ (λ (s : Bytes) (n : ℕ). sample_table s n (blocks 64 (rank s n))) (ap (λ (z : Bodies). z.SB) (bodies_are st ks b)) (sym (length_SB_bits st ks b))
      ∙ sym (samples_are (length bs) (pack bs) (packed_enough bs)) ∙ ap samples (unpack_pack bs).0 ∙ sym (ap (λ (z : Bodies). z.TS) (bodies_are st ks b))
