-- The image of a key list as header and records, with the counts and the lengths of the bodies by the counters of the counting pass. Used by the plan of an image.
use Rattle.std.specs.Prelude.{ℕ, ◌*◌, ◌≡◌, List, ◌++◌, map, length}
use Rattle.std.proofs.Math.Path.{ap₂}
use Rattle.std.proofs.Common.{◌∙◌, arith}
use Rattle.spec.specs.Bytes.{Bytes, blocks}
use Rattle.spec.specs.Image.{Settings, Counts, Row, rows, level_rows, version_rows, level_widths, level_bodies, sizes, in_order, write_records, header, counts, bodies, image}
use Rattle.theory.proofs.Frame.{Paired, records_append}
use Rattle.theory.proofs.LevelStarts.{version_rows_are}
use Rattle.theory.proofs.BuildLaws.{BuiltFrom}
use Rattle.theory.proofs.KeyLeaves.{leaves_length}
use Rattle.build_laws.specs.Cursors.{sums}
use Rattle.build_laws.specs.Counters.{entry_counts, node_counts}
use Rattle.build_laws.specs.KeyBits.{key_leaves, key_bodies}
use Rattle.build_records.specs.LevelWidths.{widths, widths_are}
use Rattle.build_records.specs.LevelRecord.{level_bytes}
use Rattle.build_laws.specs.Lengths.{dense_nodes_total, sparse_nodes_total, length_SL, length_DL, length_DC, length_DP, length_SC, length_SB, length_SV, length_RL, length_RC, length_RP, length_RS, length_TS}

-- the counts of a key list's image, by the counters
abbrev pub key_counts : Settings → List Bytes → Counts
key_counts st ks = record {
  leaves = length ks;
  dense_nodes = sums (node_counts ks) 0 st.dense_levels;
  sparse_entries = sums (entry_counts ks) st.dense_levels 64;
  sparse_nodes = sums (node_counts ks) st.dense_levels 64;
}

row_blocks : (n : ℕ) → 16 * n ≡ 4 * blocks 64 (256 * n)
row_blocks n = omega arith

module _ (st : Settings) (ks : List Bytes) (b : BuiltFrom st ks) where
  -- The counts of the leaf list are those of the counters.
  pub counts_are : counts st.dense_levels (key_leaves st ks) ≡ key_counts st ks
  unfolding counts bodies
  counts_are = rw (leaves_length st.hash_width st.real_width ks, dense_nodes_total st ks b, length_SL st ks b, sparse_nodes_total st ks b)

  twelve_paired : Paired rows (in_order (key_bodies st ks))
  unfolding rows
  twelve_paired = tt

  -- The twelve records of either version, and those of its own behind them.
  records_both : write_records (version_rows st.version) (in_order (key_bodies st ks) ++ level_bodies st.version (level_widths (key_leaves st ks)))
      ≡ write_records rows (in_order (key_bodies st ks)) ++ level_bytes st.version (node_counts ks)
  records_both =
      ap₂ (λ (rs : List Row) (ws : List ℕ). write_records rs (in_order (key_bodies st ks) ++ level_bodies st.version ws)) (version_rows_are st.version) (widths_are st ks b)
      ∙ records_append rows (level_rows st.version) (in_order (key_bodies st ks)) (level_bodies st.version (widths (node_counts ks))) twelve_paired

  -- The image is its header, by the counters, and the records one behind the other.
  pub image_is : image st (key_leaves st ks) ≡ header st (key_counts st ks) ++ (write_records rows (in_order (key_bodies st ks)) ++ level_bytes st.version (node_counts ks))
  unfolding image
  image_is = ap₂ (λ (c : Counts) (bs : Bytes). header st c ++ bs) counts_are records_both

  -- Each body has the length that its row gives by the counters.
  pub body_sizes : map length (in_order (key_bodies st ks)) ≡ sizes st (key_counts st ks)
  unfolding sizes rows
  body_sizes = rw (length_DL st ks b, length_DC st ks b, length_DP st ks b, length_SL st ks b, length_SC st ks b, length_SB st ks b, length_SV st ks b, length_RL st ks b, length_RC st ks b, length_RP st ks b, length_RS st ks b, length_TS st ks b, row_blocks (sums (node_counts ks) 0 st.dense_levels))
