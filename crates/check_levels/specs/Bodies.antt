-- The bodies of an image at its frame's offsets: each has the length that the counts give, and the frame's totals are theirs.
use Rattle.std.specs.Prelude.{◌+◌, ◌*◌, ◌≡◌, length}
use Rattle.std.proofs.Common.{sym, ◌∙◌, arith}
use Rattle.spec.specs.Bytes.{Bytes, blocks}
use Rattle.bits.specs.Bits.{part, rank}
use Rattle.bits.proofs.SliceParts.{length_part}
use Rattle.bits.proofs.PartLaws.{rank_part, bits_room}
use Rattle.image.specs.FrameOf.{FrameOf, within, frame_parts}
use Rattle.image.specs.declared.Frame.{Frame}
use Rattle.check_levels.specs.BitTests.{Sized}
use Rattle.check_levels.specs.Positions.{length_bits}

-- D-Labels
abbrev pub dl_body : Bytes → Frame → Bytes
dl_body s f = part s f.dl (32 * f.dense.nodes)

-- D-HasChild
abbrev pub dc_body : Bytes → Frame → Bytes
dc_body s f = part s f.dc (32 * f.dense.nodes)

-- D-IsPrefixKey
abbrev pub dp_body : Bytes → Frame → Bytes
dp_body s f = part s f.dp (blocks 8 f.dense.nodes)

-- S-Labels
abbrev pub sl_body : Bytes → Frame → Bytes
sl_body s f = part s f.sl f.sparse.entries

-- S-HasChild
abbrev pub sc_body : Bytes → Frame → Bytes
sc_body s f = part s f.sc (blocks 8 f.sparse.entries)

-- S-LOUDS
abbrev pub sb_body : Bytes → Frame → Bytes
sb_body s f = part s f.sb (blocks 8 f.sparse.entries)

-- the suffix slots
abbrev pub sv_body : Bytes → Frame → Bytes
sv_body s f = part s f.sv (blocks 8 (f.leaves * f.width))

-- each body has the length that the counts give
pub record BodiesSized (s : Bytes) (f : Frame) : Type 0 where
  pub dl : length (dl_body s f) ≡ 32 * f.dense.nodes
  pub dc : length (dc_body s f) ≡ 32 * f.dense.nodes
  pub dp : length (dp_body s f) ≡ blocks 8 f.dense.nodes
  pub sl : length (sl_body s f) ≡ f.sparse.entries
  pub sc : length (sc_body s f) ≡ blocks 8 f.sparse.entries
  pub sb : length (sb_body s f) ≡ blocks 8 f.sparse.entries
  pub sv : length (sv_body s f) ≡ blocks 8 (f.leaves * f.width)

module _ (s : Bytes) (f : Frame) (o : FrameOf s f) where
  pub bodies_sized : BodiesSized s f
  bodies_sized =
      let w = within s f o in
      record {
        dl = length_part s f.dl (32 * f.dense.nodes) w.dl;
        dc = length_part s f.dc (32 * f.dense.nodes) w.dc;
        dp = length_part s f.dp (blocks 8 f.dense.nodes) w.dp;
        sl = length_part s f.sl f.sparse.entries w.sl;
        sc = length_part s f.sc (blocks 8 f.sparse.entries) w.sc;
        sb = length_part s f.sb (blocks 8 f.sparse.entries) w.sb;
        sv = length_part s f.sv (blocks 8 (f.leaves * f.width)) w.sv;
      }

  -- the bits and labels have the lengths that the counts give
  pub parts_sized : Sized (frame_parts s f)
  parts_sized =
      let z = bodies_sized in
      record {
        dl = length_bits (dl_body s f) (256 * f.dense.nodes) (omega (arith, z.dl));
        dc = length_bits (dc_body s f) (256 * f.dense.nodes) (omega (arith, z.dc));
        dp = length_bits (dp_body s f) f.dense.nodes (bits_room f.dense.nodes (dp_body s f) z.dp);
        sl = z.sl;
        sc = length_bits (sc_body s f) f.sparse.entries (bits_room f.sparse.entries (sc_body s f) z.sc);
        sb = length_bits (sb_body s f) f.sparse.entries (bits_room f.sparse.entries (sb_body s f) z.sb);
        dense = o.dense_range;
      }

  -- the frame's count of the continuing branches of dense nodes
  pub dense_children : f.totals.children ≡ rank (dc_body s f) (256 * f.dense.nodes)
  dense_children = o.children ∙ sym (rank_part s f.dc (32 * f.dense.nodes) (256 * f.dense.nodes) (omega arith))

  -- the frame's count of the branches and exact leaves of dense nodes
  pub dense_entries : f.totals.entries ≡ rank (dl_body s f) (256 * f.dense.nodes) + rank (dp_body s f) f.dense.nodes
  dense_entries =
      omega (
        arith,
        o.dense_entries,
        rank_part s f.dl (32 * f.dense.nodes) (256 * f.dense.nodes) (omega arith),
        rank_part s f.dp (blocks 8 f.dense.nodes) f.dense.nodes (omega arith),
      )
