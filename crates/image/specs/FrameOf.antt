-- What is known of a frame that was read, for every reader of an image: the settings and counts, the offset of each body, and that document 01's
-- reading of the image has just these bodies and parts. That each body lies within the image is one law, `within`.
use Rattle.std.specs.Prelude.{ℕ, ◌+◌, ◌*◌, ◌≤◌, ◌<◌, ◌≡◌, true, cond, List, [], ◌∷◌, ◌++◌, length, take, drop, eqb}
use Rattle.std.proofs.Math.Option.{some}
use Rattle.std.proofs.Common.{arith, mul-le-mul}
use Rattle.spec.specs.Bytes.{Bytes, blocks, unpack}
use Rattle.spec.specs.Image.{Bodies}
use Rattle.spec.specs.Frame.{has_header, rows_of, read_bodies, named, Parts, parts}
use Rattle.spec.specs.Check.{header_valid}
use Rattle.bits.specs.Bits.{part, rank}
use Rattle.image.specs.Header.{settings_of, counts_of}
use Rattle.image.specs.declared.Header.{Header}
use Rattle.image.specs.declared.Frame.{Frame}

-- what a frame's header says
abbrev pub header_of : Frame → Header
header_of f = record { version = f.version; real_width = f.real_width; hash_width = f.hash_width; leaves = f.leaves; dense = f.dense; sparse = f.sparse }

-- the twelve bodies at a frame's offsets, of the lengths that its counts give
abbrev pub twelve_bodies : Bytes → Frame → List Bytes
twelve_bodies s f =
    part s f.dl (32 * f.dense.nodes)
    ∷ part s f.dc (32 * f.dense.nodes)
    ∷ part s f.dp (blocks 8 f.dense.nodes)
    ∷ part s f.sl f.sparse.entries
    ∷ part s f.sc (blocks 8 f.sparse.entries)
    ∷ part s f.sb (blocks 8 f.sparse.entries)
    ∷ part s f.sv (blocks 8 (f.leaves * f.width))
    ∷ part s f.rl (4 * blocks 64 (256 * f.dense.nodes))
    ∷ part s f.rc (4 * blocks 64 (256 * f.dense.nodes))
    ∷ part s f.rp (4 * blocks 64 f.dense.nodes)
    ∷ part s f.rs (4 * blocks 512 f.sparse.entries)
    ∷ part s f.ts (4 * blocks 64 f.sparse.nodes)
    ∷ []

-- and LV behind them, up to the end, where the version has it
abbrev pub frame_bodies : Bytes → Frame → List Bytes
frame_bodies s f = twelve_bodies s f ++ cond (eqb f.version 2) (drop f.lv s ∷ []) []

-- the twelve under their marks
abbrev pub frame_named : Bytes → Frame → Bodies
frame_named s f = named (frame_bodies s f)

-- the settings, the counts and the bits and labels at a frame's offsets
abbrev pub frame_parts : Bytes → Frame → Parts
frame_parts s f = record {
  settings = settings_of (header_of f);
  counts = counts_of (header_of f);
  dl = take (256 * f.dense.nodes) (unpack (part s f.dl (32 * f.dense.nodes)));
  dc = take (256 * f.dense.nodes) (unpack (part s f.dc (32 * f.dense.nodes)));
  dp = take f.dense.nodes (unpack (part s f.dp (blocks 8 f.dense.nodes)));
  sl = part s f.sl f.sparse.entries;
  sc = take f.sparse.entries (unpack (part s f.sc (blocks 8 f.sparse.entries)));
  sb = take f.sparse.entries (unpack (part s f.sb (blocks 8 f.sparse.entries)));
  sv = take (f.leaves * f.width) (unpack (part s f.sv (blocks 8 (f.leaves * f.width))));
}

-- the bytes before the body of LV: the six of its record, where the version has it
abbrev pub level_gap : ℕ → ℕ
level_gap v = cond (eqb v 2) 6 0

-- each body starts behind the one before it and the six bytes of its record
pub record Contiguous (f : Frame) : Type 0 where
  pub dl : f.dl ≡ 28
  pub dc : f.dc ≡ f.dl + 32 * f.dense.nodes + 6
  pub dp : f.dp ≡ f.dc + 32 * f.dense.nodes + 6
  pub sl : f.sl ≡ f.dp + blocks 8 f.dense.nodes + 6
  pub sc : f.sc ≡ f.sl + f.sparse.entries + 6
  pub sb : f.sb ≡ f.sc + blocks 8 f.sparse.entries + 6
  pub sv : f.sv ≡ f.sb + blocks 8 f.sparse.entries + 6
  pub rl : f.rl ≡ f.sv + blocks 8 (f.leaves * f.width) + 6
  pub rc : f.rc ≡ f.rl + 4 * blocks 64 (256 * f.dense.nodes) + 6
  pub rp : f.rp ≡ f.rc + 4 * blocks 64 (256 * f.dense.nodes) + 6
  pub rs : f.rs ≡ f.rp + 4 * blocks 64 f.dense.nodes + 6
  pub ts : f.ts ≡ f.rs + 4 * blocks 512 f.sparse.entries + 6
  pub lv : f.lv ≡ f.ts + 4 * blocks 64 f.sparse.nodes + level_gap f.version

-- a frame of an image: its settings are in range and its slots have hash bits and real bits, each of the twelve bodies stands at its offset with the length that the counts give, LV's is the rest, neither 11 nor 12 applies,
-- and the totals are the ones of DC, and those of DL and DP
pub record FrameOf (s : Bytes) (f : Frame) : Type 0 where
  pub header : has_header s ≡ true
  pub bodies : read_bodies (rows_of s) (drop 22 s) ≡ some (frame_bodies s f)
  pub parts_are : parts s (frame_named s f) ≡ frame_parts s f
  pub valid : header_valid (parts s (frame_named s f)) (frame_bodies s f) ≡ true
  pub dense_range : f.dense.levels ≤ 4
  pub real_range : f.real_width ≤ 16
  pub hash_range : f.hash_width ≤ 16
  pub width : f.width ≡ f.hash_width + f.real_width
  pub leaves : f.leaves ≤ 65535
  pub dense : f.dense.nodes < 4294967296
  pub entries : f.sparse.entries < 4294967296
  pub sparse : f.sparse.nodes < 4294967296
  pub contiguous : Contiguous f
  pub end : f.lv ≤ length s
  pub children : f.totals.children ≡ rank (drop f.dc s) (256 * f.dense.nodes)
  pub dense_entries : f.totals.entries ≡ rank (drop f.dl s) (256 * f.dense.nodes) + rank (drop f.dp s) f.dense.nodes

-- each body lies within the image, and the slots have few bits
pub record Within (s : Bytes) (f : Frame) : Type 0 where
  pub dl : f.dl + 32 * f.dense.nodes ≤ length s
  pub dc : f.dc + 32 * f.dense.nodes ≤ length s
  pub dp : f.dp + blocks 8 f.dense.nodes ≤ length s
  pub sl : f.sl + f.sparse.entries ≤ length s
  pub sc : f.sc + blocks 8 f.sparse.entries ≤ length s
  pub sb : f.sb + blocks 8 f.sparse.entries ≤ length s
  pub sv : f.sv + blocks 8 (f.leaves * f.width) ≤ length s
  pub rl : f.rl + 4 * blocks 64 (256 * f.dense.nodes) ≤ length s
  pub rc : f.rc + 4 * blocks 64 (256 * f.dense.nodes) ≤ length s
  pub rp : f.rp + 4 * blocks 64 f.dense.nodes ≤ length s
  pub rs : f.rs + 4 * blocks 512 f.sparse.entries ≤ length s
  pub ts : f.ts + 4 * blocks 64 f.sparse.nodes ≤ length s
  pub slots : f.leaves * f.width ≤ 2097120

-- A frame of an image tells so of each body.
pub within : (s : Bytes) (f : Frame) → FrameOf s f → Within s f
within s f o =
    let ts : f.ts + 4 * blocks 64 f.sparse.nodes ≤ length s = omega (arith, o.end, o.contiguous.lv) in
    let rs : f.rs + 4 * blocks 512 f.sparse.entries ≤ length s = omega (arith, o.contiguous.ts) in
    let rp : f.rp + 4 * blocks 64 f.dense.nodes ≤ length s = omega (arith, o.contiguous.rs) in
    let rc : f.rc + 4 * blocks 64 (256 * f.dense.nodes) ≤ length s = omega (arith, o.contiguous.rp) in
    let rl : f.rl + 4 * blocks 64 (256 * f.dense.nodes) ≤ length s = omega (arith, o.contiguous.rc) in
    let sv : f.sv + blocks 8 (f.leaves * f.width) ≤ length s = omega (arith, o.contiguous.rl) in
    let sb : f.sb + blocks 8 f.sparse.entries ≤ length s = omega (arith, o.contiguous.sv) in
    let sc : f.sc + blocks 8 f.sparse.entries ≤ length s = omega (arith, o.contiguous.sb) in
    let sl : f.sl + f.sparse.entries ≤ length s = omega (arith, o.contiguous.sc) in
    let dp : f.dp + blocks 8 f.dense.nodes ≤ length s = omega (arith, o.contiguous.sl) in
    let dc : f.dc + 32 * f.dense.nodes ≤ length s = omega (arith, o.contiguous.dp) in
    let dl : f.dl + 32 * f.dense.nodes ≤ length s = omega (arith, o.contiguous.dc) in
    let narrow : f.width ≤ 32 = omega (arith, o.real_range, o.hash_range, o.width) in
    record {
      dl = dl;
      dc = dc;
      dp = dp;
      sl = sl;
      sc = sc;
      sb = sb;
      sv = sv;
      rl = rl;
      rc = rc;
      rp = rp;
      rs = rs;
      ts = ts;
      slots = mul-le-mul o.leaves narrow;
    }
