-- What follows for the numbers of an accepted image's frame, at hand where one is read: each body lies within the image, and all counts are small.
use Rattle.std.specs.Prelude.{ℕ, ◌+◌, ◌*◌, ◌≤◌, ◌<◌, ◌≡◌, List, map, length}
use Rattle.std.proofs.Common.{ap, ◌∙◌, arith, mul-le-mul, length-append, length-drop}
use Rattle.std.proofs.lemmas.List.{length-map}
use Rattle.spec.specs.Bytes.{Bytes, Bits, blocks, concat}
use Rattle.spec.specs.Nodes.{Node, is_exact}
use Rattle.image.specs.declared.Frame.{Frame}
use Rattle.image.specs.FrameOf.{Within}
use Rattle.image.specs.Accepted.{Body, Accepted, dense_nodes, sparse_nodes, nodes}
use Rattle.theory.proofs.Bits.{length_pack, length_ranks, length_samples}
use Rattle.theory.proofs.DenseBits.{length_dl, length_dc}
use Rattle.theory.proofs.SparseBits.{length_sc, length_sb, louds_ones}
use Rattle.theory.proofs.ImageParts.{sv_size}
use Rattle.theory.proofs.NodeBits.{dense_labels, dense_has_child, sparse_has_child, louds, slots}

pub record Inside (s : Bytes) (f : Frame) : Type 0 where
  pub within : Within s f
  pub width : f.width ≡ f.hash_width + f.real_width
  pub real_range : f.real_width ≤ 16
  pub hash_range : f.hash_width ≤ 16
  pub leaves : f.leaves ≤ 65535
  pub dense : f.dense.nodes < 4294967296
  pub entries : f.sparse.entries < 4294967296
  pub sparse : f.sparse.nodes < 4294967296

-- a body ends within the image
body_end : (b s : Bytes) (at n : ℕ) → Body b s at → length b ≡ n → at + n ≤ length s
body_end b s at n h e = omega (arith, h.0, length-drop at s, ap length h.1.1, length-append b h.1.0)

-- The frame of an accepted image is so.
pub accepted_inside : (s : Bytes) (f : Frame) → Accepted s f → Inside s f
accepted_inside s f a = record {
  within = record {
    dl = body_end _ s f.dl (32 * f.dense.nodes) a.DL (length_pack dl ∙ omega (arith, dl_size));
    dc = body_end _ s f.dc (32 * f.dense.nodes) a.DC (length_pack dc ∙ omega (arith, dc_size));
    dp = body_end _ s f.dp (blocks 8 f.dense.nodes) a.DP (length_pack dp ∙ ap (blocks 8) dp_size);
    sl = body_end _ s f.sl f.sparse.entries a.SL a.entry_size;
    sc = body_end _ s f.sc (blocks 8 f.sparse.entries) a.SC (length_pack sc ∙ ap (blocks 8) sc_size);
    sb = body_end _ s f.sb (blocks 8 f.sparse.entries) a.SB (length_pack sb ∙ ap (blocks 8) sb_size);
    sv = body_end _ s f.sv (blocks 8 (f.leaves * f.width)) a.SV (length_pack (concat (map slots (nodes s f))) ∙ ap (blocks 8) (sv_size f.width f.leaves ds ss a.writable));
    rl = body_end _ s f.rl (4 * blocks 64 (256 * f.dense.nodes)) a.RL (length_ranks 64 dl ∙ ap (λ (k : ℕ). 4 * blocks 64 k) dl_size);
    rc = body_end _ s f.rc (4 * blocks 64 (256 * f.dense.nodes)) a.RC (length_ranks 64 dc ∙ ap (λ (k : ℕ). 4 * blocks 64 k) dc_size);
    rp = body_end _ s f.rp (4 * blocks 64 f.dense.nodes) a.RP (length_ranks 64 dp ∙ ap (λ (k : ℕ). 4 * blocks 64 k) dp_size);
    rs = body_end _ s f.rs (4 * blocks 512 f.sparse.entries) a.RS (length_ranks 512 sc ∙ ap (λ (k : ℕ). 4 * blocks 512 k) sc_size);
    ts = body_end _ s f.ts (4 * blocks 64 f.sparse.nodes) a.TS (length_samples sb ∙ ap (λ (k : ℕ). 4 * blocks 64 k) ((louds_ones ss a.writable.sparse_labelled).0 ∙ a.sparse_size));
    slots = mul-le-mul a.writable.few a.writable.width_range;
  };
  width = a.width_is;
  real_range = a.real_range;
  hash_range = a.hash_range;
  leaves = a.writable.few;
  dense = omega (arith, a.dense_size, a.writable.few_dense);
  entries = omega (arith, a.entry_size, a.writable.few_entries);
  sparse = omega (arith, a.sparse_size, a.writable.few_sparse);
}
  where
    ds : List Node
    ds = dense_nodes s f

    ss : List Node
    ss = sparse_nodes s f

    dl : Bits
    dl = concat (map dense_labels ds)

    dc : Bits
    dc = concat (map dense_has_child ds)

    dp : Bits
    dp = map is_exact ds

    sc : Bits
    sc = concat (map sparse_has_child ss)

    sb : Bits
    sb = concat (map louds ss)

    dl_size : length dl ≡ 256 * f.dense.nodes
    dl_size = length_dl ds ∙ ap (λ (k : ℕ). 256 * k) a.dense_size

    dc_size : length dc ≡ 256 * f.dense.nodes
    dc_size = length_dc ds ∙ ap (λ (k : ℕ). 256 * k) a.dense_size

    dp_size : length dp ≡ f.dense.nodes
    dp_size = length-map ds is_exact ∙ a.dense_size

    sc_size : length sc ≡ f.sparse.entries
    sc_size = length_sc ss a.writable.sparse_labelled ∙ a.entry_size

    sb_size : length sb ≡ f.sparse.entries
    sb_size = length_sb ss a.writable.sparse_labelled ∙ a.entry_size
