-- Table entries of the rank tables of the dense nodes of an image that passed the numbers 11 to 15: entry b is the ones before bit 64 b of its body.
use Prim.Native.Nat.{ℕ, zero, suc, ◌+◌, ◌*◌, ◌/◌, ◌%◌, ◌^◌, ◌<◌, ◌≤◌}
use Rattle.std.specs.Prelude.{◌≡◌, [], ◌∷◌, ◌++◌, map, length, get_or, take, drop}
use Rattle.std.proofs.Common.{sym, ap₂, ◌∙◌, get_or-drop, get_or-take}
use Rattle.std.proofs.Math.Path.{ap}
use Rattle.std.proofs.Math.Bool.{true}
use native.Mathlib.Omega.{arith}
use Rattle.std.proofs.Math.Pow.{field, mod-mod-pow}
use Rattle.spec.specs.Bytes.{Bytes, Bits, concat, iota, blocks, equal, ones, le32, from32}
use Rattle.spec.specs.Image.{Bodies, ranks, samples}
use Rattle.spec.specs.Frame.{Parts, named}
use Rattle.spec.specs.Check.{ranks_valid}
use Rattle.bits.specs.Bits.{part, rank}
use Rattle.image.specs.FrameOf.{frame_named, frame_parts}
use Rattle.image.specs.declared.Frame.{Frame}
use Rattle.check_levels.specs.Positions.{bits, length_bits, ones_bits}
use Rattle.check_levels.specs.Bodies.{dl_body, dc_body, bodies_sized}
use Rattle.check_slots.specs.Passed.{PassedTo15}
use Rattle.theory.proofs.Order.{equal_true}
use Rattle.theory.proofs.Frame.{from32_le32}
use Rattle.theory.proofs.Lists.{every_true}

-- the number in the first four of a part's bytes
from_part : (s : Bytes) (at len k : ℕ) → k + 4 ≤ len → from32 (drop k (part s at len)) ≡ from32 (drop (at + k) s)
unfolding from32
from_part s at len k h = rw (byte 0 (omega arith), byte 1 (omega arith), byte 2 (omega arith), byte 3 (omega arith))
  where
    byte : (i : ℕ) → i < 4 → get_or (drop k (part s at len)) i 0 ≡ get_or (drop (at + k) s) i 0
    byte i l =
        let e : at + (k + i) ≡ at + k + i = omega arith in
        get_or-drop k (part s at len) i 0 ∙ get_or-take len (drop at s) (k + i) 0 (omega arith) ∙ get_or-drop at s (k + i) 0 ∙ ap (λ (n : ℕ). get_or s n 0) e ∙ sym (get_or-drop (at + k) s i 0)

-- the low 32 bits of a number are what its four bytes hold
low_32 : (x : ℕ) (r : Bytes) → from32 (le32 x ++ r) ≡ x % 4294967296
unfolding le32
low_32 x r =
    let a : x % 256 ≡ x % 4294967296 % 256 = omega arith in
    let b : x / 256 % 256 ≡ x % 4294967296 / 256 % 256 = sym (byte 16 8) in
    let c : x / 65536 % 256 ≡ x % 4294967296 / 65536 % 256 = sym (byte 8 16) in
    let d : x / 16777216 % 256 ≡ x % 4294967296 / 16777216 % 256 = sym (byte 0 24) in
    rw (a, b, c, d) (from32_le32 (x % 4294967296) r (omega arith))
  where
    byte : (j k : ℕ) → x % 2 ^ (j + 8 + k) / 2 ^ k % 2 ^ 8 ≡ x / 2 ^ k % 2 ^ 8
    byte j k = ap (λ (n : ℕ). n % 2 ^ 8) (field x (j + 8) k) ∙ mod-mod-pow (x / 2 ^ k) j 8

module _ (f : ℕ → ℕ) where
  drop_row : (x : ℕ) (r : Bytes) (b : ℕ) → drop (4 * suc b) (le32 x ++ r) ≡ drop (4 * b) r
  unfolding le32
  drop_row x r b = let e : 4 * suc b ≡ suc (suc (suc (suc (4 * b)))) = omega arith in rw e

  row : (n i b : ℕ) → b < n → from32 (drop (4 * b) (concat (map (λ b. le32 (f b)) (iota i n)))) ≡ f (i + b) % 4294967296
  unfolding concat iota
  row zero i b h = absurd (omega arith)
  row (suc n) i zero h = let e : i + 0 ≡ i = omega arith in rw e (low_32 (f i) (concat (map (λ b. le32 (f b)) (iota (suc i) n))))
  row (suc n) i (suc b) h =
      let e : i + suc b ≡ suc i + b = omega arith in
      rw (e, drop_row (f i) (concat (map (λ b. le32 (f b)) (iota (suc i) n))) b) (row n (suc i) b (omega arith))

-- entry b of the ranks by blocks of w
rank_entry : (w : ℕ) (bs : Bits) (b : ℕ) → b < blocks w (length bs) → from32 (drop (4 * b) (ranks w bs)) ≡ ones (take (w * b) bs) % 4294967296
unfolding ranks
rank_entry w bs b h =
    let e : 0 + b ≡ b = omega arith in
    row (λ b. ones (take (w * b) bs)) (blocks w (length bs)) 0 b h ∙ ap (λ (k : ℕ). ones (take (w * k) bs) % 4294967296) e

module _ (s : Bytes) (f : Frame) (j : PassedTo15 s f) where
  -- the tables that entry numbers are read from
  record Tables : Type 0 where
    rl : part s f.rl (4 * blocks 64 (256 * f.dense.nodes)) ≡ ranks 64 (bits (dl_body s f) (256 * f.dense.nodes))
    rc : part s f.rc (4 * blocks 64 (256 * f.dense.nodes)) ≡ ranks 64 (bits (dc_body s f) (256 * f.dense.nodes))

  tables : Tables
  unfolding ranks_valid named
  tables =
      let b : Bodies = frame_named s f in
      let p : Parts = frame_parts s f in
      let r : ranks_valid (frame_parts s f) (frame_named s f) ≡ true = ap (λ (p : Parts). ranks_valid p (frame_named s f)) (sym j.frame.parts_are) ∙ j.ranks in
      let q = every_true (equal b.RL (ranks 64 p.dl) ∷ equal b.RC (ranks 64 p.dc) ∷ equal b.RP (ranks 64 p.dp) ∷ equal b.RS (ranks 512 p.sc) ∷ equal b.TS (samples p.sb) ∷ []) r in
      record {
        rl = equal_true b.RL (ranks 64 p.dl) q.0;
        rc = equal_true b.RC (ranks 64 p.dc) q.1.0;
      }

  -- the entry for dense node m, which has four blocks of 64 bits
  node_entry : (at : ℕ) (d : Bytes) → length d ≡ 32 * f.dense.nodes → part s at (4 * blocks 64 (256 * f.dense.nodes)) ≡ ranks 64 (bits d (256 * f.dense.nodes)) → (m : ℕ) → m < f.dense.nodes
      → from32 (drop (at + 16 * m) s) ≡ rank d (256 * m) % 4294967296
  node_entry at d l t m h =
      let e : 4 * (4 * m) ≡ 16 * m = omega arith in
      let g : 64 * (4 * m) ≡ 256 * m = omega arith in
      let o : ones (take (64 * (4 * m)) (bits d (256 * f.dense.nodes))) ≡ rank d (256 * m) = ones_bits d (256 * f.dense.nodes) (64 * (4 * m)) (omega arith) ∙ ap (rank d) g in
      sym (from_part s at (4 * blocks 64 (256 * f.dense.nodes)) (16 * m) (omega arith))
      ∙ ap₂ (λ (k : ℕ) (b : Bytes). from32 (drop k b)) (sym e) t
      ∙ rank_entry 64 (bits d (256 * f.dense.nodes)) (4 * m) (omega (arith, length_bits d (256 * f.dense.nodes) (omega arith))) ∙ ap (λ (k : ℕ). k % 4294967296) o

  -- the labels, and the continuing ones, before dense node m
  pub label_entry : (m : ℕ) → m < f.dense.nodes → from32 (drop (f.rl + 16 * m) s) ≡ rank (dl_body s f) (256 * m) % 4294967296
  label_entry = node_entry f.rl (dl_body s f) (bodies_sized s f j.frame).dl tables.rl

  pub child_entry : (m : ℕ) → m < f.dense.nodes → from32 (drop (f.rc + 16 * m) s) ≡ rank (dc_body s f) (256 * m) % 4294967296
  child_entry = node_entry f.rc (dc_body s f) (bodies_sized s f j.frame).dc tables.rc
