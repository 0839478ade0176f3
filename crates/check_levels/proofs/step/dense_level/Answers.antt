-- The branches before the node are counted on from those before the level; before the first sparse node they are the frame's total.
use mathlib.Core.Path.{◌≡◌, refl, sym, ap, ◌∙◌}
use Prim.Native.Nat.{ℕ, ◌*◌, ◌≤◌, ◌<◌}
use native.Mathlib.Omega.{arith}
use mir.Val.{Fits}
use mir.Syntax.{w64}
use Rattle.spec.specs.Bytes.{Bytes}
use Rattle.image.specs.FrameOf.{within}
use Rattle.bits.specs.Bits.{rank}
use Rattle.check_levels.specs.Bodies.{dc_body, bodies_sized, dense_children}
use Rattle.check_levels.specs.Levels.{level_dense, dense_level}
use Rattle.check_levels.proofs.step.dense_level.Goals as goal

-- the bits of so many dense nodes are few
node_fits : {i d : ℕ} → i ≤ d → d < 4294967296 → Fits w64 (256 * i)
node_fits h l = record { fits = omega arith }

bytes_fit : {d : ℕ} → d < 4294967296 → Fits w64 (32 * d)
bytes_fit h = record { fits = omega arith }

-- the level is not behind the dense nodes either
not_behind : {i j d : ℕ} → i ≤ j → j ≤ d → i ≤ d
not_behind h l = omega arith

-- D-HasChild has room for the node's bits
room : {j d l : ℕ} → j ≤ d → l ≡ 32 * d → 256 * j ≤ 8 * l
room h e = omega arith

scaled : {i j : ℕ} → i ≤ j → 256 * i ≤ 256 * j
scaled h = omega arith

pub returns-then-node-f : goal.returns-then-node-f
returns-then-node-f c =
    let a = c.args in
    let p = c.requires in
    let s : Bytes = a.image.now.bytes.now in
    (dense_level s a.image.now.frame p.0 _ p.3 refl (dense_children s a.image.now.frame p.0.frame ∙ ap (λ (n : ℕ). rank (dc_body s a.image.now.frame) (256 * n)) (sym c.if-node-f.true)), refl)

pub overflow_mul-f : goal.overflow_mul-f
overflow_mul-f c =
    bytes_fit c.requires.0.frame.dense

pub part-dc-requires : goal.part-dc-requires
part-dc-requires c =
    let a = c.args in
    (within a.image.now.bytes.now a.image.now.frame c.requires.0.frame).dc

pub overflow_mul-from : goal.overflow_mul-from
overflow_mul-from c =
    let p = c.requires in node_fits (not_behind p.2.from p.3) p.0.frame.dense

pub overflow_mul-node : goal.overflow_mul-node
overflow_mul-node c =
    let p = c.requires in node_fits p.3 p.0.frame.dense

pub rank_on-branches-requires : goal.rank_on-branches-requires
rank_on-branches-requires c =
    let a = c.args in
    let p = c.requires in
    let s : Bytes = a.image.now.bytes.now in
    rw c.part-dc.ensures (
      room p.3 (bodies_sized s a.image.now.frame p.0.frame).dc,
      scaled p.2.from,
      level_dense s a.image.now.frame p.0 a.from p.1 (not_behind p.2.from p.3),
    )

pub returns : goal.returns
returns c =
    let a = c.args in
    let p = c.requires in
    let r = rw c.part-dc.ensures at c.rank_on-branches.ensures in
    (dense_level a.image.now.bytes.now a.image.now.frame p.0 _ p.3 refl r, refl)
