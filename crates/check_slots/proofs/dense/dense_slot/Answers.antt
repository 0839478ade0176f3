-- The entries of the two tables lie within the image, and their difference modulo 2^32 is the slot.
use mathlib.Core.Path.{◌≡◌}
use Prim.Native.Nat.{ℕ, ◌+◌, ◌*◌, ◌≤◌, ◌<◌}
use native.Mathlib.Omega.{arith}
use mir.Val.{Fits}
use mir.Syntax.{w64}
use Rattle.bits.proofs.RankLaws.{rank_le}
use Rattle.check_levels.specs.Bodies.{dp_body}
use Rattle.check_slots.specs.DenseSlots.{entries_within, slot_read}
use Rattle.check_slots.proofs.dense.dense_slot.Goals as goal

sixteen : {m d : ℕ} → m < d → d < 4294967296 → Fits w64 (16 * m)
sixteen h l = record { fits = omega arith }

before_end : {n l : ℕ} → n + 4 ≤ l → l < 18446744073709551616 → Fits w64 n
before_end h k = record { fits = omega arith }

all_fits : {n e r m d : ℕ} → n < 4294967296 → e ≡ r → r ≤ m → m < d → d < 4294967296 → Fits w64 (n + 4294967296 + e)
all_fits h p q l k = record { fits = omega arith }

pub overflow_mul-node : goal.overflow_mul-node
overflow_mul-node c =
    let p = c.requires in
    sixteen p.2.within p.0.frame.dense

pub overflow_add-f : goal.overflow_add-f
overflow_add-f c =
    let p = c.requires in
    let a = c.args in
    before_end (entries_within a.image.now.bytes.now a.image.now.frame p.0 a.node.0 p.2.within).0 (omega arith)

pub read32-labels-requires : goal.read32-labels-requires
read32-labels-requires c =
    let p = c.requires in
    let a = c.args in
    (entries_within a.image.now.bytes.now a.image.now.frame p.0 a.node.0 p.2.within).0

pub overflow_mul-node-2 : goal.overflow_mul-node-2
overflow_mul-node-2 c =
    let p = c.requires in
    sixteen p.2.within p.0.frame.dense

pub overflow_add-f-2 : goal.overflow_add-f-2
overflow_add-f-2 c =
    let p = c.requires in
    let a = c.args in
    before_end (entries_within a.image.now.bytes.now a.image.now.frame p.0 a.node.0 p.2.within).1 (omega arith)

pub read32-children-requires : goal.read32-children-requires
read32-children-requires c =
    let p = c.requires in
    let a = c.args in
    (entries_within a.image.now.bytes.now a.image.now.frame p.0 a.node.0 p.2.within).1

pub overflow_add-result-2 : goal.overflow_add-result-2
overflow_add-result-2 c =
    let a = c.args in
    let p = c.requires in
    all_fits c.read32-labels.ensures.1 p.2.exacts_before (rank_le (dp_body a.image.now.bytes.now a.image.now.frame) a.node.0) p.2.within p.0.frame.dense

pub returns : goal.returns
returns c =
    let a = c.args in
    let p = c.requires in
    slot_read a.image.now.bytes.now a.image.now.frame p.0 p.1 a.node.0 _ _ _ p.2.within c.read32-labels.ensures.0 c.read32-children.ensures.0 p.2.exacts_before
