-- The loop: the nodes before `node` are judged, it is an exact leaf or the end, and so many exact leaves stand before it.
use mathlib.Core.Path.{◌≡◌}
use mathlib.Core.Bool.{Bool}
use Prim.Native.Nat.{ℕ, ◌-◌, ◌≤◌, ◌<◌}
use Rattle.spec.specs.Bytes.{Bytes}
use Rattle.bits.specs.Bits.{bit_at, rank}
use Rattle.image.specs.declared.Frame.{Frame}
use Rattle.check_levels.specs.Bodies.{dl_body, dc_body, dp_body}
use Rattle.check_levels.specs.Ranges.{all_from}
use Rattle.check_slots.specs.DenseExact.{dense_exact}
use Rattle.check_slots.specs.SlotTests.{clear_at, dense_clear}
use Rattle.check_slots.proofs.dense.dense_clear.Given as goal

-- the nodes from one on
abbrev left : Bytes → Frame → ℕ → Bool
left s f i = all_from (dense_exact (clear_at s f 0) (dl_body s f) (dc_body s f) (dp_body s f)) i (f.dense.nodes - i)

abbrev pub invariant-loop-node : goal.invariant-loop-node
invariant-loop-node l = (l.node.0 ≤ l.image.frame.dense.nodes) × (l.exacts ≡ rank (dp_body l.image.bytes.now l.image.frame) l.node.0) × (l.node.0 < l.image.frame.dense.nodes → bit_at (dp_body l.image.bytes.now l.image.frame) l.node.0 ≡ 1) × (dense_clear l.image.bytes.now l.image.frame ≡ left l.image.bytes.now l.image.frame l.node.0)

abbrev pub decreases-loop-node : goal.decreases-loop-node
decreases-loop-node l = l.image.frame.dense.nodes - l.node.0
