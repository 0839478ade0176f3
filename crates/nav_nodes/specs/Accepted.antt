-- What an accepted image holds, by its frame, as crate `image` has it: the facts that every function of this crate stands on. And its hash bits and real bits.
use Rattle.std.specs.Prelude.{ℕ, List, take, drop}
use Rattle.std.proofs.Common.{subst}
use Rattle.spec.specs.Bytes.{Bytes, Bits}
use Rattle.spec.specs.Leaves.{Leaf, reals}
use Rattle.spec.specs.Nodes.{read_leaves}
use Rattle.image.specs.declared.Frame.{Frame}
pub use Rattle.image.specs.Accepted.{dense_nodes, sparse_nodes, nodes, Body, Holds, Accepted}
use Rattle.nav_nodes.specs.Slots.{slot_of}
use Rattle.theory.proofs.LeafLists.{Realizable, AllWellSized, AllRealSized}
use Rattle.theory.proofs.KeyLeaves.{reals_realizable, reals_sized}

-- ---- hash bits and real bits

-- its leaves with their hash bits struck out
abbrev pub real_leaves : Bytes → Frame → List Leaf
real_leaves s f = reals f.hash_width (read_leaves s)

-- the hash bits in slot number v
abbrev pub hash_slot : Bytes → Frame → ℕ → Bits
hash_slot s f v = take f.hash_width (slot_of f.width (nodes s f) v)

-- the real bits behind them
abbrev pub real_slot : Bytes → Frame → ℕ → Bits
real_slot s f v = drop f.hash_width (slot_of f.width (nodes s f) v)

-- Its leaves with their hash bits struck out are a realizable list,
pub real_realizable : (s : Bytes) (f : Frame) → Accepted s f → Realizable f.real_width (real_leaves s f)
real_realizable s f a = reals_realizable f.hash_width f.real_width (read_leaves s) (subst (λ (w : ℕ). Realizable w (read_leaves s)) a.width_is a.realizable)

-- of real bits alone.
pub real_sized : (s : Bytes) (f : Frame) → Accepted s f → AllRealSized f.real_width (real_leaves s f)
real_sized s f a = reals_sized f.hash_width f.real_width (read_leaves s) (subst (λ (w : ℕ). AllWellSized w (read_leaves s)) a.width_is a.well_sized) a.spare
