-- The bodies and their tables lie within the image, so what is counted and compared is what document 01 asks.
use Prim.Native.Nat.{ℕ, ◌<◌}
use native.Mathlib.Omega.{arith}
use Rattle.image.specs.FrameOf.{within}
use Rattle.check_tables.proofs.judge.count_sparse.Goals as goal

few : {n : ℕ} → n < 4294967296 → n < 1099511627776
few h = omega arith

pub ranks_at-children-requires : goal.ranks_at-children-requires
ranks_at-children-requires c =
    let a = c.args in
    let h = a.image.now.framed in
    let w = within a.image.now.bytes.now a.image.now.frame h in
    record { some = omega arith; few = omega arith; short = few h.entries; body = w.sc; ranks = w.rs }

pub samples_at-starts-requires : goal.samples_at-starts-requires
samples_at-starts-requires c =
    let a = c.args in
    let h = a.image.now.framed in
    let w = within a.image.now.bytes.now a.image.now.frame h in
    record { short = h.entries; body = w.sb; samples = rw c.blocks_for-samples.ensures w.ts }
