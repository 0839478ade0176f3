-- Up to the level reached there are entries and nodes.
use mathlib.Core.Path.{refl, ap}
use Prim.Native.Nat.{ℕ}
use mathlib.Core.List.{List}
use lib.ListN.{get_or}
use native.Mathlib.Omega.{arith}
use Rattle.build_passes.specs.LevelSums.{summing_root, summing_few, summing_next}
use Rattle.build_passes.proofs.count.sum_levels.Goals as goal

pub loop-d-init : goal.loop-d-init
loop-d-init c =
    let a = c.args.counts.now in
    (summing_root a.entries a.leaves a.nodes _ c.requires.0.width c.requires.1 (omega (arith, c.min.ensures)), refl)

pub overflow_add-counts-in-loop-d-2 : goal.overflow_add-counts-in-loop-d-2
overflow_add-counts-in-loop-d-2 c =
    let l = c.loop-d in
    let a = c.args.counts.now in
    omega (arith, summing_few a.entries a.leaves c.requires.0 l.d (omega arith) l.counts.entries l.counts.nodes l.invariant.0, ap (λ (x : List ℕ). get_or x l.d 0) l.invariant.1)

pub loop-d-preserved : goal.loop-d-preserved
loop-d-preserved c =
    let l = c.loop-d in
    let a = c.args.counts.now in
    let e = ap (λ (x : List ℕ). get_or x l.d 0) l.invariant.1 in
    (summing_next a.entries a.leaves c.requires.0 l.d (omega arith) l.counts.entries l.counts.nodes l.invariant.0 _ _ (omega (arith, e)) (omega arith), l.invariant.1)
