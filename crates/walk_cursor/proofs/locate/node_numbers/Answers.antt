-- The nodes before index i have been copied.
use Prim.Native.Nat.{ℕ, ◌+◌, ◌<◌}
use mathlib.Core.Path.{◌≡◌, refl, ◌∙◌}
use mathlib.Core.Bool.{Bool, true, false}
use native.Mathlib.Omega.{arith}
use lib.Dec.{ltb}
use lib.ListN.{get_or, set, length-set, length-replicate}
use lib.Seq.{get_or-set_same, get_or-set_other}
use borrow.Author.Tests.{ltb-true, ltb-false}
use Rattle.nav_branches.specs.Paths.{node_on}
use Rattle.walk_path.specs.LevelLaws.{numbered_all}
use Rattle.walk_cursor.proofs.locate.node_numbers.Goals as goal

pub loop-i-init : goal.loop-i-init
loop-i-init c =
    (length-replicate {A = ℕ} 64 0, omega arith, λ j h. absurd (omega arith))

pub offset_bounds-path-i : goal.offset_bounds-path-i
offset_bounds-path-i c =
    omega (arith, c.loop-i-test.true)

pub bounds-path-i : goal.bounds-path-i
bounds-path-i c =
    omega (arith, c.loop-i-test.true, c.requires)

pub offset_bounds-numbers-i : goal.offset_bounds-numbers-i
offset_bounds-numbers-i c =
    omega (arith, c.loop-i-test.true)

pub bounds-numbers-i : goal.bounds-numbers-i
bounds-numbers-i c =
    omega (arith, c.loop-i-test.true, c.loop-i.invariant.0)

pub loop-i-smaller : goal.loop-i-smaller
loop-i-smaller c =
    omega (arith, c.loop-i-test.true)

pub loop-i-preserved : goal.loop-i-preserved
loop-i-preserved c =
    let l = c.loop-i in
    let p = c.args.path.nodes in
    let n = node_on p l.i in
    let t = c.loop-i-test.true in
    (length-set l.numbers l.i n ∙ l.invariant.0, omega (arith, t), λ j h. by_place j h (ltb j l.i) refl)
  where
    by_place : (j : ℕ) → j < c.loop-i.i + 1 → (b : Bool) → ltb j c.loop-i.i ≡ b → get_or (set c.loop-i.numbers c.loop-i.i (node_on c.args.path.nodes c.loop-i.i)) j 0 ≡ node_on c.args.path.nodes j
    by_place j h true q =
        let l = c.loop-i in
        let k = ltb-true j l.i q in
        get_or-set_other l.numbers l.i j (node_on c.args.path.nodes l.i) 0 (λ e. omega arith) ∙ l.invariant.2 j k
    by_place j h false q =
        let l = c.loop-i in
        let e : j ≡ l.i = omega (arith, ltb-false j l.i q) in
        rw e (get_or-set_same l.numbers l.i (node_on c.args.path.nodes l.i) 0 (omega (arith, c.loop-i-test.true, l.invariant.0)))

pub returns : goal.returns
returns c =
    let l = c.loop-i in
    numbered_all l.numbers c.args.path.nodes (omega (arith, l.invariant.0, c.requires)) (λ i h. l.invariant.2 i (omega (arith, c.loop-i-test.false, c.requires)))
