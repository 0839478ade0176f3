-- The loop: what is left of the starts has all those with the label FF.
use mathlib.Core.Path.{◌≡◌}
use Prim.Native.Nat.{ℕ, ◌/◌, ◌^◌, ◌<◌}
use native.Mathlib.Omega.{arith}
use lib.Count.{count_trailing_zeros}
use lib.Pow.{pow_pos}
use Rattle.bits.proofs.RankLaws.{one_shl}
use Rattle.check_slots.specs.WordDigits.{lowest_within, lowest_less}
use Rattle.check_slots.specs.SparseWords.{all_kept, one_less}
use Rattle.check_slots.proofs.node_starts.from_full.Goals as goal

-- the lowest that is left is in the word
within : (y : ℕ) → y < 2 ^ 64 → (y ≡ 0 → ⊥) → count_trailing_zeros 64 y < 64
within y few some = let is : y ≡ y / 2 ^ 0 = omega arith in omega (arith, lowest_within y 0 y is few some)

pub loop-rest-init : goal.loop-rest-init
loop-rest-init c =
    all_kept c.args.sl.now c.args.q c.args.starts (omega arith)

pub overflow_cast-at : goal.overflow_cast-at
overflow_cast-at c =
    let w = within c.loop-rest.rest c.loop-rest.invariant.few c.loop-rest-test.true in
    omega arith

pub overflow_mul-q : goal.overflow_mul-q
overflow_mul-q c =
    omega arith

pub overflow_add-q : goal.overflow_add-q
overflow_add-q c =
    let w = within c.loop-rest.rest c.loop-rest.invariant.few c.loop-rest-test.true in
    omega arith

pub bounds-sl-q : goal.bounds-sl-q
bounds-sl-q c =
    let w = within c.loop-rest.rest c.loop-rest.invariant.few c.loop-rest-test.true in
    omega arith

pub returns-then-sl-q : goal.returns-then-sl-q
returns-then-sl-q c =
    c.loop-rest.invariant

pub overflow_shl-rest : goal.overflow_shl-rest
overflow_shl-rest c =
    within c.loop-rest.rest c.loop-rest.invariant.few c.loop-rest-test.true

pub overflow_sub-rest : goal.overflow_sub-rest
overflow_sub-rest c =
    let l = c.loop-rest in
    let some = c.loop-rest-test.true in
    rw (one_shl 64 (count_trailing_zeros 64 l.rest) (within l.rest l.invariant.few some)) (lowest_less l.rest l.invariant.few some).0

pub loop-rest-smaller : goal.loop-rest-smaller
loop-rest-smaller c =
    let l = c.loop-rest in
    let some = c.loop-rest-test.true in
    let t : ℕ = count_trailing_zeros 64 l.rest in
    rw (one_shl 64 t (within l.rest l.invariant.few some)) (omega (arith, pow_pos t, (lowest_less l.rest l.invariant.few some).0))

pub loop-rest-preserved : goal.loop-rest-preserved
loop-rest-preserved c =
    let a = c.args in
    let l = c.loop-rest in
    let some = c.loop-rest-test.true in
    rw (one_shl 64 (count_trailing_zeros 64 l.rest) (within l.rest l.invariant.few some)) (one_less a.sl.now a.q a.starts l.rest l.invariant some c.if-sl-q.false)

pub returns : goal.returns
returns c =
    rw c.loop-rest-test.false at c.loop-rest.invariant
