-- The key that was read is above the last, or not.
use Rattle.spec.specs.Bytes.{Bytes}
use Rattle.std.specs.declared.cmp.Ordering.{Ordering}
use mathlib.Core.Path.{◌≡◌, sym, ap₂, ◌∙◌}
use Prim.Native.Nat.{ℕ, ◌+◌, ◌-◌}
use lib.ListN.{length, take, drop}
use Rattle.bits.specs.Bits.{key}
use Rattle.image.specs.Records.{tail_part}
use Rattle.keys.specs.Order.{order}
use Rattle.keys.proofs.OrderLaws.{order_is_below, order_not_below}
use Rattle.build_list.proofs.judge.judge_record.Goals as goal

-- the two keys as the fronts of the parts of the list that were compared
fronts : (s : Bytes) (i m j n : ℕ) (o : Ordering) → o ≡ order (take m (take (length s - i) (drop i s))) (take n (take (length s - j) (drop j s))) → order (key s i m) (key s j n) ≡ o
fronts s i m j n o h = sym (ap₂ (λ (k l : Bytes). order (take m k) (take n l)) (tail_part s i) (tail_part s j)) ∙ sym h

pub returns-in-Less : goal.returns-in-Less
returns-in-Less c =
    let a = c.args in
    let n = c.in_ok-n.n in
    let r = c.in_ok-n.ensures in
    let o = fronts a.s.now a.last a.m (a.at + 3) n _ c.compare_fronts.ensures in
    record { within = r.within; few = r.few; high = λ f. r.high f (key a.s.now a.last a.m) (order_is_below (key a.s.now a.last a.m) (key a.s.now (a.at + 3) n) (o ∙ c.in-Less.is)) }

pub returns-in-Equal : goal.returns-in-Equal
returns-in-Equal c =
    let a = c.args in
    let n = c.in_ok-n.n in
    let r = c.in_ok-n.ensures in
    let o = fronts a.s.now a.last a.m (a.at + 3) n _ c.compare_fronts.ensures in
    λ f. r.low f (key a.s.now a.last a.m) (order_not_below (key a.s.now a.last a.m) (key a.s.now (a.at + 3) n) (rw o c.in-Equal.is))
