-- The slot number of the branch, and the sum on the levels below.
use mathlib.Core.Path.{◌≡◌, ap, ap₂, ◌∙◌}
use mathlib.Core.List.{[]}
use Prim.Native.Nat.{ℕ, ◌+◌, ◌-◌}
use native.Mathlib.Omega.{arith}
use Rattle.nav_nodes.specs.Accepted.{nodes}
use Rattle.query_descent.specs.LevelSums.{slots_below}
use Rattle.walk_cursor.proofs.branch.branch_sum.Goals as goal

pub returns : goal.returns
returns c =
    let a = c.args in
    let e : 64 - (a.depth + 1) ≡ 63 - a.depth = omega arith in
    c.sum_below.ensures.0
    ∙ ap (λ (l : ℕ). c.child_and_slot-next.result.slot.0 + slots_below (nodes a.image.now.bytes.now a.image.now.frame) l c.child_and_slot-next.result.child.0 []) e
    ∙ ap₂ (λ (x y : ℕ). x + slots_below (nodes a.image.now.bytes.now a.image.now.frame) (63 - a.depth) y []) c.child_and_slot-next.ensures.slot_is c.child_and_slot-next.ensures.child_is
