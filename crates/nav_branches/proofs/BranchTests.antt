-- What a test of a branch's kind says in the arm of the other kinds.
use mathlib.Core.Path.{◌≡◌, refl}
use Rattle.nav_nodes.specs.declared.BranchKind.{BranchKind}
use Rattle.nav_nodes.specs.declared.BranchKind.TheVariants.{Absent, Leaf, Child}

-- a branch that is there and does not continue ends at a leaf
pub ends_leaf : (k : BranchKind) → (k ≡ Child → ⊥) → (k ≡ Absent → ⊥) → k ≡ Leaf
ends_leaf Absent h n = absurd (n refl)
ends_leaf Leaf h n = refl
ends_leaf Child h n = absurd (h refl)
