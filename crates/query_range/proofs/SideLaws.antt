-- One bound of a range at a node, by what the node has last or first: the branch with the bound's byte, and what the leaves behind it decide.
use Prim.Native.Nat.{ℕ, ◌+◌, ◌<◌, ◌≤◌}
use mathlib.Core.Path.{◌≡◌, sym, ◌∙◌}
use mathlib.Core.Bool.{false}
use native.Mathlib.Omega.{arith}
use lib.ListN.{length, get_or}
use Rattle.spec.specs.Bytes.{Bytes}
use Rattle.image.specs.declared.Frame.{Frame}
use Rattle.nav_nodes.specs.declared.FirstBranch.{FirstBranch}
use Rattle.nav_nodes.specs.FoundBranch.{IsFirstBranch}
use Rattle.nav_branches.specs.declared.edges.LastBranch.{LastBranch}
use Rattle.nav_branches.specs.EdgeContracts.{IsLastBranch}
use Rattle.query_range.specs.RangeWays.{KeyAt, KeyBranch, group_below, group_behind, left_of, reached_of, left_on, reached_on, next_upto, next_own, first_there}

module _ {s : Bytes} {f : Frame} {key : Bytes} {m d : ℕ} (n : KeyAt s f key m d) (more : d < length key) where
  -- the node has no label above the lower bound's byte
  pub last_on : {b : LastBranch} → IsLastBranch s f m (get_or key d 0) b → b.higher ≡ false
      → KeyBranch s f key m d b.kind b.at.0 × (left_of f key d (group_below s f m d) ≡ left_of f key (d + 1) (group_behind s f key m d))
  last_on l h = (record { from = n; more = more; kind_is = l.kind_is h; at_is = l.at_is h }, left_on n more (sym l.higher_is ∙ h))

  -- it is no exact leaf, and has no label below the upper bound's byte
  pub first_on : {b : FirstBranch} → IsFirstBranch s f m b → b.exact ≡ false → get_or key d 0 ≤ b.branch.label → reached_of f key d (group_below s f m d) ≡ reached_of f key (d + 1) (group_behind s f key m d)
  first_on b x upto = reached_on n more (sym b.exact_is ∙ x) (next_upto n more b.branch_is (omega arith) (first_there n b.branch_is) upto)

  -- its first label is that byte
  pub first_own : {b : FirstBranch} → IsFirstBranch s f m b → b.branch.label ≡ get_or key d 0 → KeyBranch s f key m d b.branch.kind b.branch.at.0
  first_own b e = next_own n more b.branch_is (omega arith) (first_there n b.branch_is) e
