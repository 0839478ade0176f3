-- A range where its bounds part, by the first label of the node above the lower bound's byte, and by what is known of each bound alone.
use Prim.Native.Nat.{ℕ, ◌+◌, ◌-◌, ◌<◌, ◌≤◌}
use mathlib.Core.Logic.{◌⊎◌, ⊎_elim}
use mathlib.Core.Path.{◌≡◌, refl, ap, ◌∙◌}
use mathlib.Core.Bool.{Bool, true, false, ◌||◌}
use mathlib.Core.List.{[]}
use native.Mathlib.Omega.{arith}
use lib.ListN.{get_or}
use Rattle.spec.specs.Bytes.{Bytes}
use Rattle.image.specs.declared.Frame.{Frame}
use Rattle.nav_nodes.specs.declared.BranchKind.{BranchKind}
use Rattle.nav_nodes.specs.Accepted.{nodes}
use Rattle.nav_nodes.specs.NextBranch.{IsNextBranch}
use Rattle.nav_nodes.specs.NextLabel.{is_there, there_not, not_there}
use Rattle.query_range.specs.AtLabel.{size_from}
use Rattle.query_range.specs.RangeContracts.{Parted}
use Rattle.query_range.specs.RangeWays.{KeyBranch, group_below, group_behind, left_of, reached_of, met_of, reached_empty, met_apart, met_inside, next_nothing, next_under, next_upto, next_over, next_own}

or-false : (b : Bool) → b || false ≡ b
or-false true = refl
or-false false = refl

module _ {s : Bytes} {f : Frame} {lo hi : Bytes} {m d : ℕ} (p : Parted s f lo hi m d) (order : get_or lo d 0 ≤ get_or hi d 0) {kind : BranchKind} {label q : ℕ} (next : IsNextBranch s f m (get_or lo d 0 + 1) kind label q) where
  below : get_or lo d 0 + 1 ≤ get_or hi d 0
  below = omega (arith, p.differ, order)

  -- no label stands between the bounds' bytes: the leaves behind these decide
  none_between : size_from (nodes s f) (64 - (d + 1)) m (get_or hi d 0) ≡ size_from (nodes s f) (64 - (d + 1)) m (get_or lo d 0 + 1)
      → met_of f lo hi d (group_below s f m d) ≡ left_of f lo (d + 1) (group_behind s f lo m d) || reached_of f hi (d + 1) (group_behind s f hi m d)
  none_between = met_apart p.lower p.upper p.lo_more p.hi_more

  -- none stands up to the upper bound's: the lower bound decides
  pub apart_lower : (is_there kind ≡ false) ⊎ (get_or hi d 0 < label) → met_of f lo hi d (group_below s f m d) ≡ left_of f lo (d + 1) (group_behind s f lo m d)
  apart_lower h = go (is_there kind) refl
    where
      decides : (size_from (nodes s f) (64 - (d + 1)) m (get_or hi d 0) ≡ size_from (nodes s f) (64 - (d + 1)) m (get_or lo d 0 + 1)) × (group_behind s f hi m d ≡ [])
          → met_of f lo hi d (group_below s f m d) ≡ left_of f lo (d + 1) (group_behind s f lo m d)
      decides e =
          none_between e.0 ∙ ap (λ (b : Bool). left_of f lo (d + 1) (group_behind s f lo m d) || b) (reached_empty f hi (d + 1) (group_behind s f hi m d) e.1) ∙ or-false (left_of f lo (d + 1) (group_behind s f lo m d))

      go : (t : Bool) → is_there kind ≡ t → met_of f lo hi d (group_below s f m d) ≡ left_of f lo (d + 1) (group_behind s f lo m d)
      go false e = decides (next_nothing p.upper p.hi_more next below (not_there kind e))
      go true e =
          let there = there_not kind e in
          let over : get_or hi d 0 < label = ⊎_elim (λ n. absurd cc) (λ l. l) h in
          decides (next_upto p.upper p.hi_more next below there (omega (arith, over)), next_over p.upper p.hi_more next below there over)

  module _ (t : is_there kind ≡ true) where
    -- one stands between them
    pub apart_inside : label < get_or hi d 0 → met_of f lo hi d (group_below s f m d) ≡ true
    apart_inside l = met_inside p.lower p.upper p.lo_more p.hi_more (next_under p.upper p.hi_more next below (there_not kind t) l)

    -- the first is the upper bound's byte
    pub apart_own : label ≡ get_or hi d 0 → KeyBranch s f hi m d kind q
    apart_own = next_own p.upper p.hi_more next below (there_not kind t)

    module _ (l : get_or hi d 0 ≤ label) where
      -- then a leaf behind the lower bound's byte is left,
      pub apart_left : left_of f lo (d + 1) (group_behind s f lo m d) ≡ true → met_of f lo hi d (group_below s f m d) ≡ true
      apart_left e = none_between (next_upto p.upper p.hi_more next below (there_not kind t) l) ∙ ap (λ (b : Bool). b || reached_of f hi (d + 1) (group_behind s f hi m d)) e

      -- or none is, and the upper bound decides
      pub apart_upper : left_of f lo (d + 1) (group_behind s f lo m d) ≡ false → met_of f lo hi d (group_below s f m d) ≡ reached_of f hi (d + 1) (group_behind s f hi m d)
      apart_upper e = none_between (next_upto p.upper p.hi_more next below (there_not kind t) l) ∙ ap (λ (b : Bool). b || reached_of f hi (d + 1) (group_behind s f hi m d)) e
