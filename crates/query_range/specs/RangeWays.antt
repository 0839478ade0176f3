-- A range over an accepted image, bound by bound: what the bytes passed so far leave of it, one law for each step of the ways along the bounds, and one for each end of the way along the bytes that both share.
use Rattle.std.specs.Prelude.{ℕ, suc, ◌+◌, ◌-◌, ◌<◌, ◌≤◌, ◌≡◌, Bool, ◌||◌, get_or, drop}
use Rattle.std.proofs.Math.Path.{refl, ap, ap₂}
use Rattle.std.proofs.Common.{sym, ◌∙◌, arith, drop_of_length-le, ltb-true, ltb-false, lt-ltb, le-ltb}
use Rattle.std.proofs.Math.Bool.{true, false, not}
use mathlib.Core.List.{List, [], ◌∷◌}
use Rattle.std.proofs.Math.ListN.{length}
use Rattle.std.proofs.Math.Dec.{ltb}
use Rattle.spec.specs.Bytes.{Bytes, bit, any, count, shared}
use Rattle.spec.specs.Keys as keys
use Rattle.spec.specs.Leaves.{Leaf, real, reals, highest, lowest}
use Rattle.spec.specs.Nodes.{Group, is_exact, read_leaves}
use Rattle.spec.specs.Questions.{range}
use Rattle.image.specs.declared.Frame.{Frame}
use Rattle.nav_nodes.specs.declared.BranchKind.{BranchKind}
use Rattle.nav_nodes.specs.declared.BranchKind.TheVariants.{Absent, Leaf as Ends, Child}
use Rattle.nav_nodes.specs.declared.Found.{Found}
use Rattle.nav_nodes.specs.Accepted.{Accepted, nodes, real_leaves, real_realizable, real_sized}
use Rattle.nav_branches.specs.Below.{below, OnLevel, Root, level_child, level_node, level_left, level_branch}
use Rattle.nav_nodes.specs.Counting.{counts}
use Rattle.nav_nodes.specs.FoundBranch.{node_count, IsNode}
use Rattle.nav_nodes.specs.NextBranch.{IsNextBranch}
use Rattle.nav_nodes.specs.NextLabel.{first_kind, kind_with, is_there}
use Rattle.nav_branches.specs.PathSteps.{node_in}
use Rattle.nav_nodes.specs.Positions.{branches, branch_index, child_at, slot_at, Within, BranchAt}
use Rattle.nav_nodes.specs.Slots.{node_at, slot_of}
use Rattle.query_range.specs.AtLabel.{at_label, size_from, at_absent, at_open, at_child}
use Rattle.query_descent.specs.Bounds.{slot_passed, slot_reached, real_highest, real_lowest}
use Rattle.query_descent.specs.Ordered.{passed, reached, counted_is, range_counted}
use Rattle.query_descent.specs.OpenBetween.{open_between}
use Rattle.query_range.specs.Parting.{some_left, some_reached, some_met, left_none, reached_none, left_open, reached_open, ahead_none, named_index, named_kind, ahead_lower, ahead_upto, ahead_higher, left_higher, left_same, reached_end, reached_exact, reached_lower, reached_same, met_none, met_open, met_same, met_past, met_above, met_between, met_parted, left_end, met_end}
use Rattle.query_descent.specs.Root.{count_map}
use Rattle.query_descent.specs.Seeking.{first_child}
use Rattle.query_descent.specs.Seeks.{root_of, some_leaf}
use Rattle.query_descent.specs.Followed.{node_length}
use Rattle.query_descent.specs.Leads.{AtByte, Leads, along, BranchMissing, LeafBehind, shared_byte}
use Rattle.query_descent.specs.Steps.{slot_in}
use Rattle.query_descent.specs.SuffixBytes.{key_next}

-- ---- definitions

-- The first d bytes of a key lead to node m, which stands on its level.
pub record KeyAt (s : Bytes) (f : Frame) (key : Bytes) (m d : ℕ) : Type 0 where
  pub accepted : Accepted s f
  pub short : length key ≤ 64
  pub depth_in : d ≤ length key
  pub level : OnLevel (nodes s f) (64 - d) m

-- There the key's next byte has a branch of this kind at position p.
pub record KeyBranch (s : Bytes) (f : Frame) (key : Bytes) (m d : ℕ) (kind : BranchKind) (p : ℕ) : Type 0 where
  pub from : KeyAt s f key m d
  pub more : d < length key
  pub kind_is : kind ≡ kind_with (get_or key d 0) (drop (branch_index s f m (get_or key d 0)) (branches s f m))
  pub at_is : BranchAt s f m (branch_index s f m (get_or key d 0)) p

-- the leaves at or below node m at depth d, and those behind its branch with the byte of a key there
abbrev pub group_below : Bytes → Frame → ℕ → ℕ → Group
group_below s f m d = below (nodes s f) (64 - d) m

abbrev pub group_behind : Bytes → Frame → Bytes → ℕ → ℕ → Group
group_behind s f key m d = at_label (nodes s f) (64 - (d + 1)) m (get_or key d 0)

-- whether a leaf of a group does not end below lo, the first d bytes of lo before its cut key
abbrev pub left_of : Frame → Bytes → ℕ → Group → Bool
left_of f lo d g = some_left (slot_passed f.hash_width (length lo)) (drop d lo) g

-- whether one does not start above hi
abbrev pub reached_of : Frame → Bytes → ℕ → Group → Bool
reached_of f hi d g = some_reached (slot_reached f.hash_width (length hi)) (drop d hi) g

-- whether one does neither, lo not above hi
abbrev pub met_of : Frame → Bytes → Bytes → ℕ → Group → Bool
met_of f lo hi d g = some_met (slot_passed f.hash_width (length lo)) (slot_reached f.hash_width (length hi)) (drop d lo) (drop d hi) g

-- The first d bytes of both bounds lead to node m, and the leaves at or below it decide the range.
pub record BothAt (s : Bytes) (f : Frame) (lo hi : Bytes) (m d : ℕ) : Type 0 where
  pub lower : KeyAt s f lo m d
  pub upper : KeyAt s f hi m d
  pub decides : range (real_leaves s f) lo hi ≡ bit (met_of f lo hi d (group_below s f m d))

-- The first d bytes of both bounds are the cut key of the open leaf behind the branch of node m at position p, and this leaf decides the range.
pub record BothLeaf (s : Bytes) (f : Frame) (lo hi : Bytes) (m p d : ℕ) : Type 0 where
  pub within : Within s f m p
  pub slot_in : slot_at s f m p < f.leaves
  pub lo_in : d ≤ length lo
  pub hi_in : d ≤ length hi
  pub decides : range (real_leaves s f) lo hi ≡ bit (open_between s f lo hi (slot_at s f m p) d)

-- no leaf is reached where there is none
pub reached_empty : (f : Frame) (key : Bytes) (d : ℕ) (g : Group) → g ≡ [] → reached_of f key d g ≡ false
reached_empty f key d g e = rw e (reached_none (slot_reached f.hash_width (length key)) (drop d key))

-- ---- behind a branch

module _ {s : Bytes} {f : Frame} {key : Bytes} {m d : ℕ} {kind : BranchKind} {p : ℕ} (b : KeyBranch s f key m d kind p) where
  level_more : 64 - d ≡ suc (64 - (d + 1))
  level_more = omega (arith, b.more, b.from.short)

  -- no leaf
  behind_absent : kind ≡ Absent → group_behind s f key m d ≡ []
  behind_absent h = at_absent (nodes s f) (64 - (d + 1)) m (get_or key d 0) kind b.kind_is h

  -- an open leaf, whose slot is one of the leaves
  behind_open : (slot : ℕ) → slot ≡ slot_at s f m p → kind ≡ Ends → group_behind s f key m d ≡ record { cut = []; exact = false; suffix = slot_of f.width (nodes s f) slot } ∷ []
  behind_open slot e h =
      rw (e ∙ b.at_is.slot_is) (at_open (nodes s f) (64 - (d + 1)) m (get_or key d 0) kind b.kind_is f.width b.from.accepted.writable.wide h)

  pub open_in : (slot : ℕ) → slot ≡ slot_at s f m p → kind ≡ Ends → slot < f.leaves
  open_in slot e h = omega (arith, e, b.at_is.slot_is, slot_in (nodes s f) m (get_or key d 0) kind b.kind_is h, b.from.accepted.writable.leaf_total)

  -- the leaves at or below a child, which stands on its level
  behind_child : (c : ℕ) → c ≡ child_at s f m p → kind ≡ Child → group_behind s f key m d ≡ group_below s f c (d + 1)
  behind_child c e h = rw (e ∙ b.at_is.child_is) (at_child (nodes s f) (64 - (d + 1)) m (get_or key d 0) kind b.kind_is h)

  child_level : (c : ℕ) → c ≡ child_at s f m p → kind ≡ Child → OnLevel (nodes s f) (64 - (d + 1)) c
  child_level c e h =
      rw (e ∙ b.at_is.child_is) (level_child (nodes s f) (64 - (d + 1)) m (branch_index s f m (get_or key d 0)) (rw level_more at b.from.level) (first_child (get_or key d 0) (drop (branch_index s f m (get_or key d 0)) (branches s f m)) (sym b.kind_is ∙ h)))

  pub child_key : (c : ℕ) → c ≡ child_at s f m p → kind ≡ Child → KeyAt s f key c (d + 1)
  child_key c e h = record { accepted = b.from.accepted; short = b.from.short; depth_in = omega (arith, b.more); level = child_level c e h }

  -- what they say of the lower bound
  pub left_nothing : kind ≡ Absent → left_of f key (d + 1) (group_behind s f key m d) ≡ false
  left_nothing h = rw (behind_absent h) (left_none (slot_passed f.hash_width (length key)) (drop (d + 1) key))

  pub left_leaf : (slot : ℕ) → slot ≡ slot_at s f m p → kind ≡ Ends → left_of f key (d + 1) (group_behind s f key m d) ≡ not (slot_passed f.hash_width (length key) (slot_of f.width (nodes s f) slot) (drop (d + 1) key))
  left_leaf slot e h = rw (behind_open slot e h) (left_open (slot_passed f.hash_width (length key)) (drop (d + 1) key) (slot_of f.width (nodes s f) slot))

  pub left_child : (c : ℕ) → c ≡ child_at s f m p → kind ≡ Child → left_of f key (d + 1) (group_behind s f key m d) ≡ left_of f key (d + 1) (group_below s f c (d + 1))
  left_child c e h = rw (behind_child c e h)

  -- and of the upper
  pub reached_nothing : kind ≡ Absent → reached_of f key (d + 1) (group_behind s f key m d) ≡ false
  reached_nothing h = reached_empty f key (d + 1) (group_behind s f key m d) (behind_absent h)

  pub reached_leaf : (slot : ℕ) → slot ≡ slot_at s f m p → kind ≡ Ends → reached_of f key (d + 1) (group_behind s f key m d) ≡ slot_reached f.hash_width (length key) (slot_of f.width (nodes s f) slot) (drop (d + 1) key)
  reached_leaf slot e h = rw (behind_open slot e h) (reached_open (slot_reached f.hash_width (length key)) (drop (d + 1) key) (slot_of f.width (nodes s f) slot))

  pub reached_child : (c : ℕ) → c ≡ child_at s f m p → kind ≡ Child → reached_of f key (d + 1) (group_behind s f key m d) ≡ reached_of f key (d + 1) (group_below s f c (d + 1))
  reached_child c e h = rw (behind_child c e h)

-- ---- at a node

module _ {s : Bytes} {f : Frame} {key : Bytes} {m d : ℕ} (n : KeyAt s f key m d) where
  -- it is one of the image's nodes
  pub key_node : IsNode s f m
  key_node = record { accepted = n.accepted; inside = node_in s f n.accepted (64 - d) m n.level }

  module _ (more : d < length key) where
    levels : 64 - d ≡ suc (64 - (d + 1))
    levels = omega (arith, n.short)

    on : OnLevel (nodes s f) (suc (64 - (d + 1))) m
    on = rw levels at n.level

    -- ---- along the lower bound

    left_byte : left_of f key d (group_below s f m d) ≡ some_left (slot_passed f.hash_width (length key)) (get_or key d 0 ∷ drop (d + 1) key) (below (nodes s f) (suc (64 - (d + 1))) m)
    left_byte = rw (key_next key d more, levels)

    -- a label above its byte: a leaf is left
    pub left_above : is_there (first_kind (drop (branch_index s f m (get_or key d 0 + 1)) (branches s f m))) ≡ true → left_of f key d (group_below s f m d) ≡ true
    left_above h = left_byte ∙ left_higher (nodes s f) (64 - (d + 1)) m on (slot_passed f.hash_width (length key)) (get_or key d 0) (drop (d + 1) key) h

    -- none: those behind its byte decide
    pub left_on : is_there (first_kind (drop (branch_index s f m (get_or key d 0 + 1)) (branches s f m))) ≡ false → left_of f key d (group_below s f m d) ≡ left_of f key (d + 1) (group_behind s f key m d)
    left_on h = left_byte ∙ left_same (nodes s f) (64 - (d + 1)) m on (slot_passed f.hash_width (length key)) (get_or key d 0) (drop (d + 1) key) h

    -- ---- along the upper bound

    reached_byte : reached_of f key d (group_below s f m d) ≡ some_reached (slot_reached f.hash_width (length key)) (get_or key d 0 ∷ drop (d + 1) key) (below (nodes s f) (suc (64 - (d + 1))) m)
    reached_byte = rw (key_next key d more, levels)

    -- the node is an exact leaf: it is reached
    pub reached_here : is_exact (node_at (nodes s f) m) ≡ true → reached_of f key d (group_below s f m d) ≡ true
    reached_here h = reached_byte ∙ reached_exact (nodes s f) (64 - (d + 1)) m on (slot_reached f.hash_width (length key)) (get_or key d 0) (drop (d + 1) key) h

    -- a label below its byte: the leaves behind it are reached
    pub reached_under : size_from (nodes s f) (64 - (d + 1)) m (get_or key d 0) < size_from (nodes s f) (64 - (d + 1)) m 0 → reached_of f key d (group_below s f m d) ≡ true
    reached_under h = reached_byte ∙ reached_lower (nodes s f) (64 - (d + 1)) m on (slot_reached f.hash_width (length key)) (get_or key d 0) (drop (d + 1) key) h

    -- neither: those behind its byte decide
    pub reached_on : is_exact (node_at (nodes s f) m) ≡ false → size_from (nodes s f) (64 - (d + 1)) m (get_or key d 0) ≡ size_from (nodes s f) (64 - (d + 1)) m 0
        → reached_of f key d (group_below s f m d) ≡ reached_of f key (d + 1) (group_behind s f key m d)
    reached_on h e = reached_byte ∙ reached_same (nodes s f) (64 - (d + 1)) m on (slot_reached f.hash_width (length key)) (get_or key d 0) (drop (d + 1) key) h e

    -- ---- the first branch from a label on, the key's byte no lower

    module _ {y label p : ℕ} {kind : BranchKind} (b : IsNextBranch s f m y kind label p) (upto : y ≤ get_or key d 0) where
      -- there is none
      pub next_nothing : kind ≡ Absent → (size_from (nodes s f) (64 - (d + 1)) m (get_or key d 0) ≡ size_from (nodes s f) (64 - (d + 1)) m y) × (group_behind s f key m d ≡ [])
      next_nothing h = ahead_none (nodes s f) (64 - (d + 1)) m on y kind b.kind_is h (get_or key d 0) upto

      module _ (there : kind ≡ Absent → ⊥) where
        -- its label is below the byte
        pub next_under : label < get_or key d 0 → size_from (nodes s f) (64 - (d + 1)) m (get_or key d 0) < size_from (nodes s f) (64 - (d + 1)) m y
        next_under h = ahead_lower (nodes s f) (64 - (d + 1)) m on y kind b.kind_is there label (b.there there).label_is (get_or key d 0) h

        -- it is not
        pub next_upto : get_or key d 0 ≤ label → size_from (nodes s f) (64 - (d + 1)) m (get_or key d 0) ≡ size_from (nodes s f) (64 - (d + 1)) m y
        next_upto h = ahead_upto (nodes s f) (64 - (d + 1)) m on y kind b.kind_is there label (b.there there).label_is (get_or key d 0) upto h

        -- it is above the byte
        pub next_over : get_or key d 0 < label → group_behind s f key m d ≡ []
        next_over h = ahead_higher (nodes s f) (64 - (d + 1)) m on y kind b.kind_is there label (b.there there).label_is (get_or key d 0) upto h

        -- it is the byte
        pub next_own : label ≡ get_or key d 0 → KeyBranch s f key m d kind p
        next_own h = record {
          from = n;
          more = more;
          kind_is = rw (← h) (named_kind (nodes s f) (64 - (d + 1)) m on y kind b.kind_is there label (b.there there).label_is);
          at_is = rw (← h, named_index (nodes s f) (64 - (d + 1)) m on y kind b.kind_is there label (b.there there).label_is) (b.there there).at_is;
        }

  -- The first branch of the node is there.
  pub first_there : {label p : ℕ} {kind : BranchKind} → IsNextBranch s f m 0 kind label p → kind ≡ Absent → ⊥
  first_there b h = level_branch (nodes s f) (64 - d) m n.level (sym b.kind_is ∙ h)

  module _ (ended : length key ≤ d) where
    left : 64 - d ≡ suc (63 - d)
    left = omega (arith, level_left (nodes s f) (64 - d) m n.level)

    -- The lower bound has ended: it has passed no leaf at or below the node.
    pub left_stop : left_of f key d (group_below s f m d) ≡ true
    left_stop = rw (drop_of_length-le key {i = d} ended) (left_end (nodes s f) (64 - d) m n.level (slot_passed f.hash_width (length key)))

    -- The upper bound has ended: it reaches the exact leaf that the node is.
    pub reached_stop : reached_of f key d (group_below s f m d) ≡ is_exact (node_at (nodes s f) m)
    reached_stop = rw (drop_of_length-le key {i = d} ended, left) (reached_end (nodes s f) (63 - d) m (rw left at n.level) (slot_reached f.hash_width (length key)))

-- ---- along both bounds

module _ {s : Bytes} {f : Frame} {lo hi : Bytes} {m d : ℕ} (n : KeyAt s f lo m d) (u : KeyAt s f hi m d) where
  -- The lower bound has ended: the upper decides.
  pub met_stop : length lo ≤ d → met_of f lo hi d (group_below s f m d) ≡ reached_of f hi d (group_below s f m d)
  met_stop h = rw (drop_of_length-le lo {i = d} h) (met_end (nodes s f) (64 - d) m n.level (slot_passed f.hash_width (length lo)) (slot_reached f.hash_width (length hi)) (drop d hi))

  module _ (more : d < length lo) where
    met_byte : met_of f lo hi d (group_below s f m d) ≡ some_met (slot_passed f.hash_width (length lo)) (slot_reached f.hash_width (length hi)) (get_or lo d 0 ∷ drop (d + 1) lo) (drop d hi) (below (nodes s f) (suc (64 - (d + 1))) m)
    met_byte = rw (key_next lo d more, levels n more)

    -- The upper bound has ended, and the lower has not.
    pub met_ended : length hi ≤ d → met_of f lo hi d (group_below s f m d) ≡ false
    met_ended h =
        met_byte ∙ rw (drop_of_length-le hi {i = d} h) (met_past (nodes s f) (64 - (d + 1)) m (on n more) (slot_passed f.hash_width (length lo)) (slot_reached f.hash_width (length hi)) (drop (d + 1) lo) [] (get_or lo d 0))

    module _ (further : d < length hi) where
      met_bytes : met_of f lo hi d (group_below s f m d) ≡ some_met (slot_passed f.hash_width (length lo)) (slot_reached f.hash_width (length hi)) (get_or lo d 0 ∷ drop (d + 1) lo) (get_or hi d 0 ∷ drop (d + 1) hi) (below (nodes s f) (suc (64 - (d + 1))) m)
      met_bytes = met_byte ∙ rw (key_next hi d further)

      -- Both go on with the same byte.
      met_on : get_or lo d 0 ≡ get_or hi d 0 → met_of f lo hi d (group_below s f m d) ≡ met_of f lo hi (d + 1) (group_behind s f lo m d)
      met_on e =
          met_bytes
          ∙ rw (← e) (met_same (nodes s f) (64 - (d + 1)) m (on n more) (slot_passed f.hash_width (length lo)) (slot_reached f.hash_width (length hi)) (drop (d + 1) lo) (drop (d + 1) hi) (get_or lo d 0))

      -- The lower bound lies above the upper.
      pub met_crossed : get_or hi d 0 < get_or lo d 0 → met_of f lo hi d (group_below s f m d) ≡ false
      met_crossed h =
          met_bytes ∙ met_above (nodes s f) (64 - (d + 1)) m (on n more) (slot_passed f.hash_width (length lo)) (slot_reached f.hash_width (length hi)) (drop (d + 1) lo) (drop (d + 1) hi) (get_or lo d 0) (get_or hi d 0) h

      -- They part, and a label stands between their bytes.
      pub met_inside : size_from (nodes s f) (64 - (d + 1)) m (get_or hi d 0) < size_from (nodes s f) (64 - (d + 1)) m (get_or lo d 0 + 1) → met_of f lo hi d (group_below s f m d) ≡ true
      met_inside h =
          met_bytes ∙ met_between (nodes s f) (64 - (d + 1)) m (on n more) (slot_passed f.hash_width (length lo)) (slot_reached f.hash_width (length hi)) (drop (d + 1) lo) (drop (d + 1) hi) (get_or lo d 0) (get_or hi d 0) h

      -- They part, and none does: each is asked alone.
      pub met_apart : size_from (nodes s f) (64 - (d + 1)) m (get_or hi d 0) ≡ size_from (nodes s f) (64 - (d + 1)) m (get_or lo d 0 + 1)
          → met_of f lo hi d (group_below s f m d) ≡ left_of f lo (d + 1) (group_behind s f lo m d) || reached_of f hi (d + 1) (group_behind s f hi m d)
      met_apart h =
          met_bytes ∙ met_parted (nodes s f) (64 - (d + 1)) m (on n more) (slot_passed f.hash_width (length lo)) (slot_reached f.hash_width (length hi)) (drop (d + 1) lo) (drop (d + 1) hi) (get_or lo d 0) (get_or hi d 0) h

-- ---- from the root

module _ (s : Bytes) (f : Frame) (a : Accepted s f) where
  passed_counts : (ls : List Leaf) (k : Bytes) → passed (reals f.hash_width ls) k ≡ count (counts false (slot_passed f.hash_width (length k)) k) ls
  unfolding passed reals
  passed_counts ls k = count_map (λ l. keys.below (highest l) k) (real f.hash_width) (counts false (slot_passed f.hash_width (length k)) k) ls (λ l. real_highest f.hash_width l k)

  reached_counts : (ls : List Leaf) (k : Bytes) → reached (reals f.hash_width ls) k ≡ count (counts true (slot_reached f.hash_width (length k)) k) ls
  unfolding reached reals
  reached_counts ls k = count_map (λ l. not (keys.below k (lowest l))) (real f.hash_width) (counts true (slot_reached f.hash_width (length k)) k) ls (λ l. real_lowest f.hash_width l k)

  difference : (r p : ℕ) → ltb 0 (r - p) ≡ ltb p r
  difference r p = go (ltb p r) refl
    where
      go : (b : Bool) → ltb p r ≡ b → ltb 0 (r - p) ≡ b
      go true e = lt-ltb 0 (r - p) (omega (arith, ltb-true p r e))
      go false e = le-ltb 0 (r - p) (omega (arith, ltb-false p r e))

  -- Over the leaves of an image with nodes, those at or below its root.
  range_root : 0 < node_count f → (lo hi : Bytes) → range (real_leaves s f) lo hi ≡ bit (met_of f lo hi 0 (group_below s f 0 0))
  unfolding some_met
  range_root h lo hi =
      range_counted (real_leaves s f) lo hi ∙ ap (λ (c : ℕ). bit (ltb 0 c)) (counted_is f.real_width (real_leaves s f) lo hi (real_realizable s f a).ordered (real_sized s f a))
      ∙ ap bit (difference (reached (real_leaves s f) hi) (passed (real_leaves s f) lo) ∙ ap₂ ltb (passed_counts (read_leaves s) lo) (reached_counts (read_leaves s) hi))
      ∙ rw (root_of s f a (some_leaf s f a h)).whole

  -- An image without nodes has no leaf.
  pub range_nowhere : node_count f ≡ 0 → (lo hi : Bytes) → range (real_leaves s f) lo hi ≡ 0
  unfolding range any reals
  range_nowhere z lo hi = go (read_leaves s) (root_of s f a)
    where
      go : (ls : List Leaf) → (0 < length ls → Root (nodes s f) ls) → range (reals f.hash_width ls) lo hi ≡ 0
      go [] r = refl
      go (l ∷ ls) r = absurd (omega (arith, level_node (nodes s f) 64 0 (r (omega arith)).on, node_length s f a))

  -- No byte of a key leads to the root.
  key_root : 0 < node_count f → (key : Bytes) → length key ≤ 64 → KeyAt s f key 0 0
  key_root h key l = record { accepted = a; short = l; depth_in = omega arith; level = (root_of s f a (some_leaf s f a h)).on }

-- ---- along the bytes that both bounds share

module _ {s : Bytes} {f : Frame} {lo hi : Bytes} {m d : ℕ} (both : BothAt s f lo hi m d) (h : d < shared lo hi) {b : Found} (t : AtByte s f lo d m b) where
  -- the branch with the next byte
  both_branch : KeyBranch s f lo m d b.kind b.at.0
  both_branch = record { from = both.lower; more = t.more; kind_is = t.found.kind_is; at_is = t.found.at_is }

  -- the upper bound has the byte too
  both_more : d < length hi
  both_more = (shared_byte lo hi d h).1

  -- the leaves behind the branch decide
  both_behind : (g : Group) → group_behind s f lo m d ≡ g → range (real_leaves s f) lo hi ≡ bit (met_of f lo hi (d + 1) g)
  both_behind g e = both.decides ∙ ap bit (met_on both.lower both.upper t.more both_more (shared_byte lo hi d h).2 ∙ ap (met_of f lo hi (d + 1)) e)

  -- those at or below a child, to which both go on
  both_child : (c : ℕ) → c ≡ child_at s f m b.at.0 → b.kind ≡ Child → BothAt s f lo hi c (d + 1)
  both_child c e k = record {
    lower = child_key both_branch c e k;
    upper = record { accepted = both.upper.accepted; short = both.upper.short; depth_in = omega (arith, both_more); level = child_level both_branch c e k };
    decides = both_behind (group_below s f c (d + 1)) (behind_child both_branch c e k);
  }

  -- an open leaf
  both_open : b.kind ≡ Ends → BothLeaf s f lo hi m b.at.0 (d + 1)
  both_open k = let slot = slot_at s f m b.at.0 in let bits = slot_of f.width (nodes s f) slot in record {
    within = t.found.at_is.within;
    slot_in = open_in both_branch slot refl k;
    lo_in = omega (arith, t.more);
    hi_in = omega (arith, both_more);
    decides = both_behind (record { cut = []; exact = false; suffix = bits } ∷ []) (behind_open both_branch slot refl k) ∙ ap bit (met_open (slot_passed f.hash_width (length lo)) (slot_reached f.hash_width (length hi)) (drop (d + 1) lo) (drop (d + 1) hi) bits);
  }

  -- none
  both_absent : b.kind ≡ Absent → range (real_leaves s f) lo hi ≡ 0
  both_absent k = both_behind [] (behind_absent both_branch k) ∙ ap bit (met_none (slot_passed f.hash_width (length lo)) (slot_reached f.hash_width (length hi)) (drop (d + 1) lo) (drop (d + 1) hi))

module _ (s : Bytes) (f : Frame) (lo hi : Bytes) (a : Accepted s f) (lo_short : length lo ≤ 64) (hi_short : length hi ≤ 64) where
  -- The bytes lead to a node: the leaves at or below it decide.
  pub range_node : {d m : ℕ} → d ≤ shared lo hi → Leads s f lo d m → BothAt s f lo hi m d
  range_node h l = along (λ d m. d ≤ shared lo hi → BothAt s f lo hi m d) start (λ d m c r b q. both_child (r (omega arith)) (omega arith) b.here c b.child_is b.continues) l h
    where
      start : 0 < node_count f → 0 ≤ shared lo hi → BothAt s f lo hi 0 0
      start z q = record { lower = key_root s f a z lo lo_short; upper = key_root s f a z hi hi_short; decides = range_root s f a z lo hi }

  -- They lead to a node that has no branch with the next of them: no leaf is in the range.
  pub range_absent : {n : ℕ} → n ≤ shared lo hi → BranchMissing s f lo n → range (real_leaves s f) lo hi ≡ 0
  range_absent h t = both_absent (range_node (omega (arith, t.inside)) t.leads) (omega (arith, t.inside)) t.here t.absent

  -- They lead to an open leaf, which decides.
  pub range_leaf : {n m p d : ℕ} → n ≤ shared lo hi → LeafBehind s f lo n m p d → BothLeaf s f lo hi m p d
  range_leaf h t = rw (t.passed, t.at_is) (both_open (range_node (omega (arith, t.inside)) t.leads) (omega (arith, t.inside)) t.here t.ends)
