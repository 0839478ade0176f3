-- The first leaf at or below a node of an image, and behind a branch of one, down by first branches: each label goes to a key behind the bytes that lead to its node.
use Rattle.std.specs.Prelude.{ℕ, suc, ◌+◌, ◌-◌, ◌<◌, ◌≡◌, List, [], ◌∷◌, ◌++◌, length, set}
use Rattle.std.proofs.Math.Path.{refl, ap}
use Rattle.std.proofs.Common.{sym, ap₂, ◌∙◌, true≢false, append-nil, arith, add-one, take-suc-set}
use Rattle.std.proofs.Math.Bool.{true, false}
use Rattle.std.proofs.Math.Option.{Option, none, some}
use Rattle.std.proofs.Math.ListN.{take}
use Rattle.spec.specs.Bytes.{Bytes}
use Rattle.spec.specs.Leaves.{Leaf}
use Rattle.spec.specs.Nodes.{Group, Node, node, is_exact, exact_slot, exact_leaf}
use Rattle.image.specs.declared.Frame.{Frame}
use Rattle.image.specs.declared.NodeNum.{NodeNum}
use Rattle.image.specs.declared.ValuePos.{ValuePos}
use Rattle.nav_nodes.specs.declared.BranchKind.TheVariants as Kind
use Rattle.nav_nodes.specs.declared.NextBranch.{NextBranch}
use Rattle.nav_nodes.specs.Accepted.{Accepted, nodes}
use Rattle.nav_branches.specs.Below.{own_slot, below, from_label, OnLevel, below_step, from_leaf, from_node}
use Rattle.nav_nodes.specs.Descent.{child_number}
use Rattle.nav_branches.specs.PathSteps.{BranchFrom, NodeBranch, same_index, rising, slot_is, child_is, child_on}
use Rattle.nav_nodes.specs.Positions.{branch_index, child_at, slot_at}
use Rattle.nav_nodes.specs.Slots.{node_at, slot_of}
use Rattle.query_descent.specs.Next.{head_of, behind_each, behind_twice, front_head, below_some}

-- ---- definitions

-- the first leaf at or below node m, to which the first d bytes of the key lead
abbrev pub leaf_below : List Node → Bytes → ℕ → ℕ → Option Leaf
leaf_below ns key m d = behind_each (take d key) (head_of (below ns (64 - d) m))

-- the first leaf behind the labels of that node that are not below y
abbrev pub leaf_behind : List Node → Bytes → ℕ → ℕ → ℕ → Option Leaf
leaf_behind ns key m d y = behind_each (take d key) (head_of (from_label ns (63 - d) m y))

-- ---- from a node

module _ (ns : List Node) (key : Bytes) (m d : ℕ) (deep : d < 64) where
  own_first : below ns (64 - d) m ≡ exact_leaf (own_slot (node_at ns m)) ++ from_label ns (63 - d) m 0
  own_first = let e : 64 - d ≡ suc (63 - d) = omega arith in ap (λ (l : ℕ). below ns l m) e ∙ below_step ns (63 - d) m

  -- it is an exact leaf
  pub below_exact : is_exact (node_at ns m) ≡ true → leaf_below ns key m d ≡ some (record { cut = take d key; exact = true; suffix = exact_slot (node_at ns m) })
  unfolding exact_leaf
  below_exact h = ap (λ (g : Group). behind_each (take d key) (head_of g)) own_first ∙ go (node_at ns m) h
    where
      go : (n : Node) → is_exact n ≡ true → behind_each (take d key) (head_of (exact_leaf (own_slot n) ++ from_label ns (63 - d) m 0)) ≡ some (record { cut = take d key; exact = true; suffix = exact_slot n })
      go (node none es) h = absurd (true≢false (sym h))
      go (node (some s) es) h = ap (λ (p : Bytes). some (record { cut = p; exact = true; suffix = s })) (append-nil (take d key))

  -- it is none
  pub below_plain : is_exact (node_at ns m) ≡ false → leaf_below ns key m d ≡ leaf_behind ns key m d 0
  unfolding exact_leaf
  below_plain h = ap (λ (g : Group). behind_each (take d key) (head_of g)) own_first ∙ go (node_at ns m) h
    where
      go : (n : Node) → is_exact n ≡ false → behind_each (take d key) (head_of (exact_leaf (own_slot n) ++ from_label ns (63 - d) m 0)) ≡ behind_each (take d key) (head_of (from_label ns (63 - d) m 0))
      go (node none es) h = refl
      go (node (some s) es) h = absurd (true≢false h)

-- The first branch from the label y on, by its own label.
pub behind_own : (s : Bytes) (f : Frame) (key : Bytes) (m d y : ℕ) (b : NextBranch) → OnLevel (nodes s f) (64 - d) m → BranchFrom s f m y b → (b.kind ≡ Kind.Absent → ⊥)
    → leaf_behind (nodes s f) key m d y ≡ leaf_behind (nodes s f) key m d b.label
unfolding from_label
behind_own s f key m d y b on is there = rw (same_index s f (64 - d) m y b on is there)

-- ---- from a branch

module _ (s : Bytes) (f : Frame) (a : Accepted s f) (key : Bytes) (m d : ℕ) (b : NextBranch) (h : NodeBranch s f m d b) (room : length key ≡ 64) where
  cut_next : take d key ++ (b.label ∷ []) ≡ take (d + 1) (set key d b.label)
  cut_next = rw (add-one d) (sym (take-suc-set key d b.label (omega (arith, h.deep))))

  -- it ends at an open leaf
  pub behind_leaf : (v : ValuePos) → v.0 ≡ slot_at s f m b.at.0 → b.kind ≡ Kind.Leaf
      → leaf_behind (nodes s f) key m d b.label ≡ some (record { cut = take (d + 1) (set key d b.label); exact = false; suffix = slot_of f.width (nodes s f) v.0 })
  behind_leaf v is ends =
      ap (λ (g : Group). behind_each (take d key) (head_of g))
      (from_leaf (nodes s f) (63 - d) m b.label b.kind h.branch_is.kind_is b.label (rising s f a m d b h) (h.branch_is.there h.there).label_is f.width a.writable.wide ends)
      ∙ ap₂ (λ (c : Bytes) (n : ℕ). some (record { cut = c; exact = false; suffix = slot_of f.width (nodes s f) n })) cut_next (sym (slot_is s f a m d b h v is ends))

  -- it continues to node c
  pub behind_child : (c : NodeNum) → c.0 ≡ child_at s f m b.at.0 → b.kind ≡ Kind.Child → leaf_behind (nodes s f) key m d b.label ≡ leaf_below (nodes s f) (set key d b.label) c.0 (d + 1)
  behind_child c is continues =
      let e : 64 - (d + 1) ≡ 63 - d = omega arith in
      let n = child_is s f a m d b h c is continues in
      let on = rw (e, n) at (child_on s f a m d b h c is continues) in
      let g : Group = below (nodes s f) (63 - d) (child_number (nodes s f) m (branch_index s f m b.label)) in
      ap (λ (g : Group). behind_each (take d key) (head_of g))
      (from_node (nodes s f) (63 - d) m b.label b.kind h.branch_is.kind_is b.label (rising s f a m d b h) (h.branch_is.there h.there).label_is continues)
      ∙ ap (behind_each (take d key)) (front_head (b.label ∷ []) g (from_label (nodes s f) (63 - d) m (b.label + 1)) (below_some (nodes s f) (63 - d) (child_number (nodes s f) m (branch_index s f m b.label)) on))
      ∙ behind_twice (take d key) b.label (head_of g)
      ∙ rw (cut_next, e, n)
