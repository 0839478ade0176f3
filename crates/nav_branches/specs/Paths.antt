-- A path from the root, node by node with the label taken at each: the leaves behind it, and how it goes on to the next leaf.
use Prim.Native.Nat.{ℕ, zero, suc, ◌+◌, ◌-◌, ◌<◌, ◌≤◌}
use Rattle.std.specs.Prelude.{◌≡◌, length, get_or, drop, set}
use Rattle.std.proofs.Math.Path.{refl, sym, ap, ap₂}
use Rattle.std.proofs.Common.{◌∙◌, true≢false, take-suc-set, get_or-set_other}
use Rattle.std.proofs.Math.Bool.{true, false}
use mathlib.Core.List.{List, [], ◌∷◌, ◌++◌, map, map-append, map-map, append_assoc, append-nil}
use Rattle.std.proofs.Math.Option.{none, some}
use native.Mathlib.Omega.{arith}
use Rattle.std.proofs.Math.Numerals.{add-one}
use Rattle.std.proofs.Math.ListN.{take}
use Rattle.std.proofs.Math.Seq.{take-set-le, get_or-set_same}
use Rattle.spec.specs.Bytes.{Bytes}
use Rattle.spec.specs.Leaves.{Leaf}
use Rattle.spec.specs.Nodes.{Group, Node, node, branches_of, is_exact, exact_slot, prefix, exact_leaf}
use Rattle.image.specs.declared.NodeNum.{NodeNum}
use Rattle.image.specs.declared.ValuePos.{ValuePos}
use Rattle.nav_nodes.specs.declared.BranchKind.{BranchKind}
use Rattle.nav_nodes.specs.declared.BranchKind.TheVariants as Kind
use Rattle.nav_branches.specs.declared.LeafStop.{LeafStop}
use Rattle.nav_branches.specs.declared.LeafStop.TheVariants as Stop
use Rattle.nav_nodes.specs.Counting.{labels_below}
use Rattle.nav_nodes.specs.Slots.{node_at, slot_number, slot_of}
use Rattle.nav_nodes.specs.Descent.{child_number}
use Rattle.nav_nodes.specs.NextLabel.{first_kind, first_label}
use Rattle.nav_branches.specs.Below.{behind, own_slot, below, from_label, OnLevel, below_step, from_none, from_leaf, from_node}
use Rattle.theory.specs.Terms.{All}
use Rattle.theory.proofs.Lists.{map_ext}
use Rattle.theory.proofs.LinkedLevels.{Ascends}
use Rattle.theory.proofs.NodeBits.{SlotsWidth}

-- ---- definitions

-- the number of the path's node at depth d
abbrev pub node_on : List NodeNum → ℕ → ℕ
node_on path d = (get_or path d (record { 0 = 0 })).0

-- the leaves behind the first d labels of a path: from the deepest node up, those behind a higher label than the one taken
unfoldable pub rest : List Node → List NodeNum → Bytes → ℕ → List Leaf
rest ns path cut zero = []
rest ns path cut (suc d) = map (behind (take d cut)) (from_label ns (63 - d) (node_on path d) (suc (get_or cut d 0))) ++ rest ns path cut d

-- the leaves from the labels not below y of the path's node at depth d on
unfoldable pub onward : List Node → List NodeNum → Bytes → ℕ → ℕ → List Leaf
onward ns path cut d y = map (behind (take d cut)) (from_label ns (63 - d) (node_on path d) y) ++ rest ns path cut d

-- the leaves at or below the path's node at depth d, and those behind the path
unfoldable pub downward : List Node → List NodeNum → Bytes → ℕ → List Leaf
downward ns path cut d = map (behind (take d cut)) (below ns (64 - d) (node_on path d)) ++ rest ns path cut d

-- the leaf where a path ends, and those behind it: none; the exact leaf that the path's node is; the open leaf with slot v
unfoldable pub standing : ℕ → List Node → List NodeNum → Bytes → ℕ → LeafStop → List Leaf
standing w ns path cut d Stop.Nowhere = []
standing w ns path cut d Stop.Exact = record { cut = take d cut; exact = true; suffix = exact_slot (node_at ns (node_on path d)) } ∷ onward ns path cut d 0
standing w ns path cut d (Stop.Open v) = record { cut = take d cut; exact = false; suffix = slot_of w ns v.0 } ∷ rest ns path cut d

-- the nodes of a path to depth d stand on their levels
abbrev pub OnLevels : List Node → List NodeNum → ℕ → Type 0
OnLevels ns path d = (i : ℕ) → i ≤ d → OnLevel ns (64 - i) (node_on path i)

-- ---- up

-- behind a label, the higher ones of its node
pub rest_up : (ns : List Node) (path : List NodeNum) (cut : Bytes) (d : ℕ) → 0 < d → rest ns path cut d ≡ onward ns path cut (d - 1) (get_or cut (d - 1) 0 + 1)
unfolding rest onward
rest_up ns path cut zero h = absurd (omega arith)
rest_up ns path cut (suc d) h = let e : suc d - 1 ≡ d = omega arith in rw (e, add-one (get_or cut d 0))

-- a node with no branch left
pub onward_none : (ns : List Node) (path : List NodeNum) (cut : Bytes) (d y : ℕ) (kind : BranchKind) → kind ≡ first_kind (drop (labels_below y (branches_of (node_at ns (node_on path d)))) (branches_of (node_at ns (node_on path d)))) → kind ≡ Kind.Absent
    → onward ns path cut d y ≡ rest ns path cut d
unfolding onward
onward_none ns path cut d y kind e h = rw (from_none ns (63 - d) (node_on path d) y kind e h)

-- above the root comes nothing
pub rest_none : (ns : List Node) (path : List NodeNum) (cut : Bytes) → rest ns path cut 0 ≡ []
unfolding rest
rest_none ns path cut = refl

-- ---- down

-- the path's node at a depth where one is stored
pub node_stored : (path : List NodeNum) (i : ℕ) (m : NodeNum) → i < length path → node_on (set path i m) i ≡ m.0
node_stored path i m h = ap (λ (n : NodeNum). n.0) (get_or-set_same path i m (record { 0 = 0 }) h)

-- and at another depth
pub node_kept : (path : List NodeNum) (i j : ℕ) (m : NodeNum) → (j ≡ i → ⊥) → node_on (set path i m) j ≡ node_on path j
node_kept path i j m h = ap (λ (n : NodeNum). n.0) (get_or-set_other path i j m (record { 0 = 0 }) h)

-- what stands at depth d or deeper does not matter
path_kept : (ns : List Node) (path : List NodeNum) (cut : Bytes) (d i : ℕ) (m : NodeNum) → d ≤ i → rest ns (set path i m) cut d ≡ rest ns path cut d
unfolding rest
path_kept ns path cut zero i m h = refl
path_kept ns path cut (suc d) i m h = rw (node_kept path i d m (λ e. omega arith), path_kept ns path cut d i m (omega arith))

cut_kept : (ns : List Node) (path : List NodeNum) (cut : Bytes) (d j x : ℕ) → d ≤ j → rest ns path (set cut j x) d ≡ rest ns path cut d
unfolding rest
cut_kept ns path cut zero j x h = refl
cut_kept ns path cut (suc d) j x h = rw (take-set-le d cut j x (omega arith), get_or-set_other cut j d x 0 (λ e. omega arith), cut_kept ns path cut d j x (omega arith))

-- bytes before a label before a leaf
prefix_twice : (p : Bytes) (x : ℕ) (g : Group) → map (behind p) (map (prefix x) g) ≡ map (behind (p ++ (x ∷ []))) g
prefix_twice p x g = map-map (behind p) (prefix x) g ∙ map_ext _ _ (λ l. ap (λ (c : Bytes). record { cut = c; exact = l.exact; suffix = l.suffix }) (sym (append_assoc p (x ∷ []) l.cut))) g

-- the branch with label x of the path's node at depth d
module _ (ns : List Node) (path : List NodeNum) (cut : Bytes) (d x : ℕ) (kind : BranchKind) (room : d < length cut)
    (is : kind ≡ first_kind (drop (labels_below x (branches_of (node_at ns (node_on path d)))) (branches_of (node_at ns (node_on path d)))))
    (up : Ascends (branches_of (node_at ns (node_on path d))))
    (named : x ≡ first_label (drop (labels_below x (branches_of (node_at ns (node_on path d)))) (branches_of (node_at ns (node_on path d))))) where
  cut_next : take d cut ++ (x ∷ []) ≡ take (d + 1) (set cut d x)
  cut_next = rw (add-one d) (sym (take-suc-set cut d x room))

  -- once it is taken, the leaves behind it are those of higher labels and of higher nodes
  rest_taken : map (behind (take d cut)) (from_label ns (63 - d) (node_on path d) (x + 1)) ++ rest ns path cut d ≡ rest ns path (set cut d x) (d + 1)
  unfolding rest
  rest_taken = rw (add-one d, add-one x, take-set-le d cut d x (omega arith), get_or-set_same cut d x 0 room, cut_kept ns path cut d d x (omega arith))

  -- it ends at an open leaf
  pub onward_leaf : (w : ℕ) → All (SlotsWidth w) ns → kind ≡ Kind.Leaf → (v : ValuePos) → v.0 ≡ slot_number ns (node_on path d) (labels_below x (branches_of (node_at ns (node_on path d))))
      → onward ns path cut d x ≡ standing w ns path (set cut d x) (d + 1) (Stop.Open v)
  unfolding onward standing
  onward_leaf w wide h v e =
      ap (λ (g : Group). map (behind (take d cut)) g ++ rest ns path cut d) (from_leaf ns (63 - d) (node_on path d) x kind is x up named w wide h)
      ∙ ap₂ (λ (c : Bytes) (g : Group). record { cut = c; exact = false; suffix = slot_of w ns (slot_number ns (node_on path d) (labels_below x (branches_of (node_at ns (node_on path d))))) } ∷ g) cut_next rest_taken
      ∙ ap (λ (n : ℕ). record { cut = take (d + 1) (set cut d x); exact = false; suffix = slot_of w ns n } ∷ rest ns path (set cut d x) (d + 1)) (sym e)

  -- it continues to node c
  pub onward_child : kind ≡ Kind.Child → (c : NodeNum) → c.0 ≡ child_number ns (node_on path d) (labels_below x (branches_of (node_at ns (node_on path d)))) → d + 1 < length path
      → onward ns path cut d x ≡ downward ns (set path (d + 1) c) (set cut d x) (d + 1)
  unfolding onward downward
  onward_child h c child long =
      let m : ℕ = child_number ns (node_on path d) (labels_below x (branches_of (node_at ns (node_on path d)))) in
      let e : 63 - d ≡ 64 - (d + 1) = omega arith in
      let b : below ns (63 - d) m ≡ below ns (64 - (d + 1)) (node_on (set path (d + 1) c) (d + 1)) = ap₂ (below ns) e (sym child ∙ sym (node_stored path (d + 1) c long)) in
      ap (λ (g : Group). map (behind (take d cut)) g ++ rest ns path cut d) (from_node ns (63 - d) (node_on path d) x kind is x up named h)
      ∙ ap (λ (g : Group). g ++ rest ns path cut d) (map-append (behind (take d cut)) (map (prefix x) (below ns (63 - d) m)) (from_label ns (63 - d) (node_on path d) (x + 1)))
      ∙ append_assoc (map (behind (take d cut)) (map (prefix x) (below ns (63 - d) m))) (map (behind (take d cut)) (from_label ns (63 - d) (node_on path d) (x + 1))) (rest ns path cut d)
      ∙ ap₂ ◌++◌ (prefix_twice (take d cut) x (below ns (63 - d) m) ∙ ap₂ (λ (p : Bytes) (g : Group). map (behind p) g) cut_next b) (rest_taken ∙ sym (path_kept ns path (set cut d x) (d + 1) (d + 1) c (omega arith)))

-- the path's node at depth d
module _ (ns : List Node) (path : List NodeNum) (cut : Bytes) (d : ℕ) (deep : d < 64) where
  own_first : below ns (64 - d) (node_on path d) ≡ exact_leaf (own_slot (node_at ns (node_on path d))) ++ from_label ns (63 - d) (node_on path d) 0
  own_first = let e : 64 - d ≡ suc (63 - d) = omega arith in ap (λ (l : ℕ). below ns l (node_on path d)) e ∙ below_step ns (63 - d) (node_on path d)

  -- it is an exact leaf
  pub downward_exact : (w : ℕ) → is_exact (node_at ns (node_on path d)) ≡ true → downward ns path cut d ≡ standing w ns path cut d Stop.Exact
  unfolding downward standing onward exact_leaf
  downward_exact w h = ap (λ (g : Group). map (behind (take d cut)) g ++ rest ns path cut d) own_first ∙ go (node_at ns (node_on path d)) h
    where
      go : (n : Node) → is_exact n ≡ true → map (behind (take d cut)) (exact_leaf (own_slot n) ++ from_label ns (63 - d) (node_on path d) 0) ++ rest ns path cut d
          ≡ record { cut = take d cut; exact = true; suffix = exact_slot n } ∷ (map (behind (take d cut)) (from_label ns (63 - d) (node_on path d) 0) ++ rest ns path cut d)
      go (node none es) h = absurd (true≢false (sym h))
      go (node (some s) es) h = ap (λ (p : Bytes). record { cut = p; exact = true; suffix = s } ∷ (map (behind (take d cut)) (from_label ns (63 - d) (node_on path d) 0) ++ rest ns path cut d)) (append-nil (take d cut))

  -- it is none
  pub downward_plain : is_exact (node_at ns (node_on path d)) ≡ false → downward ns path cut d ≡ onward ns path cut d 0
  unfolding downward onward exact_leaf
  downward_plain h = ap (λ (g : Group). map (behind (take d cut)) g ++ rest ns path cut d) own_first ∙ go (node_at ns (node_on path d)) h
    where
      go : (n : Node) → is_exact n ≡ false → map (behind (take d cut)) (exact_leaf (own_slot n) ++ from_label ns (63 - d) (node_on path d) 0) ++ rest ns path cut d
          ≡ map (behind (take d cut)) (from_label ns (63 - d) (node_on path d) 0) ++ rest ns path cut d
      go (node none es) h = refl
      go (node (some s) es) h = absurd (true≢false h)

-- the first branch from the label y on, by its own label
pub onward_first : (ns : List Node) (path : List NodeNum) (cut : Bytes) (d x y : ℕ) → labels_below x (branches_of (node_at ns (node_on path d))) ≡ labels_below y (branches_of (node_at ns (node_on path d))) → onward ns path cut d y ≡ onward ns path cut d x
unfolding onward from_label
onward_first ns path cut d x y e = rw e

-- ---- the leaf where a path ends

module _ (w : ℕ) (ns : List Node) (path : List NodeNum) (cut : Bytes) (d : ℕ) where
  -- none
  pub standing_none : standing w ns path cut d Stop.Nowhere ≡ []
  unfolding standing
  standing_none = refl

  -- an exact leaf: behind it come its node's branches
  pub standing_exact : standing w ns path cut d Stop.Exact ≡ record { cut = take d cut; exact = true; suffix = exact_slot (node_at ns (node_on path d)) } ∷ onward ns path cut d 0
  unfolding standing
  standing_exact = refl

  -- an open leaf: behind it come the higher labels of its node
  pub standing_open : (v : ValuePos) → 0 < d → standing w ns path cut d (Stop.Open v) ≡ record { cut = take d cut; exact = false; suffix = slot_of w ns v.0 } ∷ onward ns path cut (d - 1) (get_or cut (d - 1) 0 + 1)
  unfolding standing
  standing_open v h = ap (λ (g : List Leaf). record { cut = take d cut; exact = false; suffix = slot_of w ns v.0 } ∷ g) (rest_up ns path cut d h)

-- ---- from the root

behind_nothing : (g : Group) → map (behind []) g ≡ g
behind_nothing [] = refl
behind_nothing (l ∷ g) = ap (λ (h : Group). l ∷ h) (behind_nothing g)

-- from the root on, nothing is before and nothing above
pub onward_root : (ns : List Node) (path : List NodeNum) (cut : Bytes) (y : ℕ) → onward ns path cut 0 y ≡ from_label ns 63 (node_on path 0) y
unfolding onward rest
onward_root ns path cut y = append-nil (map (behind []) (from_label ns 63 (node_on path 0) y)) ∙ behind_nothing (from_label ns 63 (node_on path 0) y)
