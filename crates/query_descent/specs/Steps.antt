-- One level of a descent, by the kind of the branch that a node has at a label.
use Rattle.std.specs.Prelude.{ℕ, ◌<◌, ◌≡◌, refl, Bool, true, false, cond, List, [], ◌∷◌, length, drop}
use Rattle.std.proofs.Common.{sym, ◌∙◌, arith}
use Rattle.spec.specs.Bytes.{Bytes}
use Rattle.spec.specs.Nodes.{Node, branches_of, is_exact}
use Rattle.spec.specs.Trie.{leaf_count}
use Rattle.nav_nodes.specs.declared.BranchKind.{BranchKind}
use Rattle.nav_nodes.specs.declared.BranchKind.TheVariants.{Absent, Leaf, Child}
use Rattle.nav_branches.specs.declared.LeafStop.{LeafStop}
use Rattle.nav_branches.specs.declared.LeafStop.TheVariants.{Nowhere, Exact, Open}
use Rattle.nav_nodes.specs.Counting.{labels_below}
use Rattle.nav_nodes.specs.Slots.{node_at, slot_number}
use Rattle.nav_nodes.specs.Descent.{child_number, goes_on, Stop, miss, at_exact, at_open, descend, leaves_below}
use Rattle.nav_nodes.specs.NextLabel.{kind_with, with_absent, with_leaf, with_child}
use Rattle.nav_nodes.specs.NumberBounds.{branch_leaves_in}
use Rattle.query_descent.specs.Root.{below_empty, descend_empty}

-- where a key leads, by the leaf there and the rest of the key
abbrev pub stop_of : LeafStop → Bytes → Stop
stop_of Nowhere r = miss
stop_of Exact r = at_exact
stop_of (Open v) r = at_open v.0 r

-- the leaf where a key ends, by whether its node is an exact leaf
abbrev pub exact_stop : Bool → LeafStop
exact_stop true = Exact
exact_stop false = Nowhere

module _ (ns : List Node) (m y : ℕ) (k : Bytes) (kind : BranchKind) (is : kind ≡ kind_with y (drop (labels_below y (branches_of (node_at ns m))) (branches_of (node_at ns m)))) where
  -- no branch: the key leads nowhere
  pub descend_none : kind ≡ Absent → descend ns m (y ∷ k) ≡ miss
  unfolding descend
  descend_none h = let q = with_absent y (drop (labels_below y (branches_of (node_at ns m))) (branches_of (node_at ns m))) (sym is ∙ h) in rw (q.0, q.1)

  -- a branch that ends: the key leads to its open leaf
  pub descend_open : kind ≡ Leaf → descend ns m (y ∷ k) ≡ at_open (slot_number ns m (labels_below y (branches_of (node_at ns m)))) k
  unfolding descend
  descend_open h = let q = with_leaf y (drop (labels_below y (branches_of (node_at ns m))) (branches_of (node_at ns m))) (sym is ∙ h) in rw (q.0, q.1)

  -- a branch that continues
  pub goes_there : kind ≡ Child → goes_on y (drop (labels_below y (branches_of (node_at ns m))) (branches_of (node_at ns m))) ≡ true
  goes_there h = with_child y (drop (labels_below y (branches_of (node_at ns m))) (branches_of (node_at ns m))) (sym is ∙ h)

  -- the key leads on from the node behind it
  pub descend_on : kind ≡ Child → descend ns m (y ∷ k) ≡ descend ns (child_number ns m (labels_below y (branches_of (node_at ns m)))) k
  unfolding descend
  descend_on h = rw (goes_there h)

-- the end of the key
pub descend_end : (ns : List Node) (m : ℕ) (e : Bool) → e ≡ is_exact (node_at ns m) → descend ns m [] ≡ stop_of (exact_stop e) []
unfolding descend
descend_end ns m e h = rw h (go (is_exact (node_at ns m)))
  where
    go : (b : Bool) → cond b at_exact miss ≡ stop_of (exact_stop b) []
    go true = refl
    go false = refl

-- An open leaf's slot is one of the leaves.
pub slot_in : (ns : List Node) (m y : ℕ) (kind : BranchKind) → kind ≡ kind_with y (drop (labels_below y (branches_of (node_at ns m))) (branches_of (node_at ns m))) → kind ≡ Leaf
    → slot_number ns m (labels_below y (branches_of (node_at ns m))) < leaf_count ns
slot_in ns m y kind is h =
    branch_leaves_in ns m (labels_below y (branches_of (node_at ns m))) y (with_leaf y (drop (labels_below y (branches_of (node_at ns m))) (branches_of (node_at ns m))) (sym is ∙ h)).1

nil_of : (ns : List Node) → length ns ≡ 0 → ns ≡ []
nil_of [] h = refl
nil_of (n ∷ ns) h = absurd (omega arith)

-- An image without nodes leads nowhere.
pub descend_nowhere : (ns : List Node) (k : Bytes) → length ns ≡ 0 → descend ns 0 k ≡ miss
descend_nowhere ns k h = rw (nil_of ns h) (descend_empty k)

-- An image without nodes has no leaf below a key.
pub below_nowhere : (ns : List Node) (l : ℕ) (k : Bytes) → length ns ≡ 0 → leaves_below ns l 0 0 k ≡ 0
below_nowhere ns l k h = rw (nil_of ns h) (below_empty l k)
