-- Node numbers and counts of leaves stay in range.
use Rattle.spec.specs.Leaves.{Leaf}
use Prim.Native.Nat.{ℕ, zero, suc, ◌+◌, ◌-◌, ◌<◌, ◌≤◌}
use Rattle.std.specs.Prelude.{◌≡◌, refl, true, length, drop}
use Rattle.std.proofs.Common.{sym, ◌∙◌, true≢false}
use mathlib.Core.List.{List, [], ◌∷◌}
use native.Mathlib.Omega.{arith}
use Rattle.std.proofs.Math.ListN.{take}
use Rattle.std.proofs.Math.Seq.{take-nil, take-take}
use Rattle.spec.specs.Bytes.{bit, concat}
use Rattle.spec.specs.Nodes.{Branch, to_node, to_leaf, Node, node, branches_of, is_exact, children, total, children_of}
use Rattle.spec.specs.Trie.{open_leaves, leaf_count}
pub use Rattle.image.specs.FromCheck.{node_total}
use Rattle.nav_nodes.specs.declared.BranchKind.{BranchKind}
use Rattle.nav_nodes.specs.declared.BranchKind.TheVariants as Kind
use Rattle.nav_nodes.specs.Slots.{node_at, leaves_before, slot_number}
use Rattle.nav_nodes.specs.Descent.{goes_children, children_before, child_number, children_split, goes_on, ends_at, kids_take}
use Rattle.nav_nodes.specs.NextLabel.{first_kind}
use Rattle.theory.proofs.LeafLists.{Realizable, AllWellSized}
use Rattle.theory.proofs.LevelTrie.{trie}
use Rattle.theory.proofs.Levels.{leaf_count_root}
use Rattle.theory.proofs.TrieTests.{realizable_trie, EmptyOrValid, empty_list, valid_trie}

-- the leaves of the nodes are those of the list
pub leaf_total : (n : ℕ) (ls : List Leaf) (ns : List Node) → Realizable n ls → AllWellSized n ls → ns ≡ concat (trie ls) → leaf_count ns ≡ length ls
unfolding trie concat leaf_count
leaf_total n ls ns g o e = go (realizable_trie n ls g o) e
  where
    go : {ls : List Leaf} → EmptyOrValid ls → ns ≡ concat (trie ls) → leaf_count ns ≡ length ls
    go empty_list e = rw e
    go (valid_trie {ls = ls} t) e = rw e (sym (leaf_count_root (trie ls) ls t.linked t.root))

module _ (ns : List Node) where
  kids_more : (lo d : ℕ) → total children_of (take lo ns) ≤ total children_of (take (lo + d) ns)
  kids_more lo d = let e : take lo (take (lo + d) ns) ≡ take lo ns = take-take lo (lo + d) ns (omega arith) in rw (← e) (kids_take lo (take (lo + d) ns))

  leaf_take : (m : ℕ) (ms : List Node) → leaf_count (take m ms) ≤ leaf_count ms
  unfolding leaf_count
  leaf_take zero ms = omega arith
  leaf_take (suc m) [] = omega arith
  leaf_take (suc m) (n ∷ ms) = omega (arith, leaf_take m ms)

  -- later nodes have no fewer continuing branches before them
  pub children_up : (lo hi : ℕ) → lo ≤ hi → children_before ns lo ≤ children_before ns hi
  unfolding children_before
  children_up lo hi h = let e : lo + (hi - lo) ≡ hi = omega arith in rw e at (kids_more lo (hi - lo))

  -- nor fewer leaves
  pub leaves_up : (lo hi : ℕ) → lo ≤ hi → leaves_before ns lo ≤ leaves_before ns hi
  unfolding leaves_before
  leaves_up lo hi h = let e : take lo (take hi ns) ≡ take lo ns = take-take lo hi ns h in rw (← e) (leaf_take lo (take hi ns))

  -- and no more than all
  pub children_all : (m : ℕ) → children_before ns m ≤ total children_of ns
  unfolding children_before
  children_all m = kids_take m ns

  pub leaves_all : (m : ℕ) → leaves_before ns m ≤ leaf_count ns
  unfolding leaves_before
  leaves_all m = leaf_take m ns

-- the branches of a node among those of all nodes
branch_kids : (ns : List Node) (m : ℕ) → total children_of (take m ns) + children (branches_of (node_at ns m)) ≤ total children_of ns
unfolding total children
branch_kids [] m = rw (take-nil {A = Node} m) (omega arith)
branch_kids (node o es ∷ ns) zero = omega arith
branch_kids (n ∷ ns) (suc m) = omega (arith, branch_kids ns m)

branch_leaves : (ns : List Node) (m : ℕ) → leaf_count (take m ns) + bit (is_exact (node_at ns m)) + open_leaves (branches_of (node_at ns m)) ≤ leaf_count ns
unfolding leaf_count open_leaves
branch_leaves [] m = rw (take-nil {A = Node} m) (omega arith)
branch_leaves (n ∷ ns) zero = omega arith
branch_leaves (n ∷ ns) (suc m) = omega (arith, branch_leaves ns m)

-- the open leaves before branch i and from it on
pub open_split : (i : ℕ) (es : List Branch) → open_leaves (take i es) + open_leaves (drop i es) ≡ open_leaves es
unfolding open_leaves
open_split zero es = omega arith
open_split (suc i) [] = refl
open_split (suc i) (to_node x ∷ es) = open_split i es
open_split (suc i) (to_leaf x s ∷ es) = omega (arith, open_split i es)

-- The first node behind a branch: no earlier than that behind the node's first, and at most the number of all branches plus one.
pub child_range : (ns : List Node) (m i : ℕ) → (1 + children_before ns m ≤ child_number ns m i) × (child_number ns m i ≤ 1 + total children_of ns)
unfolding child_number children_before
child_range ns m i = (omega arith, omega (arith, branch_kids ns m, children_split i (branches_of (node_at ns m))))

-- A continuing branch leads to a node.
pub child_in : (ns : List Node) (m i y : ℕ) → length ns ≡ 1 + total children_of ns → goes_on y (drop i (branches_of (node_at ns m))) ≡ true → child_number ns m i < length ns
unfolding child_number children_before
child_in ns m i y e h = omega (arith, branch_kids ns m, children_split i (branches_of (node_at ns m)), goes_children y (drop i (branches_of (node_at ns m))) h)

-- A slot number is at least the leaves before its node, and at most all leaves.
pub slot_range : (ns : List Node) (m i : ℕ) → (leaves_before ns m ≤ slot_number ns m i) × (slot_number ns m i ≤ leaf_count ns)
unfolding slot_number leaves_before
slot_range ns m i = (omega arith, omega (arith, branch_leaves ns m, open_split i (branches_of (node_at ns m))))

ends_leaves : (y : ℕ) (fs : List Branch) → ends_at y fs ≡ true → 0 < open_leaves fs
unfolding ends_at open_leaves
ends_leaves y [] h = absurd (true≢false (sym h))
ends_leaves y (to_node x ∷ fs) h = absurd (true≢false (sym h))
ends_leaves y (to_leaf x s ∷ fs) h = omega arith

-- The slot of an open leaf is one of the leaves.
pub branch_leaves_in : (ns : List Node) (m i y : ℕ) → ends_at y (drop i (branches_of (node_at ns m))) ≡ true → slot_number ns m i < leaf_count ns
unfolding slot_number leaves_before
branch_leaves_in ns m i y h = omega (arith, branch_leaves ns m, open_split i (branches_of (node_at ns m)), ends_leaves y (drop i (branches_of (node_at ns m))) h)

-- a branch that ends is one of the open leaves
leaf_there : (fs : List Branch) → first_kind fs ≡ Kind.Leaf → 0 < open_leaves fs
unfolding first_kind open_leaves
leaf_there [] e = let z : ◌≡◌ {A = ℕ} 0 1 = cc in absurd (omega arith)
leaf_there (to_leaf x s ∷ fs) e = omega arith
leaf_there (to_node x ∷ fs) e = let z : ◌≡◌ {A = ℕ} 0 1 = cc in absurd (omega arith)

-- one that continues is one of the continuing branches
pub child_there : (fs : List Branch) → first_kind fs ≡ Kind.Child → 0 < children fs
unfolding first_kind children
child_there [] e = let z : ◌≡◌ {A = ℕ} 0 1 = cc in absurd (omega arith)
child_there (to_leaf x s ∷ fs) e = let z : ◌≡◌ {A = ℕ} 0 1 = cc in absurd (omega arith)
child_there (to_node x ∷ fs) e = omega arith

-- The slot behind a branch that ends is one of the leaves.
pub kind_slot : (ns : List Node) (m i : ℕ) (kind : BranchKind) → kind ≡ first_kind (drop i (branches_of (node_at ns m))) → kind ≡ Kind.Leaf → slot_number ns m i < leaf_count ns
unfolding slot_number leaves_before
kind_slot ns m i kind e h = omega (arith, branch_leaves ns m, open_split i (branches_of (node_at ns m)), leaf_there (drop i (branches_of (node_at ns m))) (sym e ∙ h))
