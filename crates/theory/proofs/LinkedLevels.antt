-- Levels of nodes that are linked, each with as many nodes as the level above has continuing branches, are the levels of their groups (`levels_back`).
-- Used to show that accepted nodes are the trie of their leaves, and for counts and slots of levels.
use Rattle.std.specs.Prelude.{ℕ, ◌<◌, ◌≤◌, suc, zero, ◌≡◌, refl, false, Bool, List, [], ◌∷◌, map, ◌++◌, length, take, drop}
use Rattle.std.proofs.Common.{◌∙◌, ap₂, ap, sym, arith, length-drop, take-append-drop, ne_eqb, eq-eqb}
use Rattle.std.proofs.Math.Option.{Option, none, some}
use Rattle.spec.specs.Bytes.{concat, Bytes, Bits}
use Rattle.spec.specs.Leaves.{Leaf}
use Rattle.spec.specs.Nodes.{Branch, label_of, Node, node, Group, to_leaf, to_node, prefix, children, branch_leaves, exact_leaf, level_groups, total, children_of, groups}
use Rattle.theory.specs.Terms.{All}
use Rattle.theory.proofs.Lists.{all_drop}
use Rattle.theory.proofs.LevelTrie.{Subtree, subtree, insert, subtrees, insert_cut, NodeGroup, plain_node, exact_node, branch_of, child_group, node_group_branch, NonemptyCuts, nonempty_cut, no_cuts, exact_of, node_of, child_groups, trie_levels, trie}

-- ---- labels

-- x is below the first label
abbrev pub BelowLabel : ℕ → List Branch → Type 0
BelowLabel x [] = Unit
BelowLabel x (e ∷ es) = x < label_of e

-- labels ascend strictly
abbrev pub Ascends : List Branch → Type 0
Ascends [] = Unit
Ascends (e ∷ es) = BelowLabel (label_of e) es × Ascends es

-- a node has a label, and its labels ascend
abbrev pub Labelled : Node → Type 0
Labelled (node o []) = ⊥
Labelled (node o (e ∷ es)) = Ascends (e ∷ es)

-- ---- the branches of a node's group

-- the subtrees of branches, the groups of the continuing ones given
branch_subtrees : List Branch → List Group → List Subtree
branch_subtrees [] gs = []
branch_subtrees (to_leaf x s ∷ es) gs = subtree x (record { cut = []; exact = false; suffix = s } ∷ []) ∷ branch_subtrees es gs
branch_subtrees (to_node x ∷ es) [] = []
branch_subtrees (to_node x ∷ es) (g ∷ gs) = subtree x g ∷ branch_subtrees es gs

insert_new : (x : ℕ) (l : Leaf) (es : List Branch) (gs : List Group) → BelowLabel x es → insert x l (branch_subtrees es gs) ≡ subtree x (l ∷ []) ∷ branch_subtrees es gs
unfolding insert branch_subtrees
insert_new x l [] gs u = refl
insert_new x l (to_leaf y s ∷ es) gs u = rw (ne_eqb x y (λ q. omega arith))
insert_new x l (to_node y ∷ es) [] u = refl
insert_new x l (to_node y ∷ es) (g ∷ gs) u = rw (ne_eqb x y (λ q. omega arith))

insert_same : (x : ℕ) (l : Leaf) (g : Group) (bs : List Subtree) → insert x l (subtree x g ∷ bs) ≡ subtree x (l ∷ g) ∷ bs
unfolding insert
insert_same x l g bs = rw (eq-eqb x x refl)

subtrees_prefix : (x : ℕ) (l : Leaf) (g rest : Group) (es : List Branch) (gs : List Group) → BelowLabel x es → subtrees rest ≡ branch_subtrees es gs
    → subtrees (map (prefix x) (l ∷ g) ++ rest) ≡ subtree x (l ∷ g) ∷ branch_subtrees es gs
unfolding subtrees insert_cut
subtrees_prefix x l [] rest es gs u e = rw e (insert_new x l es gs u)
subtrees_prefix x l (m ∷ g) rest es gs u e = rw (subtrees_prefix x m g rest es gs u e) (insert_same x l (m ∷ g) (branch_subtrees es gs))

-- The subtrees of the leaves behind ascending branches are those of the branches.
subtrees_branch_leaves : (es : List Branch) (gs : List Group) → Ascends es → children es ≤ length gs → All NodeGroup gs → subtrees (branch_leaves es gs) ≡ branch_subtrees es gs
unfolding subtrees branch_leaves branch_subtrees children insert_cut
subtrees_branch_leaves [] gs r k h = refl
subtrees_branch_leaves (to_leaf x s ∷ es) gs r k h = rw (subtrees_branch_leaves es gs r.1 k h) (insert_new x (record { cut = []; exact = false; suffix = s }) es gs r.0)
subtrees_branch_leaves (to_node x ∷ es) [] r k h = absurd (omega arith)
subtrees_branch_leaves (to_node x ∷ es) (g ∷ gs) r k h = go g h.0 (subtrees_branch_leaves es gs r.1 (omega arith) h.1)
  where
    go : (g : Group) → NodeGroup g → subtrees (branch_leaves es gs) ≡ branch_subtrees es gs → subtrees (map (prefix x) g ++ branch_leaves es gs) ≡ subtree x g ∷ branch_subtrees es gs
    go g (plain_node {ls = ls} q) ih = subtrees_prefix x _ ls (branch_leaves es gs) es gs r.0 ih
    go g (exact_node q) ih = subtrees_prefix x _ _ (branch_leaves es gs) es gs r.0 ih

-- The branches of their subtrees are the branches, and the groups below are those given.
branches_back : (es : List Branch) (gs : List Group) → children es ≤ length gs → All NodeGroup gs
    → (map branch_of (branch_subtrees es gs) ≡ es) × (concat (map child_group (branch_subtrees es gs)) ≡ take (children es) gs)
unfolding branch_subtrees children concat branch_of child_group
branches_back [] gs k h = (refl, refl)
branches_back (to_leaf x s ∷ es) gs k h = let ih = branches_back es gs k h in (rw ih.0, ih.1)
branches_back (to_node x ∷ es) [] k h = absurd (omega arith)
branches_back (to_node x ∷ es) (g ∷ gs) k h =
    let ih = branches_back es gs (omega arith) h.1 in
    (rw ((node_group_branch x g h.0).0, ih.0), rw ((node_group_branch x g h.0).1, ih.1))

nonempty_cuts_map : (x : ℕ) (g rest : Group) → NonemptyCuts rest → NonemptyCuts (map (prefix x) g ++ rest)
nonempty_cuts_map x [] rest r = r
nonempty_cuts_map x (l ∷ g) rest r = nonempty_cut (nonempty_cuts_map x g rest r)

-- Every cut key behind branches has a byte.
pub nonempty_cuts_branches : (es : List Branch) (gs : List Group) → NonemptyCuts (branch_leaves es gs)
unfolding branch_leaves
nonempty_cuts_branches [] gs = no_cuts
nonempty_cuts_branches (to_leaf x s ∷ es) gs = nonempty_cut (nonempty_cuts_branches es gs)
nonempty_cuts_branches (to_node x ∷ es) [] = no_cuts
nonempty_cuts_branches (to_node x ∷ es) (g ∷ gs) = nonempty_cuts_map x g (branch_leaves es gs) (nonempty_cuts_branches es gs)

-- a group that is not empty, whose cut keys have a byte
data SomeCuts : Group → Type 0 where
  some_cuts : {x : ℕ} {c : Bytes} {e : Bool} {s : Bits} {ls : Group} → NonemptyCuts ls → SomeCuts (record { cut = x ∷ c; exact = e; suffix = s } ∷ ls)

some_cuts_branches : (e : Branch) (es : List Branch) (gs : List Group) → children (e ∷ es) ≤ length gs → All NodeGroup gs → SomeCuts (branch_leaves (e ∷ es) gs)
unfolding branch_leaves children
some_cuts_branches (to_leaf x s) es gs k h = some_cuts (nonempty_cuts_branches es gs)
some_cuts_branches (to_node x) es [] k h = absurd (omega arith)
some_cuts_branches (to_node x) es (g ∷ gs) k h = go g h.0
  where
    go : (g : Group) → NodeGroup g → SomeCuts (map (prefix x) g ++ branch_leaves es gs)
    go g (plain_node {ls = ls} q) = some_cuts (nonempty_cuts_map x ls (branch_leaves es gs) (nonempty_cuts_branches es gs))
    go g (exact_node {x = y} {c = c} {e = b} {s = s} {ls = ls} q) = some_cuts (nonempty_cuts_map x (record { cut = y ∷ c; exact = b; suffix = s } ∷ ls) (branch_leaves es gs) (nonempty_cuts_branches es gs))

-- Leaves that have a byte are, behind an exact leaf or none, a node's group with that exact leaf and the same subtrees.
exact_leaf_group : (o : Option Bits) (g : Group) → SomeCuts g → NodeGroup (exact_leaf o ++ g) × (exact_of (exact_leaf o ++ g) ≡ o) × (subtrees (exact_leaf o ++ g) ≡ subtrees g)
unfolding exact_leaf exact_of subtrees insert_cut
exact_leaf_group none g (some_cuts r) = (plain_node r, refl, refl)
exact_leaf_group (some t) g (some_cuts r) = (exact_node r, refl, refl)

-- ---- one level

-- a level over the groups of the next: its nodes and those groups are got back from its groups
record LevelBack (ns : List Node) (gs : List Group) : Type 0 where
  nodes_back : map node_of (level_groups ns gs) ≡ ns
  groups_back : concat (map child_groups (level_groups ns gs)) ≡ gs
  node_groups : All NodeGroup (level_groups ns gs)
  size : length (level_groups ns gs) ≡ length ns

node_back : (o : Option Bits) (es : List Branch) (g : Group) → exact_of g ≡ o → map branch_of (subtrees g) ≡ es → node_of g ≡ node o es
unfolding node_of
node_back o es g p q = rw (p, q)

child_groups_is : (g : Group) → child_groups g ≡ concat (map child_group (subtrees g))
unfolding child_groups
child_groups_is g = refl

-- Labelled nodes, with as many continuing branches as there are groups below, are got back from their groups.
level_back : (ns : List Node) (gs : List Group) → All Labelled ns → total children_of ns ≡ length gs → All NodeGroup gs → LevelBack ns gs
unfolding level_groups total concat
level_back [] [] a k h = record { nodes_back = refl; groups_back = refl; node_groups = tt; size = refl }
level_back [] (g ∷ gs) a k h = absurd (omega arith)
level_back (node o [] ∷ ns) gs a k h = absurd a.0
level_back (node o (e ∷ es) ∷ ns) gs a k h =
    let fits : children (e ∷ es) ≤ length gs = omega arith in
    let n = length-drop (children (e ∷ es)) gs in
    let ih = level_back ns (drop (children (e ∷ es)) gs) a.1 (omega arith) (all_drop NodeGroup (children (e ∷ es)) gs h) in
    let q = exact_leaf_group o (branch_leaves (e ∷ es) gs) (some_cuts_branches e es gs fits h) in
    let b = branches_back (e ∷ es) gs fits h in
    let r : subtrees (exact_leaf o ++ branch_leaves (e ∷ es) gs) ≡ branch_subtrees (e ∷ es) gs = q.2 ∙ subtrees_branch_leaves (e ∷ es) gs a.0 fits h in
    let w : child_groups (exact_leaf o ++ branch_leaves (e ∷ es) gs) ≡ take (children (e ∷ es)) gs = child_groups_is (exact_leaf o ++ branch_leaves (e ∷ es) gs) ∙ rw r b.1 in
    record {
      nodes_back = ap₂ ◌∷◌ (node_back o (e ∷ es) (exact_leaf o ++ branch_leaves (e ∷ es) gs) q.1 (rw r b.0)) ih.nodes_back;
      groups_back = rw (ih.groups_back, w) (take-append-drop (children (e ∷ es)) gs);
      node_groups = (q.0, ih.node_groups);
      size = ap suc ih.size;
    }

-- ---- linked levels

-- how many nodes the first level has
abbrev pub first_width : List (List Node) → ℕ
first_width [] = 0
first_width (ns ∷ ls) = length ns

-- levels of labelled nodes, each with as many nodes as the one above has continuing branches, and none empty
abbrev pub Linked : List (List Node) → Type 0
Linked [] = Unit
Linked (ns ∷ ls) = All Labelled ns × (total children_of ns ≡ first_width ls) × (0 < length ns) × Linked ls

-- levels got back from their groups, which are nodes' groups, as many as the first level has nodes
pub record LevelsBack (ls : List (List Node)) : Type 0 where
  pub levels_again : (f : ℕ) → length ls ≤ f → trie_levels f (groups ls) ≡ ls
  pub node_groups : All NodeGroup (groups ls)
  pub wide : length (groups ls) ≡ first_width ls

trie_levels_step : (f : ℕ) (ns : List Node) (gs hs : List Group) → 0 < length ns
    → map node_of hs ≡ ns → concat (map child_groups hs) ≡ gs → length hs ≡ length ns → trie_levels (suc f) hs ≡ ns ∷ trie_levels f gs
unfolding trie_levels
trie_levels_step f ns gs [] z p q r = absurd (omega arith)
trie_levels_step f ns gs (h ∷ hs) z p q r = ap₂ (λ (a : List Node) (b : List Group). a ∷ trie_levels f b) p q

trie_levels_none : (f : ℕ) → trie_levels f [] ≡ []
unfolding trie_levels
trie_levels_none zero = refl
trie_levels_none (suc f) = refl

-- Linked levels are the levels of the trie of their groups.
pub levels_back : (ls : List (List Node)) → Linked ls → LevelsBack ls
unfolding groups
levels_back [] k = record { levels_again = λ f h. trie_levels_none f; node_groups = tt; wide = refl }
levels_back (ns ∷ ls) k =
    let ih = levels_back ls k.3 in
    let b = level_back ns (groups ls) k.0 (k.1 ∙ sym ih.wide) ih.node_groups in
    record { levels_again = again b ih; node_groups = b.node_groups; wide = b.size }
  where
    again : LevelBack ns (groups ls) → LevelsBack ls → (f : ℕ) → suc (length ls) ≤ f → trie_levels f (level_groups ns (groups ls)) ≡ ns ∷ ls
    again b ih zero h = absurd (omega arith)
    again b ih (suc f) h =
        trie_levels_step f ns (groups ls) (level_groups ns (groups ls)) k.2 b.nodes_back b.groups_back b.size
        ∙ ap (λ (z : List (List Node)). ns ∷ z) (ih.levels_again f (omega arith))

trie_node_group : {g : Group} → NodeGroup g → trie g ≡ trie_levels 64 (g ∷ [])
unfolding trie
trie_node_group (plain_node r) = refl
trie_node_group (exact_node r) = refl

-- The trie of the leaves below a root is the root's levels.
pub trie_groups : (ls : List (List Node)) (g : Group) → Linked ls → length ls ≤ 64 → groups ls ≡ g ∷ [] → trie g ≡ ls
trie_groups ls g k h e =
    let w = levels_back ls k in
    let tops : All NodeGroup (g ∷ []) = rw e at w.node_groups in
    trie_node_group tops.0 ∙ ap (trie_levels 64) (sym e) ∙ w.levels_again 64 h
