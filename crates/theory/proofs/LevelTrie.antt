-- The trie by levels: a node is the group of the leaves below it, each with the rest of its cut key.
-- Levels are made of groups (`trie`), and the groups of these levels are the groups that they were made of (`groups_trie_levels`).
-- Used by everything about tries; spec's `groups` goes the other way.
use Rattle.std.specs.Prelude.{ℕ, zero, suc, ◌≡◌, refl, cond, false, Bool, true, List, [], ◌∷◌, map, ◌++◌, ◌⊎◌, take, drop, eqb}
use Rattle.std.proofs.Common.{◌∙◌, ap, sym, append_assoc, append-nil, ⊎_elim, inl, inr, eqb-true}
use Rattle.std.proofs.Math.Option.{Option, none, some}
use Rattle.spec.specs.Bytes.{Bytes, Bits, concat}
use Rattle.spec.specs.Leaves.{Leaf}
use Rattle.spec.specs.Nodes.{Group, Branch, to_node, to_leaf, Node, node, prefix, exact_leaf, branch_leaves, children, level_groups, groups}
use Rattle.theory.specs.Terms.{All}
use Rattle.theory.proofs.LeafLists.{Ordered}
use Rattle.theory.proofs.Lists.{all_append, all_weaken}

-- ---- a group's branches

-- a label, and the group of the leaves behind it
pub data Subtree : Type 0 where
  subtree : ℕ → Group → Subtree

-- the leaf, with c as the rest of its cut key
abbrev pub rest_of : Bytes → Leaf → Leaf
rest_of c l = record { cut = c; exact = l.exact; suffix = l.suffix }

-- a leaf before the subtrees behind it in key order: into the first one if that has its label
unfoldable pub insert : ℕ → Leaf → List Subtree → List Subtree
insert x l [] = subtree x (l ∷ []) ∷ []
insert x l (subtree y g ∷ bs) = cond (eqb x y) (subtree y (l ∷ g) ∷ bs) (subtree x (l ∷ []) ∷ subtree y g ∷ bs)

-- a leaf by its cut key; one that ends here is behind no branch
unfoldable pub insert_cut : Bytes → Leaf → List Subtree → List Subtree
unfolding insert
insert_cut [] l bs = bs
insert_cut (x ∷ c) l bs = insert x (rest_of c l) bs

-- a group's subtrees, one for each label
unfoldable pub subtrees : Group → List Subtree
unfolding insert_cut
subtrees [] = []
subtrees (l ∷ ls) = insert_cut l.cut l (subtrees ls)

-- ---- a group's node, and the groups below it

-- a subtree's branch: to an open leaf if that is all of its group, otherwise to a node
unfoldable pub branch_of : Subtree → Branch
branch_of (subtree x []) = to_node x
branch_of (subtree x (l ∷ [])) = elim l.cut [ [] ↦ to_leaf x l.suffix | y ∷ c ↦ to_node x ]
branch_of (subtree x (l ∷ m ∷ g)) = to_node x

-- the group of the node that a subtree's branch leads to, if it leads to one
unfoldable pub child_group : Subtree → List Group
child_group (subtree x []) = [] ∷ []
child_group (subtree x (l ∷ [])) = elim l.cut [ [] ↦ [] | y ∷ c ↦ (l ∷ []) ∷ [] ]
child_group (subtree x (l ∷ m ∷ g)) = (l ∷ m ∷ g) ∷ []

-- the slot of the exact leaf that a group starts with, if it does
unfoldable pub exact_of : Group → Option Bits
exact_of [] = none
exact_of (l ∷ ls) = elim l.cut [ [] ↦ some l.suffix | x ∷ c ↦ none ]

-- a group's node
unfoldable pub node_of : Group → Node
unfolding exact_of branch_of subtrees
node_of g = node (exact_of g) (map branch_of (subtrees g))

-- the groups of the nodes that a group's branches lead to
unfoldable pub child_groups : Group → List Group
unfolding concat child_group subtrees
child_groups g = concat (map child_group (subtrees g))

-- at most f levels of the trie whose first level has these groups
unfoldable pub trie_levels : ℕ → List Group → List (List Node)
unfolding node_of child_groups concat
trie_levels zero gs = []
trie_levels (suc f) [] = []
trie_levels (suc f) (g ∷ gs) = map node_of (g ∷ gs) ∷ trie_levels f (concat (map child_groups (g ∷ gs)))

-- the levels of the trie of a leaf list; an empty list has no node
unfoldable pub trie : List Leaf → List (List Node)
unfolding trie_levels
trie [] = []
trie (l ∷ ls) = trie_levels 64 ((l ∷ ls) ∷ [])

-- the nodes of a trie's first d levels, in level order
abbrev pub trie_dense : ℕ → List Leaf → List Node
trie_dense d ls = concat (take d (trie ls))

-- the nodes of a trie's levels from d on, in level order
abbrev pub trie_sparse : ℕ → List Leaf → List Node
trie_sparse d ls = concat (drop d (trie ls))

-- ---- groups as a realizable leaf list has them

-- the group behind a branch to an open leaf: that leaf, ended
pub data LeafGroup : Group → Type 0 where
  open_leaf : {s : Bits} → LeafGroup (record { cut = []; exact = false; suffix = s } ∷ [])

-- every cut key of the group has a byte
pub data NonemptyCuts : Group → Type 0 where
  no_cuts : NonemptyCuts []
  nonempty_cut : {x : ℕ} {c : Bytes} {e : Bool} {s : Bits} {ls : Group} → NonemptyCuts ls → NonemptyCuts (record { cut = x ∷ c; exact = e; suffix = s } ∷ ls)

-- a node's group: cut keys that have a byte, and before them at most one exact leaf that ends here
pub data NodeGroup : Group → Type 0 where
  plain_node : {x : ℕ} {c : Bytes} {e : Bool} {s : Bits} {ls : Group} → NonemptyCuts ls → NodeGroup (record { cut = x ∷ c; exact = e; suffix = s } ∷ ls)
  exact_node : {t : Bits} {x : ℕ} {c : Bytes} {e : Bool} {s : Bits} {ls : Group} → NonemptyCuts ls
      → NodeGroup (record { cut = []; exact = true; suffix = t } ∷ record { cut = x ∷ c; exact = e; suffix = s } ∷ ls)

-- behind each branch, an open leaf, or a node of whose group P holds
abbrev pub Subtrees : (Group → Type 0) → List Subtree → Type 0
Subtrees P [] = Unit
Subtrees P (subtree x g ∷ bs) = (LeafGroup g ⊎ (NodeGroup g × P g)) × Subtrees P bs

-- behind each branch, an open leaf or a node
abbrev pub LeafOrNodeGroups : List Subtree → Type 0
LeafOrNodeGroups [] = Unit
LeafOrNodeGroups (subtree x u ∷ bs) = (LeafGroup u ⊎ NodeGroup u) × LeafOrNodeGroups bs

-- Subtrees of which more is known are those of open leaves and nodes.
pub leaf_or_node_groups : (P : Group → Type 0) (bs : List Subtree) → Subtrees P bs → LeafOrNodeGroups bs
leaf_or_node_groups P [] b = tt
leaf_or_node_groups P (subtree x u ∷ bs) b = (⊎_elim (λ s. inl s) (λ h. inr h.0) b.0, leaf_or_node_groups P bs b.1)

-- a node has a label, and a sole entry of it, branch or exact leaf, continues
abbrev pub SoleContinues : Node → Type 0
SoleContinues (node o []) = ⊥
SoleContinues (node none (to_leaf x s ∷ [])) = ⊥
SoleContinues (node none (to_node x ∷ [])) = Unit
SoleContinues (node none (e ∷ f ∷ es)) = Unit
SoleContinues (node (some t) (e ∷ es)) = Unit

-- A node's group whose cut keys have at most so many bytes: in order here and at each node below, where a sole entry continues.
abbrev pub TrieGroup : ℕ → Group → Type 0
TrieGroup zero g = ⊥
TrieGroup (suc f) g = NodeGroup g × Ordered g × Subtrees (λ h. SoleContinues (node_of h) × TrieGroup f h) (subtrees g)

-- a node's group below the root: a sole entry of its node continues
abbrev pub InnerGroup : ℕ → Group → Type 0
InnerGroup f h = SoleContinues (node_of h) × TrieGroup f h

-- ---- levels and back

-- the leaves of subtrees
subtree_leaves : List Subtree → Group
subtree_leaves [] = []
subtree_leaves (subtree x g ∷ bs) = map (prefix x) g ++ subtree_leaves bs

leaves_insert : (x : ℕ) (l : Leaf) (bs : List Subtree) → subtree_leaves (insert x l bs) ≡ prefix x l ∷ subtree_leaves bs
unfolding subtree_leaves insert
leaves_insert x l [] = refl
leaves_insert x l (subtree y g ∷ bs) = go (eqb x y) refl
  where
    go : (b : Bool) → eqb x y ≡ b → subtree_leaves (cond b (subtree y (l ∷ g) ∷ bs) (subtree x (l ∷ []) ∷ subtree y g ∷ bs)) ≡ prefix x l ∷ (map (prefix y) g ++ subtree_leaves bs)
    go true e = rw (eqb-true x y e)
    go false e = refl

leaves_subtrees : (g : Group) → NonemptyCuts g → subtree_leaves (subtrees g) ≡ g
unfolding subtrees subtree_leaves insert_cut
leaves_subtrees g no_cuts = refl
leaves_subtrees g (nonempty_cut {x} {c} {e} {s} {ls} r) = leaves_insert x (record { cut = c; exact = e; suffix = s }) (subtrees ls) ∙ ap (λ (z : Group). record { cut = x ∷ c; exact = e; suffix = s } ∷ z) (leaves_subtrees ls r)

-- A node's group is its exact leaf and the leaves of its subtrees.
group_back : (g : Group) → NodeGroup g → exact_leaf (exact_of g) ++ subtree_leaves (subtrees g) ≡ g
unfolding exact_leaf exact_of subtrees insert_cut
group_back g (plain_node r) = leaves_subtrees _ (nonempty_cut r)
group_back g (exact_node {t} r) = ap (λ (z : Group). record { cut = []; exact = true; suffix = t } ∷ z) (leaves_subtrees _ (nonempty_cut r))

-- The branch to a node's group leads to a node, whose group it is.
pub node_group_branch : (x : ℕ) (g : Group) → NodeGroup g → (branch_of (subtree x g) ≡ to_node x) × (child_group (subtree x g) ≡ g ∷ [])
unfolding branch_of child_group
node_group_branch x g (plain_node no_cuts) = (refl, refl)
node_group_branch x g (plain_node (nonempty_cut r)) = (refl, refl)
node_group_branch x g (exact_node r) = (refl, refl)

-- The leaves behind the branches of subtrees, over the groups below them and others, are the subtrees' leaves; the others are left over.
branch_leaves_back : (P : Group → Type 0) (bs : List Subtree) (rest : List Group) → Subtrees P bs
    → (branch_leaves (map branch_of bs) (concat (map child_group bs) ++ rest) ≡ subtree_leaves bs) × (drop (children (map branch_of bs)) (concat (map child_group bs) ++ rest) ≡ rest)
unfolding branch_leaves concat subtree_leaves children branch_of child_group
branch_leaves_back P [] rest b = (refl, refl)
branch_leaves_back P (subtree x g ∷ bs) rest b = go g b.0 (branch_leaves_back P bs rest b.1)
  where
    go : (g : Group) → LeafGroup g ⊎ (NodeGroup g × P g) → (branch_leaves (map branch_of bs) (concat (map child_group bs) ++ rest) ≡ subtree_leaves bs) × (drop (children (map branch_of bs)) (concat (map child_group bs) ++ rest) ≡ rest)
        → (branch_leaves (map branch_of (subtree x g ∷ bs)) (concat (map child_group (subtree x g ∷ bs)) ++ rest) ≡ subtree_leaves (subtree x g ∷ bs))
        × (drop (children (map branch_of (subtree x g ∷ bs))) (concat (map child_group (subtree x g ∷ bs)) ++ rest) ≡ rest)
    go g (inl open_leaf) ih = (rw ih.0, ih.1)
    go g (inr h) ih = (rw ((node_group_branch x g h.0).0, (node_group_branch x g h.0).1, ih.0), rw ((node_group_branch x g h.0).0, (node_group_branch x g h.0).1) ih.1)

-- The groups of a level's nodes, over those of the next level, are the groups that the nodes were made of.
level_groups_back : (P : Group → Type 0) (gs rest : List Group) → All (λ g. NodeGroup g × Subtrees P (subtrees g)) gs → level_groups (map node_of gs) (concat (map child_groups gs) ++ rest) ≡ gs
unfolding level_groups node_of child_groups concat
level_groups_back P [] rest e = refl
level_groups_back P (g ∷ gs) rest e =
    let p = branch_leaves_back P (subtrees g) (concat (map child_groups gs) ++ rest) e.0.1 in
    rw (append_assoc (child_groups g) (concat (map child_groups gs)) rest, p.0, p.1, level_groups_back P gs rest e.1, group_back g e.0.0)

-- What holds of the node groups behind branches holds of the groups that the branches lead to.
pub all_child_group : (P : Group → Type 0) (bs : List Subtree) → Subtrees P bs → All P (concat (map child_group bs))
unfolding concat child_group
all_child_group P [] b = tt
all_child_group P (subtree x g ∷ bs) b = go g b.0 (all_child_group P bs b.1)
  where
    go : (g : Group) → LeafGroup g ⊎ (NodeGroup g × P g) → All P (concat (map child_group bs)) → All P (child_group (subtree x g) ++ concat (map child_group bs))
    go g (inl open_leaf) ih = ih
    go g (inr h) ih = rw (node_group_branch x g h.0).1 (h.1, ih)

-- What holds of the groups below each of a level's groups holds of all of the next level's.
pub all_child_groups : (P : Group → Type 0) (gs : List Group) → All (λ g. NodeGroup g × Subtrees P (subtrees g)) gs → All P (concat (map child_groups gs))
unfolding concat child_groups
all_child_groups P [] e = tt
all_child_groups P (g ∷ gs) e = all_append P (child_groups g) (concat (map child_groups gs)) (all_child_group P (subtrees g) e.0.1) (all_child_groups P gs e.1)

-- The groups of the levels of a trie are the groups that it was made of.
pub groups_trie_levels : (f : ℕ) (gs : List Group) → All (λ g. TrieGroup f g) gs → groups (trie_levels f gs) ≡ gs
unfolding groups trie_levels
groups_trie_levels zero [] e = refl
groups_trie_levels zero (g ∷ gs) e = absurd e.0
groups_trie_levels (suc f) [] e = refl
groups_trie_levels (suc f) (g ∷ gs) e =
    let k = all_weaken (λ h. TrieGroup (suc f) h) (λ h. NodeGroup h × Subtrees (InnerGroup f) (subtrees h)) (λ h n. (n.0, n.2)) (g ∷ gs) e in
    rw (groups_trie_levels f (concat (map child_groups (g ∷ gs))) (all_weaken (InnerGroup f) (λ h. TrieGroup f h) (λ h n. n.1) (concat (map child_groups (g ∷ gs))) (all_child_groups (InnerGroup f) (g ∷ gs) k)))
    (ap (level_groups (map node_of (g ∷ gs))) (sym (append-nil (concat (map child_groups (g ∷ gs))))) ∙ level_groups_back (InnerGroup f) (g ∷ gs) [] k)
