-- The trie of a realizable leaf list passes the tests of a builder's trie, and the tests say of nodes what `NodesValid` lists.
-- Used by acceptance in both directions, by counts and by reading back.
use Rattle.std.specs.Prelude.{ℕ, suc, zero, ◌≤◌, ◌<◌, ◌+◌, ◌≡◌, refl, Bool, true, false, not, [], ◌∷◌, List, map, ◌++◌, ◌⊎◌, length, drop, take, eqb, ltb, leb}
use Rattle.std.proofs.Common.{ap, ◌∙◌, sym, inl, inr, arith, length-append, eqb-true, ltb-true, leb-true, eq-eqb, lt-ltb, le-leb}
use Rattle.std.proofs.Math.Option.{Option, none, some}
use Rattle.std.proofs.lemmas.List.{length-map}
use Rattle.std.proofs.lemmas.Bool.{not-true}
use Rattle.spec.specs.Bytes.{Bytes, Bits, concat, all, every}
use Rattle.spec.specs.Leaves.{Leaf}
use Rattle.spec.specs.Nodes.{Group, label_of, node, Branch, children, children_of, total, groups, Node, later, is_exact, branches_of, levels_of, exact_leaf, branch_leaves, level_groups}
use Rattle.spec.specs.Trie.{leaf_count, has_label, ascending, sole_continues, nodes_valid}
use Rattle.theory.specs.Terms.{All}
use Rattle.theory.proofs.LeafLists.{Ordered, Realizable, AllWellSized}
use Rattle.theory.proofs.Lists.{all_weaken, all_map, every_true, true_every, all_concat}
use Rattle.theory.proofs.LevelTrie.{branch_of, subtree, Subtree, NodeGroup, node_of, exact_of, subtrees, insert_cut, plain_node, nonempty_cut, exact_node, LeafGroup, child_group, open_leaf, node_group_branch, LeafOrNodeGroups, TrieGroup, child_groups, leaf_or_node_groups, InnerGroup, all_child_groups, Subtrees, trie_levels, SoleContinues, trie, groups_trie_levels}
use Rattle.theory.proofs.LinkedLevels.{BelowLabel, Ascends, Labelled, first_width, Linked, levels_back}
use Rattle.theory.proofs.TrieGroups.{LabelsAbove, Splits, splits_nil, splits_cons, labels_above, HasLeaf, has_leaf, splits, realizable_trie_group, well_sized_depth}
use Rattle.theory.proofs.Levels.{AreLevels, nodes_levels, all_labelled, levels_of_concat, labelled_tests, linked_labelled, linked_count, linked_later, sole_continues_tests}

-- ---- a node's labels ascend

label_branch : (x : ℕ) (u : Group) → label_of (branch_of (subtree x u)) ≡ x
unfolding branch_of
label_branch x [] = refl
label_branch x (l ∷ []) = go l.cut l.exact l.suffix
  where
    go : (c : Bytes) (e : Bool) (s : Bits) → label_of (branch_of (subtree x (record { cut = c; exact = e; suffix = s } ∷ []))) ≡ x
    go [] e s = refl
    go (y ∷ c) e s = refl
label_branch x (l ∷ m ∷ u) = refl

below_label : (x : ℕ) (bs : List Subtree) → LabelsAbove x bs → BelowLabel x (map branch_of bs)
below_label x [] v = tt
below_label x (subtree y u ∷ bs) v = rw (label_branch y u) v.0

splits_ascends : {g : Group} {bs : List Subtree} → Splits g bs → Ascends (map branch_of bs)
splits_ascends splits_nil = tt
splits_ascends (splits_cons {x = x} {u = u} {bs = bs} o a v c) = (rw (label_branch x u) (below_label x bs (labels_above v c)), splits_ascends c)

splits_labelled : (o : Option Bits) {g : Group} {bs : List Subtree} → HasLeaf g → Splits g bs → Labelled (node o (map branch_of bs))
splits_labelled o a splits_nil = elim a [ ]
splits_labelled o a (splits_cons p q v c) = splits_ascends (splits_cons p q v c)

node_labelled : {g : Group} → NodeGroup g → Ordered g → Labelled (node_of g)
unfolding node_of exact_of subtrees insert_cut
node_labelled (plain_node r) o = splits_labelled none has_leaf (splits (nonempty_cut r) o)
node_labelled (exact_node {t = t} r) o = splits_labelled (some t) has_leaf (splits (nonempty_cut r) o.1)

-- ---- as many continuing branches as nodes below

children_branch : (x : ℕ) {u : Group} (es : List Branch) (hs : List Group) → LeafGroup u ⊎ NodeGroup u → children es ≡ length hs → children (branch_of (subtree x u) ∷ es) ≡ length (child_group (subtree x u) ++ hs)
unfolding children branch_of child_group
children_branch x es hs (inl open_leaf) e = e
children_branch x {u} es hs (inr h) e = rw ((node_group_branch x u h).0, (node_group_branch x u h).1) (ap suc e)

children_subtrees : (bs : List Subtree) → LeafOrNodeGroups bs → children (map branch_of bs) ≡ length (concat (map child_group bs))
unfolding children concat
children_subtrees [] s = refl
children_subtrees (subtree x u ∷ bs) s = children_branch x (map branch_of bs) (concat (map child_group bs)) s.0 (children_subtrees bs s.1)

children_node : (f : ℕ) (g : Group) → TrieGroup (suc f) g → children_of (node_of g) ≡ length (child_groups g)
unfolding node_of child_groups
children_node f g n = children_subtrees (subtrees g) (leaf_or_node_groups (InnerGroup f) (subtrees g) n.2)

children_level : (f : ℕ) (gs : List Group) → All (λ h. TrieGroup (suc f) h) gs → total children_of (map node_of gs) ≡ length (concat (map child_groups gs))
unfolding total concat
children_level f [] e = refl
children_level f (g ∷ gs) e = omega (arith, children_node f g e.0, children_level f gs e.1, length-append (child_groups g) (concat (map child_groups gs)))

-- The groups below those of a trie's level are those of children.
child_groups_level : (f : ℕ) (gs : List Group) → All (λ h. TrieGroup (suc f) h) gs → All (InnerGroup f) (concat (map child_groups gs))
child_groups_level f gs e = all_child_groups (InnerGroup f) gs (all_weaken (λ h. TrieGroup (suc f) h) (λ h. NodeGroup h × Subtrees (InnerGroup f) (subtrees h)) (λ h n. (n.0, n.2)) gs e)

trie_levels_width : (f : ℕ) (gs : List Group) → All (λ h. TrieGroup f h) gs → first_width (trie_levels f gs) ≡ length gs
unfolding trie_levels
trie_levels_width zero [] e = refl
trie_levels_width zero (g ∷ gs) e = absurd e.0
trie_levels_width (suc f) [] e = refl
trie_levels_width (suc f) (g ∷ gs) e = length-map (g ∷ gs) node_of

-- The levels of a trie are linked.
trie_levels_linked : (f : ℕ) (gs : List Group) → All (λ h. TrieGroup f h) gs → Linked (trie_levels f gs)
unfolding trie_levels
trie_levels_linked zero gs e = tt
trie_levels_linked (suc f) [] e = tt
trie_levels_linked (suc f) (g ∷ gs) e =
    let b = all_weaken (InnerGroup f) (λ h. TrieGroup f h) (λ h p. p.1) (concat (map child_groups (g ∷ gs))) (child_groups_level f (g ∷ gs) e) in
    (all_map (λ h. TrieGroup (suc f) h) Labelled node_of (λ h n. node_labelled n.0 n.1) (g ∷ gs) e, children_level f (g ∷ gs) e ∙ sym (trie_levels_width f (concat (map child_groups (g ∷ gs))) b), omega arith, trie_levels_linked f (concat (map child_groups (g ∷ gs))) b)

-- ---- sole entries continue

-- Below the root, sole entries of a trie continue.
trie_levels_continue : (f : ℕ) (gs : List Group) → All (InnerGroup f) gs → All (All SoleContinues) (trie_levels f gs)
unfolding trie_levels
trie_levels_continue zero gs e = tt
trie_levels_continue (suc f) [] e = tt
trie_levels_continue (suc f) (g ∷ gs) e =
    (all_map (InnerGroup (suc f)) SoleContinues node_of (λ h p. p.0) (g ∷ gs) e, trie_levels_continue f (concat (map child_groups (g ∷ gs))) (child_groups_level f (g ∷ gs) (all_weaken (InnerGroup (suc f)) (λ h. TrieGroup (suc f) h) (λ h p. p.1) (g ∷ gs) e)))

pub trie_levels_short : (f : ℕ) (gs : List Group) → length (trie_levels f gs) ≤ f
unfolding trie_levels
trie_levels_short zero gs = omega arith
trie_levels_short (suc f) [] = omega arith
trie_levels_short (suc f) (g ∷ gs) = omega (arith, trie_levels_short f (concat (map child_groups (g ∷ gs))))

-- ---- the trie of a realizable leaf list

-- the levels of a leaf list that is not empty: linked, not too deep, below one root, and each sole entry below the root continues
pub record TrieValid (ls : List Leaf) : Type 0 where
  pub linked : Linked (trie ls)
  pub shallow : length (trie ls) ≤ 64
  pub root : groups (trie ls) ≡ ls ∷ []
  pub soles : All (All SoleContinues) (drop 1 (trie ls))

-- a leaf list that is empty, or whose trie is right
pub data EmptyOrValid : List Leaf → Type 0 where
  empty_list : EmptyOrValid []
  valid_trie : {ls : List Leaf} → TrieValid ls → EmptyOrValid ls

-- The trie of a realizable leaf list that is not empty is right.
pub trie_valid : {n : ℕ} (l : Leaf) (ls : List Leaf) → Realizable n (l ∷ ls) → AllWellSized n (l ∷ ls) → TrieValid (l ∷ ls)
unfolding trie trie_levels
trie_valid {n} l ls g o =
    let G : Group = l ∷ ls in
    let N : TrieGroup 64 G = realizable_trie_group 63 G has_leaf g (well_sized_depth n G o) in
    record {
      linked = trie_levels_linked 64 (G ∷ []) (N, tt);
      shallow = trie_levels_short 64 (G ∷ []);
      root = groups_trie_levels 64 (G ∷ []) (N, tt);
      soles = trie_levels_continue 63 (concat (map child_groups (G ∷ []))) (child_groups_level 63 (G ∷ []) (N, tt));
    }

-- A realizable leaf list, each leaf as an accepted image has it, is empty or its trie is right.
pub realizable_trie : (n : ℕ) (ls : List Leaf) → Realizable n ls → AllWellSized n ls → EmptyOrValid ls
realizable_trie n [] g o = empty_list
realizable_trie n (l ∷ ls) g o = valid_trie (trie_valid l ls g o)

-- A trie that is right has one root.
pub root_first_width : {ls : List Leaf} → TrieValid ls → first_width (trie ls) ≡ 1
root_first_width {ls} t = sym (levels_back (trie ls) t.linked).wide ∙ ap length t.root

-- ---- the tests of nodes in level order

-- what a builder's trie has, of its nodes in level order, root first
pub record NodesValid (dense dense_count count : ℕ) (r : Node) (ns : List Node) : Type 0 where
  pub leaf_total : leaf_count (r ∷ ns) ≡ count
  pub some_leaf : 0 < count
  pub node_total : length (r ∷ ns) ≡ total children_of (r ∷ ns) + 1
  pub leads_later : later children_of 0 0 (r ∷ ns) ≡ true
  pub labelled : all has_label (r ∷ ns) ≡ true
  pub root_open : is_exact r ≡ false
  pub ascending : all (λ n. ascending (branches_of n)) (r ∷ ns) ≡ true
  pub soles : all sole_continues ns ≡ true
  pub dense_total : length (concat (take dense (levels_of (r ∷ ns)))) ≡ dense_count
  pub shallow : length (levels_of (r ∷ ns)) ≤ 64

-- the tests of a builder's trie on nodes, root first
node_tests : ℕ → ℕ → ℕ → Node → List Node → List Bool
node_tests dense dense_count leaves r ns =
    eqb (leaf_count (r ∷ ns)) leaves
    ∷ ltb 0 leaves
    ∷ eqb (length (r ∷ ns)) (total children_of (r ∷ ns) + 1)
    ∷ later children_of 0 0 (r ∷ ns)
    ∷ all has_label (r ∷ ns)
    ∷ not (is_exact r)
    ∷ all (λ n. ascending (branches_of n)) (r ∷ ns)
    ∷ all sole_continues ns
    ∷ eqb (length (concat (take dense (levels_of (r ∷ ns))))) dense_count
    ∷ leb (length (levels_of (r ∷ ns))) 64
    ∷ []

nodes_valid_is : (dense dense_count leaves : ℕ) (r : Node) (ns : List Node) → nodes_valid dense dense_count leaves (r ∷ ns) ≡ every (node_tests dense dense_count leaves r ns)
unfolding nodes_valid node_tests
nodes_valid_is dense dense_count leaves r ns = refl

-- Nodes that pass the tests have what a builder's trie has.
pub nodes_valid_true : (dense dense_count count : ℕ) (r : Node) (ns : List Node) → nodes_valid dense dense_count count (r ∷ ns) ≡ true → NodesValid dense dense_count count r ns
unfolding node_tests
nodes_valid_true dense dense_count count r ns h =
    let p = every_true (node_tests dense dense_count count r ns) (sym (nodes_valid_is dense dense_count count r ns) ∙ h) in
    record {
      leaf_total = eqb-true (leaf_count (r ∷ ns)) count p.0;
      some_leaf = ltb-true 0 count p.1.0;
      node_total = eqb-true (length (r ∷ ns)) (total children_of (r ∷ ns) + 1) p.1.1.0;
      leads_later = p.1.1.1.0;
      labelled = p.1.1.1.1.0;
      root_open = not-true (is_exact r) p.1.1.1.1.1.0;
      ascending = p.1.1.1.1.1.1.0;
      soles = p.1.1.1.1.1.1.1.0;
      dense_total = eqb-true (length (concat (take dense (levels_of (r ∷ ns))))) dense_count p.1.1.1.1.1.1.1.1.0;
      shallow = leb-true (length (levels_of (r ∷ ns))) 64 p.1.1.1.1.1.1.1.1.1.0;
    }

-- Nodes that have what a builder's trie has pass the tests.
pub true_nodes_valid : (dense dense_count count : ℕ) (r : Node) (ns : List Node) → NodesValid dense dense_count count r ns → nodes_valid dense dense_count count (r ∷ ns) ≡ true
unfolding node_tests
true_nodes_valid dense dense_count count r ns b =
    nodes_valid_is dense dense_count count r ns ∙ true_every (node_tests dense dense_count count r ns) (
      eq-eqb (leaf_count (r ∷ ns)) count b.leaf_total,
      (
        lt-ltb 0 count b.some_leaf,
        (
          eq-eqb (length (r ∷ ns)) (total children_of (r ∷ ns) + 1) b.node_total,
          (
            b.leads_later,
            (
              b.labelled,
              (rw b.root_open refl, (b.ascending, (b.soles, (eq-eqb (length (concat (take dense (levels_of (r ∷ ns))))) dense_count b.dense_total, (le-leb (length (levels_of (r ∷ ns))) 64 b.shallow, tt))))),
            ),
          ),
        ),
      ),
    )

-- No nodes pass the tests where there are no leaves.
pub nodes_valid_none : (dense dense_count count : ℕ) → nodes_valid dense dense_count count [] ≡ eqb count 0
unfolding nodes_valid
nodes_valid_none dense dense_count count = refl

-- The levels of nodes that pass the tests are linked.
pub nodes_valid_levels : {dense dense_count count : ℕ} (r : Node) (ns : List Node) → NodesValid dense dense_count count r ns → AreLevels 1 (r ∷ ns) (levels_of (r ∷ ns))
unfolding levels_of
nodes_valid_levels r ns b = nodes_levels 65 0 0 1 (r ∷ ns) b.leads_later refl (omega (arith, b.node_total)) (omega (arith, b.shallow)) (all_labelled (r ∷ ns) b.labelled b.ascending)

-- Nodes that pass the tests have as many leaves as the header says.
pub nodes_valid_leaves : (dense dense_count count : ℕ) (ns : List Node) → nodes_valid dense dense_count count ns ≡ true → leaf_count ns ≡ count
unfolding leaf_count
nodes_valid_leaves dense dense_count count [] h = sym (eqb-true count 0 (sym (nodes_valid_none dense dense_count count) ∙ h))
nodes_valid_leaves dense dense_count count (r ∷ ns) h = (nodes_valid_true dense dense_count count r ns h).leaf_total

-- ---- levels below one root pass them

-- The root is no exact leaf, where no cut key is empty.
root_not_exact : (n : ℕ) (o : Option Bits) (es : List Branch) (gs : List Group) → AllWellSized n (exact_leaf o ++ branch_leaves es gs) → is_exact (node o es) ≡ false
unfolding exact_leaf
root_not_exact n none es gs k = refl
root_not_exact n (some s) es gs k = absurd (omega (arith, k.0.key.least))

root_group : (o : Option Bits) (es : List Branch) (rest : List (List Node)) (g : Group) → groups ((node o es ∷ []) ∷ rest) ≡ g ∷ [] → exact_leaf o ++ branch_leaves es (groups rest) ≡ g
unfolding groups level_groups
root_group o es rest g e = cc

-- Linked levels below one root pass the tests of a builder's trie.
pub root_nodes_valid : (dense count n : ℕ) (L : List (List Node)) (g : Group) → Linked L → first_width L ≡ 1 → length L ≤ 64 → groups L ≡ g ∷ [] → AllWellSized n g → All (All SoleContinues) (drop 1 L) → leaf_count (concat L) ≡ count → 0 < count
    → nodes_valid dense (length (concat (take dense L))) count (concat L) ≡ true
unfolding concat
root_nodes_valid dense count n [] g k w h e o r c z = absurd (omega arith)
root_nodes_valid dense count n ([] ∷ rest) g k w h e o r c z = absurd (omega arith)
root_nodes_valid dense count n ((q ∷ p ∷ ns) ∷ rest) g k w h e o r c z = absurd (omega arith)
root_nodes_valid dense count n ((node b es ∷ []) ∷ rest) g k w h e o r c z =
    let L : List (List Node) = (node b es ∷ []) ∷ rest in
    let v : levels_of (concat L) ≡ L = levels_of_concat L k w h in
    let f = labelled_tests (concat L) (linked_labelled L k) in
    true_nodes_valid dense (length (concat (take dense L))) count (node b es) (concat rest) (record {
      leaf_total = c;
      some_leaf = z;
      node_total = omega (arith, linked_count L k);
      leads_later = linked_later L 0 0 k w;
      labelled = f.0;
      root_open = root_not_exact n b es (groups rest) (rw (root_group b es rest g e) o);
      ascending = f.1;
      soles = sole_continues_tests (concat rest) (all_concat SoleContinues rest r);
      dense_total = ap (λ (y : List (List Node)). length (concat (take dense y))) v;
      shallow = rw v h;
    })
