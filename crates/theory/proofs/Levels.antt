-- Nodes in level order and their levels: nodes that pass the tests of a builder's trie are linked levels (`nodes_levels`), and linked levels pass the tests and are cut again from their nodes (`levels_of_concat`); how many leaves, nodes and entries levels have.
-- Used by the tests of a builder's trie, by node numbers, by acceptance and by the code that builds a trie.
use Prim.Native.Nat.{ℕ, ◌+◌, ◌<◌, suc, ◌≤◌, zero, ◌-◌, ◌*◌}
use Rattle.std.specs.Prelude.{◌≡◌, true, ◌||◌, take, drop, length, eqb, ltb}
use Rattle.std.proofs.Common.{ap, sym, ◌∙◌, ap₂, true≢false, add-zero, suc-mul, take-append-drop, length-drop, length-append, length-take-le, take_at, drop_at}
use Rattle.std.proofs.Math.Path.{refl}
use Rattle.std.proofs.Math.Bool.{or-false, or-true}
use mathlib.Core.List.{List, ◌++◌, [], ◌∷◌, map}
use Rattle.std.proofs.Math.Option.{none, some, Option}
use native.Mathlib.Omega.{arith}
use Rattle.std.proofs.lemmas.List.{length-map}
use Rattle.std.proofs.Math.Dec.{leb}
use borrow.Author.Tests.{eqb-true, lt-leb, ltb-true, le-leb, lt-ltb}
use Rattle.spec.specs.Bytes.{all, concat, Bits, bit}
use Rattle.spec.specs.Nodes.{children, total, later, Branch, label_of, Node, branches_of, node, to_node, to_leaf, children_of, levels, levels_of, Group, branch_leaves, prefix, exact_leaf, is_exact, level_groups, groups}
use Rattle.spec.specs.Trie.{ascending, has_label, sole_continues, open_leaves, leaf_count}
use Rattle.theory.specs.Terms.{All}
use Rattle.theory.proofs.Lists.{and_both, all_drop, all_take, all_append}
use Rattle.theory.proofs.LevelTrie.{SoleContinues, NodeGroup, plain_node, exact_node}
use Rattle.theory.proofs.LinkedLevels.{Ascends, Labelled, Linked, first_width, levels_back}
use Rattle.theory.proofs.NodeBits.{sparse_labels}

-- ---- continuing branches and later nodes

module _ {A : Type 0} (children : A → ℕ) where
  -- The continuing branches of two lists of nodes are those of each.
  pub total_append : (a b : List A) → total children (a ++ b) ≡ total children a + total children b
  unfolding total
  total_append [] b = omega arith
  total_append (x ∷ a) b = omega (arith, total_append a b)

  -- The continuing branches of nodes are those of the first w and of the others.
  pub total_split : (w : ℕ) (xs : List A) → total children xs ≡ total children (take w xs) + total children (drop w xs)
  total_split w xs = ap (total children) (sym (take-append-drop w xs)) ∙ total_append (take w xs) (drop w xs)

  -- Where no branch can lead to a later node, no branch continues.
  pub later_none : (i k : ℕ) (xs : List A) → later children i k xs ≡ true → k < i → total children xs ≡ 0
  unfolding later total
  later_none i k [] h b = refl
  later_none i k (x ∷ xs) h b =
      let p = and_both (eqb (children x) 0 || leb i k) (later children (suc i) (k + children x) xs) h in
      let e : children x ≡ 0 = eqb-true (children x) 0 (rw (lt-leb i k b, or-false) at p.0) in
      omega (arith, later_none (suc i) (k + children x) xs p.1 (omega arith))

  -- The branches of the nodes behind the first w lead to later nodes.
  pub later_drop : (i k w : ℕ) (xs : List A) → later children i k xs ≡ true → w ≤ length xs → later children (i + w) (k + total children (take w xs)) (drop w xs) ≡ true
  unfolding later total
  later_drop i k zero xs h l = rw (add-zero, add-zero) h
  later_drop i k (suc w) [] h l = absurd (omega arith)
  later_drop i k (suc w) (x ∷ xs) h l =
      let p = and_both (eqb (children x) 0 || leb i k) (later children (suc i) (k + children x) xs) h in
      let e₁ : suc i + w ≡ i + suc w = omega arith in
      let e₂ : k + children x + total children (take w xs) ≡ k + (children x + total children (take w xs)) = omega arith in
      rw (← e₁, ← e₂) (later_drop (suc i) (k + children x) w xs p.1 (omega arith))

-- ---- from the tests

ascending_true : (es : List Branch) → ascending es ≡ true → Ascends es
unfolding ascending
ascending_true [] h = tt
ascending_true (e ∷ []) h = (tt, tt)
ascending_true (e ∷ f ∷ es) h =
    let p = and_both (ltb (label_of e) (label_of f)) (ascending (f ∷ es)) h in
    let l : label_of e < label_of f = ltb-true (label_of e) (label_of f) p.0 in
    (omega (arith), ascending_true (f ∷ es) p.1)

labelled_true : (n : Node) → has_label n ≡ true → ascending (branches_of n) ≡ true → Labelled n
unfolding has_label
labelled_true (node o []) h r = absurd (true≢false (sym h))
labelled_true (node o (e ∷ es)) h r = ascending_true (e ∷ es) r

-- Nodes that pass the tests of labels are labelled.
pub all_labelled : (ns : List Node) → all has_label ns ≡ true → all (λ n. ascending (branches_of n)) ns ≡ true → All Labelled ns
unfolding all
all_labelled [] h r = tt
all_labelled (n ∷ ns) h r =
    let p = and_both (has_label n) (all has_label ns) h in
    let q = and_both (ascending (branches_of n)) (all (λ n. ascending (branches_of n)) ns) r in
    (labelled_true n p.0 q.0, all_labelled ns p.1 q.1)

sole_continues_true : (n : Node) → has_label n ≡ true → sole_continues n ≡ true → SoleContinues n
unfolding has_label sole_continues
sole_continues_true (node o []) h r = absurd (true≢false (sym h))
sole_continues_true (node none (to_node x ∷ [])) h r = tt
sole_continues_true (node none (to_leaf x s ∷ [])) h r = absurd (true≢false (sym r))
sole_continues_true (node none (e ∷ f ∷ es)) h r = tt
sole_continues_true (node (some s) (e ∷ es)) h r = tt

-- Nodes that pass the tests of labels and of a sole entry are labelled, and a sole entry continues.
pub all_sole_continue : (ns : List Node) → all has_label ns ≡ true → all sole_continues ns ≡ true → All SoleContinues ns
unfolding all
all_sole_continue [] h r = tt
all_sole_continue (n ∷ ns) h r =
    let p = and_both (has_label n) (all has_label ns) h in
    let q = and_both (sole_continues n) (all sole_continues ns) r in
    (sole_continues_true n p.0 q.0, all_sole_continue ns p.1 q.1)

-- linked levels, the first of w nodes, whose nodes are ns
pub record AreLevels (w : ℕ) (ns : List Node) (ls : List (List Node)) : Type 0 where
  pub linked : Linked ls
  pub wide : first_width ls ≡ w
  pub whole : concat ls ≡ ns

-- Labelled nodes, as many as continuing branches and w more, each branch leading to a later node, are the nodes of their levels.
pub nodes_levels : (f i k w : ℕ) (ns : List Node) → later children_of i k ns ≡ true → i + w ≡ k + 1 → w + total children_of ns ≡ length ns
    → length (levels children_of f w ns) < f → All Labelled ns → AreLevels w ns (levels children_of f w ns)
unfolding levels concat
nodes_levels zero i k w ns h e t l a = absurd (omega arith)
nodes_levels (suc f) i k zero ns h e t l a = record { linked = tt; wide = refl; whole = none_left ns (omega (arith, later_none children_of i k ns h (omega arith))) }
  where
    none_left : (ns : List Node) → length ns ≡ 0 → [] ≡ ns
    none_left [] z = refl
    none_left (n ∷ ns) z = absurd (omega arith)
nodes_levels (suc f) i k (suc w) ns h e t l a =
    let fits : suc w ≤ length ns = omega arith in
    let s = total_split children_of (suc w) ns in
    let n : length (drop (suc w) ns) ≡ length ns - suc w = length-drop (suc w) ns in
    let m : length (take (suc w) ns) ≡ suc w = length-take-le (suc w) ns fits in
    let ih = nodes_levels f (i + suc w) (k + total children_of (take (suc w) ns)) (total children_of (take (suc w) ns)) (drop (suc w) ns)
    (later_drop children_of i k (suc w) ns h fits) (omega arith) (omega arith) (omega arith) (all_drop Labelled (suc w) ns a) in
    record {
      linked = (all_take Labelled (suc w) ns a, sym ih.wide, omega arith, ih.linked);
      wide = m;
      whole = ap (λ (z : List Node). take (suc w) ns ++ z) ih.whole ∙ take-append-drop (suc w) ns;
    }

-- ---- to the tests

-- Linked levels are cut again from their nodes.
levels_concat : (f : ℕ) (ls : List (List Node)) → Linked ls → length ls < f → levels children_of f (first_width ls) (concat ls) ≡ ls
unfolding levels concat
levels_concat zero ls k h = absurd (omega arith)
levels_concat (suc f) [] k h = refl
levels_concat (suc f) ([] ∷ ls) k h = absurd (omega (arith, k.2))
levels_concat (suc f) ((n ∷ ns) ∷ ls) k h =
    let t = take_at (n ∷ ns) (concat ls) (suc (length ns)) refl in
    let d = drop_at (n ∷ ns) (concat ls) (suc (length ns)) refl in
    let w : total children_of (n ∷ ns) ≡ first_width ls = k.1 in
    ap₂ ◌∷◌ t (ap₂ (λ (a b : List Node). levels children_of f (total children_of a) b) t d ∙ ap (λ (z : ℕ). levels children_of f z (concat ls)) w ∙ levels_concat f ls k.3 (omega arith))

-- Linked levels below one root are cut again from their nodes.
pub levels_of_concat : (ls : List (List Node)) → Linked ls → first_width ls ≡ 1 → length ls ≤ 64 → levels_of (concat ls) ≡ ls
unfolding levels_of
levels_of_concat ls k w h = ap (λ (z : ℕ). levels children_of 65 z (concat ls)) (sym w) ∙ levels_concat 65 ls k (omega arith)

-- The nodes of linked levels are as many as continuing branches and the first level's nodes.
pub linked_count : (ls : List (List Node)) → Linked ls → first_width ls + total children_of (concat ls) ≡ length (concat ls)
unfolding concat total
linked_count [] k = refl
linked_count (ns ∷ ls) k = omega (arith, total_append children_of ns (concat ls), k.1, length-append ns (concat ls), linked_count ls k.3)

later_level : (ns : List Node) (i k : ℕ) (rest : List Node) → i + length ns ≤ k + 1 → later children_of (i + length ns) (k + total children_of ns) rest ≡ true → later children_of i k (ns ++ rest) ≡ true
unfolding later total
later_level [] i k rest h l = let e : i + 0 ≡ i = omega arith in let f : k + 0 ≡ k = omega arith in rw (e, f) at l
later_level (n ∷ ns) i k rest h l =
    let e : i + suc (length ns) ≡ suc i + length ns = omega arith in
    let f : k + (children_of n + total children_of ns) ≡ k + children_of n + total children_of ns = omega arith in
    rw (le-leb i k (omega arith), or-true (eqb (children_of n) 0)) (later_level ns (suc i) (k + children_of n) rest (omega arith) (rw (e, f) at l))

later_nil : (i k : ℕ) → later children_of i k [] ≡ true
unfolding later
later_nil i k = refl

-- Each branch of linked levels leads to a later node.
pub linked_later : (ls : List (List Node)) (i k : ℕ) → Linked ls → i + first_width ls ≡ k + 1 → later children_of i k (concat ls) ≡ true
unfolding concat
linked_later [] i k l h = later_nil i k
linked_later (ns ∷ ls) i k l h = later_level ns i k (concat ls) (omega arith) (linked_later ls (i + length ns) (k + total children_of ns) l.3 (omega (arith, l.1)))

ascends_true : (es : List Branch) → Ascends es → ascending es ≡ true
unfolding ascending
ascends_true [] r = refl
ascends_true (e ∷ []) r = refl
ascends_true (e ∷ f ∷ es) r = rw (lt-ltb (label_of e) (label_of f) (omega (arith, r.0))) (ascends_true (f ∷ es) r.1)

-- Labelled nodes pass the tests of labels.
pub labelled_tests : (ns : List Node) → All Labelled ns → (all has_label ns ≡ true) × (all (λ n. ascending (branches_of n)) ns ≡ true)
unfolding all has_label
labelled_tests [] a = (refl, refl)
labelled_tests (node o [] ∷ ns) a = absurd a.0
labelled_tests (node o (e ∷ es) ∷ ns) a = let r = labelled_tests ns a.1 in (r.0, rw (ascends_true (e ∷ es) a.0) r.1)

-- Nodes whose sole entries continue pass the test of a sole entry.
pub sole_continues_tests : (ns : List Node) → All SoleContinues ns → all sole_continues ns ≡ true
unfolding all sole_continues
sole_continues_tests [] r = refl
sole_continues_tests (node o [] ∷ ns) r = absurd r.0
sole_continues_tests (node none (to_node x ∷ []) ∷ ns) r = sole_continues_tests ns r.1
sole_continues_tests (node none (to_leaf x s ∷ []) ∷ ns) r = absurd r.0
sole_continues_tests (node none (e ∷ f ∷ es) ∷ ns) r = sole_continues_tests ns r.1
sole_continues_tests (node (some s) (e ∷ es) ∷ ns) r = sole_continues_tests ns r.1

-- The nodes of linked levels are labelled.
pub linked_labelled : (ls : List (List Node)) → Linked ls → All Labelled (concat ls)
unfolding concat
linked_labelled [] k = tt
linked_labelled (ns ∷ ls) k = all_append Labelled ns (concat ls) k.0 (linked_labelled ls k.3)

-- ---- how many leaves

-- the leaves of groups
unfoldable pub leaves_in : List Group → ℕ
leaves_in [] = 0
leaves_in (g ∷ gs) = length g + leaves_in gs

-- The leaves behind branches are open ones, and those of the groups that the continuing ones lead to.
pub branch_leaves_count : (es : List Branch) (gs : List Group) → children es ≤ length gs → length (branch_leaves es gs) + leaves_in (drop (children es) gs) ≡ open_leaves es + leaves_in gs
unfolding branch_leaves children open_leaves leaves_in
branch_leaves_count [] gs h = omega arith
branch_leaves_count (to_leaf x s ∷ es) gs h = omega (arith, branch_leaves_count es gs h)
branch_leaves_count (to_node x ∷ es) [] h = absurd (omega arith)
branch_leaves_count (to_node x ∷ es) (g ∷ gs) h = omega (arith, length-append (map (prefix x) g) (branch_leaves es gs), length-map g (prefix x), branch_leaves_count es gs (omega arith))

-- A node has one exact leaf or none.
pub exact_leaf_count : (o : Option Bits) (es : List Branch) → length (exact_leaf o) ≡ bit (is_exact (node o es))
unfolding exact_leaf
exact_leaf_count none es = refl
exact_leaf_count (some s) es = refl

-- The leaves of a level's groups are those that its nodes count and those of the groups below.
level_groups_count : (ns : List Node) (gs : List Group) → total children_of ns ≡ length gs → leaves_in (level_groups ns gs) ≡ leaf_count ns + leaves_in gs
unfolding level_groups total leaf_count leaves_in
level_groups_count [] [] h = refl
level_groups_count [] (g ∷ gs) h = absurd (omega arith)
level_groups_count (node o es ∷ ns) gs h =
    let n = length-drop (children es) gs in
    omega (arith, length-append (exact_leaf o) (branch_leaves es gs), exact_leaf_count o es, branch_leaves_count es gs (omega arith), level_groups_count ns (drop (children es) gs) (omega arith))

-- The leaves that two lists of nodes count are those of each.
pub leaf_count_append : (a b : List Node) → leaf_count (a ++ b) ≡ leaf_count a + leaf_count b
unfolding leaf_count
leaf_count_append [] b = omega arith
leaf_count_append (n ∷ a) b = omega (arith, leaf_count_append a b)

-- The leaves of linked levels are as many as their nodes count.
pub leaf_count_levels : (ls : List (List Node)) → Linked ls → leaves_in (groups ls) ≡ leaf_count (concat ls)
unfolding groups concat leaf_count leaves_in
leaf_count_levels [] k = refl
leaf_count_levels (ns ∷ ls) k =
    let w = (levels_back ls k.3).wide in
    omega (arith, level_groups_count ns (groups ls) (k.1 ∙ sym w), leaf_count_append ns (concat ls), leaf_count_levels ls k.3)

-- The leaves below a root are as many as the nodes count.
pub leaf_count_root : (ls : List (List Node)) (g : Group) → Linked ls → groups ls ≡ g ∷ [] → length g ≡ leaf_count (concat ls)
unfolding leaves_in
leaf_count_root ls g k e = omega (arith, leaf_count_levels ls k, ap leaves_in e)

-- ---- how many nodes and entries

-- A node's group has a leaf.
pub node_group_leaf : {g : Group} → NodeGroup g → 0 < length g
node_group_leaf (plain_node r) = omega arith
node_group_leaf (exact_node r) = omega arith

-- There are no more nodes' groups than leaves in them.
node_groups_count : (gs : List Group) → All NodeGroup gs → length gs ≤ leaves_in gs
unfolding leaves_in
node_groups_count [] h = omega arith
node_groups_count (g ∷ gs) h = omega (arith, node_group_leaf h.0, node_groups_count gs h.1)

-- A level has no more nodes than there are leaves.
pub first_width_bound : (ls : List (List Node)) → Linked ls → first_width ls ≤ leaf_count (concat ls)
first_width_bound ls k = let w = levels_back ls k in omega (arith, node_groups_count (groups ls) w.node_groups, w.wide, leaf_count_levels ls k)

-- k levels have no more nodes than k times the leaves.
pub nodes_bound : (k N : ℕ) (ls : List (List Node)) → Linked ls → leaf_count (concat ls) ≤ N → length (concat (take k ls)) ≤ k * N
unfolding concat
nodes_bound zero N ls l h = omega arith
nodes_bound (suc k) N [] l h = omega arith
nodes_bound (suc k) N (ns ∷ ls) l h =
    let c = leaf_count_append ns (concat ls) in
    omega (arith, first_width_bound (ns ∷ ls) l, length-append ns (concat (take k ls)), nodes_bound k N ls l.3 (omega arith), suc-mul k N)

-- Branches are continuing ones and open leaves.
branches_count : (es : List Branch) → length es ≡ children es + open_leaves es
unfolding children open_leaves
branches_count [] = refl
branches_count (to_node x ∷ es) = omega (arith, branches_count es)
branches_count (to_leaf x s ∷ es) = omega (arith, branches_count es)

-- A node's sparse entries are its leaves and its continuing branches.
sparse_labels_length : (n : Node) → length (sparse_labels n) ≡ bit (is_exact n) + open_leaves (branches_of n) + children_of n
unfolding sparse_labels
sparse_labels_length (node none es) = omega (arith, length-map es label_of, branches_count es)
sparse_labels_length (node (some s) es) = omega (arith, length-map es label_of, branches_count es)

-- Nodes' sparse entries are their leaves and their continuing branches.
pub sparse_labels_count : (ns : List Node) → length (concat (map sparse_labels ns)) ≡ leaf_count ns + total children_of ns
unfolding concat leaf_count total
sparse_labels_count [] = refl
sparse_labels_count (n ∷ ns) = omega (arith, length-append (sparse_labels n) (concat (map sparse_labels ns)), sparse_labels_length n, sparse_labels_count ns)
