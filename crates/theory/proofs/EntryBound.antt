-- How many entries, branches and exact leaves together, the trie of a leaf list has: at most one for each byte of a cut key, and one for each leaf.
-- So a key list has at most 4,259,775.
use Rattle.std.specs.Prelude.{ℕ, zero, suc, ◌+◌, ◌*◌, ◌≤◌, ◌≡◌, cond, Bool, true, false, List, [], ◌∷◌, ◌++◌, map, length, eqb}
use Rattle.std.proofs.Common.{ap, ◌∙◌, arith, length-append}
use Rattle.std.proofs.lemmas.List.{map-append, length-map}
use Rattle.spec.specs.Bytes.{Bytes, Bits, concat}
use Rattle.spec.specs.Keys.{keys, parse_keys}
use Rattle.spec.specs.Leaves.{Leaf, leaves}
use Rattle.spec.specs.Image.{nodes}
use Rattle.spec.specs.Nodes.{Group, Branch, Node, node, label_of, is_exact}
use Rattle.spec.specs.Build.{trie_entries}
use Rattle.theory.specs.Terms.{IsBytes, most_entries}
use Rattle.theory.proofs.Lists.{concat_append}
use Rattle.theory.proofs.LeafLists.{Realizable}
use Rattle.theory.proofs.KeyLeaves.{leaves_realizable, leaves_well_sized, leaves_length}
use Rattle.theory.proofs.KeyFiles.{keys_exactly}
use Rattle.theory.proofs.LevelTrie.{trie, Subtree, subtree, insert, insert_cut, rest_of, subtrees, child_group, exact_of, node_of, child_groups, branch_of, trie_levels}
use Rattle.theory.proofs.NodeBits.{sparse_labels}
use Rattle.theory.proofs.TrieGroups.{DepthAtMost, well_sized_depth}
use Rattle.theory.proofs.LiteralImage.{map_prefix_nodes, prefix_nodes}
use Rattle.theory.proofs.PrefixNodes.{sparse_labels_at}
use Rattle.spec.specs.Image as Literal

-- the trie's entries: branches and exact leaves together
entry_count : List Leaf → ℕ
unfolding concat trie sparse_labels
entry_count ls = length (concat (map sparse_labels (concat (trie ls))))

-- a leaf weighs one more than its cut key has bytes
weight : Group → ℕ
weight [] = 0
weight (l ∷ ls) = suc (length l.cut) + weight ls

weights : List Group → ℕ
unfolding weight
weights [] = 0
weights (g ∷ gs) = weight g + weights gs

weights_append : (gs hs : List Group) → weights (gs ++ hs) ≡ weights gs + weights hs
unfolding weights
weights_append [] hs = omega arith
weights_append (g ∷ gs) hs = omega (arith, weights_append gs hs)

-- a branch weighs one more than the leaves behind it
branch_weight : List Subtree → ℕ
unfolding weight
branch_weight [] = 0
branch_weight (subtree x g ∷ bs) = suc (weight g) + branch_weight bs

put_weight : (x : ℕ) (l : Leaf) (bs : List Subtree) → branch_weight (insert x l bs) ≤ suc (suc (length l.cut)) + branch_weight bs
unfolding branch_weight insert
put_weight x l [] = omega arith
put_weight x l (subtree y g ∷ bs) = go (eqb x y)
  where
    go : (b : Bool) → branch_weight (cond b (subtree y (l ∷ g) ∷ bs) (subtree x (l ∷ []) ∷ subtree y g ∷ bs)) ≤ suc (suc (length l.cut)) + (suc (weight g) + branch_weight bs)
    go true = omega arith
    go false = omega arith

sort_weight : (c : Bytes) (l : Leaf) (bs : List Subtree) → branch_weight (insert_cut c l bs) ≤ suc (length c) + branch_weight bs
unfolding insert_cut
sort_weight [] l bs = omega arith
sort_weight (x ∷ c) l bs = put_weight x (rest_of c l) bs

subtrees_weight : (g : Group) → branch_weight (subtrees g) ≤ weight g
unfolding subtrees weight branch_weight
subtrees_weight [] = omega arith
subtrees_weight (l ∷ ls) = omega (arith, sort_weight l.cut l (subtrees ls), subtrees_weight ls)

sub_weight : (x : ℕ) (g : Group) → weights (child_group (subtree x g)) ≤ weight g
unfolding child_group weights weight
sub_weight x [] = omega arith
sub_weight x (l ∷ []) = go l.cut l.exact l.suffix
  where
    go : (c : Bytes) (e : Bool) (s : Bits) → weights (child_group (subtree x (record { cut = c; exact = e; suffix = s } ∷ []))) ≤ weight (record { cut = c; exact = e; suffix = s } ∷ [])
    go [] e s = omega arith
    go (y ∷ c) e s = omega arith
sub_weight x (l ∷ m ∷ g) = omega arith

subs_weight : (bs : List Subtree) → length bs + weights (concat (map child_group bs)) ≤ branch_weight bs
unfolding concat weights branch_weight
subs_weight [] = omega arith
subs_weight (subtree x g ∷ bs) = omega (arith, weights_append (child_group (subtree x g)) (concat (map child_group bs)), sub_weight x g, subs_weight bs)

own_weight : (g : Group) (es : List Branch) → length {A = ℕ} (cond (is_exact (node (exact_of g) es)) (255 ∷ []) []) + branch_weight (subtrees g) ≤ weight g
unfolding exact_of subtrees weight branch_weight insert_cut
own_weight [] es = omega arith
own_weight (l ∷ ls) es = go l.cut l.exact l.suffix
  where
    go : (c : Bytes) (e : Bool) (s : Bits) → length {A = ℕ} (cond (is_exact (node (exact_of (record { cut = c; exact = e; suffix = s } ∷ ls)) es)) (255 ∷ []) []) + branch_weight (subtrees (record { cut = c; exact = e; suffix = s } ∷ ls))
        ≤ suc (length c) + weight ls
    go [] e s = omega (arith, subtrees_weight ls)
    go (x ∷ c) e s = omega (arith, put_weight x (record { cut = c; exact = e; suffix = s }) (subtrees ls), subtrees_weight ls)

-- what a node has and what is left for the nodes below it
node_weight : (g : Group) → length (sparse_labels (node_of g)) + weights (child_groups g) ≤ weight g
unfolding sparse_labels node_of child_groups
node_weight g = omega (arith, length-append (cond (is_exact (node (exact_of g) (map branch_of (subtrees g)))) (255 ∷ []) []) (map label_of (map branch_of (subtrees g))), length-map (map branch_of (subtrees g)) label_of, length-map (subtrees g) branch_of, own_weight g (map branch_of (subtrees g)), subs_weight (subtrees g))

level_weight : (gs : List Group) → length (concat (map sparse_labels (map node_of gs))) + weights (concat (map child_groups gs)) ≤ weights gs
unfolding concat weights
level_weight [] = omega arith
level_weight (g ∷ gs) = omega (arith, node_weight g, level_weight gs, weights_append (child_groups g) (concat (map child_groups gs)), length-append (sparse_labels (node_of g)) (concat (map sparse_labels (map node_of gs))))

coded_weight : (f : ℕ) (gs : List Group) → length (concat (map sparse_labels (concat (trie_levels f gs)))) ≤ weights gs
unfolding trie_levels concat
coded_weight zero gs = omega arith
coded_weight (suc f) [] = omega arith
coded_weight (suc f) (g ∷ gs) =
    let here : List Node = map node_of (g ∷ gs) in
    let rest : List Node = concat (trie_levels f (concat (map child_groups (g ∷ gs)))) in
    let e : concat (map sparse_labels (here ++ rest)) ≡ concat (map sparse_labels here) ++ concat (map sparse_labels rest)
    = ap concat (map-append sparse_labels here rest) ∙ concat_append (map sparse_labels here) (map sparse_labels rest) in
    rw e (omega (arith, level_weight (g ∷ gs), coded_weight f (concat (map child_groups (g ∷ gs))), length-append (concat (map sparse_labels here)) (concat (map sparse_labels rest))))

fits_weight : (ls : List Leaf) → DepthAtMost 64 ls → weight ls ≤ 65 * length ls
unfolding weight
fits_weight [] q = omega arith
fits_weight (l ∷ ls) q = omega (arith, q.0, fits_weight ls q.1)

-- A leaf list with cut keys of at most 64 bytes has at most 65 trie entries a leaf.
entry_bound : (ls : List Leaf) → DepthAtMost 64 ls → entry_count ls ≤ 65 * length ls
unfolding entry_count trie weights
entry_bound [] q = omega arith
entry_bound (l ∷ ls) q = omega (arith, coded_weight 64 ((l ∷ ls) ∷ []), fits_weight (l ∷ ls) q)

-- These are the entries of all prefixes of cut keys, each node's branches and the exact leaf that it is.
entry_count_literal : {n : ℕ} (ls : List Leaf) → Realizable n ls → DepthAtMost 64 ls → length (concat (map (Literal.sparse_labels ls) (nodes ls 0 64))) ≡ entry_count ls
unfolding entry_count
entry_count_literal ls g q = ap (λ (z : List Bytes). length (concat z)) (map_prefix_nodes ls (Literal.sparse_labels ls) sparse_labels (nodes ls 0 64) (concat (trie ls)) (sparse_labels_at ls) (prefix_nodes 0 ls (omega arith) g q).rest)

-- A key list that build takes has at most 4,259,775 trie entries, at every width of hash bits and real bits.
pub entries_bound : (list : Bytes) → IsBytes list → (ks : List Bytes) → parse_keys list ≡ keys ks → (h n : ℕ) → trie_entries (leaves h n ks) ≤ most_entries
unfolding trie_entries
entries_bound list w ks f h n =
    let k = (keys_exactly list ks w).0 f in
    let d = well_sized_depth (h + n) (leaves h n ks) (leaves_well_sized h n ks k.each) in
    omega (arith, entry_count_literal (leaves h n ks) (leaves_realizable h n ks k.each k.up) d, entry_bound (leaves h n ks) d, leaves_length h n ks, k.few)
