-- Node numbers: the root is node 0, and the j-th continuing branch of all nodes, in level order, leads to node j (`numbering`); and the leaves before a node (`leaves_before_groups`).
-- Used by the code that descends a trie and counts leaves.
use Rattle.std.specs.Prelude.{ℕ, suc, zero, ◌+◌, ◌≤◌, ◌≡◌, refl, Bool, cond, true, false, List, ◌∷◌, map, [], ◌++◌, ◌⊎◌, length, take, drop}
use Rattle.std.proofs.Common.{ap, ◌∙◌, sym, ap₂, append-nil, append_assoc, inl, inr, arith, add-zero, take-append-drop, length-drop, length-append, take-add, le-ltb}
use Rattle.std.proofs.lemmas.List.{map-append}
use Rattle.std.proofs.lemmas.Simd.{map-map}
use Rattle.std.proofs.Math.Seq.{take-nil}
use Rattle.spec.specs.Bytes.{Bytes, filter, concat, iota, dedup}
use Rattle.spec.specs.Leaves.{Leaf}
use Rattle.spec.specs.Image.{is_node, branches, on_level, nodes}
use Rattle.spec.specs.Nodes.{Group, Node, total, children_of, level_groups, node, children, exact_leaf, branch_leaves, groups}
use Rattle.spec.specs.Trie.{leaf_count}
use Rattle.theory.proofs.LeafLists.{Realizable}
use Rattle.theory.proofs.Lists.{map_ext, concat_append}
use Rattle.theory.proofs.LevelTrie.{Subtree, Subtrees, subtree, LeafGroup, NodeGroup, TrieGroup, InnerGroup, subtrees}
use Rattle.theory.proofs.LinkedLevels.{Linked, levels_back}
use Rattle.theory.proofs.TrieGroups.{DepthAtMost, realizable_trie_group, has_leaf}
use Rattle.theory.proofs.Levels.{leaves_in, exact_leaf_count, branch_leaves_count}
use Rattle.theory.proofs.PrefixNodes.{cons, behind, branches_behind, is_node_behind}
use Rattle.theory.proofs.LevelPrefixes.{GroupsBehind, prefixes_below, on_level_leaf, branch_prefixes, leaf_group_no_node, on_level_root, node_group_is_node, root_branches}

-- ---- the j-th continuing branch

-- where a prefix's continuing branches lead
unfoldable pub continuing : List Leaf → Bytes → List Bytes
unfolding filter is_node branches
continuing ls p = filter (is_node ls) (branches ls p)

-- Tests that agree behind one more byte.
filter_map_cons : (p q : Bytes → Bool) (x : ℕ) → ((k : Bytes) → p (x ∷ k) ≡ q k) → (ks : List Bytes) → filter p (map (cons x) ks) ≡ map (cons x) (filter q ks)
unfolding filter
filter_map_cons p q x h [] = refl
filter_map_cons p q x h (k ∷ ks) = rw (h k) (go (q k) (filter_map_cons p q x h ks))
  where
    go : (b : Bool) → filter p (map (cons x) ks) ≡ map (cons x) (filter q ks) → cond b ((x ∷ k) ∷ filter p (map (cons x) ks)) (filter p (map (cons x) ks)) ≡ map (cons x) (cond b (k ∷ filter q ks) (filter q ks))
    go true ih = ap (λ (z : List Bytes). (x ∷ k) ∷ z) ih
    go false ih = ih

continuing_behind : (x : ℕ) (g u : Group) → behind x g ≡ u → (p : Bytes) → continuing g (x ∷ p) ≡ map (cons x) (continuing u p)
unfolding continuing
continuing_behind x g u e p =
    ap (filter (is_node g)) (branches_behind x p g)
    ∙ filter_map_cons (is_node g) (is_node (behind x g)) x (λ k. is_node_behind x k g) (branches (behind x g) p)
    ∙ ap (λ (z : Group). map (cons x) (filter (is_node z) (branches z p))) e

concat_map_cons : (x : ℕ) (qs : List (List Bytes)) → concat (map (map (cons x)) qs) ≡ map (cons x) (concat qs)
unfolding concat
concat_map_cons x [] = refl
concat_map_cons x (q ∷ qs) = ap (λ (z : List Bytes). map (cons x) q ++ z) (concat_map_cons x qs) ∙ sym (map-append (cons x) q (concat qs))

-- The next level below a branch.
branch_next : (d : ℕ) (x : ℕ) (g u : Group) → behind x g ≡ u → on_level u (suc d) ≡ concat (map (continuing u) (on_level u d))
    → map (cons x) (on_level u (suc d)) ≡ concat (map (continuing g) (map (cons x) (on_level u d)))
branch_next d x g u e ih =
    ap (map (cons x)) ih
    ∙ sym (concat_map_cons x (map (continuing u) (on_level u d)))
    ∙ ap concat (map-map (map (cons x)) (continuing u) (on_level u d)
    ∙ sym (map-map (continuing g) (cons x) (on_level u d) ∙ map_ext (λ p. continuing g (x ∷ p)) (λ p. map (cons x) (continuing u p)) (continuing_behind x g u e) (on_level u d)))

branches_next : (d : ℕ) (g : Group) (P : Group → Type 0) → ((u : Group) → P u → on_level u (suc d) ≡ concat (map (continuing u) (on_level u d)))
    → (bs : List Subtree) → GroupsBehind g bs → Subtrees P bs → prefixes_below (suc d) bs ≡ concat (map (continuing g) (prefixes_below d bs))
unfolding prefixes_below concat
branches_next d g P ih [] b s = refl
branches_next d g P ih (subtree x u ∷ bs) b s =
    ap₂ ◌++◌ (branch_next d x g u b.0 (one s.0)) (branches_next d g P ih bs b.1 s.1)
    ∙ sym (ap concat (map-append (continuing g) (map (cons x) (on_level u d)) (prefixes_below d bs)) ∙ concat_append (map (continuing g) (map (cons x) (on_level u d))) (map (continuing g) (prefixes_below d bs)))
  where
    one : LeafGroup u ⊎ (NodeGroup u × P u) → on_level u (suc d) ≡ concat (map (continuing u) (on_level u d))
    one (inl s) = on_level_leaf (suc d) s ∙ ap (λ (z : List Bytes). concat (map (continuing u) z)) (sym (on_level_leaf d s))
    one (inr h) = ih u h.1

-- The first level below the root is where its continuing branches lead.
root_next : (g : Group) (P : Group → Type 0) (bs : List Subtree) → GroupsBehind g bs → Subtrees P bs → prefixes_below 0 bs ≡ filter (is_node g) (branch_prefixes bs)
unfolding prefixes_below branch_prefixes filter
root_next g P [] b s = refl
root_next g P (subtree x u ∷ bs) b s = rw (is_node_behind x [] g, b.0) (one s.0 (root_next g P bs b.1 s.1))
  where
    one : LeafGroup u ⊎ (NodeGroup u × P u) → prefixes_below 0 bs ≡ filter (is_node g) (branch_prefixes bs)
        → map (cons x) (on_level u 0) ++ prefixes_below 0 bs ≡ cond (is_node u []) ((x ∷ []) ∷ filter (is_node g) (branch_prefixes bs)) (filter (is_node g) (branch_prefixes bs))
    one (inl s) ih = rw (on_level_leaf 0 s, leaf_group_no_node s) ih
    one (inr h) ih = rw (on_level_root h.0, node_group_is_node h.0) (ap (λ (z : List Bytes). (x ∷ []) ∷ z) ih)

-- The nodes of a level are where the continuing branches of the level above lead, in order.
level_next : (d f : ℕ) (g : Group) → TrieGroup f g → on_level g (suc d) ≡ concat (map (continuing g) (on_level g d))
unfolding concat continuing
level_next d zero g n = absurd n
level_next zero (suc f) g n =
    let p = root_branches n.0 n.1 in
    p.level 0
    ∙ root_next g (InnerGroup f) (subtrees g) p.behind_each n.2
    ∙ ap (filter (is_node g)) (sym p.leads)
    ∙ sym (append-nil (continuing g []))
    ∙ ap (λ (z : List Bytes). concat (map (continuing g) z)) (sym (on_level_root n.0))
level_next (suc d) (suc f) g n =
    let p = root_branches n.0 n.1 in
    p.level (suc d)
    ∙ branches_next d g (InnerGroup f) (λ u m. level_next d f u m.1) (subtrees g) p.behind_each n.2
    ∙ ap (λ (z : List Bytes). concat (map (continuing g) z)) (sym (p.level d))

levels_next : (f : ℕ) (g : Group) → TrieGroup f g → (a k : ℕ)
    → on_level g a ++ concat (map (continuing g) (concat (map (on_level g) (iota a k)))) ≡ concat (map (on_level g) (iota a k)) ++ on_level g (a + k)
unfolding concat iota
levels_next f g n a zero = append-nil (on_level g a) ∙ ap (on_level g) (sym (add-zero a))
levels_next f g n a (suc k) =
    let rest : List Bytes = concat (map (on_level g) (iota (suc a) k)) in
    let e : suc a + k ≡ a + suc k = omega arith in
    let s : concat (map (continuing g) (on_level g a ++ rest)) ≡ rest ++ on_level g (a + suc k)
    = ap concat (map-append (continuing g) (on_level g a) rest)
    ∙ concat_append (map (continuing g) (on_level g a)) (map (continuing g) rest)
    ∙ ap (λ (z : List Bytes). z ++ concat (map (continuing g) rest)) (sym (level_next a f g n))
    ∙ levels_next f g n (suc a) k
    ∙ ap (λ (z : ℕ). rest ++ on_level g z) e in
    ap (λ (z : List Bytes). on_level g a ++ z) s ∙ sym (append_assoc (on_level g a) rest (on_level g (a + suc k)))

-- No node is on level 64.
pub on_level_64 : (ls : List Leaf) → DepthAtMost 64 ls → on_level ls 64 ≡ []
unfolding on_level filter dedup
on_level_64 [] q = refl
on_level_64 (l ∷ ls) q = rw (le-ltb 64 (length l.cut) q.0) (on_level_64 ls q.1)

-- The root is node 0, and the j-th continuing branch, of all nodes in level order, leads to node j.
pub numbering : {n : ℕ} (l : Leaf) (ls : List Leaf) → Realizable n (l ∷ ls) → DepthAtMost 64 (l ∷ ls)
    → nodes (l ∷ ls) 0 64 ≡ [] ∷ concat (map (continuing (l ∷ ls)) (nodes (l ∷ ls) 0 64))
unfolding nodes
numbering l ls g q =
    let N : TrieGroup 64 (l ∷ ls) = realizable_trie_group 63 (l ∷ ls) has_leaf g q in
    let all : List Bytes = concat (map (on_level (l ∷ ls)) (iota 0 64)) in
    sym (ap (λ (z : List Bytes). z ++ concat (map (continuing (l ∷ ls)) all)) (sym (on_level_root N.0))
    ∙ levels_next 64 (l ∷ ls) N 0 64
    ∙ ap (λ (z : List Bytes). all ++ z) (on_level_64 (l ∷ ls) q)
    ∙ append-nil all)

-- ---- leaves before a node

-- the leaves at or below the first k nodes of the first level, level by level
unfoldable pub leaves_before : List (List Node) → ℕ → ℕ
unfolding leaf_count total
leaves_before [] k = 0
leaves_before (ns ∷ ls) k = leaf_count (take k ns) + leaves_before ls (total children_of (take k ns))

leaves_in_append : (gs hs : List Group) → leaves_in (gs ++ hs) ≡ leaves_in gs + leaves_in hs
unfolding leaves_in
leaves_in_append [] hs = omega arith
leaves_in_append (g ∷ gs) hs = omega (arith, leaves_in_append gs hs)

leaves_in_split : (k : ℕ) (gs : List Group) → leaves_in gs ≡ leaves_in (take k gs) + leaves_in (drop k gs)
leaves_in_split k gs = ap leaves_in (sym (take-append-drop k gs)) ∙ leaves_in_append (take k gs) (drop k gs)

-- The leaves of the groups of the first k nodes of a level, over the groups below.
leaves_in_nodes : (k : ℕ) (ns : List Node) (gs : List Group) → total children_of ns ≤ length gs → leaves_in (take k (level_groups ns gs)) ≡ leaf_count (take k ns) + leaves_in (take (total children_of (take k ns)) gs)
unfolding level_groups leaf_count total leaves_in
leaves_in_nodes zero ns gs h = omega arith
leaves_in_nodes (suc k) [] gs h = omega arith
leaves_in_nodes (suc k) (node o es ∷ ns) gs h =
    let n = length-drop (children es) gs in
    let ih = leaves_in_nodes k ns (drop (children es) gs) (omega arith) in
    let t = ap leaves_in (take-add (children es) (total children_of (take k ns)) gs) ∙ leaves_in_append (take (children es) gs) (take (total children_of (take k ns)) (drop (children es) gs)) in
    omega (arith, ih, t, length-append (exact_leaf o) (branch_leaves es gs), exact_leaf_count o es, branch_leaves_count es gs (omega arith), leaves_in_split (children es) gs)

-- The leaves at or below the first k nodes of the first of linked levels are those of their groups.
pub leaves_before_groups : (ls : List (List Node)) → Linked ls → (k : ℕ) → leaves_before ls k ≡ leaves_in (take k (groups ls))
unfolding leaves_before groups leaves_in
leaves_before_groups [] h k = ap leaves_in (sym (take-nil {A = Group} k))
leaves_before_groups (ns ∷ ls) h k =
    let w = (levels_back ls h.3).wide in
    omega (arith, leaves_in_nodes k ns (groups ls) (omega (arith, h.1)), leaves_before_groups ls h.3 (total children_of (take k ns)))
