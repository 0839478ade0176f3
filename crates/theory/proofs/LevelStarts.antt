-- Order 8: the records of a version, and the first nodes of the levels that LV holds. How many nodes a leaf list has on each level its trie tells (`trie_starts`).
-- Used by the literal image, by the parts of an image and by acceptance.
use Rattle.std.specs.Prelude.{ℕ, zero, suc, ◌+◌, ◌*◌, ◌≤◌, ◌<◌, ◌≡◌, refl, Bool, true, false, cond, List, [], ◌∷◌, ◌++◌, map, length, get_or, take, drop, ltb, eqb}
use Rattle.std.proofs.Common.{sym, ap, ap₂, ◌∙◌, append-nil, append_assoc, arith, length-append, take_at, ltb-true, lt-ltb, le-ltb}
use Rattle.std.proofs.lemmas.List.{length-map}
use Rattle.spec.specs.Bytes.{Bytes, concat, iota, filter, equal, le32}
use Rattle.spec.specs.Leaves.{Leaf}
use Rattle.spec.specs.Image.{on_level, rows, level_row, level_rows, version_rows, first_nodes, level_starts, level_widths, level_bodies}
use Rattle.spec.specs.Nodes.{Group, Node, children_of, total, levels, levels_of}
use Rattle.theory.specs.Terms.{All, IsBytes}
use Rattle.theory.proofs.Lists.{bytes_append, bytes_le32}
use Rattle.theory.proofs.Order.{equal_true, equal_self}
use Rattle.theory.proofs.LeafLists.{Realizable}
use Rattle.theory.proofs.Frame.{Paired}
use Rattle.theory.proofs.LevelTrie.{node_of, child_groups, trie_levels, trie}
use Rattle.theory.proofs.TrieGroups.{DepthAtMost, realizable_trie_group, has_leaf}
use Rattle.theory.proofs.LinkedLevels.{Linked, first_width}
use Rattle.theory.proofs.Levels.{levels_of_concat, total_append}
use Rattle.theory.proofs.TrieTests.{EmptyOrValid, empty_list, valid_trie, root_first_width}
use Rattle.theory.proofs.PrefixNodes.{node_at}
use Rattle.theory.proofs.LevelPrefixes.{groups_below, groups_below_none, TrieNode, nodes_on_level}

-- ---- the records of a version

-- the twelve, and those behind them
pub version_rows_are : (v : ℕ) → version_rows v ≡ rows ++ level_rows v
unfolding version_rows
version_rows_are v = refl

-- those behind them are as many as their bodies
pub level_paired : (v : ℕ) (ws : List ℕ) → Paired (level_rows v) (level_bodies v ws)
unfolding level_rows level_bodies
level_paired v ws = go (eqb v 2)
  where
    go : (t : Bool) → Paired (cond t (level_row ∷ []) []) (cond t (level_starts ws ∷ []) [])
    go true = tt
    go false = tt

-- Bodies behind the twelve that pass their test are the version's.
pub level_bodies_are : (v : ℕ) (ws : List ℕ) (bs : List Bytes) → Paired (level_rows v) bs → cond (eqb v 2) (equal (get_or bs 0 []) (level_starts ws)) true ≡ true → bs ≡ level_bodies v ws
unfolding level_rows level_bodies
level_bodies_are v ws bs p h = go (eqb v 2) bs p h
  where
    go : (t : Bool) (bs : List Bytes) → Paired (cond t (level_row ∷ []) []) bs → cond t (equal (get_or bs 0 []) (level_starts ws)) true ≡ true → bs ≡ cond t (level_starts ws ∷ []) []
    go true [] p h = absurd p
    go true (b ∷ []) p h = ap (λ (z : Bytes). z ∷ []) (equal_true b (level_starts ws) h)
    go true (b ∷ c ∷ bs) p h = absurd p
    go false [] p h = refl
    go false (b ∷ bs) p h = absurd p

-- The version's pass it.
pub level_bodies_pass : (v : ℕ) (ws : List ℕ) → cond (eqb v 2) (equal (get_or (level_bodies v ws) 0 []) (level_starts ws)) true ≡ true
unfolding level_bodies
level_bodies_pass v ws = go (eqb v 2)
  where
    go : (t : Bool) → cond t (equal (get_or (cond t (level_starts ws ∷ []) []) 0 []) (level_starts ws)) true ≡ true
    go true = equal_self (level_starts ws)
    go false = refl

-- What holds of the first nodes' bytes holds of the bodies behind the twelve.
pub level_all : (P : Bytes → Type 0) (v : ℕ) (ws : List ℕ) → P (level_starts ws) → All P (level_bodies v ws)
unfolding level_bodies
level_all P v ws h = go (eqb v 2)
  where
    go : (t : Bool) → All P (cond t (level_starts ws ∷ []) [])
    go true = (h, tt)
    go false = tt

-- ---- the first nodes

-- There is one for each level.
pub first_nodes_count : (i : ℕ) (ws : List ℕ) → length (first_nodes i ws) ≡ length ws
unfolding first_nodes
first_nodes_count i [] = refl
first_nodes_count i (w ∷ ws) = ap suc (first_nodes_count (i + w) ws)

numbers_length : (xs : List ℕ) → length (concat (map le32 xs)) ≡ 4 * length xs
unfolding concat le32
numbers_length [] = refl
numbers_length (x ∷ xs) = omega (arith, length-append (le32 x) (concat (map le32 xs)), numbers_length xs)

filter_few : (p : ℕ → Bool) (ws : List ℕ) → length (filter p ws) ≤ length ws
unfolding filter
filter_few p [] = omega arith
filter_few p (w ∷ ws) = go (p w) (filter_few p ws)
  where
    go : (t : Bool) → length (filter p ws) ≤ length ws → length (cond t (w ∷ filter p ws) (filter p ws)) ≤ suc (length ws)
    go true h = omega arith
    go false h = omega arith

-- Their bytes are at most four for each level,
pub level_starts_few : (ws : List ℕ) → length (level_starts ws) ≤ 4 * length ws
unfolding level_starts
level_starts_few ws = omega (arith, numbers_length (first_nodes 0 (filter (ltb 0) ws)), first_nodes_count 0 (filter (ltb 0) ws), filter_few (ltb 0) ws)

numbers_bytes : (xs : List ℕ) → IsBytes (concat (map le32 xs))
unfolding concat
numbers_bytes [] = tt
numbers_bytes (x ∷ xs) = bytes_append (le32 x) (concat (map le32 xs)) (bytes_le32 x) (numbers_bytes xs)

-- and they are bytes.
pub level_starts_bytes : (ws : List ℕ) → IsBytes (level_starts ws)
unfolding level_starts
level_starts_bytes ws = numbers_bytes (first_nodes 0 (filter (ltb 0) ws))

levels_few : (f w : ℕ) (ns : List Node) → length (levels children_of f w ns) ≤ f
unfolding levels
levels_few zero w ns = omega arith
levels_few (suc f) zero ns = omega arith
levels_few (suc f) (suc w) ns = omega (arith, levels_few f (total children_of (take (suc w) ns)) (drop (suc w) ns))

-- Nodes are cut into at most 65 levels.
pub levels_of_few : (ns : List Node) → length (levels_of ns) ≤ 65
unfolding levels_of
levels_of_few ns = levels_few 65 1 ns

-- ---- the levels of a leaf list

-- how many nodes are on levels a, a + 1, .. , k of them
level_sizes : List Group → ℕ → ℕ → List ℕ
level_sizes gs a zero = []
level_sizes gs a (suc k) = length (groups_below a gs) ∷ level_sizes gs (suc a) k

level_sizes_next : (gs : List Group) (a k : ℕ) → level_sizes gs (suc a) k ≡ level_sizes (concat (map child_groups gs)) a k
unfolding level_sizes groups_below
level_sizes_next gs a zero = refl
level_sizes_next gs a (suc k) = ap (λ (z : List ℕ). length (groups_below a (concat (map child_groups gs))) ∷ z) (level_sizes_next gs (suc a) k)

no_sizes : (a k : ℕ) → filter (ltb 0) (level_sizes [] a k) ≡ []
unfolding level_sizes filter
no_sizes a zero = refl
no_sizes a (suc k) = rw (groups_below_none a) (no_sizes (suc a) k)

sizes_levels : (f : ℕ) (gs : List Group) → filter (ltb 0) (level_sizes gs 0 f) ≡ filter (ltb 0) (map length (trie_levels f gs))
unfolding level_sizes trie_levels groups_below filter
sizes_levels zero gs = refl
sizes_levels (suc f) [] = no_sizes 1 f
sizes_levels (suc f) (g ∷ gs) =
    ap₂ (λ (a : ℕ) (b : List ℕ). cond (ltb 0 (suc a)) (suc a ∷ b) b) (sym (length-map gs node_of)) (ap (filter (ltb 0)) (level_sizes_next (g ∷ gs) 0 f) ∙ sizes_levels f (concat (map child_groups (g ∷ gs))))

prefix_sizes : (ls : Group) → TrieNode ls → (a k : ℕ) → map (λ d. length (on_level ls d)) (iota a k) ≡ level_sizes (ls ∷ []) a k
unfolding iota level_sizes
prefix_sizes ls r a zero = refl
prefix_sizes ls r a (suc k) =
    ap₂ (λ (n : ℕ) (z : List ℕ). n ∷ z) (sym (length-map (on_level ls a) (node_at ls)) ∙ ap length (nodes_on_level a ls r) ∙ length-map (groups_below a (ls ∷ [])) node_of) (prefix_sizes ls r (suc a) k)

-- A realizable leaf list has as many nodes on each level that has nodes as its trie.
trie_widths : {n : ℕ} (ls : List Leaf) → Realizable n ls → DepthAtMost 64 ls → filter (ltb 0) (level_widths ls) ≡ filter (ltb 0) (map length (trie ls))
unfolding level_widths trie on_level iota filter
trie_widths [] g q = refl
trie_widths (l ∷ ls) g q = ap (filter (ltb 0)) (prefix_sizes (l ∷ ls) (record { depth = 64; shape = realizable_trie_group 63 (l ∷ ls) has_leaf g q }) 0 64) ∙ sizes_levels 64 ((l ∷ ls) ∷ [])

-- The levels that are cut from a trie's nodes have as many.
levels_widths : {ls : List Leaf} → EmptyOrValid ls → filter (ltb 0) (map length (levels_of (concat (trie ls)))) ≡ filter (ltb 0) (map length (trie ls))
unfolding levels_of total trie concat filter
levels_widths empty_list = refl
levels_widths (valid_trie {ls = ls} t) = ap (λ (z : List (List Node)). filter (ltb 0) (map length z)) (levels_of_concat (trie ls) t.linked (root_first_width t) t.shallow)

-- So the levels' first nodes in the literal image of a leaf list are those of the levels cut from its trie's nodes.
pub trie_starts : {n : ℕ} (v : ℕ) (ls : List Leaf) → Realizable n ls → DepthAtMost 64 ls → EmptyOrValid ls → level_bodies v (level_widths ls) ≡ level_bodies v (map length (levels_of (concat (trie ls))))
unfolding level_bodies level_starts
trie_starts v ls g q e = ap (λ (ws : List ℕ). cond (eqb v 2) (concat (map le32 (first_nodes 0 ws)) ∷ []) []) (trie_widths ls g q ∙ sym (levels_widths e))

-- ---- the first node of each level, from that of the level above

-- The first nodes from e on, at most so many of n nodes: behind a level that starts at e starts the next one, one behind the branches K e that continue before e.
unfoldable pub starts_from : (ℕ → ℕ) → ℕ → ℕ → ℕ → List ℕ
starts_from K n zero e = []
starts_from K n (suc k) e = cond (ltb e n) (e ∷ starts_from K n k (K e + 1)) []

-- With the branches counted in another way they are the same.
pub starts_ext : (K J : ℕ → ℕ) (n : ℕ) → ((e : ℕ) → e ≤ n → K e ≡ J e) → (k e : ℕ) → starts_from K n k e ≡ starts_from J n k e
unfolding starts_from
starts_ext K J n f zero e = refl
starts_ext K J n f (suc k) e = go (ltb e n) refl (starts_ext K J n f k (K e + 1))
  where
    go : (t : Bool) → ltb e n ≡ t → starts_from K n k (K e + 1) ≡ starts_from J n k (K e + 1) → cond t (e ∷ starts_from K n k (K e + 1)) [] ≡ cond t (e ∷ starts_from J n k (J e + 1)) []
    go true p ih = ap (λ (z : List ℕ). e ∷ z) (ih ∙ ap (λ (m : ℕ). starts_from J n k (m + 1)) (f e (omega (arith, ltb-true e n p))))
    go false p ih = refl

-- They are below the number of nodes.
pub starts_below : (K : ℕ → ℕ) (n k e : ℕ) → All (λ x. x < n) (starts_from K n k e)
unfolding starts_from
starts_below K n zero e = tt
starts_below K n (suc k) e = go (ltb e n) refl (starts_below K n k (K e + 1))
  where
    go : (t : Bool) → ltb e n ≡ t → All (λ x. x < n) (starts_from K n k (K e + 1)) → All (λ x. x < n) (cond t (e ∷ starts_from K n k (K e + 1)) [])
    go true p ih = (ltb-true e n p, ih)
    go false p ih = tt

-- the branches that continue before node e
abbrev pub children_to : List Node → ℕ → ℕ
children_to ns e = total children_of (take e ns)

-- Linked levels behind the nodes of those above them start one from another.
linked_starts : (up : List Node) (ls : List (List Node)) (k : ℕ) → Linked ls → length up + first_width ls ≡ total children_of up + 1 → length ls ≤ k
    → first_nodes (length up) (filter (ltb 0) (map length ls)) ≡ starts_from (children_to (up ++ concat ls)) (length (up ++ concat ls)) k (length up)
unfolding first_nodes filter starts_from concat total
linked_starts up [] zero l e h = refl
linked_starts up [] (suc k) l e h = rw (append-nil up, le-ltb (length up) (length up) (omega arith))
linked_starts up (ns ∷ ls) zero l e h = absurd (omega arith)
linked_starts up (ns ∷ ls) (suc k) l e h =
    let n : length (up ++ ns) ≡ length up + length ns = length-append up ns in
    let w : length (up ++ (ns ++ concat ls)) ≡ length up + (length ns + length (concat ls)) = length-append up (ns ++ concat ls) ∙ ap (λ (m : ℕ). length up + m) (length-append ns (concat ls)) in
    let t : take (length up) (up ++ (ns ++ concat ls)) ≡ up = take_at up (ns ++ concat ls) (length up) refl in
    let next : total children_of up + 1 ≡ length up + length ns = sym e in
    let ih = linked_starts (up ++ ns) ls k l.3 (omega (arith, n, total_append children_of up ns, l.1)) (omega arith) in
    rw (lt-ltb 0 (length ns) l.2, lt-ltb (length up) (length (up ++ (ns ++ concat ls))) (omega (arith, w, l.2)), t, next)
    (ap (λ (z : List ℕ). length up ∷ z) (rw (n, append_assoc up ns (concat ls)) at ih))

-- The first nodes of linked levels, one of which is the root.
pub root_starts : (ls : List (List Node)) → Linked ls → first_width ls ≡ 1 → length ls ≤ 64 → level_starts (map length ls) ≡ concat (map le32 (starts_from (children_to (concat ls)) (length (concat ls)) 64 0))
unfolding level_starts total
root_starts ls l w h = ap (λ (xs : List ℕ). concat (map le32 xs)) (linked_starts [] ls 64 l (omega arith) h)

-- The levels of a trie's nodes start so.
pub trie_level_starts : {ls : List Leaf} → EmptyOrValid ls → level_starts (map length (levels_of (concat (trie ls)))) ≡ concat (map le32 (starts_from (children_to (concat (trie ls))) (length (concat (trie ls))) 64 0))
unfolding level_starts levels_of total trie concat filter first_nodes starts_from
trie_level_starts empty_list = refl
trie_level_starts (valid_trie {ls = ls} t) = ap (λ (z : List (List Node)). level_starts (map length z)) (levels_of_concat (trie ls) t.linked (root_first_width t) t.shallow) ∙ root_starts (trie ls) t.linked (root_first_width t) t.shallow

-- There are at most 64 of them: a further one would change nothing.
pub trie_starts_end : {ls : List Leaf} → EmptyOrValid ls → starts_from (children_to (concat (trie ls))) (length (concat (trie ls))) 65 0 ≡ starts_from (children_to (concat (trie ls))) (length (concat (trie ls))) 64 0
unfolding total trie concat starts_from
trie_starts_end empty_list = refl
trie_starts_end (valid_trie {ls = ls} t) =
    let w = root_first_width t in
    sym (linked_starts [] (trie ls) 65 t.linked (omega arith) (omega (arith, t.shallow))) ∙ linked_starts [] (trie ls) 64 t.linked (omega arith) t.shallow
