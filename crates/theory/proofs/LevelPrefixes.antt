-- The prefixes on each level, from the root's branches: their nodes are the nodes of the trie by levels (`nodes_on_level`).
-- Used by the literal image and by node numbers.
use Rattle.std.specs.Prelude.{ℕ, ◌<◌, suc, zero, ◌≡◌, refl, ◌&&◌, Bool, cond, true, false, map, ◌++◌, [], ◌∷◌, List, ◌⊎◌, take, length, eqb, ltb}
use Rattle.std.proofs.Common.{ap, ◌∙◌, ap₂, sym, append-nil, inl, inr, arith, ne_eqb, lt-ltb}
use Rattle.std.proofs.lemmas.List.{map-append}
use Rattle.std.proofs.lemmas.Simd.{map-map}
use Rattle.std.proofs.Math.Option.{some, none}
use Rattle.std.proofs.Math.Dec.{leb-suc-suc, leb-suc-zero}
use Rattle.spec.specs.Bytes.{Bytes, dedup, equal, filter, begins, Bits, any, concat}
use Rattle.spec.specs.Image.{on_level, above, branches, is_leaf, leaf_at, is_node}
use Rattle.spec.specs.Nodes.{Group, prefix, to_node, to_leaf, node}
use Rattle.theory.specs.Terms.{All}
use Rattle.theory.proofs.LeafLists.{Ordered}
use Rattle.theory.proofs.Lists.{map_ext, eqb_self, lt_eqb, concat_append, all_append, all_weaken}
use Rattle.theory.proofs.LevelTrie.{Subtree, subtree, NonemptyCuts, no_cuts, nonempty_cut, NodeGroup, plain_node, exact_node, LeafGroup, open_leaf, subtrees, insert_cut, exact_of, branch_of, node_group_branch, LeafOrNodeGroups, TrieGroup, node_of, leaf_or_node_groups, InnerGroup, child_groups, child_group, Subtrees, all_child_group}
use Rattle.theory.proofs.WitnessedLevels.{FirstAbove, none_above, first_above}
use Rattle.theory.proofs.TrieGroups.{LabelsAbove, Splits, splits_nil, splits_cons, labels_above, HasLeaf, has_leaf, splits}
use Rattle.theory.proofs.PrefixNodes.{behind, behind_cut, cons, dedup_cons, slots_at, branch_at, is_node_behind, slots_at_behind, node_at, under_prefix, node_at_under}

-- ---- the leaves behind a label

behind_map : (x : ℕ) (u rest : Group) → behind x (map (prefix x) u ++ rest) ≡ u ++ behind x rest
unfolding behind behind_cut
behind_map x [] rest = refl
behind_map x (l ∷ u) rest = rw (eqb_self x) (ap (λ (z : Group). l ∷ z) (behind_map x u rest))

behind_other : (x y : ℕ) (u rest : Group) → (y ≡ x → ⊥) → behind y (map (prefix x) u ++ rest) ≡ behind y rest
unfolding behind behind_cut
behind_other x y [] rest h = refl
behind_other x y (l ∷ u) rest h = rw (ne_eqb y x h) (behind_other x y u rest h)

behind_above : (x : ℕ) {g : Group} → FirstAbove x g → behind x g ≡ []
unfolding behind behind_cut
behind_above x none_above = refl
behind_above x (first_above {y = y} h r) = rw (lt_eqb x y h) (behind_above x r)

-- each subtree's group is the leaves behind its label
abbrev pub GroupsBehind : Group → List Subtree → Type 0
GroupsBehind g [] = Unit
GroupsBehind g (subtree x u ∷ bs) = (behind x g ≡ u) × GroupsBehind g bs

groups_behind_more : (x : ℕ) (u rest : Group) (bs : List Subtree) → LabelsAbove x bs → GroupsBehind rest bs → GroupsBehind (map (prefix x) u ++ rest) bs
groups_behind_more x u rest [] v b = tt
groups_behind_more x u rest (subtree y w ∷ bs) v b = (behind_other x y u rest (λ q. omega (arith, v.0)) ∙ b.0, groups_behind_more x u rest bs v.1 b.1)

-- A group's subtrees have the leaves behind their labels.
groups_behind : {g : Group} {bs : List Subtree} → Splits g bs → GroupsBehind g bs
groups_behind splits_nil = tt
groups_behind (splits_cons {x = x} {u = u} {rest = rest} {bs = bs} o a v c) =
    (behind_map x u rest ∙ ap (λ (z : Group). u ++ z) (behind_above x v) ∙ append-nil u, groups_behind_more x u rest bs (labels_above v c) (groups_behind c))

-- ---- neighbours of two labels

-- each string begins with a byte above x
abbrev StringsAbove : ℕ → List Bytes → Type 0
StringsAbove x [] = Unit
StringsAbove x ([] ∷ ps) = ⊥
StringsAbove x ((y ∷ p) ∷ ps) = (x < y) × StringsAbove x ps

-- Equal neighbours among strings that begin with x, and among strings of higher first bytes.
dedup_append : (x : ℕ) (ps qs : List Bytes) → StringsAbove x qs → dedup (map (cons x) ps ++ qs) ≡ dedup (map (cons x) ps) ++ dedup qs
unfolding dedup equal
dedup_append x [] qs v = refl
dedup_append x (p ∷ []) [] v = refl
dedup_append x (p ∷ []) ([] ∷ qs) v = absurd v
dedup_append x (p ∷ []) ((y ∷ q) ∷ qs) v = rw (lt_eqb x y v.0)
dedup_append x (p ∷ p' ∷ ps) qs v = go (eqb x x && equal p p') (dedup_append x (p' ∷ ps) qs v)
  where
    go : (b : Bool) → dedup (map (cons x) (p' ∷ ps) ++ qs) ≡ dedup (map (cons x) (p' ∷ ps)) ++ dedup qs
        → cond b (dedup (map (cons x) (p' ∷ ps) ++ qs)) ((x ∷ p) ∷ dedup (map (cons x) (p' ∷ ps) ++ qs)) ≡ cond b (dedup (map (cons x) (p' ∷ ps))) ((x ∷ p) ∷ dedup (map (cons x) (p' ∷ ps))) ++ dedup qs
    go true ih = ih
    go false ih = ap (λ (z : List Bytes). (x ∷ p) ∷ z) ih

-- ---- the nodes on a level

-- the strings of which `on-level` keeps one each
long_prefixes : Group → ℕ → List Bytes
long_prefixes g d = map (λ l. take d l.cut) (filter (λ l. ltb d (length l.cut)) g)

long_prefixes_map : (x d : ℕ) (u rest : Group) → long_prefixes (map (prefix x) u ++ rest) (suc d) ≡ map (cons x) (long_prefixes u d) ++ long_prefixes rest (suc d)
unfolding long_prefixes filter
long_prefixes_map x d [] rest = refl
long_prefixes_map x d (l ∷ u) rest = rw (leb-suc-suc (suc d) (length l.cut)) (go (ltb d (length l.cut)) (long_prefixes_map x d u rest))
  where
    go : (b : Bool) → long_prefixes (map (prefix x) u ++ rest) (suc d) ≡ map (cons x) (long_prefixes u d) ++ long_prefixes rest (suc d)
        → map (λ l. take (suc d) l.cut) (cond b (prefix x l ∷ filter (λ l. ltb (suc d) (length l.cut)) (map (prefix x) u ++ rest)) (filter (λ l. ltb (suc d) (length l.cut)) (map (prefix x) u ++ rest)))
        ≡ map (cons x) (map (λ l. take d l.cut) (cond b (l ∷ filter (λ l. ltb d (length l.cut)) u) (filter (λ l. ltb d (length l.cut)) u))) ++ long_prefixes rest (suc d)
    go true ih = ap (λ (z : List Bytes). (x ∷ take d l.cut) ∷ z) ih
    go false ih = ih

long_prefixes_above : (x d : ℕ) {g : Group} → FirstAbove x g → StringsAbove x (long_prefixes g (suc d))
unfolding long_prefixes filter
long_prefixes_above x d none_above = tt
long_prefixes_above x d (first_above {y = y} {c = c} {e = e} {s = s} {ls = ls} h r) = go (ltb (suc d) (suc (length c))) (long_prefixes_above x d r)
  where
    go : (b : Bool) → StringsAbove x (long_prefixes ls (suc d)) → StringsAbove x (map (λ l. take (suc d) l.cut) (cond b (record { cut = y ∷ c; exact = e; suffix = s } ∷ filter (λ l. ltb (suc d) (length l.cut)) ls) (filter (λ l. ltb (suc d) (length l.cut)) ls)))
    go true ih = (h, ih)
    go false ih = ih

-- the prefixes d levels below the nodes that branches lead to
unfoldable pub prefixes_below : ℕ → List Subtree → List Bytes
prefixes_below d [] = []
prefixes_below d (subtree x u ∷ bs) = map (cons x) (on_level u d) ++ prefixes_below d bs

-- The prefixes on a level below the root are those below its branches.
on_level_splits : (d : ℕ) {g : Group} {bs : List Subtree} → Splits g bs → on_level g (suc d) ≡ prefixes_below d bs
unfolding on_level prefixes_below long_prefixes
on_level_splits d splits_nil = refl
on_level_splits d (splits_cons {x = x} {u = u} {rest = rest} {bs = bs} o a v c) =
    ap dedup (long_prefixes_map x d u rest) ∙ dedup_append x (long_prefixes u d) (long_prefixes rest (suc d)) (long_prefixes_above x d v) ∙ ap₂ ◌++◌ (dedup_cons x (long_prefixes u d)) (on_level_splits d c)

has_bytes : (n : ℕ) → ltb 0 (suc n) ≡ true
has_bytes n = lt-ltb 0 (suc n) (omega arith)

dedup_empty : {ls : Group} → NonemptyCuts ls → dedup ([] ∷ long_prefixes ls 0) ≡ [] ∷ []
unfolding long_prefixes filter dedup equal
dedup_empty no_cuts = refl
dedup_empty (nonempty_cut {c = c} r) = rw (has_bytes (length c)) (dedup_empty r)

-- A node's group has the empty prefix on level 0, and no other.
pub on_level_root : {g : Group} → NodeGroup g → on_level g 0 ≡ [] ∷ []
unfolding on_level filter long_prefixes
on_level_root (plain_node {c = c} r) = rw (has_bytes (length c)) (dedup_empty r)
on_level_root (exact_node {c = c} r) = rw (has_bytes (length c)) (dedup_empty r)

-- An open leaf has no node below it.
pub on_level_leaf : (d : ℕ) {g : Group} → LeafGroup g → on_level g d ≡ []
unfolding on_level filter dedup
on_level_leaf d open_leaf = rw (leb-suc-zero d)

-- ---- branches

-- where branches lead
unfoldable pub branch_prefixes : List Subtree → List Bytes
branch_prefixes [] = []
branch_prefixes (subtree x u ∷ bs) = (x ∷ []) ∷ branch_prefixes bs

-- the strings of which `branches` keeps one each
first_prefixes : Group → List Bytes
first_prefixes g = map (λ l. take 1 l.cut) (filter (above []) g)

-- an empty string for each leaf
empty_prefixes : Group → List Bytes
empty_prefixes u = map (λ l. []) u

first_prefixes_map : (x : ℕ) (u rest : Group) → first_prefixes (map (prefix x) u ++ rest) ≡ map (cons x) (empty_prefixes u) ++ first_prefixes rest
unfolding first_prefixes empty_prefixes filter above begins
first_prefixes_map x [] rest = refl
first_prefixes_map x (l ∷ u) rest = rw (has_bytes (length l.cut)) (ap (λ (z : List Bytes). (x ∷ []) ∷ z) (first_prefixes_map x u rest))

first_prefixes_above : (x : ℕ) {g : Group} → FirstAbove x g → StringsAbove x (first_prefixes g)
unfolding first_prefixes filter above begins
first_prefixes_above x none_above = tt
first_prefixes_above x (first_above {c = c} h r) = rw (has_bytes (length c)) (h, first_prefixes_above x r)

dedup_empty_prefixes : {u : Group} → HasLeaf u → dedup (empty_prefixes u) ≡ [] ∷ []
unfolding empty_prefixes dedup equal
dedup_empty_prefixes (has_leaf {ls = ls}) = go ls
  where
    go : (ls : Group) → dedup ([] ∷ map (λ l. []) ls) ≡ [] ∷ []
    go [] = refl
    go (m ∷ ls) = go ls

-- The root's branches are its subtrees'.
branches_splits : {g : Group} {bs : List Subtree} → Splits g bs → branches g [] ≡ branch_prefixes bs
unfolding branches branch_prefixes first_prefixes dedup
branches_splits splits_nil = refl
branches_splits (splits_cons {x = x} {u = u} {rest = rest} {bs = bs} o a v c) =
    ap dedup (first_prefixes_map x u rest) ∙ dedup_append x (empty_prefixes u) (first_prefixes rest) (first_prefixes_above x v) ∙ ap₂ ◌++◌ (dedup_cons x (empty_prefixes u) ∙ ap (map (cons x)) (dedup_empty_prefixes a)) (branches_splits c)

-- ---- the root's branches, its exact leaf aside

-- the prefixes on each level, the leaves behind each label and the root's branches, all from a group's subtrees
pub record RootBranches (g : Group) : Type 0 where
  pub level : (d : ℕ) → on_level g (suc d) ≡ prefixes_below d (subtrees g)
  pub behind_each : GroupsBehind g (subtrees g)
  pub leads : branches g [] ≡ branch_prefixes (subtrees g)

groups_behind_exact : (t : Bits) (g : Group) (bs : List Subtree) → GroupsBehind g bs → GroupsBehind (record { cut = []; exact = true; suffix = t } ∷ g) bs
unfolding behind behind_cut
groups_behind_exact t g [] b = tt
groups_behind_exact t g (subtree x u ∷ bs) b = (b.0, groups_behind_exact t g bs b.1)

on_level_exact : (t : Bits) (g : Group) (d : ℕ) → on_level (record { cut = []; exact = true; suffix = t } ∷ g) (suc d) ≡ on_level g (suc d)
unfolding on_level filter
on_level_exact t g d = rw (leb-suc-zero (suc d))

-- The prefixes, leaves and branches below the root of an ordered node's group are those of its subtrees.
pub root_branches : {g : Group} → NodeGroup g → Ordered g → RootBranches g
unfolding subtrees insert_cut branches filter above begins
root_branches (plain_node r) o = let c = splits (nonempty_cut r) o in record { level = λ d. on_level_splits d c; behind_each = groups_behind c; leads = branches_splits c }
root_branches (exact_node {t = t} {x = x} {c = c} {e = e} {s = s} {ls = ls} r) o =
    let g : Group = record { cut = x ∷ c; exact = e; suffix = s } ∷ ls in
    let v = splits {g = g} (nonempty_cut r) o.1 in
    record { level = λ d. on_level_exact t g d ∙ on_level_splits d v; behind_each = groups_behind_exact t g (subtrees g) (groups_behind v); leads = branches_splits v }

-- ---- the node at the root

nonempty_cuts_leaf : {g : Group} → NonemptyCuts g → (is_leaf g [] ≡ false) × (slots_at g [] ≡ [])
unfolding is_leaf slots_at leaf_at any filter equal
nonempty_cuts_leaf no_cuts = (refl, refl)
nonempty_cuts_leaf (nonempty_cut r) = nonempty_cuts_leaf r

-- The exact leaf at the root of a node's group is the group's.
exact_root : {g : Group} → NodeGroup g → cond (is_leaf g []) (some (concat (slots_at g []))) none ≡ exact_of g
unfolding is_leaf slots_at leaf_at any filter equal exact_of concat
exact_root (plain_node r) = rw (nonempty_cuts_leaf r).0
exact_root (exact_node {t = t} r) = rw (nonempty_cuts_leaf r).1 (ap some (append-nil t))

-- The root of a node's group is a node.
pub node_group_is_node : {u : Group} → NodeGroup u → is_node u [] ≡ true
unfolding is_node any above begins
node_group_is_node (plain_node {c = c} r) = rw (has_bytes (length c))
node_group_is_node (exact_node {c = c} r) = rw (has_bytes (length c))

-- An open leaf that ends here is no node.
pub leaf_group_no_node : {u : Group} → LeafGroup u → is_node u [] ≡ false
unfolding is_node any above begins
leaf_group_no_node open_leaf = refl

branch_root : (x : ℕ) (u : Group) → LeafGroup u ⊎ NodeGroup u → cond (is_node u []) (to_node x) (to_leaf x (concat (slots_at u []))) ≡ branch_of (subtree x u)
unfolding is_node any above begins slots_at leaf_at filter equal concat branch_of
branch_root x u (inl (open_leaf {s = s})) = ap (to_leaf x) (append-nil s)
branch_root x u (inr h) = ap (λ (b : Bool). cond b (to_node x) (to_leaf x (concat (slots_at u [])))) (node_group_is_node h) ∙ sym (node_group_branch x u h).0

-- The root's branches are those of its subtrees.
branches_root : (g : Group) (bs : List Subtree) → GroupsBehind g bs → LeafOrNodeGroups bs → map (branch_at g []) (branch_prefixes bs) ≡ map branch_of bs
unfolding branch_prefixes branch_at
branches_root g [] b s = refl
branches_root g (subtree x u ∷ bs) b s =
    ap₂ ◌∷◌ (rw (is_node_behind x [] g, slots_at_behind x [] g, b.0) (branch_root x u s.0)) (branches_root g bs b.1 s.1)

-- a node's group of a trie, to some depth
pub record TrieNode (g : Group) : Type 0 where
  pub depth : ℕ
  pub shape : TrieGroup depth g

-- The root of a trie's group is its node.
pub node_root : (g : Group) → TrieNode g → node_at g [] ≡ node_of g
unfolding node_at node_of
node_root g r = go r.depth r.shape
  where
    made : NodeGroup g → RootBranches g → LeafOrNodeGroups (subtrees g) → node_at g [] ≡ node_of g
    made h p s = ap₂ node (exact_root h) (ap (map (branch_at g [])) p.leads ∙ branches_root g (subtrees g) p.behind_each s)

    go : (f : ℕ) → TrieGroup f g → node_at g [] ≡ node_of g
    go zero n = absurd n
    go (suc f) n = made n.0 (root_branches n.0 n.1) (leaf_or_node_groups (InnerGroup f) (subtrees g) n.2)

-- ---- the levels

-- the groups of the nodes d levels below those given
unfoldable pub groups_below : ℕ → List Group → List Group
unfolding concat child_groups
groups_below zero gs = gs
groups_below (suc d) gs = groups_below d (concat (map child_groups gs))

groups_below_append : (d : ℕ) (gs hs : List Group) → groups_below d (gs ++ hs) ≡ groups_below d gs ++ groups_below d hs
unfolding groups_below
groups_below_append zero gs hs = refl
groups_below_append (suc d) gs hs = ap (groups_below d) (ap concat (map-append child_groups gs hs) ∙ concat_append (map child_groups gs) (map child_groups hs)) ∙ groups_below_append d (concat (map child_groups gs)) (concat (map child_groups hs))

-- No nodes have none below.
pub groups_below_none : (d : ℕ) → groups_below d [] ≡ []
unfolding groups_below concat
groups_below_none zero = refl
groups_below_none (suc d) = groups_below_none d

-- A branch to an open leaf leads to no node.
leaf_group_no_child : (x : ℕ) {u : Group} → LeafGroup u → child_group (subtree x u) ≡ []
unfolding child_group
leaf_group_no_child x open_leaf = refl

-- The leaves behind the prefixes below branches are the groups of the nodes there.
prefixes_below_groups : (d : ℕ) (g : Group) (P : Group → Type 0) → ((u : Group) → P u → map (λ p. under_prefix p u) (on_level u d) ≡ groups_below d (u ∷ []))
    → (bs : List Subtree) → GroupsBehind g bs → Subtrees P bs → map (λ p. under_prefix p g) (prefixes_below d bs) ≡ groups_below d (concat (map child_group bs))
unfolding prefixes_below concat under_prefix
prefixes_below_groups d g P ih [] b s = sym (groups_below_none d)
prefixes_below_groups d g P ih (subtree x u ∷ bs) b s =
    map-append (λ p. under_prefix p g) (map (cons x) (on_level u d)) (prefixes_below d bs)
    ∙ ap₂ ◌++◌ (map-map (λ p. under_prefix p g) (cons x) (on_level u d) ∙ ap (λ (z : Group). map (λ p. under_prefix p z) (on_level u d)) b.0 ∙ one s.0) (prefixes_below_groups d g P ih bs b.1 s.1)
    ∙ sym (groups_below_append d (child_group (subtree x u)) (concat (map child_group bs)))
  where
    one : LeafGroup u ⊎ (NodeGroup u × P u) → map (λ p. under_prefix p u) (on_level u d) ≡ groups_below d (child_group (subtree x u))
    one (inl s) = ap (map (λ p. under_prefix p u)) (on_level_leaf d s) ∙ sym (groups_below_none d) ∙ ap (groups_below d) (sym (leaf_group_no_child x s))
    one (inr h) = ih u h.1 ∙ ap (groups_below d) (sym (node_group_branch x u h.0).1)

-- The leaves behind the prefixes on a level are, in order, the groups of the nodes on it.
prefixes_on_level : (d f : ℕ) (g : Group) → TrieGroup f g → map (λ p. under_prefix p g) (on_level g d) ≡ groups_below d (g ∷ [])
unfolding groups_below under_prefix child_groups concat
prefixes_on_level d zero g n = absurd n
prefixes_on_level zero (suc f) g n = rw (on_level_root n.0)
prefixes_on_level (suc d) (suc f) g n =
    let p = root_branches n.0 n.1 in
    ap (map (λ q. under_prefix q g)) (p.level d)
    ∙ prefixes_below_groups d g (InnerGroup f) (λ u p. prefixes_on_level d f u p.1) (subtrees g) p.behind_each n.2
    ∙ ap (groups_below d) (sym (append-nil (concat (map child_group (subtrees g)))))

-- ---- every group on a level is a node's

trie_nodes_next : (gs : List Group) → All TrieNode gs → All TrieNode (concat (map child_groups gs))
unfolding concat child_groups
trie_nodes_next [] r = tt
trie_nodes_next (g ∷ gs) r = all_append TrieNode (child_groups g) (concat (map child_groups gs)) (one r.0.depth r.0.shape) (trie_nodes_next gs r.1)
  where
    one : (f : ℕ) → TrieGroup f g → All TrieNode (child_groups g)
    one zero n = absurd n
    one (suc f) n = all_weaken (InnerGroup f) TrieNode (λ h p. record { depth = f; shape = p.1 }) (child_groups g) (all_child_group (InnerGroup f) (subtrees g) n.2)

trie_nodes_level : (d : ℕ) (gs : List Group) → All TrieNode gs → All TrieNode (groups_below d gs)
unfolding groups_below
trie_nodes_level zero gs r = r
trie_nodes_level (suc d) gs r = trie_nodes_level d (concat (map child_groups gs)) (trie_nodes_next gs r)

node_roots : (gs : List Group) → All TrieNode gs → map (λ g. node_at g []) gs ≡ map node_of gs
node_roots [] r = refl
node_roots (g ∷ gs) r = ap₂ ◌∷◌ (node_root g r.0) (node_roots gs r.1)

-- The nodes of the prefixes on a level are, in order, the nodes of the trie by levels.
pub nodes_on_level : (d : ℕ) (g : Group) → TrieNode g → map (node_at g) (on_level g d) ≡ map node_of (groups_below d (g ∷ []))
nodes_on_level d g r =
    map_ext (node_at g) (λ p. node_at (under_prefix p g) []) (λ p. node_at_under p g) (on_level g d)
    ∙ sym (map-map (λ h. node_at h []) (λ p. under_prefix p g) (on_level g d))
    ∙ ap (map (λ h. node_at h [])) (prefixes_on_level d r.depth g r.shape)
    ∙ node_roots (groups_below d (g ∷ [])) (trie_nodes_level d (g ∷ []) (r, tt))
