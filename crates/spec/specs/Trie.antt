-- Document 01, "A builder's trie": what number 14 asks of an image's bits and nodes, a test for each sentence.
use Rattle.std.specs.Prelude.{ℕ, suc, ◌+◌, Bool, true, false, not, ◌&&◌, ◌||◌, List, [], ◌∷◌, length, take, leb, ltb, eqb}
use Rattle.std.proofs.Math.Option.{none, some}
use Rattle.spec.specs.Bytes.{Bits, all, concat, every, bit, ones}
use Rattle.spec.specs.Frame.{Parts}
use Rattle.spec.specs.Nodes.{Branch, to_node, to_leaf, Node, node, label_of, has_child, branches_of, is_exact, children, children_of, total, later, levels_of, extra_ends, sparse_nodes, nodes_of}

-- the branches that end at an open leaf
unfoldable pub open_leaves : List Branch → ℕ
open_leaves [] = 0
open_leaves (to_node x ∷ es) = open_leaves es
open_leaves (to_leaf x s ∷ es) = suc (open_leaves es)

-- the leaves of nodes: exact ones, and branches that do not continue
unfoldable pub leaf_count : List Node → ℕ
unfolding open_leaves
leaf_count [] = 0
leaf_count (n ∷ ns) = bit (is_exact n) + open_leaves (branches_of n) + leaf_count ns

-- the first sparse entry's S-LOUDS bit is set
unfoldable pub first_set : Bits → Bool
first_set [] = true
first_set (b ∷ bs) = b

-- DC lies within DL
unfoldable pub covered : Bits → Bits → Bool
covered [] dl = true
covered (c ∷ dc) [] = not c && covered dc []
covered (c ∷ dc) (l ∷ dl) = (not c || l) && covered dc dl

-- each node has a label
unfoldable pub has_label : Node → Bool
has_label (node o []) = false
has_label (node o (e ∷ es)) = true

-- labels, the extra FF aside, ascend strictly
unfoldable pub ascending : List Branch → Bool
ascending [] = true
ascending (e ∷ []) = true
ascending (e ∷ f ∷ es) = ltb (label_of e) (label_of f) && ascending (f ∷ es)

-- a sole entry, branch or exact leaf, continues
unfoldable pub sole_continues : Node → Bool
sole_continues (node (some s) es) = true
sole_continues (node none []) = true
sole_continues (node none (e ∷ [])) = has_child e
sole_continues (node none (e ∷ f ∷ es)) = true

-- What a builder's trie has, of its nodes in level order: the leaf count; no leaves means no nodes; nodes are continuing branches plus one,
-- and each branch leads to a later node; each node has a label; the root is no exact leaf; labels ascend; a sole entry continues, except at
-- the root; dense nodes are exactly those on the dense levels; no node is on level 64.
unfoldable pub nodes_valid : ℕ → ℕ → ℕ → List Node → Bool
unfolding children leaf_count total later levels_of concat every all ascending sole_continues has_label
nodes_valid dense dense_count leaves [] = eqb leaves 0
nodes_valid dense dense_count leaves (r ∷ ns) = every (
    eqb (leaf_count (r ∷ ns)) leaves
    ∷ ltb 0 leaves
    ∷ eqb (length (r ∷ ns)) (total children_of (r ∷ ns) + 1)
    ∷ later children_of 0 0 (r ∷ ns)
    ∷ all has_label (r ∷ ns)
    ∷ not (is_exact r)
    ∷ all (λ n. ascending (branches_of n)) (r ∷ ns)
    ∷ all sole_continues ns
    ∷ eqb (length (concat (take dense (levels_of (r ∷ ns))))) dense_count
    ∷ leb (length (levels_of (r ∷ ns))) 64
    ∷ [])

-- 14 does not apply: the S-LOUDS bits agree with the count and set the first; DC lies within DL; the extra FF does not continue; and what holds of the nodes
unfoldable pub builders_trie : Parts → Bool
unfolding every first_set ones covered all extra_ends sparse_nodes nodes_valid nodes_of
builders_trie p = every (
    first_set p.sb
    ∷ eqb (ones p.sb) p.counts.sparse_nodes
    ∷ covered p.dc p.dl
    ∷ all extra_ends (sparse_nodes p)
    ∷ nodes_valid p.settings.dense_levels p.counts.dense_nodes p.counts.leaves (nodes_of p)
    ∷ [])
