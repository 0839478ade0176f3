-- Document 02, order 3: the rule behind a point's reply. Each of the six rules has a test of its own over a leaf list; that exactly one of them applies to a key is proved in `theory`, Rules.
use Rattle.std.specs.Prelude.{ℕ, Bool, false, cond, not, ◌&&◌, ◌||◌, List, [], ◌∷◌, ◌++◌, length, take}
use Rattle.spec.specs.Bytes.{Bytes, any, equal, begins, same_bits}
use Rattle.spec.specs.Leaves.{Leaf, hash_bits, bits_behind, real}

-- ---- where bytes lead

-- The bytes lead to a node: some leaf's cut key goes on behind them. The empty byte string leads to the root, if there is one.
unfoldable pub leads_to_node : List Leaf → Bytes → Bool
unfolding any begins equal
leads_to_node ls p = any (λ l. begins p l.cut && not (equal p l.cut)) ls

-- the node to which the bytes p lead has a branch with the label y: some leaf's cut key begins with both
unfoldable pub has_branch : List Leaf → Bytes → ℕ → Bool
unfolding any begins
has_branch ls p y = any (λ l. begins (p ++ (y ∷ [])) l.cut) ls

-- a node to which p, or p and some more bytes of the rest of a key, lead has no branch with the key's next byte
unfoldable pub misses_branch : List Leaf → Bytes → Bytes → Bool
unfolding leads_to_node has_branch
misses_branch ls p [] = false
misses_branch ls p (y ∷ k) = (leads_to_node ls p && not (has_branch ls p y)) || misses_branch ls (p ++ (y ∷ [])) k

-- the key leads to an exact leaf: it is the leaf's cut key
unfoldable pub leads_to_exact : List Leaf → Bytes → Bool
unfolding any equal
leads_to_exact ls k = any (λ l. l.exact && equal l.cut k) ls

-- the key leads to this leaf, an open one: the cut key begins it
unfoldable pub leads_to_open : Bytes → Leaf → Bool
unfolding begins
leads_to_open k l = not l.exact && begins l.cut k

-- the key's bits behind the leaf's cut key are the leaf's suffix, which is real bits alone
unfoldable pub same_real_bits : Bytes → Leaf → Bool
unfolding same_bits bits_behind
same_real_bits k l = same_bits (bits_behind (length l.suffix) (length l.cut) k) l.suffix

-- the key's hash bits are the h first bits of the leaf's suffix
unfoldable pub same_hash_bits : ℕ → Bytes → Leaf → Bool
unfolding same_bits hash_bits
same_hash_bits h k l = same_bits (hash_bits h k) (take h l.suffix)

-- Order 4: "Points compare both parts, rule 5 if either differs".
unfoldable pub same_suffix : ℕ → Bytes → Leaf → Bool
unfolding real same_real_bits same_hash_bits
same_suffix h k l = same_real_bits k (real h l) && same_hash_bits h k l

-- ---- the six rules

-- the rules in the order of their numbers
pub data Rule : Type 0 where
  branch_missing key_ended at_exact_leaf suffix_equal suffix_other no_nodes : Rule

-- the number of a rule, a point's key byte
abbrev pub rule_number : Rule → ℕ
rule_number branch_missing = 1
rule_number key_ended = 2
rule_number at_exact_leaf = 3
rule_number suffix_equal = 4
rule_number suffix_other = 5
rule_number no_nodes = 6

-- Whether a rule applies to a key: "1 the branch is missing, 2 the key ended at a node that is no exact leaf, 3 exact leaf, 4 open leaf with equal suffix, 5 open leaf with another suffix, 6 no nodes."
unfoldable pub applies : ℕ → List Leaf → Bytes → Rule → Bool
unfolding any misses_branch leads_to_node leads_to_exact leads_to_open same_suffix
applies h ls k branch_missing = misses_branch ls [] k
applies h ls k key_ended = leads_to_node ls k && not (leads_to_exact ls k)
applies h ls k at_exact_leaf = leads_to_exact ls k
applies h ls k suffix_equal = any (λ l. leads_to_open k l && same_suffix h k l) ls
applies h ls k suffix_other = any (λ l. leads_to_open k l && not (same_suffix h k l)) ls
applies h ls k no_nodes = not (leads_to_node ls [])

-- the rule of a key: the one that applies to it
unfoldable pub rule : ℕ → List Leaf → Bytes → Rule
unfolding applies
rule h ls k =
    cond (applies h ls k no_nodes) no_nodes
    (cond (applies h ls k key_ended) key_ended
    (cond (applies h ls k at_exact_leaf) at_exact_leaf
    (cond (applies h ls k suffix_equal) suffix_equal
    (cond (applies h ls k suffix_other) suffix_other branch_missing))))

-- what a rule says of the key, the number of a point's reply: 1 with 3 and 4, else 0
abbrev pub rule_says : Rule → ℕ
rule_says branch_missing = 0
rule_says key_ended = 0
rule_says at_exact_leaf = 1
rule_says suffix_equal = 1
rule_says suffix_other = 0
rule_says no_nodes = 0
