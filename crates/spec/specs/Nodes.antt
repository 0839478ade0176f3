-- Document 01, "Records of an image", read: the nodes that the bodies hold, their levels, and the leaf list in key order.
use Rattle.std.specs.Prelude.{ℕ, zero, suc, ◌+◌, Bool, true, false, cond, not, ◌&&◌, ◌||◌, List, [], ◌∷◌, ◌++◌, map, take, drop, leb, eqb}
use Rattle.std.proofs.Math.Option.{Option, none, some}
use Rattle.spec.specs.Bytes.{Bytes, Bits, concat, from32, unpack}
use Rattle.spec.specs.Leaves.{Leaf}
use Rattle.spec.specs.Image.{slot_width, version_rows}
use Rattle.spec.specs.Frame.{rows_of, read_settings, read_counts, Parts, parts, named, read_bodies}

-- ---- entries

-- an entry: a label, and whether it continues
pub data Entry : Type 0 where
  entry : ℕ → Bool → Entry

-- an entry's label
abbrev pub entry_label : Entry → ℕ
entry_label (entry x c) = x

-- whether an entry continues
abbrev pub continues : Entry → Bool
continues (entry x c) = c

-- a node without its slots: whether it is an exact leaf, and its branches
pub data Shape : Type 0 where
  shape : Bool → List Entry → Shape

-- the branches of a dense node from its D-Labels and D-HasChild, the first label i
unfoldable pub dense_entries : ℕ → Bits → Bits → List Entry
dense_entries i [] dc = []
dense_entries i (l ∷ dl) [] = []
dense_entries i (true ∷ dl) (c ∷ dc) = entry i c ∷ dense_entries (suc i) dl dc
dense_entries i (false ∷ dl) (c ∷ dc) = dense_entries (suc i) dl dc

-- the dense nodes: 256 bits each of D-Labels and D-HasChild, one of D-IsPrefixKey
unfoldable pub dense_shapes : Bits → Bits → Bits → List Shape
unfolding dense_entries
dense_shapes dl dc [] = []
dense_shapes dl dc (p ∷ ps) = shape p (dense_entries 0 (take 256 dl) (take 256 dc)) ∷ dense_shapes (drop 256 dl) (drop 256 dc) ps

-- S-Labels and S-HasChild, entry by entry
unfoldable pub zip_entries : Bytes → Bits → List Entry
zip_entries [] cs = []
zip_entries (x ∷ xs) [] = []
zip_entries (x ∷ xs) (c ∷ cs) = entry x c ∷ zip_entries xs cs

-- the entries of a sparse node, the extra FF among them: the first, and those behind it
pub data Sparse : Type 0 where
  sparse : Entry → List Entry → Sparse

-- an entry before those of the first node
unfoldable pub prepend : Entry → List Sparse → List Sparse
prepend e [] = sparse e [] ∷ []
prepend e (sparse f es ∷ ns) = sparse e (f ∷ es) ∷ ns

-- the nodes of the entry e, which starts one, and of those behind it with their S-LOUDS bits
unfoldable pub split_behind : Entry → List Entry → Bits → List Sparse
unfolding prepend
split_behind e [] bs = sparse e [] ∷ []
split_behind e (f ∷ es) [] = sparse e [] ∷ []
split_behind e (f ∷ es) (true ∷ bs) = sparse e [] ∷ split_behind f es bs
split_behind e (f ∷ es) (false ∷ bs) = prepend e (split_behind f es bs)

-- sparse entries, split into nodes where an S-LOUDS bit is set
unfoldable pub split : List Entry → Bits → List Sparse
unfolding split_behind
split [] bs = []
split (e ∷ es) bs = split_behind e es (drop 1 bs)

-- The extra FF: a first FF that is not alone. A sole FF is a label.
unfoldable pub sparse_shape : Sparse → Shape
sparse_shape (sparse e []) = shape false (e ∷ [])
sparse_shape (sparse e (f ∷ es)) = cond (eqb (entry_label e) 255) (shape true (f ∷ es)) (shape false (e ∷ f ∷ es))

-- the extra FF does not continue
unfoldable pub extra_ends : Sparse → Bool
extra_ends (sparse e []) = true
extra_ends (sparse e (f ∷ es)) = not (eqb (entry_label e) 255 && continues e)

-- ---- nodes

-- a branch: to a node, or to an open leaf with this suffix
pub data Branch : Type 0 where
  to_node : ℕ → Branch
  to_leaf : ℕ → Bits → Branch

-- the slot of the exact leaf that the node is, if it is one; its branches
pub data Node : Type 0 where
  node : Option Bits → List Branch → Node

-- a branch's label
abbrev pub label_of : Branch → ℕ
label_of (to_node x) = x
label_of (to_leaf x s) = x

-- whether a branch continues
abbrev pub has_child : Branch → Bool
has_child (to_node x) = true
has_child (to_leaf x s) = false

-- the slot of the leaf behind a branch
abbrev pub slot : Branch → Bits
slot (to_node x) = []
slot (to_leaf x s) = s

-- a node's branches
abbrev pub branches_of : Node → List Branch
branches_of (node o es) = es

-- whether a node is an exact leaf
abbrev pub is_exact : Node → Bool
is_exact (node none es) = false
is_exact (node (some s) es) = true

-- the slot of the exact leaf that a node is
abbrev pub exact_slot : Node → Bits
exact_slot (node none es) = []
exact_slot (node (some s) es) = s

-- how many branches continue
unfoldable pub children : List Branch → ℕ
children [] = 0
children (to_leaf x s ∷ es) = children es
children (to_node x ∷ es) = suc (children es)

-- how many branches of a node continue
abbrev pub children_of : Node → ℕ
children_of (node o es) = children es

-- branches with the slots of those that do not continue, n bits each, from the bits
unfoldable pub with_slots : ℕ → List Entry → Bits → List Branch
with_slots n [] bs = []
with_slots n (entry x true ∷ es) bs = to_node x ∷ with_slots n es bs
with_slots n (entry x false ∷ es) bs = to_leaf x (take n bs) ∷ with_slots n es (drop n bs)

-- the bits behind the slots of the branches
unfoldable pub past_slots : ℕ → List Entry → Bits → Bits
past_slots n [] bs = bs
past_slots n (entry x true ∷ es) bs = past_slots n es bs
past_slots n (entry x false ∷ es) bs = past_slots n es (drop n bs)

-- nodes with their slots, in level order, an exact leaf before its node's branches
unfoldable pub slotted : ℕ → List Shape → Bits → List Node
unfolding with_slots past_slots
slotted n [] bs = []
slotted n (shape true es ∷ ns) bs = node (some (take n bs)) (with_slots n es (drop n bs)) ∷ slotted n ns (past_slots n es (drop n bs))
slotted n (shape false es ∷ ns) bs = node none (with_slots n es bs) ∷ slotted n ns (past_slots n es bs)

-- the sparse nodes by their entries
unfoldable pub sparse_nodes : Parts → List Sparse
unfolding zip_entries split
sparse_nodes p = split (zip_entries p.sl p.sc) p.sb

-- the nodes in level order, the dense ones first
unfoldable pub nodes_of : Parts → List Node
unfolding slotted dense_shapes sparse_shape sparse_nodes
nodes_of p = slotted (slot_width p.settings) (dense_shapes p.dl p.dc p.dp ++ map sparse_shape (sparse_nodes p)) p.sv

-- ---- levels

module _ {A : Type 0} (children : A → ℕ) where
  -- the continuing branches of all nodes
  unfoldable pub total : List A → ℕ
  total [] = 0
  total (x ∷ xs) = children x + total xs

  -- Each branch leads to a later node: of the nodes from number i, before which k branches continue, a node's first continuing branch leads to node k + 1, behind it.
  unfoldable pub later : ℕ → ℕ → List A → Bool
  later i k [] = true
  later i k (x ∷ xs) = (eqb (children x) 0 || leb i k) && later (suc i) (k + children x) xs

  -- at most `fuel` levels of nodes in level order, the first level of w nodes and each next one of the nodes that the last one's branches lead to
  unfoldable pub levels : ℕ → ℕ → List A → List (List A)
  levels zero w xs = []
  levels (suc fuel) zero xs = []
  levels (suc fuel) (suc w) xs = take (suc w) xs ∷ levels fuel (total (take (suc w) xs)) (drop (suc w) xs)

-- the levels of nodes in level order; a 65th tells that a node is on level 64
unfoldable pub levels_of : List Node → List (List Node)
unfolding levels children
levels_of ns = levels children_of 65 1 ns

-- ---- leaves

-- the leaves below a node, each with the rest of its cut key
abbrev pub Group : Type 0
Group = List Leaf

-- the leaf with the label x before its cut key
abbrev pub prefix : ℕ → Leaf → Leaf
prefix x l = record { cut = x ∷ l.cut; exact = l.exact; suffix = l.suffix }

-- the leaves behind branches, the continuing ones leading to the groups in order
unfoldable pub branch_leaves : List Branch → List Group → Group
branch_leaves [] gs = []
branch_leaves (to_leaf x s ∷ es) gs = record { cut = x ∷ []; exact = false; suffix = s } ∷ branch_leaves es gs
branch_leaves (to_node x ∷ es) [] = []
branch_leaves (to_node x ∷ es) (g ∷ gs) = map (prefix x) g ++ branch_leaves es gs

-- the leaf that a node is
unfoldable pub exact_leaf : Option Bits → Group
exact_leaf none = []
exact_leaf (some s) = record { cut = []; exact = true; suffix = s } ∷ []

-- the groups of a level's nodes, over those of the next level
unfoldable pub level_groups : List Node → List Group → List Group
unfolding branch_leaves exact_leaf
level_groups [] gs = []
level_groups (node o es ∷ ns) gs = (exact_leaf o ++ branch_leaves es gs) ∷ level_groups ns (drop (children es) gs)

-- the groups of the first level's nodes
unfoldable pub groups : List (List Node) → List Group
unfolding level_groups
groups [] = []
groups (ns ∷ ls) = level_groups ns (groups ls)

-- the leaves of a trie by levels, in key order
unfoldable pub leaves_of : List (List Node) → List Leaf
unfolding concat groups
leaves_of t = concat (groups t)

-- ---- an image read back

-- the nodes in level order, from the records behind the header; none where the records do not stand
unfoldable pub read_nodes : Bytes → List Node
unfolding version_rows read_bodies from32 unpack read_settings read_counts named parts nodes_of
read_nodes s = elim (read_bodies (rows_of s) (drop 22 s)) [ none ↦ [] | some bs ↦ nodes_of (parts s (named bs)) ]

-- the leaf list: cut keys, kinds and suffixes in key order
unfoldable pub read_leaves : Bytes → List Leaf
unfolding read_nodes levels_of total children leaves_of
read_leaves s = leaves_of (levels_of (read_nodes s))
