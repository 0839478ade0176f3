-- The bodies of nodes, by the nodes' entries: labels, child bits, start bits and slots entry by entry, and how many nodes and leaves there are. Used by the laws of the bodies.
use Rattle.std.specs.Prelude.{ℕ, ◌+◌, ◌-◌, ◌*◌, ◌≡◌, refl, Bool, true, false, not, List, [], ◌∷◌, ◌++◌, map, length, replicate}
use Rattle.std.proofs.Common.{sym, ap, ap₂, ◌∙◌, arith}
use Rattle.std.proofs.lemmas.List.{map-append, length-map}
use Rattle.std.proofs.Math.Option.{none, some}
use Rattle.spec.specs.Bytes.{Bits, concat, bit}
use Rattle.spec.specs.Nodes.{Branch, to_node, to_leaf, Node, node, label_of, has_child, slot, branches_of, is_exact}
use Rattle.spec.specs.Trie.{leaf_count, open_leaves}
use Rattle.build_laws.specs.LevelEntries.{tagged, tag_first, node_entries}
use Rattle.build_laws.specs.TrieEntries.{Slotted, to_slotted, slotted_of}
use Rattle.build_laws.specs.Cursors.{sum_of, sum_append}
use Rattle.theory.specs.Terms.{All}
use Rattle.theory.proofs.Lists.{concat_append}
use Rattle.theory.proofs.LinkedLevels.{Labelled}
use Rattle.theory.proofs.NodeBits.{sparse_labels, sparse_has_child, louds, slots, BranchWidth, SlotsWidth}
use Rattle.theory.proofs.Lists.{all_append}

-- ---- functions of entries

-- one node's entries
unfoldable pub node_part : Node → List Slotted
unfolding node_entries
node_part n = map to_slotted (node_entries n)

-- the first node's entries, then the others'
pub slotted_cons : (n : Node) (ns : List Node) → slotted_of (n ∷ ns) ≡ node_part n ++ slotted_of ns
unfolding slotted_of concat node_part
slotted_cons n ns = refl

-- no node, no entry
pub slotted_none : slotted_of [] ≡ []
unfolding slotted_of concat
slotted_none = refl

-- a function of nodes that is one of their entries, over nodes and over entries
by_nodes : {B : Type 0} (f : Node → List B) (F : List Slotted → List B) → F [] ≡ [] → ((a b : List Slotted) → F (a ++ b) ≡ F a ++ F b)
    → (P : Node → Type 0) → ((n : Node) → P n → f n ≡ F (node_part n)) → (ns : List Node) → All P ns → concat (map f ns) ≡ F (slotted_of ns)
unfolding concat
by_nodes f F z h P q [] a = sym (ap F slotted_none ∙ z)
by_nodes f F z h P q (n ∷ ns) a = ap₂ ◌++◌ (q n a.0) (by_nodes f F z h P q ns a.1) ∙ sym (ap F (slotted_cons n ns) ∙ h (node_part n) (slotted_of ns))

-- any node at all
abbrev pub AnyNode : Node → Type 0
AnyNode n = Unit

-- every node is one
pub all_any : (ns : List Node) → All AnyNode ns
all_any [] = tt
all_any (n ∷ ns) = (tt, all_any ns)

tags_map : {B : Type 0} (f : Branch → B) (g : Slotted → B) → ((b : Bool) (e : Branch) → g (to_slotted (tagged b false e)) ≡ f e) → (b : Bool) (es : List Branch) → map g (map to_slotted (tag_first b es)) ≡ map f es
unfolding tag_first
tags_map f g q b [] = refl
tags_map f g q b (e ∷ es) = ap₂ ◌∷◌ (q b e) (tags_map f g q false es)

-- ---- S-Labels, S-HasChild, S-LOUDS

node_labels : (n : Node) → sparse_labels n ≡ map (λ (i : Slotted). i.entry.label) (node_part n)
unfolding node_part node_entries sparse_labels
node_labels (node none es) = sym (tags_map label_of (λ (i : Slotted). i.entry.label) (λ b e. refl) true es)
node_labels (node (some s) es) = ap (λ (z : List ℕ). 255 ∷ z) (sym (tags_map label_of (λ (i : Slotted). i.entry.label) (λ b e. refl) false es))

-- S-Labels: the entries' labels
pub labels_slotted : (ns : List Node) → concat (map sparse_labels ns) ≡ map (λ (i : Slotted). i.entry.label) (slotted_of ns)
labels_slotted ns = by_nodes sparse_labels (map (λ (i : Slotted). i.entry.label)) refl (λ a b. map-append (λ (i : Slotted). i.entry.label) a b) AnyNode (λ n u. node_labels n) ns (all_any ns)

node_children : (n : Node) → sparse_has_child n ≡ map (λ (i : Slotted). i.entry.child) (node_part n)
unfolding node_part node_entries sparse_has_child
node_children (node none es) = sym (tags_map has_child (λ (i : Slotted). i.entry.child) (λ b e. refl) true es)
node_children (node (some s) es) = ap (λ (z : List Bool). false ∷ z) (sym (tags_map has_child (λ (i : Slotted). i.entry.child) (λ b e. refl) false es))

-- S-HasChild: which entries continue
pub children_slotted : (ns : List Node) → concat (map sparse_has_child ns) ≡ map (λ (i : Slotted). i.entry.child) (slotted_of ns)
children_slotted ns = by_nodes sparse_has_child (map (λ (i : Slotted). i.entry.child)) refl (λ a b. map-append (λ (i : Slotted). i.entry.child) a b) AnyNode (λ n u. node_children n) ns (all_any ns)

tags_start : (es : List Branch) → map (λ (i : Slotted). i.entry.start) (map to_slotted (tag_first false es)) ≡ replicate (length es) false
unfolding tag_first
tags_start [] = refl
tags_start (e ∷ es) = ap (λ (z : List Bool). false ∷ z) (tags_start es)

node_starts : (n : Node) → Labelled n → louds n ≡ map (λ (i : Slotted). i.entry.start) (node_part n)
unfolding node_part node_entries tag_first louds sparse_labels
node_starts (node none []) f = absurd f
node_starts (node none (e ∷ es)) f = ap (λ (z : List Bool). true ∷ z) (size es ∙ sym (tags_start es))
  where
    size : (es : List Branch) → replicate (length (map label_of (e ∷ es)) - 1) false ≡ replicate (length es) false
    size es = let w : length (map label_of (e ∷ es)) - 1 ≡ length es = omega (arith, length-map es label_of) in ap (λ (m : ℕ). replicate m false) w
node_starts (node (some s) es) f = ap (λ (z : List Bool). true ∷ z) (size es ∙ sym (tags_start es))
  where
    size : (es : List Branch) → replicate (length (255 ∷ map label_of es) - 1) false ≡ replicate (length es) false
    size es = let w : length (255 ∷ map label_of es) - 1 ≡ length es = omega (arith, length-map es label_of) in ap (λ (m : ℕ). replicate m false) w

-- S-LOUDS: which entries start a node
pub starts_slotted : (ns : List Node) → All Labelled ns → concat (map louds ns) ≡ map (λ (i : Slotted). i.entry.start) (slotted_of ns)
starts_slotted ns f = by_nodes louds (map (λ (i : Slotted). i.entry.start)) refl (λ a b. map-append (λ (i : Slotted). i.entry.start) a b) Labelled node_starts ns f

-- ---- slots

-- the slots of entries, one behind the other
unfoldable pub slots_in : List Slotted → Bits
unfolding concat
slots_in xs = concat (map (λ (i : Slotted). i.slot) xs)

slots_append : (a b : List Slotted) → slots_in (a ++ b) ≡ slots_in a ++ slots_in b
unfolding slots_in
slots_append a b = ap concat (map-append (λ (i : Slotted). i.slot) a b) ∙ concat_append (map (λ (i : Slotted). i.slot) a) (map (λ (i : Slotted). i.slot) b)

tags_slots : (b : Bool) (es : List Branch) → concat (map slot es) ≡ slots_in (map to_slotted (tag_first b es))
unfolding tag_first slots_in concat
tags_slots b [] = refl
tags_slots b (e ∷ es) = ap (λ (z : Bits). slot e ++ z) (tags_slots false es)

node_slots : (n : Node) → slots n ≡ slots_in (node_part n)
unfolding node_part node_entries slots slots_in concat
node_slots (node none es) = tags_slots true es
node_slots (node (some s) es) = ap (λ (z : Bits). s ++ z) (tags_slots false es)

no_slots : slots_in [] ≡ []
unfolding slots_in concat
no_slots = refl

-- the suffix slots: the entries' slots
pub slots_slotted : (ns : List Node) → concat (map slots ns) ≡ slots_in (slotted_of ns)
slots_slotted ns = by_nodes slots slots_in no_slots slots_append AnyNode (λ n u. node_slots n) ns (all_any ns)

-- ---- how many

-- 1 for an entry that starts a node
abbrev pub node_step : Slotted → ℕ
node_step i = bit i.entry.start

-- 1 for an entry that is a leaf
abbrev pub leaf_step : Slotted → ℕ
leaf_step i = bit (not i.entry.child)

tags_none : (es : List Branch) → sum_of node_step (map to_slotted (tag_first false es)) ≡ 0
unfolding tag_first sum_of
tags_none [] = refl
tags_none (e ∷ es) = omega (arith, tags_none es)

node_one : (n : Node) → Labelled n → sum_of node_step (node_part n) ≡ 1
unfolding node_part node_entries tag_first sum_of
node_one (node none []) f = absurd f
node_one (node none (e ∷ es)) f = omega (arith, tags_none es)
node_one (node (some s) es) f = omega (arith, tags_none es)

-- as many nodes as entries that start one
pub nodes_entries : (ns : List Node) → All Labelled ns → sum_of node_step (slotted_of ns) ≡ length ns
unfolding sum_of
nodes_entries [] f = ap (sum_of node_step) slotted_none
nodes_entries (n ∷ ns) f = ap (sum_of node_step) (slotted_cons n ns) ∙ sum_append node_step (node_part n) (slotted_of ns) ∙ omega (arith, node_one n f.0, nodes_entries ns f.1)

tags_leaves : (b : Bool) (es : List Branch) → sum_of leaf_step (map to_slotted (tag_first b es)) ≡ open_leaves es
unfolding tag_first sum_of open_leaves
tags_leaves b [] = refl
tags_leaves b (to_node x ∷ es) = omega (arith, tags_leaves false es)
tags_leaves b (to_leaf x s ∷ es) = omega (arith, tags_leaves false es)

node_leaves : (n : Node) → sum_of leaf_step (node_part n) ≡ bit (is_exact n) + open_leaves (branches_of n)
unfolding node_part node_entries sum_of
node_leaves (node none es) = omega (arith, tags_leaves true es)
node_leaves (node (some s) es) = omega (arith, tags_leaves false es)

-- as many leaves as entries that do not continue
pub leaves_slotted : (ns : List Node) → sum_of leaf_step (slotted_of ns) ≡ leaf_count ns
unfolding sum_of leaf_count
leaves_slotted [] = ap (sum_of leaf_step) slotted_none
leaves_slotted (n ∷ ns) = ap (sum_of leaf_step) (slotted_cons n ns) ∙ sum_append leaf_step (node_part n) (slotted_of ns) ∙ ap₂ ◌+◌ (node_leaves n) (leaves_slotted ns)

-- an entry's slot has n bits, or none if it continues
abbrev pub SlotWide : ℕ → Slotted → Type 0
SlotWide n i = length i.slot ≡ n * leaf_step i

entry_wide : (n : ℕ) (b : Bool) (e : Branch) → BranchWidth n e → SlotWide n (to_slotted (tagged b false e))
entry_wide n b (to_node x) w = omega arith
entry_wide n b (to_leaf x s) w = omega arith

tags_wide : (n : ℕ) (b : Bool) (es : List Branch) → All (BranchWidth n) es → All (SlotWide n) (map to_slotted (tag_first b es))
unfolding tag_first
tags_wide n b [] w = tt
tags_wide n b (e ∷ es) w = (entry_wide n b e w.0, tags_wide n false es w.1)

node_wide : (n : ℕ) (m : Node) → SlotsWidth n m → All (SlotWide n) (node_part m)
unfolding node_part node_entries
node_wide n (node none es) w = tags_wide n true es w.1
node_wide n (node (some s) es) w = (omega (arith, w.0), tags_wide n false es w.1)

-- every slot of the nodes' entries has n bits
pub slotted_wide : (n : ℕ) (ns : List Node) → All (SlotsWidth n) ns → All (SlotWide n) (slotted_of ns)
slotted_wide n [] w = rw slotted_none tt
slotted_wide n (m ∷ ns) w = rw (slotted_cons m ns) (all_append (SlotWide n) (node_part m) (slotted_of ns) (node_wide n m w.0) (slotted_wide n ns w.1))
