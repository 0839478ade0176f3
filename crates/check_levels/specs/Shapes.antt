-- What number 14 asks of the nodes, said of their shapes: the suffix slots play no part in it.
use Rattle.std.specs.Prelude.{ℕ, zero, suc, ◌+◌, ◌<◌, ◌≤◌, ◌≡◌, refl, Bool, true, false, not, List, [], ◌∷◌, length, take, drop, leb}
use Rattle.std.proofs.Common.{sym, ◌∙◌, arith, eqb-true}
use Rattle.std.proofs.Math.Path.{ap, ap₂}
use Rattle.std.proofs.Math.Bool.{◌&&◌}
use Rattle.std.proofs.Math.Option.{Option, none, some}
use Rattle.std.proofs.Math.Dec.{ltb, eqb}
use Rattle.spec.specs.Bytes.{Bits, all, concat, count, bit}
use Rattle.spec.specs.Nodes.{Entry, entry, entry_label, continues, Shape, shape, Branch, to_node, to_leaf, Node, node, label_of, has_child, branches_of, is_exact, children, children_of, with_slots, past_slots, slotted, total, later, levels_of}
use Rattle.spec.specs.Trie.{open_leaves, leaf_count, has_label, ascending, sole_continues, nodes_valid}
use Rattle.theory.proofs.NodeBits.{length_slotted}
use Rattle.check_levels.specs.Tests.{all_both, under, regroup_ten}
use Rattle.check_levels.specs.LevelEnds.{level_tests, end_tests, levels_are, before, rise, nodes_above, rise_ext, nodes_above_ext}

-- an entry ends at a leaf
abbrev pub ends_here : Entry → Bool
ends_here e = not (continues e)

-- labels ascend strictly
unfoldable pub rising : List Entry → Bool
rising [] = true
rising (e ∷ []) = true
rising (e ∷ f ∷ es) = ltb (entry_label e) (entry_label f) && rising (f ∷ es)

-- whether a node is an exact leaf
abbrev pub exact : Shape → Bool
exact (shape p es) = p

-- its entries that continue
abbrev pub branches : Shape → ℕ
branches (shape p es) = count continues es

-- the leaves at it: itself, and its entries that end
abbrev pub leaves_at : Shape → ℕ
leaves_at (shape p es) = bit p + count ends_here es

-- it has a label
abbrev pub labelled : Shape → Bool
labelled (shape p []) = false
labelled (shape p (e ∷ es)) = true

-- its labels ascend
abbrev pub ordered : Shape → Bool
ordered (shape p es) = rising es

-- a sole entry continues
abbrev pub sole : Shape → Bool
sole (shape true es) = true
sole (shape false []) = true
sole (shape false (e ∷ [])) = continues e
sole (shape false (e ∷ f ∷ es)) = true

-- ---- one node

children_with : (n : ℕ) (es : List Entry) (bs : Bits) → children (with_slots n es bs) ≡ count continues es
unfolding children with_slots count
children_with n [] bs = refl
children_with n (entry x true ∷ es) bs = ap suc (children_with n es bs)
children_with n (entry x false ∷ es) bs = children_with n es (drop n bs)

leaves_with : (n : ℕ) (es : List Entry) (bs : Bits) → open_leaves (with_slots n es bs) ≡ count ends_here es
unfolding open_leaves with_slots count
leaves_with n [] bs = refl
leaves_with n (entry x true ∷ es) bs = leaves_with n es bs
leaves_with n (entry x false ∷ es) bs = ap suc (leaves_with n es (drop n bs))

-- the first of branches with slots, and those behind it
abbrev first_with : ℕ → Entry → List Entry → Bits → Branch
first_with n (entry x true) es bs = to_node x
first_with n (entry x false) es bs = to_leaf x (take n bs)

abbrev rest_bits : ℕ → Entry → Bits → Bits
rest_bits n (entry x true) bs = bs
rest_bits n (entry x false) bs = drop n bs

with_first : (n : ℕ) (e : Entry) (es : List Entry) (bs : Bits) → with_slots n (e ∷ es) bs ≡ first_with n e es bs ∷ with_slots n es (rest_bits n e bs)
unfolding with_slots
with_first n (entry x true) es bs = refl
with_first n (entry x false) es bs = refl

first_label : (n : ℕ) (e : Entry) (es : List Entry) (bs : Bits) → label_of (first_with n e es bs) ≡ entry_label e
first_label n (entry x true) es bs = refl
first_label n (entry x false) es bs = refl

first_child : (n : ℕ) (e : Entry) (es : List Entry) (bs : Bits) → has_child (first_with n e es bs) ≡ continues e
first_child n (entry x true) es bs = refl
first_child n (entry x false) es bs = refl

ascending_with : (n : ℕ) (es : List Entry) (bs : Bits) → ascending (with_slots n es bs) ≡ rising es
unfolding ascending rising with_slots
ascending_with n [] bs = refl
ascending_with n (e ∷ []) bs = ap ascending (with_first n e [] bs)
ascending_with n (e ∷ f ∷ es) bs =
    let b : Bits = rest_bits n e bs in
    ap ascending (with_first n e (f ∷ es) bs ∙ ap (λ (z : List Branch). first_with n e (f ∷ es) bs ∷ z) (with_first n f es b))
    ∙ ap₂ ◌&&◌ (ap₂ ltb (first_label n e (f ∷ es) bs) (first_label n f es b)) (ap ascending (sym (with_first n f es b)) ∙ ascending_with n (f ∷ es) b)

-- ---- nodes

-- a node of a shape, its slots from the bits
unfoldable pub node_of : ℕ → Shape → Bits → Node
node_of n (shape true es) bs = node (some (take n bs)) (with_slots n es (drop n bs))
node_of n (shape false es) bs = node none (with_slots n es bs)

-- the bits behind a node's slots
unfoldable pub bits_past : ℕ → Shape → Bits → Bits
bits_past n (shape true es) bs = past_slots n es (drop n bs)
bits_past n (shape false es) bs = past_slots n es bs

pub slotted_first : (n : ℕ) (h : Shape) (hs : List Shape) (bs : Bits) → slotted n (h ∷ hs) bs ≡ node_of n h bs ∷ slotted n hs (bits_past n h bs)
unfolding slotted node_of bits_past
slotted_first n (shape true es) hs bs = refl
slotted_first n (shape false es) hs bs = refl

node_exact : (n : ℕ) (h : Shape) (bs : Bits) → is_exact (node_of n h bs) ≡ exact h
unfolding node_of
node_exact n (shape true es) bs = refl
node_exact n (shape false es) bs = refl

node_children : (n : ℕ) (h : Shape) (bs : Bits) → children_of (node_of n h bs) ≡ branches h
unfolding node_of
node_children n (shape true es) bs = children_with n es (drop n bs)
node_children n (shape false es) bs = children_with n es bs

node_leaves : (n : ℕ) (h : Shape) (bs : Bits) → bit (is_exact (node_of n h bs)) + open_leaves (branches_of (node_of n h bs)) ≡ leaves_at h
unfolding node_of
node_leaves n (shape true es) bs = ap (λ (k : ℕ). 1 + k) (leaves_with n es (drop n bs))
node_leaves n (shape false es) bs = ap (λ (k : ℕ). 0 + k) (leaves_with n es bs)

some_label : (n : ℕ) (o : Option Bits) (e : Entry) (es : List Entry) (bs : Bits) → has_label (node o (with_slots n (e ∷ es) bs)) ≡ true
unfolding has_label
some_label n o e es bs = ap (λ (z : List Branch). has_label (node o z)) (with_first n e es bs)

node_label : (n : ℕ) (h : Shape) (bs : Bits) → has_label (node_of n h bs) ≡ labelled h
unfolding node_of has_label with_slots
node_label n (shape true []) bs = refl
node_label n (shape false []) bs = refl
node_label n (shape true (e ∷ es)) bs = some_label n (some (take n bs)) e es (drop n bs)
node_label n (shape false (e ∷ es)) bs = some_label n none e es bs

node_ordered : (n : ℕ) (h : Shape) (bs : Bits) → ascending (branches_of (node_of n h bs)) ≡ ordered h
unfolding node_of
node_ordered n (shape true es) bs = ascending_with n es (drop n bs)
node_ordered n (shape false es) bs = ascending_with n es bs

node_sole : (n : ℕ) (h : Shape) (bs : Bits) → sole_continues (node_of n h bs) ≡ sole h
unfolding node_of sole_continues with_slots
node_sole n (shape true es) bs = refl
node_sole n (shape false []) bs = refl
node_sole n (shape false (e ∷ [])) bs = ap (λ (z : List Branch). sole_continues (node none z)) (with_first n e [] bs) ∙ first_child n e [] bs
node_sole n (shape false (e ∷ f ∷ es)) bs =
    ap (λ (z : List Branch). sole_continues (node none z)) (with_first n e (f ∷ es) bs ∙ ap (λ (z : List Branch). first_with n e (f ∷ es) bs ∷ z) (with_first n f es (rest_bits n e bs)))

-- ---- all nodes

-- the branches that continue before a node
pub before_slotted : (n : ℕ) (hs : List Shape) (bs : Bits) (i : ℕ) → before children_of (slotted n hs bs) i ≡ before branches hs i
unfolding slotted total
before_slotted n hs bs zero = refl
before_slotted n [] bs (suc i) = refl
before_slotted n (h ∷ hs) bs (suc i) =
    ap (λ (z : List Node). total children_of (take (suc i) z)) (slotted_first n h hs bs)
    ∙ ap₂ ◌+◌ (node_children n h bs) (before_slotted n hs (bits_past n h bs) i)

pub total_slotted : (n : ℕ) (hs : List Shape) (bs : Bits) → total children_of (slotted n hs bs) ≡ total branches hs
unfolding slotted total
total_slotted n [] bs = refl
total_slotted n (h ∷ hs) bs = ap (total children_of) (slotted_first n h hs bs) ∙ ap₂ ◌+◌ (node_children n h bs) (total_slotted n hs (bits_past n h bs))

leaves_slotted : (n : ℕ) (hs : List Shape) (bs : Bits) → leaf_count (slotted n hs bs) ≡ total leaves_at hs
unfolding slotted total leaf_count
leaves_slotted n [] bs = refl
leaves_slotted n (h ∷ hs) bs = ap leaf_count (slotted_first n h hs bs) ∙ ap₂ ◌+◌ (node_leaves n h bs) (leaves_slotted n hs (bits_past n h bs))

-- a test of every node that is one of its shape
all_slotted : (p : Node → Bool) (q : Shape → Bool) → ((n : ℕ) (h : Shape) (bs : Bits) → p (node_of n h bs) ≡ q h) → (n : ℕ) (hs : List Shape) (bs : Bits) → all p (slotted n hs bs) ≡ all q hs
unfolding slotted all
all_slotted p q f n [] bs = refl
all_slotted p q f n (h ∷ hs) bs = ap (all p) (slotted_first n h hs bs) ∙ ap₂ ◌&&◌ (f n h bs) (all_slotted p q f n hs (bits_past n h bs))

-- ---- the tests of number 14

-- what the root must be, and what every other node
abbrev pub root_valid : Shape → Bool
root_valid h = labelled h && not (exact h) && ordered h

abbrev pub non_root_valid : Shape → Bool
non_root_valid h = labelled h && ordered h && sole h

-- nodes of which the first may be the root
unfoldable pub nodes_from : Bool → List Shape → Bool
unfolding all
nodes_from r [] = true
nodes_from true (h ∷ hs) = root_valid h && all non_root_valid hs
nodes_from false (h ∷ hs) = non_root_valid h && all non_root_valid hs

-- the tests of shapes: the leaf count, some leaf, nodes are continuing branches plus one, the levels by their ends, each node
unfoldable pub shapes_valid : ℕ → ℕ → ℕ → List Shape → Bool
unfolding total all rise nodes_above nodes_from
shapes_valid dense n leaves [] = eqb leaves 0
shapes_valid dense n leaves (h ∷ hs) =
    eqb (total leaves_at (h ∷ hs)) leaves
    && ltb 0 leaves
    && (eqb (length (h ∷ hs)) (total branches (h ∷ hs) + 1) && end_tests branches (h ∷ hs) dense n)
    && nodes_from true (h ∷ hs)

-- the tests of the ends, of nodes and of their shapes
ends_slotted : (w dense n : ℕ) (hs : List Shape) (bs : Bits) → 0 < length hs → end_tests children_of (slotted w hs bs) dense n ≡ end_tests branches hs dense n
ends_slotted w dense n hs bs l =
    let same-before : (e : ℕ) → e ≤ length hs → before children_of (slotted w hs bs) e ≡ before branches hs e = λ e u. before_slotted w hs bs e in
    let long = length_slotted w hs bs in
    ap₂ ◌&&◌
    (ap (λ (m : ℕ). rise (before children_of (slotted w hs bs)) m 63 1) long ∙ rise_ext (before children_of (slotted w hs bs)) (before branches hs) (length hs) same-before 63 1 (omega arith))
    (ap (λ (m : ℕ). eqb m n) (ap (λ (m : ℕ). nodes_above (before children_of (slotted w hs bs)) m dense) long ∙ nodes_above_ext (before children_of (slotted w hs bs)) (before branches hs) (length hs) same-before dense))

all_inner : (hs : List Shape) → all non_root_valid hs ≡ all labelled hs && all ordered hs && all sole hs
all_inner hs = all_both (λ h. labelled h && ordered h) sole hs ∙ ap (λ (t : Bool). t && all sole hs) (all_both labelled ordered hs)

module _ (w dense n leaves : ℕ) (h : Shape) (hs : List Shape) (bs : Bits) (d : dense ≤ 64) where
  abbrev root : Node
  root = node_of w h bs

  abbrev rest : List Node
  rest = slotted w hs (bits_past w h bs)

  whole : slotted w (h ∷ hs) bs ≡ root ∷ rest
  whole = slotted_first w h hs bs

  same_leaves : leaf_count (root ∷ rest) ≡ total leaves_at (h ∷ hs)
  same_leaves = ap leaf_count (sym whole) ∙ leaves_slotted w (h ∷ hs) bs

  same_total : total children_of (root ∷ rest) ≡ total branches (h ∷ hs)
  same_total = ap (total children_of) (sym whole) ∙ total_slotted w (h ∷ hs) bs

  same_length : length (root ∷ rest) ≡ length (h ∷ hs)
  same_length = ap length (sym whole) ∙ length_slotted w (h ∷ hs) bs

  same_levels : eqb (length (root ∷ rest)) (total children_of (root ∷ rest) + 1) && level_tests children_of (root ∷ rest) dense n
      ≡ eqb (length (h ∷ hs)) (total branches (h ∷ hs) + 1) && end_tests branches (h ∷ hs) dense n
  same_levels =
      under (eqb (length (root ∷ rest)) (total children_of (root ∷ rest) + 1)) (level_tests children_of (root ∷ rest) dense n) (end_tests children_of (root ∷ rest) dense n)
      (λ c. levels_are children_of (root ∷ rest) (eqb-true (length (root ∷ rest)) (total children_of (root ∷ rest) + 1) c) dense n d)
      ∙ ap₂ ◌&&◌ (ap₂ (λ (a b : ℕ). eqb a (b + 1)) same_length same_total)
      (ap (λ (z : List Node). end_tests children_of z dense n) (sym whole) ∙ ends_slotted w dense n (h ∷ hs) bs (omega arith))

  same_nodes : has_label root && not (is_exact root) && ascending (branches_of root) && (all has_label rest && all (λ n. ascending (branches_of n)) rest && all sole_continues rest)
      ≡ root_valid h && all non_root_valid hs
  same_nodes =
      ap₂ ◌&&◌ (ap₂ ◌&&◌ (ap₂ ◌&&◌ (node_label w h bs) (ap not (node_exact w h bs))) (node_ordered w h bs))
      (ap₂ ◌&&◌ (ap₂ ◌&&◌ (all_slotted has_label labelled node_label w hs (bits_past w h bs)) (all_slotted (λ n. ascending (branches_of n)) ordered node_ordered w hs (bits_past w h bs)))
      (all_slotted sole_continues sole node_sole w hs (bits_past w h bs)) ∙ sym (all_inner hs))

  by_tests : nodes_valid dense n leaves (root ∷ rest)
      ≡ eqb (leaf_count (root ∷ rest)) leaves
      && ltb 0 leaves
      && (eqb (length (root ∷ rest)) (total children_of (root ∷ rest) + 1) && level_tests children_of (root ∷ rest) dense n)
      && (has_label root && not (is_exact root) && ascending (branches_of root) && (all has_label rest && all (λ n. ascending (branches_of n)) rest && all sole_continues rest))
  unfolding nodes_valid levels_of all
  by_tests =
      regroup_ten (eqb (leaf_count (root ∷ rest)) leaves) (ltb 0 leaves) (eqb (length (root ∷ rest)) (total children_of (root ∷ rest) + 1)) (later children_of 0 0 (root ∷ rest))
      (has_label root) (all has_label rest) (not (is_exact root)) (ascending (branches_of root)) (all (λ n. ascending (branches_of n)) rest) (all sole_continues rest)
      (eqb (length (concat (take dense (levels_of (root ∷ rest))))) n) (leb (length (levels_of (root ∷ rest))) 64)

  some_nodes : nodes_valid dense n leaves (slotted w (h ∷ hs) bs) ≡ shapes_valid dense n leaves (h ∷ hs)
  unfolding shapes_valid nodes_from
  some_nodes =
      ap (nodes_valid dense n leaves) whole ∙ by_tests
      ∙ ap₂ ◌&&◌ (ap₂ ◌&&◌ (ap (λ (m : ℕ). eqb m leaves && ltb 0 leaves) same_leaves) same_levels) same_nodes

-- document 01's tests of the nodes are those of their shapes
pub nodes_shapes : (w dense n leaves : ℕ) (hs : List Shape) (bs : Bits) → dense ≤ 64 → nodes_valid dense n leaves (slotted w hs bs) ≡ shapes_valid dense n leaves hs
unfolding nodes_valid shapes_valid slotted
nodes_shapes w dense n leaves [] bs d = refl
nodes_shapes w dense n leaves (h ∷ hs) bs d = some_nodes w dense n leaves h hs bs d
