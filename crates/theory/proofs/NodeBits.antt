-- What the nodes of a trie write: each node's part of each body, the bodies, and the image of nodes; and their suffix slots, from bits to nodes and back.
-- Used by the laws about dense and sparse nodes, by the literal image, by the parts of an image and by acceptance.
use Rattle.std.specs.Prelude.{ℕ, ◌-◌, suc, ◌*◌, ◌+◌, ◌≡◌, refl, cond, false, true, List, map, ◌∷◌, [], ◌++◌, replicate, length, drop, take}
use Rattle.std.proofs.Common.{ap, ◌∙◌, sym, ap₂, append_assoc, append-nil, arith, suc-mul, zero-mul, add-mul, take-append-drop, length-drop, length-append, length-take-le, take_at, drop_at}
use Rattle.std.proofs.Math.Option.{none, some, Option}
use Rattle.spec.specs.Bytes.{Bits, iota, filter, Bytes, concat, pack, bit}
use Rattle.spec.specs.Image.{has, Bodies, ranks, samples, Settings, header, Counts, version_rows, in_order, level_bodies, write_records}
use Rattle.spec.specs.Nodes.{Node, levels_of, label_of, branches_of, has_child, is_exact, exact_slot, slot, Branch, Entry, to_node, entry, to_leaf, Shape, node, shape, with_slots, entry_label, continues, slotted, past_slots}
use Rattle.spec.specs.Trie.{open_leaves, leaf_count}
use Rattle.theory.specs.Terms.{All, IsBytes}
use Rattle.theory.proofs.Lists.{nil_of}

-- ---- one node

-- D-Labels: the 256 bits of a dense node, set at its labels
unfoldable pub dense_labels : Node → Bits
unfolding has iota
dense_labels n = let xs : List ℕ = map label_of (branches_of n) in map (has xs) (iota 0 256)

-- D-HasChild: the 256 bits of a dense node, set at the labels that continue
unfoldable pub dense_has_child : Node → Bits
unfolding has iota filter
dense_has_child n = let xs : List ℕ = map label_of (filter has_child (branches_of n)) in map (has xs) (iota 0 256)

-- S-Labels: a node's labels; a node that is an exact leaf starts with an extra FF
unfoldable pub sparse_labels : Node → Bytes
sparse_labels n = cond (is_exact n) (255 ∷ []) [] ++ map label_of (branches_of n)

-- S-HasChild: whether each entry continues; the extra FF does not
unfoldable pub sparse_has_child : Node → Bits
sparse_has_child n = cond (is_exact n) (false ∷ []) [] ++ map has_child (branches_of n)

-- S-LOUDS: set at a node's first entry
unfoldable pub louds : Node → Bits
unfolding sparse_labels
louds n = true ∷ replicate (length (sparse_labels n) - 1) false

-- a node's suffix slots, an exact leaf's before its branches'
unfoldable pub slots : Node → Bits
unfolding concat
slots n = exact_slot n ++ concat (map slot (branches_of n))

-- ---- all nodes

-- the bodies of bits and labels
abbrev pub bodies_of : (dl dc dp : Bits) (sl : Bytes) (sc sb sv : Bits) → Bodies
bodies_of dl dc dp sl sc sb sv = record {
  DL = pack dl;
  DC = pack dc;
  DP = pack dp;
  SL = sl;
  SC = pack sc;
  SB = pack sb;
  SV = pack sv;
  RL = ranks 64 dl;
  RC = ranks 64 dc;
  RP = ranks 64 dp;
  RS = ranks 512 sc;
  TS = samples sb;
}

-- the bodies of dense and sparse nodes
unfoldable pub bodies : List Node → List Node → Bodies
unfolding concat dense_labels dense_has_child sparse_labels sparse_has_child louds slots pack ranks samples
bodies ds ss =
    bodies_of (concat (map dense_labels ds)) (concat (map dense_has_child ds)) (map is_exact ds)
    (concat (map sparse_labels ss)) (concat (map sparse_has_child ss)) (concat (map louds ss)) (concat (map slots (ds ++ ss)))

-- The bodies of nodes are those of the nodes' bits and labels.
pub bodies_bits : (ds ss : List Node)
    → bodies ds ss ≡ bodies_of (concat (map dense_labels ds)) (concat (map dense_has_child ds)) (map is_exact ds) (concat (map sparse_labels ss)) (concat (map sparse_has_child ss)) (concat (map louds ss)) (concat (map slots (ds ++ ss)))
unfolding bodies
bodies_bits ds ss = refl

-- the counts of dense and sparse nodes with so many leaves
abbrev pub node_counts : ℕ → List Node → List Node → Counts
node_counts count ds ss = record { leaves = count; dense_nodes = length ds; sparse_entries = length (concat (map sparse_labels ss)); sparse_nodes = length ss }

-- the bodies of a version, in the order of their records
abbrev pub version_bodies : ℕ → List Node → List Node → List Bytes
version_bodies v ds ss = in_order (bodies ds ss) ++ level_bodies v (map length (levels_of (ds ++ ss)))

-- the image of dense and sparse nodes: header and records
abbrev pub node_image : Settings → ℕ → List Node → List Node → Bytes
node_image st count ds ss = header st (node_counts count ds ss) ++ write_records (version_rows st.version) (version_bodies st.version ds ss)

-- ---- nodes without their slots

-- a branch without its slot
abbrev pub entry_of : Branch → Entry
entry_of (to_node x) = entry x true
entry_of (to_leaf x s) = entry x false

-- a node without its slots
abbrev pub shape_of : Node → Shape
shape_of (node none es) = shape false (map entry_of es)
shape_of (node (some s) es) = shape true (map entry_of es)

-- A branch keeps its label when its slot is put in.
pub labels_with_slots : (n : ℕ) (es : List Entry) (bs : Bits) → map label_of (with_slots n es bs) ≡ map entry_label es
unfolding with_slots
labels_with_slots n [] bs = refl
labels_with_slots n (entry x true ∷ es) bs = ap (λ (z : List ℕ). x ∷ z) (labels_with_slots n es bs)
labels_with_slots n (entry x false ∷ es) bs = ap (λ (z : List ℕ). x ∷ z) (labels_with_slots n es (drop n bs))

-- A branch that continues does so when slots are put in.
pub has_child_with_slots : (n : ℕ) (es : List Entry) (bs : Bits) → map has_child (with_slots n es bs) ≡ map continues es
unfolding with_slots
has_child_with_slots n [] bs = refl
has_child_with_slots n (entry x true ∷ es) bs = ap (λ (z : Bits). true ∷ z) (has_child_with_slots n es bs)
has_child_with_slots n (entry x false ∷ es) bs = ap (λ (z : Bits). false ∷ z) (has_child_with_slots n es (drop n bs))

-- The labels that continue are the same when slots are put in.
pub child_labels_with_slots : (n : ℕ) (es : List Entry) (bs : Bits) → map label_of (filter has_child (with_slots n es bs)) ≡ map entry_label (filter continues es)
unfolding with_slots filter
child_labels_with_slots n [] bs = refl
child_labels_with_slots n (entry x true ∷ es) bs = ap (λ (z : List ℕ). x ∷ z) (child_labels_with_slots n es bs)
child_labels_with_slots n (entry x false ∷ es) bs = child_labels_with_slots n es (drop n bs)

-- Nodes are as many with slots as without.
pub length_slotted : (n : ℕ) (ns : List Shape) (bs : Bits) → length (slotted n ns bs) ≡ length ns
unfolding slotted
length_slotted n [] bs = refl
length_slotted n (shape true es ∷ ns) bs = ap suc (length_slotted n ns _)
length_slotted n (shape false es ∷ ns) bs = ap suc (length_slotted n ns _)

-- ---- slots of n bits, and labels that are bytes

-- a branch's slot has n bits
abbrev pub BranchWidth : ℕ → Branch → Type 0
BranchWidth n (to_node x) = Unit
BranchWidth n (to_leaf x s) = length s ≡ n

-- an exact leaf's slot has n bits
abbrev pub ExactWidth : ℕ → Option Bits → Type 0
ExactWidth n none = Unit
ExactWidth n (some s) = length s ≡ n

-- every slot of a node has n bits
abbrev pub SlotsWidth : ℕ → Node → Type 0
SlotsWidth n (node o es) = ExactWidth n o × All (BranchWidth n) es

-- a node's labels are bytes
abbrev pub ByteLabels : Node → Type 0
ByteLabels n = IsBytes (map label_of (branches_of n))

-- ---- from bits to slots

-- the bits behind the slots of the nodes
unfoldable pub past_nodes : ℕ → List Shape → Bits → Bits
unfolding past_slots
past_nodes n [] bs = bs
past_nodes n (shape true es ∷ ns) bs = past_nodes n ns (past_slots n es (drop n bs))
past_nodes n (shape false es ∷ ns) bs = past_nodes n ns (past_slots n es bs)

-- The slots of two lists of nodes are taken one list behind the other.
pub slotted_append : (n : ℕ) (a b : List Shape) (bs : Bits) → slotted n (a ++ b) bs ≡ slotted n a bs ++ slotted n b (past_nodes n a bs)
unfolding slotted past_nodes
slotted_append n [] b bs = refl
slotted_append n (shape true es ∷ a) b bs = ap (λ (z : List Node). node (some (take n bs)) (with_slots n es (drop n bs)) ∷ z) (slotted_append n a b (past_slots n es (drop n bs)))
slotted_append n (shape false es ∷ a) b bs = ap (λ (z : List Node). node none (with_slots n es bs) ∷ z) (slotted_append n a b (past_slots n es bs))

-- The slots of branches, and the bits behind them, are the bits.
branch_slots : (n : ℕ) (es : List Entry) (bs : Bits) → concat (map slot (with_slots n es bs)) ++ past_slots n es bs ≡ bs
unfolding with_slots past_slots concat
branch_slots n [] bs = refl
branch_slots n (entry x true ∷ es) bs = branch_slots n es bs
branch_slots n (entry x false ∷ es) bs = append_assoc (take n bs) (concat (map slot (with_slots n es (drop n bs)))) (past_slots n es (drop n bs)) ∙ ap (λ (z : Bits). take n bs ++ z) (branch_slots n es (drop n bs)) ∙ take-append-drop n bs

-- The slots of nodes, and the bits behind them, are the bits.
node_slots : (n : ℕ) (ns : List Shape) (bs : Bits) → concat (map slots (slotted n ns bs)) ++ past_nodes n ns bs ≡ bs
unfolding slotted past_nodes concat slots
node_slots n [] bs = refl
node_slots n (shape true es ∷ ns) bs =
    let u = past_slots n es (drop n bs) in
    append_assoc (take n bs ++ concat (map slot (with_slots n es (drop n bs)))) (concat (map slots (slotted n ns u))) (past_nodes n ns u)
    ∙ ap (λ (z : Bits). (take n bs ++ concat (map slot (with_slots n es (drop n bs)))) ++ z) (node_slots n ns u)
    ∙ append_assoc (take n bs) (concat (map slot (with_slots n es (drop n bs)))) u
    ∙ ap (λ (z : Bits). take n bs ++ z) (branch_slots n es (drop n bs))
    ∙ take-append-drop n bs
node_slots n (shape false es ∷ ns) bs =
    let u = past_slots n es bs in
    append_assoc (concat (map slot (with_slots n es bs))) (concat (map slots (slotted n ns u))) (past_nodes n ns u)
    ∙ ap (λ (z : Bits). concat (map slot (with_slots n es bs)) ++ z) (node_slots n ns u)
    ∙ branch_slots n es bs

first_slot : (n k : ℕ) (bs : Bits) → length bs ≡ suc k * n → (length (take n bs) ≡ n) × (length (drop n bs) ≡ k * n)
first_slot n k bs h =
    let e : length bs ≡ k * n + n = h ∙ suc-mul k n in
    (length-take-le n bs (omega arith), omega (arith, length-drop n bs))

branches_width : (n r : ℕ) (es : List Entry) (bs : Bits) → length bs ≡ (open_leaves (with_slots n es bs) + r) * n → All (BranchWidth n) (with_slots n es bs) × (length (past_slots n es bs) ≡ r * n)
unfolding with_slots past_slots open_leaves
branches_width n r [] bs h = let e : 0 + r ≡ r = omega arith in (tt, h ∙ ap (λ (k : ℕ). k * n) e)
branches_width n r (entry x true ∷ es) bs h = let q = branches_width n r es bs h in ((tt, q.0), q.1)
branches_width n r (entry x false ∷ es) bs h =
    let e : suc (open_leaves (with_slots n es (drop n bs))) + r ≡ suc (open_leaves (with_slots n es (drop n bs)) + r) = omega arith in
    let f = first_slot n (open_leaves (with_slots n es (drop n bs)) + r) bs (h ∙ ap (λ (k : ℕ). k * n) e) in
    let q = branches_width n r es (drop n bs) f.1 in
    ((f.0, q.0), q.1)

-- Where there are n bits a leaf, every slot has n bits and no bit is left over.
pub slots_width : (n : ℕ) (ns : List Shape) (bs : Bits) → length bs ≡ leaf_count (slotted n ns bs) * n → All (SlotsWidth n) (slotted n ns bs) × (past_nodes n ns bs ≡ [])
unfolding slotted past_nodes leaf_count
slots_width n [] bs h = (tt, nil_of bs (h ∙ zero-mul n))
slots_width n (shape true es ∷ ns) bs h =
    let k = leaf_count (slotted n ns (past_slots n es (drop n bs))) in
    let e : 1 + open_leaves (with_slots n es (drop n bs)) + k ≡ suc (open_leaves (with_slots n es (drop n bs)) + k) = omega arith in
    let f = first_slot n (open_leaves (with_slots n es (drop n bs)) + k) bs (h ∙ ap (λ (z : ℕ). z * n) e) in
    let q = branches_width n k es (drop n bs) f.1 in
    let r = slots_width n ns (past_slots n es (drop n bs)) q.1 in
    (((f.0, q.0), r.0), r.1)
slots_width n (shape false es ∷ ns) bs h =
    let k = leaf_count (slotted n ns (past_slots n es bs)) in
    let e : 0 + open_leaves (with_slots n es bs) + k ≡ open_leaves (with_slots n es bs) + k = omega arith in
    let q = branches_width n k es bs (h ∙ ap (λ (z : ℕ). z * n) e) in
    let r = slots_width n ns (past_slots n es bs) q.1 in
    (((tt, q.0), r.0), r.1)

-- Where there are n bits a leaf, the slots are all the bits.
pub slot_bits : (n : ℕ) (ns : List Shape) (bs : Bits) → length bs ≡ leaf_count (slotted n ns bs) * n → concat (map slots (slotted n ns bs)) ≡ bs
slot_bits n ns bs h =
    sym (append-nil (concat (map slots (slotted n ns bs)))) ∙ ap (λ (z : Bits). concat (map slots (slotted n ns bs)) ++ z) (sym (slots_width n ns bs h).1) ∙ node_slots n ns bs

-- ---- from slots to bits

-- Branches get their slots back, and the bits behind them are left over.
with_slots_back : (n : ℕ) (es : List Branch) (rest : Bits) → All (BranchWidth n) es
    → (with_slots n (map entry_of es) (concat (map slot es) ++ rest) ≡ es) × (past_slots n (map entry_of es) (concat (map slot es) ++ rest) ≡ rest)
unfolding with_slots past_slots concat
with_slots_back n [] rest w = (refl, refl)
with_slots_back n (to_node x ∷ es) rest w = let r = with_slots_back n es rest w.1 in (ap (λ (z : List Branch). to_node x ∷ z) r.0, r.1)
with_slots_back n (to_leaf x s ∷ es) rest w =
    let r = with_slots_back n es rest w.1 in
    let a = append_assoc s (concat (map slot es)) rest in
    rw (a, take_at s (concat (map slot es) ++ rest) n w.0, drop_at s (concat (map slot es) ++ rest) n w.0) (ap (λ (z : List Branch). to_leaf x s ∷ z) r.0, r.1)

-- Nodes get their slots back from their bits.
pub slotted_back : (n : ℕ) (ns : List Node) (rest : Bits) → All (SlotsWidth n) ns → slotted n (map shape_of ns) (concat (map slots ns) ++ rest) ≡ ns
unfolding slotted slots concat
slotted_back n [] rest w = refl
slotted_back n (node none es ∷ ns) rest w =
    let r = with_slots_back n es (concat (map slots ns) ++ rest) w.0.1 in
    let a = append_assoc (concat (map slot es)) (concat (map slots ns)) rest in
    rw a (ap₂ ◌∷◌ (ap (node none) r.0) (ap (slotted n (map shape_of ns)) r.1 ∙ slotted_back n ns rest w.1))
slotted_back n (node (some s) es ∷ ns) rest w =
    let r = with_slots_back n es (concat (map slots ns) ++ rest) w.0.1 in
    let a = append_assoc (s ++ concat (map slot es)) (concat (map slots ns)) rest ∙ append_assoc s (concat (map slot es)) (concat (map slots ns) ++ rest) in
    let h = take_at s (concat (map slot es) ++ (concat (map slots ns) ++ rest)) n w.0.0 in
    let t = drop_at s (concat (map slot es) ++ (concat (map slots ns) ++ rest)) n w.0.0 in
    rw (a, h, t) (ap₂ ◌∷◌ (ap (node (some s)) r.0) (ap (slotted n (map shape_of ns)) r.1 ∙ slotted_back n ns rest w.1))

length_branch_slots : (n : ℕ) (es : List Branch) → All (BranchWidth n) es → length (concat (map slot es)) ≡ open_leaves es * n
unfolding concat open_leaves
length_branch_slots n [] w = sym (zero-mul n)
length_branch_slots n (to_node x ∷ es) w = length_branch_slots n es w.1
length_branch_slots n (to_leaf x s ∷ es) w = omega (arith, length-append s (concat (map slot es)), w.0, length_branch_slots n es w.1, suc-mul (open_leaves es) n)

length_node_slots : (n : ℕ) (m : Node) → SlotsWidth n m → length (slots m) ≡ (bit (is_exact m) + open_leaves (branches_of m)) * n
unfolding slots
length_node_slots n (node none es) w = let e : 0 + open_leaves es ≡ open_leaves es = omega arith in length_branch_slots n es w.1 ∙ ap (λ (k : ℕ). k * n) (sym e)
length_node_slots n (node (some s) es) w =
    let e : 1 + open_leaves es ≡ suc (open_leaves es) = omega arith in
    let f : length (s ++ concat (map slot es)) ≡ suc (open_leaves es) * n = omega (arith, length-append s (concat (map slot es)), w.0, length_branch_slots n es w.1, suc-mul (open_leaves es) n) in
    f ∙ ap (λ (k : ℕ). k * n) (sym e)

-- The slots of nodes have n bits a leaf.
pub length_sv : (n : ℕ) (ns : List Node) → All (SlotsWidth n) ns → length (concat (map slots ns)) ≡ leaf_count ns * n
unfolding concat leaf_count
length_sv n [] w = sym (zero-mul n)
length_sv n (m ∷ ns) w =
    length-append (slots m) (concat (map slots ns)) ∙ ap₂ ◌+◌ (length_node_slots n m w.0) (length_sv n ns w.1) ∙ sym (add-mul (bit (is_exact m) + open_leaves (branches_of m)) (leaf_count ns) n)
