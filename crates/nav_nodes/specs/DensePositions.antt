-- Positions in the bits of dense nodes: bit 256 m + y is the branch y of node m, and ranks give the children and leaves before it.
use Prim.Native.Nat.{ℕ, zero, suc, ◌+◌, ◌-◌, ◌*◌, ◌<◌, ◌≤◌}
use Rattle.std.specs.Prelude.{◌≡◌, Bool, true, get_or, take, drop, leb}
use Rattle.std.proofs.Math.Path.{refl, sym, ap}
use Rattle.std.proofs.Common.{ap₂, ◌∙◌, take_all, get_or-append-add}
use Rattle.std.proofs.Math.Bool.{false}
use mathlib.Core.List.{List, [], ◌∷◌, ◌++◌, map}
use Rattle.std.proofs.Math.Option.{none}
use native.Mathlib.Omega.{arith}
use Rattle.std.proofs.Math.ListN.{length, get_or-append}
use Rattle.std.proofs.lemmas.List.{length-map, take-append-le}
use Rattle.std.proofs.Math.Seq.{take-append-add}
use Rattle.std.proofs.lemmas.Bool.{lt-leb}
use Rattle.spec.specs.Bytes.{Bytes, Bits, bit, concat, ones, pack}
use Rattle.spec.specs.Nodes.{Branch, to_node, to_leaf, Node, node, label_of, branches_of, is_exact, children, children_of, total}
use Rattle.spec.specs.Trie.{open_leaves, leaf_count}
use Rattle.bits.specs.Bits.{bit_at, rank}
use Rattle.nav_nodes.specs.Counting.{labels_below, labels_below_le}
use Rattle.nav_nodes.specs.Slots.{node_at, leaves_before, slot_number}
use Rattle.nav_nodes.specs.Descent.{children_before, child_number, goes_on}
use Rattle.nav_nodes.specs.Stored.{Starts, bits_at, bits_rank}
use Rattle.nav_nodes.specs.LabelMaps.{Narrow, narrow, matches, labels_counted, children_counted, label_bit, child_bit}
use Rattle.theory.specs.Terms.{All}
use Rattle.theory.proofs.LinkedLevels.{Labelled}
use Rattle.theory.proofs.NodeBits.{ByteLabels, dense_labels, dense_has_child}
use Rattle.theory.proofs.Bits.{AscendsFrom}
use Rattle.theory.proofs.DenseBits.{length_dense_labels, length_dense_has_child, length_dl, length_dc}

pub ones_append : (a b : Bits) → ones (a ++ b) ≡ ones a + ones b
unfolding ones
ones_append [] b = omega arith
ones_append (x ∷ a) b = omega (arith, ones_append a b)

-- ---- rows of 256 bits

module _ (f : Node → Bits) (len : (n : Node) → length (f n) ≡ 256) where
  take_row : (n : Node) (t : Bits) (k : ℕ) → take (256 + k) (f n ++ t) ≡ f n ++ take k t
  take_row n t k = ap (λ (z : ℕ). take (z + k) (f n ++ t)) (sym (len n)) ∙ take-append-add (f n) t k

  rows_ones : (ds : List Node) (m y : ℕ) → m < length ds → y ≤ 256
      → ones (take (256 * m + y) (concat (map f ds))) ≡ ones (concat (map f (take m ds))) + ones (take y (f (node_at ds m)))
  unfolding concat ones
  rows_ones [] m y h l = absurd (omega arith)
  rows_ones (n ∷ ds) zero y h l =
      let e : 256 * 0 + y ≡ y = omega arith in
      rw e (ap ones (take-append-le y (f n) (concat (map f ds)) (omega (arith, len n))) ∙ omega arith)
  rows_ones (n ∷ ds) (suc m) y h l =
      let e : 256 * suc m + y ≡ 256 + (256 * m + y) = omega arith in
      rw e (ap ones (take_row n (concat (map f ds)) (256 * m + y)) ∙ ones_append (f n) (take (256 * m + y) (concat (map f ds)))
      ∙ omega (arith, rows_ones ds m y (omega arith) l, ones_append (f n) (concat (map f (take m ds)))))

  rows_before : (ds : List Node) (m : ℕ) → m ≤ length ds → ones (take (256 * m) (concat (map f ds))) ≡ ones (concat (map f (take m ds)))
  unfolding concat ones
  rows_before ds zero h = refl
  rows_before [] (suc m) h = absurd (omega arith)
  rows_before (n ∷ ds) (suc m) h =
      let e : 256 * suc m ≡ 256 + 256 * m = omega arith in
      rw e (ap ones (take_row n (concat (map f ds)) (256 * m)) ∙ ones_append (f n) (take (256 * m) (concat (map f ds)))
      ∙ omega (arith, rows_before ds m (omega arith), ones_append (f n) (concat (map f (take m ds)))))

  rows_bit : (ds : List Node) (m y : ℕ) → m < length ds → y < 256 → get_or (concat (map f ds)) (256 * m + y) false ≡ get_or (f (node_at ds m)) y false
  unfolding concat
  rows_bit [] m y h l = absurd (omega arith)
  rows_bit (n ∷ ds) zero y h l =
      let e : 256 * 0 + y ≡ y = omega arith in
      rw e (get_or-append (f n) (concat (map f ds)) false y (omega (arith, len n)))
  rows_bit (n ∷ ds) (suc m) y h l =
      let e : 256 * suc m + y ≡ length (f n) + (256 * m + y) = omega (arith, len n) in
      rw e (get_or-append-add (f n) (concat (map f ds)) (256 * m + y) false ∙ rows_bit ds m y (omega arith) l)

-- ---- one node of many

abbrev NarrowNode : Node → Type 0
NarrowNode (node o es) = Narrow es

narrow_nodes : (ds : List Node) → All Labelled ds → All ByteLabels ds → All NarrowNode ds
narrow_nodes [] f s = tt
narrow_nodes (node o es ∷ ds) f s = (narrow o es f.0 s.0, narrow_nodes ds f.1 s.1)

narrow_at : (ds : List Node) (m : ℕ) → All NarrowNode ds → NarrowNode (node_at ds m)
narrow_at [] m a = tt
narrow_at (node o es ∷ ds) zero a = a.0
narrow_at (n ∷ ds) (suc m) a = narrow_at ds m a.1

all_below : (i : ℕ) (es : List Branch) → AscendsFrom i 256 (map label_of es) → labels_below 256 es ≡ length es
unfolding labels_below
all_below i [] c = refl
all_below i (e ∷ es) c = go (leb 256 (label_of e)) (lt-leb 256 (label_of e) c.1) (all_below (suc (label_of e)) es c.2)
  where
    go : (b : Bool) → b ≡ false → labels_below 256 es ≡ length es → elim b [ true ↦ 0 | false ↦ suc (labels_below 256 es) ] ≡ suc (length es)
    go true q h = let z : ◌≡◌ {A = ℕ} 0 1 = cc in absurd (omega arith)
    go false q h = ap suc h

-- the branches of nodes
unfoldable pub branch_total : List Node → ℕ
branch_total [] = 0
branch_total (n ∷ ns) = length (branches_of n) + branch_total ns

-- the exact leaves among nodes
unfoldable exact_total : List Node → ℕ
exact_total [] = 0
exact_total (n ∷ ns) = bit (is_exact n) + exact_total ns

node_labels : (n : Node) → NarrowNode n → ones (dense_labels n) ≡ length (branches_of n)
node_labels (node o es) c =
    ap ones (sym (take_all 256 (dense_labels (node o es)) (omega (arith, length_dense_labels (node o es)))))
    ∙ labels_counted o es c 256 (omega arith) ∙ all_below 0 es c

node_children : (n : Node) → NarrowNode n → ones (dense_has_child n) ≡ children_of n
node_children (node o es) c =
    ap ones (sym (take_all 256 (dense_has_child (node o es)) (omega (arith, length_dense_has_child (node o es)))))
    ∙ children_counted o es c 256 (omega arith) ∙ ap (λ (i : ℕ). children (take i es)) (all_below 0 es c) ∙ ap children (take_all (length es) es (omega arith))

labels_total : (ds : List Node) → All NarrowNode ds → ones (concat (map dense_labels ds)) ≡ branch_total ds
unfolding concat ones branch_total
labels_total [] a = refl
labels_total (n ∷ ds) a = ones_append (dense_labels n) (concat (map dense_labels ds)) ∙ omega (arith, node_labels n a.0, labels_total ds a.1)

children_total : (ds : List Node) → All NarrowNode ds → ones (concat (map dense_has_child ds)) ≡ total children_of ds
unfolding concat ones total
children_total [] a = refl
children_total (n ∷ ds) a = ones_append (dense_has_child n) (concat (map dense_has_child ds)) ∙ omega (arith, node_children n a.0, children_total ds a.1)

exacts_total : (ds : List Node) → ones (map is_exact ds) ≡ exact_total ds
unfolding ones exact_total
exacts_total [] = refl
exacts_total (n ∷ ds) = omega (arith, exacts_total ds)

-- the first i of mapped items
pub take_map : {A B : Type 0} (f : A → B) (i : ℕ) (xs : List A) → take i (map f xs) ≡ map f (take i xs)
take_map f zero xs = refl
take_map f (suc i) [] = refl
take_map f (suc i) (x ∷ xs) = ap (λ (z : List _). f x ∷ z) (take_map f i xs)

getD_exact : (ds : List Node) (m : ℕ) → m < length ds → get_or (map is_exact ds) m false ≡ is_exact (node_at ds m)
getD_exact [] m h = absurd (omega arith)
getD_exact (n ∷ ds) zero h = refl
getD_exact (n ∷ ds) (suc m) h = getD_exact ds m (omega arith)

narrow_take : (m : ℕ) (ds : List Node) → All NarrowNode ds → All NarrowNode (take m ds)
narrow_take zero ds a = tt
narrow_take (suc m) [] a = tt
narrow_take (suc m) (n ∷ ds) a = (a.0, narrow_take m ds a.1)

-- a branch continues or ends
pub branches_split : (es : List Branch) → length es ≡ open_leaves es + children es
unfolding open_leaves children
branches_split [] = refl
branches_split (to_leaf x s ∷ es) = omega (arith, branches_split es)
branches_split (to_node x ∷ es) = omega (arith, branches_split es)

total_split : (ns : List Node) → branch_total ns + exact_total ns ≡ leaf_count ns + total children_of ns
unfolding branch_total exact_total leaf_count total
total_split [] = refl
total_split (node o es ∷ ns) = omega (arith, total_split ns, branches_split es)

exact_le : (ns : List Node) → exact_total ns ≤ leaf_count ns
unfolding exact_total leaf_count
exact_le [] = omega arith
exact_le (n ∷ ns) = omega (arith, exact_le ns)

exact_step : (ds : List Node) (m : ℕ) → m < length ds → exact_total (take (m + 1) ds) ≡ exact_total (take m ds) + bit (is_exact (node_at ds m))
unfolding exact_total
exact_step [] m h = absurd (omega arith)
exact_step (n ∷ ds) zero h = omega arith
exact_step (n ∷ ds) (suc m) h = let e : suc m + 1 ≡ suc (m + 1) = omega arith in rw e (omega (arith, exact_step ds m (omega arith)))

-- of the first i branches, some continue and the others end
pub taken_split : (i : ℕ) (es : List Branch) → i ≤ length es → i ≡ open_leaves (take i es) + children (take i es)
unfolding open_leaves children
taken_split zero es h = refl
taken_split (suc i) [] h = absurd (omega arith)
taken_split (suc i) (to_leaf x s ∷ es) h = omega (arith, taken_split i es (omega arith))
taken_split (suc i) (to_node x ∷ es) h = omega (arith, taken_split i es (omega arith))

-- ---- the positions

module _ (ds ss : List Node) (dl dc dp : Bytes) (hl : Starts (pack (concat (map dense_labels ds))) dl) (hc : Starts (pack (concat (map dense_has_child ds))) dc) (hp : Starts (pack (map is_exact ds)) dp)
    (fit : All Labelled ds) (small : All ByteLabels ds) where
  all_narrow : All NarrowNode ds
  all_narrow = narrow_nodes ds fit small

  first_nodes : (m : ℕ) → m ≤ length ds → take m (ds ++ ss) ≡ take m ds
  first_nodes m h = take-append-le m ds ss h

  the_node : (m : ℕ) → m < length ds → node_at (ds ++ ss) m ≡ node_at ds m
  the_node m h = get_or-append ds ss (node none []) m h

  labels_before : (m : ℕ) → m ≤ length ds → rank dl (256 * m) ≡ branch_total (take m ds)
  labels_before m h =
      bits_rank (concat (map dense_labels ds)) dl hl (256 * m) (omega (arith, length_dl ds))
      ∙ rows_before dense_labels length_dense_labels ds m h ∙ labels_total (take m ds) (narrow_take m ds all_narrow)

  -- the continuing branches before a dense node
  pub dense_children_before : (m : ℕ) → m ≤ length ds → children_before (ds ++ ss) m ≡ rank dc (256 * m)
  unfolding children_before
  dense_children_before m h =
      ap (total children_of) (first_nodes m h)
      ∙ sym (bits_rank (concat (map dense_has_child ds)) dc hc (256 * m) (omega (arith, length_dc ds))
      ∙ rows_before dense_has_child length_dense_has_child ds m h ∙ children_total (take m ds) (narrow_take m ds all_narrow))

  exact_rank : (m : ℕ) → m ≤ length ds → rank dp m ≡ exact_total (take m ds)
  exact_rank m h = bits_rank (map is_exact ds) dp hp m (omega (arith, length-map ds is_exact)) ∙ ap ones (take_map is_exact m ds) ∙ exacts_total (take m ds)

  -- the leaves before a dense node
  pub dense_leaves_before : (m : ℕ) → m ≤ length ds
      → (leaves_before (ds ++ ss) m ≡ (rank dl (256 * m) - rank dc (256 * m)) + rank dp m) × (rank dc (256 * m) ≤ rank dl (256 * m))
  unfolding leaves_before children_before
  dense_leaves_before m h =
      let l = labels_before m h in
      let c = dense_children_before m h in
      let p = exact_rank m h in
      let t = total_split (take m ds) in
      let x = exact_le (take m ds) in
      let k = ap (total children_of) (first_nodes m h) in
      (ap leaf_count (first_nodes m h) ∙ omega arith, omega arith)

  -- whether a dense node is an exact leaf
  pub dense_exact : (m : ℕ) → m < length ds → bit_at dp m ≡ bit (is_exact (node_at (ds ++ ss) m))
  dense_exact m h = rw (the_node m h) (bits_at (map is_exact ds) dp hp m (omega (arith, length-map ds is_exact)) ∙ ap bit (getD_exact ds m h))

  module _ (m y : ℕ) (h : m < length ds) where
    -- the bit of the branch y
    pub dense_label : y < 256 → bit_at dl (256 * m + y) ≡ bit (matches y (drop (labels_below y (branches_of (node_at (ds ++ ss) m))) (branches_of (node_at (ds ++ ss) m))))
    dense_label l =
        rw (the_node m h) (bits_at (concat (map dense_labels ds)) dl hl (256 * m + y) (omega (arith, length_dl ds))
        ∙ ap bit (rows_bit dense_labels length_dense_labels ds m y h l ∙ go (node_at ds m) (narrow_at ds m all_narrow)))
      where
        go : (n : Node) → NarrowNode n → get_or (dense_labels n) y false ≡ matches y (drop (labels_below y (branches_of n)) (branches_of n))
        go (node o es) c = label_bit o es c y l

    -- and whether it continues
    pub dense_child : y < 256 → bit_at dc (256 * m + y) ≡ bit (goes_on y (drop (labels_below y (branches_of (node_at (ds ++ ss) m))) (branches_of (node_at (ds ++ ss) m))))
    dense_child l =
        rw (the_node m h) (bits_at (concat (map dense_has_child ds)) dc hc (256 * m + y) (omega (arith, length_dc ds))
        ∙ ap bit (rows_bit dense_has_child length_dense_has_child ds m y h l ∙ go (node_at ds m) (narrow_at ds m all_narrow)))
      where
        go : (n : Node) → NarrowNode n → get_or (dense_has_child n) y false ≡ goes_on y (drop (labels_below y (branches_of n)) (branches_of n))
        go (node o es) c = child_bit o es c y l

    -- the labels before the bit of y: those of the nodes before, and the lower ones of its own
    pub label_rank : y ≤ 256 → rank dl (256 * m + y) ≡ branch_total (take m ds) + labels_below y (branches_of (node_at ds m))
    label_rank l =
        bits_rank (concat (map dense_labels ds)) dl hl (256 * m + y) (omega (arith, length_dl ds))
        ∙ rows_ones dense_labels length_dense_labels ds m y h l ∙ ap₂ ◌+◌ (labels_total (take m ds) (narrow_take m ds all_narrow)) (go (node_at ds m) (narrow_at ds m all_narrow))
      where
        go : (n : Node) → NarrowNode n → ones (take y (dense_labels n)) ≡ labels_below y (branches_of n)
        go (node o es) c = labels_counted o es c y l

    child_rank : y ≤ 256 → rank dc (256 * m + y) ≡ total children_of (take m ds) + children (take (labels_below y (branches_of (node_at ds m))) (branches_of (node_at ds m)))
    child_rank l =
        bits_rank (concat (map dense_has_child ds)) dc hc (256 * m + y) (omega (arith, length_dc ds))
        ∙ rows_ones dense_has_child length_dense_has_child ds m y h l ∙ ap₂ ◌+◌ (children_total (take m ds) (narrow_take m ds all_narrow)) (go (node_at ds m) (narrow_at ds m all_narrow))
      where
        go : (n : Node) → NarrowNode n → ones (take y (dense_has_child n)) ≡ children (take (labels_below y (branches_of n)) (branches_of n))
        go (node o es) c = children_counted o es c y l

    -- The child of the branch y of a dense node: one more than the ones before its bit.
    pub dense_child_number : y ≤ 256 → child_number (ds ++ ss) m (labels_below y (branches_of (node_at (ds ++ ss) m))) ≡ 1 + rank dc (256 * m + y)
    unfolding child_number children_before
    dense_child_number l = rw (the_node m h, first_nodes m (omega arith)) (omega (arith, child_rank l))

    -- The slot of the branch y: the leaves on branches before its bit, and the exact leaves up to its node.
    pub dense_slot_number : y ≤ 256
        → (slot_number (ds ++ ss) m (labels_below y (branches_of (node_at (ds ++ ss) m))) ≡ (rank dl (256 * m + y) - rank dc (256 * m + y)) + rank dp (m + 1)) × (rank dc (256 * m + y) ≤ rank dl (256 * m + y))
    unfolding slot_number leaves_before
    dense_slot_number l =
        let es : List Branch = branches_of (node_at ds m) in
        let i : ℕ = labels_below y (branches_of (node_at ds m)) in
        let a = label_rank l in
        let b = child_rank l in
        let p = exact_rank (m + 1) (omega arith) ∙ exact_step ds m h in
        let t = total_split (take m ds) in
        let u = taken_split (labels_below y (branches_of (node_at ds m))) (branches_of (node_at ds m)) (labels_below_le y (branches_of (node_at ds m))) in
        let x = exact_le (take m ds) in
        (rw (the_node m h, first_nodes m (omega arith)) (omega arith), omega arith)
