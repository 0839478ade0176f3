-- Positions in the entries of sparse nodes: where a node starts, its labels in order, and the children and leaves before an entry.
use Prim.Native.Nat.{ℕ, zero, suc, ◌+◌, ◌-◌, ◌<◌, ◌≤◌}
use Rattle.std.specs.Prelude.{◌≡◌, Bool, ◌&&◌, take, drop, replicate, leb, ltb, eqb}
use Rattle.std.proofs.Math.Path.{refl, ap}
use Rattle.std.proofs.Common.{sym, ap₂, ◌∙◌, true≢false, take_all, get_or-append-add, eq-eqb, ne_eqb, eqb-true, le-leb, ltb-true, ltb-false}
use Rattle.std.proofs.Math.Bool.{true, false}
use mathlib.Core.List.{List, [], ◌∷◌, ◌++◌, map}
use Rattle.std.proofs.Math.Option.{none, some}
use native.Mathlib.Omega.{arith}
use Rattle.std.proofs.Math.ListN.{length, get_or, length-append, get_or-append}
use Rattle.std.proofs.lemmas.List.{length-map, length-replicate, take-append-le}
use Rattle.std.proofs.Math.Seq.{take-append-add, length-take-le}
use Rattle.std.proofs.lemmas.Bool.{lt-leb}
use Rattle.spec.specs.Bytes.{Bytes, Bits, bit, concat, ones, pack}
use Rattle.spec.specs.Nodes.{Branch, to_node, to_leaf, Node, node, label_of, has_child, branches_of, is_exact, children, children_of, total}
use Rattle.spec.specs.Trie.{leaf_count}
use Rattle.bits.specs.Bits.{bit_at, rank, select}
use Rattle.bits_select.specs.SelectLaws.{select_all, select_here}
use Rattle.nav_nodes.specs.Counting.{labels_below}
use Rattle.nav_nodes.specs.Slots.{node_at, leaves_before, slot_number}
use Rattle.nav_nodes.specs.Descent.{children_before, child_number, goes_on, kids_append}
use Rattle.nav_nodes.specs.Stored.{Starts, bits_at, bits_rank}
use Rattle.nav_nodes.specs.LabelMaps.{matches}
use Rattle.nav_nodes.specs.DensePositions.{ones_append, branches_split, taken_split, take_map}
use Rattle.theory.specs.Terms.{All}
use Rattle.theory.proofs.NodeBits.{sparse_labels, sparse_has_child, louds, ByteLabels}
use Rattle.theory.proofs.LinkedLevels.{Labelled, BelowLabel, Ascends}
use Rattle.theory.proofs.Levels.{leaf_count_append}

-- the entries of a node: its branches, and the extra FF of an exact leaf
abbrev node_size : Node → ℕ
node_size (node o es) = bit (is_exact (node o es)) + length es

-- the entries of nodes
unfoldable entry_total : List Node → ℕ
entry_total [] = 0
entry_total (n ∷ ns) = node_size n + entry_total ns

entry_split : (ns : List Node) → entry_total ns ≡ leaf_count ns + total children_of ns
unfolding entry_total leaf_count total
entry_split [] = refl
entry_split (node o es ∷ ns) = omega (arith, entry_split ns, branches_split es)

-- ---- a list with as many items as the nodes have entries

module _ {A : Type 0} (f : Node → List A) where
  -- as many items as entries
  abbrev Sized : List Node → Type 0
  Sized [] = Unit
  Sized (n ∷ ns) = (length (f n) ≡ node_size n) × Sized ns

  items_at : (ss : List Node) (j i : ℕ) (d : A) → Sized ss → j < length ss → i < node_size (node_at ss j) → get_or (concat (map f ss)) (entry_total (take j ss) + i) d ≡ get_or (f (node_at ss j)) i d
  unfolding concat entry_total
  items_at [] j i d s h l = absurd (omega arith)
  items_at (n ∷ ss) zero i d s h l = let e : 0 + i ≡ i = omega arith in rw e (get_or-append (f n) (concat (map f ss)) d i (omega (arith, s.0)))
  items_at (n ∷ ss) (suc j) i d s h l =
      let e : node_size n + entry_total (take j ss) + i ≡ length (f n) + (entry_total (take j ss) + i) = omega (arith, s.0) in
      rw e (get_or-append-add (f n) (concat (map f ss)) (entry_total (take j ss) + i) d ∙ items_at ss j i d s.1 (omega arith) l)

  items_length : (ss : List Node) → Sized ss → length (concat (map f ss)) ≡ entry_total ss
  unfolding concat entry_total
  items_length [] s = refl
  items_length (n ∷ ss) s = omega (arith, length-append (f n) (concat (map f ss)), s.0, items_length ss s.1)

module _ (f : Node → Bits) where
  items_ones : (ss : List Node) (j i : ℕ) → Sized f ss → j < length ss → i ≤ node_size (node_at ss j)
      → ones (take (entry_total (take j ss) + i) (concat (map f ss))) ≡ ones (concat (map f (take j ss))) + ones (take i (f (node_at ss j)))
  unfolding concat entry_total ones
  items_ones [] j i s h l = absurd (omega arith)
  items_ones (n ∷ ss) zero i s h l =
      let e : 0 + i ≡ i = omega arith in
      rw e (ap ones (take-append-le i (f n) (concat (map f ss)) (omega (arith, s.0))) ∙ omega arith)
  items_ones (n ∷ ss) (suc j) i s h l =
      let e : node_size n + entry_total (take j ss) + i ≡ length (f n) + (entry_total (take j ss) + i) = omega (arith, s.0) in
      rw e (ap ones (take-append-add (f n) (concat (map f ss)) (entry_total (take j ss) + i)) ∙ ones_append (f n) (take (entry_total (take j ss) + i) (concat (map f ss)))
      ∙ omega (arith, items_ones ss j i s.1 (omega arith) l, ones_append (f n) (concat (map f (take j ss)))))

  items_before : (ss : List Node) (j : ℕ) → Sized f ss → ones (take (entry_total (take j ss)) (concat (map f ss))) ≡ ones (concat (map f (take j ss)))
  unfolding concat entry_total ones
  items_before ss zero s = refl
  items_before [] (suc j) s = refl
  items_before (n ∷ ss) (suc j) s =
      let e : node_size n + entry_total (take j ss) ≡ length (f n) + entry_total (take j ss) = omega (arith, s.0) in
      rw e (ap ones (take-append-add (f n) (concat (map f ss)) (entry_total (take j ss))) ∙ ones_append (f n) (take (entry_total (take j ss)) (concat (map f ss)))
      ∙ omega (arith, items_before ss j s.1, ones_append (f n) (concat (map f (take j ss)))))

-- ---- the three lists of sparse nodes

labels_sized : (ss : List Node) → Sized sparse_labels ss
unfolding sparse_labels
labels_sized [] = tt
labels_sized (node none es ∷ ss) = (length-map es label_of ∙ omega arith, labels_sized ss)
labels_sized (node (some s) es ∷ ss) = (omega (arith, length-map es label_of), labels_sized ss)

children_sized : (ss : List Node) → Sized sparse_has_child ss
unfolding sparse_has_child
children_sized [] = tt
children_sized (node none es ∷ ss) = (length-map es has_child ∙ omega arith, children_sized ss)
children_sized (node (some s) es ∷ ss) = (omega (arith, length-map es has_child), children_sized ss)

starts_sized : (ss : List Node) → All Labelled ss → Sized louds ss
unfolding louds sparse_labels
starts_sized [] a = tt
starts_sized (node o [] ∷ ss) a = absurd a.0
starts_sized (node none (e ∷ es) ∷ ss) a = (omega (arith, length-map es label_of, length-replicate (suc (length (map label_of es)) - 1) false), starts_sized ss a.1)
starts_sized (node (some s) (e ∷ es) ∷ ss) a = (omega (arith, length-map es label_of, length-replicate (suc (suc (length (map label_of es))) - 1) false), starts_sized ss a.1)

ones_none : (k : ℕ) → ones (replicate k false) ≡ 0
unfolding ones
ones_none zero = refl
ones_none (suc k) = omega (arith, ones_none k)

starts_total : (ss : List Node) → ones (concat (map louds ss)) ≡ length ss
unfolding concat ones louds
starts_total [] = refl
starts_total (n ∷ ss) = omega (arith, ones_append (replicate (length (sparse_labels n) - 1) false) (concat (map louds ss)), ones_none (length (sparse_labels n) - 1), starts_total ss)

continuing : (es : List Branch) → ones (map has_child es) ≡ children es
unfolding ones children
continuing [] = refl
continuing (to_node x ∷ es) = omega (arith, continuing es)
continuing (to_leaf x s ∷ es) = omega (arith, continuing es)

-- the continuing entries before entry i of a node's branches
node_children : (n : Node) (i : ℕ) → ones (take (bit (is_exact n) + i) (sparse_has_child n)) ≡ children (take i (branches_of n))
unfolding sparse_has_child ones
node_children (node none es) i = let e : 0 + i ≡ i = omega arith in rw (e, take_map has_child i es) (continuing (take i es))
node_children (node (some s) es) i = let e : 1 + i ≡ suc i = omega arith in rw (e, take_map has_child i es) (skip (map has_child (take i es)) ∙ continuing (take i es))
  where
    skip : (bs : Bits) → ones (false ∷ bs) ≡ ones bs
    skip bs = omega arith

children_total : (ss : List Node) → ones (concat (map sparse_has_child ss)) ≡ total children_of ss
unfolding concat ones total
children_total [] = refl
children_total (n ∷ ss) = ones_append (sparse_has_child n) (concat (map sparse_has_child ss)) ∙ omega (arith, whole n, children_total ss)
  where
    whole : (n : Node) → ones (sparse_has_child n) ≡ children_of n
    whole (node o es) =
        let c = (children_sized (node o es ∷ [])).0 in
        ap ones (sym (take_all (bit (is_exact (node o es)) + length es) (sparse_has_child (node o es)) (omega arith))) ∙ node_children (node o es) (length es) ∙ ap children (take_all (length es) es (omega arith))

-- a node among nodes that fit
pub fit_node : (ss : List Node) (j : ℕ) → All Labelled ss → j < length ss → Labelled (node_at ss j)
fit_node [] j a h = absurd (omega arith)
fit_node (n ∷ ss) zero a h = a.0
fit_node (n ∷ ss) (suc j) a h = fit_node ss j a.1 (omega arith)

-- and of bytes
pub small_node : (ss : List Node) (j : ℕ) → All ByteLabels ss → j < length ss → ByteLabels (node_at ss j)
small_node [] j a h = absurd (omega arith)
small_node (n ∷ ss) zero a h = a.0
small_node (n ∷ ss) (suc j) a h = small_node ss j a.1 (omega arith)

entry_step : (ss : List Node) (j : ℕ) → j < length ss → entry_total (take (j + 1) ss) ≡ entry_total (take j ss) + node_size (node_at ss j)
unfolding entry_total
entry_step [] j h = absurd (omega arith)
entry_step (n ∷ ss) zero h = omega arith
entry_step (n ∷ ss) (suc j) h = let e : suc j + 1 ≡ suc (j + 1) = omega arith in rw e (omega (arith, entry_step ss j (omega arith)))

entry_le : (ss : List Node) (j : ℕ) → entry_total (take j ss) ≤ entry_total ss
unfolding entry_total
entry_le ss zero = omega arith
entry_le [] (suc j) = omega arith
entry_le (n ∷ ss) (suc j) = omega (arith, entry_le ss j)

size_pos : (n : Node) → Labelled n → 0 < node_size n
size_pos (node o []) f = absurd f
size_pos (node o (e ∷ es)) f = omega arith

-- ---- labels in order

under_all : (x : ℕ) (es : List Branch) (i : ℕ) → BelowLabel x es → Ascends es → i < length es → x < get_or (map label_of es) i 0
under_all x [] i u r h = absurd (omega arith)
under_all x (e ∷ es) zero u r h = u
under_all x (e ∷ es) (suc i) u r h = omega (arith, under_all (label_of e) es i r.0 r.1 (omega arith))

-- A label below y stands before the index of y.
pub label_low : (y : ℕ) (es : List Branch) (i : ℕ) → Ascends es → i < length es → get_or (map label_of es) i 0 < y → i < labels_below y es
unfolding labels_below
label_low y [] i r h l = absurd (omega arith)
label_low y (e ∷ es) zero r h l = go (leb y (label_of e)) (lt-leb y (label_of e) l)
  where
    go : (b : Bool) → b ≡ false → 0 < elim b [ true ↦ 0 | false ↦ suc (labels_below y es) ]
    go true q = absurd (true≢false q)
    go false q = omega arith
label_low y (e ∷ es) (suc i) r h l =
    go (leb y (label_of e)) (lt-leb y (label_of e) (omega (arith, under_all (label_of e) es i r.0 r.1 (omega arith)))) (label_low y es i r.1 (omega arith) l)
  where
    go : (b : Bool) → b ≡ false → i < labels_below y es → suc i < elim b [ true ↦ 0 | false ↦ suc (labels_below y es) ]
    go true q k = absurd (true≢false q)
    go false q k = omega arith

-- A label that is not below y stands at or behind the index of y.
pub label_high : (y : ℕ) (es : List Branch) (i : ℕ) → i < length es → y ≤ get_or (map label_of es) i 0 → labels_below y es ≤ i
unfolding labels_below
label_high y [] i h l = absurd (omega arith)
label_high y (e ∷ es) zero h l = go (leb y (label_of e)) (le-leb y (label_of e) l)
  where
    go : (b : Bool) → b ≡ true → elim b [ true ↦ 0 | false ↦ suc (labels_below y es) ] ≤ 0
    go true q = omega arith
    go false q = absurd (true≢false (sym q))
label_high y (e ∷ es) (suc i) h l = go (leb y (label_of e)) (label_high y es i (omega arith) l)
  where
    go : (b : Bool) → labels_below y es ≤ i → elim b [ true ↦ 0 | false ↦ suc (labels_below y es) ] ≤ suc i
    go true k = omega arith
    go false k = omega arith

-- the branch at index i has the label y
pub matches_at : (y : ℕ) (es : List Branch) (i : ℕ) → i < length es → matches y (drop i es) ≡ eqb y (get_or (map label_of es) i 0)
unfolding matches
matches_at y [] i h = absurd (omega arith)
matches_at y (e ∷ es) zero h = refl
matches_at y (e ∷ es) (suc i) h = matches_at y es i (omega arith)

-- no branch stands behind the last
pub matches_end : (y : ℕ) (es : List Branch) (i : ℕ) → length es ≤ i → matches y (drop i es) ≡ false
unfolding matches
matches_end y [] zero h = refl
matches_end y [] (suc i) h = refl
matches_end y (e ∷ es) zero h = absurd (omega arith)
matches_end y (e ∷ es) (suc i) h = matches_end y es i (omega arith)

-- the branch at index i has the label y and continues
pub goes_at : (y : ℕ) (es : List Branch) (i : ℕ) → matches y (drop i es) ≡ true → goes_on y (drop i es) ≡ get_or (map has_child es) i false
unfolding matches goes_on
goes_at y [] zero h = absurd (true≢false (sym h))
goes_at y [] (suc i) h = absurd (true≢false (sym h))
goes_at y (to_node x ∷ es) zero h = eq-eqb x y (sym (eqb-true y x h))
goes_at y (to_leaf x s ∷ es) zero h = refl
goes_at y (e ∷ es) (suc i) h = goes_at y es i h

-- ---- the positions

module _ (ds ss : List Node) (sl sc sb : Bytes) (tl : Bytes) (hl : sl ≡ concat (map sparse_labels ss) ++ tl) (hc : Starts (pack (concat (map sparse_has_child ss))) sc) (hb : Starts (pack (concat (map louds ss))) sb)
    (fit : All Labelled ss) (small : All ByteLabels ss) where
  entries_is : length (concat (map sparse_labels ss)) ≡ entry_total ss
  entries_is = items_length sparse_labels ss (labels_sized ss)

  start_rank : (j : ℕ) → j ≤ length ss → rank sb (entry_total (take j ss)) ≡ j
  start_rank j h =
      bits_rank (concat (map louds ss)) sb hb (entry_total (take j ss)) (omega (arith, entry_le ss j, items_length louds ss (starts_sized ss fit)))
      ∙ items_before louds ss j (starts_sized ss fit) ∙ starts_total (take j ss) ∙ length-take-le j ss h

  start_next : (j : ℕ) → j < length ss → rank sb (entry_total (take j ss) + 1) ≡ j + 1
  unfolding ones louds
  start_next j h =
      let p = size_pos (node_at ss j) (fit_node ss j fit h) in
      let e = entry_step ss j h in
      bits_rank (concat (map louds ss)) sb hb (entry_total (take j ss) + 1) (omega (arith, entry_le ss (j + 1), items_length louds ss (starts_sized ss fit)))
      ∙ items_ones louds ss j 1 (starts_sized ss fit) h (omega arith) ∙ ap (λ (z : ℕ). z + 1) (starts_total (take j ss) ∙ length-take-le j ss (omega arith))

  -- Sparse node j starts at the one number j, from 0; behind the last, at the end.
  sparse_start : (j : ℕ) → j ≤ length ss → select sb (length (concat (map sparse_labels ss))) j ≡ entry_total (take j ss)
  sparse_start j h = rw entries_is (go (ltb j (length ss)) refl)
    where
      go : (b : Bool) → ltb j (length ss) ≡ b → select sb (entry_total ss) j ≡ entry_total (take j ss)
      go true q =
          let l = ltb-true j (length ss) q in
          select_here sb (entry_total ss) j (entry_total (take j ss)) (entry_le ss j) (omega (arith, start_rank j h)) (omega (arith, start_next j l))
      go false q =
          let e : take j ss ≡ ss = take_all j ss (omega (arith, ltb-false j (length ss) q)) in
          select_all sb (entry_total ss) j (omega (arith, rw e at (start_rank j h))) ∙ ap entry_total (sym e)

  children_rank : (j : ℕ) → rank sc (entry_total (take j ss)) ≡ total children_of (take j ss)
  children_rank j =
      bits_rank (concat (map sparse_has_child ss)) sc hc (entry_total (take j ss)) (omega (arith, entry_le ss j, items_length sparse_has_child ss (children_sized ss)))
      ∙ items_before sparse_has_child ss j (children_sized ss) ∙ children_total (take j ss)

  upto : (j : ℕ) → take (length ds + j) (ds ++ ss) ≡ ds ++ take j ss
  upto j = take-append-add ds ss j

  the_node : (j : ℕ) → node_at (ds ++ ss) (length ds + j) ≡ node_at ss j
  the_node j = get_or-append-add ds ss j (node none [])

  -- the continuing branches before a sparse node
  pub sparse_children_before : (j : ℕ) → j ≤ length ss → children_before (ds ++ ss) (length ds + j) ≡ total children_of ds + rank sc (select sb (length (concat (map sparse_labels ss))) j)
  unfolding children_before
  sparse_children_before j h = ap (total children_of) (upto j) ∙ kids_append ds (take j ss) ∙ ap (λ (z : ℕ). (total children_of) ds + z) (sym (ap (rank sc) (sparse_start j h) ∙ children_rank j))

  -- the leaves before a sparse node
  pub sparse_leaves_before : (j : ℕ) → j ≤ length ss
      → leaves_before (ds ++ ss) (length ds + j) ≡ leaf_count ds + (select sb (length (concat (map sparse_labels ss))) j - rank sc (select sb (length (concat (map sparse_labels ss))) j))
  unfolding leaves_before
  sparse_leaves_before j h =
      let k = ap (rank sc) (sparse_start j h) ∙ children_rank j in
      ap leaf_count (upto j) ∙ leaf_count_append ds (take j ss) ∙ omega (arith, sparse_start j h, k, entry_split (take j ss))

  module _ (j : ℕ) (h : j < length ss) where
    -- The node ends where the next starts, as many entries on as it has.
    pub sparse_end : select sb (length (concat (map sparse_labels ss))) (j + 1) ≡ select sb (length (concat (map sparse_labels ss))) j + bit (is_exact (node_at ss j)) + length (branches_of (node_at ss j))
    sparse_end = omega (arith, sparse_start j (omega arith), sparse_start (j + 1) (omega arith), entry_step ss j h, sized (node_at ss j))
      where
        sized : (n : Node) → node_size n ≡ bit (is_exact n) + length (branches_of n)
        sized (node o es) = refl

    sized_at : (n : Node) (i : ℕ) → i < length (branches_of n) → bit (is_exact n) + i < node_size n
    sized_at (node o es) i l = omega arith

    sized_to : (n : Node) (i : ℕ) → i ≤ length (branches_of n) → bit (is_exact n) + i ≤ node_size n
    sized_to (node o es) i l = omega arith

    apart : (i : ℕ) → select sb (length (concat (map sparse_labels ss))) j + bit (is_exact (node_at ss j)) + i ≡ entry_total (take j ss) + (bit (is_exact (node_at ss j)) + i)
    apart i = omega (arith, sparse_start j (omega arith))

    within : (i : ℕ) → i ≤ length (branches_of (node_at ss j)) → entry_total (take j ss) + (bit (is_exact (node_at ss j)) + i) ≤ entry_total ss
    within i l = omega (arith, entry_le ss (j + 1), entry_step ss j h, sized_to (node_at ss j) i l)

    -- the label of branch i
    pub sparse_label : (i : ℕ) → i < length (branches_of (node_at ss j))
        → get_or sl (select sb (length (concat (map sparse_labels ss))) j + bit (is_exact (node_at ss j)) + i) 0 ≡ get_or (map label_of (branches_of (node_at ss j))) i 0
    unfolding sparse_labels
    sparse_label i l =
        rw (apart i, hl)
        (get_or-append (concat (map sparse_labels ss)) tl 0 (entry_total (take j ss) + (bit (is_exact (node_at ss j)) + i))
        (omega (arith, entries_is, entry_le ss (j + 1), entry_step ss j h, sized_at (node_at ss j) i l))
        ∙ items_at sparse_labels ss j (bit (is_exact (node_at ss j)) + i) 0 (labels_sized ss) h (sized_at (node_at ss j) i l) ∙ go (node_at ss j))
      where
        go : (n : Node) → get_or (sparse_labels n) (bit (is_exact n) + i) 0 ≡ get_or (map label_of (branches_of n)) i 0
        go (node none es) = let e : 0 + i ≡ i = omega arith in rw e
        go (node (some s) es) = let e : 1 + i ≡ suc i = omega arith in rw e

    -- whether it continues
    pub sparse_child : (i : ℕ) → i < length (branches_of (node_at ss j))
        → bit_at sc (select sb (length (concat (map sparse_labels ss))) j + bit (is_exact (node_at ss j)) + i) ≡ bit (get_or (map has_child (branches_of (node_at ss j))) i false)
    unfolding sparse_has_child
    sparse_child i l =
        rw (apart i)
        (bits_at (concat (map sparse_has_child ss)) sc hc (entry_total (take j ss) + (bit (is_exact (node_at ss j)) + i))
        (omega (arith, items_length sparse_has_child ss (children_sized ss), entry_le ss (j + 1), entry_step ss j h, sized_at (node_at ss j) i l))
        ∙ ap bit (items_at sparse_has_child ss j (bit (is_exact (node_at ss j)) + i) false (children_sized ss) h (sized_at (node_at ss j) i l) ∙ go (node_at ss j)))
      where
        go : (n : Node) → get_or (sparse_has_child n) (bit (is_exact n) + i) false ≡ get_or (map has_child (branches_of n)) i false
        go (node none es) = let e : 0 + i ≡ i = omega arith in rw e
        go (node (some s) es) = let e : 1 + i ≡ suc i = omega arith in rw e

    entry_rank : (i : ℕ) → i ≤ length (branches_of (node_at ss j))
        → rank sc (select sb (length (concat (map sparse_labels ss))) j + bit (is_exact (node_at ss j)) + i) ≡ total children_of (take j ss) + children (take i (branches_of (node_at ss j)))
    entry_rank i l =
        rw (apart i)
        (bits_rank (concat (map sparse_has_child ss)) sc hc (entry_total (take j ss) + (bit (is_exact (node_at ss j)) + i)) (omega (arith, within i l, items_length sparse_has_child ss (children_sized ss)))
        ∙ items_ones sparse_has_child ss j (bit (is_exact (node_at ss j)) + i) (children_sized ss) h (sized_to (node_at ss j) i l)
        ∙ ap₂ ◌+◌ (children_total (take j ss)) (node_children (node_at ss j) i))

    -- The child of a sparse branch: one more than the dense children and the ones before its entry.
    pub sparse_child_number : (i : ℕ) → i ≤ length (branches_of (node_at ss j))
        → child_number (ds ++ ss) (length ds + j) i ≡ 1 + (total children_of ds + rank sc (select sb (length (concat (map sparse_labels ss))) j + bit (is_exact (node_at ss j)) + i))
    unfolding child_number children_before
    sparse_child_number i l = rw (the_node j, upto j, kids_append ds (take j ss)) (omega (arith, entry_rank i l))

    -- Its slot: the dense leaves, and the entries before it that do not continue.
    pub sparse_slot_number : (i : ℕ) → i ≤ length (branches_of (node_at ss j))
        → slot_number (ds ++ ss) (length ds + j) i
        ≡ leaf_count ds + (select sb (length (concat (map sparse_labels ss))) j + bit (is_exact (node_at ss j)) + i - rank sc (select sb (length (concat (map sparse_labels ss))) j + bit (is_exact (node_at ss j)) + i))
    unfolding slot_number leaves_before
    sparse_slot_number i l =
        rw (the_node j, upto j, leaf_count_append ds (take j ss))
        (omega (arith, entry_rank i l, sparse_start j (omega arith), entry_split (take j ss), taken_split i (branches_of (node_at ss j)) l))

    -- The node is an exact leaf exactly if it starts with an FF that is not alone.
    pub sparse_exact : is_exact (node_at ss j)
        ≡ leb (select sb (length (concat (map sparse_labels ss))) j + 2) (select sb (length (concat (map sparse_labels ss))) (j + 1)) && eqb (get_or sl (select sb (length (concat (map sparse_labels ss))) j) 0) 255
    unfolding sparse_labels
    sparse_exact =
        rw (sparse_end, hl)
        (go (node_at ss j) (fit_node ss j fit h) (small_node ss j small h) (get_or (concat (map sparse_labels ss) ++ tl) (select sb (length (concat (map sparse_labels ss))) j) 0)
        (
        ap (λ (z : ℕ). get_or (concat (map sparse_labels ss) ++ tl) z 0) (omega (arith, sparse_start j (omega arith)))
        ∙ get_or-append (concat (map sparse_labels ss)) tl 0 (entry_total (take j ss) + 0) (omega (arith, entries_is, entry_le ss (j + 1), entry_step ss j h, size_pos (node_at ss j) (fit_node ss j fit h)))
        ∙ items_at sparse_labels ss j 0 0 (labels_sized ss) h (size_pos (node_at ss j) (fit_node ss j fit h))
        ))
      where
        and_no : (b : Bool) → false ≡ b && false
        and_no true = refl
        and_no false = refl

        go : (n : Node) → Labelled n → ByteLabels n → (x : ℕ) → x ≡ get_or (sparse_labels n) 0 0
            → is_exact n ≡ leb (select sb (length (concat (map sparse_labels ss))) j + 2) (select sb (length (concat (map sparse_labels ss))) j + bit (is_exact n) + length (branches_of n)) && eqb x 255
        go (node o []) f s x e = absurd f
        go (node (some t) (b ∷ es)) f s x e = rw (e, le-leb (select sb (length (concat (map sparse_labels ss))) j + 2) (select sb (length (concat (map sparse_labels ss))) j + 1 + suc (length es)) (omega arith))
        go (node none (b ∷ [])) f s x e = rw (lt-leb (select sb (length (concat (map sparse_labels ss))) j + 2) (select sb (length (concat (map sparse_labels ss))) j + 0 + 1) (omega arith))
        go (node none (b ∷ c ∷ es)) f s x e =
            rw (ne_eqb x 255 (λ q. omega (arith, f.0, s.1.0))) (and_no (leb (select sb (length (concat (map sparse_labels ss))) j + 2) (select sb (length (concat (map sparse_labels ss))) j + 0 + suc (suc (length es)))))
