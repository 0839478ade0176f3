-- The dense bodies of nodes, rows of 256 bits or of one, by the positions that the nodes' entries set in them. Used by the laws of the bodies.
use Prim.Native.Nat.{ℕ, zero, suc, ◌+◌, ◌-◌, ◌*◌, ◌<◌, ◌≤◌}
use Rattle.std.specs.Prelude.{◌≡◌, refl, Bool, true, false, cond, not, get_or, ltb, eqb}
use Rattle.std.proofs.Math.Path.{sym, ap, ap₂}
use Rattle.std.proofs.Common.{◌∙◌, arith, mul-suc, ltb-true, ltb-false, eqb-true, eq-eqb, ne_eqb}
use Rattle.std.proofs.Math.Bool.{◌||◌}
use mathlib.Core.List.{List, [], ◌∷◌, ◌++◌, map, map-append}
use Rattle.std.proofs.Math.Option.{none, some}
use Rattle.std.proofs.Math.ListN.{length, get_or-eq_default}
use Rattle.std.proofs.lemmas.List.{length-map}
use Rattle.std.proofs.lemmas.Bool.{eqb-false}
use Rattle.spec.specs.Bytes.{Bits, filter, concat, iota, bit}
use Rattle.spec.specs.Nodes.{Branch, to_node, to_leaf, Node, node, label_of, has_child, branches_of, is_exact}
use Rattle.spec.specs.Image.{has, positions}
use Rattle.build_laws.specs.LevelEntries.{tagged, tag_first, node_entries}
use Rattle.build_laws.specs.TrieEntries.{Slotted, to_slotted, slotted_of}
use Rattle.build_laws.specs.Cursors.{sum_of}
use Rattle.build_laws.specs.SetBits.{has_append, has_nil, has_cons, positions_append, positions_at, positions_before}
use Rattle.build_laws.specs.BitPass.{cursor_ones, cursor_append}
use Rattle.build_laws.specs.NodeBodies.{node_part, slotted_cons, slotted_none, AnyNode, all_any}
use Rattle.theory.specs.Terms.{All, IsBytes}
use Rattle.theory.proofs.LinkedLevels.{Labelled}
use Rattle.theory.proofs.Lists.{length_iota}
use Rattle.theory.proofs.NodeBits.{ByteLabels, dense_labels, dense_has_child}
use Rattle.theory.proofs.DenseBits.{length_dense_labels, length_dense_has_child}
use Rattle.build_laws.specs.declared.Cell.{Cell}
use Rattle.build_laws.specs.DenseRows.{cell, cell_step, cell_ones, label_cell, child_cell, exact_cell, on_entry}

-- the positions set in row c
row_ones : ℕ → ℕ → List Cell → List ℕ
row_ones w c [] = []
row_ones w c (x ∷ xs) = cond x.set ((w * c + x.column) ∷ []) [] ++ row_ones w c xs

-- cells of which none starts a node
abbrev Inner : List Cell → Type 0
Inner [] = Unit
Inner (x ∷ xs) = (x.start ≡ false) × Inner xs

inner_ones : (w c : ℕ) (xs : List Cell) → Inner xs → (cursor_ones cell_step (cell_ones w) (suc c) xs ≡ row_ones w c xs) × (sum_of cell_step xs ≡ 0)
unfolding cursor_ones row_ones sum_of
inner_ones w c [] i = (refl, refl)
inner_ones w c (x ∷ xs) i =
    let ih = inner_ones w c xs i.1 in
    let u : suc c + bit x.start - 1 ≡ c = omega (arith, ap bit i.0) in
    let v : suc c + bit x.start ≡ suc c = omega (arith, ap bit i.0) in
    (ap₂ (λ (k l : ℕ). cond x.set ((w * k + x.column) ∷ []) [] ++ cursor_ones cell_step (cell_ones w) l xs) u v ∙ ap (λ (z : List ℕ). cond x.set ((w * c + x.column) ∷ []) [] ++ z) ih.0, omega (arith, ap bit i.0, ih.1))

first_ones : (w c : ℕ) (s : Bool) (x : ℕ) (xs : List Cell) → Inner xs
    → (cursor_ones cell_step (cell_ones w) c (cell true s x ∷ xs) ≡ row_ones w c (cell true s x ∷ xs)) × (sum_of cell_step (cell true s x ∷ xs) ≡ 1)
unfolding cursor_ones row_ones sum_of
first_ones w c s x xs i =
    let ih = inner_ones w c xs i in
    let u : c + 1 - 1 ≡ c = omega arith in
    let v : c + 1 ≡ suc c = omega arith in
    (ap₂ (λ (k l : ℕ). cond s ((w * k + x) ∷ []) [] ++ cursor_ones cell_step (cell_ones w) l xs) u v ∙ ap (λ (z : List ℕ). cond s ((w * c + x) ∷ []) [] ++ z) ih.0, omega (arith, ih.1))

-- a row's cells keep the entries' starts
abbrev KeepsStart : (Slotted → Cell) → Type 0
KeepsStart f = (i : Slotted) → (s : Bool) × (x : ℕ) × (f i ≡ cell i.entry.start s x)

tags_inner : (f : Slotted → Cell) → KeepsStart f → (es : List Branch) → Inner (map f (map to_slotted (tag_first false es)))
unfolding tag_first
tags_inner f k [] = tt
tags_inner f k (e ∷ es) = let q = k (to_slotted (tagged false false e)) in rw q.2 (refl, tags_inner f k es)

node_row : (w : ℕ) (f : Slotted → Cell) → KeepsStart f → (c : ℕ) (n : Node) → Labelled n
    → (cursor_ones cell_step (cell_ones w) c (map f (node_part n)) ≡ row_ones w c (map f (node_part n))) × (sum_of cell_step (map f (node_part n)) ≡ 1)
unfolding node_part node_entries tag_first
node_row w f k c (node none []) h = absurd h
node_row w f k c (node none (e ∷ es)) h = let q = k (to_slotted (tagged true false e)) in rw q.2 (first_ones w c q.0 q.1 (map f (map to_slotted (tag_first false es))) (tags_inner f k es))
node_row w f k c (node (some s) es) h = let q = k (to_slotted (tagged true true (to_leaf 255 s))) in rw q.2 (first_ones w c q.0 q.1 (map f (map to_slotted (tag_first false es))) (tags_inner f k es))

-- rows of w bits a node, from the bits of each
module _ (w : ℕ) (f : Slotted → Cell) (k : KeepsStart f) (G : Node → Bits) (wide : (n : Node) → length (G n) ≡ w) (P : Node → Type 0)
    (row : (c : ℕ) (n : Node) → P n → (j : ℕ) → has (row_ones w c (map f (node_part n))) j ≡ has (positions (w * c) (G n)) j) where
  rows : (ns : List Node) → All Labelled ns → All P ns → (c j : ℕ) → has (cursor_ones cell_step (cell_ones w) c (map f (slotted_of ns))) j ≡ has (positions (w * c) (concat (map G ns))) j
  unfolding concat cursor_ones positions
  rows [] h p c j = ap (λ (z : List Slotted). has (cursor_ones cell_step (cell_ones w) c (map f z)) j) slotted_none
  rows (n ∷ ns) h p c j =
      let u = node_row w f k c n h.0 in
      let v : c + sum_of cell_step (map f (node_part n)) ≡ suc c = omega (arith, u.1) in
      ap (λ (z : List Slotted). has (cursor_ones cell_step (cell_ones w) c (map f z)) j) (slotted_cons n ns)
      ∙ ap (λ (z : List Cell). has (cursor_ones cell_step (cell_ones w) c z) j) (map-append f (node_part n) (slotted_of ns))
      ∙ ap (λ (z : List ℕ). has z j) (cursor_append cell_step (cell_ones w) c (map f (node_part n)) (map f (slotted_of ns)))
      ∙ has_append (cursor_ones cell_step (cell_ones w) c (map f (node_part n))) _ j
      ∙ ap₂ ◌||◌ (ap (λ (z : List ℕ). has z j) u.0 ∙ row c n p.0 j)
      (ap (λ (m : ℕ). has (cursor_ones cell_step (cell_ones w) m (map f (slotted_of ns))) j) v ∙ rows ns h.1 p.1 (suc c) j
      ∙ ap (λ (m : ℕ). has (positions m (concat (map G ns))) j) (mul-suc w c ∙ ap (λ (m : ℕ). w * c + m) (sym (wide n))))
      ∙ sym (has_append (positions (w * c) (G n)) (positions (w * c + length (G n)) (concat (map G ns))) j)
      ∙ sym (ap (λ (z : List ℕ). has z j) (positions_append (w * c) (G n) (concat (map G ns))))

-- ---- a row's bits

has_moved : (a : ℕ) (xs : List ℕ) (j : ℕ) → has (map (λ x. a + x) xs) (a + j) ≡ has xs j
has_moved a [] j = has_nil (a + j) ∙ sym (has_nil j)
has_moved a (x ∷ xs) j = has_cons (a + x) (map (λ x. a + x) xs) (a + j) ∙ ap₂ ◌||◌ (go (eqb j x) refl) (has_moved a xs j) ∙ sym (has_cons x xs j)
  where
    go : (b : Bool) → eqb j x ≡ b → eqb (a + j) (a + x) ≡ eqb j x
    go true e = let q : j ≡ x = eqb-true j x e in eq-eqb (a + j) (a + x) (omega arith) ∙ sym e
    go false e = let q : j ≡ x → ⊥ = eqb-false j x e in ne_eqb (a + j) (a + x) (λ z. q (omega arith)) ∙ sym e

has_before : (a : ℕ) (xs : List ℕ) (j : ℕ) → j < a → has (map (λ x. a + x) xs) j ≡ false
has_before a [] j h = has_nil j
has_before a (x ∷ xs) j h = has_cons (a + x) (map (λ x. a + x) xs) j ∙ ap₂ ◌||◌ (ne_eqb j (a + x) (λ z. omega arith)) (has_before a xs j h)

has_small : (xs : List ℕ) (j : ℕ) → IsBytes xs → 256 ≤ j → has xs j ≡ false
has_small [] j s h = has_nil j
has_small (x ∷ xs) j s h = has_cons x xs j ∙ ap₂ ◌||◌ (ne_eqb j x (λ z. omega (arith, s.0))) (has_small xs j s.1 h)

map_iota_at : (f : ℕ → Bool) (i k j : ℕ) → j < k → get_or (map f (iota i k)) j false ≡ f (i + j)
unfolding iota
map_iota_at f i zero j h = absurd (omega arith)
map_iota_at f i (suc k) zero h = let w : i ≡ i + 0 = omega arith in ap f w
map_iota_at f i (suc k) (suc j) h = let w : suc i + j ≡ i + suc j = omega arith in map_iota_at f (suc i) k j (omega arith) ∙ ap f w

bitmap_at : (xs : List ℕ) (j : ℕ) → IsBytes xs → get_or (map (has xs) (iota 0 256)) j false ≡ has xs j
bitmap_at xs j s = go (ltb j 256) refl
  where
    go : (b : Bool) → ltb j 256 ≡ b → get_or (map (has xs) (iota 0 256)) j false ≡ has xs j
    go true e = let w : 0 + j ≡ j = omega arith in map_iota_at (has xs) 0 256 j (ltb-true j 256 e) ∙ ap (has xs) w
    go false e =
        let l : 256 ≤ j = ltb-false j 256 e in
        let w : length (map (has xs) (iota 0 256)) ≤ j = omega (arith, length-map (iota 0 256) (has xs), length_iota 0 256) in
        get_or-eq_default (map (has xs) (iota 0 256)) false w ∙ sym (has_small xs j s l)

-- labels, moved to a row that starts at a, are the ones of the row's bits
row_bits : (a : ℕ) (xs : List ℕ) (j : ℕ) → IsBytes xs → has (map (λ x. a + x) xs) j ≡ has (positions a (map (has xs) (iota 0 256))) j
row_bits a xs j s = go (ltb j a) refl
  where
    go : (b : Bool) → ltb j a ≡ b → has (map (λ x. a + x) xs) j ≡ has (positions a (map (has xs) (iota 0 256))) j
    go true e = let h : j < a = ltb-true j a e in has_before a xs j h ∙ sym (positions_before a (map (has xs) (iota 0 256)) j h)
    go false e =
        let h : a ≤ j = ltb-false j a e in
        let w : j ≡ a + (j - a) = omega arith in
        ap (has (map (λ x. a + x) xs)) w ∙ has_moved a xs (j - a) ∙ sym (bitmap_at xs (j - a) s) ∙ sym (positions_at a (map (has xs) (iota 0 256)) (j - a))
        ∙ sym (ap (has (positions a (map (has xs) (iota 0 256)))) w)

-- ---- D-Labels

tags_labels : (w c : ℕ) (b : Bool) (es : List Branch) → row_ones w c (map (on_entry label_cell) (map to_slotted (tag_first b es))) ≡ map (λ x. w * c + x) (map label_of es)
unfolding tag_first row_ones
tags_labels w c b [] = refl
tags_labels w c b (e ∷ es) = ap (λ (z : List ℕ). (w * c + label_of e) ∷ z) (tags_labels w c false es)

labels_row : (w c : ℕ) (n : Node) → row_ones w c (map (on_entry label_cell) (node_part n)) ≡ map (λ x. w * c + x) (map label_of (branches_of n))
unfolding node_part node_entries row_ones
labels_row w c (node none es) = tags_labels w c true es
labels_row w c (node (some s) es) = tags_labels w c false es

label_row : (c : ℕ) (n : Node) → ByteLabels n → (j : ℕ) → has (row_ones 256 c (map (on_entry label_cell) (node_part n))) j ≡ has (positions (256 * c) (dense_labels n)) j
unfolding dense_labels
label_row c n s j = ap (λ (z : List ℕ). has z j) (labels_row 256 c n) ∙ row_bits (256 * c) (map label_of (branches_of n)) j s

-- D-Labels: the positions that the entries' label cells set are those of its ones
pub label_ones : (ns : List Node) → All Labelled ns → All ByteLabels ns → (j : ℕ) → has (cursor_ones cell_step (cell_ones 256) 0 (map (on_entry label_cell) (slotted_of ns))) j ≡ has (positions 0 (concat (map dense_labels ns))) j
label_ones ns h s j = rows 256 (on_entry label_cell) (λ i. (not i.entry.exact, i.entry.label, refl)) dense_labels length_dense_labels ByteLabels label_row ns h s 0 j

-- ---- D-HasChild

tags_children : (w c : ℕ) (b : Bool) (es : List Branch) → row_ones w c (map (on_entry child_cell) (map to_slotted (tag_first b es))) ≡ map (λ x. w * c + x) (map label_of (filter has_child es))
unfolding tag_first row_ones filter
tags_children w c b [] = refl
tags_children w c b (to_node x ∷ es) = ap (λ (z : List ℕ). (w * c + x) ∷ z) (tags_children w c false es)
tags_children w c b (to_leaf x s ∷ es) = tags_children w c false es

children_row : (w c : ℕ) (n : Node) → row_ones w c (map (on_entry child_cell) (node_part n)) ≡ map (λ x. w * c + x) (map label_of (filter has_child (branches_of n)))
unfolding node_part node_entries row_ones
children_row w c (node none es) = tags_children w c true es
children_row w c (node (some s) es) = tags_children w c false es

filter_small : (es : List Branch) → IsBytes (map label_of es) → IsBytes (map label_of (filter has_child es))
unfolding filter
filter_small [] s = tt
filter_small (to_node x ∷ es) s = (s.0, filter_small es s.1)
filter_small (to_leaf x t ∷ es) s = filter_small es s.1

child_row : (c : ℕ) (n : Node) → ByteLabels n → (j : ℕ) → has (row_ones 256 c (map (on_entry child_cell) (node_part n))) j ≡ has (positions (256 * c) (dense_has_child n)) j
unfolding dense_has_child
child_row c n s j = ap (λ (z : List ℕ). has z j) (children_row 256 c n) ∙ row_bits (256 * c) (map label_of (filter has_child (branches_of n))) j (filter_small (branches_of n) s)

-- D-HasChild: the positions that the entries' child cells set are those of its ones
pub child_ones : (ns : List Node) → All Labelled ns → All ByteLabels ns → (j : ℕ) → has (cursor_ones cell_step (cell_ones 256) 0 (map (on_entry child_cell) (slotted_of ns))) j ≡ has (positions 0 (concat (map dense_has_child ns))) j
child_ones ns h s j = rows 256 (on_entry child_cell) (λ i. (i.entry.child, i.entry.label, refl)) dense_has_child length_dense_has_child ByteLabels child_row ns h s 0 j

-- ---- D-IsPrefixKey

tags_exact : (w c : ℕ) (b : Bool) (es : List Branch) → row_ones w c (map (on_entry exact_cell) (map to_slotted (tag_first b es))) ≡ []
unfolding tag_first row_ones
tags_exact w c b [] = refl
tags_exact w c b (e ∷ es) = tags_exact w c false es

exact_row : (c : ℕ) (n : Node) → row_ones 1 c (map (on_entry exact_cell) (node_part n)) ≡ positions (1 * c) (is_exact n ∷ [])
unfolding node_part node_entries row_ones positions
exact_row c (node none es) = tags_exact 1 c true es
exact_row c (node (some s) es) = let w : 1 * c + 0 ≡ 1 * c = omega arith in ap₂ (λ (k : ℕ) (z : List ℕ). k ∷ z) w (tags_exact 1 c false es)

exact_bits : (ns : List Node) → concat (map (λ n. is_exact n ∷ []) ns) ≡ map is_exact ns
unfolding concat
exact_bits [] = refl
exact_bits (n ∷ ns) = ap (λ (z : Bits). is_exact n ∷ z) (exact_bits ns)

-- D-IsPrefixKey: the positions that the entries' exact cells set are those of its ones
pub exact_ones : (ns : List Node) → All Labelled ns → (j : ℕ) → has (cursor_ones cell_step (cell_ones 1) 0 (map (on_entry exact_cell) (slotted_of ns))) j ≡ has (positions 0 (map is_exact ns)) j
exact_ones ns h j =
    rows 1 (on_entry exact_cell) (λ i. (i.entry.exact, 0, refl)) (λ n. is_exact n ∷ []) (λ n. refl) AnyNode (λ c n u j. ap (λ (z : List ℕ). has z j) (exact_row c n)) ns h (all_any ns) 0 j
    ∙ ap (λ (z : Bits). has (positions 0 z) j) (exact_bits ns)
