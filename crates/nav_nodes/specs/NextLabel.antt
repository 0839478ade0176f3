-- The first branch of a dense node at or behind a label: the next one of its label map.
use Rattle.std.specs.Prelude.{ℕ, zero, suc, ◌+◌, ◌*◌, ◌<◌, ◌≤◌, ◌≡◌, refl, Bool, true, false, cond, List, [], ◌∷◌, map, length, get_or, drop, leb, ltb, eqb}
use Rattle.std.proofs.Common.{sym, ap, ◌∙◌, true≢false, arith, add-one, eq-eqb, ne_eqb, leb-true, leb-false, le-leb, ltb-true, ltb-false}
use Rattle.spec.specs.Bytes.{Bytes, concat, pack, bit}
use Rattle.spec.specs.Nodes.{Branch, to_node, to_leaf, Node, node, label_of, has_child, branches_of, is_exact}
use Rattle.bits.specs.Bits.{rank, select}
use Rattle.bits_select.specs.SelectLaws.{select_all, select_here}
use Rattle.nav_nodes.specs.declared.BranchKind.{BranchKind}
use Rattle.nav_nodes.specs.declared.BranchKind.TheVariants.{Absent, Leaf, Child}
use Rattle.nav_nodes.specs.Counting.{labels_below, labels_below_le}
use Rattle.nav_nodes.specs.Slots.{node_at}
use Rattle.nav_nodes.specs.Descent.{goes_on, ends_at}
use Rattle.nav_nodes.specs.LabelMaps.{matches, eqb_flip}
use Rattle.nav_nodes.specs.Stored.{Starts}
use Rattle.nav_nodes.specs.DensePositions.{label_rank}
use Rattle.nav_nodes.specs.SparsePositions.{label_low, label_high, fit_node, small_node}
use Rattle.theory.specs.Terms.{All, IsBytes}
use Rattle.theory.proofs.LinkedLevels.{BelowLabel, Ascends, Labelled}
use Rattle.theory.proofs.NodeBits.{dense_labels, dense_has_child, ByteLabels}
use Rattle.theory.proofs.WitnessedLevels.{labelled_ascends}

-- the kind of the first branch, and its label
unfoldable pub first_kind : List Branch → BranchKind
first_kind [] = Absent
first_kind (to_leaf x s ∷ es) = Leaf
first_kind (to_node x ∷ es) = Child

unfoldable pub first_label : List Branch → ℕ
first_label [] = 0
first_label (e ∷ es) = label_of e

-- the kind of a branch that is there, by whether it continues
abbrev pub kind_there : Bool → BranchKind
kind_there true = Child
kind_there false = Leaf

-- a bit as a truth value
pub bit_one : (b : Bool) → eqb (bit b) 1 ≡ b
bit_one true = refl
bit_one false = refl

-- the kind of a branch that is there, by its continuing bit
pub kind_by : (c : ℕ) (b : Bool) → c ≡ bit b → kind_there (eqb c 1) ≡ kind_there b
kind_by c b e = ap (λ (z : ℕ). kind_there (eqb z 1)) e ∙ ap kind_there (bit_one b)

-- the kind of the first branch if it has the label y
unfoldable pub kind_with : ℕ → List Branch → BranchKind
kind_with y [] = Absent
kind_with y (to_leaf x s ∷ es) = cond (eqb x y) Leaf Absent
kind_with y (to_node x ∷ es) = cond (eqb x y) Child Absent

-- whether there is a branch
abbrev pub is_there : BranchKind → Bool
is_there Absent = false
is_there Leaf = true
is_there Child = true

-- a kind says whether there is a branch
pub there_not : (k : BranchKind) → is_there k ≡ true → k ≡ Absent → ⊥
there_not k h e = true≢false (sym h ∙ ap is_there e)

pub not_there : (k : BranchKind) → is_there k ≡ false → k ≡ Absent
not_there Absent h = refl
not_there Leaf h = absurd (true≢false h)
not_there Child h = absurd (true≢false h)

-- what the kind says of the branch with the label y
pub with_absent : (y : ℕ) (es : List Branch) → kind_with y es ≡ Absent → (goes_on y es ≡ false) × (ends_at y es ≡ false)
unfolding kind_with goes_on ends_at
with_absent y [] h = (refl, refl)
with_absent y (to_leaf x s ∷ es) h = (refl, go (eqb x y) h)
  where
    go : (b : Bool) → cond b Leaf Absent ≡ Absent → b ≡ false
    go true e = absurd (true≢false (ap is_there e))
    go false e = refl
with_absent y (to_node x ∷ es) h = (go (eqb x y) h, refl)
  where
    go : (b : Bool) → cond b Child Absent ≡ Absent → b ≡ false
    go true e = absurd (true≢false (ap is_there e))
    go false e = refl

pub with_leaf : (y : ℕ) (es : List Branch) → kind_with y es ≡ Leaf → (goes_on y es ≡ false) × (ends_at y es ≡ true)
unfolding kind_with goes_on ends_at
with_leaf y [] h = absurd (true≢false (sym (ap is_there h)))
with_leaf y (to_leaf x s ∷ es) h = (refl, go (eqb x y) h)
  where
    go : (b : Bool) → cond b Leaf Absent ≡ Leaf → b ≡ true
    go true e = refl
    go false e = absurd (true≢false (sym (ap is_there e)))
with_leaf y (to_node x ∷ es) h = absurd (go (eqb x y) h)
  where
    go : (b : Bool) → cond b Child Absent ≡ Leaf → ⊥
    go true e = let z : ◌≡◌ {A = ℕ} 0 1 = cc in omega arith
    go false e = let z : ◌≡◌ {A = ℕ} 0 1 = cc in omega arith

pub with_child : (y : ℕ) (es : List Branch) → kind_with y es ≡ Child → goes_on y es ≡ true
unfolding kind_with goes_on
with_child y [] h = absurd (true≢false (sym (ap is_there h)))
with_child y (to_leaf x s ∷ es) h = absurd (go (eqb x y) h)
  where
    go : (b : Bool) → cond b Leaf Absent ≡ Child → ⊥
    go true e = let z : ◌≡◌ {A = ℕ} 0 1 = cc in omega arith
    go false e = let z : ◌≡◌ {A = ℕ} 0 1 = cc in omega arith
with_child y (to_node x ∷ es) h = go (eqb x y) h
  where
    go : (b : Bool) → cond b Child Absent ≡ Child → b ≡ true
    go true e = refl
    go false e = absurd (true≢false (sym (ap is_there e)))

-- no branch continues where its kind says otherwise
pub with_other : (y : ℕ) (es : List Branch) → (kind_with y es ≡ Child → ⊥) → goes_on y es ≡ false
unfolding kind_with goes_on
with_other y [] h = refl
with_other y (to_leaf x s ∷ es) h = refl
with_other y (to_node x ∷ es) h = go (eqb x y) h
  where
    go : (b : Bool) → (cond b Child Absent ≡ Child → ⊥) → b ≡ false
    go true g = absurd (g refl)
    go false g = refl

-- the kind by the two bits of a dense label: whether it is there, and whether it continues
abbrev pub kind_of_bits : Bool → Bool → BranchKind
kind_of_bits true c = kind_there c
kind_of_bits false c = Absent

pub with_bits : (y : ℕ) (es : List Branch) → kind_of_bits (matches y es) (goes_on y es) ≡ kind_with y es
unfolding kind_with goes_on matches
with_bits y [] = refl
with_bits y (to_leaf x s ∷ es) = rw (eqb_flip y x) (go (eqb x y))
  where
    go : (b : Bool) → kind_of_bits b false ≡ cond b Leaf Absent
    go true = refl
    go false = refl
with_bits y (to_node x ∷ es) = rw (eqb_flip y x) (go (eqb x y))
  where
    go : (b : Bool) → kind_of_bits b b ≡ cond b Child Absent
    go true = refl
    go false = refl

-- there is a branch with the label y exactly if its label matches
pub with_there : (y : ℕ) (es : List Branch) → is_there (kind_with y es) ≡ matches y es
unfolding kind_with matches
with_there y [] = refl
with_there y (to_leaf x s ∷ es) = go (eqb x y) ∙ sym (eqb_flip y x)
  where
    go : (b : Bool) → is_there (cond b Leaf Absent) ≡ b
    go true = refl
    go false = refl
with_there y (to_node x ∷ es) = go (eqb x y) ∙ sym (eqb_flip y x)
  where
    go : (b : Bool) → is_there (cond b Child Absent) ≡ b
    go true = refl
    go false = refl

-- by the branch at index i
pub kind_at : (es : List Branch) (i : ℕ) → i < length es → first_kind (drop i es) ≡ kind_there (get_or (map has_child es) i false)
unfolding first_kind
kind_at [] i h = absurd (omega arith)
kind_at (to_leaf x s ∷ es) zero h = refl
kind_at (to_node x ∷ es) zero h = refl
kind_at (c ∷ es) (suc i) h = kind_at es i (omega arith)

pub kind_end : (es : List Branch) (i : ℕ) → length es ≤ i → Absent ≡ first_kind (drop i es)
unfolding first_kind
kind_end [] zero h = refl
kind_end [] (suc i) h = refl
kind_end (c ∷ es) zero h = absurd (omega arith)
kind_end (c ∷ es) (suc i) h = kind_end es i (omega arith)

-- there is a branch at index i exactly if i is below their number
pub there_before : (es : List Branch) (i : ℕ) → is_there (first_kind (drop i es)) ≡ ltb i (length es)
there_before es i = go (ltb i (length es)) refl
  where
    go : (b : Bool) → ltb i (length es) ≡ b → is_there (first_kind (drop i es)) ≡ b
    go true e = ap is_there (kind_at es i (ltb-true i (length es) e)) ∙ some (get_or (map has_child es) i false)
      where
        some : (c : Bool) → is_there (kind_there c) ≡ true
        some true = refl
        some false = refl
    go false e = ap is_there (sym (kind_end es i (ltb-false i (length es) e)))

-- Labels above y are not below y + 1.
pub low_none : (y : ℕ) (es : List Branch) → BelowLabel y es → labels_below (suc y) es ≡ 0
unfolding labels_below
low_none y [] u = refl
low_none y (e ∷ es) u = go (leb (suc y) (label_of e)) (le-leb (suc y) (label_of e) (omega arith))
  where
    go : (b : Bool) → b ≡ true → ◌≡◌ {A = ℕ} (elim b [ true ↦ 0 | false ↦ suc (labels_below (suc y) es) ]) 0
    go true h = refl
    go false h = absurd (true≢false (sym h))

-- One label more is below y + 1 than below y if y is a label.
pub labels_next : (y : ℕ) (es : List Branch) → Ascends es → labels_below (y + 1) es ≡ labels_below y es + bit (matches y (drop (labels_below y es) es))
unfolding labels_below matches
labels_next y es r = rw (add-one y) (up es r)
  where
    up : (es : List Branch) → Ascends es → labels_below (suc y) es ≡ labels_below y es + bit (matches y (drop (labels_below y es) es))
    up [] r = refl
    up (e ∷ es) r = go (leb y (label_of e)) refl (leb (suc y) (label_of e)) refl (up es r.1)
      where
        go : (b : Bool) → leb y (label_of e) ≡ b → (c : Bool) → leb (suc y) (label_of e) ≡ c → labels_below (suc y) es ≡ labels_below y es + bit (matches y (drop (labels_below y es) es))
            → ◌≡◌ {A = ℕ} (elim c [ true ↦ 0 | false ↦ suc (labels_below (suc y) es) ]) (elim b [ true ↦ 0 | false ↦ suc (labels_below y es) ] + bit (matches y (drop (elim b [ true ↦ 0 | false ↦ suc (labels_below y es) ]) (e ∷ es))))
        go true p true q h = let n = leb-true (suc y) (label_of e) q in rw (ne_eqb y (label_of e) (λ z. omega arith))
        go true p false q h = let n : y ≡ label_of e = omega (arith, leb-true y (label_of e) p, leb-false (suc y) (label_of e) q) in rw (eq-eqb y (label_of e) n, low_none y es (rw (← n) at r.0))
        go false p true q h = absurd (omega (arith, leb-false y (label_of e) p, leb-true (suc y) (label_of e) q))
        go false p false q h = omega (arith, h)

pub label_first : (es : List Branch) (i : ℕ) → i < length es → get_or (map label_of es) i 0 ≡ first_label (drop i es)
unfolding first_label
label_first [] i h = absurd (omega arith)
label_first (c ∷ es) zero h = refl
label_first (c ∷ es) (suc i) h = label_first es i (omega arith)

-- a branch continues under its own label
pub goes_child : (es : List Branch) (i : ℕ) → i < length es → goes_on (get_or (map label_of es) i 0) (drop i es) ≡ get_or (map has_child es) i false
unfolding goes_on
goes_child [] i h = absurd (omega arith)
goes_child (to_leaf x s ∷ es) zero h = refl
goes_child (to_node x ∷ es) zero h = eq-eqb x x refl
goes_child (c ∷ es) (suc i) h = goes_child es i (omega arith)

rising_step : (es : List Branch) (i : ℕ) → Ascends es → suc i < length es → get_or (map label_of es) i 0 < get_or (map label_of es) (suc i) 0
rising_step [] i r h = absurd (omega arith)
rising_step (c ∷ []) i r h = absurd (omega arith)
rising_step (c ∷ d ∷ es) zero r h = r.0
rising_step (c ∷ d ∷ es) (suc i) r h = rising_step (d ∷ es) i r.1 (omega arith)

-- a label's own index
pub own_index : (es : List Branch) (i : ℕ) → Ascends es → i < length es → labels_below (get_or (map label_of es) i 0) es ≡ i
own_index es zero r h = omega (arith, label_high (get_or (map label_of es) 0 0) es 0 h (omega arith))
own_index es (suc i) r h =
    omega (arith, label_high (get_or (map label_of es) (suc i) 0) es (suc i) h (omega arith), label_low (get_or (map label_of es) (suc i) 0) es i r (omega arith) (rising_step es i r h))

small_label : (es : List Branch) (i : ℕ) → IsBytes (map label_of es) → i < length es → get_or (map label_of es) i 0 < 256
small_label [] i s h = absurd (omega arith)
small_label (c ∷ es) zero s h = s.0
small_label (c ∷ es) (suc i) s h = small_label es i s.1 (omega arith)

module _ (ds ss : List Node) (dl dc dp : Bytes) (hl : Starts (pack (concat (map dense_labels ds))) dl) (hc : Starts (pack (concat (map dense_has_child ds))) dc) (hp : Starts (pack (map is_exact ds)) dp)
    (fit : All Labelled ds) (small : All ByteLabels ds) (m y : ℕ) (h : m < length ds) (l : y ≤ 256) where
  -- the labels of a dense node ascend
  pub rising : Ascends (branches_of (node_at ds m))
  rising = go (node_at ds m) (fit_node ds m fit h)
    where
      go : (n : Node) → Labelled n → Ascends (branches_of n)
      go (node o es) f = labelled_ascends o es f

  labels_small : IsBytes (map label_of (branches_of (node_at ds m)))
  labels_small = small_node ds m small h

  -- No label at or behind y: the node's bits end without one.
  pub next_none : length (branches_of (node_at ds m)) ≤ labels_below y (branches_of (node_at ds m)) → select dl (256 * m + 256) (rank dl (256 * m + y)) ≡ 256 * m + 256
  next_none k =
      let a = label_rank ds ss dl dc dp hl hc hp fit small m y h l in
      let b = label_rank ds ss dl dc dp hl hc hp fit small m 256 h (omega arith) in
      select_all dl (256 * m + 256) (rank dl (256 * m + y)) (omega (arith, labels_below_le 256 (branches_of (node_at ds m))))

  -- The next label stands at its own bit.
  pub next_some : labels_below y (branches_of (node_at ds m)) < length (branches_of (node_at ds m))
      → (select dl (256 * m + 256) (rank dl (256 * m + y)) ≡ 256 * m + get_or (map label_of (branches_of (node_at ds m))) (labels_below y (branches_of (node_at ds m))) 0)
      × (get_or (map label_of (branches_of (node_at ds m))) (labels_below y (branches_of (node_at ds m))) 0 < 256)
  next_some k =
      let i : ℕ = labels_below y (branches_of (node_at ds m)) in
      let x : ℕ = get_or (map label_of (branches_of (node_at ds m))) (labels_below y (branches_of (node_at ds m))) 0 in
      let s = small_label (branches_of (node_at ds m)) (labels_below y (branches_of (node_at ds m))) labels_small k in
      let a = label_rank ds ss dl dc dp hl hc hp fit small m y h l in
      let b = label_rank ds ss dl dc dp hl hc hp fit small m (get_or (map label_of (branches_of (node_at ds m))) (labels_below y (branches_of (node_at ds m))) 0) h (omega arith) in
      let c = label_rank ds ss dl dc dp hl hc hp fit small m (get_or (map label_of (branches_of (node_at ds m))) (labels_below y (branches_of (node_at ds m))) 0 + 1) h (omega arith) in
      let o = own_index (branches_of (node_at ds m)) (labels_below y (branches_of (node_at ds m))) rising k in
      let t = label_low (get_or (map label_of (branches_of (node_at ds m))) (labels_below y (branches_of (node_at ds m))) 0 + 1) (branches_of (node_at ds m)) (labels_below y (branches_of (node_at ds m))) rising k (omega arith) in
      let e : 256 * m + get_or (map label_of (branches_of (node_at ds m))) (labels_below y (branches_of (node_at ds m))) 0 + 1 ≡ 256 * m + (get_or (map label_of (branches_of (node_at ds m))) (labels_below y (branches_of (node_at ds m))) 0 + 1) = omega arith in
      (select_here dl (256 * m + 256) (rank dl (256 * m + y)) (256 * m + get_or (map label_of (branches_of (node_at ds m))) (labels_below y (branches_of (node_at ds m))) 0) (omega arith) (omega (arith, b, o)) (rw e (omega (arith, c, t))), s)
