-- The dense nodes by counts of ones: what number 14 asks of each, the branches before each and the leaves among them.
use Rattle.std.specs.Prelude.{ℕ, zero, suc, ◌+◌, ◌*◌, ◌≤◌, ◌≡◌, Bool, true, false, cond, ◌&&◌, ◌||◌, not, length, take, drop, ltb, eqb}
use Rattle.std.proofs.Math.Path.{refl}
use Rattle.std.proofs.Common.{sym, ap, ap₂, ◌∙◌, true≢false, arith, length-drop, length-take-le, drop-drop, lt-ltb, ne_eqb}
use Rattle.std.proofs.Math.Bool.{and-true}
use mathlib.Core.List.{List, [], ◌∷◌}
use Rattle.std.proofs.Math.Seq.{take-nil}
use Rattle.spec.specs.Bytes.{Bits, all, count, ones}
use Rattle.spec.specs.Nodes.{Entry, entry, entry_label, continues, Shape, shape, dense_entries, dense_shapes, total}
use Rattle.spec.specs.Trie.{covered}
use Rattle.check_levels.specs.Shapes.{ends_here, rising, branches, leaves_at, root_valid, non_root_valid, nodes_from}
use Rattle.theory.proofs.DenseBits.{covered_split}

-- ---- one node

-- entries of a bitmap: their number, those that continue and those that end, where the one lies within the other
module _ where
  entries_count : (i : ℕ) (dl dc : Bits) → length dl ≡ length dc → length (dense_entries i dl dc) ≡ ones dl
  unfolding dense_entries ones
  entries_count i [] dc h = refl
  entries_count i (l ∷ dl) [] h = absurd (omega arith)
  entries_count i (true ∷ dl) (c ∷ dc) h = omega (arith, entries_count (suc i) dl dc (omega arith))
  entries_count i (false ∷ dl) (c ∷ dc) h = omega (arith, entries_count (suc i) dl dc (omega arith))

  entries_continue : (i : ℕ) (dl dc : Bits) → length dl ≡ length dc → covered dc dl ≡ true → count continues (dense_entries i dl dc) ≡ ones dc
  unfolding dense_entries ones covered count
  entries_continue i [] [] h w = refl
  entries_continue i [] (c ∷ dc) h w = absurd (omega arith)
  entries_continue i (l ∷ dl) [] h w = absurd (omega arith)
  entries_continue i (true ∷ dl) (true ∷ dc) h w = omega (arith, entries_continue (suc i) dl dc (omega arith) w)
  entries_continue i (true ∷ dl) (false ∷ dc) h w = omega (arith, entries_continue (suc i) dl dc (omega arith) w)
  entries_continue i (false ∷ dl) (true ∷ dc) h w = absurd (true≢false (sym w))
  entries_continue i (false ∷ dl) (false ∷ dc) h w = omega (arith, entries_continue (suc i) dl dc (omega arith) w)

  pub entries_end : (i : ℕ) (dl dc : Bits) → length dl ≡ length dc → covered dc dl ≡ true → count ends_here (dense_entries i dl dc) + ones dc ≡ ones dl
  unfolding dense_entries ones covered count
  entries_end i [] [] h w = refl
  entries_end i [] (c ∷ dc) h w = absurd (omega arith)
  entries_end i (l ∷ dl) [] h w = absurd (omega arith)
  entries_end i (true ∷ dl) (true ∷ dc) h w = omega (arith, entries_end (suc i) dl dc (omega arith) w)
  entries_end i (true ∷ dl) (false ∷ dc) h w = omega (arith, entries_end (suc i) dl dc (omega arith) w)
  entries_end i (false ∷ dl) (true ∷ dc) h w = absurd (true≢false (sym w))
  entries_end i (false ∷ dl) (false ∷ dc) h w = omega (arith, entries_end (suc i) dl dc (omega arith) w)

-- all labels are at least i
abbrev From : ℕ → List Entry → Type 0
From i [] = Unit
From i (e ∷ es) = (i ≤ entry_label e) × From i es

lower : (i j : ℕ) (es : List Entry) → i ≤ j → From j es → From i es
lower i j [] h f = tt
lower i j (e ∷ es) h f = (omega (arith, f.0), lower i j es h f.1)

entries_from : (i : ℕ) (dl dc : Bits) → From i (dense_entries i dl dc)
unfolding dense_entries
entries_from i [] dc = tt
entries_from i (l ∷ dl) [] = tt
entries_from i (true ∷ dl) (c ∷ dc) = (omega arith, lower i (suc i) (dense_entries (suc i) dl dc) (omega arith) (entries_from (suc i) dl dc))
entries_from i (false ∷ dl) (c ∷ dc) = lower i (suc i) (dense_entries (suc i) dl dc) (omega arith) (entries_from (suc i) dl dc)

-- labels by position ascend
entries_rise : (i : ℕ) (dl dc : Bits) → rising (dense_entries i dl dc) ≡ true
unfolding dense_entries rising
entries_rise i [] dc = refl
entries_rise i (l ∷ dl) [] = refl
entries_rise i (true ∷ dl) (c ∷ dc) = go (dense_entries (suc i) dl dc) (entries_from (suc i) dl dc) (entries_rise (suc i) dl dc)
  where
    go : (es : List Entry) → From (suc i) es → rising es ≡ true → rising (entry i c ∷ es) ≡ true
    go [] f r = refl
    go (e ∷ es) f r = rw (lt-ltb i (entry_label e) (omega (arith, f.0))) r
entries_rise i (false ∷ dl) (c ∷ dc) = entries_rise (suc i) dl dc

-- what number 14 asks of a dense node with so many labels, of which so many continue: a label; the root is no exact leaf; a sole entry continues, except at the root
abbrev pub dense_valid : Bool → Bool → ℕ → ℕ → Bool
dense_valid root p labels kids = ltb 0 labels && cond root (not p) (p || not (eqb labels 1) || eqb kids 1)

one_valid : (root p : Bool) (es : List Entry) → rising es ≡ true → cond root (root_valid (shape p es)) (non_root_valid (shape p es)) ≡ dense_valid root p (length es) (count continues es)
unfolding count
one_valid true p [] r = refl
one_valid false true [] r = refl
one_valid false false [] r = refl
one_valid true p (e ∷ es) r = rw (r, lt-ltb 0 (suc (length es)) (omega arith)) (and-true (not p))
one_valid false true (e ∷ es) r = rw (r, lt-ltb 0 (suc (length es)) (omega arith))
one_valid false false (e ∷ []) r = rw r (alone (continues e))
  where
    alone : (c : Bool) → c ≡ eqb (cond c 1 0) 1
    alone true = refl
    alone false = refl
one_valid false false (e ∷ f ∷ es) r = rw (r, lt-ltb 0 (suc (suc (length es))) (omega arith), ne_eqb (suc (suc (length es))) 1 (λ q. omega arith))

-- ---- all nodes

-- the dense nodes by their counts, 256 bits each
unfoldable pub dense_nodes_valid : Bool → Bits → Bits → Bits → Bool
unfolding ones
dense_nodes_valid root dl dc [] = true
dense_nodes_valid root dl dc (p ∷ ps) = dense_valid root p (ones (take 256 dl)) (ones (take 256 dc)) && dense_nodes_valid false (drop 256 dl) (drop 256 dc) ps

module _ (dl dc ps : Bits) (p : Bool) (a : length dl ≡ 256 * suc (length ps)) (b : length dc ≡ 256 * suc (length ps)) (w : covered dc dl ≡ true) where
  wide_labels : length (take 256 dl) ≡ 256
  wide_labels = length-take-le 256 dl (omega arith)

  wide_children : length (take 256 dc) ≡ 256
  wide_children = length-take-le 256 dc (omega arith)

  here : covered (take 256 dc) (take 256 dl) ≡ true
  here = (covered_split 256 dc dl (a ∙ sym b) w).0

  rest_labels : length (drop 256 dl) ≡ 256 * length ps
  rest_labels = omega (arith, length-drop 256 dl)

  rest_children : length (drop 256 dc) ≡ 256 * length ps
  rest_children = omega (arith, length-drop 256 dc)

  behind : covered (drop 256 dc) (drop 256 dl) ≡ true
  behind = (covered_split 256 dc dl (a ∙ sym b) w).1

  first_node : (root : Bool)
      → cond root (root_valid (shape p (dense_entries 0 (take 256 dl) (take 256 dc)))) (non_root_valid (shape p (dense_entries 0 (take 256 dl) (take 256 dc))))
      ≡ dense_valid root p (ones (take 256 dl)) (ones (take 256 dc))
  first_node root =
      one_valid root p (dense_entries 0 (take 256 dl) (take 256 dc)) (entries_rise 0 (take 256 dl) (take 256 dc))
      ∙ ap₂ (dense_valid root p) (entries_count 0 (take 256 dl) (take 256 dc) (wide_labels ∙ sym wide_children))
      (entries_continue 0 (take 256 dl) (take 256 dc) (wide_labels ∙ sym wide_children) here)

-- no node of a list is the root
pub nodes_from_false : (hs : List Shape) → all non_root_valid hs ≡ nodes_from false hs
unfolding nodes_from all
nodes_from_false [] = refl
nodes_from_false (h ∷ hs) = refl

-- the tests by counts are those of the nodes
pub dense_shapes_valid : (root : Bool) (dl dc dp : Bits) → length dl ≡ 256 * length dp → length dc ≡ 256 * length dp → covered dc dl ≡ true
    → nodes_from root (dense_shapes dl dc dp) ≡ dense_nodes_valid root dl dc dp
unfolding nodes_from dense_shapes dense_nodes_valid all
dense_shapes_valid root dl dc [] a b w = refl
dense_shapes_valid root dl dc (p ∷ ps) a b w = go root (first_node dl dc ps p a b w root)
    (dense_shapes_valid false (drop 256 dl) (drop 256 dc) ps (rest_labels dl dc ps p a b w) (rest_children dl dc ps p a b w) (behind dl dc ps p a b w))
  where
    h : Shape
    h = shape p (dense_entries 0 (take 256 dl) (take 256 dc))

    hs : List Shape
    hs = dense_shapes (drop 256 dl) (drop 256 dc) ps

    go : (r : Bool) → cond r (root_valid h) (non_root_valid h) ≡ dense_valid r p (ones (take 256 dl)) (ones (take 256 dc))
        → nodes_from false hs ≡ dense_nodes_valid false (drop 256 dl) (drop 256 dc) ps
        → nodes_from r (h ∷ hs) ≡ dense_valid r p (ones (take 256 dl)) (ones (take 256 dc)) && dense_nodes_valid false (drop 256 dl) (drop 256 dc) ps
    go true f g = ap₂ ◌&&◌ f (nodes_from_false hs ∙ g)
    go false f g = ap₂ ◌&&◌ f (nodes_from_false hs ∙ g)

pub length_dense : (dl dc dp : Bits) → length (dense_shapes dl dc dp) ≡ length dp
unfolding dense_shapes
length_dense dl dc [] = refl
length_dense dl dc (p ∷ ps) = ap suc (length_dense (drop 256 dl) (drop 256 dc) ps)

ones_parts : (k : ℕ) (bs : Bits) → ones bs ≡ ones (take k bs) + ones (drop k bs)
unfolding ones
ones_parts zero bs = omega arith
ones_parts (suc k) [] = refl
ones_parts (suc k) (b ∷ bs) = omega (arith, ones_parts k bs)

-- behind the bits of dense node i are those of the next one
pub next_node : (i : ℕ) (bs : Bits) → drop 256 (drop (256 * i) bs) ≡ drop (256 * suc i) bs
next_node i bs = let e : 256 * i + 256 ≡ 256 * suc i = omega arith in drop-drop 256 (256 * i) bs ∙ ap (λ (k : ℕ). drop k bs) e

pub ones_take_parts : (k m : ℕ) (bs : Bits) → ones (take (k + m) bs) ≡ ones (take k bs) + ones (take m (drop k bs))
unfolding ones
ones_take_parts zero m bs = let e : 0 + m ≡ m = omega arith in rw e (omega arith)
ones_take_parts (suc k) m [] = let e : suc k + m ≡ suc (k + m) = omega arith in rw (e, take-nil m)
ones_take_parts (suc k) m (b ∷ bs) = let e : suc k + m ≡ suc (k + m) = omega arith in rw e (omega (arith, ones_take_parts k m bs))

-- the branches before dense node m are the D-HasChild bits before its own
pub dense_before : (m : ℕ) (dl dc dp : Bits) → length dl ≡ 256 * length dp → length dc ≡ 256 * length dp → covered dc dl ≡ true
    → total branches (take m (dense_shapes dl dc dp)) ≡ ones (take (256 * m) dc)
unfolding dense_shapes total ones
dense_before zero dl dc dp a b w = refl
dense_before (suc m) dl [] [] a b w = rw (take-nil (256 * suc m))
dense_before (suc m) dl (c ∷ dc) [] a b w = absurd (omega arith)
dense_before (suc m) dl dc (p ∷ ps) a b w =
    let e : 256 * suc m ≡ 256 + 256 * m = omega arith in
    ap₂ ◌+◌
    (entries_continue 0 (take 256 dl) (take 256 dc) (wide_labels dl dc ps p a b w ∙ sym (wide_children dl dc ps p a b w)) (here dl dc ps p a b w))
    (dense_before m (drop 256 dl) (drop 256 dc) ps (rest_labels dl dc ps p a b w) (rest_children dl dc ps p a b w) (behind dl dc ps p a b w))
    ∙ sym (ones_take_parts 256 (256 * m) dc) ∙ ap (λ (k : ℕ). ones (take k dc)) (sym e)

-- the leaves of the dense nodes: labels that do not continue, and exact leaves
pub dense_leaves : (dl dc dp : Bits) → length dl ≡ 256 * length dp → length dc ≡ 256 * length dp → covered dc dl ≡ true
    → total leaves_at (dense_shapes dl dc dp) + ones dc ≡ ones dl + ones dp
unfolding dense_shapes total ones
dense_leaves [] [] [] a b w = refl
dense_leaves (l ∷ dl) dc [] a b w = absurd (omega arith)
dense_leaves [] (c ∷ dc) [] a b w = absurd (omega arith)
dense_leaves dl dc (p ∷ ps) a b w =
    omega (
      arith,
      dense_leaves (drop 256 dl) (drop 256 dc) ps (rest_labels dl dc ps p a b w) (rest_children dl dc ps p a b w) (behind dl dc ps p a b w),
      entries_end 0 (take 256 dl) (take 256 dc) (wide_labels dl dc ps p a b w ∙ sym (wide_children dl dc ps p a b w)) (here dl dc ps p a b w),
      ones_parts 256 dl,
      ones_parts 256 dc,
    )

-- the leaves at the first m dense nodes
pub dense_leaves_before : (m : ℕ) (dl dc dp : Bits) → length dl ≡ 256 * length dp → length dc ≡ 256 * length dp → covered dc dl ≡ true
    → total leaves_at (take m (dense_shapes dl dc dp)) + ones (take (256 * m) dc) ≡ ones (take (256 * m) dl) + ones (take m dp)
unfolding dense_shapes total ones
dense_leaves_before zero dl dc dp a b w = refl
dense_leaves_before (suc m) [] [] [] a b w = rw (take-nil (256 * suc m))
dense_leaves_before (suc m) (l ∷ dl) dc [] a b w = absurd (omega arith)
dense_leaves_before (suc m) [] (c ∷ dc) [] a b w = absurd (omega arith)
dense_leaves_before (suc m) dl dc (p ∷ ps) a b w =
    let e : 256 * suc m ≡ 256 + 256 * m = omega arith in
    omega (
      arith,
      dense_leaves_before m (drop 256 dl) (drop 256 dc) ps (rest_labels dl dc ps p a b w) (rest_children dl dc ps p a b w) (behind dl dc ps p a b w),
      entries_end 0 (take 256 dl) (take 256 dc) (wide_labels dl dc ps p a b w ∙ sym (wide_children dl dc ps p a b w)) (here dl dc ps p a b w),
      ap (λ (k : ℕ). ones (take k dl)) e,
      ap (λ (k : ℕ). ones (take k dc)) e,
      ones_take_parts 256 (256 * m) dl,
      ones_take_parts 256 (256 * m) dc,
    )
