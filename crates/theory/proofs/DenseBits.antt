-- Dense nodes as bits, D-Labels, D-HasChild and D-IsPrefixKey: nodes read from bits have just these bits, and nodes are read back from theirs.
-- Used by the parts of an image and by acceptance.
use Rattle.std.specs.Prelude.{ℕ, suc, zero, ◌*◌, ◌+◌, ◌≤◌, ◌≡◌, refl, true, false, not, ◌||◌, Bool, map, [], ◌∷◌, List, ◌++◌, length, take, drop, eqb}
use Rattle.std.proofs.Common.{ap, sym, ◌∙◌, ap₂, true≢false, arith, zero-mul, suc-mul, take-append-drop, length-drop, length-take, length-append, length-take-le, take_at, drop_at, eqb-true}
use Rattle.std.proofs.Math.Bool.{or-true}
use Rattle.std.proofs.Math.Option.{Option, some, none}
use Rattle.std.proofs.lemmas.List.{length-map}
use Rattle.std.proofs.lemmas.Bool.{eqb-false}
use Rattle.spec.specs.Bytes.{Bits, filter, iota, concat}
use Rattle.spec.specs.Image.{positions, has}
use Rattle.spec.specs.Nodes.{entry_label, dense_entries, continues, node, with_slots, Node, is_exact, slotted, dense_shapes, past_slots, label_of, Branch, has_child, to_node, to_leaf, entry, branches_of, shape}
use Rattle.spec.specs.Trie.{covered}
use Rattle.theory.specs.Terms.{IsBytes, All}
use Rattle.theory.proofs.Lists.{and_both, nil_of, length_iota}
use Rattle.theory.proofs.Bits.{has_positions, AscendsFrom, has_here, has_skip, has_none}
use Rattle.theory.proofs.LinkedLevels.{Ascends, Labelled}
use Rattle.theory.proofs.WitnessedLevels.{labelled_ascends}
use Rattle.theory.proofs.NodeBits.{dense_labels, dense_has_child, labels_with_slots, child_labels_with_slots, ByteLabels, entry_of, shape_of}

-- ---- from bits to nodes

-- The labels of a dense node's entries are the positions of the ones in its D-Labels.
dense_entries_labels : (i : ℕ) (dl dc : Bits) → length dl ≡ length dc → map entry_label (dense_entries i dl dc) ≡ positions i dl
unfolding dense_entries positions
dense_entries_labels i [] dc h = refl
dense_entries_labels i (l ∷ dl) [] h = absurd (omega arith)
dense_entries_labels i (true ∷ dl) (c ∷ dc) h = ap (λ (z : List ℕ). i ∷ z) (dense_entries_labels (suc i) dl dc (omega arith))
dense_entries_labels i (false ∷ dl) (c ∷ dc) h = dense_entries_labels (suc i) dl dc (omega arith)

-- The labels that continue are the positions of the ones in its D-HasChild.
dense_entries_children : (i : ℕ) (dl dc : Bits) → length dl ≡ length dc → covered dc dl ≡ true → map entry_label (filter continues (dense_entries i dl dc)) ≡ positions i dc
unfolding dense_entries positions covered filter
dense_entries_children i [] [] h w = refl
dense_entries_children i [] (c ∷ dc) h w = absurd (omega arith)
dense_entries_children i (l ∷ dl) [] h w = absurd (omega arith)
dense_entries_children i (true ∷ dl) (true ∷ dc) h w = ap (λ (z : List ℕ). i ∷ z) (dense_entries_children (suc i) dl dc (omega arith) w)
dense_entries_children i (true ∷ dl) (false ∷ dc) h w = dense_entries_children (suc i) dl dc (omega arith) w
dense_entries_children i (false ∷ dl) (true ∷ dc) h w = absurd (true≢false (sym w))
dense_entries_children i (false ∷ dl) (false ∷ dc) h w = dense_entries_children (suc i) dl dc (omega arith) w

-- A bitmap within another is so in two parts.
pub covered_split : (k : ℕ) (dc dl : Bits) → length dl ≡ length dc → covered dc dl ≡ true → (covered (take k dc) (take k dl) ≡ true) × (covered (drop k dc) (drop k dl) ≡ true)
unfolding covered
covered_split zero dc dl h w = (refl, w)
covered_split (suc k) [] [] h w = (refl, refl)
covered_split (suc k) [] (l ∷ dl) h w = absurd (omega arith)
covered_split (suc k) (c ∷ dc) [] h w = absurd (omega arith)
covered_split (suc k) (c ∷ dc) (l ∷ dl) h w =
    let p = and_both (not c || l) (covered dc dl) w in
    let q = covered_split k dc dl (omega arith) p.1 in
    (rw p.0 q.0, q.1)

dense_one : (n : ℕ) (o : Option Bits) (dl dc bs : Bits) → length dl ≡ 256 → length dc ≡ 256 → covered dc dl ≡ true
    → (dense_labels (node o (with_slots n (dense_entries 0 dl dc) bs)) ≡ dl) × (dense_has_child (node o (with_slots n (dense_entries 0 dl dc) bs)) ≡ dc)
unfolding dense_labels dense_has_child
dense_one n o dl dc bs a b w = (
  ap (λ (xs : List ℕ). map (has xs) (iota 0 256)) (labels_with_slots n (dense_entries 0 dl dc) bs ∙ dense_entries_labels 0 dl dc (a ∙ sym b)) ∙ ap (λ (k : ℕ). map (has (positions 0 dl)) (iota 0 k)) (sym a) ∙ has_positions 0 dl,
  ap (λ (xs : List ℕ). map (has xs) (iota 0 256)) (child_labels_with_slots n (dense_entries 0 dl dc) bs ∙ dense_entries_children 0 dl dc (a ∙ sym b) w) ∙ ap (λ (k : ℕ). map (has (positions 0 dc)) (iota 0 k)) (sym b) ∙ has_positions 0 dc,
)

-- the bits of dense nodes are these
pub record Dense (ns : List Node) (dl dc dp : Bits) : Type 0 where
  pub labels : concat (map dense_labels ns) ≡ dl
  pub children : concat (map dense_has_child ns) ≡ dc
  pub prefix_keys : map is_exact ns ≡ dp

dense_step : {ns : List Node} (n : Node) (dl dc dp : Bits) → dense_labels n ≡ take 256 dl → dense_has_child n ≡ take 256 dc → Dense ns (drop 256 dl) (drop 256 dc) dp → Dense (n ∷ ns) dl dc (is_exact n ∷ dp)
unfolding concat
dense_step n dl dc dp e f r = record {
  labels = ap₂ ◌++◌ e r.labels ∙ take-append-drop 256 dl;
  children = ap₂ ◌++◌ f r.children ∙ take-append-drop 256 dc;
  prefix_keys = ap (λ (z : Bits). is_exact n ∷ z) r.prefix_keys;
}

-- Dense nodes have the bits that they are read from.
pub dense_bits : (n : ℕ) (dl dc dp bs : Bits) → length dl ≡ 256 * length dp → length dc ≡ 256 * length dp → covered dc dl ≡ true
    → Dense (slotted n (dense_shapes dl dc dp) bs) dl dc dp
unfolding slotted dense_shapes concat
dense_bits n dl dc [] bs a b w = record { labels = sym (nil_of dl (omega arith)); children = sym (nil_of dc (omega arith)); prefix_keys = refl }
dense_bits n dl dc (true ∷ dp) bs a b w =
    let v = covered_split 256 dc dl (a ∙ sym b) w in
    let one = dense_one n (some (take n bs)) (take 256 dl) (take 256 dc) (drop n bs) (length-take-le 256 dl (omega arith)) (length-take-le 256 dc (omega arith)) v.0 in
    dense_step (node (some (take n bs)) (with_slots n (dense_entries 0 (take 256 dl) (take 256 dc)) (drop n bs))) dl dc dp one.0 one.1
    (dense_bits n (drop 256 dl) (drop 256 dc) dp (past_slots n (dense_entries 0 (take 256 dl) (take 256 dc)) (drop n bs)) (omega (arith, length-drop 256 dl)) (omega (arith, length-drop 256 dc)) v.1)
dense_bits n dl dc (false ∷ dp) bs a b w =
    let v = covered_split 256 dc dl (a ∙ sym b) w in
    let one = dense_one n none (take 256 dl) (take 256 dc) bs (length-take-le 256 dl (omega arith)) (length-take-le 256 dc (omega arith)) v.0 in
    dense_step (node none (with_slots n (dense_entries 0 (take 256 dl) (take 256 dc)) bs)) dl dc dp one.0 one.1
    (dense_bits n (drop 256 dl) (drop 256 dc) dp (past_slots n (dense_entries 0 (take 256 dl) (take 256 dc)) bs) (omega (arith, length-drop 256 dl)) (omega (arith, length-drop 256 dc)) v.1)

dense_entries_bytes : (i : ℕ) (dl dc : Bits) → i + length dl ≤ 256 → IsBytes (map entry_label (dense_entries i dl dc))
unfolding dense_entries
dense_entries_bytes i [] dc h = tt
dense_entries_bytes i (l ∷ dl) [] h = tt
dense_entries_bytes i (true ∷ dl) (c ∷ dc) h = (omega arith, dense_entries_bytes (suc i) dl dc (omega arith))
dense_entries_bytes i (false ∷ dl) (c ∷ dc) h = dense_entries_bytes (suc i) dl dc (omega arith)

dense_labels_bytes : (n : ℕ) (dl dc bs : Bits) → IsBytes (map label_of (with_slots n (dense_entries 0 (take 256 dl) (take 256 dc)) bs))
dense_labels_bytes n dl dc bs = rw (labels_with_slots n (dense_entries 0 (take 256 dl) (take 256 dc)) bs) (dense_entries_bytes 0 (take 256 dl) (take 256 dc) (omega (arith, length-take 256 dl)))

-- The labels of dense nodes are bytes.
pub dense_byte_labels : (n : ℕ) (dl dc dp bs : Bits) → All ByteLabels (slotted n (dense_shapes dl dc dp) bs)
unfolding slotted dense_shapes
dense_byte_labels n dl dc [] bs = tt
dense_byte_labels n dl dc (true ∷ dp) bs = (dense_labels_bytes n dl dc (drop n bs), dense_byte_labels n (drop 256 dl) (drop 256 dc) dp (past_slots n (dense_entries 0 (take 256 dl) (take 256 dc)) (drop n bs)))
dense_byte_labels n dl dc (false ∷ dp) bs = (dense_labels_bytes n dl dc bs, dense_byte_labels n (drop 256 dl) (drop 256 dc) dp (past_slots n (dense_entries 0 (take 256 dl) (take 256 dc)) bs))

-- ---- from nodes to bits

ascends_from_lower : (i j e : ℕ) (xs : List ℕ) → i ≤ j → AscendsFrom j e xs → AscendsFrom i e xs
ascends_from_lower i j e [] h c = tt
ascends_from_lower i j e (x ∷ xs) h c = (omega (arith, c.0), c.1, c.2)

-- The labels of the continuing branches ascend as all labels do.
pub ascends_from_children : (i e : ℕ) (es : List Branch) → AscendsFrom i e (map label_of es) → AscendsFrom i e (map label_of (filter has_child es))
unfolding filter
ascends_from_children i e [] c = tt
ascends_from_children i e (to_node x ∷ es) c = (c.0, c.1, ascends_from_children (suc x) e es c.2)
ascends_from_children i e (to_leaf x s ∷ es) c = ascends_from_lower i (suc x) e (map label_of (filter has_child es)) (omega (arith, c.0)) (ascends_from_children (suc x) e es c.2)

no_entries : (i k : ℕ) → dense_entries i (map (has []) (iota i k)) (map (has []) (iota i k)) ≡ []
unfolding dense_entries iota has
no_entries i zero = refl
no_entries i (suc k) = no_entries (suc i) k

entry_skip : (i : ℕ) (a b : Bool) (dl dc : Bits) → a ≡ false → dense_entries i (a ∷ dl) (b ∷ dc) ≡ dense_entries (suc i) dl dc
unfolding dense_entries
entry_skip i a b dl dc e = rw e

entry_take : (i : ℕ) (a b c : Bool) (dl dc : Bits) → a ≡ true → b ≡ c → dense_entries i (a ∷ dl) (b ∷ dc) ≡ entry i c ∷ dense_entries (suc i) dl dc
unfolding dense_entries
entry_take i a b c dl dc e f = rw (e, f)

-- a node's entries are read back from its two bitmaps, from label i on
abbrev EntriesBack : ℕ → ℕ → List Branch → Type 0
EntriesBack i k es = dense_entries i (map (has (map label_of es)) (iota i k)) (map (has (map label_of (filter has_child es))) (iota i k)) ≡ map entry_of es

dense_entries_back : (k i : ℕ) (es : List Branch) → AscendsFrom i (i + k) (map label_of es) → EntriesBack i k es
unfolding iota filter
dense_entries_back k i [] c = no_entries i k
dense_entries_back zero i (e ∷ es) c = absurd (omega (arith, c.0, c.1))
dense_entries_back (suc k) i (e ∷ es) c = go e (eqb i (label_of e)) refl c (λ d. dense_entries_back k (suc i) es d) (λ d. dense_entries_back k (suc i) (e ∷ es) d)
  where
    m : i + suc k ≡ suc i + k
    m = omega arith

    go : (e : Branch) (b : Bool) → eqb i (label_of e) ≡ b → AscendsFrom i (i + suc k) (map label_of (e ∷ es)) → (AscendsFrom (suc i) (suc i + k) (map label_of es) → EntriesBack (suc i) k es)
        → (AscendsFrom (suc i) (suc i + k) (map label_of (e ∷ es)) → EntriesBack (suc i) k (e ∷ es)) → EntriesBack i (suc k) (e ∷ es)
    go (to_node x) true q c f g =
        let z : i ≡ x = eqb-true i x q in
        let d : AscendsFrom (suc i) (suc i + k) (map label_of es) = rw (← m) (rw (← z) at c.2) in
        entry_take i _ _ true _ _ (has_here i x (map label_of es) q) (has_here i x (map label_of (filter has_child es)) q)
        ∙ ap₂ ◌∷◌ (ap (λ (y : ℕ). entry y true) z) (rw (has_skip x (map label_of es) (suc i) k (omega arith), has_skip x (map label_of (filter has_child es)) (suc i) k (omega arith)) (f d))
    go (to_leaf x s) true q c f g =
        let z : i ≡ x = eqb-true i x q in
        let d : AscendsFrom (suc i) (suc i + k) (map label_of es) = rw (← m) (rw (← z) at c.2) in
        entry_take i _ _ false _ _ (has_here i x (map label_of es) q) (has_none i (suc i) (suc i + k) (map label_of (filter has_child es)) (omega arith) (ascends_from_children (suc i) (suc i + k) es d))
        ∙ ap₂ ◌∷◌ (ap (λ (y : ℕ). entry y false) z) (rw (has_skip x (map label_of es) (suc i) k (omega arith)) (f d))
    go e false q c f g =
        let n = eqb-false i (label_of e) q in
        let d : AscendsFrom (suc i) (suc i + k) (map label_of (e ∷ es)) = (omega (arith, c.0), omega (arith, c.1), rw m at c.2) in
        entry_skip i _ _ _ _ (has_none i (suc i) (suc i + k) (map label_of (e ∷ es)) (omega arith) d) ∙ g d

-- the first label is i or above
abbrev FromLabel : ℕ → List Branch → Type 0
FromLabel i [] = Unit
FromLabel i (e ∷ es) = i ≤ label_of e

ascends_from_labels : (i : ℕ) (es : List Branch) → Ascends es → IsBytes (map label_of es) → FromLabel i es → AscendsFrom i 256 (map label_of es)
ascends_from_labels i [] r s h = tt
ascends_from_labels i (e ∷ []) r s h = (h, s.0, tt)
ascends_from_labels i (e ∷ f ∷ es) r s h =
    (h, s.0, ascends_from_labels (suc (label_of e)) (f ∷ es) r.1 s.1 (omega (arith, r.0)))

from_label_zero : (es : List Branch) → FromLabel 0 es
from_label_zero [] = tt
from_label_zero (e ∷ es) = omega arith

length_bitmap : (xs : List ℕ) → length (map (has xs) (iota 0 256)) ≡ 256
length_bitmap xs = length-map (iota 0 256) (has xs) ∙ length_iota 0 256

-- A dense node has 256 bits of D-Labels.
pub length_dense_labels : (n : Node) → length (dense_labels n) ≡ 256
unfolding dense_labels
length_dense_labels n = length_bitmap (map label_of (branches_of n))

-- A dense node has 256 bits of D-HasChild.
pub length_dense_has_child : (n : Node) → length (dense_has_child n) ≡ 256
unfolding dense_has_child
length_dense_has_child n = length_bitmap (map label_of (filter has_child (branches_of n)))

dense_shape_back : (o : Option Bits) (es : List Branch) → Labelled (node o es) → ByteLabels (node o es) → shape (is_exact (node o es)) (dense_entries 0 (dense_labels (node o es)) (dense_has_child (node o es))) ≡ shape_of (node o es)
unfolding dense_labels dense_has_child
dense_shape_back none es f s = ap (shape false) (dense_entries_back 256 0 es (ascends_from_labels 0 es (labelled_ascends none es f) s (from_label_zero es)))
dense_shape_back (some t) es f s = ap (shape true) (dense_entries_back 256 0 es (ascends_from_labels 0 es (labelled_ascends (some t) es f) s (from_label_zero es)))

-- Dense nodes are read back from their bits, but for their slots.
pub dense_shapes_back : (ns : List Node) → All Labelled ns → All ByteLabels ns → dense_shapes (concat (map dense_labels ns)) (concat (map dense_has_child ns)) (map is_exact ns) ≡ map shape_of ns
unfolding dense_shapes concat
dense_shapes_back [] f s = refl
dense_shapes_back (node o es ∷ ns) f s =
    let n : Node = node o es in
    let a = length_dense_labels n in
    let b = length_dense_has_child n in
    let ls : Bits = concat (map dense_labels ns) in
    let cs : Bits = concat (map dense_has_child ns) in
    ap₂ ◌∷◌ (ap₂ (λ (u v : Bits). shape (is_exact n) (dense_entries 0 u v)) (take_at (dense_labels n) ls 256 a) (take_at (dense_has_child n) cs 256 b) ∙ dense_shape_back o es f.0 s.0)
    (ap₂ (λ (u v : Bits). dense_shapes u v (map is_exact ns)) (drop_at (dense_labels n) ls 256 a) (drop_at (dense_has_child n) cs 256 b) ∙ dense_shapes_back ns f.1 s.1)

-- ---- DC lies within DL

has_child_has_label : (b : ℕ) (es : List Branch) → not (has (map label_of (filter has_child es)) b) || has (map label_of es) b ≡ true
unfolding has filter
has_child_has_label b [] = refl
has_child_has_label b (to_node x ∷ es) = go (eqb b x) (has_child_has_label b es)
  where
    go : (t : Bool) → not (has (map label_of (filter has_child es)) b) || has (map label_of es) b ≡ true → not (t || has (map label_of (filter has_child es)) b) || (t || has (map label_of es) b) ≡ true
    go true h = refl
    go false h = h
has_child_has_label b (to_leaf x s ∷ es) = go (eqb b x) (has_child_has_label b es)
  where
    go : (t : Bool) → not (has (map label_of (filter has_child es)) b) || has (map label_of es) b ≡ true → not (has (map label_of (filter has_child es)) b) || (t || has (map label_of es) b) ≡ true
    go true h = or-true (not (has (map label_of (filter has_child es)) b))
    go false h = h

covered_labels : (es : List Branch) (rs : List ℕ) → covered (map (has (map label_of (filter has_child es))) rs) (map (has (map label_of es)) rs) ≡ true
unfolding covered
covered_labels es [] = refl
covered_labels es (b ∷ rs) = rw (has_child_has_label b es) (covered_labels es rs)

covered_append : (a b c d : Bits) → length a ≡ length c → covered a c ≡ true → covered b d ≡ true → covered (a ++ b) (c ++ d) ≡ true
unfolding covered
covered_append [] b [] d h p q = q
covered_append [] b (y ∷ c) d h p q = absurd (omega arith)
covered_append (x ∷ a) b [] d h p q = absurd (omega arith)
covered_append (x ∷ a) b (y ∷ c) d h p q = let u = and_both (not x || y) (covered a c) p in rw u.0 (covered_append a b c d (omega arith) u.1 q)

node_covered : (n : Node) → covered (dense_has_child n) (dense_labels n) ≡ true
unfolding dense_labels dense_has_child
node_covered n = covered_labels (branches_of n) (iota 0 256)

-- DC lies within DL.
pub dense_covered : (ns : List Node) → covered (concat (map dense_has_child ns)) (concat (map dense_labels ns)) ≡ true
unfolding covered concat
dense_covered [] = refl
dense_covered (n ∷ ns) =
    covered_append (dense_has_child n) (concat (map dense_has_child ns)) (dense_labels n) (concat (map dense_labels ns)) (length_dense_has_child n ∙ sym (length_dense_labels n)) (node_covered n) (dense_covered ns)

-- ---- lengths

length_concat : {A : Type 0} (f : A → Bits) (k : ℕ) (xs : List A) → ((x : A) → length (f x) ≡ k) → length (concat (map f xs)) ≡ length xs * k
unfolding concat
length_concat f k [] h = sym (zero-mul k)
length_concat f k (x ∷ xs) h = length-append (f x) (concat (map f xs)) ∙ ap₂ ◌+◌ (h x) (length_concat f k xs h) ∙ flip (length xs * k) k (suc-mul (length xs) k)
  where
    flip : (a b : ℕ) {c : ℕ} → c ≡ a + b → b + a ≡ c
    flip a b e = omega arith

-- D-Labels have 256 bits a node.
pub length_dl : (ds : List Node) → length (concat (map dense_labels ds)) ≡ 256 * length ds
length_dl ds = omega (arith, length_concat dense_labels 256 ds (λ n. length_dense_labels n))

-- D-HasChild has 256 bits a node.
pub length_dc : (ds : List Node) → length (concat (map dense_has_child ds)) ≡ 256 * length ds
length_dc ds = omega (arith, length_concat dense_has_child 256 ds (λ n. length_dense_has_child n))
