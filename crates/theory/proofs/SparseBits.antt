-- Sparse nodes as entries, S-Labels, S-HasChild and S-LOUDS: nodes read from entries have just these, and nodes are read back from theirs.
-- Used by the parts of an image and by acceptance.
use Rattle.std.specs.Prelude.{ℕ, suc, ◌-◌, ◌<◌, zero, ◌≡◌, refl, true, false, not, ◌&&◌, Bool, cond, List, ◌∷◌, map, ◌++◌, [], replicate, length, take, drop, eqb}
use Rattle.std.proofs.Common.{ap, ap₂, sym, ◌∙◌, true≢false, arith, length-append, eqb-true, ne_eqb}
use Rattle.std.proofs.lemmas.List.{map-append, length-map, length-replicate}
use Rattle.std.proofs.Math.Option.{none, some, Option}
use Rattle.std.proofs.lemmas.Bool.{not-true}
use Rattle.spec.specs.Bytes.{Bits, concat, all, Bytes, ones}
use Rattle.spec.specs.Nodes.{Sparse, Entry, sparse, Node, entry_label, continues, node, with_slots, extra_ends, slotted, sparse_shape, past_slots, shape, zip_entries, prepend, split_behind, split, is_exact, label_of, branches_of, entry, Branch, to_node, to_leaf, has_child}
use Rattle.spec.specs.Trie.{first_set}
use Rattle.theory.specs.Terms.{IsBytes, All}
use Rattle.theory.proofs.Lists.{and_both}
use Rattle.theory.proofs.Frame.{bytes_split}
use Rattle.theory.proofs.LinkedLevels.{Labelled}
use Rattle.theory.proofs.NodeBits.{sparse_labels, sparse_has_child, louds, labels_with_slots, has_child_with_slots, ByteLabels, entry_of, shape_of}

-- ---- the entries of a sparse node

-- a sparse node's entries
abbrev pub sparse_entries : Sparse → List Entry
sparse_entries (sparse e es) = e ∷ es

-- a sparse node's S-LOUDS bits
abbrev pub sparse_louds : Sparse → Bits
sparse_louds (sparse e es) = true ∷ replicate (length es) false

-- a node whose labels, S-HasChild and S-LOUDS bits are those of these entries, the extra FF first
record NodeEntries (m : Node) (c : Sparse) : Type 0 where
  labels : sparse_labels m ≡ map entry_label (sparse_entries c)
  children : sparse_has_child m ≡ map continues (sparse_entries c)
  louds : louds m ≡ sparse_louds c

louds_labels : (c : Sparse) (m : Node) → sparse_labels m ≡ map entry_label (sparse_entries c) → louds m ≡ sparse_louds c
unfolding louds
louds_labels (sparse e es) m h = rw h (ap (λ (k : ℕ). true ∷ replicate k false) (one_less es))
  where
    one_less : (es : List Entry) → suc (length (map entry_label es)) - 1 ≡ length es
    one_less es = omega (arith, length-map es entry_label)

-- Labels and S-HasChild bits settle the S-LOUDS bits.
node_entries : (m : Node) (c : Sparse) → sparse_labels m ≡ map entry_label (sparse_entries c) → sparse_has_child m ≡ map continues (sparse_entries c) → NodeEntries m c
node_entries m c a b = record { labels = a; children = b; louds = louds_labels c m a }

plain_entries : (n : ℕ) (e : Entry) (es : List Entry) (bs : Bits) → NodeEntries (node none (with_slots n (e ∷ es) bs)) (sparse e es)
unfolding sparse_labels sparse_has_child
plain_entries n e es bs = node_entries _ _ (labels_with_slots n (e ∷ es) bs) (has_child_with_slots n (e ∷ es) bs)

exact_entries : (n : ℕ) (s : Bits) (e : Entry) (es : List Entry) (bs : Bits) → entry_label e ≡ 255 → continues e ≡ false → NodeEntries (node (some s) (with_slots n es bs)) (sparse e es)
unfolding sparse_labels sparse_has_child
exact_entries n s e es bs a b = node_entries _ _ (ap₂ ◌∷◌ (sym a) (labels_with_slots n es bs)) (ap₂ ◌∷◌ (sym b) (has_child_with_slots n es bs))

-- the labels, S-HasChild and S-LOUDS bits of nodes are those of these entries
pub record SparseBits (ns : List Node) (cs : List Sparse) : Type 0 where
  pub labels : concat (map sparse_labels ns) ≡ map entry_label (concat (map sparse_entries cs))
  pub children : concat (map sparse_has_child ns) ≡ map continues (concat (map sparse_entries cs))
  pub louds : concat (map louds ns) ≡ concat (map sparse_louds cs)

-- One more sparse node, before the others.
sparse_step : {ns : List Node} {cs : List Sparse} (m : Node) (c : Sparse) → NodeEntries m c → SparseBits ns cs → SparseBits (m ∷ ns) (c ∷ cs)
unfolding concat
sparse_step {ns} {cs} m c o r = record {
  labels = ap₂ ◌++◌ o.labels r.labels ∙ sym (map-append entry_label (sparse_entries c) (concat (map sparse_entries cs)));
  children = ap₂ ◌++◌ o.children r.children ∙ sym (map-append continues (sparse_entries c) (concat (map sparse_entries cs)));
  louds = ap₂ ◌++◌ o.louds r.louds;
}

-- ---- from entries to nodes

-- Sparse nodes have the labels and bits of the entries that they are read from.
pub sparse_bits : (n : ℕ) (cs : List Sparse) (bs : Bits) → all extra_ends cs ≡ true → SparseBits (slotted n (map sparse_shape cs) bs) cs
unfolding slotted all concat extra_ends sparse_shape
sparse_bits n [] bs h = record { labels = refl; children = refl; louds = refl }
sparse_bits n (sparse e [] ∷ cs) bs h = sparse_step (node none (with_slots n (e ∷ []) bs)) (sparse e []) (plain_entries n e [] bs) (sparse_bits n cs (past_slots n (e ∷ []) bs) h)
sparse_bits n (sparse e (f ∷ es) ∷ cs) bs h = go (eqb (entry_label e) 255) refl (and_both (not (eqb (entry_label e) 255 && continues e)) (all extra_ends cs) h).0
    (λ u. sparse_bits n cs u (and_both (not (eqb (entry_label e) 255 && continues e)) (all extra_ends cs) h).1)
  where
    go : (b : Bool) → eqb (entry_label e) 255 ≡ b → not (b && continues e) ≡ true → ((u : Bits) → SparseBits (slotted n (map sparse_shape cs) u) cs)
        → SparseBits (slotted n (cond b (shape true (f ∷ es)) (shape false (e ∷ f ∷ es)) ∷ map sparse_shape cs) bs) (sparse e (f ∷ es) ∷ cs)
    go true q s r = sparse_step _ (sparse e (f ∷ es)) (exact_entries n (take n bs) e (f ∷ es) (drop n bs) (eqb-true (entry_label e) 255 q) (not-true (continues e) s)) (r (past_slots n (f ∷ es) (drop n bs)))
    go false q s r = sparse_step _ (sparse e (f ∷ es)) (plain_entries n e (f ∷ es) bs) (r (past_slots n (e ∷ f ∷ es) bs))

-- Entries are the labels and the S-HasChild bits that they are made of.
pub zip_entries_back : (sl : Bytes) (sc : Bits) → length sl ≡ length sc → (map entry_label (zip_entries sl sc) ≡ sl) × (map continues (zip_entries sl sc) ≡ sc) × (length (zip_entries sl sc) ≡ length sc)
unfolding zip_entries
zip_entries_back [] [] h = (refl, refl, refl)
zip_entries_back [] (c ∷ sc) h = absurd (omega arith)
zip_entries_back (x ∷ sl) [] h = absurd (omega arith)
zip_entries_back (x ∷ sl) (c ∷ sc) h = let r = zip_entries_back sl sc (omega arith) in (ap (λ (z : Bytes). x ∷ z) r.0, ap (λ (z : Bits). c ∷ z) r.1, ap suc r.2)

prepend_entries : (e : Entry) (cs : List Sparse) → concat (map sparse_entries (prepend e cs)) ≡ e ∷ concat (map sparse_entries cs)
unfolding prepend concat
prepend_entries e [] = refl
prepend_entries e (sparse f es ∷ cs) = refl

prepend_louds : (e : Entry) (cs : List Sparse) (bs : Bits) → concat (map sparse_louds cs) ≡ true ∷ bs → concat (map sparse_louds (prepend e cs)) ≡ true ∷ false ∷ bs
unfolding prepend concat
prepend_louds e [] bs h = let z : ◌≡◌ {A = ℕ} 0 1 = cc in absurd (omega arith)
prepend_louds e (sparse f es ∷ cs) bs h = let t : replicate (length es) false ++ concat (map sparse_louds cs) ≡ bs = cc in ap (λ (z : Bits). true ∷ false ∷ z) t

prepend_length : (e : Entry) (cs : List Sparse) → 0 < length cs → length (prepend e cs) ≡ length cs
unfolding prepend
prepend_length e [] h = absurd (omega arith)
prepend_length e (sparse f es ∷ cs) h = refl

-- Entries that are split into nodes are these entries, with these S-LOUDS bits, a node for each one.
split_behind_back : (e : Entry) (es : List Entry) (bs : Bits) → length bs ≡ length es
    → (concat (map sparse_entries (split_behind e es bs)) ≡ e ∷ es) × (concat (map sparse_louds (split_behind e es bs)) ≡ true ∷ bs) × (length (split_behind e es bs) ≡ suc (ones bs))
unfolding split_behind concat ones
split_behind_back e [] [] h = (refl, refl, refl)
split_behind_back e [] (b ∷ bs) h = absurd (omega arith)
split_behind_back e (f ∷ es) [] h = absurd (omega arith)
split_behind_back e (f ∷ es) (true ∷ bs) h = let r = split_behind_back f es bs (omega arith) in (ap (λ (z : List Entry). e ∷ z) r.0, ap (λ (z : Bits). true ∷ z) r.1, omega (arith, r.2))
split_behind_back e (f ∷ es) (false ∷ bs) h =
    let r = split_behind_back f es bs (omega arith) in
    (prepend_entries e (split_behind f es bs) ∙ ap (λ (z : List Entry). e ∷ z) r.0, prepend_louds e (split_behind f es bs) bs r.1, omega (arith, prepend_length e (split_behind f es bs) (omega (arith, r.2)), r.2))

-- Entries that are split into nodes are these entries, with these S-LOUDS bits, a node for each one.
pub split_back : (es : List Entry) (sb : Bits) → length sb ≡ length es → first_set sb ≡ true
    → (concat (map sparse_entries (split es sb)) ≡ es) × (concat (map sparse_louds (split es sb)) ≡ sb) × (length (split es sb) ≡ ones sb)
unfolding split concat ones first_set
split_back [] [] h f = (refl, refl, refl)
split_back [] (b ∷ sb) h f = absurd (omega arith)
split_back (e ∷ es) [] h f = absurd (omega arith)
split_back (e ∷ es) (true ∷ sb) h f = let r = split_behind_back e es sb (omega arith) in (r.0, r.1, omega (arith, r.2))
split_back (e ∷ es) (false ∷ sb) h f = absurd (true≢false (sym f))

-- The labels of sparse nodes are bytes where S-Labels are.
pub sparse_byte_labels : (ns : List Node) → IsBytes (concat (map sparse_labels ns)) → All ByteLabels ns
unfolding concat sparse_labels
sparse_byte_labels [] s = tt
sparse_byte_labels (m ∷ ns) s =
    let q = bytes_split (sparse_labels m) (concat (map sparse_labels ns)) s in
    ((bytes_split (cond (is_exact m) (255 ∷ []) []) (map label_of (branches_of m)) q.0).1, sparse_byte_labels ns q.1)

-- ---- from nodes to entries

-- a node's entries, the extra FF first
abbrev pub sparse_of : Node → Sparse
sparse_of (node none []) = sparse (entry 0 true) []
sparse_of (node none (e ∷ es)) = sparse (entry_of e) (map entry_of es)
sparse_of (node (some s) es) = sparse (entry 255 false) (map entry_of es)

entry_label_of : (e : Branch) → entry_label (entry_of e) ≡ label_of e
entry_label_of (to_node x) = refl
entry_label_of (to_leaf x s) = refl

continues_of : (e : Branch) → continues (entry_of e) ≡ has_child e
continues_of (to_node x) = refl
continues_of (to_leaf x s) = refl

entry_labels : (es : List Branch) → map label_of es ≡ map entry_label (map entry_of es)
entry_labels [] = refl
entry_labels (e ∷ es) = ap₂ ◌∷◌ (sym (entry_label_of e)) (entry_labels es)

entries_continue : (es : List Branch) → map has_child es ≡ map continues (map entry_of es)
entries_continue [] = refl
entries_continue (e ∷ es) = ap₂ ◌∷◌ (sym (continues_of e)) (entries_continue es)

sparse_of_entries : (n : Node) → Labelled n → NodeEntries n (sparse_of n)
unfolding sparse_labels sparse_has_child
sparse_of_entries (node o []) f = absurd f
sparse_of_entries (node none (e ∷ es)) f = node_entries _ _ (entry_labels (e ∷ es)) (entries_continue (e ∷ es))
sparse_of_entries (node (some s) (e ∷ es)) f = node_entries _ _ (ap (λ (z : Bytes). 255 ∷ z) (entry_labels (e ∷ es))) (ap (λ (z : Bits). false ∷ z) (entries_continue (e ∷ es)))

-- The labels and bits of sparse nodes are those of their entries.
pub sparse_of_bits : (ns : List Node) → All Labelled ns → SparseBits ns (map sparse_of ns)
unfolding concat
sparse_of_bits [] f = record { labels = refl; children = refl; louds = refl }
sparse_of_bits (n ∷ ns) f = sparse_step n (sparse_of n) (sparse_of_entries n f.0) (sparse_of_bits ns f.1)

zip_entries_maps : (es : List Entry) → zip_entries (map entry_label es) (map continues es) ≡ es
unfolding zip_entries
zip_entries_maps [] = refl
zip_entries_maps (entry x c ∷ es) = ap (λ (z : List Entry). entry x c ∷ z) (zip_entries_maps es)

split_behind_node : (xs : List Entry) (ys : Bits) (cs : List Sparse) → ((e : Entry) → split_behind e xs ys ≡ sparse e [] ∷ cs) → (es : List Entry) (e : Entry) → split_behind e (es ++ xs) (replicate (length es) false ++ ys) ≡ sparse e es ∷ cs
unfolding split_behind prepend
split_behind_node xs ys cs h [] e = h e
split_behind_node xs ys cs h (f ∷ es) e = ap (prepend e) (split_behind_node xs ys cs h es f)

split_behind_nodes : (cs : List Sparse) (e : Entry) → split_behind e (concat (map sparse_entries cs)) (concat (map sparse_louds cs)) ≡ sparse e [] ∷ cs
unfolding split_behind concat
split_behind_nodes [] e = refl
split_behind_nodes (sparse f fs ∷ cs) e = ap (λ (z : List Sparse). sparse e [] ∷ z) (split_behind_node (concat (map sparse_entries cs)) (concat (map sparse_louds cs)) cs (λ g. split_behind_nodes cs g) fs f)

split_entries : (cs : List Sparse) → split (concat (map sparse_entries cs)) (concat (map sparse_louds cs)) ≡ cs
unfolding split concat
split_entries [] = refl
split_entries (sparse e es ∷ cs) = split_behind_node (concat (map sparse_entries cs)) (concat (map sparse_louds cs)) cs (split_behind_nodes cs) es e

-- Sparse nodes are read back from their labels and bits, entry by entry.
pub split_nodes : (ns : List Node) → All Labelled ns → split (zip_entries (concat (map sparse_labels ns)) (concat (map sparse_has_child ns))) (concat (map louds ns)) ≡ map sparse_of ns
split_nodes ns f =
    let s = sparse_of_bits ns f in
    rw (s.labels, s.children, s.louds, zip_entries_maps (concat (map sparse_entries (map sparse_of ns)))) (split_entries (map sparse_of ns))

-- A first of two or more labels is not FF.
first_not_extra : (o : Option Bits) (e f : Branch) (es : List Branch) → Labelled (node o (e ∷ f ∷ es)) → ByteLabels (node o (e ∷ f ∷ es)) → eqb (entry_label (entry_of e)) 255 ≡ false
first_not_extra o e f es r s = ne_eqb (entry_label (entry_of e)) 255 (λ q. omega (arith, entry_label_of e, r.0, s.1.0))

sparse_of_shape : (n : Node) → Labelled n → ByteLabels n → (sparse_shape (sparse_of n) ≡ shape_of n) × (extra_ends (sparse_of n) ≡ true)
unfolding sparse_shape extra_ends
sparse_of_shape (node o []) f s = absurd f
sparse_of_shape (node none (e ∷ [])) f s = (refl, refl)
sparse_of_shape (node none (e ∷ g ∷ es)) f s = let q = first_not_extra none e g es f s in (rw q, rw q)
sparse_of_shape (node (some t) (e ∷ es)) f s = (refl, refl)

-- Sparse nodes are read back from their entries, but for their slots, and the extra FF does not continue.
pub sparse_shapes_back : (ns : List Node) → All Labelled ns → All ByteLabels ns → (map sparse_shape (map sparse_of ns) ≡ map shape_of ns) × (all extra_ends (map sparse_of ns) ≡ true)
unfolding all
sparse_shapes_back [] f s = (refl, refl)
sparse_shapes_back (n ∷ ns) f s =
    let a = sparse_of_shape n f.0 s.0 in
    let b = sparse_shapes_back ns f.1 s.1 in
    (ap₂ ◌∷◌ a.0 b.0, rw a.1 b.1)

-- ---- S-LOUDS

ones_zeros : (k : ℕ) (bs : Bits) → ones (replicate k false ++ bs) ≡ ones bs
unfolding ones
ones_zeros zero bs = refl
ones_zeros (suc k) bs = omega (arith, ones_zeros k bs)

sparse_louds_ones : (cs : List Sparse) → (ones (concat (map sparse_louds cs)) ≡ length cs) × (first_set (concat (map sparse_louds cs)) ≡ true)
unfolding ones concat first_set
sparse_louds_ones [] = (refl, refl)
sparse_louds_ones (sparse e es ∷ cs) = (omega (arith, ones_zeros (length es) (concat (map sparse_louds cs)), (sparse_louds_ones cs).0), refl)

-- S-LOUDS has a one for each sparse node, and its first bit is set.
pub louds_ones : (ns : List Node) → All Labelled ns → (ones (concat (map louds ns)) ≡ length ns) × (first_set (concat (map louds ns)) ≡ true)
louds_ones ns f =
    let s = sparse_of_bits ns f in
    let o = sparse_louds_ones (map sparse_of ns) in
    (ap ones s.louds ∙ o.0 ∙ length-map ns sparse_of, ap first_set s.louds ∙ o.1)

-- ---- lengths

length_sparse_louds : (cs : List Sparse) → length (concat (map sparse_louds cs)) ≡ length (concat (map sparse_entries cs))
unfolding concat
length_sparse_louds [] = refl
length_sparse_louds (sparse e es ∷ cs) =
    omega (arith, length-append (replicate (length es) false) (concat (map sparse_louds cs)), length-replicate (length es) false, length-append es (concat (map sparse_entries cs)), length_sparse_louds cs)

-- S-HasChild has a bit for each entry.
pub length_sc : (ss : List Node) → All Labelled ss → length (concat (map sparse_has_child ss)) ≡ length (concat (map sparse_labels ss))
length_sc ss f =
    let s = sparse_of_bits ss f in
    ap length s.children ∙ length-map (concat (map sparse_entries (map sparse_of ss))) continues ∙ sym (length-map (concat (map sparse_entries (map sparse_of ss))) entry_label) ∙ sym (ap length s.labels)

-- S-LOUDS has a bit for each entry.
pub length_sb : (ss : List Node) → All Labelled ss → length (concat (map louds ss)) ≡ length (concat (map sparse_labels ss))
length_sb ss f =
    let s = sparse_of_bits ss f in
    ap length s.louds ∙ length_sparse_louds (map sparse_of ss) ∙ sym (length-map (concat (map sparse_entries (map sparse_of ss))) entry_label) ∙ sym (ap length s.labels)
