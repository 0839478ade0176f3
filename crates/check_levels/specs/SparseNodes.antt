-- The sparse nodes entry by entry: what number 14 asks of them, the branches before each and the leaves among them, read off the entries and S-LOUDS bits in one go.
use Rattle.std.specs.Prelude.{ℕ, zero, suc, ◌+◌, ◌≡◌, refl, Bool, true, false, cond, ◌&&◌, ◌||◌, not, List, [], ◌∷◌, map, length, take, ltb, eqb}
use Rattle.std.proofs.Common.{sym, ap, ap₂, ◌∙◌, true≢false, arith, add-zero, take_all}
use Rattle.std.proofs.Math.Bool.{and_assoc, and-true}
use Rattle.std.proofs.lemmas.List.{length-map}
use Rattle.std.proofs.Math.Seq.{take-nil}
use Rattle.spec.specs.Bytes.{Bits, all, count, bit, ones}
use Rattle.spec.specs.Nodes.{Entry, entry, entry_label, continues, Shape, shape, Sparse, sparse, prepend, split_behind, sparse_shape, extra_ends, total}
use Rattle.check_levels.specs.Tests.{swap_middle}
use Rattle.check_levels.specs.Shapes.{ends_here, rising, branches, leaves_at, root_valid, non_root_valid, nodes_from}
use Rattle.theory.proofs.Lists.{and_both}

-- an entry behind which its node ends: a sole entry continues, except at the root
abbrev pub last_valid : Bool → Bool → Entry → Bool
last_valid root start e = not start || continues e || root

-- two entries of one node: behind a first FF, which is the node's exact leaf, it does not continue and the node is not the root; else labels ascend
abbrev pub next_correct : Bool → Bool → Entry → Entry → Bool
next_correct root start e f = cond (start && eqb (entry_label e) 255) (not (continues e) && not root) (ltb (entry_label e) (entry_label f))

-- the entries from e on, with the S-LOUDS bits behind it: whether e is in the root, and whether it is the first of its node
unfoldable pub entries_valid : Bool → Bool → Entry → List Entry → Bits → Bool
entries_valid root start e [] bs = last_valid root start e
entries_valid root start e (f ∷ es) [] = last_valid root start e
entries_valid root start e (f ∷ es) (true ∷ bs) = last_valid root start e && entries_valid false true f es bs
entries_valid root start e (f ∷ es) (false ∷ bs) = next_correct root start e f && entries_valid false false f es bs

-- ---- node by node

-- the first entry of a node, or a later one, and those behind it
unfoldable node_valid : Bool → Bool → Sparse → Bool
unfolding rising
node_valid root start (sparse e []) = last_valid root start e
node_valid root start (sparse e (f ∷ es)) = next_correct root start e f && rising (f ∷ es)

unfoldable nodes_valid : Bool → Bool → List Sparse → Bool
unfolding all node_valid
nodes_valid root start [] = true
nodes_valid root start (c ∷ cs) = node_valid root start c && all (node_valid false true) cs

-- the first node starts with the first entry
pub record First (e : Entry) (cs : List Sparse) : Type 0 where
  pub behind : List Entry
  pub others : List Sparse
  pub are : cs ≡ sparse e behind ∷ others

pub first_node : (e : Entry) (es : List Entry) (bs : Bits) → First e (split_behind e es bs)
unfolding split_behind prepend
first_node e [] bs = record { behind = []; others = []; are = refl }
first_node e (f ∷ es) [] = record { behind = []; others = []; are = refl }
first_node e (f ∷ es) (true ∷ bs) = record { behind = []; others = split_behind f es bs; are = refl }
first_node e (f ∷ es) (false ∷ bs) =
    let n = first_node f es bs in
    record { behind = f ∷ n.behind; others = n.others; are = ap (prepend e) n.are }

later_entry : (e f : Entry) (fs : List Entry) → node_valid false false (sparse f fs) ≡ rising (f ∷ fs)
unfolding node_valid rising
later_entry e f [] = refl
later_entry e f (g ∷ fs) = refl

entries_nodes : (root start : Bool) (e : Entry) (es : List Entry) (bs : Bits) → entries_valid root start e es bs ≡ nodes_valid root start (split_behind e es bs)
unfolding entries_valid nodes_valid node_valid split_behind prepend all
entries_nodes root start e [] bs = sym (and-true (last_valid root start e))
entries_nodes root start e (f ∷ es) [] = sym (and-true (last_valid root start e))
entries_nodes root start e (f ∷ es) (true ∷ bs) = ap (λ (t : Bool). last_valid root start e && t) (entries_nodes false true f es bs ∙ every_node (split_behind f es bs))
  where
    every_node : (cs : List Sparse) → nodes_valid false true cs ≡ all (node_valid false true) cs
    every_node [] = refl
    every_node (c ∷ cs) = refl
entries_nodes root start e (f ∷ es) (false ∷ bs) = ap (λ (t : Bool). next_correct root start e f && t) (entries_nodes false false f es bs) ∙ go (first_node f es bs)
  where
    go : First f (split_behind f es bs) → next_correct root start e f && nodes_valid false false (split_behind f es bs) ≡ nodes_valid root start (prepend e (split_behind f es bs))
    go n =
        rw n.are
        (ap (λ (t : Bool). next_correct root start e f && (t && all (node_valid false true) n.others)) (later_entry e f n.behind)
        ∙ sym (and_assoc (next_correct root start e f) (rising (f ∷ n.behind)) (all (node_valid false true) n.others)))

-- ---- a node and its shape

node_shape : (root : Bool) (c : Sparse) → node_valid root true c ≡ extra_ends c && cond root (root_valid (sparse_shape c)) (non_root_valid (sparse_shape c))
unfolding node_valid extra_ends sparse_shape rising
node_shape true (sparse (entry x true) []) = refl
node_shape true (sparse (entry x false) []) = refl
node_shape false (sparse (entry x true) []) = refl
node_shape false (sparse (entry x false) []) = refl
node_shape root (sparse (entry x c) (f ∷ es)) = go root c (eqb x 255)
  where
    go : (root c b : Bool) → cond b (not c && not root) (ltb x (entry_label f)) && rising (f ∷ es)
        ≡ not (b && c) && cond root (root_valid (cond b (shape true (f ∷ es)) (shape false (entry x c ∷ f ∷ es)))) (non_root_valid (cond b (shape true (f ∷ es)) (shape false (entry x c ∷ f ∷ es))))
    go true true true = refl
    go true true false = refl
    go true false true = refl
    go true false false = refl
    go false true true = refl
    go false true false = sym (and-true (ltb x (entry_label f) && rising (f ∷ es)))
    go false false true = sym (and-true (rising (f ∷ es)))
    go false false false = sym (and-true (ltb x (entry_label f) && rising (f ∷ es)))

all_shapes : (cs : List Sparse) → all (node_valid false true) cs ≡ all extra_ends cs && all non_root_valid (map sparse_shape cs)
unfolding all
all_shapes [] = refl
all_shapes (c ∷ cs) = ap₂ ◌&&◌ (node_shape false c) (all_shapes cs) ∙ swap_middle (extra_ends c) (non_root_valid (sparse_shape c)) (all extra_ends cs) (all non_root_valid (map sparse_shape cs))

-- the tests entry by entry are those of the nodes
pub entries_shapes : (root : Bool) (e : Entry) (es : List Entry) (bs : Bits)
    → entries_valid root true e es bs ≡ all extra_ends (split_behind e es bs) && nodes_from root (map sparse_shape (split_behind e es bs))
unfolding nodes_valid nodes_from all
entries_shapes root e es bs = entries_nodes root true e es bs ∙ go root (split_behind e es bs)
  where
    go : (root : Bool) (cs : List Sparse) → nodes_valid root true cs ≡ all extra_ends cs && nodes_from root (map sparse_shape cs)
    go root [] = refl
    go true (c ∷ cs) = ap₂ ◌&&◌ (node_shape true c) (all_shapes cs) ∙ swap_middle (extra_ends c) (root_valid (sparse_shape c)) (all extra_ends cs) (all non_root_valid (map sparse_shape cs))
    go false (c ∷ cs) = ap₂ ◌&&◌ (node_shape false c) (all_shapes cs) ∙ swap_middle (extra_ends c) (non_root_valid (sparse_shape c)) (all extra_ends cs) (all non_root_valid (map sparse_shape cs))

-- ---- counts

-- as many nodes as S-LOUDS bits are set, the first one's own aside
pub length_split : (e : Entry) (es : List Entry) (bs : Bits) → length bs ≡ length es → length (split_behind e es bs) ≡ suc (ones bs)
unfolding split_behind prepend ones
length_split e [] [] h = refl
length_split e [] (b ∷ bs) h = absurd (omega arith)
length_split e (f ∷ es) [] h = absurd (omega arith)
length_split e (f ∷ es) (true ∷ bs) h = omega (arith, length_split f es bs (omega arith))
length_split e (f ∷ es) (false ∷ bs) h = go (split_behind f es bs) (length_split f es bs (omega arith)) (first_node f es bs)
  where
    go : (cs : List Sparse) → length cs ≡ suc (ones bs) → First f cs → length (prepend e cs) ≡ suc (0 + ones bs)
    go cs l n = rw n.are (sym (ap length n.are) ∙ omega arith)

-- where the m-th one of some bits stands, counted from 0, or their length
unfoldable pub position_of : ℕ → Bits → ℕ
position_of m [] = 0
position_of m (false ∷ bs) = suc (position_of m bs)
position_of zero (true ∷ bs) = 0
position_of (suc m) (true ∷ bs) = suc (position_of m bs)

-- a node's entries
abbrev pub entries_of : Sparse → List Entry
entries_of (sparse e es) = e ∷ es

-- its continuing entries, the extra FF among them
abbrev continuing : Sparse → ℕ
continuing c = count continues (entries_of c)

-- the entries that continue before a node are the set bits before its first entry
continuing_before : (m : ℕ) (e : Entry) (es : List Entry) (bs : Bits) → length bs ≡ length es
    → total continuing (take m (split_behind e es bs)) ≡ ones (take (position_of m (true ∷ bs)) (map continues (e ∷ es)))
unfolding split_behind prepend total position_of ones count
continuing_before zero e es bs h = refl
continuing_before (suc m) e [] [] h = rw (take-nil m) (one (continues e))
  where
    one : (c : Bool) → cond c 1 0 + 0 ≡ bit c + 0
    one true = refl
    one false = refl
continuing_before (suc m) e [] (b ∷ bs) h = absurd (omega arith)
continuing_before (suc m) e (f ∷ es) [] h = absurd (omega arith)
continuing_before (suc m) e (f ∷ es) (true ∷ bs) h = ap₂ ◌+◌ (one (continues e)) (continuing_before m f es bs (omega arith))
  where
    one : (c : Bool) → cond c 1 0 ≡ bit c
    one true = refl
    one false = refl
continuing_before (suc m) e (f ∷ es) (false ∷ bs) h = go (split_behind f es bs) (continuing_before (suc m) f es bs (omega arith)) (first_node f es bs)
  where
    more : (c : Bool) (k r : ℕ) → cond c (suc k) k + r ≡ bit c + (k + r)
    more true k r = omega arith
    more false k r = omega arith

    go : (cs : List Sparse) → total continuing (take (suc m) cs) ≡ ones (take (suc (position_of m bs)) (map continues (f ∷ es))) → First f cs
        → total continuing (take (suc m) (prepend e cs)) ≡ bit (continues e) + ones (take (suc (position_of m bs)) (map continues (f ∷ es)))
    go cs h n =
        rw n.are
        (more (continues e) (count continues (f ∷ n.behind)) (total continuing (take m n.others))
        ∙ ap (λ (k : ℕ). bit (continues e) + k) (sym (ap (λ (z : List Sparse). total continuing (take (suc m) z)) n.are) ∙ h))

-- the extra FF does not continue, so a node's branches are its continuing entries
branches_of : (c : Sparse) → extra_ends c ≡ true → branches (sparse_shape c) ≡ continuing c
unfolding extra_ends sparse_shape count
branches_of (sparse e []) h = refl
branches_of (sparse (entry x c) (f ∷ es)) h = go (eqb x 255) c h
  where
    go : (b c : Bool) → not (b && c) ≡ true → branches (cond b (shape true (f ∷ es)) (shape false (entry x c ∷ f ∷ es))) ≡ count continues (entry x c ∷ f ∷ es)
    go true true h = absurd (true≢false (sym h))
    go true false h = refl
    go false true h = refl
    go false false h = refl

-- its leaves are its entries that end
pub leaves_of : (c : Sparse) → extra_ends c ≡ true → leaves_at (sparse_shape c) ≡ count ends_here (entries_of c)
unfolding extra_ends sparse_shape count
leaves_of (sparse (entry x true) []) h = refl
leaves_of (sparse (entry x false) []) h = refl
leaves_of (sparse (entry x c) (f ∷ es)) h = go (eqb x 255) c h
  where
    go : (b c : Bool) → not (b && c) ≡ true → leaves_at (cond b (shape true (f ∷ es)) (shape false (entry x c ∷ f ∷ es))) ≡ count ends_here (entry x c ∷ f ∷ es)
    go true true h = absurd (true≢false (sym h))
    go true false h = omega arith
    go false true h = omega arith
    go false false h = omega arith

-- a count over nodes, by their shapes and by their entries
pub total_shapes : (f : Shape → ℕ) (g : Sparse → ℕ) → ((c : Sparse) → extra_ends c ≡ true → f (sparse_shape c) ≡ g c)
    → (m : ℕ) (cs : List Sparse) → all extra_ends cs ≡ true → total f (take m (map sparse_shape cs)) ≡ total g (take m cs)
unfolding total all
total_shapes f g h zero cs a = refl
total_shapes f g h (suc m) [] a = refl
total_shapes f g h (suc m) (c ∷ cs) a = let b = and_both (extra_ends c) (all extra_ends cs) a in ap₂ ◌+◌ (h c b.0) (total_shapes f g h m cs b.1)

-- the branches before sparse node m are the S-HasChild bits before its first entry
pub branches_before : (m : ℕ) (e : Entry) (es : List Entry) (bs : Bits) → length bs ≡ length es → all extra_ends (split_behind e es bs) ≡ true
    → total branches (take m (map sparse_shape (split_behind e es bs))) ≡ ones (take (position_of m (true ∷ bs)) (map continues (e ∷ es)))
branches_before m e es bs h a = total_shapes branches continuing branches_of m (split_behind e es bs) a ∙ continuing_before m e es bs h

-- the entries of the nodes are all the entries
entries_kept : (e : Entry) (es : List Entry) (bs : Bits) → length bs ≡ length es → total (λ c. count ends_here (entries_of c)) (split_behind e es bs) ≡ count ends_here (e ∷ es)
unfolding split_behind prepend total count
entries_kept e [] [] h = add-zero (count ends_here (e ∷ []))
entries_kept e [] (b ∷ bs) h = absurd (omega arith)
entries_kept e (f ∷ es) [] h = absurd (omega arith)
entries_kept e (f ∷ es) (true ∷ bs) h = more (ends_here e) (count ends_here (f ∷ es)) (entries_kept f es bs (omega arith))
  where
    more : (c : Bool) (k : ℕ) {r : ℕ} → r ≡ k → cond c 1 0 + r ≡ cond c (suc k) k
    more true k q = omega arith
    more false k q = omega arith
entries_kept e (f ∷ es) (false ∷ bs) h = go (split_behind f es bs) (entries_kept f es bs (omega arith)) (first_node f es bs)
  where
    more : (c : Bool) (k r : ℕ) → cond c (suc k) k + r ≡ cond c (suc (k + r)) (k + r)
    more true k r = omega arith
    more false k r = omega arith

    go : (cs : List Sparse) → total (λ c. count ends_here (entries_of c)) cs ≡ count ends_here (f ∷ es) → First f cs
        → total (λ c. count ends_here (entries_of c)) (prepend e cs) ≡ count ends_here (e ∷ f ∷ es)
    go cs h n =
        rw n.are
        (more (ends_here e) (count ends_here (f ∷ n.behind)) (total (λ c. count ends_here (entries_of c)) n.others)
        ∙ ap (λ (k : ℕ). cond (ends_here e) (suc k) k) (sym (ap (total (λ c. count ends_here (entries_of c))) n.are) ∙ h))

-- the leaves of the sparse nodes are the entries that end
pub leaves_among : (e : Entry) (es : List Entry) (bs : Bits) → length bs ≡ length es → all extra_ends (split_behind e es bs) ≡ true
    → total leaves_at (map sparse_shape (split_behind e es bs)) ≡ count ends_here (e ∷ es)
leaves_among e es bs h a =
    let cs : List Sparse = split_behind e es bs in
    let n : ℕ = length cs in
    ap (total leaves_at) (sym (take_all n (map sparse_shape cs) (omega (arith, length-map cs sparse_shape))))
    ∙ total_shapes leaves_at (λ c. count ends_here (entries_of c)) leaves_of n cs a
    ∙ ap (total (λ c. count ends_here (entries_of c))) (take_all n cs (omega arith)) ∙ entries_kept e es bs h

-- as many entries stand before a node as bits before its first one's
entries_before : (m : ℕ) (e : Entry) (es : List Entry) (bs : Bits) → length bs ≡ length es
    → total (λ c. length (entries_of c)) (take m (split_behind e es bs)) ≡ position_of m (true ∷ bs)
unfolding split_behind prepend total position_of
entries_before zero e es bs h = refl
entries_before (suc m) e [] [] h = rw (take-nil m)
entries_before (suc m) e [] (b ∷ bs) h = absurd (omega arith)
entries_before (suc m) e (f ∷ es) [] h = absurd (omega arith)
entries_before (suc m) e (f ∷ es) (true ∷ bs) h = omega (arith, entries_before m f es bs (omega arith))
entries_before (suc m) e (f ∷ es) (false ∷ bs) h = go (split_behind f es bs) (entries_before (suc m) f es bs (omega arith)) (first_node f es bs)
  where
    go : (cs : List Sparse) → total (λ c. length (entries_of c)) (take (suc m) cs) ≡ suc (position_of m bs) → First f cs
        → total (λ c. length (entries_of c)) (take (suc m) (prepend e cs)) ≡ suc (suc (position_of m bs))
    go cs h n = rw n.are (omega (arith, sym (ap (λ (z : List Sparse). total (λ c. length (entries_of c)) (take (suc m) z)) n.are) ∙ h))

count_ends : (es : List Entry) → count ends_here es + count continues es ≡ length es
unfolding count
count_ends [] = refl
count_ends (entry x true ∷ es) = omega (arith, count_ends es)
count_ends (entry x false ∷ es) = omega (arith, count_ends es)

total_ends : (cs : List Sparse) → total (λ c. count ends_here (entries_of c)) cs + total continuing cs ≡ total (λ c. length (entries_of c)) cs
unfolding total
total_ends [] = refl
total_ends (c ∷ cs) = omega (arith, total_ends cs, count_ends (entries_of c))

-- the leaves before sparse node m, and the branches before it, are the entries before its first one
pub leaves_before : (m : ℕ) (e : Entry) (es : List Entry) (bs : Bits) → length bs ≡ length es → all extra_ends (split_behind e es bs) ≡ true
    → total leaves_at (take m (map sparse_shape (split_behind e es bs))) + ones (take (position_of m (true ∷ bs)) (map continues (e ∷ es))) ≡ position_of m (true ∷ bs)
leaves_before m e es bs h a =
    omega (
      arith,
      total_shapes leaves_at (λ c. count ends_here (entries_of c)) leaves_of m (split_behind e es bs) a,
      continuing_before m e es bs h,
      total_ends (take m (split_behind e es bs)),
      entries_before m e es bs h,
    )
