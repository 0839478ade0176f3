-- The node that the literal form has at a prefix of cut keys: it is the root of the leaves behind that prefix, and it writes what the prefix writes.
-- Used by the literal image and by node numbers.
use Rattle.std.specs.Prelude.{ℕ, suc, ◌-◌, ◌≡◌, Bool, ◌&&◌, ◌||◌, length, take, eqb, ltb}
use Rattle.std.proofs.Math.Path.{refl, ap, ap₂}
use Rattle.std.proofs.Common.{◌∙◌, sym, true≢false, eqb-true}
use Rattle.std.proofs.Math.Bool.{cond, false, true, and-false, not}
use mathlib.Core.List.{[], ◌∷◌, map, List, map-map, ◌++◌, map-append}
use Rattle.std.proofs.Math.Option.{some, none}
use Rattle.std.proofs.Math.ListN.{replicate}
use Rattle.std.proofs.Math.Dec.{leb-suc-suc}
use Rattle.spec.specs.Bytes.{Bytes, Bits, any, filter, begins, equal, dedup, concat, iota}
use Rattle.spec.specs.Leaves.{Leaf}
use Rattle.spec.specs.Image.{above, is_node, is_leaf, leaf_at, branches, label, has}
use Rattle.spec.specs.Nodes.{Group, Branch, to_node, to_leaf, Node, node}
use Rattle.theory.proofs.Lists.{map_ext, eqb_self, concat_append}
use Rattle.theory.proofs.LevelTrie.{rest_of}
use Rattle.spec.specs.Image as Literal
use Rattle.spec.specs.Nodes as Node
use Rattle.theory.proofs.NodeBits as Level

-- ---- the leaves behind a prefix

-- a leaf, if its cut key begins with x, before others
unfoldable pub behind_cut : ℕ → Bytes → Leaf → Group → Group
behind_cut x [] l g = g
behind_cut x (y ∷ c) l g = cond (eqb x y) (rest_of c l ∷ g) g

-- the leaves whose cut key begins with x, each with the rest of it
unfoldable pub behind : ℕ → Group → Group
unfolding behind_cut
behind x [] = []
behind x (l ∷ ls) = behind_cut x l.cut l (behind x ls)

-- the leaves whose cut key begins with p, each with the rest of it
unfoldable pub under_prefix : Bytes → Group → Group
unfolding behind
under_prefix [] g = g
under_prefix (x ∷ p) g = under_prefix p (behind x g)

-- ---- one byte of the prefix

-- Some leaf passes a test that asks for the first byte x and for r of the rest, where one behind x passes r.
any_behind : (q r : Leaf → Bool) (x : ℕ)
    → ((e : Bool) (s : Bits) → q (record { cut = []; exact = e; suffix = s }) ≡ false)
    → ((y : ℕ) (c : Bytes) (e : Bool) (s : Bits) → q (record { cut = y ∷ c; exact = e; suffix = s }) ≡ eqb x y && r (record { cut = c; exact = e; suffix = s }))
    → (g : Group) → any q g ≡ any r (behind x g)
unfolding any behind behind_cut
any_behind q r x f h [] = refl
any_behind q r x f h (l ∷ g) = go l.cut l.exact l.suffix (any_behind q r x f h g)
  where
    one : (b : Bool) (l : Leaf) → any q g ≡ any r (behind x g) → (b && r l) || any q g ≡ any r (cond b (l ∷ behind x g) (behind x g))
    one true l ih = ap (λ (z : Bool). r l || z) ih
    one false l ih = ih

    go : (c : Bytes) (e : Bool) (s : Bits) → any q g ≡ any r (behind x g)
        → q (record { cut = c; exact = e; suffix = s }) || any q g ≡ any r (behind_cut x c (record { cut = c; exact = e; suffix = s }) (behind x g))
    go [] e s ih = rw (f e s) ih
    go (y ∷ c) e s ih = rw (h y c e s) (one (eqb x y) (record { cut = c; exact = e; suffix = s }) ih)

-- The leaves that pass such a test, by their rests.
filter_behind : {B : Type 0} (q r : Leaf → Bool) (u v : Leaf → B) (x : ℕ)
    → ((e : Bool) (s : Bits) → q (record { cut = []; exact = e; suffix = s }) ≡ false)
    → ((y : ℕ) (c : Bytes) (e : Bool) (s : Bits) → q (record { cut = y ∷ c; exact = e; suffix = s }) ≡ eqb x y && r (record { cut = c; exact = e; suffix = s }))
    → ((c : Bytes) (e : Bool) (s : Bits) → u (record { cut = x ∷ c; exact = e; suffix = s }) ≡ v (record { cut = c; exact = e; suffix = s }))
    → (g : Group) → map u (filter q g) ≡ map v (filter r (behind x g))
unfolding filter behind behind_cut
filter_behind q r u v x f h w [] = refl
filter_behind q r u v x f h w (l ∷ g) = go l.cut l.exact l.suffix (filter_behind q r u v x f h w g)
  where
    two : (b : Bool) (m n : Leaf) → u m ≡ v n → map u (filter q g) ≡ map v (filter r (behind x g)) → map u (cond b (m ∷ filter q g) (filter q g)) ≡ map v (cond b (n ∷ filter r (behind x g)) (filter r (behind x g)))
    two true m n z ih = ap₂ ◌∷◌ z ih
    two false m n z ih = ih

    one : (b : Bool) (y : ℕ) → eqb x y ≡ b → (c : Bytes) (e : Bool) (s : Bits) → map u (filter q g) ≡ map v (filter r (behind x g))
        → map u (cond (b && r (record { cut = c; exact = e; suffix = s })) (record { cut = y ∷ c; exact = e; suffix = s } ∷ filter q g) (filter q g))
        ≡ map v (filter r (cond b (record { cut = c; exact = e; suffix = s } ∷ behind x g) (behind x g)))
    one true y p c e s ih = rw (← eqb-true x y p) (two (r (record { cut = c; exact = e; suffix = s })) (record { cut = x ∷ c; exact = e; suffix = s }) (record { cut = c; exact = e; suffix = s }) (w c e s) ih)
    one false y p c e s ih = ih

    go : (c : Bytes) (e : Bool) (s : Bits) → map u (filter q g) ≡ map v (filter r (behind x g))
        → map u (cond (q (record { cut = c; exact = e; suffix = s })) (record { cut = c; exact = e; suffix = s } ∷ filter q g) (filter q g))
        ≡ map v (filter r (behind_cut x c (record { cut = c; exact = e; suffix = s }) (behind x g)))
    go [] e s ih = rw (f e s) ih
    go (y ∷ c) e s ih = rw (h y c e s) (one (eqb x y) y refl c e s ih)

above_nil : (x : ℕ) (p : Bytes) (e : Bool) (s : Bits) → above (x ∷ p) (record { cut = []; exact = e; suffix = s }) ≡ false
unfolding above begins
above_nil x p e s = and-false (ltb (suc (length p)) 0)

above_cons : (x : ℕ) (p : Bytes) (y : ℕ) (c : Bytes) (e : Bool) (s : Bits)
    → above (x ∷ p) (record { cut = y ∷ c; exact = e; suffix = s }) ≡ eqb x y && above p (record { cut = c; exact = e; suffix = s })
unfolding above begins
above_cons x p y c e s = rw (leb-suc-suc (suc (length p)) (length c)) (swap (ltb (length p) (length c)) (eqb x y) (begins p c))
  where
    swap : (a b d : Bool) → a && (b && d) ≡ b && (a && d)
    swap true b d = refl
    swap false true d = refl
    swap false false d = refl

-- A prefix is a node where its rest is one of the leaves behind its first byte.
pub is_node_behind : (x : ℕ) (p : Bytes) (g : Group) → is_node g (x ∷ p) ≡ is_node (behind x g) p
unfolding is_node
is_node_behind x p g = any_behind (above (x ∷ p)) (above p) x (above_nil x p) (above_cons x p) g

-- A prefix is a cut key where its rest is one of the leaves behind its first byte.
is_leaf_behind : (x : ℕ) (p : Bytes) (g : Group) → is_leaf g (x ∷ p) ≡ is_leaf (behind x g) p
unfolding is_leaf equal
is_leaf_behind x p g = any_behind (λ l. equal (x ∷ p) l.cut) (λ l. equal p l.cut) x (λ e s. refl) (λ y c e s. refl) g

-- the slots of the leaves at a prefix
unfoldable pub slots_at : Group → Bytes → List Bits
unfolding leaf_at
slots_at g p = map (λ l. l.suffix) (leaf_at g p)

-- A prefix's slots are those of its rest, among the leaves behind its first byte.
pub slots_at_behind : (x : ℕ) (p : Bytes) (g : Group) → slots_at g (x ∷ p) ≡ slots_at (behind x g) p
unfolding slots_at leaf_at equal
slots_at_behind x p g = filter_behind (λ l. equal (x ∷ p) l.cut) (λ l. equal p l.cut) (λ l. l.suffix) (λ l. l.suffix) x (λ e s. refl) (λ y c e s. refl) (λ c e s. refl) g

-- one byte more in front
abbrev pub cons : ℕ → Bytes → Bytes
cons x p = x ∷ p

-- Neighbours that are equal stay so behind one more byte.
pub dedup_cons : (x : ℕ) (ps : List Bytes) → dedup (map (cons x) ps) ≡ map (cons x) (dedup ps)
unfolding dedup equal
dedup_cons x [] = refl
dedup_cons x (p ∷ []) = refl
dedup_cons x (p ∷ q ∷ ps) = rw (eqb_self x) (go (equal p q) (dedup_cons x (q ∷ ps)))
  where
    go : (b : Bool) → dedup (map (cons x) (q ∷ ps)) ≡ map (cons x) (dedup (q ∷ ps))
        → cond b (dedup (map (cons x) (q ∷ ps))) ((x ∷ p) ∷ dedup (map (cons x) (q ∷ ps))) ≡ map (cons x) (cond b (dedup (q ∷ ps)) (p ∷ dedup (q ∷ ps)))
    go true ih = ih
    go false ih = ap (λ (z : List Bytes). (x ∷ p) ∷ z) ih

-- A prefix's branches are those of its rest, among the leaves behind its first byte.
pub branches_behind : (x : ℕ) (p : Bytes) (g : Group) → branches g (x ∷ p) ≡ map (cons x) (branches (behind x g) p)
unfolding branches
branches_behind x p g =
    ap dedup (filter_behind (above (x ∷ p)) (above p) (λ l. take (suc (suc (length p))) l.cut) (λ l. x ∷ take (suc (length p)) l.cut) x (above_nil x p) (above_cons x p) (λ c e s. refl) g
    ∙ sym (map-map (cons x) (λ l. take (suc (length p)) l.cut) (filter (above p) (behind x g))))
    ∙ dedup_cons x (map (λ l. take (suc (length p)) l.cut) (filter (above p) (behind x g)))

-- ---- the node at a prefix

-- the branch from the prefix p to q
unfoldable pub branch_at : Group → Bytes → Bytes → Branch
unfolding is_node slots_at concat
branch_at g p q = cond (is_node g q) (to_node (label p q)) (to_leaf (label p q) (concat (slots_at g q)))

-- the node at the prefix p: the slot of its exact leaf, if it is one, and its branches
unfoldable pub node_at : Group → Bytes → Node
unfolding is_leaf slots_at concat branch_at branches
node_at g p = node (cond (is_leaf g p) (some (concat (slots_at g p))) none) (map (branch_at g p) (branches g p))

branch_at_behind : (x : ℕ) (p : Bytes) (g : Group) (q : Bytes) → branch_at g (x ∷ p) (x ∷ q) ≡ branch_at (behind x g) p q
unfolding branch_at
branch_at_behind x p g q = rw (is_node_behind x q g, slots_at_behind x q g)

node_at_behind : (x : ℕ) (p : Bytes) (g : Group) → node_at g (x ∷ p) ≡ node_at (behind x g) p
unfolding node_at
node_at_behind x p g = rw (is_leaf_behind x p g, slots_at_behind x p g, branches_behind x p g, map-map (branch_at g (x ∷ p)) (cons x) (branches (behind x g) p), map_ext (λ q. branch_at g (x ∷ p) (x ∷ q)) (branch_at (behind x g) p) (branch_at_behind x p g) (branches (behind x g) p))

-- A prefix's node is the root of the leaves behind it.
pub node_at_under : (p : Bytes) (g : Group) → node_at g p ≡ node_at (under_prefix p g) []
unfolding under_prefix
node_at_under [] g = refl
node_at_under (x ∷ p) g = node_at_behind x p g ∙ node_at_under p (behind x g)

-- ---- what a prefix writes

module _ (g : Group) (p : Bytes) where
  is_exact_at : Node.is_exact (node_at g p) ≡ is_leaf g p
  unfolding node_at
  is_exact_at = go (is_leaf g p)
    where
      go : (b : Bool) → Node.is_exact (node (cond b (some (concat (slots_at g p))) none) (map (branch_at g p) (branches g p))) ≡ b
      go true = refl
      go false = refl

  label_at : (q : Bytes) → Node.label_of (branch_at g p q) ≡ label p q
  unfolding branch_at
  label_at q = go (is_node g q)
    where
      go : (b : Bool) → Node.label_of (cond b (to_node (label p q)) (to_leaf (label p q) (concat (slots_at g q)))) ≡ label p q
      go true = refl
      go false = refl

  has_child_at : (q : Bytes) → Node.has_child (branch_at g p q) ≡ is_node g q
  unfolding branch_at
  has_child_at q = go (is_node g q)
    where
      go : (b : Bool) → Node.has_child (cond b (to_node (label p q)) (to_leaf (label p q) (concat (slots_at g q)))) ≡ b
      go true = refl
      go false = refl

  branches_at : Node.branches_of (node_at g p) ≡ map (branch_at g p) (branches g p)
  unfolding node_at
  branches_at = refl

  labels_at : map Node.label_of (Node.branches_of (node_at g p)) ≡ map (label p) (branches g p)
  labels_at = rw (branches_at, map-map Node.label_of (branch_at g p) (branches g p)) (map_ext (λ q. Node.label_of (branch_at g p q)) (label p) label_at (branches g p))

  child_labels_at : (qs : List Bytes) → map Node.label_of (filter Node.has_child (map (branch_at g p) qs)) ≡ map (label p) (filter (is_node g) qs)
  unfolding filter
  child_labels_at [] = refl
  child_labels_at (q ∷ qs) = rw (has_child_at q) (go (is_node g q) (child_labels_at qs))
    where
      go : (b : Bool) → map Node.label_of (filter Node.has_child (map (branch_at g p) qs)) ≡ map (label p) (filter (is_node g) qs)
          → map Node.label_of (cond b (branch_at g p q ∷ filter Node.has_child (map (branch_at g p) qs)) (filter Node.has_child (map (branch_at g p) qs))) ≡ map (label p) (cond b (q ∷ filter (is_node g) qs) (filter (is_node g) qs))
      go true ih = ap₂ ◌∷◌ (label_at q) ih
      go false ih = ih

  -- A prefix's D-Labels are its node's.
  pub dense_labels_at : Literal.dense_labels g p ≡ Level.dense_labels (node_at g p)
  unfolding Literal.dense_labels Level.dense_labels
  dense_labels_at = ap (λ (xs : List ℕ). map (has xs) (iota 0 256)) (sym labels_at)

  -- A prefix's D-HasChild bits are its node's.
  pub dense_has_child_at : Literal.dense_has_child g p ≡ Level.dense_has_child (node_at g p)
  unfolding Literal.dense_has_child Level.dense_has_child
  dense_has_child_at = ap (λ (xs : List ℕ). map (has xs) (iota 0 256)) (sym (ap (λ (es : List Branch). map Node.label_of (filter Node.has_child es)) branches_at ∙ child_labels_at (branches g p)))

  -- A prefix's D-IsPrefixKey bit is its node's.
  pub is_leaf_at : is_leaf g p ≡ Node.is_exact (node_at g p)
  is_leaf_at = sym is_exact_at

  -- A prefix's S-Labels are its node's.
  pub sparse_labels_at : Literal.sparse_labels g p ≡ Level.sparse_labels (node_at g p)
  unfolding Literal.sparse_labels Level.sparse_labels
  sparse_labels_at = rw (is_exact_at, labels_at)

  -- A prefix's S-HasChild bits are its node's.
  pub sparse_has_child_at : Literal.sparse_has_child g p ≡ Level.sparse_has_child (node_at g p)
  unfolding Literal.sparse_has_child Level.sparse_has_child
  sparse_has_child_at = rw (is_exact_at, branches_at, map-map Node.has_child (branch_at g p) (branches g p), map_ext (λ q. Node.has_child (branch_at g p q)) (is_node g) has_child_at (branches g p))

  -- A prefix's S-LOUDS bits are its node's.
  pub louds_at : Literal.louds g p ≡ Level.louds (node_at g p)
  unfolding Literal.louds Level.louds
  louds_at = ap (λ (xs : Bytes). true ∷ replicate (length xs - 1) false) sparse_labels_at

  no_leaf_at : (ls : Group) → any (λ l. equal p l.cut) ls ≡ false → filter (λ l. equal p l.cut) ls ≡ []
  unfolding any filter
  no_leaf_at [] h = refl
  no_leaf_at (l ∷ ls) h = go (equal p l.cut) h (λ k. no_leaf_at ls k)
    where
      go : (b : Bool) → b || any (λ l. equal p l.cut) ls ≡ false → (any (λ l. equal p l.cut) ls ≡ false → filter (λ l. equal p l.cut) ls ≡ []) → cond b (l ∷ filter (λ l. equal p l.cut) ls) (filter (λ l. equal p l.cut) ls) ≡ []
      go true h f = absurd (true≢false h)
      go false h f = f h

  exact_slot_at : Node.exact_slot (node_at g p) ≡ concat (slots_at g p)
  unfolding node_at slots_at leaf_at is_leaf concat
  exact_slot_at = go (is_leaf g p) refl
    where
      go : (b : Bool) → is_leaf g p ≡ b → Node.exact_slot (node (cond b (some (concat (slots_at g p))) none) (map (branch_at g p) (branches g p))) ≡ concat (slots_at g p)
      go true e = refl
      go false e = rw (no_leaf_at g e)

  branch_slots_at : (qs : List Bytes) → concat (map Node.slot (map (branch_at g p) qs)) ≡ concat (map (λ l. l.suffix) (concat (map (leaf_at g) (filter (λ q. not (is_node g q)) qs))))
  unfolding concat filter branch_at slots_at
  branch_slots_at [] = refl
  branch_slots_at (q ∷ qs) = go (is_node g q) (branch_slots_at qs)
    where
      go : (b : Bool) → concat (map Node.slot (map (branch_at g p) qs)) ≡ concat (map (λ l. l.suffix) (concat (map (leaf_at g) (filter (λ q. not (is_node g q)) qs))))
          → Node.slot (cond b (to_node (label p q)) (to_leaf (label p q) (concat (map (λ l. l.suffix) (leaf_at g q))))) ++ concat (map Node.slot (map (branch_at g p) qs))
          ≡ concat (map (λ l. l.suffix) (concat (map (leaf_at g) (cond (not b) (q ∷ filter (λ q. not (is_node g q)) qs) (filter (λ q. not (is_node g q)) qs)))))
      go true ih = ih
      go false ih = rw (map-append (λ l. l.suffix) (leaf_at g q) (concat (map (leaf_at g) (filter (λ q. not (is_node g q)) qs))), concat_append (map (λ l. l.suffix) (leaf_at g q)) (map (λ l. l.suffix) (concat (map (leaf_at g) (filter (λ q. not (is_node g q)) qs))))) (ap (λ (z : Bits). concat (map (λ l. l.suffix) (leaf_at g q)) ++ z) ih)

  -- A prefix's slots are its node's.
  pub slots_at_node : Literal.slots g p ≡ Level.slots (node_at g p)
  unfolding Literal.slots Level.slots slots_at
  slots_at_node = rw (exact_slot_at, branches_at, branch_slots_at (branches g p), map-append (λ l. l.suffix) (leaf_at g p) (concat (map (leaf_at g) (filter (λ q. not (is_node g q)) (branches g p))))) (concat_append (map (λ l. l.suffix) (leaf_at g p)) (map (λ l. l.suffix) (concat (map (leaf_at g) (filter (λ q. not (is_node g q)) (branches g p))))))
