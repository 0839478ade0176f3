-- A realizable leaf list is a trie's group to the depth of its cut keys (`realizable_trie_group`), so its trie has just these leaves (`trie_leaves`).
-- Used wherever a realizable leaf list's trie is taken: the literal image, numbering, the tests of a builder's trie, reading back.
use Rattle.std.specs.Prelude.{ℕ, ◌<◌, suc, ◌≤◌, zero, ◌≡◌, refl, Bool, cond, true, false, ◌∷◌, List, [], map, ◌++◌, ◌⊎◌, length, T, eqb}
use Rattle.std.proofs.Common.{sym, subst, ◌∙◌, ap, true≢false, append-nil, inl, inr, ⊎_elim, arith, eqb-true, ne_eqb}
use Rattle.std.proofs.Math.Option.{none, some}
use Rattle.std.proofs.lemmas.Bool.{eqb-false}
use Rattle.spec.specs.Bytes.{Bytes, shared, begins, equal, Bits, filter, any, maximum, concat}
use Rattle.spec.specs.Leaves.{Leaf, others}
use Rattle.spec.specs.Nodes.{Group, prefix, node, leaves_of, groups}
use Rattle.theory.proofs.Order.{equal_self}
use Rattle.theory.specs.Terms.{In, here, there, All}
use Rattle.theory.proofs.LeafLists.{Ordered, Before, inner, less, step, BeforeAll, Shortest, Realizable, AllWellSized}
use Rattle.theory.proofs.Lists.{none_in, eqb_self, map_in, in_split, nil_of, all_split}
use Rattle.theory.proofs.LevelTrie.{Subtree, subtree, insert, NonemptyCuts, subtrees, insert_cut, no_cuts, nonempty_cut, LeafGroup, open_leaf, NodeGroup, exact_node, plain_node, SoleContinues, node_of, exact_of, branch_of, TrieGroup, Subtrees, InnerGroup, trie, groups_trie_levels}
use Rattle.theory.proofs.Witnesses.{Witness, first_in, realizable_witnesses}
use Rattle.theory.proofs.WitnessedLevels.{FirstAbove, none_above, first_above_map, first_above_less, first_above}

-- ---- the subtrees of ordered leaves

-- a group that has a leaf
pub data HasLeaf : Group → Type 0 where
  has_leaf : {l : Leaf} {ls : Group} → HasLeaf (l ∷ ls)

-- a group's leaves are those of subtrees, in order, each with a leaf and with a label below the first bytes behind it
pub data Splits : Group → List Subtree → Type 0 where
  splits_nil : Splits [] []
  splits_cons : {x : ℕ} {u rest : Group} {bs : List Subtree} → Ordered u → HasLeaf u → FirstAbove x rest → Splits rest bs → Splits (map (prefix x) u ++ rest) (subtree x u ∷ bs)

-- what the order of two cut keys says of their first bytes
abbrev FirstBytes : Bool → Bytes → Bytes → Type 0
FirstBytes e [] [] = ⊥
FirstBytes e [] (y ∷ d) = T e
FirstBytes e (x ∷ c) [] = ⊥
FirstBytes e (x ∷ c) (y ∷ d) = (x < y) ⊎ ((x ≡ y) × Before e c d)

first_bytes : {e : Bool} {c d : Bytes} → Before e c d → FirstBytes e c d
first_bytes (inner h) = h
first_bytes (less h) = inl h
first_bytes (step r) = inr (refl, r)

same_label : {e : Bool} {x : ℕ} {c d : Bytes} → Before e (x ∷ c) (x ∷ d) → Before e c d
same_label {e} {x} {c} {d} b = ⊎_elim (λ h. absurd (omega arith)) (λ p. p.1) (first_bytes b)

first_same : (x : ℕ) (l : Leaf) (u rest : Group) → BeforeAll (prefix x l) (map (prefix x) u ++ rest) → BeforeAll l u
first_same x l [] rest f = tt
first_same x l (m ∷ u) rest f = (same_label f.0, first_same x l u rest f.1)

-- Leaves that split into subtrees do so with one more leaf before them.
splits_insert : (x : ℕ) (l : Leaf) {ls : Group} {bs : List Subtree} → BeforeAll (prefix x l) ls → Splits ls bs → Splits (prefix x l ∷ ls) (insert x l bs)
unfolding insert
splits_insert x l f splits_nil = splits_cons {x = x} {u = l ∷ []} {rest = []} (tt, tt) has_leaf none_above splits_nil
splits_insert x l f (splits_cons {x = y} {u = m ∷ u} {rest = rest} {bs = bs} o a v r) = go (eqb x y) refl f
  where
    first_inv : BeforeAll (prefix x l) (map (prefix y) (m ∷ u) ++ rest) → (x < y) ⊎ ((x ≡ y) × Before l.exact l.cut m.cut)
    first_inv f = first_bytes f.0

    hit : (z : ℕ) → x ≡ z → BeforeAll (prefix x l) (map (prefix z) (m ∷ u) ++ rest) → FirstAbove z rest → Splits (prefix x l ∷ map (prefix z) (m ∷ u) ++ rest) (subtree z (l ∷ m ∷ u) ∷ bs)
    hit z e f v =
        subst (λ y. BeforeAll (prefix x l) (map (prefix y) (m ∷ u) ++ rest) → FirstAbove y rest → Splits (prefix x l ∷ map (prefix y) (m ∷ u) ++ rest) (subtree y (l ∷ m ∷ u) ∷ bs)) e
        (λ f v. splits_cons {x = x} {u = l ∷ m ∷ u} {rest = rest} (first_same x l (m ∷ u) rest f, o) has_leaf v r) f v

    go : (b : Bool) → eqb x y ≡ b → BeforeAll (prefix x l) (map (prefix y) (m ∷ u) ++ rest)
        → Splits (prefix x l ∷ map (prefix y) (m ∷ u) ++ rest) (cond b (subtree y (l ∷ m ∷ u) ∷ bs) (subtree x (l ∷ []) ∷ subtree y (m ∷ u) ∷ bs))
    go true e f = hit y (eqb-true x y e) f v
    go false e f =
        let less-than : x < y = ⊎_elim (λ h. h) (λ p. absurd (eqb-false x y e p.0)) (first_inv f) in
        splits_cons {x = x} {u = l ∷ []} {rest = map (prefix y) (m ∷ u) ++ rest} (tt, tt) has_leaf (first_above_map x y (m ∷ u) rest less-than (first_above_less less-than v)) (splits_cons {x = y} {u = m ∷ u} o a v r)
splits_insert x l f (splits_cons {x = y} {u = []} {rest = rest} {bs = bs} o a v r) = elim a [ ]

-- Ordered leaves that have a byte split into their subtrees.
pub splits : {g : Group} → NonemptyCuts g → Ordered g → Splits g (subtrees g)
unfolding subtrees insert_cut
splits no_cuts o = splits_nil
splits (nonempty_cut {x} {c} {e} {s} {ls} r) o = splits_insert x (record { cut = c; exact = e; suffix = s }) o.0 (splits r o.1)

-- First bytes above x are so without the first subtree.
first_above_rest : {z : ℕ} (x : ℕ) (u rest : Group) → FirstAbove z (map (prefix x) u ++ rest) → FirstAbove z rest
first_above_rest x [] rest v = v
first_above_rest x (l ∷ u) rest (first_above h v) = first_above_rest x u rest v

-- every label is above x
abbrev pub LabelsAbove : ℕ → List Subtree → Type 0
LabelsAbove x [] = Unit
LabelsAbove x (subtree y u ∷ bs) = (x < y) × LabelsAbove x bs

-- Labels are above x where all first bytes are.
pub labels_above : {x : ℕ} {g : Group} {bs : List Subtree} → FirstAbove x g → Splits g bs → LabelsAbove x bs
labels_above v splits_nil = tt
labels_above {x} v (splits_cons {x = y} {u = u} {rest = rest} o a w c) = (first a v, labels_above (first_above_rest y u rest v) c)
  where
    first : {u : Group} → HasLeaf u → FirstAbove x (map (prefix y) u ++ rest) → x < y
    first has_leaf (first_above h r) = h

-- ---- witnesses behind a branch

-- the first byte, if there is one, is not x
abbrev OtherByte : ℕ → Bytes → Type 0
OtherByte x [] = Unit
OtherByte x (y ∷ c) = y ≡ x → ⊥

above_other : {m : Leaf} {x : ℕ} {g : Group} → FirstAbove x g → In m g → OtherByte x m.cut
above_other (first_above {y = y} h r) here = λ q. omega arith
above_other (first_above h r) (there i) = above_other r i
above_other {m = m} none_above x4 = elim x4 [ ]

other_shared : (x : ℕ) (c d : Bytes) → OtherByte x d → shared (x ∷ c) d ≡ 0
unfolding shared
other_shared x c [] a = refl
other_shared x c (y ∷ d) a = rw (ne_eqb x y (λ q. a (sym q)))

other_begins : (x : ℕ) (c d : Bytes) → OtherByte x d → begins (x ∷ c) d ≡ false
unfolding begins
other_begins x c [] a = refl
other_begins x c (y ∷ d) a = rw (ne_eqb x y (λ q. a (sym q)))

-- the cut key has ended, or its first byte is below those of g
abbrev LowFirst : Bytes → Group → Type 0
LowFirst [] g = Unit
LowFirst (x ∷ c) g = FirstAbove x g

low_first_rest : (c : Bytes) (x : ℕ) (u rest : Group) → LowFirst c (map (prefix x) u ++ rest) → LowFirst c rest
low_first_rest [] x u rest v = tt
low_first_rest (z ∷ c) x u rest v = first_above_rest x u rest v

low_first_other : (c : Bytes) (x : ℕ) {u : Group} (rest : Group) → HasLeaf u → LowFirst c (map (prefix x) u ++ rest) → OtherByte x c
low_first_other [] x rest has_leaf v = tt
low_first_other (z ∷ c) x rest has_leaf (first_above h v) = λ q. omega arith

-- every leaf of G is in g, or its cut key has ended or is below those of g
abbrev InsideOrLow : Group → Group → Type 0
InsideOrLow G g = (m : Leaf) → In m G → In m g ⊎ LowFirst m.cut g

inside_or_low_rest : (G : Group) (x : ℕ) (u rest : Group) → FirstAbove x rest → InsideOrLow G (map (prefix x) u ++ rest) → InsideOrLow G rest
inside_or_low_rest G x u rest v r m i =
    ⊎_elim (λ j. ⊎_elim (λ k. inr (by_x (map_in (prefix x) u k))) (λ k. inl k) (in_split (map (prefix x) u) rest j)) (λ w. inr (low_first_rest m.cut x u rest w)) (r m i)
  where
    by_x : (k : Leaf) × In k u × (m ≡ prefix x k) → LowFirst m.cut rest
    by_x k = rw k.2 v

-- A leaf of G is behind the branch, or its first byte is another.
behind_or_other : (G : Group) (x : ℕ) {u : Group} (rest : Group) → HasLeaf u → FirstAbove x rest → InsideOrLow G (map (prefix x) u ++ rest)
    → (m : Leaf) → In m G → ((k : Leaf) × In k u × (m ≡ prefix x k)) ⊎ OtherByte x m.cut
behind_or_other G x {u} rest a v r m i =
    ⊎_elim (λ j. ⊎_elim (λ k. inl (map_in (prefix x) u k)) (λ k. inr (above_other v k)) (in_split (map (prefix x) u) rest j)) (λ w. inr (low_first_other m.cut x rest a w)) (r m i)

-- A leaf's witness behind the same branch is one there.
witness_inside : (x : ℕ) (u : Group) (l k : Leaf) → In k u
    → equal (x ∷ l.cut) (x ∷ k.cut) ≡ false → (l.exact ≡ true → begins (x ∷ l.cut) (x ∷ k.cut) ≡ true) → (l.exact ≡ false → suc (shared (x ∷ l.cut) (x ∷ k.cut)) ≡ suc (length l.cut))
    → Witness u l
unfolding equal begins shared
witness_inside x u l k i a g p = record {
  other = k;
  mem = i;
  apart = rw (eqb_self x) at a;
  grows = λ e. rw (eqb_self x) at (g e);
  parts = λ e. let q = rw (eqb_self x) at (p e) in omega arith;
}

-- A leaf behind a branch has its witness there, or ends there and is open.
witness_or_end : (G : Group) (x : ℕ) (u : Group) (l : Leaf) → ((m : Leaf) → In m G → ((k : Leaf) × In k u × (m ≡ prefix x k)) ⊎ OtherByte x m.cut)
    → Witness G (prefix x l) → Witness u l ⊎ ((l.cut ≡ []) × (l.exact ≡ false))
witness_or_end G x u l r w = ⊎_elim (λ k. inl (near k)) (λ a. inr (far l.exact refl a)) (r w.other w.mem)
  where
    near : (k : Leaf) × In k u × (w.other ≡ prefix x k) → Witness u l
    near k = witness_inside x u l k.0 k.1 (rw k.2 at w.apart) (λ e. rw k.2 at (w.grows e)) (λ e. rw k.2 at (w.parts e))

    far : (b : Bool) → l.exact ≡ b → OtherByte x w.other.cut → (l.cut ≡ []) × (l.exact ≡ false)
    far true e a = absurd (true≢false (sym (w.grows e) ∙ other_begins x l.cut w.other.cut a))
    far false e a = (nil_of l.cut (omega (arith, w.parts e, other_shared x l.cut w.other.cut a)), e)

none_before_nil : {e : Bool} (c d : Bytes) → d ≡ [] → Before e c d → ⊥
none_before_nil {e} c d q b = go c (first_bytes (rw q at b))
  where
    go : (c : Bytes) → FirstBytes e c [] → ⊥
    go [] h = h
    go (x ∷ c) h = h

none_after_open : {e : Bool} (c d : Bytes) → c ≡ [] → e ≡ false → Before e c d → ⊥
none_after_open {e} c d q f b = go d (first_bytes (rw (q, f) at b))
  where
    go : (d : Bytes) → FirstBytes false [] d → ⊥
    go [] h = h
    go (y ∷ d) h = h

-- An open leaf that ends here is alone.
open_alone : {l : Leaf} {u : Group} → Ordered u → In l u → l.cut ≡ [] → l.exact ≡ false → u ≡ l ∷ []
open_alone o (here {l = []}) c e = refl
open_alone {l} o (here {l = m ∷ ms}) c e = absurd (none_after_open l.cut m.cut c e o.0.0)
open_alone {l} o (there {b = b} i) c e = absurd (none_before_nil b.cut l.cut c (first_in b o.0 i))

leaf_group_of : (l : Leaf) (u : Group) → u ≡ l ∷ [] → l.cut ≡ [] → l.exact ≡ false → LeafGroup u
leaf_group_of l u q c e = rw q (rw (leaf_is l c e) open_leaf)
  where
    leaf_is : (l : Leaf) → l.cut ≡ [] → l.exact ≡ false → l ≡ record { cut = []; exact = false; suffix = l.suffix }
    leaf_is l c e = λ i. record { cut = c i; exact = e i; suffix = l.suffix }

-- The leaves behind a branch are one open leaf that ends there, or have their witnesses there.
leaf_or_witnesses : (G : Group) (x : ℕ) (u : Group) → Ordered u → ((m : Leaf) → In m G → ((k : Leaf) × In k u × (m ≡ prefix x k)) ⊎ OtherByte x m.cut)
    → (vs : Group) → ((m : Leaf) → In m vs → In m u) → All (Witness G) (map (prefix x) vs) → LeafGroup u ⊎ All (Witness u) vs
leaf_or_witnesses G x u o r [] s w = inr tt
leaf_or_witnesses G x u o r (l ∷ vs) s w =
    ⊎_elim (λ p. ⊎_elim (λ q. inl q) (λ q. inr (p, q)) (leaf_or_witnesses G x u o r vs (λ m i. s m (there i)) w.1))
    (λ p. inl (leaf_group_of l u (open_alone o (s l here) p.0 p.1) p.0 p.1)) (witness_or_end G x u l r w.0)

-- ---- a node's group

-- every cut key has at most f bytes
abbrev pub DepthAtMost : ℕ → Group → Type 0
DepthAtMost f ls = All (λ l. length l.cut ≤ f) ls

depth_left : (f : ℕ) (x : ℕ) (a b : Group) → DepthAtMost (suc f) (map (prefix x) a ++ b) → DepthAtMost f a
depth_left f x [] b w = tt
depth_left f x (l ∷ a) b w = (omega (arith, w.0), depth_left f x a b w.1)

depth_valid : (f : ℕ) (x : ℕ) (a b : Group) → DepthAtMost f (map (prefix x) a ++ b) → DepthAtMost f b
depth_valid f x [] b w = w
depth_valid f x (l ∷ a) b w = depth_valid f x a b w.1

first_nonempty_cuts : (e : Bool) (c : Bytes) (s : Bits) (ls : Group) → BeforeAll (record { cut = c; exact = e; suffix = s }) ls → NonemptyCuts ls
first_nonempty_cuts e c s [] f = no_cuts
first_nonempty_cuts e c s (m ∷ ms) f = one m.cut m.exact m.suffix f.0 (first_nonempty_cuts e c s ms f.1)
  where
    one : (d : Bytes) (b : Bool) (t : Bits) → Before e c d → NonemptyCuts ms → NonemptyCuts (record { cut = d; exact = b; suffix = t } ∷ ms)
    one [] b t p r = absurd (none_before_nil c [] refl p)
    one (y ∷ d) b t p r = nonempty_cut r

-- A sole leaf has no witness.
lone_witness : (l m : Leaf) → In m (l ∷ []) → equal l.cut m.cut ≡ false → ⊥
lone_witness l m here e = true≢false (sym (equal_self l.cut) ∙ e)
lone_witness l m (there i) e = none_in i

-- Witnessed leaves are a node's group.
node_group : {g : Group} → HasLeaf g → Ordered g → All (Witness g) g → NodeGroup g
node_group (has_leaf {l = l} {ls = ls}) o w = go l.cut l.exact l.suffix ls o.0 w.0
  where
    lone : (e : Bool) (s : Bits) → Witness (record { cut = []; exact = e; suffix = s } ∷ []) (record { cut = []; exact = e; suffix = s }) → ⊥
    lone e s w = lone_witness (record { cut = []; exact = e; suffix = s }) w.other w.mem w.apart

    two : (t : Bits) (d : Bytes) (b : Bool) (s : Bits) (ms : Group) → Before true [] d → NonemptyCuts ms → NodeGroup (record { cut = []; exact = true; suffix = t } ∷ record { cut = d; exact = b; suffix = s } ∷ ms)
    two t [] b s ms p r = absurd (none_before_nil [] [] refl p)
    two t (y ∷ d) b s ms p r = exact_node r

    go : (c : Bytes) (e : Bool) (s : Bits) (ls : Group) → BeforeAll (record { cut = c; exact = e; suffix = s }) ls
        → Witness (record { cut = c; exact = e; suffix = s } ∷ ls) (record { cut = c; exact = e; suffix = s }) → NodeGroup (record { cut = c; exact = e; suffix = s } ∷ ls)
    go (x ∷ c) e s ls f w = plain_node (first_nonempty_cuts e (x ∷ c) s ls f)
    go [] e s [] f w = absurd (lone e s w)
    go [] true s (m ∷ ms) f w = two s m.cut m.exact m.suffix ms f.0 (first_nonempty_cuts true [] s ms f.1)
    go [] false s (m ∷ ms) f w = absurd (none_after_open [] m.cut refl refl f.0)

-- A sole entry of the node of witnessed leaves continues.
sole_continues_node : {g : Group} → HasLeaf g → Ordered g → All (Witness g) g → SoleContinues (node_of g)
unfolding node_of exact_of subtrees insert_cut
sole_continues_node a o w = go (node_group a o w) o w
  where
    end : (x : ℕ) (u : Group) → HasLeaf u → All (Witness (map (prefix x) u ++ [])) (map (prefix x) u ++ []) → SoleContinues (node none (branch_of (subtree x u) ∷ []))
    end x (l ∷ []) a w = one l.cut l.exact l.suffix w
      where
        one : (c : Bytes) (e : Bool) (s : Bits) → All (Witness (record { cut = x ∷ c; exact = e; suffix = s } ∷ [])) (record { cut = x ∷ c; exact = e; suffix = s } ∷ []) → SoleContinues (node none (branch_of (subtree x (record { cut = c; exact = e; suffix = s } ∷ [])) ∷ []))
        one [] e s w = absurd (lone_witness (record { cut = x ∷ []; exact = e; suffix = s }) w.0.other w.0.mem w.0.apart)
        one (y ∷ c) e s w = tt
    end x (l ∷ m ∷ u) a w = tt
    end x [] a w = elim a [ ]

    covered : {g : Group} {bs : List Subtree} → Splits g bs → HasLeaf g → All (Witness g) g → SoleContinues (node none (map branch_of bs))
    covered splits_nil a w = elim a [ ]
    covered (splits_cons {x = x} {u = u} o a v splits_nil) b w = end x u a w
    covered (splits_cons o a v (splits_cons o₂ a₂ v₂ c)) b w = tt

    labelled : {g : Group} {bs : List Subtree} (t : Bits) → Splits g bs → HasLeaf g → SoleContinues (node (some t) (map branch_of bs))
    labelled t splits_nil a = elim a [ ]
    labelled t (splits_cons o a v c) b = tt

    go : {g : Group} → NodeGroup g → Ordered g → All (Witness g) g → SoleContinues (node (exact_of g) (map branch_of (subtrees g)))
    go (plain_node r) o w = covered (splits (nonempty_cut r) o) has_leaf w
    go (exact_node {t = t} r) o w = labelled t (splits (nonempty_cut r) o.1) has_leaf

-- Behind each branch of witnessed leaves is an open leaf or a node of the trie.
branches_trie_group : (f : ℕ) (G : Group) → ((h : Group) → HasLeaf h → Ordered h → All (Witness h) h → DepthAtMost f h → TrieGroup f h)
    → {g : Group} {bs : List Subtree} → Splits g bs → All (Witness G) g → InsideOrLow G g → DepthAtMost (suc f) g → Subtrees (InnerGroup f) bs
branches_trie_group f G ih splits_nil w r q = tt
branches_trie_group f G ih (splits_cons {x = x} {u = u} {rest = rest} {bs = bs} o a v c) w r q = (
  ⊎_elim (λ s. inl s) (λ ws. inr (node_group a o ws, (sole_continues_node a o ws, ih u a o ws (depth_left f x u rest q))))
      (leaf_or_witnesses G x u o (behind_or_other G x rest a v r) u (λ m i. i) (all_split (Witness G) (map (prefix x) u) rest w).0),
  branches_trie_group f G ih c (all_split (Witness G) (map (prefix x) u) rest w).1 (inside_or_low_rest G x u rest v r) (depth_valid (suc f) x u rest q),
)

no_depth : {g : Group} → NodeGroup g → DepthAtMost 0 g → ⊥
no_depth (plain_node r) q = omega (arith, q.0)
no_depth (exact_node r) q = omega (arith, q.1.0)

-- Witnessed leaves are a trie's group to the depth of their cut keys.
witnesses_trie_group : (f : ℕ) (g : Group) → HasLeaf g → Ordered g → All (Witness g) g → DepthAtMost f g → TrieGroup f g
unfolding subtrees insert_cut
witnesses_trie_group zero g a o w q = no_depth (node_group a o w) q
witnesses_trie_group (suc f) g a o w q = (node_group a o w, o, go (λ h. witnesses_trie_group f h) (node_group a o w) o w q)
  where
    go : ((h : Group) → HasLeaf h → Ordered h → All (Witness h) h → DepthAtMost f h → TrieGroup f h) → {g : Group} → NodeGroup g → Ordered g → All (Witness g) g → DepthAtMost (suc f) g → Subtrees (InnerGroup f) (subtrees g)
    go ih (plain_node r) o w q = branches_trie_group f _ ih (splits (nonempty_cut r) o) w (λ m i. inl i) q
    go ih (exact_node {t = t} {x = x} {c = c} {e = e} {s = s} {ls = ls} r) o w q = branches_trie_group f (record { cut = []; exact = true; suffix = t } ∷ record { cut = x ∷ c; exact = e; suffix = s } ∷ ls) ih (splits (nonempty_cut r) o.1) w.1 reach q.1
      where
        reach : InsideOrLow (record { cut = []; exact = true; suffix = t } ∷ record { cut = x ∷ c; exact = e; suffix = s } ∷ ls) (record { cut = x ∷ c; exact = e; suffix = s } ∷ ls)
        reach m here = inr tt
        reach m (there i) = inl i

-- ---- a realizable leaf list

-- The leaf of a lone key is a trie of one node.
lone_trie_group : (n f : ℕ) (l : Leaf) → Shortest n (l ∷ []) l → TrieGroup (suc f) (l ∷ [])
unfolding others filter any maximum subtrees insert_cut insert
lone_trie_group n f l t =
    let e : l.exact ≡ false = sym (rw (equal_self l.cut) at t.kind) in
    go l.cut l.exact l.suffix e (rw (equal_self l.cut) at (t.size e))
  where
    go : (c : Bytes) (e : Bool) (s : Bits) → e ≡ false → 1 ≡ length c → TrieGroup (suc f) (record { cut = c; exact = e; suffix = s } ∷ [])
    go [] e s p q = absurd (omega arith)
    go (x ∷ []) true s p q = absurd (true≢false p)
    go (x ∷ []) false s p q = (plain_node no_cuts, (tt, tt), (inl open_leaf, tt))
    go (x ∷ y ∷ c) e s p q = absurd (omega arith)

-- A realizable leaf list is a trie's group to the depth of its cut keys.
pub realizable_trie_group : {n : ℕ} (f : ℕ) (ls : Group) → HasLeaf ls → Realizable n ls → DepthAtMost (suc f) ls → TrieGroup (suc f) ls
realizable_trie_group {n} f (l ∷ []) a g q = lone_trie_group n f l g.shortest.0
realizable_trie_group {n} f (l ∷ m ∷ ls) a g q = witnesses_trie_group (suc f) (l ∷ m ∷ ls) a g.ordered (realizable_witnesses l m ls g) q
realizable_trie_group {n = n} f [] a g q = elim a [ ]

-- The trie of a realizable leaf list, of cut keys of at most 64 bytes, has just these leaves.
pub trie_leaves : {n : ℕ} (ls : List Leaf) → Realizable n ls → DepthAtMost 64 ls → leaves_of (trie ls) ≡ ls
unfolding leaves_of trie concat groups
trie_leaves [] g q = refl
trie_leaves (l ∷ ls) g q = ap concat (groups_trie_levels 64 ((l ∷ ls) ∷ []) (realizable_trie_group 63 (l ∷ ls) has_leaf g q, tt)) ∙ append-nil (l ∷ ls)

-- Leaves as an accepted image has them have cut keys of at most 64 bytes.
pub well_sized_depth : (n : ℕ) (ls : List Leaf) → AllWellSized n ls → DepthAtMost 64 ls
well_sized_depth n [] o = tt
well_sized_depth n (l ∷ ls) o = (o.0.key.fits, well_sized_depth n ls o.1)
