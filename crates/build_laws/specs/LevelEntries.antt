-- The branches and exact leaves of each level of the trie: those that the leaves add one by one in key order are those of the level's nodes, node by node. Used by TrieEntries and KeyEntries.
use Rattle.std.specs.Prelude.{ℕ, zero, suc, ◌≤◌, ◌≡◌, refl, Bool, true, false, cond, ◌&&◌, ◌||◌, List, [], ◌∷◌, ◌++◌, map, ◌⊎◌, length, get_or, leb, ltb, eqb}
use Rattle.std.proofs.Common.{sym, ap, ap₂, ◌∙◌, true≢false, append-nil, append_assoc, ⊎_elim, arith, eq-eqb, le-leb}
use Rattle.std.proofs.Math.Bool.{or-true}
use Rattle.std.proofs.lemmas.List.{map-append}
use Rattle.std.proofs.Math.Option.{none, some}
use Rattle.std.proofs.Math.Dec.{leb-zero, leb-suc-zero, leb-suc-suc, eqb-zero-suc, eqb-suc-zero, eqb-suc-suc}
use Rattle.spec.specs.Bytes.{Bytes, Bits, concat, shared}
use Rattle.spec.specs.Leaves.{Leaf}
use Rattle.spec.specs.Nodes.{Group, Branch, to_node, to_leaf, Node, node, prefix}
use Rattle.theory.proofs.Lists.{concat_append, eqb_self}
use Rattle.theory.proofs.LevelTrie.{node_of, child_groups, Subtree, subtree, insert, subtrees, insert_cut, branch_of, child_group, exact_of}

-- a branch, or an exact leaf as a branch with the label FF: whether it starts its node, and whether it is the exact leaf
pub data Tagged : Type 0 where
  tagged : Bool → Bool → Branch → Tagged

-- the branch of a leaf on level d of its cut key
unfoldable pub branch_at : ℕ → Leaf → Branch
branch_at d l = cond (l.exact || ltb (suc d) (length l.cut)) (to_node (get_or l.cut d 0)) (to_leaf (get_or l.cut d 0) l.suffix)

-- What a leaf adds to level d; p is 0 for the first leaf, else one more than what it shares with the one before.
unfoldable pub leaf_entries : ℕ → ℕ → Leaf → List Tagged
unfolding branch_at
leaf_entries d p l =
    cond (leb p (suc d) && ltb d (length l.cut)) (tagged (leb p d) false (branch_at d l) ∷ []) []
    ++ cond (l.exact && eqb d (length l.cut)) (tagged true true (to_leaf 255 l.suffix) ∷ []) []

-- the first level on which the next leaf starts a node: one more than what the cut keys share
unfoldable pub next_new : Leaf → List Leaf → ℕ
unfolding shared
next_new l [] = 0
next_new l (m ∷ ms) = suc (shared l.cut m.cut)

-- what leaves add to level d, one after the other
unfoldable pub level_entries : ℕ → ℕ → List Leaf → List Tagged
unfolding leaf_entries next_new
level_entries d p [] = []
level_entries d p (l ∷ ls) = leaf_entries d p l ++ level_entries d (next_new l ls) ls

-- ---- a node's entries

-- branches, the first tagged as the start of a node or not
unfoldable pub tag_first : Bool → List Branch → List Tagged
tag_first b [] = []
tag_first b (e ∷ es) = tagged b false e ∷ tag_first false es

-- a node's entries, an exact leaf first
unfoldable pub node_entries : Node → List Tagged
unfolding tag_first
node_entries (node none es) = tag_first true es
node_entries (node (some s) es) = tagged true true (to_leaf 255 s) ∷ tag_first false es

-- the entries d levels below a node
unfoldable pub entries_below : ℕ → Group → List Tagged
unfolding node_entries concat
entries_below zero g = node_entries (node_of g)
entries_below (suc d) g = concat (map (entries_below d) (child_groups g))

-- ---- leaf lists as a key list has them: an exact leaf begins the next, an open one parts from it at a byte of both

-- cut key d stands behind cut key c, which is exact where e
abbrev pub Follows : Bool → Bytes → Bytes → Type 0
Follows e [] [] = ⊥
Follows e [] (y ∷ d) = e ≡ true
Follows e (x ∷ c) [] = ⊥
Follows e (x ∷ c) (y ∷ d) = ((eqb x y ≡ false) × (e ≡ false)) ⊎ ((x ≡ y) × Follows e c d)

-- the next leaf follows this one; the last one is open
abbrev FollowsBy : Leaf → Group → Type 0
FollowsBy l [] = l.exact ≡ false
FollowsBy l (m ∷ ms) = Follows l.exact l.cut m.cut

-- each leaf follows the one before
abbrev pub AllFollow : Group → Type 0
AllFollow [] = Unit
AllFollow (l ∷ ls) = FollowsBy l ls × AllFollow ls

-- the cut key starts with another byte
abbrev Away : ℕ → Bytes → Type 0
Away x [] = ⊥
Away x (y ∷ c) = eqb x y ≡ false

-- so does the first cut key of a group
abbrev Apart : ℕ → Group → Type 0
Apart x [] = Unit
Apart x (l ∷ ls) = Away x l.cut

-- a group divided by first bytes into subtrees
data Divided : Group → List Subtree → Type 0 where
  empty : Divided [] []
  division : {x : ℕ} {m : Leaf} {u rest : Group} {bs : List Subtree} → AllFollow (m ∷ u) → Apart x rest → Divided rest bs → Divided (map (prefix x) (m ∷ u) ++ rest) (subtree x (m ∷ u) ∷ bs)

put_divided : (x : ℕ) (l : Leaf) {ls : Group} {bs : List Subtree} → FollowsBy (prefix x l) ls → Divided ls bs → Divided (prefix x l ∷ ls) (insert x l bs)
unfolding insert
put_divided x l j empty = division {x = x} {m = l} {u = []} {rest = []} (j, tt) tt empty
put_divided x l j (division {x = y} {m = m} {u = u} {rest = rest} {bs = bs} c a r) = ⊎_elim (λ h. apart h) (λ h. hit h.0 h.1) j
  where
    apart : (eqb x y ≡ false) × (l.exact ≡ false)
        → Divided (prefix x l ∷ map (prefix y) (m ∷ u) ++ rest) (cond (eqb x y) (subtree y (l ∷ m ∷ u) ∷ bs) (subtree x (l ∷ []) ∷ subtree y (m ∷ u) ∷ bs))
    apart h = rw h.0 (division {x = x} {m = l} {u = []} {rest = map (prefix y) (m ∷ u) ++ rest} (h.1, tt) h.0 (division {x = y} {m = m} {u = u} c a r))

    hit : x ≡ y → Follows l.exact l.cut m.cut
        → Divided (prefix x l ∷ map (prefix y) (m ∷ u) ++ rest) (cond (eqb x y) (subtree y (l ∷ m ∷ u) ∷ bs) (subtree x (l ∷ []) ∷ subtree y (m ∷ u) ∷ bs))
    hit e n = rw (eq-eqb x y e, e) (division {x = y} {m = l} {u = m ∷ u} {rest = rest} (n, c) a r)

-- the cut key is not empty
abbrev SomeByte : Bytes → Type 0
SomeByte [] = ⊥
SomeByte (x ∷ c) = Unit

-- no cut key is empty
abbrev SomeBytes : Group → Type 0
SomeBytes [] = Unit
SomeBytes (l ∷ ls) = SomeByte l.cut × SomeBytes ls

away_shared : (x : ℕ) (k c : Bytes) → Away x c → shared (x ∷ k) c ≡ 0
unfolding shared
away_shared x k [] a = absurd a
away_shared x k (y ∷ c) a = rw a

next_same : (x : ℕ) (l m : Leaf) (ms : Group) → next_new (prefix x l) (prefix x m ∷ ms) ≡ suc (suc (shared l.cut m.cut))
unfolding next_new shared
next_same x l m ms = rw (eqb_self x)

divided_cons : (k : Bytes) (e : Bool) (s : Bits) (ls : Group) → FollowsBy (record { cut = k; exact = e; suffix = s }) ls → SomeByte k → Divided ls (subtrees ls)
    → Divided (record { cut = k; exact = e; suffix = s } ∷ ls) (subtrees (record { cut = k; exact = e; suffix = s } ∷ ls))
unfolding subtrees insert_cut
divided_cons [] e s ls j w r = absurd w
divided_cons (x ∷ k) e s ls j w r = put_divided x (record { cut = k; exact = e; suffix = s }) j r

divided : (g : Group) → AllFollow g → SomeBytes g → Divided g (subtrees g)
unfolding subtrees
divided [] c h = empty
divided (l ∷ ls) c h = divided_cons l.cut l.exact l.suffix ls c.0 h.0 (divided ls c.1 h.1)

-- a leaf's next has a longer cut key
next_some : (e : Bool) (c d : Bytes) → Follows e c d → SomeByte d
next_some e [] [] n = n
next_some e [] (y ∷ d) n = tt
next_some e (x ∷ c) [] n = n
next_some e (x ∷ c) (y ∷ d) n = tt

follow_some : (l : Leaf) (ls : Group) → AllFollow (l ∷ ls) → SomeBytes ls
follow_some l [] c = tt
follow_some l (m ∷ ms) c = (next_some l.exact l.cut m.cut c.0, follow_some m ms c.1)

-- ---- one level down

-- one less, or 0
abbrev pub pred : ℕ → ℕ
pred zero = zero
pred (suc p) = p

-- the same test one level higher
pub pred_leb : (p d : ℕ) → leb p (suc d) ≡ leb (pred p) d
pred_leb zero d = leb-zero (suc d) ∙ sym (leb-zero d)
pred_leb (suc p) d = leb-suc-suc p d

leaf_prefix : (d p x : ℕ) (l : Leaf) → leaf_entries (suc d) p (prefix x l) ≡ leaf_entries d (pred p) l
unfolding leaf_entries branch_at
leaf_prefix d p x l = rw (pred_leb p (suc d), pred_leb p d, leb-suc-suc (suc d) (length l.cut), leb-suc-suc (suc (suc d)) (length l.cut), eqb-suc-suc d (length l.cut))

next_apart : (d x : ℕ) (l : Leaf) (rest : Group) → Apart x rest → level_entries (suc d) (next_new (prefix x l) rest) rest ≡ level_entries (suc d) 1 rest
unfolding level_entries next_new
next_apart d x l [] a = refl
next_apart d x l (r ∷ rest) a = ap (λ (p : ℕ). level_entries (suc d) p (r ∷ rest)) (ap suc (away r.cut a))
  where
    away : (c : Bytes) → Away x c → shared (x ∷ l.cut) c ≡ 0
    away c a = away_shared x l.cut c a

prefixed_entries : (d x : ℕ) (m : Leaf) (u rest : Group) (p : ℕ) → Apart x rest
    → level_entries (suc d) p (map (prefix x) (m ∷ u) ++ rest) ≡ level_entries d (pred p) (m ∷ u) ++ level_entries (suc d) 1 rest
unfolding level_entries next_new
prefixed_entries d x m [] rest p a =
    ap₂ ◌++◌ (leaf_prefix d p x m) (next_apart d x m rest a) ∙ ap (λ (z : List Tagged). z ++ level_entries (suc d) 1 rest) (sym (append-nil (leaf_entries d (pred p) m)))
prefixed_entries d x m (n ∷ u) rest p a =
    ap₂ ◌++◌ (leaf_prefix d p x m) (ap (λ (q : ℕ). level_entries (suc d) q (map (prefix x) (n ∷ u) ++ rest)) (next_same x m n (map (prefix x) u ++ rest)) ∙ prefixed_entries d x n u rest (suc (suc (shared m.cut n.cut))) a)
    ∙ sym (append_assoc (leaf_entries d (pred p) m) (level_entries d (suc (shared m.cut n.cut)) (n ∷ u)) (level_entries (suc d) 1 rest))

-- ---- a node's own level

and-false : (b : Bool) → b && false ≡ false
and-false true = refl
and-false false = refl

leaf_none : (q x : ℕ) (l : Leaf) → leaf_entries 0 (suc (suc q)) (prefix x l) ≡ []
unfolding leaf_entries
leaf_none q x l = rw (leb-suc-suc (suc q) 0, leb-suc-zero q, eqb-zero-suc (length l.cut), and-false l.exact)

leaf_first : (p x : ℕ) (l : Leaf) → p ≤ 1 → leaf_entries 0 p (prefix x l) ≡ tagged (leb p 0) false (branch_at 0 (prefix x l)) ∷ []
unfolding leaf_entries
leaf_first p x l h = rw (le-leb p 1 h, leb-suc-suc 0 (length l.cut), leb-zero (length l.cut), eqb-zero-suc (length l.cut), and-false l.exact)

zero_apart : (x : ℕ) (l : Leaf) (rest : Group) → Apart x rest → level_entries 0 (next_new (prefix x l) rest) rest ≡ level_entries 0 1 rest
unfolding level_entries next_new
zero_apart x l [] a = refl
zero_apart x l (r ∷ rest) a = ap (λ (p : ℕ). level_entries 0 p (r ∷ rest)) (ap suc (away_shared x l.cut r.cut a))

zero_rest : (q x : ℕ) (m : Leaf) (u rest : Group) → Apart x rest → level_entries 0 (suc (suc q)) (map (prefix x) (m ∷ u) ++ rest) ≡ level_entries 0 1 rest
unfolding level_entries
zero_rest q x m [] rest a = ap₂ ◌++◌ (leaf_none q x m) (zero_apart x m rest a)
zero_rest q x m (n ∷ u) rest a = ap₂ ◌++◌ (leaf_none q x m) (ap (λ (q : ℕ). level_entries 0 q (map (prefix x) (n ∷ u) ++ rest)) (next_same x m n (map (prefix x) u ++ rest)) ∙ zero_rest (shared m.cut n.cut) x n u rest a)

entry_first : (x : ℕ) (k : Bytes) (e : Bool) (s : Bits) (u : Group) → FollowsBy (record { cut = k; exact = e; suffix = s }) u
    → branch_at 0 (prefix x (record { cut = k; exact = e; suffix = s })) ≡ branch_of (subtree x (record { cut = k; exact = e; suffix = s } ∷ u))
unfolding branch_at branch_of
entry_first x [] e s [] j = rw j
entry_first x [] e s (n ∷ u) j = go n.cut j
  where
    go : (c : Bytes) → Follows e [] c → cond (e || ltb 1 1) (to_node x) (to_leaf x s) ≡ to_node x
    go [] j = absurd j
    go (y ∷ c) j = rw j
entry_first x (y ∷ k) e s [] j = rw (leb-suc-suc 1 (suc (length k)), leb-suc-suc 0 (length k), leb-zero (length k), or-true e)
entry_first x (y ∷ k) e s (n ∷ u) j = rw (leb-suc-suc 1 (suc (length k)), leb-suc-suc 0 (length k), leb-zero (length k), or-true e)

prefixed_first : (p x : ℕ) (m : Leaf) (u rest : Group) → p ≤ 1 → AllFollow (m ∷ u) → Apart x rest
    → level_entries 0 p (map (prefix x) (m ∷ u) ++ rest) ≡ tagged (leb p 0) false (branch_of (subtree x (m ∷ u))) ∷ level_entries 0 1 rest
unfolding level_entries
prefixed_first p x m [] rest h c a = ap₂ ◌++◌ (leaf_first p x m h ∙ ap (λ (e : Branch). tagged (leb p 0) false e ∷ []) (entry_first x m.cut m.exact m.suffix [] c.0)) (zero_apart x m rest a)
prefixed_first p x m (n ∷ u) rest h c a = ap₂ ◌++◌ (leaf_first p x m h ∙ ap (λ (e : Branch). tagged (leb p 0) false e ∷ []) (entry_first x m.cut m.exact m.suffix (n ∷ u) c.0))
    (ap (λ (q : ℕ). level_entries 0 q (map (prefix x) (n ∷ u) ++ rest)) (next_same x m n (map (prefix x) u ++ rest)) ∙ zero_rest (shared m.cut n.cut) x n u rest a)

first_divided : {g : Group} {bs : List Subtree} (p : ℕ) → p ≤ 1 → Divided g bs → level_entries 0 p g ≡ tag_first (leb p 0) (map branch_of bs)
unfolding level_entries tag_first
first_divided p h empty = refl
first_divided p h (division {x = x} {m = m} {u = u} {rest = rest} c a r) = prefixed_first p x m u rest h c a ∙ ap (λ (z : List Tagged). tagged (leb p 0) false (branch_of (subtree x (m ∷ u))) ∷ z) (first_divided 1 (omega arith) r)

-- ---- a node, and the levels below it

-- a node's first leaf: its cut key ends there only if it is exact
abbrev pub NodeLeaf : Bool → Bytes → Type 0
NodeLeaf e [] = e ≡ true
NodeLeaf e (x ∷ c) = Unit

Below : ℕ → Type 0
Below d = (l : Leaf) (ls : Group) → AllFollow (l ∷ ls) → NodeLeaf l.exact l.cut → level_entries d 0 (l ∷ ls) ≡ entries_below d (l ∷ ls)

sub_entries : (d : ℕ) → Below d → (x : ℕ) (k : Bytes) (e : Bool) (s : Bits) (u : Group) → AllFollow (record { cut = k; exact = e; suffix = s } ∷ u)
    → level_entries d 0 (record { cut = k; exact = e; suffix = s } ∷ u) ≡ concat (map (entries_below d) (child_group (subtree x (record { cut = k; exact = e; suffix = s } ∷ u))))
unfolding Below child_group concat level_entries leaf_entries
sub_entries d b x [] e s [] c = rw (c.0, leb-zero (suc d), leb-suc-zero d)
sub_entries d b x (y ∷ k) e s [] c = b (record { cut = y ∷ k; exact = e; suffix = s }) [] c tt ∙ sym (append-nil (entries_below d (record { cut = y ∷ k; exact = e; suffix = s } ∷ [])))
sub_entries d b x [] e s (n ∷ u) c = b (record { cut = []; exact = e; suffix = s }) (n ∷ u) c (go n.cut c.0) ∙ sym (append-nil (entries_below d (record { cut = []; exact = e; suffix = s } ∷ n ∷ u)))
  where
    go : (z : Bytes) → Follows e [] z → e ≡ true
    go [] j = absurd j
    go (y ∷ z) j = j
sub_entries d b x (y ∷ k) e s (n ∷ u) c = b (record { cut = y ∷ k; exact = e; suffix = s }) (n ∷ u) c tt ∙ sym (append-nil (entries_below d (record { cut = y ∷ k; exact = e; suffix = s } ∷ n ∷ u)))

deeper_divided : {g : Group} {bs : List Subtree} (d p : ℕ) → pred p ≡ 0 → Below d → Divided g bs → level_entries (suc d) p g ≡ concat (map (entries_below d) (concat (map child_group bs)))
unfolding level_entries concat
deeper_divided d p h b empty = refl
deeper_divided d p h b (division {x = x} {m = m} {u = u} {rest = rest} {bs = bs} c a r) =
    prefixed_entries d x m u rest p a
    ∙ ap₂ ◌++◌ (ap (λ (q : ℕ). level_entries d q (m ∷ u)) h ∙ sub_entries d b x m.cut m.exact m.suffix u c) (deeper_divided d 1 refl b r)
    ∙ sym (ap concat (map-append (entries_below d) (child_group (subtree x (m ∷ u))) (concat (map child_group bs))) ∙ concat_append (map (entries_below d) (child_group (subtree x (m ∷ u)))) (map (entries_below d) (concat (map child_group bs))))

exact_next : (e : Bool) (s : Bits) (ls : Group) → e ≡ true → FollowsBy (record { cut = []; exact = e; suffix = s }) ls → next_new (record { cut = []; exact = e; suffix = s }) ls ≡ 1
unfolding next_new shared
exact_next e s [] q j = absurd (true≢false (sym q ∙ j))
exact_next e s (m ∷ ms) q j = refl

exact_first : (e : Bool) (s : Bits) (ls : Group) → AllFollow (record { cut = []; exact = e; suffix = s } ∷ ls) → e ≡ true
    → level_entries 0 0 (record { cut = []; exact = e; suffix = s } ∷ ls) ≡ entries_below 0 (record { cut = []; exact = e; suffix = s } ∷ ls)
unfolding entries_below node_entries node_of exact_of child_groups level_entries leaf_entries subtrees insert_cut
exact_first e s ls c n = rw (exact_next e s ls n c.0, n) (ap (λ (z : List Tagged). tagged true true (to_leaf 255 s) ∷ z) (first_divided 1 (omega arith) (divided ls c.1 (follow_some (record { cut = []; exact = e; suffix = s }) ls c))))

exact_deeper : (d : ℕ) → Below d → (e : Bool) (s : Bits) (ls : Group) → AllFollow (record { cut = []; exact = e; suffix = s } ∷ ls) → e ≡ true
    → level_entries (suc d) 0 (record { cut = []; exact = e; suffix = s } ∷ ls) ≡ entries_below (suc d) (record { cut = []; exact = e; suffix = s } ∷ ls)
unfolding entries_below child_groups level_entries leaf_entries subtrees insert_cut
exact_deeper d b e s ls c n = rw (exact_next e s ls n c.0, n, leb-zero (suc (suc d)), leb-suc-zero (suc d), eqb-suc-zero d) (deeper_divided d 1 refl b (divided ls c.1 (follow_some (record { cut = []; exact = e; suffix = s }) ls c)))

level : (d : ℕ) → ((k : ℕ) → suc k ≡ d → Below k) → (k : Bytes) (e : Bool) (s : Bits) (ls : Group) → AllFollow (record { cut = k; exact = e; suffix = s } ∷ ls) → NodeLeaf e k
    → level_entries d 0 (record { cut = k; exact = e; suffix = s } ∷ ls) ≡ entries_below d (record { cut = k; exact = e; suffix = s } ∷ ls)
unfolding entries_below node_entries node_of exact_of child_groups
level zero f (x ∷ k) e s ls c n = first_divided 0 (omega arith) (divided (record { cut = x ∷ k; exact = e; suffix = s } ∷ ls) c (tt, follow_some (record { cut = x ∷ k; exact = e; suffix = s }) ls c))
level (suc d) f (x ∷ k) e s ls c n = deeper_divided d 0 refl (f d refl) (divided (record { cut = x ∷ k; exact = e; suffix = s } ∷ ls) c (tt, follow_some (record { cut = x ∷ k; exact = e; suffix = s }) ls c))
level zero f [] e s ls c n = exact_first e s ls c n
level (suc d) f [] e s ls c n = exact_deeper d (f d refl) e s ls c n

-- The entries of the level d below a node are those that its leaves add.
pub level_entries_below : (d : ℕ) (l : Leaf) (ls : Group) → AllFollow (l ∷ ls) → NodeLeaf l.exact l.cut → level_entries d 0 (l ∷ ls) ≡ entries_below d (l ∷ ls)
unfolding Below
level_entries_below zero l ls c n = level zero (λ k e. absurd (omega arith)) l.cut l.exact l.suffix ls c n
level_entries_below (suc d) l ls c n = level (suc d) (λ k e. let q : d ≡ k = omega arith in rw (← q) (λ m ms c n. level_entries_below d m ms c n)) l.cut l.exact l.suffix ls c n
