-- The leaves at or below a node of an image, by node numbers: behind its branches from a label on, in key order.
use Prim.Native.Nat.{ℕ, zero, suc, ◌+◌, ◌<◌, ◌≤◌}
use Rattle.std.proofs.Math.Path.{◌≡◌, refl, sym, ap}
use Rattle.std.proofs.Common.{ap₂, ◌∙◌, get_or-drop, leb-true, leb-false}
use Rattle.std.specs.Prelude.{Bool, true, false, get_or, take, leb}
use mathlib.Core.List.{List, [], ◌∷◌, ◌++◌, map}
use Rattle.std.proofs.Math.Option.{Option, none, some}
use native.Mathlib.Omega.{arith}
use Rattle.std.proofs.Math.ListN.{length, drop, length-append, length-drop}
use Rattle.spec.specs.Bytes.{Bytes, Bits, bit, concat}
use Rattle.spec.specs.Leaves.{Leaf}
use Rattle.spec.specs.Nodes.{Group, Branch, to_node, to_leaf, Node, node, label_of, has_child, branches_of, prefix, branch_leaves, children, exact_leaf, level_groups, groups, total, children_of}
use Rattle.nav_nodes.specs.declared.BranchKind.{BranchKind}
use Rattle.nav_nodes.specs.declared.BranchKind.TheVariants as Kind
use Rattle.nav_nodes.specs.Counting.{labels_below, none_below_zero, below_low, below_high}
use Rattle.nav_nodes.specs.Slots.{node_at, slot_number, slot_of, slot_is}
use Rattle.nav_nodes.specs.Descent.{child_number, children_split, Stands, stands_next, children_upto, group_at, kids_at, fit_at, node_is}
use Rattle.nav_nodes.specs.NextLabel.{first_kind, first_label, low_none}
use Rattle.nav_nodes.specs.NumberBounds.{child_there}
use Rattle.theory.specs.Terms.{All}
use Rattle.theory.proofs.LeafLists.{Realizable, AllWellSized}
use Rattle.theory.proofs.LinkedLevels.{BelowLabel, Ascends, Labelled, Linked, levels_back, first_width}
use Rattle.theory.proofs.LevelTrie.{trie}
use Rattle.theory.proofs.TrieTests.{realizable_trie, EmptyOrValid, empty_list, valid_trie, root_first_width}
use Rattle.theory.proofs.NodeBits.{SlotsWidth}

-- ---- definitions

-- the leaf with bytes before its cut key
abbrev pub behind : Bytes → Leaf → Leaf
behind p l = record { cut = p ++ l.cut; exact = l.exact; suffix = l.suffix }

-- the leaves behind branches, those that continue leading to node c and the nodes behind it
unfoldable pub behind_branches : (ℕ → Group) → List Branch → ℕ → Group
behind_branches f [] c = []
behind_branches f (to_leaf x s ∷ es) c = record { cut = x ∷ []; exact = false; suffix = s } ∷ behind_branches f es c
behind_branches f (to_node x ∷ es) c = map (prefix x) (f c) ++ behind_branches f es (suc c)

-- the slot of the exact leaf that a node is, if it is one
abbrev pub own_slot : Node → Option Bits
own_slot (node o es) = o

-- the leaves at or below node m, l levels left
unfoldable pub below : List Node → ℕ → ℕ → Group
below ns zero m = []
below ns (suc l) m = exact_leaf (own_slot (node_at ns m)) ++ behind_branches (below ns l) (branches_of (node_at ns m)) (child_number ns m 0)

-- the leaves behind the branches of node m whose labels are not below y, l levels left below the node
unfoldable pub from_label : List Node → ℕ → ℕ → ℕ → Group
from_label ns l m y = behind_branches (below ns l) (drop (labels_below y (branches_of (node_at ns m))) (branches_of (node_at ns m))) (child_number ns m (labels_below y (branches_of (node_at ns m))))

-- Node m stands at the index `index` of the first of some linked levels, at most l of them, behind the nodes `before`.
pub record OnLevel (ns : List Node) (l m : ℕ) : Type 0 where
  pub before : List Node
  pub levels : List (List Node)
  pub index : ℕ
  pub few : length levels ≤ l
  pub linked : Linked levels
  pub stands : Stands ns before levels
  pub number : m ≡ length before + index
  pub inside : index < first_width levels

-- ---- labels in a node's branches

-- where a label is below y, the first one is
first_lower : (y x : ℕ) (es : List Branch) → 0 < labels_below y es → BelowLabel x es → suc x < y
unfolding labels_below
first_lower y x [] h r = absurd (omega arith)
first_lower y x (e ∷ es) h r = go (leb y (label_of e)) refl
  where
    go : (b : Bool) → leb y (label_of e) ≡ b → suc x < y
    go true q = absurd (omega (arith, below_high y (label_of e) e es refl (leb-true y (label_of e) q)))
    go false q = omega (arith, leb-false y (label_of e) q)

-- Behind the branch with label x come the labels that are not below x + 1.
next_label : (es : List Branch) (i : ℕ) (e : Branch) (rest : List Branch) → Ascends es → drop i es ≡ e ∷ rest → labels_below (suc (label_of e)) es ≡ suc i
next_label [] zero e rest r d = let z : ◌≡◌ {A = ℕ} 0 1 = cc in absurd (omega arith)
next_label [] (suc i) e rest r d = let z : ◌≡◌ {A = ℕ} 0 1 = cc in absurd (omega arith)
next_label (b ∷ es) zero e rest r d = let q : b ≡ e = cc in rw (← q) (below_low (suc (label_of b)) (label_of b) b es refl (omega arith) ∙ ap suc (low_none (label_of b) es r.0))
next_label (b ∷ es) (suc i) e rest r d =
    let h = next_label es i e rest r.1 d in
    below_low (suc (label_of e)) (label_of b) b es refl (omega (arith, first_lower (suc (label_of e)) (label_of b) es (omega arith) r.0)) ∙ ap suc h

-- what is left behind the member at index i
pub drop_next : {A : Type 0} (xs : List A) (i : ℕ) (x : A) (rest : List A) → drop i xs ≡ x ∷ rest → drop (suc i) xs ≡ rest
drop_next [] zero x rest d = let z : ◌≡◌ {A = ℕ} 0 1 = cc in absurd (omega arith)
drop_next [] (suc i) x rest d = let z : ◌≡◌ {A = ℕ} 0 1 = cc in absurd (omega arith)
drop_next (y ∷ xs) zero x rest d = cc
drop_next (y ∷ xs) (suc i) x rest d = drop_next xs i x rest d

children_next : (es : List Branch) (i : ℕ) (e : Branch) (rest : List Branch) → drop i es ≡ e ∷ rest → children (take (suc i) es) ≡ children (take i es) + bit (has_child e)
unfolding children
children_next [] zero e rest d = let z : ◌≡◌ {A = ℕ} 0 1 = cc in absurd (omega arith)
children_next [] (suc i) e rest d = let z : ◌≡◌ {A = ℕ} 0 1 = cc in absurd (omega arith)
children_next (to_leaf x s ∷ es) zero e rest d = let q : to_leaf x s ≡ e = cc in rw (← q)
children_next (to_node x ∷ es) zero e rest d = let q : to_node x ≡ e = cc in rw (← q)
children_next (to_leaf x s ∷ es) (suc i) e rest d = children_next es i e rest d
children_next (to_node x ∷ es) (suc i) e rest d = omega (arith, children_next es i e rest d)

-- ---- the leaves behind a node's branches

-- the leaves at or below a node: its own, where it is an exact leaf, and those behind its branches
pub below_step : (ns : List Node) (l m : ℕ) → below ns (suc l) m ≡ exact_leaf (own_slot (node_at ns m)) ++ from_label ns l m 0
unfolding below from_label
below_step ns l m = rw (none_below_zero (branches_of (node_at ns m)))

module _ (ns : List Node) (l m y : ℕ) (kind : BranchKind)
    (is : kind ≡ first_kind (drop (labels_below y (branches_of (node_at ns m))) (branches_of (node_at ns m)))) where
  -- no branch from the label y on
  pub from_none : kind ≡ Kind.Absent → from_label ns l m y ≡ []
  unfolding from_label behind_branches first_kind
  from_none h = go (drop (labels_below y (branches_of (node_at ns m))) (branches_of (node_at ns m))) (sym is ∙ h)
    where
      go : (fs : List Branch) → first_kind fs ≡ Kind.Absent → behind_branches (below ns l) fs (child_number ns m (labels_below y (branches_of (node_at ns m)))) ≡ []
      go [] e = refl
      go (to_leaf x s ∷ fs) e = let z : ◌≡◌ {A = ℕ} 0 1 = cc in absurd (omega arith)
      go (to_node x ∷ fs) e = let z : ◌≡◌ {A = ℕ} 0 1 = cc in absurd (omega arith)

  module _ (label : ℕ) (up : Ascends (branches_of (node_at ns m))) (named : label ≡ first_label (drop (labels_below y (branches_of (node_at ns m))) (branches_of (node_at ns m)))) where
    -- what comes behind the first branch
    behind_first : (e : Branch) (rest : List Branch) → drop (labels_below y (branches_of (node_at ns m))) (branches_of (node_at ns m)) ≡ e ∷ rest
        → behind_branches (below ns l) rest (child_number ns m (labels_below y (branches_of (node_at ns m))) + bit (has_child e)) ≡ from_label ns l m (label + 1)
    unfolding from_label first_label child_number
    behind_first e rest d =
        let n : label ≡ label_of e = named ∙ ap first_label d in
        let s : label + 1 ≡ suc (label_of e) = omega arith in
        let p = ap (λ (z : ℕ). labels_below z (branches_of (node_at ns m))) s ∙ next_label (branches_of (node_at ns m)) (labels_below y (branches_of (node_at ns m))) e rest up d in
        let c = children_next (branches_of (node_at ns m)) (labels_below y (branches_of (node_at ns m))) e rest d in
        sym (rw p (ap₂ (behind_branches (below ns l)) (drop_next (branches_of (node_at ns m)) (labels_below y (branches_of (node_at ns m))) e rest d) (omega (arith, c))))

    -- the first branch from y on ends at an open leaf
    pub from_leaf : (w : ℕ) → All (SlotsWidth w) ns → kind ≡ Kind.Leaf → from_label ns l m y ≡ record { cut = label ∷ []; exact = false; suffix = slot_of w ns (slot_number ns m (labels_below y (branches_of (node_at ns m)))) } ∷ from_label ns l m (label + 1)
    unfolding from_label behind_branches first_kind first_label
    from_leaf w wide h = go (drop (labels_below y (branches_of (node_at ns m))) (branches_of (node_at ns m))) refl (sym is ∙ h) named
      where
        go : (fs : List Branch) → drop (labels_below y (branches_of (node_at ns m))) (branches_of (node_at ns m)) ≡ fs → first_kind fs ≡ Kind.Leaf → label ≡ first_label fs
            → behind_branches (below ns l) fs (child_number ns m (labels_below y (branches_of (node_at ns m))))
            ≡ record { cut = label ∷ []; exact = false; suffix = slot_of w ns (slot_number ns m (labels_below y (branches_of (node_at ns m)))) } ∷ from_label ns l m (label + 1)
        go [] f e v = let z : ◌≡◌ {A = ℕ} 0 1 = cc in absurd (omega arith)
        go (to_leaf x s ∷ fs) f e v =
            let b = behind_first (to_leaf x s) fs f in
            let z : child_number ns m (labels_below y (branches_of (node_at ns m))) + 0 ≡ child_number ns m (labels_below y (branches_of (node_at ns m))) = omega arith in
            rw (v, slot_is w ns m (labels_below y (branches_of (node_at ns m))) x s fs wide f) (ap (λ (g : Group). record { cut = x ∷ []; exact = false; suffix = s } ∷ g) (rw (z, v) at b))
        go (to_node x ∷ fs) f e v = let z : ◌≡◌ {A = ℕ} 0 1 = cc in absurd (omega arith)

    -- it continues
    pub from_node : kind ≡ Kind.Child → from_label ns l m y ≡ map (prefix label) (below ns l (child_number ns m (labels_below y (branches_of (node_at ns m))))) ++ from_label ns l m (label + 1)
    unfolding from_label behind_branches first_kind first_label
    from_node h = go (drop (labels_below y (branches_of (node_at ns m))) (branches_of (node_at ns m))) refl (sym is ∙ h) named
      where
        go : (fs : List Branch) → drop (labels_below y (branches_of (node_at ns m))) (branches_of (node_at ns m)) ≡ fs → first_kind fs ≡ Kind.Child → label ≡ first_label fs
            → behind_branches (below ns l) fs (child_number ns m (labels_below y (branches_of (node_at ns m))))
            ≡ map (prefix label) (below ns l (child_number ns m (labels_below y (branches_of (node_at ns m))))) ++ from_label ns l m (label + 1)
        go [] f e v = let z : ◌≡◌ {A = ℕ} 0 1 = cc in absurd (omega arith)
        go (to_leaf x s ∷ fs) f e v = let z : ◌≡◌ {A = ℕ} 0 1 = cc in absurd (omega arith)
        go (to_node x ∷ fs) f e v =
            let b = behind_first (to_node x) fs f in
            let z : child_number ns m (labels_below y (branches_of (node_at ns m))) + 1 ≡ suc (child_number ns m (labels_below y (branches_of (node_at ns m)))) = omega arith in
            rw v (ap (λ (g : Group). map (prefix x) (below ns l (child_number ns m (labels_below y (branches_of (node_at ns m))))) ++ g) (rw (z, v) at b))

-- ---- nodes on their levels

-- a node with labels has a first branch
labelled_first : (n : Node) → Labelled n → first_kind (drop (labels_below 0 (branches_of n)) (branches_of n)) ≡ Kind.Absent → ⊥
unfolding first_kind
labelled_first (node o []) f e = absurd f
labelled_first (node o (to_leaf x s ∷ es)) f e = let k = rw (none_below_zero (to_leaf x s ∷ es)) at e in let z : ◌≡◌ {A = ℕ} 0 1 = cc in omega arith
labelled_first (node o (to_node x ∷ es)) f e = let k = rw (none_below_zero (to_node x ∷ es)) at e in let z : ◌≡◌ {A = ℕ} 0 1 = cc in omega arith

labelled_rising : (n : Node) → Labelled n → Ascends (branches_of n)
labelled_rising (node o []) f = tt
labelled_rising (node o (e ∷ es)) f = f

module _ (all pre ns : List Node) (ls : List (List Node)) (n : Linked (ns ∷ ls)) (s : Stands all pre (ns ∷ ls)) (m : ℕ) (o : Option Bits) (es : List Branch) (rest : List Node) (d : drop m ns ≡ node o es ∷ rest) where
  -- it is node m of the level
  pub the_node : node_at all (length pre + m) ≡ node o es
  the_node = node_is all pre ns ls m o es rest s d

  -- the number of the node behind branch j
  pub child_is : (j : ℕ) → child_number all (length pre + m) j ≡ length (pre ++ ns) + (total children_of (take m ns) + children (take j es))
  unfolding child_number
  child_is j = rw the_node (omega (arith, children_upto all pre ns ls s m (omega (arith, length-drop m ns, ap length d)), length-append pre ns, s.1))

-- the node behind a branch of a level's node stands on the next level
child_level : (all pre ns : List Node) (ls : List (List Node)) (n : Linked (ns ∷ ls)) (s : Stands all pre (ns ∷ ls)) (m : ℕ) (o : Option Bits) (es : List Branch) (rest : List Node) (d : drop m ns ≡ node o es ∷ rest) (l j : ℕ)
    → length (ns ∷ ls) ≤ suc l → 0 < children (drop j es) → OnLevel all l (child_number all (length pre + m) j)
child_level all pre ns ls n s m o es rest d l j f h = record {
  before = pre ++ ns;
  levels = ls;
  index = total children_of (take m ns) + children (take j es);
  few = omega arith;
  linked = n.3;
  stands = stands_next all pre ns ls n s;
  number = child_is all pre ns ls n s m o es rest d j;
  inside = omega (arith, kids_at m ns o es rest d, children_split j es, n.1);
}

module _ (ns : List Node) (l m : ℕ) (on : OnLevel ns l m) where
  -- a level is left
  pub level_left : 0 < l
  level_left = go on.levels on.few on.inside
    where
      go : (ls : List (List Node)) → length ls ≤ l → on.index < first_width ls → 0 < l
      go [] f h = absurd (omega arith)
      go (r ∷ ls) f h = omega arith

  -- it is one of the nodes
  pub level_node : m < length ns
  unfolding concat
  level_node = go on.levels on.stands on.inside
    where
      go : (ls : List (List Node)) → Stands ns on.before ls → on.index < first_width ls → m < length ns
      go [] s h = absurd (omega arith)
      go (r ∷ ls) s h = omega (arith, on.number, ap length s.0, length-append on.before (r ++ concat ls), length-append r (concat ls))

  labelled : Labelled (node_at ns m)
  labelled = rw on.number (go on.levels on.linked on.stands on.inside)
    where
      go : (ls : List (List Node)) → Linked ls → Stands ns on.before ls → on.index < first_width ls → Labelled (node_at ns (length on.before + on.index))
      go [] k s h = absurd (omega arith)
      go (r ∷ ls) k s h = at_node (drop on.index r) refl
        where
          at_node : (ds : List Node) → drop on.index r ≡ ds → Labelled (node_at ns (length on.before + on.index))
          at_node [] d = absurd (omega (arith, length-drop on.index r, ap length d))
          at_node (node o es ∷ rest) d = rw (node_is ns on.before r ls on.index o es rest s d) (fit_at on.index r o es rest d k.0)

  -- its labels ascend
  pub level_rising : Ascends (branches_of (node_at ns m))
  level_rising = labelled_rising (node_at ns m) labelled

  -- it has a branch
  pub level_branch : first_kind (drop (labels_below 0 (branches_of (node_at ns m))) (branches_of (node_at ns m))) ≡ Kind.Absent → ⊥
  level_branch e = labelled_first (node_at ns m) labelled e

-- The node behind a branch that continues stands on the next level.
pub level_child : (ns : List Node) (l m i : ℕ) → OnLevel ns (suc l) m → first_kind (drop i (branches_of (node_at ns m))) ≡ Kind.Child → OnLevel ns l (child_number ns m i)
level_child ns l m i on h = rw on.number (go on.levels on.few on.linked on.stands on.inside)
  where
    go : (ls : List (List Node)) → length ls ≤ suc l → Linked ls → Stands ns on.before ls → on.index < first_width ls → OnLevel ns l (child_number ns (length on.before + on.index) i)
    go [] f k s b = absurd (omega arith)
    go (r ∷ ls) f k s b = at_node (drop on.index r) refl
      where
        at_node : (ds : List Node) → drop on.index r ≡ ds → OnLevel ns l (child_number ns (length on.before + on.index) i)
        at_node [] d = absurd (omega (arith, length-drop on.index r, ap length d))
        at_node (node o es ∷ rest) d =
            let t : node_at ns m ≡ node o es = ap (node_at ns) on.number ∙ node_is ns on.before r ls on.index o es rest s d in
            child_level ns on.before r ls k s on.index o es rest d l i f (child_there (drop i es) (rw t at h))

-- ---- the leaves below a node are its group

-- behind branches, over the groups that they lead to
behind_groups : (f : ℕ → Group) (es : List Branch) (gs : List Group) (c : ℕ) → children es ≤ length gs → ((i : ℕ) → i < children es → f (c + i) ≡ get_or gs i []) → behind_branches f es c ≡ branch_leaves es gs
unfolding behind_branches branch_leaves children
behind_groups f [] gs c h n = refl
behind_groups f (to_leaf x s ∷ es) gs c h n = ap (λ (g : Group). record { cut = x ∷ []; exact = false; suffix = s } ∷ g) (behind_groups f es gs c h n)
behind_groups f (to_node x ∷ es) [] c h n = absurd (omega arith)
behind_groups f (to_node x ∷ es) (g ∷ gs) c h n =
    let z : c + 0 ≡ c = omega arith in
    ap₂ ◌++◌ (ap (map (prefix x)) (rw z at (n 0 (omega arith)))) (behind_groups f es gs (suc c) (omega arith) (λ i b. let e : suc c + i ≡ c + suc i = omega arith in rw e (n (suc i) (omega arith))))

-- The leaves at or below a node of a level are its group.
below_group : (ls : List (List Node)) (l : ℕ) (all pre : List Node) (m : ℕ) → length ls ≤ l → Linked ls → Stands all pre ls → m < first_width ls → below all l (length pre + m) ≡ get_or (groups ls) m []
unfolding below groups children
below_group [] l all pre m f n s h = absurd (omega arith)
below_group (ns ∷ ls) zero all pre m f n s h = absurd (omega arith)
below_group (ns ∷ ls) (suc l) all pre m f n s h =
    at_node (drop m ns) refl (λ i b. below_group ls l all (pre ++ ns) i (omega arith) n.3 (stands_next all pre ns ls n s) b)
  where
    at_node : (ds : List Node) → drop m ns ≡ ds → ((i : ℕ) → i < first_width ls → below all l (length (pre ++ ns) + i) ≡ get_or (groups ls) i [])
        → exact_leaf (own_slot (node_at all (length pre + m))) ++ behind_branches (below all l) (branches_of (node_at all (length pre + m))) (child_number all (length pre + m) 0) ≡ get_or (level_groups ns (groups ls)) m []
    at_node [] d next = absurd (omega (arith, length-drop m ns, ap length d))
    at_node (node o es ∷ rest) d next =
        let k = kids_at m ns o es rest d in
        let c : child_number all (length pre + m) 0 ≡ length (pre ++ ns) + (total children_of (take m ns) + 0) = child_is all pre ns ls n s m o es rest d 0 in
        let b = behind_groups (below all l) es (drop (total children_of (take m ns)) (groups ls)) (child_number all (length pre + m) 0)
        (omega (arith, (levels_back ls n.3).wide, length-drop (total children_of (take m ns)) (groups ls), n.1))
        (λ i q. let e : child_number all (length pre + m) 0 + i ≡ length (pre ++ ns) + (total children_of (take m ns) + i) = omega arith in
        ap (below all l) e ∙ next (total children_of (take m ns) + i) (omega (arith, n.1)) ∙ sym (get_or-drop (total children_of (take m ns)) (groups ls) i [])) in
        ap (λ (z : Node). exact_leaf (own_slot z) ++ behind_branches (below all l) (branches_of z) (child_number all (length pre + m) 0)) (the_node all pre ns ls n s m o es rest d)
        ∙ ap (λ (g : Group). exact_leaf o ++ g) b ∙ sym (group_at m ns (groups ls) o es rest d)

-- ---- from the root

-- the root of a leaf list's trie: it stands on the first level, all leaves are below it, and it is no leaf itself
pub record Root (ns : List Node) (ls : List Leaf) : Type 0 where
  pub on : OnLevel ns 64 0
  pub whole : below ns 64 0 ≡ ls
  pub leaves : from_label ns 63 0 0 ≡ ls

open_root : (n : ℕ) (ns : List Node) (ls : List Leaf) → AllWellSized n ls → below ns 64 0 ≡ ls → from_label ns 63 0 0 ≡ ls
unfolding exact_leaf
open_root n ns ls o e = go (own_slot (node_at ns 0)) (sym (below_step ns 63 0) ∙ e)
  where
    go : (b : Option Bits) → exact_leaf b ++ from_label ns 63 0 0 ≡ ls → from_label ns 63 0 0 ≡ ls
    go none q = q
    go (some s) q = let z = rw (← q) at o in absurd (omega (arith, z.0.key.least))

-- The nodes of the trie of a good leaf list that is not empty have a root.
pub trie_root : (n : ℕ) (ls : List Leaf) (ns : List Node) → Realizable n ls → AllWellSized n ls → ns ≡ concat (trie ls) → 0 < length ls → Root ns ls
unfolding total
trie_root n ls ns g o e h = go (realizable_trie n ls g o) o e h
  where
    go : {ls : List Leaf} → EmptyOrValid ls → AllWellSized n ls → ns ≡ concat (trie ls) → 0 < length ls → Root ns ls
    go empty_list o e h = absurd (omega arith)
    go (valid_trie {ls = ls} t) o e h =
        let w = root_first_width t in
        let b = below_group (trie ls) 64 ns [] 0 t.shallow t.linked (e, omega arith) (omega arith) in
        record {
          on = record { before = []; levels = trie ls; index = 0; few = t.shallow; linked = t.linked; stands = (e, omega arith); number = refl; inside = omega arith };
          whole = rw t.root at b;
          leaves = open_root n ns ls o (rw t.root at b);
        }
