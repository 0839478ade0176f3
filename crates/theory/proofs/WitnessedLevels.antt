-- The groups of linked levels, whose sole entries continue, are in order, and each leaf of a group has its witness there (`witnessed_levels`).
-- Used to show that the leaves of an accepted image are a realizable list.
use Rattle.std.specs.Prelude.{ℕ, ◌<◌, suc, ◌≤◌, ◌≡◌, refl, Bool, false, true, [], ◌∷◌, map, ◌++◌, List, length, drop}
use Rattle.std.proofs.Common.{ap, sym, ◌∙◌, true≢false, arith, length-drop, ne_eqb}
use Rattle.std.proofs.Math.Option.{Option, none, some}
use Rattle.spec.specs.Bytes.{Bytes, Bits, equal, begins, shared}
use Rattle.spec.specs.Leaves.{Leaf}
use Rattle.spec.specs.Nodes.{Group, prefix, Branch, branch_leaves, to_leaf, to_node, exact_leaf, children, label_of, node, Node, total, children_of, level_groups, groups}
use Rattle.theory.proofs.Lists.{eqb_self, in_map, all_append, in_left, in_valid, all_weaken, all_drop}
use Rattle.theory.specs.Terms.{All, In, there, here}
use Rattle.theory.proofs.LeafLists.{BeforeAll, less, step, Ordered, inner}
use Rattle.theory.proofs.LevelTrie.{NonemptyCuts, no_cuts, nonempty_cut, NodeGroup, plain_node, exact_node, SoleContinues}
use Rattle.theory.proofs.LinkedLevels.{BelowLabel, Ascends, Labelled, nonempty_cuts_branches, Linked, levels_back}
use Rattle.theory.proofs.Witnesses.{Witness}

-- ---- order

-- every cut key of the group has a first byte, above x
pub data FirstAbove (x : ℕ) : Group → Type 0 where
  none_above : FirstAbove x []
  first_above : {y : ℕ} {c : Bytes} {e : Bool} {s : Bits} {ls : Group} → x < y → FirstAbove x ls → FirstAbove x (record { cut = y ∷ c; exact = e; suffix = s } ∷ ls)

-- First bytes above y are above what is below y.
pub first_above_less : {x y : ℕ} {g : Group} → x < y → FirstAbove y g → FirstAbove x g
first_above_less h none_above = none_above
first_above_less h (first_above {y = z} k r) = first_above {y = z} (omega arith) (first_above_less h r)

-- First bytes are above x where one byte above it is put before.
pub first_above_map : (x y : ℕ) (g rest : Group) → x < y → FirstAbove x rest → FirstAbove x (map (prefix y) g ++ rest)
first_above_map x y [] rest h r = r
first_above_map x y (l ∷ g) rest h r = first_above h (first_above_map x y g rest h r)

first_above_branches : (x : ℕ) (es : List Branch) (gs : List Group) → BelowLabel x es → Ascends es → FirstAbove x (branch_leaves es gs)
unfolding branch_leaves
first_above_branches x [] gs u r = none_above
first_above_branches x (to_leaf y s ∷ es) gs u r = first_above u (first_above_less u (first_above_branches y es gs r.0 r.1))
first_above_branches x (to_node y ∷ es) [] u r = none_above
first_above_branches x (to_node y ∷ es) (g ∷ gs) u r = first_above_map x y g (branch_leaves es gs) u (first_above_less u (first_above_branches y es gs r.0 r.1))

-- A leaf with a first byte below all others is before them.
first_of_above : (x : ℕ) (c : Bytes) (e : Bool) (s : Bits) {ms : Group} → FirstAbove x ms → BeforeAll (record { cut = x ∷ c; exact = e; suffix = s }) ms
first_of_above x c e s none_above = tt
first_of_above x c e s (first_above h r) = (less h, first_of_above x c e s r)

first_map : (x : ℕ) (l : Leaf) (g rest : Group) → BeforeAll l g → FirstAbove x rest → BeforeAll (prefix x l) (map (prefix x) g ++ rest)
first_map x l [] rest f r = first_of_above x l.cut l.exact l.suffix r
first_map x l (m ∷ g) rest f r = (step f.0, first_map x l g rest f.1 r)

ordered_map : (x : ℕ) (g rest : Group) → Ordered g → FirstAbove x rest → Ordered rest → Ordered (map (prefix x) g ++ rest)
ordered_map x [] rest o r q = q
ordered_map x (l ∷ g) rest o r q = (first_map x l g rest o.0 r, ordered_map x g rest o.1 r q)

ordered_branches : (es : List Branch) (gs : List Group) → Ascends es → All Ordered gs → Ordered (branch_leaves es gs)
unfolding branch_leaves
ordered_branches [] gs r o = tt
ordered_branches (to_leaf x s ∷ es) gs r o = (first_of_above x [] false s (first_above_branches x es gs r.0 r.1), ordered_branches es gs r.1 o)
ordered_branches (to_node x ∷ es) [] r o = tt
ordered_branches (to_node x ∷ es) (g ∷ gs) r o = ordered_map x g (branch_leaves es gs) o.0 (first_above_branches x es gs r.0 r.1) (ordered_branches es gs r.1 o.1)

first_exact : (t : Bits) {ms : Group} → NonemptyCuts ms → BeforeAll (record { cut = []; exact = true; suffix = t }) ms
first_exact t no_cuts = tt
first_exact t (nonempty_cut r) = (inner tt, first_exact t r)

ordered_exact : (o : Option Bits) (g : Group) → NonemptyCuts g → Ordered g → Ordered (exact_leaf o ++ g)
unfolding exact_leaf
ordered_exact none g l q = q
ordered_exact (some t) g l q = (first_exact t l, q)

-- ---- witnesses

witness_prefix : (x : ℕ) (g G : Group) (l : Leaf) → ((m : Leaf) → In m (map (prefix x) g) → In m G) → Witness g l → Witness G (prefix x l)
unfolding equal begins shared
witness_prefix x g G l u w = record {
  other = prefix x w.other;
  mem = u (prefix x w.other) (in_map (prefix x) w.mem);
  apart = rw (eqb_self x) w.apart;
  grows = λ e. rw (eqb_self x) (w.grows e);
  parts = λ e. rw (eqb_self x) (ap suc (w.parts e));
}

witnesses_prefix : (x : ℕ) (g G : Group) → ((m : Leaf) → In m (map (prefix x) g) → In m G) → (ls : Group) → All (Witness g) ls → All (Witness G) (map (prefix x) ls)
witnesses_prefix x g G u [] w = tt
witnesses_prefix x g G u (l ∷ ls) w = (witness_prefix x g G l u w.0, witnesses_prefix x g G u ls w.1)

-- a leaf that is not behind the label x
record Elsewhere (x : ℕ) (G : Group) : Type 0 where
  other : Leaf
  mem : In other G
  apart : equal (x ∷ []) other.cut ≡ false
  none_shared : shared (x ∷ []) other.cut ≡ 0

-- for each branch to an open leaf, a leaf that is not behind its label
abbrev AllElsewhere : Group → List Branch → Type 0
AllElsewhere G [] = Unit
AllElsewhere G (to_leaf x s ∷ es) = Elsewhere x G × AllElsewhere G es
AllElsewhere G (to_node x ∷ es) = AllElsewhere G es

-- Leaves behind branches have their witnesses, where each group below has its own and each open leaf has another elsewhere.
witnesses_branches : (G : Group) (es : List Branch) (gs : List Group) → ((m : Leaf) → In m (branch_leaves es gs) → In m G) → AllElsewhere G es → All (λ g. All (Witness g) g) gs → All (Witness G) (branch_leaves es gs)
unfolding branch_leaves
witnesses_branches G [] gs u q w = tt
witnesses_branches G (to_leaf x s ∷ es) gs u q w = (
  record { other = q.0.other; mem = q.0.mem; apart = q.0.apart; grows = λ e. absurd (true≢false (sym e)); parts = λ _. ap suc q.0.none_shared },
  witnesses_branches G es gs (λ m i. u m (there i)) q.1 w,
)
witnesses_branches G (to_node x ∷ es) [] u q w = tt
witnesses_branches G (to_node x ∷ es) (g ∷ gs) u q w =
    all_append (Witness G) (map (prefix x) g) (branch_leaves es gs) (witnesses_prefix x g G (λ m i. u m (in_left (branch_leaves es gs) i)) g w.0)
    (witnesses_branches G es gs (λ m i. u m (in_valid (map (prefix x) g) (branch_leaves es gs) i)) q w.1)

elsewhere_exact : (x : ℕ) (t : Bits) (g : Group) → Elsewhere x (record { cut = []; exact = true; suffix = t } ∷ g)
unfolding equal shared
elsewhere_exact x t g = record { other = record { cut = []; exact = true; suffix = t }; mem = here; apart = refl; none_shared = refl }

all_elsewhere_exact : (t : Bits) (g : Group) (es : List Branch) → AllElsewhere (record { cut = []; exact = true; suffix = t } ∷ g) es
all_elsewhere_exact t g [] = tt
all_elsewhere_exact t g (to_leaf x s ∷ es) = (elsewhere_exact x t g, all_elsewhere_exact t g es)
all_elsewhere_exact t g (to_node x ∷ es) = all_elsewhere_exact t g es

-- a leaf behind the label y
record LeafBehind (y : ℕ) (G : Group) : Type 0 where
  tail : Bytes
  kind : Bool
  slot : Bits
  mem : In (record { cut = y ∷ tail; exact = kind; suffix = slot }) G

elsewhere_behind : (x y : ℕ) (G : Group) → (x ≡ y → ⊥) → LeafBehind y G → Elsewhere x G
unfolding equal shared
elsewhere_behind x y G n b = record { other = record { cut = y ∷ b.tail; exact = b.kind; suffix = b.slot }; mem = b.mem; apart = rw (ne_eqb x y n); none_shared = rw (ne_eqb x y n) }

behind_first : (e : Branch) (es : List Branch) (gs : List Group) → children (e ∷ es) ≤ length gs → All NodeGroup gs → LeafBehind (label_of e) (branch_leaves (e ∷ es) gs)
unfolding branch_leaves children
behind_first (to_leaf x s) es gs k h = record { tail = []; kind = false; slot = s; mem = here }
behind_first (to_node x) es [] k h = absurd (omega arith)
behind_first (to_node x) es (g ∷ gs) k h = go g h.0
  where
    go : (g : Group) → NodeGroup g → LeafBehind x (map (prefix x) g ++ branch_leaves es gs)
    go g (plain_node {x = y} {c = c} {e = b} {s = s} q) = record { tail = y ∷ c; kind = b; slot = s; mem = here }
    go g (exact_node {t = t} q) = record { tail = []; kind = true; slot = t; mem = here }

behind_rest : (y : ℕ) (e : Branch) (es : List Branch) (gs : List Group) → children (e ∷ es) ≤ length gs → ((hs : List Group) → children es ≤ length hs → All NodeGroup hs → LeafBehind y (branch_leaves es hs)) → All NodeGroup gs → LeafBehind y (branch_leaves (e ∷ es) gs)
unfolding branch_leaves children
behind_rest y (to_leaf x s) es gs k f h = let b = f gs k h in record { tail = b.tail; kind = b.kind; slot = b.slot; mem = there b.mem }
behind_rest y (to_node x) es [] k f h = absurd (omega arith)
behind_rest y (to_node x) es (g ∷ gs) k f h = let b = f gs (omega arith) h.1 in record { tail = b.tail; kind = b.kind; slot = b.slot; mem = in_valid (map (prefix x) g) (branch_leaves es gs) b.mem }

witness_exact : (t : Bits) (y : ℕ) (g : Group) → LeafBehind y g → Witness (record { cut = []; exact = true; suffix = t } ∷ g) (record { cut = []; exact = true; suffix = t })
unfolding equal begins
witness_exact t y g b = record {
  other = record { cut = y ∷ b.tail; exact = b.kind; suffix = b.slot };
  mem = there b.mem;
  apart = refl;
  grows = λ _. refl;
  parts = λ e. absurd (true≢false e);
}

-- A leaf behind a lower label is elsewhere than the branches.
all_elsewhere_behind : (y : ℕ) (G : Group) (es : List Branch) → BelowLabel y es → Ascends es → LeafBehind y G → AllElsewhere G es
all_elsewhere_behind y G [] u r b = tt
all_elsewhere_behind y G (to_leaf x s ∷ []) u r b = (elsewhere_behind x y G (λ q. omega arith) b, tt)
all_elsewhere_behind y G (to_node x ∷ []) u r b = tt
all_elsewhere_behind y G (to_leaf x s ∷ f ∷ es) u r b = (elsewhere_behind x y G (λ q. omega arith) b, all_elsewhere_behind y G (f ∷ es) (omega (arith, r.0)) r.1 b)
all_elsewhere_behind y G (to_node x ∷ f ∷ es) u r b = all_elsewhere_behind y G (f ∷ es) (omega (arith, r.0)) r.1 b

-- leaves in order, each with its witness among them
abbrev pub Witnessed : Group → Type 0
Witnessed g = Ordered g × All (Witness g) g

all_elsewhere_two : (G : Group) (e f : Branch) (es : List Branch) → Ascends (e ∷ f ∷ es) → LeafBehind (label_of e) G → LeafBehind (label_of f) G → AllElsewhere G (e ∷ f ∷ es)
all_elsewhere_two G (to_leaf x s) f es r a b = (elsewhere_behind x (label_of f) G (λ q. omega (arith, r.0)) b, all_elsewhere_behind x G (f ∷ es) r.0 r.1 a)
all_elsewhere_two G (to_node x) f es r a b = all_elsewhere_behind x G (f ∷ es) r.0 r.1 a

-- The leaves of a node whose sole entry continues have their witnesses among them.
witnesses_node : (o : Option Bits) (es : List Branch) (gs : List Group) → Labelled (node o es) → SoleContinues (node o es) → children es ≤ length gs → All NodeGroup gs → All Witnessed gs
    → All (Witness (exact_leaf o ++ branch_leaves es gs)) (exact_leaf o ++ branch_leaves es gs)
unfolding exact_leaf
witnesses_node o [] gs r q k h f = absurd r
witnesses_node none (to_leaf x s ∷ []) gs r q k h f = absurd q
witnesses_node none (to_node x ∷ []) gs r q k h f = witnesses_branches (branch_leaves (to_node x ∷ []) gs) (to_node x ∷ []) gs (λ m i. i) tt (all_weaken Witnessed (λ g. All (Witness g) g) (λ g h. h.1) gs f)
witnesses_node none (a ∷ b ∷ es) gs r q k h f =
    witnesses_branches (branch_leaves (a ∷ b ∷ es) gs) (a ∷ b ∷ es) gs (λ m i. i)
    (all_elsewhere_two (branch_leaves (a ∷ b ∷ es) gs) a b es r (behind_first a (b ∷ es) gs k h) (behind_rest (label_of b) a (b ∷ es) gs k (λ hs k' h'. behind_first b es hs k' h') h))
    (all_weaken Witnessed (λ g. All (Witness g) g) (λ g h. h.1) gs f)
witnesses_node (some t) (e ∷ es) gs r q k h f = (
  witness_exact t (label_of e) (branch_leaves (e ∷ es) gs) (behind_first e es gs k h),
  witnesses_branches (record { cut = []; exact = true; suffix = t } ∷ branch_leaves (e ∷ es) gs) (e ∷ es) gs (λ m i. there i) (all_elsewhere_exact t (branch_leaves (e ∷ es) gs) (e ∷ es)) (all_weaken Witnessed (λ g. All (Witness g) g) (λ g h. h.1) gs f),
)

-- A labelled node's labels ascend.
pub labelled_ascends : (o : Option Bits) (es : List Branch) → Labelled (node o es) → Ascends es
labelled_ascends o [] r = tt
labelled_ascends o (e ∷ es) r = r

-- The groups of a level are witnessed where those of the next level are.
witnessed_level : (ns : List Node) (gs : List Group) → All Labelled ns → All SoleContinues ns → total children_of ns ≡ length gs → All NodeGroup gs → All Witnessed gs → All Witnessed (level_groups ns gs)
unfolding level_groups total
witnessed_level [] gs a q k h f = tt
witnessed_level (node o es ∷ ns) gs a q k h f =
    let n = length-drop (children es) gs in (
      (
        ordered_exact o (branch_leaves es gs) (nonempty_cuts_branches es gs) (ordered_branches es gs (labelled_ascends o es a.0) (all_weaken Witnessed Ordered (λ g h. h.0) gs f)),
        witnesses_node o es gs a.0 q.0 (omega arith) h f,
      ),
      witnessed_level ns (drop (children es) gs) a.1 q.1 (omega arith) (all_drop NodeGroup (children es) gs h) (all_drop Witnessed (children es) gs f),
    )

-- The groups of linked levels whose sole entries continue are witnessed.
pub witnessed_levels : (ls : List (List Node)) → Linked ls → All (All SoleContinues) ls → All Witnessed (groups ls)
unfolding groups
witnessed_levels [] k r = tt
witnessed_levels (ns ∷ ls) k r =
    let w = levels_back ls k.3 in
    witnessed_level ns (groups ls) k.0 r.0 (k.1 ∙ sym w.wide) w.node_groups (witnessed_levels ls k.3 r.1)
