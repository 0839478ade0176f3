-- Nodes in level order: where a key leads from the root, and how many leaves count before it, level by level.
use Rattle.std.specs.Prelude.{ℕ, zero, suc, ◌+◌, ◌-◌, ◌<◌, ◌≤◌, ◌≡◌, Bool, ◌&&◌, get_or, take}
use Rattle.std.proofs.Math.Path.{refl, ap}
use Rattle.std.proofs.Common.{sym, ap₂, ◌∙◌, true≢false, length-append, take-add, get_or-append-add, get_or-drop, drop-drop}
use Rattle.std.proofs.Math.Bool.{true, false, cond}
use mathlib.Core.List.{List, [], ◌∷◌, ◌++◌, append_assoc}
use Rattle.std.proofs.Math.Option.{Option, none}
use native.Mathlib.Omega.{arith}
use Rattle.std.proofs.Math.ListN.{length, drop, length-drop, get_or-append}
use Rattle.std.proofs.Math.Seq.{take-append_seam, take-append-add}
use Rattle.std.proofs.lemmas.List.{take-append-le}
use Rattle.std.proofs.Math.Dec.{eqb}
use Rattle.spec.specs.Bytes.{Bytes, Bits, bit, count, concat}
use Rattle.spec.specs.Nodes.{Group, Branch, to_node, to_leaf, Node, node, slot, branches_of, is_exact, branch_leaves, children, exact_leaf, level_groups, groups, total, children_of}
use Rattle.spec.specs.Trie.{open_leaves, leaf_count}
use Rattle.nav_nodes.specs.Counting.{labels_below, counts, count_append, counts_at, branches_none, branches_counted, exact_none, exact_counted}
use Rattle.nav_nodes.specs.Slots.{node_at, leaves_before, slot_number, slot_of, slot_is}
use Rattle.theory.specs.Terms.{All}
use Rattle.theory.proofs.LinkedLevels.{first_width, Linked, Labelled, levels_back}
use Rattle.theory.proofs.Levels.{leaf_count_append, leaves_in}
use Rattle.theory.proofs.Numbering.{leaves_before as before, leaves_before_groups}
use Rattle.theory.proofs.NodeBits.{SlotsWidth}
use Rattle.theory.proofs.WitnessedLevels.{labelled_ascends}

-- the continuing branches of the nodes before node m
unfoldable pub children_before : List Node → ℕ → ℕ
unfolding total
children_before ns m = total children_of (take m ns)

-- the node behind the first continuing branch at or behind branch i of node m: one more than the continuing branches before
unfoldable pub child_number : List Node → ℕ → ℕ → ℕ
unfolding children_before children
child_number ns m i = 1 + (children_before ns m + children (take i (branches_of (node_at ns m))))

-- the first branch has the label y and continues
unfoldable pub goes_on : ℕ → List Branch → Bool
goes_on y [] = false
goes_on y (to_leaf x s ∷ es) = false
goes_on y (to_node x ∷ es) = eqb x y

-- the first branch has the label y and ends at an open leaf
unfoldable pub ends_at : ℕ → List Branch → Bool
ends_at y [] = false
ends_at y (to_leaf x s ∷ es) = eqb x y
ends_at y (to_node x ∷ es) = false

-- the continuing branches before branch i and from it on
pub children_split : (i : ℕ) (es : List Branch) → children (take i es) + children (drop i es) ≡ children es
unfolding children
children_split zero es = omega arith
children_split (suc i) [] = refl
children_split (suc i) (to_leaf x s ∷ es) = children_split i es
children_split (suc i) (to_node x ∷ es) = omega (arith, children_split i es)

-- where a key leads: nowhere; to an exact leaf; to the open leaf with this slot number, with the rest of the key
pub data Stop : Type 0 where
  miss : Stop
  at_exact : Stop
  at_open : ℕ → Bytes → Stop

-- where the key leads from node m on
unfoldable pub descend : List Node → ℕ → Bytes → Stop
unfolding labels_below child_number slot_number goes_on ends_at
descend ns m [] = cond (is_exact (node_at ns m)) at_exact miss
descend ns m (y ∷ k) =
    let i : ℕ = labels_below y (branches_of (node_at ns m)) in
    let fs : List Branch = drop i (branches_of (node_at ns m)) in
    cond (goes_on y fs) (descend ns (child_number ns m i) k) (cond (ends_at y fs) (at_open (slot_number ns m i) k) miss)

-- the leaves at or below the nodes from number lo to before hi of one level, l levels left: those that end on it, and the same one level lower
unfoldable pub leaves_between : List Node → ℕ → ℕ → ℕ → ℕ
unfolding leaves_before children_before
leaves_between ns zero lo hi = 0
leaves_between ns (suc l) lo hi = (leaves_before ns hi - leaves_before ns lo) + leaves_between ns l (1 + children_before ns lo) (1 + children_before ns hi)

-- the leaves of the nodes from number lo on of one level that lie before the key k of node m, whatever an open leaf's suffix says; l levels left
unfoldable pub leaves_below : List Node → ℕ → ℕ → ℕ → Bytes → ℕ
unfolding leaves_between labels_below child_number slot_number goes_on
leaves_below ns l lo m [] = leaves_between ns l lo m
leaves_below ns l lo m (y ∷ k) =
    let i : ℕ = labels_below y (branches_of (node_at ns m)) in
    let c : ℕ = child_number ns m i in
    let first : ℕ = 1 + children_before ns lo in
    (slot_number ns m i - leaves_before ns lo)
    + cond (goes_on y (drop i (branches_of (node_at ns m)))) (leaves_below ns (l - 1) first c k) (leaves_between ns (l - 1) first c)

-- ---- levels in a row of nodes

-- the levels stand behind the nodes `pre`, whose branches lead to the first of them
abbrev pub Stands : List Node → List Node → List (List Node) → Type 0
Stands all pre ls = (all ≡ pre ++ concat ls) × (length pre + first_width ls ≡ 1 + total children_of pre)

pub kids_append : (a b : List Node) → total children_of (a ++ b) ≡ total children_of a + total children_of b
unfolding total
kids_append [] b = omega arith
kids_append (node o es ∷ a) b = omega (arith, kids_append a b)

pub kids_take : (m : ℕ) (ns : List Node) → total children_of (take m ns) ≤ total children_of ns
unfolding total
kids_take zero ns = omega arith
kids_take (suc m) [] = omega arith
kids_take (suc m) (node o es ∷ ns) = omega (arith, kids_take m ns)

-- the next level stands behind this one
pub stands_next : (all pre ns : List Node) (ls : List (List Node)) → Linked (ns ∷ ls) → Stands all pre (ns ∷ ls) → Stands all (pre ++ ns) ls
unfolding concat
stands_next all pre ns ls k s = (s.0 ∙ sym (append_assoc pre ns (concat ls)), omega (arith, length-append pre ns, kids_append pre ns, s.1, k.1))

take_level : (pre ns rest : List Node) (m : ℕ) → m ≤ length ns → take (length pre + m) (pre ++ (ns ++ rest)) ≡ pre ++ take m ns
take_level pre ns rest m h = take-append-add pre (ns ++ rest) m ∙ rw (take-append-le m ns rest)

-- the counts before the first node of a level, and before its node m
module _ (all pre ns : List Node) (ls : List (List Node)) (s : Stands all pre (ns ∷ ls)) where
  first_of : take (length pre) all ≡ pre
  unfolding concat
  first_of = rw s.0 (take-append_seam pre (ns ++ concat ls))

  upto : (m : ℕ) → m ≤ length ns → take (length pre + m) all ≡ pre ++ take m ns
  unfolding concat
  upto m h = rw s.0 (take_level pre ns (concat ls) m h)

  -- the continuing branches before a level
  pub children_first : children_before all (length pre) ≡ total children_of pre
  unfolding children_before
  children_first = ap (total children_of) first_of

  leaves_first : leaves_before all (length pre) ≡ leaf_count pre
  unfolding leaves_before
  leaves_first = ap leaf_count first_of

  -- and before its node m
  pub children_upto : (m : ℕ) → m ≤ length ns → children_before all (length pre + m) ≡ total children_of pre + total children_of (take m ns)
  unfolding children_before
  children_upto m h = ap (total children_of) (upto m h) ∙ kids_append pre (take m ns)

  leaves_upto : (m : ℕ) → m ≤ length ns → leaves_before all (length pre + m) ≡ leaf_count pre + leaf_count (take m ns)
  unfolding leaves_before
  leaves_upto m h = ap leaf_count (upto m h) ∙ leaf_count_append pre (take m ns)

before_step : (ns : List Node) (ls : List (List Node)) (m : ℕ) → before (ns ∷ ls) m ≡ leaf_count (take m ns) + before ls (total children_of (take m ns))
unfolding before
before_step ns ls m = refl

before_none : (m : ℕ) → before [] m ≡ 0
unfolding before
before_none m = refl

-- no leaves between a node and itself
pub between_same : (ns : List Node) (l a : ℕ) → leaves_between ns l a a ≡ 0
unfolding leaves_between
between_same ns zero a = refl
between_same ns (suc l) a = omega (arith, between_same ns l (1 + children_before ns a))

-- The recursion on the levels left gives the leaves at or below the first m nodes of a level.
between_levels : (ls : List (List Node)) (l : ℕ) (all pre : List Node) (m : ℕ) → length ls ≤ l → Linked ls → Stands all pre ls → m ≤ first_width ls
    → leaves_between all l (length pre) (length pre + m) ≡ before ls m
unfolding leaves_between
between_levels [] l all pre m f k s h = let e : length pre + m ≡ length pre = omega arith in rw e (between_same all l (length pre) ∙ sym (before_none m))
between_levels (ns ∷ ls) zero all pre m f k s h = absurd (omega arith)
between_levels (ns ∷ ls) (suc l) all pre m f k s h =
    let c = children_upto all pre ns ls s m h in
    let c₀ = children_first all pre ns ls s in
    let lo : 1 + children_before all (length pre) ≡ length (pre ++ ns) = omega (arith, length-append pre ns, s.1) in
    let hi : 1 + children_before all (length pre + m) ≡ length (pre ++ ns) + total children_of (take m ns) = omega (arith, length-append pre ns, s.1) in
    let ih = between_levels ls l all (pre ++ ns) (total children_of (take m ns)) (omega arith) k.3 (stands_next all pre ns ls k s) (omega (arith, kids_take m ns, k.1)) in
    rw (lo, hi, ih) (omega (arith, leaves_upto all pre ns ls s m h, leaves_first all pre ns ls s, before_step ns ls m))

-- ---- one node of a level

-- the leaves at or below node m of a level
pub group_at : (m : ℕ) (ns : List Node) (gs : List Group) (o : Option Bits) (es : List Branch) (rest : List Node) → drop m ns ≡ node o es ∷ rest
    → get_or (level_groups ns gs) m [] ≡ exact_leaf o ++ branch_leaves es (drop (total children_of (take m ns)) gs)
unfolding level_groups total
group_at zero [] gs o es rest d = let z : ◌≡◌ {A = ℕ} 0 1 = cc in absurd (omega arith)
group_at zero (node p fs ∷ ns) gs o es rest d = let e : node p fs ≡ node o es = cc in same e
  where
    same : node p fs ≡ node o es → exact_leaf p ++ branch_leaves fs gs ≡ exact_leaf o ++ branch_leaves es gs
    same e = cc
group_at (suc m) [] gs o es rest d = let z : ◌≡◌ {A = ℕ} 0 1 = cc in absurd (omega arith)
group_at (suc m) (node p fs ∷ ns) gs o es rest d =
    group_at m ns (drop (children fs) gs) o es rest d
    ∙ ap (λ (z : List Group). exact_leaf o ++ branch_leaves es z) (drop-drop (total children_of (take m ns)) (children fs) gs)

-- the branches of node m among those of the level
pub kids_at : (m : ℕ) (ns : List Node) (o : Option Bits) (es : List Branch) (rest : List Node) → drop m ns ≡ node o es ∷ rest → total children_of (take m ns) + children es ≤ total children_of ns
unfolding total
kids_at zero [] o es rest d = let z : ◌≡◌ {A = ℕ} 0 1 = cc in absurd (omega arith)
kids_at zero (node p fs ∷ ns) o es rest d = let e : fs ≡ es = cc in rw e (omega arith)
kids_at (suc m) [] o es rest d = let z : ◌≡◌ {A = ℕ} 0 1 = cc in absurd (omega arith)
kids_at (suc m) (node p fs ∷ ns) o es rest d = omega (arith, kids_at m ns o es rest d)

-- node m of a level fits
pub fit_at : (m : ℕ) (ns : List Node) (o : Option Bits) (es : List Branch) (rest : List Node) → drop m ns ≡ node o es ∷ rest → All Labelled ns → Labelled (node o es)
fit_at zero [] o es rest d f = let z : ◌≡◌ {A = ℕ} 0 1 = cc in absurd (omega arith)
fit_at zero (n ∷ ns) o es rest d f = let e : n ≡ node o es = cc in rw e at f.0
fit_at (suc m) [] o es rest d f = let z : ◌≡◌ {A = ℕ} 0 1 = cc in absurd (omega arith)
fit_at (suc m) (n ∷ ns) o es rest d f = fit_at m ns o es rest d f.1

-- node m of a level by its number
pub node_is : (all pre ns : List Node) (ls : List (List Node)) (m : ℕ) (o : Option Bits) (es : List Branch) (rest : List Node) → Stands all pre (ns ∷ ls) → drop m ns ≡ node o es ∷ rest
    → node_at all (length pre + m) ≡ node o es
unfolding concat
node_is all pre ns ls m o es rest s d =
    let e : m + 0 ≡ m = omega arith in
    let h : m < length ns = omega (arith, length-drop m ns, ap length d) in
    rw s.0 (get_or-append-add pre (ns ++ concat ls) m (node none []) ∙ get_or-append ns (concat ls) (node none []) m h
    ∙ ap (λ (z : ℕ). get_or ns z (node none [])) (sym e) ∙ sym (get_or-drop m ns 0 (node none [])) ∙ ap (λ (z : List Node). get_or z 0 (node none [])) d)

leaves_take : (a b : ℕ) (gs : List Group) → leaves_in (take (a + b) gs) ≡ leaves_in (take a gs) + leaves_in (take b (drop a gs))
unfolding leaves_in
leaves_take a b gs = ap leaves_in (take-add a b gs) ∙ go (take a gs)
  where
    go : (xs : List Group) → leaves_in (xs ++ take b (drop a gs)) ≡ leaves_in xs + leaves_in (take b (drop a gs))
    go [] = omega arith
    go (g ∷ xs) = omega (arith, go xs)

-- a branch that continues is one of those that do
pub goes_children : (y : ℕ) (fs : List Branch) → goes_on y fs ≡ true → 0 < children fs
unfolding goes_on children
goes_children y [] h = absurd (true≢false (sym h))
goes_children y (to_leaf x s ∷ fs) h = absurd (true≢false (sym h))
goes_children y (to_node x ∷ fs) h = omega arith

-- ---- the law of a descent

module _ (ends : Bool) (q : Bits → Bytes → Bool) (w : ℕ) (all : List Node) where
  -- what counts where a key leads: an exact leaf if `ends` says so, an open leaf if its suffix passes the test
  unfoldable pub value : Stop → ℕ
  unfolding slot_of
  value miss = 0
  value at_exact = bit ends
  value (at_open v r) = bit (q (slot_of w all v) r)

  -- the slot of the first branch
  abbrev first_slot : List Branch → Bits
  first_slot [] = []
  first_slot (e ∷ es) = slot e

  -- what counts at the branch where the search stops, T leaves before it, B by the levels below, and D by the descent
  at_branch : (y : ℕ) (k : Bytes) (fs : List Branch) (hs : List Group) (T B D : ℕ) (deep : Stop) (v : ℕ) → children fs ≤ length hs → B ≡ T
      → (goes_on y fs ≡ true → T + count (counts ends q k) (get_or hs 0 []) ≡ D + value deep)
      → (ends_at y fs ≡ true → slot_of w all v ≡ first_slot fs)
      → T + counts_at ends q y k fs hs ≡ cond (goes_on y fs) D B + value (cond (goes_on y fs) deep (cond (ends_at y fs) (at_open v k) miss))
  unfolding counts_at goes_on ends_at value children
  at_branch y k [] hs T B D deep v c e d s = omega arith
  at_branch y k (to_leaf x t ∷ fs) hs T B D deep v c e d s = go (eqb x y) refl
    where
      go : (b : Bool) → eqb x y ≡ b → T + cond b (bit (q t k)) 0 ≡ B + value (cond b (at_open v k) miss)
      go true h = rw (s h) (omega arith)
      go false h = omega arith
  at_branch y k (to_node x ∷ fs) [] T B D deep v c e d s = absurd (omega arith)
  at_branch y k (to_node x ∷ fs) (g ∷ hs) T B D deep v c e d s = go (eqb x y) refl
    where
      go : (b : Bool) → eqb x y ≡ b → T + cond b (count (counts ends q k) g) 0 ≡ cond b D B + value (cond b deep miss)
      go true h = d h
      go false h = omega arith

  descend_none : (m : ℕ) (o : Option Bits) (es : List Branch) → node_at all m ≡ node o es → value (descend all m []) ≡ bit (is_exact (node o es) && ends)
  unfolding value descend
  descend_none m o es e = rw e (go (is_exact (node o es)))
    where
      go : (b : Bool) → value (cond b at_exact miss) ≡ bit (b && ends)
      go true = refl
      go false = refl

  first_is : (y : ℕ) (fs : List Branch) → ends_at y fs ≡ true → (x : ℕ) × (s : Bits) × (rest : List Branch) × (fs ≡ to_leaf x s ∷ rest) × (first_slot fs ≡ s)
  unfolding ends_at
  first_is y [] h = absurd (true≢false (sym h))
  first_is y (to_leaf x s ∷ fs) h = (x, s, fs, refl, refl)
  first_is y (to_node x ∷ fs) h = absurd (true≢false (sym h))

  below_none : (l lo m : ℕ) → leaves_below all l lo m [] ≡ leaves_between all l lo m
  unfolding leaves_below
  below_none l lo m = refl

  below_step : (l lo m : ℕ) (y : ℕ) (k : Bytes) (o : Option Bits) (es : List Branch) → node_at all m ≡ node o es
      → leaves_below all l lo m (y ∷ k)
      ≡ ((leaves_before all m + bit (is_exact (node o es)) + open_leaves (take (labels_below y es) es)) - leaves_before all lo)
      + cond (goes_on y (drop (labels_below y es) es)) (leaves_below all (l - 1) (1 + children_before all lo) (1 + (children_before all m + children (take (labels_below y es) es))) k)
      (leaves_between all (l - 1) (1 + children_before all lo) (1 + (children_before all m + children (take (labels_below y es) es))))
  unfolding leaves_below slot_number child_number
  below_step l lo m y k o es e = rw e

  descend_step : (m y : ℕ) (k : Bytes) (o : Option Bits) (es : List Branch) → node_at all m ≡ node o es
      → descend all m (y ∷ k)
      ≡ cond (goes_on y (drop (labels_below y es) es)) (descend all (1 + (children_before all m + children (take (labels_below y es) es))) k)
      (cond (ends_at y (drop (labels_below y es) es)) (at_open (slot_number all m (labels_below y es)) k) miss)
  unfolding descend child_number
  descend_step m y k o es e = rw e

  -- The leaves that count before a key, of the nodes of a level up to node m: those that the levels give, and what counts where the key leads.
  pub level_counted : (wide : All (SlotsWidth w) all) (ls : List (List Node)) (l : ℕ) (pre : List Node) (m : ℕ) (k : Bytes) → length ls ≤ l → Linked ls → Stands all pre ls → m < first_width ls
      → leaves_in (take m (groups ls)) + count (counts ends q k) (get_or (groups ls) m [])
      ≡ leaves_below all l (length pre) (length pre + m) k + value (descend all (length pre + m) k)
  unfolding groups
  level_counted wide [] l pre m k f n s h = absurd (omega arith)
  level_counted wide (ns ∷ ls) l pre m k f n s h =
      at_node (drop m ns) refl (λ j c b. level_counted wide ls (l - 1) (pre ++ ns) j c (omega arith) n.3 (stands_next all pre ns ls n s) b) k
    where
      at_node : (ds : List Node) → drop m ns ≡ ds
          → ((j : ℕ) (c : Bytes) → j < first_width ls → leaves_in (take j (groups ls)) + count (counts ends q c) (get_or (groups ls) j [])
          ≡ leaves_below all (l - 1) (length (pre ++ ns)) (length (pre ++ ns) + j) c + value (descend all (length (pre ++ ns) + j) c))
          → (k : Bytes) → leaves_in (take m (level_groups ns (groups ls))) + count (counts ends q k) (get_or (level_groups ns (groups ls)) m [])
          ≡ leaves_below all l (length pre) (length pre + m) k + value (descend all (length pre + m) k)
      at_node [] d next k = absurd (omega (arith, length-drop m ns, ap length d))
      at_node (node o es ∷ rest) d next k = go k
        where
          hs : List Group
          hs = drop (total children_of (take m ns)) (groups ls)

          here : node_at all (length pre + m) ≡ node o es
          here = node_is all pre ns ls m o es rest s d

          group : get_or (level_groups ns (groups ls)) m [] ≡ exact_leaf o ++ branch_leaves es (drop (total children_of (take m ns)) (groups ls))
          group = group_at m ns (groups ls) o es rest d

          levels : before (ns ∷ ls) m ≡ leaves_in (take m (level_groups ns (groups ls)))
          levels = leaves_before_groups (ns ∷ ls) n m

          none : leaves_below all l (length pre) (length pre + m) [] ≡ leaves_between all l (length pre) (length pre + m)
          none = below_none l (length pre) (length pre + m)

          counted_at : (y : ℕ) (k : Bytes) (i : ℕ) → labels_below y es ≡ i
              → leaves_in (take m (level_groups ns (groups ls))) + count (counts ends q (y ∷ k)) (get_or (level_groups ns (groups ls)) m [])
              ≡ leaves_below all l (length pre) (length pre + m) (y ∷ k) + value (descend all (length pre + m) (y ∷ k))
          counted_at y k i p =
              let K : ℕ = total children_of (take m ns) in
              let ka = kids_at m ns o es rest d in
              let wd = (levels_back ls n.3).wide in
              let ld = length-drop (total children_of (take m ns)) (groups ls) in
              let cs = children_split i es in
              let enough : children es ≤ length (drop (total children_of (take m ns)) (groups ls)) = omega (arith, n.1) in
              let sn = stands_next all pre ns ls n s in
              let cf = children_first all pre ns ls s in
              let cu = children_upto all pre ns ls s m (omega arith) in
              let lo : 1 + children_before all (length pre) ≡ length (pre ++ ns) = omega (arith, length-append pre ns, s.1) in
              let hi : 1 + (children_before all (length pre + m) + children (take i es)) ≡ length (pre ++ ns) + (total children_of (take m ns) + children (take i es)) = omega (arith, length-append pre ns, s.1) in
              let at : ℕ = length (pre ++ ns) + (total children_of (take m ns) + children (take i es)) in
              let T : ℕ = leaves_in (take (total children_of (take m ns) + children (take i es)) (groups ls)) in
              let b : leaves_between all (l - 1) (length (pre ++ ns)) (length (pre ++ ns) + (total children_of (take m ns) + children (take i es))) ≡ leaves_in (take (total children_of (take m ns) + children (take i es)) (groups ls)) =
              between_levels ls (l - 1) all (pre ++ ns) (total children_of (take m ns) + children (take i es)) (omega arith) n.3 sn (omega (arith, n.1)) ∙ leaves_before_groups ls n.3 (total children_of (take m ns) + children (take i es)) in
              let u : count (counts ends q (y ∷ k)) (get_or (level_groups ns (groups ls)) m [])
              ≡ bit (is_exact (node o es)) + (open_leaves (take i es) + leaves_in (take (children (take i es)) (drop (total children_of (take m ns)) (groups ls)))
              + counts_at ends q y k (drop i es) (drop (children (take i es)) (drop (total children_of (take m ns)) (groups ls)))) =
              ap (count (counts ends q (y ∷ k))) group ∙ count_append (counts ends q (y ∷ k)) (exact_leaf o) (branch_leaves es (drop (total children_of (take m ns)) (groups ls)))
              ∙ ap₂ ◌+◌ (exact_counted ends q o es y k) (rw p at (branches_counted ends q y k es (drop (total children_of (take m ns)) (groups ls)) (labelled_ascends o es (fit_at m ns o es rest d n.0)) enough)) in
              let deep : goes_on y (drop i es) ≡ true → leaves_in (take (total children_of (take m ns) + children (take i es)) (groups ls)) + count (counts ends q k) (get_or (drop (children (take i es)) (drop (total children_of (take m ns)) (groups ls))) 0 [])
              ≡ leaves_below all (l - 1) (length (pre ++ ns)) (length (pre ++ ns) + (total children_of (take m ns) + children (take i es))) k + value (descend all (length (pre ++ ns) + (total children_of (take m ns) + children (take i es))) k) =
              λ t.
              let z : total children_of (take m ns) + children (take i es) + 0 ≡ total children_of (take m ns) + children (take i es) = omega arith in
              ap (λ (g : Group). leaves_in (take (total children_of (take m ns) + children (take i es)) (groups ls)) + count (counts ends q k) g)
              (ap (λ (g : List Group). get_or g 0 []) (drop-drop (children (take i es)) (total children_of (take m ns)) (groups ls)) ∙ get_or-drop (total children_of (take m ns) + children (take i es)) (groups ls) 0 [] ∙ ap (λ (j : ℕ). get_or (groups ls) j []) z)
              ∙ next (total children_of (take m ns) + children (take i es)) k (omega (arith, goes_children y (drop i es) t, n.1)) in
              let slot : ends_at y (drop i es) ≡ true → slot_of w all (slot_number all (length pre + m) i) ≡ first_slot (drop i es) =
              λ t. let x = first_is y (drop i es) t in slot_is w all (length pre + m) i x.0 x.1 x.2 wide (rw here x.3) ∙ sym x.4 in
              let step = at_branch y k (drop i es) (drop (children (take i es)) (drop (total children_of (take m ns)) (groups ls))) T
              (leaves_between all (l - 1) (length (pre ++ ns)) (length (pre ++ ns) + (total children_of (take m ns) + children (take i es))))
              (leaves_below all (l - 1) (length (pre ++ ns)) (length (pre ++ ns) + (total children_of (take m ns) + children (take i es))) k)
              (descend all (length (pre ++ ns) + (total children_of (take m ns) + children (take i es))) k) (slot_number all (length pre + m) i)
              (omega (arith, length-drop (children (take i es)) (drop (total children_of (take m ns)) (groups ls)))) b deep slot in
              let bs = rw (p, lo, hi) at (below_step l (length pre) (length pre + m) y k o es here) in
              let ds = ap value (rw (p, hi) at (descend_step (length pre + m) y k o es here)) in
              let lu = leaves_upto all pre ns ls s m (omega arith) in
              let lf = leaves_first all pre ns ls s in
              let lt = leaves_take (total children_of (take m ns)) (children (take i es)) (groups ls) in
              let bg = leaves_before_groups ls n.3 (total children_of (take m ns)) in
              let bp = before_step ns ls m in
              omega (arith, levels, u, step, bs, ds)

          go : (k : Bytes) → leaves_in (take m (level_groups ns (groups ls))) + count (counts ends q k) (get_or (level_groups ns (groups ls)) m [])
              ≡ leaves_below all l (length pre) (length pre + m) k + value (descend all (length pre + m) k)
          go [] =
              let c : count (counts ends q []) (get_or (level_groups ns (groups ls)) m []) ≡ bit (is_exact (node o es) && ends) =
              ap (count (counts ends q [])) group ∙ count_append (counts ends q []) (exact_leaf o) (branch_leaves es (drop (total children_of (take m ns)) (groups ls)))
              ∙ omega (arith, exact_none ends q o es, branches_none ends q es (drop (total children_of (take m ns)) (groups ls))) in
              omega (arith, levels, none, between_levels (ns ∷ ls) l all pre m f n s (omega arith), descend_none (length pre + m) o es here)
          go (y ∷ k) = counted_at y k (labels_below y es) refl
