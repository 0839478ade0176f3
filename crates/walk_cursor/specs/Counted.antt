-- How many leaves stand behind the branches of a node, from a label on: differences of sums of slot numbers, level by level.
use Prim.Native.Nat.{ℕ, zero, suc, ◌+◌, ◌-◌, ◌≤◌}
use Rattle.std.specs.Prelude.{◌≡◌, refl, Bool, true, false, length, take, drop, leb}
use Rattle.std.proofs.Math.Path.{sym, ap}
use Rattle.std.proofs.Common.{ap₂, ◌∙◌, length-append, drop_at, drop-drop, leb-true, leb-false}
use mathlib.Core.List.{List, [], ◌∷◌, ◌++◌, map, map-append, append_assoc}
use Rattle.std.proofs.Math.Option.{none, some}
use native.Mathlib.Omega.{arith}
use Rattle.std.proofs.lemmas.List.{length-map}
use Rattle.std.proofs.Math.Seq.{take-nil}
use Rattle.spec.specs.Bytes.{Bytes, bit}
use Rattle.spec.specs.Leaves.{Leaf}
use Rattle.spec.specs.Nodes.{Group, Branch, to_node, to_leaf, Node, node, label_of, branches_of, is_exact, prefix, exact_leaf, children, total, children_of}
use Rattle.spec.specs.Trie.{open_leaves, leaf_count}
use Rattle.image.specs.declared.NodeNum.{NodeNum}
use Rattle.nav_nodes.specs.declared.BranchKind.TheVariants.{Absent}
use Rattle.nav_nodes.specs.Counting.{labels_below, none_below_zero}
use Rattle.nav_nodes.specs.Slots.{node_at, leaves_before, slot_number}
use Rattle.nav_nodes.specs.Descent.{children_before, child_number, children_split}
use Rattle.nav_nodes.specs.NumberBounds.{open_split}
use Rattle.nav_nodes.specs.NextLabel.{first_kind, first_label}
use Rattle.query_descent.specs.LevelSums.{slots_between, slots_below, slots_nothing}
use Rattle.nav_branches.specs.Below.{behind, behind_branches, own_slot, below, from_label}
use Rattle.nav_branches.specs.Paths.{node_on, rest, onward}

-- ---- sums of slot numbers

-- the sum of a branch: its slot number, and the leaves before the first node behind it on each of the l levels below
abbrev pub branch_sum : List Node → ℕ → ℕ → ℕ → ℕ
branch_sum ns l m i = slot_number ns m i + slots_below ns l (child_number ns m i) []

-- one node more
leaves_next : (ns : List Node) (m : ℕ) → leaf_count (take (suc m) ns) ≡ leaf_count (take m ns) + bit (is_exact (node_at ns m)) + open_leaves (branches_of (node_at ns m))
unfolding leaf_count open_leaves
leaves_next [] zero = refl
leaves_next [] (suc m) = refl
leaves_next (n ∷ ns) zero = omega arith
leaves_next (n ∷ ns) (suc m) = omega (arith, leaves_next ns m)

kids_next : (ns : List Node) (m : ℕ) → total children_of (take (suc m) ns) ≡ total children_of (take m ns) + children (branches_of (node_at ns m))
unfolding total children
kids_next [] zero = refl
kids_next [] (suc m) = refl
kids_next (node o es ∷ ns) zero = omega arith
kids_next (node o es ∷ ns) (suc m) = omega (arith, kids_next ns m)

-- a node's own leaf
pub own_length : (n : Node) → length (exact_leaf (own_slot n)) ≡ bit (is_exact n)
unfolding exact_leaf
own_length (node none es) = refl
own_length (node (some s) es) = refl

-- branches: the sum at the node behind the last of them, and those that end, are the sum at the first node and the leaves behind them
branches_summed : (ns : List Node) (l : ℕ) → ((c : ℕ) → slots_between ns l (suc c) ≡ slots_between ns l c + length (below ns l c)) → (es : List Branch) (c : ℕ)
    → slots_between ns l (c + children es) + open_leaves es ≡ slots_between ns l c + length (behind_branches (below ns l) es c)
unfolding behind_branches children open_leaves
branches_summed ns l ih [] c = let e : c + 0 ≡ c = omega arith in rw e
branches_summed ns l ih (to_leaf x s ∷ es) c = omega (arith, branches_summed ns l ih es c)
branches_summed ns l ih (to_node x ∷ es) c =
    let e : c + suc (children es) ≡ suc c + children es = omega arith in
    rw e (omega (arith, branches_summed ns l ih es (suc c), ih c, length-append (map (prefix x) (below ns l c)) (behind_branches (below ns l) es (suc c)), length-map (below ns l c) (prefix x)))

-- a node: the sum at the next one is larger by the leaves at or below it
pub node_summed : (ns : List Node) (l m : ℕ) → slots_between ns l (suc m) ≡ slots_between ns l m + length (below ns l m)
unfolding slots_between below leaves_before children_before child_number children
node_summed ns zero m = refl
node_summed ns (suc l) m =
    let es : List Branch = branches_of (node_at ns m) in
    let c : ℕ = 1 + total children_of (take m ns) in
    let e : 1 + (total children_of (take m ns) + 0) ≡ c = omega arith in
    let f : 1 + total children_of (take (suc m) ns) ≡ c + children es = omega (arith, kids_next ns m) in
    rw (e, f) (omega (arith, leaves_next ns m, branches_summed ns l (node_summed ns l) es c, length-append (exact_leaf (own_slot (node_at ns m))) (behind_branches (below ns l) es c), own_length (node_at ns m)))

-- A branch's sum and the leaves behind the branches from it on are the sum at the node behind its node, whichever branch it is.
pub branch_summed : (ns : List Node) (l m i : ℕ) → branch_sum ns l m i + length (behind_branches (below ns l) (drop i (branches_of (node_at ns m))) (child_number ns m i)) ≡ slots_between ns (suc l) (suc m)
unfolding slots_between slot_number child_number leaves_before children_before
branch_summed ns l m i =
    let es : List Branch = branches_of (node_at ns m) in
    let c : ℕ = 1 + (total children_of (take m ns) + children (take i es)) in
    let f : 1 + total children_of (take (suc m) ns) ≡ c + children (drop i es) = omega (arith, kids_next ns m, children_split i es) in
    rw (f, slots_nothing ns l c) (omega (arith, leaves_next ns m, open_split i es, branches_summed ns l (node_summed ns l) (drop i es) c))

-- ---- the leaves from a label on

-- The leaves behind branches, the first i of them and the others.
behind_cut : (f : ℕ → Group) (i : ℕ) (es : List Branch) (c : ℕ) → behind_branches f es c ≡ behind_branches f (take i es) c ++ behind_branches f (drop i es) (c + children (take i es))
unfolding behind_branches children
behind_cut f zero es c = let e : c ≡ c + 0 = omega arith in ap (behind_branches f es) e
behind_cut f (suc i) [] c = refl
behind_cut f (suc i) (to_leaf x s ∷ es) c = ap (λ (g : Group). record { cut = x ∷ []; exact = false; suffix = s } ∷ g) (behind_cut f i es c)
behind_cut f (suc i) (to_node x ∷ es) c =
    let e : suc c + children (take i es) ≡ c + suc (children (take i es)) = omega arith in
    ap (λ (g : Group). map (prefix x) (f c) ++ g) (behind_cut f i es (suc c) ∙ ap (λ (k : ℕ). behind_branches f (take i es) (suc c) ++ behind_branches f (drop i es) k) e)
    ∙ sym (append_assoc (map (prefix x) (f c)) (behind_branches f (take i es) (suc c)) (behind_branches f (drop i es) (c + suc (children (take i es)))))

-- how many leaves stand behind the branches of node m from the label y on
abbrev pub leaves_from : List Node → ℕ → ℕ → ℕ → ℕ
leaves_from ns l m y = length (from_label ns l m y)

module _ (ns : List Node) (l m y : ℕ) where
  -- the leaves from the label y on are the last ones of the node's
  pub from_cut : (before : Group) × (from_label ns l m 0 ≡ before ++ from_label ns l m y)
  unfolding from_label child_number children
  from_cut =
      let es : List Branch = branches_of (node_at ns m) in
      let i : ℕ = labels_below y es in
      let c : ℕ = 1 + (children_before ns m + 0) in
      let e : c + children (take i es) ≡ 1 + (children_before ns m + children (take i es)) = omega arith in
      (behind_branches (below ns l) (take i es) c, rw (none_below_zero es) (behind_cut (below ns l) i es c ∙ ap (λ (k : ℕ). behind_branches (below ns l) (take i es) c ++ behind_branches (below ns l) (drop i es) k) e))

  -- so that they are no more than all
  pub from_fewer : leaves_from ns l m y ≤ leaves_from ns l m 0
  from_fewer = let p = from_cut in omega (arith, ap length p.1, length-append p.0 (from_label ns l m y))

  -- and a branch's sum tells their number
  pub from_summed : branch_sum ns l m (labels_below y (branches_of (node_at ns m))) + leaves_from ns l m y ≡ branch_sum ns l m (labels_below 0 (branches_of (node_at ns m))) + leaves_from ns l m 0
  unfolding from_label
  from_summed = branch_summed ns l m (labels_below y (branches_of (node_at ns m))) ∙ sym (branch_summed ns l m (labels_below 0 (branches_of (node_at ns m))))

-- the later the branch, the fewer leaves stand behind it and those that follow
pub from_later : (ns : List Node) (l m y z : ℕ) → labels_below y (branches_of (node_at ns m)) ≤ labels_below z (branches_of (node_at ns m)) → leaves_from ns l m z ≤ leaves_from ns l m y
unfolding from_label child_number children
from_later ns l m y z h =
    let es : List Branch = branches_of (node_at ns m) in
    let i : ℕ = labels_below y es in
    let j : ℕ = labels_below z es - labels_below y es in
    let k : i + j ≡ labels_below z es = omega arith in
    let c : ℕ = 1 + (children_before ns m + children (take i es)) in
    let d : drop j (drop i es) ≡ drop (labels_below z es) es = drop-drop j i es ∙ ap (λ (n : ℕ). drop n es) k in
    let n : c + children (take j (drop i es)) ≡ 1 + (children_before ns m + children (take (labels_below z es) es)) = omega (arith, kids_part i j es, ap (λ (n : ℕ). children (take n es)) k) in
    let b : behind_branches (below ns l) (drop j (drop i es)) (c + children (take j (drop i es))) ≡ behind_branches (below ns l) (drop (labels_below z es) es) (1 + (children_before ns m + children (take (labels_below z es) es))) = ap₂ (behind_branches (below ns l)) d n in
    omega (arith, ap length (behind_cut (below ns l) j (drop i es) c), length-append (behind_branches (below ns l) (take j (drop i es)) c) (behind_branches (below ns l) (drop j (drop i es)) (c + children (take j (drop i es)))), ap length b)
  where
    kids_part : (i j : ℕ) (es : List Branch) → children (take i es) + children (take j (drop i es)) ≡ children (take (i + j) es)
    kids_part zero j es = let e : 0 + j ≡ j = omega arith in rw e (omega arith)
    kids_part (suc i) j [] = let e : suc i + j ≡ suc (i + j) = omega arith in rw (e, take-nil {A = Branch} j)
    kids_part (suc i) j (to_leaf x s ∷ es) = let e : suc i + j ≡ suc (i + j) = omega arith in rw e (kids_part i j es)
    kids_part (suc i) j (to_node x ∷ es) = let e : suc i + j ≡ suc (i + j) = omega arith in rw e (omega (arith, kids_part i j es))

-- ---- labels

-- the first label that is not below y is not below y
pub first_reached : (y : ℕ) (es : List Branch) → (first_kind (drop (labels_below y es) es) ≡ Absent → ⊥) → y ≤ first_label (drop (labels_below y es) es)
unfolding labels_below first_kind first_label
first_reached y [] h = absurd (h refl)
first_reached y (e ∷ es) h = go (leb y (label_of e)) refl (first_reached y es) h
  where
    go : (b : Bool) → leb y (label_of e) ≡ b → ((first_kind (drop (labels_below y es) es) ≡ Absent → ⊥) → y ≤ first_label (drop (labels_below y es) es)) → (first_kind (drop (elim b [ true ↦ 0 | false ↦ suc (labels_below y es) ]) (e ∷ es)) ≡ Absent → ⊥)
        → y ≤ first_label (drop (elim b [ true ↦ 0 | false ↦ suc (labels_below y es) ]) (e ∷ es))
    go true q ih n = leb-true y (label_of e) q
    go false q ih n = ih n

-- a label behind z leaves no branch between y and z
pub none_between : (y z : ℕ) (es : List Branch) → (first_kind (drop (labels_below y es) es) ≡ Absent → ⊥) → z ≤ first_label (drop (labels_below y es) es) → labels_below z es ≤ labels_below y es
unfolding labels_below first_kind first_label
none_between y z [] h l = absurd (h refl)
none_between y z (e ∷ es) h l = go (leb y (label_of e)) refl (leb z (label_of e)) refl (none_between y z es) h l
  where
    go : (b : Bool) → leb y (label_of e) ≡ b → (c : Bool) → leb z (label_of e) ≡ c
        → ((first_kind (drop (labels_below y es) es) ≡ Absent → ⊥) → z ≤ first_label (drop (labels_below y es) es) → labels_below z es ≤ labels_below y es) → (first_kind (drop (elim b [ true ↦ 0 | false ↦ suc (labels_below y es) ]) (e ∷ es)) ≡ Absent → ⊥)
        → z ≤ first_label (drop (elim b [ true ↦ 0 | false ↦ suc (labels_below y es) ]) (e ∷ es))
        → elim c [ true ↦ 0 | false ↦ suc (labels_below z es) ] ≤ elim b [ true ↦ 0 | false ↦ suc (labels_below y es) ]
    go b p true q ih n l = omega arith
    go true p false q ih n l = absurd (omega (arith, leb-false z (label_of e) q))
    go false p false q ih n l = let r = ih n l in omega arith

-- ---- leaves passed on a path

-- Behind k leaves of the path's node come those behind k - n of them from the label y on, where n stand before it.
pub onward_passed : (ns : List Node) (path : List NodeNum) (cut : Bytes) (d y k n : ℕ) → n + leaves_from ns (63 - d) (node_on path d) y ≡ leaves_from ns (63 - d) (node_on path d) 0 → n ≤ k
    → drop k (onward ns path cut d 0) ≡ drop (k - n) (onward ns path cut d y)
unfolding onward
onward_passed ns path cut d y k n e h =
    let m : ℕ = node_on path d in
    let p = from_cut ns (63 - d) m y in
    let size : length (map (behind (take d cut)) p.0) ≡ n = omega (arith, length-map p.0 (behind (take d cut)), ap length p.1, length-append p.0 (from_label ns (63 - d) m y)) in
    let s : n + (k - n) ≡ k = omega arith in
    ap (λ (g : Group). drop k (map (behind (take d cut)) g ++ rest ns path cut d)) p.1
    ∙ ap (λ (g : List Leaf). drop k (g ++ rest ns path cut d)) (map-append (behind (take d cut)) p.0 (from_label ns (63 - d) m y))
    ∙ ap (drop k) (append_assoc (map (behind (take d cut)) p.0) (map (behind (take d cut)) (from_label ns (63 - d) m y)) (rest ns path cut d))
    ∙ ap (λ (j : ℕ). drop j (map (behind (take d cut)) p.0 ++ (map (behind (take d cut)) (from_label ns (63 - d) m y) ++ rest ns path cut d))) (sym s)
    ∙ sym (drop-drop (k - n) n (map (behind (take d cut)) p.0 ++ (map (behind (take d cut)) (from_label ns (63 - d) m y) ++ rest ns path cut d)))
    ∙ ap (drop (k - n)) (drop_at (map (behind (take d cut)) p.0) (map (behind (take d cut)) (from_label ns (63 - d) m y) ++ rest ns path cut d) n size)
