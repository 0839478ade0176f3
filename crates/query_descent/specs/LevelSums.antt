-- The leaves before a key, as a sum of slot numbers level by level: without the first nodes of the levels, which cancel where two keys are compared.
use Rattle.std.specs.Prelude.{ℕ, zero, suc, ◌+◌, ◌-◌, ◌*◌, ◌<◌, ◌≤◌, ◌≡◌, refl, Bool, true, false, cond, List, [], ◌∷◌, length, take, drop}
use Rattle.std.proofs.Common.{ap, ◌∙◌, arith, take_all}
use Rattle.std.proofs.Math.Option.{none}
use Rattle.std.proofs.Math.ListN.{get_or-eq_default}
use Rattle.std.proofs.Math.Seq.{take-nil}
use Rattle.spec.specs.Bytes.{Bytes}
use Rattle.spec.specs.Nodes.{Node, node, branches_of, children, total, children_of}
use Rattle.spec.specs.Trie.{open_leaves, leaf_count}
use Rattle.nav_nodes.specs.declared.BranchKind.{BranchKind}
use Rattle.nav_nodes.specs.declared.BranchKind.TheVariants.{Child}
use Rattle.nav_nodes.specs.Counting.{labels_below}
use Rattle.nav_nodes.specs.Slots.{node_at, leaves_before, slot_number}
use Rattle.nav_nodes.specs.Descent.{children_before, child_number, goes_on, leaves_between, leaves_below}
use Rattle.nav_nodes.specs.NextLabel.{kind_with, with_other}
use Rattle.nav_nodes.specs.NumberBounds.{children_up, leaves_up, child_range, slot_range}
use Rattle.query_descent.specs.Steps.{goes_there}

-- the leaves before node m of a level, and before the first node behind it on each of the levels below; l levels left
unfoldable pub slots_between : List Node → ℕ → ℕ → ℕ
unfolding leaves_before children_before
slots_between ns zero m = 0
slots_between ns (suc l) m = leaves_before ns m + slots_between ns l (1 + children_before ns m)

-- the leaves before the branch that the key k of node m takes, on each level; below the last branch, those before the first node behind it
unfoldable pub slots_below : List Node → ℕ → ℕ → Bytes → ℕ
unfolding slots_between labels_below child_number slot_number goes_on
slots_below ns l m [] = slots_between ns l m
slots_below ns l m (y ∷ k) =
    let i : ℕ = labels_below y (branches_of (node_at ns m)) in
    let c : ℕ = child_number ns m i in
    slot_number ns m i + cond (goes_on y (drop i (branches_of (node_at ns m)))) (slots_below ns (l - 1) c k) (slots_between ns (l - 1) c)

-- ---- the leaves before a key are a difference of sums

between_sums : (ns : List Node) (l lo hi : ℕ) → lo ≤ hi → slots_between ns l hi ≡ leaves_between ns l lo hi + slots_between ns l lo
unfolding slots_between leaves_between
between_sums ns zero lo hi h = refl
between_sums ns (suc l) lo hi h = omega (arith, between_sums ns l (1 + children_before ns lo) (1 + children_before ns hi) (omega (arith, children_up ns lo hi h)), leaves_up ns lo hi h)

-- The leaves before a key are its sum less that of the first nodes of the levels.
pub below_sums : (ns : List Node) (l lo m : ℕ) (k : Bytes) → lo ≤ m → length k ≤ l → slots_below ns l m k ≡ leaves_below ns l lo m k + slots_between ns l lo
unfolding slots_below leaves_below slots_between
below_sums ns l lo m [] h f = between_sums ns l lo m h
below_sums ns zero lo m (y ∷ k) h f = absurd (omega arith)
below_sums ns (suc l) lo m (y ∷ k) h f =
    let u : 1 + children_before ns lo ≤ child_number ns m (labels_below y (branches_of (node_at ns m))) = omega (arith, (child_range ns m (labels_below y (branches_of (node_at ns m)))).0, children_up ns lo m h) in
    let e : suc l - 1 ≡ l = omega arith in
    rw e (go (goes_on y (drop (labels_below y (branches_of (node_at ns m))) (branches_of (node_at ns m)))) (labels_below y (branches_of (node_at ns m)))
    (below_sums ns l (1 + children_before ns lo) (child_number ns m (labels_below y (branches_of (node_at ns m)))) k u (omega arith))
    (between_sums ns l (1 + children_before ns lo) (child_number ns m (labels_below y (branches_of (node_at ns m)))) u))
  where
    go : (b : Bool) (i : ℕ)
        → slots_below ns l (child_number ns m i) k ≡ leaves_below ns l (1 + children_before ns lo) (child_number ns m i) k + slots_between ns l (1 + children_before ns lo)
        → slots_between ns l (child_number ns m i) ≡ leaves_between ns l (1 + children_before ns lo) (child_number ns m i) + slots_between ns l (1 + children_before ns lo)
        → slot_number ns m i + cond b (slots_below ns l (child_number ns m i) k) (slots_between ns l (child_number ns m i))
        ≡ ((slot_number ns m i - leaves_before ns lo) + cond b (leaves_below ns l (1 + children_before ns lo) (child_number ns m i) k) (leaves_between ns l (1 + children_before ns lo) (child_number ns m i)))
        + slots_between ns (suc l) lo
    go true i p q = omega (arith, p, (slot_range ns m i).0, leaves_up ns lo m h)
    go false i p q = omega (arith, q, (slot_range ns m i).0, leaves_up ns lo m h)

-- the sum of the empty key
pub slots_nothing : (ns : List Node) (l m : ℕ) → slots_below ns l m [] ≡ slots_between ns l m
unfolding slots_below
slots_nothing ns l m = refl

-- no nodes, no sum
pub between_nowhere : (ns : List Node) (l m : ℕ) → length ns ≡ 0 → slots_between ns l m ≡ 0
unfolding slots_between leaves_before children_before leaf_count total
between_nowhere [] zero m e = refl
between_nowhere [] (suc l) m e = rw (take-nil {A = Node} m) (omega (arith, between_nowhere [] l 1 e))
between_nowhere (n ∷ ns) l m e = absurd (omega arith)

-- ---- one level of a sum

module _ (ns : List Node) (m y : ℕ) (k : Bytes) (kind : BranchKind) (is : kind ≡ kind_with y (drop (labels_below y (branches_of (node_at ns m))) (branches_of (node_at ns m)))) (l : ℕ) where
  -- a branch that continues: the key goes on
  pub slots_on : kind ≡ Child → slots_below ns l m (y ∷ k) ≡ slot_number ns m (labels_below y (branches_of (node_at ns m))) + slots_below ns (l - 1) (child_number ns m (labels_below y (branches_of (node_at ns m)))) k
  unfolding slots_below
  slots_on h = rw (goes_there ns m y k kind is h)

  -- none: the levels below count to the first node behind it, as if the key had ended
  pub slots_off : (kind ≡ Child → ⊥) → slots_below ns l m (y ∷ k) ≡ slot_number ns m (labels_below y (branches_of (node_at ns m))) + slots_below ns (l - 1) (child_number ns m (labels_below y (branches_of (node_at ns m)))) []
  unfolding slots_below
  slots_off h = rw (with_other y (drop (labels_below y (branches_of (node_at ns m))) (branches_of (node_at ns m))) (λ e. h (is ∙ e)))

-- a key that has ended
pub slots_ended : (ns : List Node) (l m : ℕ) → 0 < l → slots_below ns l m [] ≡ leaves_before ns m + slots_below ns (l - 1) (1 + children_before ns m) []
unfolding slots_below slots_between
slots_ended ns zero m h = absurd (omega arith)
slots_ended ns (suc l) m h = let e : suc l - 1 ≡ l = omega arith in rw e

-- no level is left
pub slots_past : (ns : List Node) (m : ℕ) → slots_below ns 0 m [] ≡ 0
unfolding slots_below slots_between
slots_past ns m = refl

-- all nodes lie before node m, and so all leaves do, on each level left
slots_full : (ns : List Node) (l m : ℕ) → length ns ≤ m → length ns ≤ 1 + total children_of ns → slots_between ns l m ≡ l * leaf_count ns
unfolding slots_between leaves_before children_before
slots_full ns zero m h t = omega arith
slots_full ns (suc l) m h t = let e : take m ns ≡ ns = take_all m ns h in rw e (ap (λ (x : ℕ). leaf_count ns + x) (slots_full ns l (1 + total children_of ns) t t) ∙ omega arith)

-- whatever is left of the key
pub slots_behind : (ns : List Node) (l m : ℕ) (k : Bytes) → length k ≤ l → length ns ≤ m → length ns ≤ 1 + total children_of ns → slots_below ns l m k ≡ l * leaf_count ns
unfolding slots_below slot_number child_number leaves_before children_before labels_below goes_on open_leaves children
slots_behind ns l m [] f h t = slots_full ns l m h t
slots_behind ns zero m (y ∷ k) f h t = absurd (omega arith)
slots_behind ns (suc l) m (y ∷ k) f h t =
    let e : suc l - 1 ≡ l = omega arith in
    let w : take m ns ≡ ns = take_all m ns h in
    rw (get_or-eq_default ns (node none []) h, w, e) (omega (arith, slots_full ns l (1 + (total children_of ns + 0)) (omega arith) t))
