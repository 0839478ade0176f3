-- What an accepted image holds, it holds in one way: the law beside the ghost field of an accepted image.
use Rattle.std.specs.Prelude.{ℕ, zero, suc, ◌<◌, ◌≡◌, refl, ◌⊎◌, Bool, List, [], ◌∷◌, ◌++◌, T}
use Rattle.std.specs.Coded.{×_prop, Unit-prop, le_prop}
use Rattle.std.proofs.Common.{sym, ap, subst, ◌∙◌, inl, inr, arith}
use Rattle.std.proofs.Math.Option.{Option, none, some}
use Rattle.std.proofs.Math.Dec.{T_prop}
use Rattle.std.proofs.Props.{props}
use Rattle.std.proofs.lemmas.List.{append_cancel_left}
use mathlib.Core.HLevel.{Σ_prop_path}
use mathlib.Core.Path.{subst_refl}
use Rattle.spec.specs.Bytes.{Bytes, Bits}
use Rattle.spec.specs.Leaves.{Leaf}
use Rattle.spec.specs.Nodes.{Branch, to_node, to_leaf, Node, node, label_of, read_leaves}
use Rattle.image.specs.declared.Frame.{Frame}
use Rattle.image.specs.Accepted.{Starts, Holds, Accepted, dense_nodes, sparse_nodes}
use Rattle.theory.specs.Terms.{All}
use Rattle.theory.proofs.LeafLists.{Before, inner, less, step, Ordered, ClearPast, WellSized, Realizable}
use Rattle.theory.proofs.LinkedLevels.{BelowLabel, Ascends, Labelled}
use Rattle.theory.proofs.NodeBits.{BranchWidth, ExactWidth, SlotsWidth}
use Rattle.theory.proofs.ImageParts.{Writable}

-- ---- lists

-- what holds of each member in one way holds of all in one
all_prop : {A : Type 0} (P : A → Type 0) → ((x : A) → IsProp (P x)) → (xs : List A) → IsProp (All P xs)
all_prop P h [] = Unit-prop
all_prop P h (x ∷ xs) = ×_prop (h x) (all_prop P h xs)

-- what stands behind a beginning is one list
starts_prop : (b s : Bytes) → IsProp (Starts b s)
starts_prop b s u v = Σ_prop_path {A = Bytes} {B = λ t. s ≡ b ++ t} (λ t. hlevel props) (append_cancel_left b u.0 v.0 (sym u.1 ∙ v.1))

-- ---- nodes

branch_set : IsSet Branch
branch_set = hlevel props

node_set : IsSet Node
node_set = hlevel (branch_set, props)

below_prop : (x : ℕ) (es : List Branch) → IsProp (BelowLabel x es)
below_prop x [] = Unit-prop
below_prop x (e ∷ es) = le_prop

ascends_prop : (es : List Branch) → IsProp (Ascends es)
ascends_prop [] = Unit-prop
ascends_prop (e ∷ es) = ×_prop (below_prop (label_of e) es) (ascends_prop es)

labelled_prop : (n : Node) → IsProp (Labelled n)
labelled_prop (node o []) = hlevel
labelled_prop (node o (e ∷ es)) = ascends_prop (e ∷ es)

branch_width_prop : (n : ℕ) (e : Branch) → IsProp (BranchWidth n e)
branch_width_prop n (to_node x) = Unit-prop
branch_width_prop n (to_leaf x s) = hlevel props

exact_width_prop : (n : ℕ) (o : Option Bits) → IsProp (ExactWidth n o)
exact_width_prop n none = Unit-prop
exact_width_prop n (some s) = hlevel props

slots_width_prop : (n : ℕ) (m : Node) → IsProp (SlotsWidth n m)
slots_width_prop n (node o es) = ×_prop (exact_width_prop n o) (all_prop (BranchWidth n) (branch_width_prop n) es)

writable_prop : (n count : ℕ) (ds ss : List Node) → IsProp (Writable n count ds ss)
writable_prop n count ds ss = hlevel (all_prop, labelled_prop, slots_width_prop, props)

-- ---- leaves

-- `Before`, by cases
abbrev Parts : Bool → Bytes → Bytes → Type 0
Parts e c [] = ⊥
Parts e [] (y ∷ d) = T e
Parts e (x ∷ c) (y ∷ d) = (x < y) ⊎ ((x ≡ y) × Parts e c d)

module _ (e : Bool) where
  to_parts : {c d : Bytes} → Before e c d → Parts e c d
  to_parts (inner h) = h
  to_parts (less h) = inl h
  to_parts (step h) = inr (refl, to_parts h)

  of_parts : (c d : Bytes) → Parts e c d → Before e c d
  of_parts c [] h = absurd h
  of_parts [] (y ∷ d) h = inner h
  of_parts (x ∷ c) (y ∷ d) (inl h) = less h
  of_parts (x ∷ c) (y ∷ d) (inr h) = subst (λ z. Before e (x ∷ c) (z ∷ d)) h.0 (step (of_parts c d h.1))

  parts_back : {c d : Bytes} (b : Before e c d) → of_parts c d (to_parts b) ≡ b
  unfolding to_parts of_parts
  parts_back (inner h) = refl
  parts_back (less h) = refl
  parts_back (step {x} {xs} {ys} h) = subst_refl (λ z. Before e (x ∷ xs) (z ∷ ys)) (step (of_parts xs ys (to_parts h))) ∙ ap step (parts_back h)

  -- two bytes are not both the same and one below the other
  parts_prop : (c d : Bytes) → IsProp (Parts e c d)
  parts_prop c [] h k = absurd h
  parts_prop [] (y ∷ d) h k = T_prop e h k
  parts_prop (x ∷ c) (y ∷ d) (inl h) (inl k) = ap inl (le_prop h k)
  parts_prop (x ∷ c) (y ∷ d) (inl h) (inr k) = let z = k.0 in absurd (omega arith)
  parts_prop (x ∷ c) (y ∷ d) (inr h) (inl k) = let z = h.0 in absurd (omega arith)
  parts_prop (x ∷ c) (y ∷ d) (inr h) (inr k) = ap inr (×_prop (hlevel props) (parts_prop c d) h k)

  before_prop : (c d : Bytes) → IsProp (Before e c d)
  before_prop c d b q = sym (parts_back b) ∙ ap (of_parts c d) (parts_prop c d (to_parts b) (to_parts q)) ∙ parts_back q

ordered_prop : (ls : List Leaf) → IsProp (Ordered ls)
ordered_prop [] = Unit-prop
ordered_prop (l ∷ ls) = ×_prop (all_prop (λ m. Before l.exact l.cut m.cut) (λ m. before_prop l.exact l.cut m.cut) ls) (ordered_prop ls)

clear_prop : (R : ℕ) (s : Bits) → IsProp (ClearPast R s)
clear_prop zero s = hlevel props
clear_prop (suc R) s = clear_prop R _

realizable_prop : (n : ℕ) (ls : List Leaf) → IsProp (Realizable n ls)
realizable_prop n ls = hlevel (ordered_prop, all_prop, props)

well_sized_prop : (n : ℕ) (l : Leaf) → IsProp (WellSized n l)
well_sized_prop n l = hlevel (all_prop, props)

-- ---- what an image holds

holds_prop : (s : Bytes) (f : Frame) (ds ss : List Node) (ls : List Leaf) → IsProp (Holds s f ds ss ls)
holds_prop s f ds ss ls = hlevel (starts_prop, writable_prop, realizable_prop, well_sized_prop, clear_prop, all_prop, node_set, props)

-- An image is accepted in one way.
pub Accepted-prop : (s : Bytes) (f : Frame) → IsProp (Accepted s f)
Accepted-prop s f = holds_prop s f (dense_nodes s f) (sparse_nodes s f) (read_leaves s)
