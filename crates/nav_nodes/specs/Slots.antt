-- Suffix slots in level order: the slot number of each leaf, and the bits that stand there.
use Rattle.std.specs.Prelude.{ℕ, zero, suc, ◌+◌, ◌*◌, ◌≡◌, List, [], ◌∷◌, ◌++◌, map, length, get_or, take, drop}
use Rattle.std.proofs.Common.{sym, ap, ◌∙◌, append_assoc, arith, add-mul, length-append, take_at, drop_at}
use Rattle.std.proofs.Math.Option.{Option, none, some}
use Rattle.spec.specs.Bytes.{Bits, bit, concat}
use Rattle.spec.specs.Nodes.{Branch, to_node, to_leaf, Node, node, slot, branches_of, is_exact, exact_slot}
use Rattle.spec.specs.Trie.{open_leaves, leaf_count}
use Rattle.theory.specs.Terms.{All}
use Rattle.theory.proofs.NodeBits.{slots, BranchWidth, SlotsWidth, ExactWidth, length_sv}

-- node number m, from 0; where there is none, one without anything
abbrev pub node_at : List Node → ℕ → Node
node_at ns m = get_or ns m (node none [])

-- the leaves of the nodes before node m
unfoldable pub leaves_before : List Node → ℕ → ℕ
unfolding leaf_count
leaves_before ns m = leaf_count (take m ns)

-- the slot number of the leaf behind branch i of node m: an exact leaf stands before its node's branches
unfoldable pub slot_number : List Node → ℕ → ℕ → ℕ
unfolding leaves_before open_leaves
slot_number ns m i = leaves_before ns m + bit (is_exact (node_at ns m)) + open_leaves (take i (branches_of (node_at ns m)))

-- the w bits of slot number v
unfoldable pub slot_of : ℕ → List Node → ℕ → Bits
unfolding concat slots
slot_of w ns v = take w (drop (v * w) (concat (map slots ns)))

-- the slots of a node's first branches
slots_upto : (w i : ℕ) (es : List Branch) (x : ℕ) (s : Bits) (rest : List Branch) → All (BranchWidth w) es → drop i es ≡ to_leaf x s ∷ rest
    → (concat (map slot es) ≡ concat (map slot (take i es)) ++ (s ++ concat (map slot rest))) × (length (concat (map slot (take i es))) ≡ open_leaves (take i es) * w) × (length s ≡ w)
unfolding concat open_leaves
slots_upto w zero [] x s rest a d = let z : ◌≡◌ {A = ℕ} 0 1 = cc in absurd (omega arith)
slots_upto w zero (e ∷ es) x s rest a d = let p : e ≡ to_leaf x s = cc in let r : es ≡ rest = cc in (rw (p, r), omega arith, (rw p at a).0)
slots_upto w (suc i) [] x s rest a d = let z : ◌≡◌ {A = ℕ} 0 1 = cc in absurd (omega arith)
slots_upto w (suc i) (to_node y ∷ es) x s rest a d = slots_upto w i es x s rest a.1 d
slots_upto w (suc i) (to_leaf y t ∷ es) x s rest a d =
    let r = slots_upto w i es x s rest a.1 d in (
      rw r.0 (sym (append_assoc t (concat (map slot (take i es))) (s ++ concat (map slot rest)))),
      length-append t (concat (map slot (take i es))) ∙ omega (arith, a.0, r.1, add-mul 1 (open_leaves (take i es)) w),
      r.2,
    )

-- the bits behind a part of known length
slot_behind : (w u v : ℕ) (X Y : Bits) → length X ≡ u * w → take w (drop ((u + v) * w) (X ++ Y)) ≡ take w (drop (v * w) Y)
slot_behind w u v X Y h = rw (add-mul u v w) (ap (take w) (dropped X (u * w) (v * w) h))
  where
    dropped : (X : Bits) (a b : ℕ) → length X ≡ a → drop (a + b) (X ++ Y) ≡ drop b Y
    dropped [] a b h = let e : a + b ≡ b = omega arith in rw e
    dropped (x ∷ X) zero b h = absurd (omega arith)
    dropped (x ∷ X) (suc a) b h = let e : suc a + b ≡ suc (a + b) = omega arith in rw e (dropped X a b (omega arith))

-- the slot of an open leaf in the first node
slot_here : (w i : ℕ) (o : Option Bits) (es : List Branch) (ns : List Node) (x : ℕ) (s : Bits) (rest : List Branch) → SlotsWidth w (node o es) → drop i es ≡ to_leaf x s ∷ rest
    → take w (drop ((bit (is_exact (node o es)) + open_leaves (take i es)) * w) (slots (node o es) ++ concat (map slots ns))) ≡ s
unfolding slots
slot_here w i o es ns x s rest a d =
    let r = slots_upto w i es x s rest a.1 d in
    let X : Bits = exact_slot (node o es) ++ concat (map slot (take i es)) in
    let Y : Bits = concat (map slot rest) ++ concat (map slots ns) in
    let u : slots (node o es) ++ concat (map slots ns) ≡ X ++ (s ++ Y) =
    ap (λ (z : Bits). (exact_slot (node o es) ++ z) ++ concat (map slots ns)) r.0 ∙ simp append_assoc in
    let v : length X ≡ (bit (is_exact (node o es)) + open_leaves (take i es)) * w =
    length-append (exact_slot (node o es)) (concat (map slot (take i es))) ∙ omega (arith, own o a.0, r.1, add-mul (bit (is_exact (node o es))) (open_leaves (take i es)) w) in
    ap (λ (z : Bits). take w (drop ((bit (is_exact (node o es)) + open_leaves (take i es)) * w) z)) u
    ∙ ap (take w) (drop_at X (s ++ Y) ((bit (is_exact (node o es)) + open_leaves (take i es)) * w) v) ∙ take_at s Y w r.2
  where
    own : (o : Option Bits) → ExactWidth w o → length (exact_slot (node o es)) ≡ bit (is_exact (node o es)) * w
    own none h = omega arith
    own (some t) h = omega arith

-- The slot of the open leaf behind branch i of node m holds its suffix.
pub slot_is : (w : ℕ) (ns : List Node) (m i x : ℕ) (s : Bits) (rest : List Branch) → All (SlotsWidth w) ns → drop i (branches_of (node_at ns m)) ≡ to_leaf x s ∷ rest
    → slot_of w ns (slot_number ns m i) ≡ s
unfolding slot_of slot_number leaves_before leaf_count concat
slot_is w [] m i x s rest a d = absurd (none_there i d)
  where
    none_there : (i : ℕ) → drop i (◌++◌ {A = Branch} [] []) ≡ to_leaf x s ∷ rest → ⊥
    none_there zero d = let z : ◌≡◌ {A = ℕ} 0 1 = cc in omega arith
    none_there (suc i) d = let z : ◌≡◌ {A = ℕ} 0 1 = cc in omega arith
slot_is w (node o es ∷ ns) zero i x s rest a d =
    let e : 0 + bit (is_exact (node o es)) + open_leaves (take i es) ≡ bit (is_exact (node o es)) + open_leaves (take i es) = omega arith in
    rw e (slot_here w i o es ns x s rest a.0 d)
slot_is w (n ∷ ns) (suc m) i x s rest a d =
    let u : ℕ = leaf_count (n ∷ []) in
    let e : leaf_count (take (suc m) (n ∷ ns)) + bit (is_exact (node_at ns m)) + open_leaves (take i (branches_of (node_at ns m)))
    ≡ leaf_count (n ∷ []) + (leaf_count (take m ns) + bit (is_exact (node_at ns m)) + open_leaves (take i (branches_of (node_at ns m)))) = omega (arith, one n (take m ns)) in
    rw e (slot_behind w (leaf_count (n ∷ [])) (leaf_count (take m ns) + bit (is_exact (node_at ns m)) + open_leaves (take i (branches_of (node_at ns m)))) (slots n) (concat (map slots ns)) (size n a.0)
    ∙ slot_is w ns m i x s rest a.1 d)
  where
    one : (n : Node) (ms : List Node) → leaf_count (n ∷ ms) ≡ leaf_count (n ∷ []) + leaf_count ms
    one n ms = omega arith

    size : (n : Node) → SlotsWidth w n → length (slots n) ≡ leaf_count (n ∷ []) * w
    size n h = sym (length-append (slots n) [] ∙ omega arith) ∙ length_sv w (n ∷ []) (h, tt)
