-- Nodes whose hash bits are struck out: their levels and the tests of a builder's trie stay as they are (`strike_nodes_valid`), their leaves lose their hash bits (`strike_leaves`), and their slots are the real bits (`slotted_strike`).
-- Used by StruckParts and Struck.
use Prim.Native.Nat.{ℕ, zero, suc, ◌+◌, ◌-◌, ◌*◌, ◌≤◌}
use Rattle.std.specs.Prelude.{◌≡◌, Bool, ◌||◌, take}
use Rattle.std.proofs.Math.Path.{refl, sym, ap, ap₂}
use Rattle.std.proofs.Common.{◌∙◌, arith, suc-mul, take-add}
use Rattle.std.proofs.Math.Bool.{true, false, not, ◌&&◌, and_assoc}
use mathlib.Core.List.{List, [], ◌∷◌, ◌++◌, map, map-append, map-map}
use Rattle.std.proofs.Math.Option.{Option, none, some}
use Rattle.std.proofs.Math.ListN.{length, drop, length-map, length-drop}
use Rattle.std.proofs.Math.Seq.{drop-nil, length-take-le, take_at, drop_at}
use Rattle.std.proofs.Math.Dec.{eqb, ltb, leb}
use Rattle.spec.specs.Bytes.{Bits, all, concat, every, clear}
use Rattle.spec.specs.Leaves.{real}
use Rattle.spec.specs.Nodes.{Entry, entry, Shape, shape, Branch, to_node, to_leaf, Node, node, label_of, slot, branches_of, is_exact, exact_slot, children, children_of, with_slots, past_slots, slotted, total, later, levels, levels_of, Group, prefix, branch_leaves, exact_leaf, level_groups, groups, leaves_of}
use Rattle.spec.specs.Trie.{open_leaves, leaf_count, has_label, ascending, sole_continues, nodes_valid}
use Rattle.spec.specs.Check.{clear_behind, slot_valid, slots_valid}
use Rattle.spec.specs.Struck.{real_slots}
use Rattle.theory.proofs.Bits.{clear_drop}

-- ---- lists of values

module _ {A : Type 0} {B : Type 0} (f : A → B) where
  take_map : (k : ℕ) (xs : List A) → take k (map f xs) ≡ map f (take k xs)
  take_map zero xs = refl
  take_map (suc k) [] = refl
  take_map (suc k) (x ∷ xs) = ap (λ (z : List B). f x ∷ z) (take_map k xs)

  drop_map : (k : ℕ) (xs : List A) → drop k (map f xs) ≡ map f (drop k xs)
  drop_map zero xs = refl
  drop_map (suc k) [] = refl
  drop_map (suc k) (x ∷ xs) = drop_map k xs

  concat_map : (ls : List (List A)) → concat (map (map f) ls) ≡ map f (concat ls)
  unfolding concat
  concat_map [] = refl
  concat_map (l ∷ ls) = ap (λ (z : List B). map f l ++ z) (concat_map ls) ∙ sym (map-append f l (concat ls))

  widths_map : (ls : List (List A)) → map length (map (map f) ls) ≡ map length ls
  widths_map [] = refl
  widths_map (l ∷ ls) = ap₂ ◌∷◌ (length-map l f) (widths_map ls)

  all_values : (p : A → Bool) (q : B → Bool) → ((a : A) → q (f a) ≡ p a) → (xs : List A) → all q (map f xs) ≡ all p xs
  unfolding all
  all_values p q e [] = refl
  all_values p q e (x ∷ xs) = ap₂ ◌&&◌ (e x) (all_values p q e xs)

  -- Nodes with as many continuing branches have the same levels.
  module _ (c : A → ℕ) (d : B → ℕ) (same : (a : A) → d (f a) ≡ c a) where
    total_values : (xs : List A) → total d (map f xs) ≡ total c xs
    unfolding total
    total_values [] = refl
    total_values (x ∷ xs) = ap₂ ◌+◌ (same x) (total_values xs)

    later_values : (i k : ℕ) (xs : List A) → later d i k (map f xs) ≡ later c i k xs
    unfolding later
    later_values i k [] = refl
    later_values i k (x ∷ xs) = rw (same x) (ap (λ (z : Bool). (eqb (c x) 0 || leb i k) && z) (later_values (suc i) (k + c x) xs))

    levels_values : (fuel w : ℕ) (xs : List A) → levels d fuel w (map f xs) ≡ map (map f) (levels c fuel w xs)
    unfolding levels
    levels_values zero w xs = refl
    levels_values (suc fuel) zero xs = refl
    levels_values (suc fuel) (suc w) xs =
        ap₂ ◌∷◌ (take_map (suc w) xs)
        (ap₂ (levels d fuel) (ap (total d) (take_map (suc w) xs) ∙ total_values (take (suc w) xs)) (drop_map (suc w) xs) ∙ levels_values fuel (total c (take (suc w) xs)) (drop (suc w) xs))

-- Tests of two lists one behind the other.
tests_append : {A : Type 0} (p : A → Bool) (a b : List A) → all p (a ++ b) ≡ (all p a && all p b)
unfolding all
tests_append p [] b = refl
tests_append p (x ∷ a) b = ap (λ (t : Bool). p x && t) (tests_append p a b) ∙ sym (and_assoc (p x) (all p a) (all p b))

-- Two pairs of tests pass together if their first ones do and their second ones.
and_swap : (a b c d : Bool) → ((a && b) && (c && d)) ≡ ((a && c) && (b && d))
and_swap false b c d = refl
and_swap true true c d = refl
and_swap true false true d = refl
and_swap true false false d = refl

-- ---- nodes without hash bits

-- a branch whose slot has lost its h hash bits
abbrev pub strike_branch : ℕ → Branch → Branch
strike_branch h (to_node x) = to_node x
strike_branch h (to_leaf x s) = to_leaf x (drop h s)

-- the slot of an exact leaf, if there is one, without its h hash bits
abbrev pub strike_slot : ℕ → Option Bits → Option Bits
strike_slot h none = none
strike_slot h (some s) = some (drop h s)

-- a node whose slots have lost their h hash bits
abbrev pub strike : ℕ → Node → Node
strike h (node o es) = node (strike_slot h o) (map (strike_branch h) es)

module _ (h : ℕ) where
  strike_children : (es : List Branch) → children (map (strike_branch h) es) ≡ children es
  unfolding children
  strike_children [] = refl
  strike_children (to_node x ∷ es) = ap suc (strike_children es)
  strike_children (to_leaf x s ∷ es) = strike_children es

  strike_children_of : (n : Node) → children_of (strike h n) ≡ children_of n
  strike_children_of (node o es) = strike_children es

  -- The levels of nodes without hash bits are the levels, without hash bits.
  pub strike_levels : (ns : List Node) → levels_of (map (strike h) ns) ≡ map (map (strike h)) (levels_of ns)
  unfolding levels_of
  strike_levels ns = levels_values (strike h) children_of children_of strike_children_of 65 1 ns

  strike_open : (es : List Branch) → open_leaves (map (strike_branch h) es) ≡ open_leaves es
  unfolding open_leaves
  strike_open [] = refl
  strike_open (to_node x ∷ es) = strike_open es
  strike_open (to_leaf x s ∷ es) = ap suc (strike_open es)

  strike_exact : (n : Node) → is_exact (strike h n) ≡ is_exact n
  strike_exact (node none es) = refl
  strike_exact (node (some s) es) = refl

  strike_leaf_count : (ns : List Node) → leaf_count (map (strike h) ns) ≡ leaf_count ns
  unfolding leaf_count
  strike_leaf_count [] = refl
  strike_leaf_count (node o es ∷ ns) = rw (strike_exact (node o es), strike_open es, strike_leaf_count ns)

  strike_has_label : (n : Node) → has_label (strike h n) ≡ has_label n
  unfolding has_label
  strike_has_label (node o []) = refl
  strike_has_label (node o (e ∷ es)) = refl

  strike_label : (e : Branch) → label_of (strike_branch h e) ≡ label_of e
  strike_label (to_node x) = refl
  strike_label (to_leaf x s) = refl

  strike_ascending : (es : List Branch) → ascending (map (strike_branch h) es) ≡ ascending es
  unfolding ascending
  strike_ascending [] = refl
  strike_ascending (e ∷ []) = refl
  strike_ascending (e ∷ f ∷ es) = rw (strike_label e, strike_label f, strike_ascending (f ∷ es))

  strike_ascending_of : (n : Node) → ascending (branches_of (strike h n)) ≡ ascending (branches_of n)
  strike_ascending_of (node o es) = strike_ascending es

  strike_sole_continues : (n : Node) → sole_continues (strike h n) ≡ sole_continues n
  unfolding sole_continues
  strike_sole_continues (node (some s) es) = refl
  strike_sole_continues (node none []) = refl
  strike_sole_continues (node none (to_node x ∷ [])) = refl
  strike_sole_continues (node none (to_leaf x s ∷ [])) = refl
  strike_sole_continues (node none (e ∷ f ∷ es)) = refl

  strike_dense : (dense : ℕ) (ns : List Node) → length (concat (take dense (levels_of (map (strike h) ns)))) ≡ length (concat (take dense (levels_of ns)))
  strike_dense dense ns =
      ap (λ (z : List (List Node)). length (concat (take dense z))) (strike_levels ns)
      ∙ ap (λ (z : List (List Node)). length (concat z)) (take_map (map (strike h)) dense (levels_of ns))
      ∙ ap length (concat_map (strike h) (take dense (levels_of ns)))
      ∙ length-map (concat (take dense (levels_of ns))) (strike h)

  -- Each level has as many nodes without hash bits.
  pub strike_widths : (ns : List Node) → map length (levels_of (map (strike h) ns)) ≡ map length (levels_of ns)
  strike_widths ns = ap (map length) (strike_levels ns) ∙ widths_map (strike h) (levels_of ns)

  -- The tests of a builder's trie do not look at slots.
  pub strike_nodes_valid : (dense dense_count count : ℕ) (ns : List Node) → nodes_valid dense dense_count count (map (strike h) ns) ≡ nodes_valid dense dense_count count ns
  unfolding nodes_valid
  strike_nodes_valid dense dense_count count [] = refl
  strike_nodes_valid dense dense_count count (r ∷ ns) =
      ap every
      (ap₂ ◌∷◌ (ap (λ (k : ℕ). eqb k count) (strike_leaf_count (r ∷ ns)))
      (ap (λ (ts : List Bool). ltb 0 count ∷ ts)
      (ap₂ ◌∷◌ (ap₂ (λ (a b : ℕ). eqb a (b + 1)) (length-map (r ∷ ns) (strike h)) (total_values (strike h) children_of children_of strike_children_of (r ∷ ns)))
      (ap₂ ◌∷◌ (later_values (strike h) children_of children_of strike_children_of 0 0 (r ∷ ns))
      (ap₂ ◌∷◌ (all_values (strike h) has_label has_label strike_has_label (r ∷ ns))
      (ap₂ ◌∷◌ (ap not (strike_exact r))
      (ap₂ ◌∷◌ (all_values (strike h) (λ n. ascending (branches_of n)) (λ n. ascending (branches_of n)) strike_ascending_of (r ∷ ns))
      (ap₂ ◌∷◌ (all_values (strike h) sole_continues sole_continues strike_sole_continues ns)
      (ap₂ (λ (a b : Bool). a ∷ b ∷ []) (ap (λ (k : ℕ). eqb k dense_count) (strike_dense dense (r ∷ ns)))
      (ap (λ (k : ℕ). leb k 64) (ap length (strike_levels (r ∷ ns)) ∙ length-map (levels_of (r ∷ ns)) (map (strike h)))))))))))))

-- ---- number 16

module _ (h : ℕ) where
  strike_slot_of : (e : Branch) → slot (strike_branch h e) ≡ drop h (slot e)
  strike_slot_of (to_node x) = sym (drop-nil h)
  strike_slot_of (to_leaf x s) = refl

  strike_exact_slot : (n : Node) → exact_slot (strike h n) ≡ drop h (exact_slot n)
  strike_exact_slot (node none es) = sym (drop-nil h)
  strike_exact_slot (node (some s) es) = refl

  strike_slot_valid : (d : ℕ) (n : Node) → slot_valid h d n ≡ (clear (exact_slot n) && slot_valid 0 d (strike h n))
  unfolding slot_valid
  strike_slot_valid d (node o es) =
      ap (λ (b : Bool). clear (exact_slot (node o es)) && b) (sym (all_values (strike_branch h) (λ e. clear_behind (63 - d) (drop h (slot e))) (λ e. clear_behind (63 - d) (slot e)) (λ e. ap (clear_behind (63 - d)) (strike_slot_of e)) es))
      ∙ go (clear (exact_slot (node o es))) refl (all (λ e. clear_behind (63 - d) (slot e)) (map (strike_branch h) es))
    where
      go : (b : Bool) → clear (exact_slot (node o es)) ≡ b → (r : Bool) → (b && r) ≡ (b && (clear (exact_slot (strike h (node o es))) && r))
      go true e r = rw (strike_exact_slot (node o es), clear_drop h (exact_slot (node o es)) e)
      go false e r = refl

  strike_level_valid : (d : ℕ) (ns : List Node) → all (slot_valid h d) ns ≡ (all (λ n. clear (exact_slot n)) ns && all (slot_valid 0 d) (map (strike h) ns))
  unfolding all
  strike_level_valid d [] = refl
  strike_level_valid d (n ∷ ns) = ap₂ ◌&&◌ (strike_slot_valid d n) (strike_level_valid d ns) ∙ and_swap (clear (exact_slot n)) (slot_valid 0 d (strike h n)) (all (λ n. clear (exact_slot n)) ns) (all (slot_valid 0 d) (map (strike h) ns))

  -- 16 does not apply exactly if the slots of exact leaves are zero and 16 does not apply without hash bits.
  pub strike_slots_valid : (d : ℕ) (ls : List (List Node)) → slots_valid h d ls ≡ (all (λ n. clear (exact_slot n)) (concat ls) && slots_valid 0 d (map (map (strike h)) ls))
  unfolding slots_valid concat
  strike_slots_valid d [] = refl
  strike_slots_valid d (ns ∷ ls) =
      ap₂ ◌&&◌ (strike_level_valid d ns) (strike_slots_valid (suc d) ls)
      ∙ and_swap (all (λ n. clear (exact_slot n)) ns) (all (slot_valid 0 d) (map (strike h) ns)) (all (λ n. clear (exact_slot n)) (concat ls)) (slots_valid 0 (suc d) (map (map (strike h)) ls))
      ∙ ap (λ (b : Bool). b && slots_valid 0 d (map (map (strike h)) (ns ∷ ls))) (sym (tests_append (λ n. clear (exact_slot n)) ns (concat ls)))

-- ---- leaves

module _ (h : ℕ) where
  strike_branch_leaves : (es : List Branch) (gs : List Group) → branch_leaves (map (strike_branch h) es) (map (map (real h)) gs) ≡ map (real h) (branch_leaves es gs)
  unfolding branch_leaves real
  strike_branch_leaves [] gs = refl
  strike_branch_leaves (to_leaf x s ∷ es) gs = ap (λ (z : Group). record { cut = x ∷ []; exact = false; suffix = drop h s } ∷ z) (strike_branch_leaves es gs)
  strike_branch_leaves (to_node x ∷ es) [] = refl
  strike_branch_leaves (to_node x ∷ es) (g ∷ gs) =
      ap₂ ◌++◌ (map-map (prefix x) (real h) g ∙ sym (map-map (real h) (prefix x) g)) (strike_branch_leaves es gs) ∙ sym (map-append (real h) (map (prefix x) g) (branch_leaves es gs))

  strike_exact_leaf : (o : Option Bits) → exact_leaf (strike_slot h o) ≡ map (real h) (exact_leaf o)
  unfolding exact_leaf real
  strike_exact_leaf none = refl
  strike_exact_leaf (some s) = refl

  strike_level_groups : (ns : List Node) (gs : List Group) → level_groups (map (strike h) ns) (map (map (real h)) gs) ≡ map (map (real h)) (level_groups ns gs)
  unfolding level_groups
  strike_level_groups [] gs = refl
  strike_level_groups (node o es ∷ ns) gs =
      ap₂ ◌∷◌ (ap₂ ◌++◌ (strike_exact_leaf o) (strike_branch_leaves es gs) ∙ sym (map-append (real h) (exact_leaf o) (branch_leaves es gs)))
      (ap (level_groups (map (strike h) ns)) (ap (λ (k : ℕ). drop k (map (map (real h)) gs)) (strike_children h es) ∙ drop_map (map (real h)) (children es) gs) ∙ strike_level_groups ns (drop (children es) gs))

  strike_groups : (ls : List (List Node)) → groups (map (map (strike h)) ls) ≡ map (map (real h)) (groups ls)
  unfolding groups
  strike_groups [] = refl
  strike_groups (ns ∷ ls) = ap (level_groups (map (strike h) ns)) (strike_groups ls) ∙ strike_level_groups ns (groups ls)

  -- The leaves of nodes without hash bits are the leaves, without hash bits.
  pub strike_leaves : (ls : List (List Node)) → leaves_of (map (map (strike h)) ls) ≡ map (real h) (leaves_of ls)
  unfolding leaves_of
  strike_leaves ls = ap concat (strike_groups ls) ∙ concat_map (real h) (groups ls)

-- ---- slots

-- how many slots entries take, and r more
abbrev pub entry_slots : List Entry → ℕ → ℕ
entry_slots [] r = r
entry_slots (entry x true ∷ es) r = entry_slots es r
entry_slots (entry x false ∷ es) r = suc (entry_slots es r)

-- how many slots nodes take
abbrev pub shape_slots : List Shape → ℕ
shape_slots [] = 0
shape_slots (shape true es ∷ ns) = suc (entry_slots es (shape_slots ns))
shape_slots (shape false es ∷ ns) = entry_slots es (shape_slots ns)

open_slotted : (n : ℕ) (es : List Entry) (bs : Bits) (r : ℕ) → open_leaves (with_slots n es bs) + r ≡ entry_slots es r
unfolding open_leaves with_slots
open_slotted n [] bs r = omega arith
open_slotted n (entry x true ∷ es) bs r = open_slotted n es bs r
open_slotted n (entry x false ∷ es) bs r = omega (arith, open_slotted n es (drop n bs) r)

-- Nodes have the leaves of their shapes, whatever their slots.
pub leaf_count_slotted : (n : ℕ) (ns : List Shape) (bs : Bits) → leaf_count (slotted n ns bs) ≡ shape_slots ns
unfolding leaf_count slotted
leaf_count_slotted n [] bs = refl
leaf_count_slotted n (shape true es ∷ ns) bs =
    let u : Bits = past_slots n es (drop n bs) in
    omega (arith, open_slotted n es (drop n bs) (leaf_count (slotted n ns u)), ap (entry_slots es) (leaf_count_slotted n ns u))
leaf_count_slotted n (shape false es ∷ ns) bs =
    let u : Bits = past_slots n es bs in
    omega (arith, open_slotted n es bs (leaf_count (slotted n ns u)), ap (entry_slots es) (leaf_count_slotted n ns u))

module _ (h n : ℕ) where
  -- the first of the slots, and those behind it
  first_real : (k : ℕ) (bs : Bits) → h + n ≤ length bs
      → (take n (real_slots h n (suc k) bs) ≡ drop h (take (h + n) bs)) × (drop n (real_slots h n (suc k) bs) ≡ real_slots h n k (drop (h + n) bs))
  unfolding real_slots
  first_real k bs l =
      let size : length (take n (drop h bs)) ≡ n = length-take-le n (drop h bs) (omega (arith, length-drop h bs)) in
      let front : length (take h bs) ≡ h = length-take-le h bs (omega arith) in (
        take_at (take n (drop h bs)) (real_slots h n k (drop (h + n) bs)) n size ∙ sym (ap (drop h) (take-add h n bs) ∙ drop_at (take h bs) (take n (drop h bs)) h front),
        drop_at (take n (drop h bs)) (real_slots h n k (drop (h + n) bs)) n size,
      )

  slots_left : (k : ℕ) (bs : Bits) → suc k * (h + n) ≤ length bs → (h + n ≤ length bs) × (k * (h + n) ≤ length (drop (h + n) bs))
  slots_left k bs l = (omega (arith, suc-mul k (h + n)), omega (arith, suc-mul k (h + n), length-drop (h + n) bs))

  strike_with_slots : (es : List Entry) (r : ℕ) (bs : Bits) → entry_slots es r * (h + n) ≤ length bs
      → (with_slots n es (real_slots h n (entry_slots es r) bs) ≡ map (strike_branch h) (with_slots (h + n) es bs))
      × (past_slots n es (real_slots h n (entry_slots es r) bs) ≡ real_slots h n r (past_slots (h + n) es bs))
      × (r * (h + n) ≤ length (past_slots (h + n) es bs))
  unfolding with_slots past_slots
  strike_with_slots [] r bs l = (refl, refl, l)
  strike_with_slots (entry x true ∷ es) r bs l = let q = strike_with_slots es r bs l in (ap (λ (z : List Branch). to_node x ∷ z) q.0, q.1, q.2)
  strike_with_slots (entry x false ∷ es) r bs l =
      let m = slots_left (entry_slots es r) bs l in
      let f = first_real (entry_slots es r) bs m.0 in
      let q = strike_with_slots es r (drop (h + n) bs) m.1 in
      (ap₂ (λ (s : Bits) (z : List Branch). to_leaf x s ∷ z) f.0 (ap (with_slots n es) f.1 ∙ q.0), ap (past_slots n es) f.1 ∙ q.1, q.2)

  -- Where there are bits for all slots, nodes with the real bits of the slots are the nodes without hash bits.
  pub slotted_strike : (ns : List Shape) (bs : Bits) → shape_slots ns * (h + n) ≤ length bs → slotted n ns (real_slots h n (shape_slots ns) bs) ≡ map (strike h) (slotted (h + n) ns bs)
  unfolding slotted
  slotted_strike [] bs l = refl
  slotted_strike (shape true es ∷ ns) bs l =
      let m = slots_left (entry_slots es (shape_slots ns)) bs l in
      let f = first_real (entry_slots es (shape_slots ns)) bs m.0 in
      let q = strike_with_slots es (shape_slots ns) (drop (h + n) bs) m.1 in
      let ih = slotted_strike ns (past_slots (h + n) es (drop (h + n) bs)) q.2 in
      ap₂ ◌∷◌ (ap₂ (λ (s : Bits) (z : List Branch). node (some s) z) f.0 (ap (with_slots n es) f.1 ∙ q.0)) (ap (slotted n ns) (ap (past_slots n es) f.1 ∙ q.1) ∙ ih)
  slotted_strike (shape false es ∷ ns) bs l =
      let q = strike_with_slots es (shape_slots ns) bs l in
      ap₂ ◌∷◌ (ap (node none) q.0) (ap (slotted n ns) q.1 ∙ slotted_strike ns (past_slots (h + n) es bs) q.2)
