-- The slots of nodes by their numbers: slot v is the n bits from bit v n on, an exact leaf's before its node's branches'.
use Prim.Native.Nat.{ℕ, zero, suc, ◌+◌, ◌*◌, ◌≤◌}
use Rattle.std.specs.Prelude.{◌≡◌, Bool, ◌||◌, not, take}
use Rattle.std.proofs.Math.Path.{refl, sym, ap, ap₂}
use Rattle.std.proofs.Common.{◌∙◌, suc-mul, length-take, drop_of_length-le, drop-drop}
use Rattle.std.proofs.Math.Bool.{true, false, ◌&&◌, and_assoc}
use mathlib.Core.List.{List, [], ◌∷◌, ◌++◌}
use native.Mathlib.Omega.{arith}
use Rattle.std.proofs.Math.ListN.{drop}
use Rattle.spec.specs.Bytes.{Bits, all, count, clear}
use Rattle.spec.specs.Nodes.{Entry, entry, Shape, shape, Node, slot, branches_of, exact_slot, with_slots, past_slots, slotted, total}
use Rattle.spec.specs.Check.{clear_behind}
use Rattle.check_levels.specs.Tests.{and}
use Rattle.check_levels.specs.Shapes.{ends_here, exact, leaves_at, node_of, bits_past, slotted_first}
use Rattle.check_levels.specs.Ranges.{all_from, from_none, from_parts}
use Rattle.theory.proofs.Lists.{and_both}

-- ---- what number 16 asks of a node

-- the slot of the exact leaf that a node is has no bit set behind its first m bits
abbrev pub exact_clear : ℕ → Node → Bool
exact_clear m n = clear (drop m (exact_slot n))

-- nor have the slots of its branches
abbrev pub open_clear : ℕ → Node → Bool
open_clear m n = all (λ e. clear (drop m (slot e))) (branches_of n)

-- nothing is set in no bits
pub clear_none : (m : ℕ) → clear (drop m []) ≡ true
unfolding clear
clear_none zero = refl
clear_none (suc m) = refl

clear_drop : (k : ℕ) (s : Bits) → clear s ≡ true → clear (drop k s) ≡ true
unfolding clear
clear_drop zero s h = h
clear_drop (suc k) [] h = refl
clear_drop (suc k) (b ∷ s) h = clear_drop k s (and_both (not b) (clear s) h).1

-- bits that are clear behind so many are clear behind more
pub clear_more : (m k : ℕ) (s : Bits) → clear (drop m s) ≡ true → clear (drop (m + k) s) ≡ true
clear_more m k s h = ap clear (sym (drop-drop k m s)) ∙ clear_drop k (drop m s) h

-- a slot of at most m bits has none behind them
pub clear_short : (n m : ℕ) (s : Bits) → n ≤ m → clear (drop m (take n s)) ≡ true
unfolding clear
clear_short n m s h = ap clear (drop_of_length-le (take n s) {i = m} (omega (arith, length-take n s)))

-- what stands behind m bytes
behind_bytes : (m : ℕ) (s : Bits) → clear_behind m s ≡ clear (drop (8 * m) s)
unfolding clear_behind
behind_bytes zero s = refl
behind_bytes (suc m) s =
    let e : 8 + 8 * m ≡ 8 * suc m = omega arith in
    behind_bytes m (drop 8 s) ∙ ap clear (drop-drop (8 * m) 8 s ∙ ap (λ (k : ℕ). drop k s) e)

-- and behind h bits before these
pub behind_bits : (h m : ℕ) (s : Bits) → clear_behind m (drop h s) ≡ clear (drop (h + 8 * m) s)
behind_bits h m s = behind_bytes m (drop h s) ∙ ap clear (drop-drop (8 * m) h s)

-- slot v of some bits has no bit set behind its first m
abbrev pub slot_clear : ℕ → ℕ → Bits → ℕ → Bool
slot_clear m n bs v = clear (drop m (take n (drop (v * n) bs)))

next_slot : (n v : ℕ) (bs : Bits) → drop n (drop (v * n) bs) ≡ drop (suc v * n) bs
next_slot n v bs = drop-drop n (v * n) bs ∙ ap (λ (k : ℕ). drop k bs) (sym (suc-mul v n))

-- ---- one node

module _ (m n : ℕ) (bs : Bits) where
  branches_clear : (v : ℕ) (es : List Entry) → all (λ e. clear (drop m (slot e))) (with_slots n es (drop (v * n) bs)) ≡ all_from (slot_clear m n bs) v (count ends_here es)
  unfolding with_slots all count all_from
  branches_clear v [] = refl
  branches_clear v (entry x true ∷ es) = rw (clear_none m) (branches_clear v es)
  branches_clear v (entry x false ∷ es) =
      ap (λ (b : Bits). slot_clear m n bs v && all (λ e. clear (drop m (slot e))) (with_slots n es b)) (next_slot n v bs)
      ∙ ap (λ (t : Bool). slot_clear m n bs v && t) (branches_clear (suc v) es)

  past_branches : (v : ℕ) (es : List Entry) → past_slots n es (drop (v * n) bs) ≡ drop ((v + count ends_here es) * n) bs
  unfolding past_slots count
  past_branches v [] = let e : v + 0 ≡ v = omega arith in rw e
  past_branches v (entry x true ∷ es) = past_branches v es
  past_branches v (entry x false ∷ es) =
      let e : suc v + count ends_here es ≡ v + suc (count ends_here es) = omega arith in
      ap (past_slots n es) (next_slot n v bs) ∙ past_branches (suc v) es ∙ ap (λ (k : ℕ). drop (k * n) bs) e

  past_node : (v : ℕ) (h : Shape) → bits_past n h (drop (v * n) bs) ≡ drop ((v + leaves_at h) * n) bs
  unfolding bits_past
  past_node v (shape true es) =
      let e : suc v + count ends_here es ≡ v + (1 + count ends_here es) = omega arith in
      ap (past_slots n es) (next_slot n v bs) ∙ past_branches (suc v) es ∙ ap (λ (k : ℕ). drop (k * n) bs) e
  past_node v (shape false es) =
      let e : v + count ends_here es ≡ v + (0 + count ends_here es) = omega arith in
      past_branches v es ∙ ap (λ (k : ℕ). drop (k * n) bs) e

  node_clear : (v : ℕ) (h : Shape)
      → exact_clear m (node_of n h (drop (v * n) bs)) && open_clear m (node_of n h (drop (v * n) bs)) ≡ all_from (slot_clear m n bs) v (leaves_at h)
  unfolding node_of all_from
  node_clear v (shape true es) =
      let e : 1 + count ends_here es ≡ suc (count ends_here es) = omega arith in
      rw e
      (ap (λ (t : Bool). slot_clear m n bs v && t)
      (ap (λ (b : Bits). all (λ e. clear (drop m (slot e))) (with_slots n es b)) (next_slot n v bs) ∙ branches_clear (suc v) es))
  node_clear v (shape false es) =
      let e : 0 + count ends_here es ≡ count ends_here es = omega arith in
      rw (e, clear_none m) (branches_clear v es)

  -- ---- nodes in a row

  -- the slots of nodes, the first one's from slot v on, are consecutive
  pub all_clear : (v : ℕ) (hs : List Shape)
      → all (λ x. exact_clear m x && open_clear m x) (slotted n hs (drop (v * n) bs)) ≡ all_from (slot_clear m n bs) v (total leaves_at hs)
  unfolding slotted total all
  all_clear v [] = sym (from_none (slot_clear m n bs) v)
  all_clear v (h ∷ hs) =
      ap (all (λ x. exact_clear m x && open_clear m x)) (slotted_first n h hs (drop (v * n) bs))
      ∙ ap₂ ◌&&◌ (node_clear v h)
      (ap (λ (b : Bits). all (λ x. exact_clear m x && open_clear m x) (slotted n hs b)) (past_node v h) ∙ all_clear (v + leaves_at h) hs)
      ∙ sym (from_parts (slot_clear m n bs) (leaves_at h) v (total leaves_at hs))

-- exact leaves among nodes, the first one's slots from v on, whose slots pass a test
unfoldable pub exact_from : (ℕ → Bool) → ℕ → List Shape → Bool
exact_from f v [] = true
exact_from f v (h ∷ hs) = (not (exact h) || f v) && exact_from f (v + leaves_at h) hs

-- exact leaves of nodes in two parts
pub exact_parts : (f : ℕ → Bool) (v : ℕ) (hs gs : List Shape) → exact_from f v (hs ++ gs) ≡ exact_from f v hs && exact_from f (v + total leaves_at hs) gs
unfolding exact_from total
exact_parts f v [] gs = let e : v + 0 ≡ v = omega arith in rw e
exact_parts f v (h ∷ hs) gs =
    let e : v + leaves_at h + total leaves_at hs ≡ v + (leaves_at h + total leaves_at hs) = omega arith in
    ap (λ (t : Bool). (not (exact h) || f v) && t) (exact_parts f (v + leaves_at h) hs gs ∙ ap (λ (k : ℕ). exact_from f (v + leaves_at h) hs && exact_from f k gs) e)
    ∙ sym (and_assoc (not (exact h) || f v) (exact_from f (v + leaves_at h) hs) (exact_from f (v + (leaves_at h + total leaves_at hs)) gs))

module _ (n : ℕ) (bs : Bits) where
  node_exact : (v : ℕ) (h : Shape) → exact_clear 0 (node_of n h (drop (v * n) bs)) ≡ (not (exact h) || slot_clear 0 n bs v)
  unfolding node_of
  node_exact v (shape true es) = refl
  node_exact v (shape false es) = clear_none 0

  -- the exact leaves by their slots
  pub all_exact : (v : ℕ) (hs : List Shape) → all (exact_clear 0) (slotted n hs (drop (v * n) bs)) ≡ exact_from (slot_clear 0 n bs) v hs
  unfolding slotted all exact_from
  all_exact v [] = refl
  all_exact v (h ∷ hs) =
      ap (all (exact_clear 0)) (slotted_first n h hs (drop (v * n) bs))
      ∙ ap₂ ◌&&◌ (node_exact v h) (ap (λ (b : Bits). all (exact_clear 0) (slotted n hs b)) (past_node 0 n bs v h) ∙ all_exact (v + leaves_at h) hs)

  -- the nodes from number i on
  pub drop_slotted : (i v : ℕ) (hs : List Shape) → drop i (slotted n hs (drop (v * n) bs)) ≡ slotted n (drop i hs) (drop ((v + total leaves_at (take i hs)) * n) bs)
  unfolding slotted total
  drop_slotted zero v hs = let e : v + 0 ≡ v = omega arith in rw e
  drop_slotted (suc i) v [] = refl
  drop_slotted (suc i) v (h ∷ hs) =
      let e : v + leaves_at h + total leaves_at (take i hs) ≡ v + (leaves_at h + total leaves_at (take i hs)) = omega arith in
      ap (drop (suc i)) (slotted_first n h hs (drop (v * n) bs)) ∙ ap (λ (b : Bits). drop i (slotted n hs b)) (past_node 0 n bs v h)
      ∙ drop_slotted i (v + leaves_at h) hs ∙ ap (λ (k : ℕ). slotted n (drop i hs) (drop (k * n) bs)) e

-- the first w nodes
pub take_slotted : (n w : ℕ) (hs : List Shape) (bs : Bits) → take w (slotted n hs bs) ≡ slotted n (take w hs) bs
unfolding slotted
take_slotted n zero hs bs = refl
take_slotted n (suc w) [] bs = refl
take_slotted n (suc w) (h ∷ hs) bs =
    ap (take (suc w)) (slotted_first n h hs bs) ∙ ap (λ (z : List Node). node_of n h bs ∷ z) (take_slotted n w hs (bits_past n h bs))
    ∙ sym (slotted_first n h (take w hs) bs)

short_branches : (n m : ℕ) (es : List Entry) (bs : Bits) → n ≤ m → all (λ e. clear (drop m (slot e))) (with_slots n es bs) ≡ true
unfolding with_slots all
short_branches n m [] bs h = refl
short_branches n m (entry x true ∷ es) bs h = rw (clear_none m) (short_branches n m es bs h)
short_branches n m (entry x false ∷ es) bs h = rw (clear_short n m bs h) (short_branches n m es (drop n bs) h)

-- slots of at most m bits have none behind them
pub short_slots : (n m : ℕ) (hs : List Shape) (bs : Bits) → n ≤ m → all (open_clear m) (slotted n hs bs) ≡ true
unfolding slotted all node_of
short_slots n m [] bs h = refl
short_slots n m (g ∷ hs) bs h = ap (all (open_clear m)) (slotted_first n g hs bs) ∙ and (open_clear m (node_of n g bs)) (all (open_clear m) (slotted n hs (bits_past n g bs))) (one g) (short_slots n m hs (bits_past n g bs) h)
  where
    one : (g : Shape) → open_clear m (node_of n g bs) ≡ true
    one (shape true es) = short_branches n m es (drop n bs) h
    one (shape false es) = short_branches n m es bs h
