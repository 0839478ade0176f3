-- Number 16 over the levels of nodes: the slots of exact leaves, and those of the nodes on the levels 62 and 63, the only ones with real bits past a key's 64th byte. A slot has h hash bits before its real bits.
use Rattle.std.specs.Prelude.{ℕ, zero, suc, ◌+◌, ◌-◌, ◌*◌, ◌≤◌, ◌≡◌, refl, Bool, true, ◌&&◌, List, [], ◌∷◌, ◌++◌, length, get_or, take, drop}
use Rattle.std.proofs.Common.{sym, ap, ap₂, ◌∙◌, arith, length-append, length-drop, take-append-drop, get_or-drop, take_at}
use Rattle.std.proofs.Math.Bool.{and-true}
use Rattle.std.proofs.Math.Seq.{take-nil, drop-append-add}
use Rattle.spec.specs.Bytes.{all, concat, clear}
use Rattle.spec.specs.Nodes.{Node, slot, branches_of, exact_slot}
use Rattle.spec.specs.Check.{clear_behind, slot_valid, slots_valid}
use Rattle.check_levels.specs.Tests.{and, under, swap_middle, all_append, all_both}
use Rattle.check_slots.specs.NodeSlots.{exact_clear, open_clear, clear_more, behind_bits}
use Rattle.theory.proofs.Lists.{and_both}

-- the slots of branches on the levels from level d on
unfoldable open_valid : ℕ → ℕ → List (List Node) → Bool
unfolding all
open_valid h d [] = true
open_valid h d (ns ∷ ls) = all (open_clear (h + 8 * (63 - d))) ns && open_valid h (suc d) ls

-- one node: real bits are counted behind the hash bits
node_valid : (h d : ℕ) (n : Node) → slot_valid h d n ≡ exact_clear 0 n && open_clear (h + 8 * (63 - d)) n
unfolding slot_valid clear_behind
node_valid h d n = λ i. exact_clear 0 n && all (λ e. behind_bits h (63 - d) (slot e) i) (branches_of n)

-- exact leaves apart from branches
split_levels : (h d : ℕ) (ls : List (List Node)) → slots_valid h d ls ≡ all (exact_clear 0) (concat ls) && open_valid h d ls
unfolding slots_valid open_valid concat all
split_levels h d [] = refl
split_levels h d (ns ∷ ls) =
    let m : ℕ = h + 8 * (63 - d) in
    ap₂ ◌&&◌ ((λ i. all (λ n. node_valid h d n i) ns) ∙ all_both (exact_clear 0) (open_clear m) ns) (split_levels h (suc d) ls)
    ∙ swap_middle (all (exact_clear 0) ns) (all (open_clear m) ns) (all (exact_clear 0) (concat ls)) (open_valid h (suc d) ls)
    ∙ ap (λ (t : Bool). t && (all (open_clear m) ns && open_valid h (suc d) ls)) (sym (all_append (exact_clear 0) ns (concat ls)))

-- a test that follows from another
all_follow : {A : Type 0} (p q : A → Bool) → ((x : A) → p x ≡ true → q x ≡ true) → (xs : List A) → all p xs ≡ true → all q xs ≡ true
unfolding all
all_follow p q f [] h = refl
all_follow p q f (x ∷ xs) h = let b = and_both (p x) (all p xs) h in and (q x) (all q xs) (f x b.0) (all_follow p q f xs b.1)

-- ---- slots of at most two bytes of real bits

module _ (m k : ℕ) where
  more_clear : (ns : List Node) → all (open_clear m) ns ≡ true → all (open_clear (m + k)) ns ≡ true
  more_clear ns h = all_follow (open_clear m) (open_clear (m + k)) (λ n p. all_follow (λ e. clear (drop m (slot e))) (λ e. clear (drop (m + k) (slot e))) (λ e q. clear_more m k (slot e) q) (branches_of n) p) ns h

-- have no bits past the 64th byte above level 62
shallow : (h k d : ℕ) (ls : List (List Node)) → d + k ≤ 62 → all (open_clear (h + 16)) (concat ls) ≡ true → open_valid h d ls ≡ open_valid h (d + k) (drop k ls)
unfolding open_valid concat
shallow h zero d ls l s = let e : d + 0 ≡ d = omega arith in rw e
shallow h (suc k) d [] l s = refl
shallow h (suc k) d (ns ∷ ls) l s =
    let p = and_both (all (open_clear (h + 16)) ns) (all (open_clear (h + 16)) (concat ls)) (sym (all_append (open_clear (h + 16)) ns (concat ls)) ∙ s) in
    let e : suc d + k ≡ d + suc k = omega arith in
    let f : h + 16 + 8 * (61 - d) ≡ h + 8 * (63 - d) = omega arith in
    let t : all (open_clear (h + 8 * (63 - d))) ns ≡ true = ap (λ (m : ℕ). all (open_clear m) ns) (sym f) ∙ more_clear (h + 16) (8 * (61 - d)) ns p.0 in
    rw t (shallow h k (suc d) ls (omega arith) p.1 ∙ ap (λ (z : ℕ). open_valid h z (drop k ls)) e)

-- the levels 62 and 63
last_two : (h : ℕ) (ls : List (List Node)) → length ls ≤ 64 → open_valid h 62 (drop 62 ls) ≡ all (open_clear (h + 8)) (get_or ls 62 []) && all (open_clear h) (get_or ls 63 [])
unfolding open_valid all
last_two h ls l = rest (drop 62 ls) (omega (arith, length-drop 62 ls)) ∙ ap₂ (λ (a b : List Node). all (open_clear (h + 8)) a && all (open_clear h) b) (get_or-drop 62 ls 0 []) (get_or-drop 62 ls 1 [])
  where
    e : h + 0 ≡ h
    e = omega arith

    rest : (r : List (List Node)) → length r ≤ 2 → open_valid h 62 r ≡ all (open_clear (h + 8)) (get_or r 0 []) && all (open_clear h) (get_or r 1 [])
    rest [] l = refl
    rest (a ∷ []) l = refl
    rest (a ∷ b ∷ []) l = ap (λ (t : Bool). all (open_clear (h + 8)) a && t) (and-true (all (open_clear (h + 0)) b) ∙ ap (λ (m : ℕ). all (open_clear m) b) e)
    rest (a ∷ b ∷ c ∷ r) l = absurd (omega arith)

-- ---- levels as parts of the nodes

-- the nodes on the first t levels
abbrev pub above : List (List Node) → ℕ → ℕ
above ls t = length (concat (take t ls))

-- they never get fewer
pub above_up : (ls : List (List Node)) (t : ℕ) → above ls t ≤ above ls (suc t)
unfolding concat
above_up [] zero = omega arith
above_up [] (suc t) = omega arith
above_up (ns ∷ ls) zero = omega arith
above_up (ns ∷ ls) (suc t) = omega (arith, above_up ls t, length-append ns (concat (take t ls)), length-append ns (concat (take (suc t) ls)))

-- the nodes from number i to number e
abbrev pub nodes_between : ℕ → ℕ → List Node → List Node
nodes_between i e ns = take (e - i) (drop i ns)

level_between : (t : ℕ) (ls : List (List Node)) → nodes_between (above ls t) (above ls (suc t)) (concat ls) ≡ get_or ls t []
unfolding concat
level_between t [] = rw (take-nil {A = List Node} t)
level_between zero (ns ∷ ls) = take_at ns (concat ls) (length (ns ++ []) - 0) (omega (arith, length-append ns []))
level_between (suc t) (ns ∷ ls) =
    let x = length-append ns (concat (take (suc t) ls)) in
    let y = length-append ns (concat (take t ls)) in
    let e : length (ns ++ concat (take (suc t) ls)) - length (ns ++ concat (take t ls)) ≡ above ls (suc t) - above ls t = omega arith in
    ap₂ (λ (a b : ℕ). take a (drop b (ns ++ concat ls))) e y ∙ ap (take (above ls (suc t) - above ls t)) (drop-append-add ns (concat ls) (above ls t)) ∙ level_between t ls

all_between : (p : Node → Bool) (i e : ℕ) (ns : List Node) → all p ns ≡ true → all p (nodes_between i e ns) ≡ true
all_between p i e ns h = (and_both (all p (nodes_between i e ns)) (all p (drop (e - i) (drop i ns))) (apart (e - i) (drop i ns) (and_both (all p (take i ns)) (all p (drop i ns)) (apart i ns h)).1)).0
  where
    apart : (k : ℕ) (xs : List Node) → all p xs ≡ true → all p (take k xs) && all p (drop k xs) ≡ true
    apart k xs h = sym (all_append p (take k xs) (drop k xs)) ∙ ap (all p) (take-append-drop k xs) ∙ h

-- where exact leaves' slots are clear, all slots may be judged
both_clear : (m : ℕ) (ns : List Node) → all (exact_clear 0) ns ≡ true → all (open_clear m) ns ≡ all (λ x. exact_clear m x && open_clear m x) ns
unfolding all
both_clear m [] h = refl
both_clear m (n ∷ ns) h =
    let p = and_both (exact_clear 0 n) (all (exact_clear 0) ns) h in
    let e : 0 + m ≡ m = omega arith in
    let c : exact_clear m n ≡ true = rw e at (clear_more 0 m (exact_slot n) p.0) in
    rw c (ap (λ (t : Bool). open_clear m n && t) (both_clear m ns p.1))

-- the slots of the nodes from number i to number e, behind their first m bits
abbrev pub between_clear : ℕ → ℕ → ℕ → List Node → Bool
between_clear m i e ns = all (λ x. exact_clear m x && open_clear m x) (nodes_between i e ns)

-- Number 16: the slots of exact leaves are clear, and on the levels 62 and 63 no real bit is set past the 64th byte.
pub levels_slots : (h : ℕ) (ls : List (List Node)) (ns : List Node) → concat ls ≡ ns → length ls ≤ 64 → all (open_clear (h + 16)) ns ≡ true
    → slots_valid h 0 ls ≡ all (exact_clear 0) ns && (between_clear (h + 8) (above ls 62) (above ls 63) ns && between_clear h (above ls 63) (above ls 64) ns)
levels_slots h ls ns w l s =
    split_levels h 0 ls
    ∙ ap₂ (λ (a : List Node) (t : Bool). all (exact_clear 0) a && t) w (shallow h 62 0 ls (omega arith) (ap (all (open_clear (h + 16))) w ∙ s) ∙ last_two h ls l)
    ∙ under (all (exact_clear 0) ns) (all (open_clear (h + 8)) (get_or ls 62 []) && all (open_clear h) (get_or ls 63 []))
    (between_clear (h + 8) (above ls 62) (above ls 63) ns && between_clear h (above ls 63) (above ls 64) ns) (λ c. ap₂ ◌&&◌ (here (h + 8) 62 c) (here h 63 c))
  where
    here : (m t : ℕ) → all (exact_clear 0) ns ≡ true → all (open_clear m) (get_or ls t []) ≡ between_clear m (above ls t) (above ls (suc t)) ns
    here m t c =
        ap (all (open_clear m)) (sym (level_between t ls) ∙ ap (nodes_between (above ls t) (above ls (suc t))) w)
        ∙ both_clear m (nodes_between (above ls t) (above ls (suc t)) ns) (all_between (exact_clear 0) (above ls t) (above ls (suc t)) ns c)
