-- The keys and slots of levels: nodes whose labels are bytes and whose slots pass their test have leaves whose keys and suffixes are right (`leaf_valid_levels`), and back (`levels_valid`).
-- Used by acceptance in both directions.
use Rattle.std.specs.Prelude.{ℕ, ◌+◌, ◌≤◌, ◌-◌, zero, suc, ◌<◌, ◌≡◌, refl, Bool, true, false, map, ◌++◌, [], ◌∷◌, List, length, replicate, drop, take}
use Rattle.std.proofs.Common.{sym, ◌∙◌, ap, true≢false, arith, length-drop}
use Rattle.std.proofs.Math.Option.{Option, none, some}
use Rattle.std.proofs.Math.Seq.{drop-nil}
use Rattle.spec.specs.Bytes.{Bits, all, concat, clear}
use Rattle.spec.specs.Leaves.{Leaf}
use Rattle.spec.specs.Nodes.{prefix, Group, Branch, label_of, slot, branch_leaves, to_leaf, to_node, exact_slot, node, exact_leaf, Node, level_groups, children, groups, total, children_of}
use Rattle.spec.specs.Check.{clear_behind, slot_valid, slots_valid}
use Rattle.theory.proofs.LeafLists.{ClearPast, AllWellSized, SpareClear, Shortest}
use Rattle.theory.specs.Terms.{IsBytes, All}
use Rattle.theory.proofs.Lists.{and_both, all_drop, all_split, all_parts, all_append}
use Rattle.theory.proofs.Bits.{Clear, clear_drop, clear_is_replicate, clear_replicate}
use Rattle.theory.proofs.LevelTrie.{NodeGroup, plain_node, exact_node}
use Rattle.theory.proofs.LinkedLevels.{Linked, levels_back}
use Rattle.theory.proofs.NodeBits.{BranchWidth, ExactWidth, SlotsWidth, ByteLabels}

-- a leaf whose node is on level d or below, its key from there on: at most 64 bytes in all, a suffix of n bits with none set past the 64th byte, an exact slot zero
pub record LeafValid (H n d : ℕ) (l : Leaf) : Type 0 where
  pub fits : length l.cut + d ≤ 64
  pub bytes : IsBytes l.cut
  pub spare : ClearPast (64 - (length l.cut + d)) (drop H l.suffix)
  pub slot : length l.suffix ≡ n
  pub blank : l.exact ≡ true → l.suffix ≡ replicate n false

-- A suffix that passes the test has no bit set past byte R.
pub clear_behind_spare : (R : ℕ) (s : Bits) → clear_behind R s ≡ true → ClearPast R s
unfolding clear_behind
clear_behind_spare zero s h = h
clear_behind_spare (suc R) s h = clear_behind_spare R (drop 8 s) h

-- A zero slot has no bit set past any byte.
clear_spare : (R : ℕ) (s : Bits) → Clear s → ClearPast R s
clear_spare zero s h = h
clear_spare (suc R) s h = clear_spare R (drop 8 s) (clear_drop 8 s h)

-- A suffix with no bit set past byte R passes the test.
pub spare_clear_behind : (R : ℕ) (s : Bits) → ClearPast R s → clear_behind R s ≡ true
unfolding clear_behind
spare_clear_behind zero s h = h
spare_clear_behind (suc R) s h = spare_clear_behind R (drop 8 s) h

-- ---- from nodes to leaves

leaf_valid_prefix : (H n d x : ℕ) (l : Leaf) → x < 256 → LeafValid H n (suc d) l → LeafValid H n d (prefix x l)
leaf_valid_prefix H n d x l h p =
    let e : length l.cut + suc d ≡ suc (length l.cut) + d = omega arith in
    record { fits = omega (arith, p.fits); bytes = (h, p.bytes); spare = rw e at p.spare; slot = p.slot; blank = p.blank }

leaf_valid_map : (H n d x : ℕ) (g rest : Group) → x < 256 → All (LeafValid H n (suc d)) g → All (LeafValid H n d) rest → All (LeafValid H n d) (map (prefix x) g ++ rest)
leaf_valid_map H n d x [] rest h p r = r
leaf_valid_map H n d x (l ∷ g) rest h p r = (leaf_valid_prefix H n d x l h p.0, leaf_valid_map H n d x g rest h p.1 r)

leaf_valid_branches : (H n d : ℕ) (es : List Branch) (gs : List Group) → d < 64 → All (BranchWidth n) es → IsBytes (map label_of es) → all (λ e. clear_behind (63 - d) (drop H (slot e))) es ≡ true
    → All (All (LeafValid H n (suc d))) gs → All (LeafValid H n d) (branch_leaves es gs)
unfolding branch_leaves all
leaf_valid_branches H n d [] gs h w s c p = tt
leaf_valid_branches H n d (to_leaf x t ∷ es) gs h w s c p =
    let q = and_both (clear_behind (63 - d) (drop H t)) (all (λ e. clear_behind (63 - d) (drop H (slot e))) es) c in
    let e : 63 - d ≡ 64 - (1 + d) = omega arith in (
      record { fits = omega arith; bytes = (s.0, tt); spare = rw e at (clear_behind_spare (63 - d) (drop H t) q.0); slot = w.0; blank = λ b. absurd (true≢false (sym b)) },
      leaf_valid_branches H n d es gs h w.1 s.1 q.1 p,
    )
leaf_valid_branches H n d (to_node x ∷ es) [] h w s c p = tt
leaf_valid_branches H n d (to_node x ∷ es) (g ∷ gs) h w s c p =
    let q = and_both (clear_behind (63 - d) (drop H [])) (all (λ e. clear_behind (63 - d) (drop H (slot e))) es) c in
    leaf_valid_map H n d x g (branch_leaves es gs) s.0 p.0 (leaf_valid_branches H n d es gs h w.1 s.1 q.1 p.1)

leaf_valid_exact : (H n d : ℕ) (o : Option Bits) (es : List Branch) (g : Group) → d < 64 → ExactWidth n o → Clear (exact_slot (node o es)) → All (LeafValid H n d) g → All (LeafValid H n d) (exact_leaf o ++ g)
unfolding exact_leaf
leaf_valid_exact H n d none es g h w z p = p
leaf_valid_exact H n d (some s) es g h w z p =
    (record { fits = omega arith; bytes = tt; spare = clear_spare (64 - (0 + d)) (drop H s) (clear_drop H s z); slot = w; blank = λ _. clear_is_replicate s z ∙ ap (λ (k : ℕ). replicate k false) w }, p)

-- The leaves of a level's nodes with right slots are right, where those of the level below are.
leaf_valid_level : (H n d : ℕ) (ns : List Node) (gs : List Group) → d < 64 → All (SlotsWidth n) ns → All ByteLabels ns → all (slot_valid H d) ns ≡ true
    → All (All (LeafValid H n (suc d))) gs → All (All (LeafValid H n d)) (level_groups ns gs)
unfolding level_groups all slot_valid clear_behind
leaf_valid_level H n d [] gs h w s c p = tt
leaf_valid_level H n d (node o es ∷ ns) gs h w s c p =
    let q = and_both (slot_valid H d (node o es)) (all (slot_valid H d) ns) c in
    let r = and_both (clear_behind 0 (exact_slot (node o es))) (all (λ e. clear_behind (63 - d) (drop H (slot e))) es) q.0 in (
      leaf_valid_exact H n d o es (branch_leaves es gs) h w.0.0 r.0 (leaf_valid_branches H n d es gs h w.0.1 s.0 r.1 p),
      leaf_valid_level H n d ns (drop (children es) gs) h w.1 s.1 q.1 (all_drop (All (LeafValid H n (suc d))) (children es) gs p),
    )

-- The leaves of levels with right slots, from level d on, are right.
pub leaf_valid_levels : (H n d : ℕ) (ls : List (List Node)) → length ls + d ≤ 64 → All (SlotsWidth n) (concat ls) → All ByteLabels (concat ls) → slots_valid H d ls ≡ true
    → All (All (LeafValid H n d)) (groups ls)
unfolding groups concat slots_valid
leaf_valid_levels H n d [] h w s c = tt
leaf_valid_levels H n d (ns ∷ ls) h w s c =
    let q = and_both (all (slot_valid H d) ns) (slots_valid H (suc d) ls) c in
    let v = all_split (SlotsWidth n) ns (concat ls) w in
    let u = all_split ByteLabels ns (concat ls) s in
    leaf_valid_level H n d ns (groups ls) (omega arith) v.0 u.0 q.0 (leaf_valid_levels H n (suc d) ls (omega arith) v.1 u.1 q.1)

-- ---- from leaves to nodes

clear_behind_nil : (R : ℕ) → clear_behind R [] ≡ true
unfolding clear_behind clear
clear_behind_nil zero = refl
clear_behind_nil (suc R) = clear_behind_nil R

-- a node on level d has slots of n bits that pass their test, and labels that are bytes
record NodeValid (H n d : ℕ) (m : Node) : Type 0 where
  wide : SlotsWidth n m
  bytes : ByteLabels m
  valid : slot_valid H d m ≡ true

leaf_valid_behind : (H n d x : ℕ) (l : Leaf) → LeafValid H n d (prefix x l) → LeafValid H n (suc d) l
leaf_valid_behind H n d x l p =
    let e : suc (length l.cut) + d ≡ length l.cut + suc d = omega arith in
    record { fits = omega (arith, p.fits); bytes = p.bytes.1; spare = rw e at p.spare; slot = p.slot; blank = p.blank }

leaf_valid_unmap : (H n d x : ℕ) (g rest : Group) → All (LeafValid H n d) (map (prefix x) g ++ rest) → All (LeafValid H n (suc d)) g × All (LeafValid H n d) rest
leaf_valid_unmap H n d x [] rest p = (tt, p)
leaf_valid_unmap H n d x (l ∷ g) rest p = let q = leaf_valid_unmap H n d x g rest p.1 in ((leaf_valid_behind H n d x l p.0, q.0), q.1)

first_byte : (H n d x : ℕ) {g : Group} (rest : Group) → NodeGroup g → All (LeafValid H n d) (map (prefix x) g ++ rest) → x < 256
first_byte H n d x rest (plain_node r) p = p.0.bytes.0
first_byte H n d x rest (exact_node r) p = p.0.bytes.0

-- what branches have, and the leaves of the groups below them, where the leaves behind them are right
record BranchesValid (H n d : ℕ) (es : List Branch) (gs : List Group) : Type 0 where
  wide : All (BranchWidth n) es
  bytes : IsBytes (map label_of es)
  clears : all (λ e. clear_behind (63 - d) (drop H (slot e))) es ≡ true
  lower : All (All (LeafValid H n (suc d))) (take (children es) gs)

branches_valid : (H n d : ℕ) (es : List Branch) (gs : List Group) → children es ≤ length gs → All NodeGroup gs → All (LeafValid H n d) (branch_leaves es gs) → BranchesValid H n d es gs
unfolding branch_leaves all children
branches_valid H n d [] gs k h p = record { wide = tt; bytes = tt; clears = refl; lower = tt }
branches_valid H n d (to_leaf x s ∷ es) gs k h p =
    let r = branches_valid H n d es gs k h p.1 in
    let e : 64 - (1 + d) ≡ 63 - d = omega arith in
    record {
      wide = (p.0.slot, r.wide);
      bytes = (p.0.bytes.0, r.bytes);
      clears = rw (spare_clear_behind (63 - d) (drop H s) (rw e at p.0.spare)) r.clears;
      lower = r.lower;
    }
branches_valid H n d (to_node x ∷ es) [] k h p = absurd (omega arith)
branches_valid H n d (to_node x ∷ es) (g ∷ gs) k h p =
    let q = leaf_valid_unmap H n d x g (branch_leaves es gs) p in
    let r = branches_valid H n d es gs (omega arith) h.1 q.1 in
    record {
      wide = (tt, r.wide);
      bytes = (first_byte H n d x (branch_leaves es gs) h.0 p, r.bytes);
      clears = rw (drop-nil {A = Bool} H, clear_behind_nil (63 - d)) r.clears;
      lower = (q.0, r.lower);
    }

-- what an exact slot has, and the leaves behind it, where all are right
record ExactValid (H n d : ℕ) (o : Option Bits) (es : List Branch) (g : Group) : Type 0 where
  wide : ExactWidth n o
  zeros : Clear (exact_slot (node o es))
  rest : All (LeafValid H n d) g

exact_valid : (H n d : ℕ) (o : Option Bits) (es : List Branch) (g : Group) → All (LeafValid H n d) (exact_leaf o ++ g) → ExactValid H n d o es g
unfolding exact_leaf
exact_valid H n d none es g p = record { wide = tt; zeros = clear_replicate 0; rest = p }
exact_valid H n d (some s) es g p = record { wide = p.0.slot; zeros = rw (p.0.blank refl) (clear_replicate n); rest = p.1 }

node_valid : (H n d : ℕ) (o : Option Bits) (es : List Branch) (gs : List Group) (g : Group) → ExactValid H n d o es g → BranchesValid H n d es gs → NodeValid H n d (node o es)
unfolding slot_valid clear_behind
node_valid H n d o es gs g a b = record { wide = (a.wide, b.wide); bytes = b.bytes; valid = rw a.zeros b.clears }

-- A level's nodes are right, and so are the leaves of the level below, where the level's leaves are.
level_valid : (H n d : ℕ) (ns : List Node) (gs : List Group) → total children_of ns ≡ length gs → All NodeGroup gs → All (All (LeafValid H n d)) (level_groups ns gs)
    → All (NodeValid H n d) ns × All (All (LeafValid H n (suc d))) gs
unfolding level_groups total
level_valid H n d [] [] k h p = (tt, tt)
level_valid H n d [] (g ∷ gs) k h p = absurd (omega arith)
level_valid H n d (node o es ∷ ns) gs k h p =
    let m = length-drop (children es) gs in
    let a = exact_valid H n d o es (branch_leaves es gs) p.0 in
    let b = branches_valid H n d es gs (omega arith) h a.rest in
    let r = level_valid H n d ns (drop (children es) gs) (omega arith) (all_drop NodeGroup (children es) gs h) p.1 in
    ((node_valid H n d o es gs (branch_leaves es gs) a b, r.0), all_parts (All (LeafValid H n (suc d))) (children es) gs b.lower r.1)

-- levels from level d on have slots of n bits that pass their test, and labels that are bytes
pub record LevelsValid (H n d : ℕ) (ls : List (List Node)) : Type 0 where
  pub wide : All (SlotsWidth n) (concat ls)
  pub bytes : All ByteLabels (concat ls)
  pub valid : slots_valid H d ls ≡ true

node_valid_all : (H n d : ℕ) (ns : List Node) → All (NodeValid H n d) ns → All (SlotsWidth n) ns × All ByteLabels ns × (all (slot_valid H d) ns ≡ true)
unfolding all
node_valid_all H n d [] p = (tt, tt, refl)
node_valid_all H n d (m ∷ ns) p = let r = node_valid_all H n d ns p.1 in ((p.0.wide, r.0), (p.0.bytes, r.1), rw p.0.valid r.2)

-- Linked levels whose leaves are right are right.
pub levels_valid : (H n d : ℕ) (ls : List (List Node)) → Linked ls → All (All (LeafValid H n d)) (groups ls) → LevelsValid H n d ls
unfolding groups concat slots_valid
levels_valid H n d [] k p = record { wide = tt; bytes = tt; valid = refl }
levels_valid H n d (ns ∷ ls) k p =
    let w = levels_back ls k.3 in
    let q = level_valid H n d ns (groups ls) (k.1 ∙ sym w.wide) w.node_groups p in
    let s = node_valid_all H n d ns q.0 in
    let r = levels_valid H n (suc d) ls k.3 q.1 in
    record { wide = all_append (SlotsWidth n) ns (concat ls) s.0 r.wide; bytes = all_append ByteLabels ns (concat ls) s.1 r.bytes; valid = rw s.2 r.valid }

-- The leaves of a realizable list, as an accepted image has them, are right from the root on.
pub realizable_leaf_valid : (H n : ℕ) (ms ls : List Leaf) → AllWellSized n ls → All (SpareClear H) ls → All (Shortest n ms) ls → All (LeafValid H n 0) ls
realizable_leaf_valid H n ms [] o c t = tt
realizable_leaf_valid H n ms (l ∷ ls) o c t =
    let e : length l.cut ≡ length l.cut + 0 = omega arith in
    (record { fits = omega (arith, o.0.key.fits); bytes = o.0.key.bytes; spare = rw e at c.0; slot = o.0.slot; blank = t.0.blank }, realizable_leaf_valid H n ms ls o.1 c.1 t.1)
