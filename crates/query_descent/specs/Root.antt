-- The law of a descent from the root: what an image's nodes say of its leaf list, question by question.
use Rattle.std.specs.Prelude.{ℕ, zero, suc, ◌+◌, ◌-◌, ◌<◌, ◌≤◌, ◌≡◌, refl, Bool, cond, ◌&&◌, ◌||◌, List, [], ◌∷◌, ◌++◌, map, length, take, drop}
use Rattle.std.proofs.Common.{sym, ap, ◌∙◌, true≢false, arith, length-append, take_all}
use Rattle.std.proofs.Math.Bool.{true, false, not}
use Rattle.spec.specs.Bytes.{Bytes, Bits, bit, count, concat, equal, begins, bits_of, padded, same_bits}
use Rattle.spec.specs.Keys.{below}
use Rattle.spec.specs.Leaves.{Leaf, real, reals, highest, lowest}
use Rattle.spec.specs.Nodes.{Node, children, total, children_of}
use Rattle.spec.specs.Trie.{open_leaves, leaf_count}
use Rattle.nav_nodes.specs.Counting.{labels_below, counts}
use Rattle.nav_nodes.specs.Slots.{leaves_before, slot_number}
use Rattle.nav_nodes.specs.Descent.{children_before, child_number, goes_on, ends_at, Stop, miss, at_exact, at_open, descend, leaves_below, between_same, value, level_counted, Stands, stands_next, children_first}
use Rattle.nav_nodes.specs.NumberBounds.{children_up, node_total}
use Rattle.query_descent.specs.Bounds.{and-false, slot_passed, slot_reached, real_highest, real_lowest}
use Rattle.query_descent.specs.Ordered.{passed, reached}
use Rattle.theory.proofs.LeafLists.{Realizable, AllWellSized}
use Rattle.theory.specs.Terms.{All}
use Rattle.theory.proofs.Order.{equal_order}
use Rattle.theory.proofs.LevelTrie.{trie}
use Rattle.theory.proofs.NodeBits.{SlotsWidth}
use Rattle.theory.proofs.Levels.{leaves_in}
use Rattle.theory.proofs.TrieTests.{realizable_trie, EmptyOrValid, empty_list, valid_trie}
use Rattle.theory.proofs.LinkedLevels.{first_width, levels_back, Linked}

-- ---- an image without nodes

-- has no leaf below a key
pub below_empty : (l : ℕ) (k : Bytes) → leaves_below [] l 0 0 k ≡ 0
unfolding leaves_below labels_below goes_on child_number slot_number leaves_before children_before total leaf_count open_leaves children
below_empty l [] = between_same [] l 0
below_empty l (y ∷ k) = omega (arith, between_same [] (l - 1) 1)

-- and no key leads to one
pub descend_empty : (k : Bytes) → descend [] 0 k ≡ miss
unfolding descend labels_below goes_on ends_at
descend_empty [] = refl
descend_empty (y ∷ k) = refl

none_counted : (ends : Bool) (q : Bits → Bytes → Bool) (w l : ℕ) (k : Bytes) → 0 ≡ leaves_below [] l 0 0 k + value ends q w [] (descend [] 0 k)
unfolding value
none_counted ends q w l k = rw (below_empty l k, descend_empty k)

-- ---- the leaves that count before a key

-- By the nodes of a good leaf list's trie.
trie_counted : (n w : ℕ) (ls : List Leaf) (ns : List Node) → Realizable n ls → AllWellSized n ls → ns ≡ concat (trie ls) → All (SlotsWidth w) ns → (ends : Bool) (q : Bits → Bytes → Bool) (k : Bytes)
    → count (counts ends q k) ls ≡ leaves_below ns 64 0 0 k + value ends q w ns (descend ns 0 k)
unfolding count trie concat total leaves_in
trie_counted n w ls ns g o e wide ends q k = go (realizable_trie n ls g o) e
  where
    go : {ls : List Leaf} → EmptyOrValid ls → ns ≡ concat (trie ls) → count (counts ends q k) ls ≡ leaves_below ns 64 0 0 k + value ends q w ns (descend ns 0 k)
    go empty_list e = rw e (none_counted ends q w 64 k)
    go (valid_trie {ls = ls} t) e =
        let z : first_width (trie ls) ≡ 1 = sym (levels_back (trie ls) t.linked).wide ∙ ap length t.root in
        let r = level_counted ends q w ns wide (trie ls) 64 [] 0 k t.shallow t.linked (e, root z) (omega arith) in
        sym (ap (λ (z : ℕ). z + count (counts ends q k) ls) zero_leaves ∙ omega arith) ∙ (rw t.root at r)
      where
        root : first_width (trie ls) ≡ 1 → length {A = Node} [] + first_width (trie ls) ≡ 1 + total children_of []
        root z = omega arith

        zero_leaves : leaves_in (take 0 (ls ∷ [])) ≡ 0
        zero_leaves = refl

-- ---- the levels end

-- the first node behind node m l levels below it
unfoldable pub first_below : List Node → ℕ → ℕ → ℕ
unfolding children_before
first_below ns zero m = m
first_below ns (suc l) m = first_below ns l (1 + children_before ns m)

-- one level lower
pub first_next : (ns : List Node) (l m : ℕ) → first_below ns (suc l) m ≡ first_below ns l (1 + children_before ns m)
unfolding first_below
first_next ns l m = refl

-- later nodes are followed by later ones
pub first_up : (ns : List Node) (l lo hi : ℕ) → lo ≤ hi → first_below ns l lo ≤ first_below ns l hi
unfolding first_below
first_up ns zero lo hi h = h
first_up ns (suc l) lo hi h = first_up ns l (1 + children_before ns lo) (1 + children_before ns hi) (omega (arith, children_up ns lo hi h))

-- behind the last node stands no other
first_past : (ns : List Node) (l m : ℕ) → length ns ≤ 1 + total children_of ns → length ns ≤ m → length ns ≤ first_below ns l m
unfolding first_below children_before
first_past ns zero m k h = h
first_past ns (suc l) m k h = let e : take m ns ≡ ns = take_all m ns h in rw e (first_past ns l (1 + total children_of ns) k k)

-- so many levels below the first node of a level, all nodes are passed
first_levels : (ls : List (List Node)) (l : ℕ) (all pre : List Node) → length ls ≤ l → Linked ls → Stands all pre ls → length all ≤ 1 + total children_of all → length all ≤ first_below all l (length pre)
unfolding first_below concat
first_levels [] l all pre f k s n = first_past all l (length pre) n (omega (arith, ap length s.0, length-append pre []))
first_levels (ns ∷ ls) zero all pre f k s n = absurd (omega arith)
first_levels (ns ∷ ls) (suc l) all pre f k s n =
    let e : 1 + children_before all (length pre) ≡ length (pre ++ ns) = omega (arith, length-append pre ns, s.1, children_first all pre ns ls s) in
    rw e (first_levels ls l all (pre ++ ns) (omega arith) k.3 (stands_next all pre ns ls k s) n)

-- A good leaf list's trie has no node 64 levels below the root.
pub levels_end : (n : ℕ) (ls : List Leaf) (ns : List Node) → Realizable n ls → AllWellSized n ls → ns ≡ concat (trie ls) → length ns ≤ first_below ns 64 0
unfolding trie concat total
levels_end n ls ns g o e = go (realizable_trie n ls g o) (node_total n ls ns g o e) e
  where
    go : {ls : List Leaf} → EmptyOrValid ls → (0 < length ns → length ns ≡ 1 + total children_of ns) → ns ≡ concat (trie ls) → length ns ≤ first_below ns 64 0
    go empty_list t e = omega (arith, ap length e)
    go (valid_trie {ls = ls} v) t e =
        let z : first_width (trie ls) ≡ 1 = sym (levels_back (trie ls) v.linked).wide ∙ ap length v.root in
        first_levels (trie ls) 64 ns [] v.shallow v.linked (e, omega arith) (few (length ns) t)
      where
        few : (c : ℕ) → (0 < c → c ≡ 1 + total children_of ns) → c ≤ 1 + total children_of ns
        few zero h = omega arith
        few (suc c) h = omega (arith, h (omega arith))

pub count_same : {A : Type 0} (p r : A → Bool) (xs : List A) → ((x : A) → p x ≡ r x) → count p xs ≡ count r xs
unfolding count
count_same p r [] h = refl
count_same p r (x ∷ xs) h = rw (h x, count_same p r xs h)

-- a count over members that are changed first
pub count_map : {A : Type 0} (p : A → Bool) (g : A → A) (r : A → Bool) (xs : List A) → ((x : A) → p (g x) ≡ r x) → count p (map g xs) ≡ count r xs
unfolding count
count_map p g r [] h = refl
count_map p g r (x ∷ xs) h = rw (h x, count_map p g r xs h)

-- The bits of the rest of a key begin with the suffix, zeros where they have ended.
unfoldable pub has_suffix : Bits → Bytes → Bool
unfolding same_bits padded bits_of
has_suffix s r = same_bits (padded (length s) (bits_of r)) s

-- The key leads to the leaf: it is the cut key of an exact leaf, which counts if `ends` says so; or an open leaf's cut key begins it, and the suffix passes the test q against the rest of the key.
unfoldable pub leads_to_leaf : Bool → (Bits → Bytes → Bool) → Bytes → Leaf → Bool
unfolding equal begins
leads_to_leaf ends q k l = cond l.exact (ends && equal l.cut k) (begins l.cut k && q l.suffix (drop (length l.cut) k))

-- The leaves that count before the key by `ends` and q are those that lie before it whatever these say, and those to which it leads.
leaf_counts : (ends : Bool) (q : Bits → Bytes → Bool) (l : Leaf) (k : Bytes) → bit (counts ends q k l) ≡ bit (counts false (λ s r. false) k l) + bit (leads_to_leaf ends q k l)
unfolding counts leads_to_leaf
leaf_counts ends q l k = go l.exact
  where
    exact_leaf : (a b e : Bool) → below l.cut k ≡ a → equal l.cut k ≡ b → bit (a || (e && b)) ≡ bit (a || false) + bit (e && b)
    exact_leaf true true e p q = absurd (true≢false (sym q ∙ (equal_order l.cut k ∙ ap (λ (x : Bool). not (below k l.cut) && not x) p ∙ and-false (not (below k l.cut)))))
    exact_leaf true false e p q = rw (and-false e)
    exact_leaf false b e p q = omega arith

    open_leaf : (a b c : Bool) → bit ((a && not b) || (b && c)) ≡ bit ((a && not b) || (b && false)) + bit (b && c)
    open_leaf a true c = rw (and-false a) (omega arith)
    open_leaf true false c = refl
    open_leaf false false c = refl

    go : (e : Bool) → bit (cond e (below l.cut k || (ends && equal l.cut k)) ((below l.cut k && not (begins l.cut k)) || (begins l.cut k && q l.suffix (drop (length l.cut) k))))
        ≡ bit (cond e (below l.cut k || (false && equal l.cut k)) ((below l.cut k && not (begins l.cut k)) || (begins l.cut k && false)))
        + bit (cond e (ends && equal l.cut k) (begins l.cut k && q l.suffix (drop (length l.cut) k)))
    go true = exact_leaf (below l.cut k) (equal l.cut k) ends refl refl
    go false = open_leaf (below l.cut k) (begins l.cut k) (q l.suffix (drop (length l.cut) k))

-- a count by two tests that no member passes both
count_sum : {A : Type 0} (p q r : A → Bool) (xs : List A) → ((x : A) → bit (p x) ≡ bit (q x) + bit (r x)) → count p xs ≡ count q xs + count r xs
unfolding count
count_sum p q r [] h = refl
count_sum p q r (x ∷ xs) h = go (p x) (q x) (r x) (h x) (count_sum p q r xs h)
  where
    go : (a b c : Bool) → bit a ≡ bit b + bit c → count p xs ≡ count q xs + count r xs
        → cond a (suc (count p xs)) (count p xs) ≡ cond b (suc (count q xs)) (count q xs) + cond c (suc (count r xs)) (count r xs)
    go true true true e ih = absurd (omega (arith, e))
    go true true false e ih = omega arith
    go true false true e ih = omega arith
    go true false false e ih = absurd (omega (arith, e))
    go false true true e ih = absurd (omega (arith, e))
    go false true false e ih = absurd (omega (arith, e))
    go false false true e ih = absurd (omega (arith, e))
    go false false false e ih = omega arith

module _ (n w : ℕ) (ls : List Leaf) (ns : List Node) (g : Realizable n ls) (o : AllWellSized n ls) (e : ns ≡ concat (trie ls)) (wide : All (SlotsWidth w) ns) where
  -- The leaves whose highest key, with their h hash bits struck out, lies below the key.
  pub passed_is : (h : ℕ) (k : Bytes) → passed (reals h ls) k ≡ leaves_below ns 64 0 0 k + value false (slot_passed h (length k)) w ns (descend ns 0 k)
  unfolding passed reals
  passed_is h k = count_map (λ l. below (highest l) k) (real h) (counts false (slot_passed h (length k)) k) ls (λ l. real_highest h l k) ∙ trie_counted n w ls ns g o e wide false (slot_passed h (length k)) k

  -- The leaves whose lowest key does not lie above the key.
  pub reached_is : (h : ℕ) (k : Bytes) → reached (reals h ls) k ≡ leaves_below ns 64 0 0 k + value true (slot_reached h (length k)) w ns (descend ns 0 k)
  unfolding reached reals
  reached_is h k = count_map (λ l. not (below k (lowest l))) (real h) (counts true (slot_reached h (length k)) k) ls (λ l. real_lowest h l k) ∙ trie_counted n w ls ns g o e wide true (slot_reached h (length k)) k

  -- The leaves to which a key leads, by where it leads from the root: one or none.
  pub led_is : (ends : Bool) (q : Bits → Bytes → Bool) (k : Bytes) → count (leads_to_leaf ends q k) ls ≡ value ends q w ns (descend ns 0 k)
  unfolding value
  led_is ends q k =
      go (descend ns 0 k)
      (sym (count_sum (counts ends q k) (counts false (λ s r. false) k) (leads_to_leaf ends q k) ls (λ l. leaf_counts ends q l k)) ∙ trie_counted n w ls ns g o e wide ends q k)
      (trie_counted n w ls ns g o e wide false (λ s r. false) k)
    where
      go : (s : Stop) → count (counts false (λ s r. false) k) ls + count (leads_to_leaf ends q k) ls ≡ leaves_below ns 64 0 0 k + value ends q w ns s
          → count (counts false (λ s r. false) k) ls ≡ leaves_below ns 64 0 0 k + value false (λ s r. false) w ns s → count (leads_to_leaf ends q k) ls ≡ value ends q w ns s
      go miss u v = omega (arith, u, v)
      go at_exact u v = omega (arith, u, v)
      go (at_open t j) u v = omega (arith, u, v)
