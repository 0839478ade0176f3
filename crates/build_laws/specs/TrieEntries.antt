-- The entries of the trie's levels, node by node, are those that the leaves add level by level. Used by the laws of the bodies.
use Rattle.std.specs.Prelude.{ℕ, zero, suc, ◌+◌, ◌-◌, ◌<◌, ◌≤◌, ◌≡◌, refl, Bool, true, false, List, [], ◌∷◌, ◌++◌, map, length, get_or, take, drop, ltb}
use Rattle.std.proofs.Common.{sym, ap, ap₂, ◌∙◌, append-nil, arith, drop_of_length-le, length-drop, drop-cons, take_all, ltb-true, ltb-false}
use Rattle.std.proofs.lemmas.List.{map-append}
use Rattle.std.proofs.lemmas.Simd.{map-map}
use Rattle.std.proofs.Math.ListN.{get_or-eq_default}
use Rattle.std.proofs.Math.Seq.{take-nil}
use Rattle.spec.specs.Bytes.{Bits, concat, iota}
use Rattle.spec.specs.Leaves.{Leaf}
use Rattle.spec.specs.Nodes.{Group, Node, label_of, has_child, slot}
use Rattle.build_laws.specs.LevelEntries.{Tagged, tagged, level_entries, node_entries, entries_below, AllFollow, NodeLeaf, level_entries_below}
use Rattle.build_laws.specs.declared.Entry.{Entry}
use Rattle.theory.proofs.Lists.{concat_append}
use Rattle.theory.proofs.LevelTrie.{child_groups, trie_levels, node_of, trie}
use Rattle.theory.proofs.TrieTests.{trie_levels_short}

-- An entry of the trie with its slot: the suffix bits of a leaf, none for an entry that continues.
pub record Slotted : Type 0 where
  pub entry : Entry
  pub slot : Bits

-- a tagged branch as an entry
abbrev pub to_slotted : Tagged → Slotted
to_slotted (tagged b o e) = record { entry = record { start = b; exact = o; child = has_child e; label = label_of e }; slot = slot e }

-- the entries of nodes, node by node
unfoldable pub slotted_of : List Node → List Slotted
unfolding concat node_entries
slotted_of ns = concat (map (λ n. map to_slotted (node_entries n)) ns)

-- the entries of the levels from a, k of them, leaf by leaf
unfoldable pub slotted_between : ℕ → ℕ → List Leaf → List Slotted
unfolding concat iota level_entries
slotted_between a k ls = concat (map (λ d. map to_slotted (level_entries d 0 ls)) (iota a k))

-- ---- levels of lists

-- levels from a, k of them, one behind the other
levels_from : {A : Type 0} (k a : ℕ) (xss : List (List A)) → concat (take k (drop a xss)) ≡ concat (map (λ d. get_or xss d []) (iota a k))
unfolding concat iota
levels_from zero a xss = refl
levels_from {A} (suc k) a xss = go (levels_from k (suc a) xss) (ltb a (length xss)) refl
  where
    go : concat (take k (drop (suc a) xss)) ≡ concat (map (λ d. get_or xss d []) (iota (suc a) k)) → (b : Bool) → ltb a (length xss) ≡ b
        → concat (take (suc k) (drop a xss)) ≡ get_or xss a [] ++ concat (map (λ d. get_or xss d []) (iota (suc a) k))
    go ih true e = ap (λ (z : List (List A)). concat (take (suc k) z)) (drop-cons xss a [] (ltb-true a (length xss) e)) ∙ ap (λ (z : List A). get_or xss a [] ++ z) ih
    go ih false e =
        let q : length xss ≤ a = ltb-false a (length xss) e in
        let r : length xss ≤ suc a = omega arith in
        ap (λ (z : List (List A)). concat (take (suc k) z)) (drop_of_length-le xss q) ∙ sym (ap concat (take-nil {A = List A} k))
        ∙ sym (ap (λ (z : List (List A)). concat (take k z)) (drop_of_length-le xss r)) ∙ ih
        ∙ ap (λ (z : List A). z ++ concat (map (λ d. get_or xss d []) (iota (suc a) k))) (sym (get_or-eq_default xss [] q))

-- functions with the same values on levels below b
levels_same : {A : Type 0} (f g : ℕ → List A) (b : ℕ) → ((d : ℕ) → d < b → f d ≡ g d) → (k a : ℕ) → a + k ≤ b → concat (map f (iota a k)) ≡ concat (map g (iota a k))
unfolding concat iota
levels_same f g b q zero a h = refl
levels_same f g b q (suc k) a h = ap₂ ◌++◌ (q a (omega arith)) (levels_same f g b q k (suc a) (omega arith))

slotted_append : (a b : List Node) → slotted_of (a ++ b) ≡ slotted_of a ++ slotted_of b
unfolding slotted_of
slotted_append a b =
    ap concat (map-append (λ n. map to_slotted (node_entries n)) a b) ∙ concat_append (map (λ n. map to_slotted (node_entries n)) a) (map (λ n. map to_slotted (node_entries n)) b)

slotted_levels : (f : ℕ → List Node) (k a : ℕ) → slotted_of (concat (map f (iota a k))) ≡ concat (map (λ d. slotted_of (f d)) (iota a k))
unfolding concat iota slotted_of
slotted_levels f zero a = refl
slotted_levels f (suc k) a = slotted_append (f a) (concat (map f (iota (suc a) k))) ∙ ap (λ (z : List Slotted). slotted_of (f a) ++ z) (slotted_levels f k (suc a))

-- ---- the trie's levels

deeper : (d : ℕ) (gs : List Group) → concat (map (entries_below d) (concat (map child_groups gs))) ≡ concat (map (entries_below (suc d)) gs)
unfolding entries_below concat
deeper d [] = refl
deeper d (g ∷ gs) =
    ap concat (map-append (entries_below d) (child_groups g) (concat (map child_groups gs))) ∙ concat_append (map (entries_below d) (child_groups g)) (map (entries_below d) (concat (map child_groups gs)))
    ∙ ap (λ (z : List Tagged). concat (map (entries_below d) (child_groups g)) ++ z) (deeper d gs)

coded_slotted : (f d : ℕ) (gs : List Group) → d < f → concat (map node_entries (get_or (trie_levels f gs) d [])) ≡ concat (map (entries_below d) gs)
unfolding trie_levels concat entries_below
coded_slotted zero d gs h = absurd (omega arith)
coded_slotted (suc f) zero [] h = refl
coded_slotted (suc f) (suc d) [] h = refl
coded_slotted (suc f) zero (g ∷ gs) h = ap concat (map-map node_entries node_of (g ∷ gs))
coded_slotted (suc f) (suc d) (g ∷ gs) h = coded_slotted f d (concat (map child_groups (g ∷ gs))) (omega arith) ∙ deeper d (g ∷ gs)

trie_short : (ls : Group) → length (trie ls) ≤ 64
unfolding trie
trie_short [] = omega arith
trie_short (l ∷ ls) = trie_levels_short 64 ((l ∷ ls) ∷ [])

-- a first leaf whose cut key is not empty
abbrev pub Rooted : List Leaf → Type 0
Rooted [] = Unit
Rooted (l ∷ ls) = NodeLeaf l.exact l.cut

no_slotted : (d : ℕ) → level_entries d 0 [] ≡ []
unfolding level_entries
no_slotted d = refl

trie_level : (d : ℕ) (ls : Group) → d < 64 → AllFollow ls → Rooted ls → concat (map node_entries (get_or (trie ls) d [])) ≡ level_entries d 0 ls
unfolding trie concat
trie_level d [] h c r = sym (no_slotted d)
trie_level d (l ∷ ls) h c r = coded_slotted 64 d ((l ∷ ls) ∷ []) h ∙ append-nil (entries_below d (l ∷ ls)) ∙ sym (level_entries_below d l ls c r)

map_concat : {A B : Type 0} (f : A → B) (xs : List (List A)) → map f (concat xs) ≡ concat (map (map f) xs)
unfolding concat
map_concat f [] = refl
map_concat f (x ∷ xs) = map-append f x (concat xs) ∙ ap (λ z. map f x ++ z) (map_concat f xs)

level_of : (d : ℕ) (ls : Group) → d < 64 → AllFollow ls → Rooted ls → slotted_of (get_or (trie ls) d []) ≡ map to_slotted (level_entries d 0 ls)
unfolding slotted_of
level_of d ls h c r =
    ap concat (sym (map-map (map to_slotted) node_entries (get_or (trie ls) d []))) ∙ sym (map_concat to_slotted (map node_entries (get_or (trie ls) d []))) ∙ ap (map to_slotted) (trie_level d ls h c r)

-- the entries of the levels from a, k of them
trie_slotted : (a k : ℕ) (ls : Group) → a + k ≤ 64 → AllFollow ls → Rooted ls → slotted_of (concat (take k (drop a (trie ls)))) ≡ slotted_between a k ls
unfolding slotted_between
trie_slotted a k ls h c r =
    ap slotted_of (levels_from k a (trie ls)) ∙ slotted_levels (λ d. get_or (trie ls) d []) k a
    ∙ levels_same (λ d. slotted_of (get_or (trie ls) d [])) (λ d. map to_slotted (level_entries d 0 ls)) 64 (λ d l. level_of d ls l c r) k a h

-- the entries of the levels below a
pub slotted_first : (a : ℕ) (ls : Group) → a ≤ 64 → AllFollow ls → Rooted ls → slotted_of (concat (take a (trie ls))) ≡ slotted_between 0 a ls
slotted_first a ls h c r = trie_slotted 0 a ls (omega arith) c r

-- the entries of the levels from a on
pub slotted_rest : (a : ℕ) (ls : Group) → a ≤ 64 → AllFollow ls → Rooted ls → slotted_of (concat (drop a (trie ls))) ≡ slotted_between a (64 - a) ls
slotted_rest a ls h c r =
    ap (λ (z : List (List Node)). slotted_of (concat z)) (sym (take_all (64 - a) (drop a (trie ls)) (omega (arith, length-drop a (trie ls), trie_short ls))))
    ∙ trie_slotted a (64 - a) ls (omega arith) c r
