-- LV over an accepted image: the first node of each level by its number, and chains of levels on which every node has one branch alone, which continues.
use Prim.Native.Nat.{ℕ, zero, suc, ◌+◌, ◌-◌, ◌*◌, ◌<◌, ◌≤◌}
use Rattle.std.specs.Prelude.{◌≡◌, Bool, take, drop}
use Rattle.std.proofs.Math.Path.{refl, ap}
use Rattle.std.proofs.Common.{sym, ap₂, ◌∙◌, length-append, length-drop, take-append-drop, drop-drop, length-take-le, take-take}
use Rattle.std.proofs.Math.Bool.{true, false, cond}
use mathlib.Core.List.{List, [], ◌∷◌, ◌++◌, map}
use native.Mathlib.Omega.{arith}
use Rattle.std.proofs.Math.ListN.{length, get_or, get_or-eq_default}
use Rattle.std.proofs.Math.Dec.{ltb}
use borrow.Author.Tests.{ltb-true, ltb-false}
use Rattle.spec.specs.Bytes.{Bytes, concat, le32, from32}
use Rattle.spec.specs.Nodes.{Branch, to_node, to_leaf, Node, node, children, total, children_of, read_leaves}
use Rattle.spec.specs.Trie.{open_leaves, leaf_count}
use Rattle.image.specs.declared.Frame.{Frame}
use Rattle.nav_nodes.specs.Accepted.{Accepted, dense_nodes, sparse_nodes, nodes}
use Rattle.nav_nodes.specs.Slots.{leaves_before}
use Rattle.nav_nodes.specs.Descent.{children_before}
use Rattle.nav_nodes.specs.FoundBranch.{node_count}
use Rattle.nav_nodes.specs.NumberBounds.{leaves_up, leaves_all, children_all}
use Rattle.query_descent.specs.Followed.{node_length}
use Rattle.query_descent.specs.LevelSums.{slots_below, slots_ended}
use Rattle.query_descent.specs.Summed.{rest_full, rest_node}
use Rattle.theory.specs.Terms.{All}
use Rattle.theory.proofs.Lists.{all_append}
use Rattle.theory.proofs.Frame.{from32_le32}
use Rattle.theory.proofs.LinkedLevels.{Labelled}
use Rattle.theory.proofs.Levels.{total_append, leaf_count_append}
use Rattle.theory.proofs.TrieTests.{realizable_trie}
use Rattle.theory.proofs.LevelStarts.{starts_from, starts_below, children_to, trie_starts_end}

-- ---- numbers one behind the other

le32_length : (n : ℕ) → length (le32 n) ≡ 4
unfolding le32
le32_length n = refl

numbers_length : (xs : List ℕ) → length (concat (map le32 xs)) ≡ 4 * length xs
unfolding concat
numbers_length [] = refl
numbers_length (x ∷ xs) = omega (arith, length-append (le32 x) (concat (map le32 xs)), le32_length x, numbers_length xs)

drop_le32 : (x : ℕ) (r : Bytes) → drop 4 (le32 x ++ r) ≡ r
unfolding le32
drop_le32 x r = refl

number_at : (xs : List ℕ) (n t d : ℕ) → n ≤ 4294967296 → All (λ x. x < n) xs → t < length xs → from32 (drop (4 * t) (concat (map le32 xs))) ≡ get_or xs t d
unfolding concat
number_at [] n t d h a l = absurd (omega arith)
number_at (x ∷ xs) n zero d h a l = from32_le32 x (concat (map le32 xs)) (omega (arith, a.0))
number_at (x ∷ xs) n (suc t) d h a l =
    let e : 4 * suc t ≡ 4 + 4 * t = omega arith in
    rw e (ap from32 (sym (drop-drop (4 * t) 4 (le32 x ++ concat (map le32 xs))) ∙ ap (drop (4 * t)) (drop_le32 x (concat (map le32 xs)))) ∙ number_at xs n t d h a.1 (omega arith))

-- ---- first nodes, one from another

module _ (K : ℕ → ℕ) (n : ℕ) where
  starts_count : (k e : ℕ) → length (starts_from K n k e) ≤ k
  unfolding starts_from
  starts_count zero e = omega arith
  starts_count (suc k) e = go (ltb e n) (starts_count k (K e + 1))
    where
      go : (t : Bool) → length (starts_from K n k (K e + 1)) ≤ k → length (cond t (e ∷ starts_from K n k (K e + 1)) []) ≤ suc k
      go true h = omega arith
      go false h = omega arith

  -- the first of them
  starts_head : (k e : ℕ) → 0 < length (starts_from K n k e) → get_or (starts_from K n k e) 0 n ≡ e
  unfolding starts_from
  starts_head zero e h = absurd (omega arith)
  starts_head (suc k) e h = go (ltb e n) h
    where
      go : (t : Bool) → 0 < length (cond t (e ∷ starts_from K n k (K e + 1)) []) → get_or (cond t (e ∷ starts_from K n k (K e + 1)) []) 0 n ≡ e
      go true h = refl
      go false h = absurd (omega arith)

  -- each is one behind the branches before the last
  starts_next : (k e t : ℕ) → suc t < length (starts_from K n k e) → get_or (starts_from K n k e) (suc t) n ≡ K (get_or (starts_from K n k e) t n) + 1
  unfolding starts_from
  starts_next zero e t h = absurd (omega arith)
  starts_next (suc k) e t h = go (ltb e n) t h (starts_head k (K e + 1)) (λ u l. starts_next k (K e + 1) u l)
    where
      go : (b : Bool) (t : ℕ) → suc t < length (cond b (e ∷ starts_from K n k (K e + 1)) []) → (0 < length (starts_from K n k (K e + 1)) → get_or (starts_from K n k (K e + 1)) 0 n ≡ K e + 1)
          → ((u : ℕ) → suc u < length (starts_from K n k (K e + 1)) → get_or (starts_from K n k (K e + 1)) (suc u) n ≡ K (get_or (starts_from K n k (K e + 1)) u n) + 1)
          → get_or (cond b (e ∷ starts_from K n k (K e + 1)) []) (suc t) n ≡ K (get_or (cond b (e ∷ starts_from K n k (K e + 1)) []) t n) + 1
      go true zero h first ih = first (omega arith)
      go true (suc t) h first ih = ih t (omega arith)
      go false t h first ih = absurd (omega arith)

  -- behind the last there are no nodes, where one more would change nothing
  starts_last : (k e t : ℕ) → starts_from K n (suc k) e ≡ starts_from K n k e → suc t ≡ length (starts_from K n k e) → n ≤ K (get_or (starts_from K n k e) t n) + 1
  unfolding starts_from
  starts_last zero e t q h = absurd (omega arith)
  starts_last (suc k) e t q h = go (ltb e n) t q h (starts_none k (K e + 1)) (λ u r l. starts_last k (K e + 1) u r l)
    where
      starts_none : (k e : ℕ) → starts_from K n (suc k) e ≡ [] → n ≤ e
      starts_none k e q = by (ltb e n) refl q
        where
          by : (b : Bool) → ltb e n ≡ b → cond b (e ∷ starts_from K n k (K e + 1)) [] ≡ [] → n ≤ e
          by true f q = absurd (omega (arith, ap length q))
          by false f q = ltb-false e n f

      tail : {x y : ℕ} {xs ys : List ℕ} → x ∷ xs ≡ y ∷ ys → xs ≡ ys
      tail q = ap (drop 1) q

      go : (b : Bool) (t : ℕ) → cond b (e ∷ starts_from K n (suc k) (K e + 1)) [] ≡ cond b (e ∷ starts_from K n k (K e + 1)) [] → suc t ≡ length (cond b (e ∷ starts_from K n k (K e + 1)) [])
          → (starts_from K n (suc k) (K e + 1) ≡ [] → n ≤ K e + 1)
          → ((u : ℕ) → starts_from K n (suc k) (K e + 1) ≡ starts_from K n k (K e + 1) → suc u ≡ length (starts_from K n k (K e + 1)) → n ≤ K (get_or (starts_from K n k (K e + 1)) u n) + 1)
          → n ≤ K (get_or (cond b (e ∷ starts_from K n k (K e + 1)) []) t n) + 1
      go true zero q h last ih = last (tail q ∙ nothing (starts_from K n k (K e + 1)) (omega arith))
        where
          nothing : (xs : List ℕ) → length xs ≡ 0 → xs ≡ []
          nothing [] l = refl
          nothing (x ∷ xs) l = absurd (omega arith)
      go true (suc t) q h last ih = ih t (tail q) (omega arith)
      go false t q h last ih = absurd (omega arith)

all_at : (P : ℕ → Type 0) (xs : List ℕ) (t d : ℕ) → All P xs → t < length xs → P (get_or xs t d)
all_at P [] t d a l = absurd (omega arith)
all_at P (x ∷ xs) zero d a l = a.0
all_at P (x ∷ xs) (suc t) d a l = all_at P xs t d a.1 (omega arith)

-- ---- the levels of an image

-- the first nodes of the levels that have nodes
abbrev level_list : Bytes → Frame → List ℕ
level_list s f = starts_from (children_to (nodes s f)) (length (nodes s f)) 64 0

-- how many levels there are
abbrev pub level_count : Bytes → Frame → ℕ
level_count s f = length (level_list s f)

-- the first node of level t, or the node count where there is no such level
abbrev pub level_at : Bytes → Frame → ℕ → ℕ
level_at s f t = get_or (level_list s f) t (length (nodes s f))

module _ (s : Bytes) (f : Frame) (a : Accepted s f) where
  -- at most 64
  pub levels_few : level_count s f ≤ 64
  levels_few = starts_count (children_to (nodes s f)) (length (nodes s f)) 64 0

  -- nodes have numbers of 32 bits
  pub nodes_few : length (nodes s f) ≤ 4294967296
  nodes_few = omega (arith, length-append (dense_nodes s f) (sparse_nodes s f), a.writable.few_dense, a.writable.few_sparse)

  -- LV has four bytes for each level
  pub table_length : f.version ≡ 2 → length s ≡ f.lv + 4 * level_count s f
  table_length v = let t = a.LV v in omega (arith, t.0, length-drop f.lv s, ap length t.1, numbers_length (level_list s f))

  -- its first node
  pub table_entry : f.version ≡ 2 → (t : ℕ) → t < level_count s f → from32 (drop (f.lv + 4 * t) s) ≡ level_at s f t
  table_entry v t h =
      ap from32 (sym (drop-drop (4 * t) f.lv s) ∙ ap (drop (4 * t)) (a.LV v).1)
      ∙ number_at (level_list s f) (length (nodes s f)) t (length (nodes s f)) nodes_few (starts_below (children_to (nodes s f)) (length (nodes s f)) 64 0) h

  -- behind the last level
  pub level_behind : (t : ℕ) → level_count s f ≤ t → level_at s f t ≡ node_count f
  level_behind t h = get_or-eq_default (level_list s f) (length (nodes s f)) h ∙ node_length s f a

  -- a level starts at a node
  pub level_inside : (t : ℕ) → t < level_count s f → level_at s f t < node_count f
  level_inside t h = omega (arith, node_length s f a, all_at (λ x. x < length (nodes s f)) (level_list s f) t (length (nodes s f)) (starts_below (children_to (nodes s f)) (length (nodes s f)) 64 0) h)

  -- or behind the last
  pub level_within : (t : ℕ) → level_at s f t ≤ node_count f
  level_within t = go (ltb t (level_count s f)) refl
    where
      go : (b : Bool) → ltb t (level_count s f) ≡ b → level_at s f t ≤ node_count f
      go true e = omega (arith, level_inside t (ltb-true t (level_count s f) e))
      go false e = omega (arith, level_behind t (ltb-false t (level_count s f) e))

  -- the root
  pub level_first : level_at s f 0 ≡ 0
  unfolding starts_from
  level_first = go (ltb 0 (length (nodes s f))) refl
    where
      go : (t : Bool) → ltb 0 (length (nodes s f)) ≡ t → get_or (cond t (0 ∷ starts_from (children_to (nodes s f)) (length (nodes s f)) 63 (children_to (nodes s f) 0 + 1)) []) 0 (length (nodes s f)) ≡ 0
      go true e = refl
      go false e = omega (arith, ltb-false 0 (length (nodes s f)) e)

  -- each level starts one behind the branches that continue before the first node of the last; behind the last level that is the node count
  pub level_next : (t : ℕ) → t < level_count s f → level_at s f (suc t) ≡ children_before (nodes s f) (level_at s f t) + 1
  unfolding children_before
  level_next t h = go (ltb (suc t) (level_count s f)) refl
    where
      ends : starts_from (children_to (nodes s f)) (length (nodes s f)) 65 0 ≡ level_list s f
      ends = rw a.trie_is (trie_starts_end (realizable_trie f.width (read_leaves s) a.realizable a.well_sized))

      go : (b : Bool) → ltb (suc t) (level_count s f) ≡ b → level_at s f (suc t) ≡ children_to (nodes s f) (level_at s f t) + 1
      go true e = starts_next (children_to (nodes s f)) (length (nodes s f)) 64 0 t (ltb-true (suc t) (level_count s f) e)
      go false e =
          let l = ltb-false (suc t) (level_count s f) e in
          let z : suc t ≡ level_count s f = omega arith in
          let u = starts_last (children_to (nodes s f)) (length (nodes s f)) 64 0 t ends z in
          omega (arith, level_behind (suc t) l, node_length s f a, u, rest_node s f a (level_at s f t) (omega (arith, level_inside t h)))

  -- the slot numbers of the first nodes, level by level from the last on: behind it all leaves stand before each
  pub sums_end : slots_below (nodes s f) (64 - level_count s f) (level_at s f (level_count s f)) [] ≡ (64 - level_count s f) * f.leaves
  sums_end = rest_full s f a (level_at s f (level_count s f)) (64 - level_count s f) [] (level_behind (level_count s f) (omega arith)) (omega arith)

  -- and one level above
  pub sums_up : (t : ℕ) → t < level_count s f → slots_below (nodes s f) (64 - t) (level_at s f t) [] ≡ leaves_before (nodes s f) (level_at s f t) + slots_below (nodes s f) (64 - suc t) (level_at s f (suc t)) []
  sums_up t h =
      let l = levels_few in
      let e : 64 - t - 1 ≡ 64 - suc t = omega arith in
      let n : 1 + children_before (nodes s f) (level_at s f t) ≡ level_at s f (suc t) = omega (arith, level_next t h) in
      slots_ended (nodes s f) (64 - t) (level_at s f t) (omega arith) ∙ ap₂ (λ (k m : ℕ). leaves_before (nodes s f) (level_at s f t) + slots_below (nodes s f) k m []) e n

-- ---- entries

-- the entries of the nodes before node m
abbrev pub entries_before : Bytes → Frame → ℕ → ℕ
entries_before s f m = leaves_before (nodes s f) m + children_before (nodes s f) m

nothing : (ns : List Node) → length ns ≡ 0 → ns ≡ []
nothing [] e = refl
nothing (n ∷ ns) e = absurd (omega arith)

-- they are few
pub entries_few : (s : Bytes) (f : Frame) (a : Accepted s f) (m : ℕ) → entries_before s f m ≤ 8589934592
unfolding total
entries_few s f a m = omega (arith, leaves_all (nodes s f) m, children_all (nodes s f) m, a.writable.leaf_total, a.writable.few, nodes_few s f a, node_length s f a, go (node_count f) (node_length s f a) a.node_total)
  where
    go : (n : ℕ) → length (nodes s f) ≡ n → (0 < n → n ≡ 1 + total children_of (nodes s f)) → total children_of (nodes s f) ≤ n
    go zero e h = omega (arith, ap (total children_of) (nothing (nodes s f) e))
    go (suc n) e h = omega (arith, h (omega arith))

branch_count : (es : List Branch) → open_leaves es + children es ≡ length es
unfolding open_leaves children
branch_count [] = refl
branch_count (to_node x ∷ es) = omega (arith, branch_count es)
branch_count (to_leaf x b ∷ es) = omega (arith, branch_count es)

-- each node has an entry
entries_least : (ns : List Node) → All Labelled ns → length ns ≤ leaf_count ns + total children_of ns
unfolding leaf_count total
entries_least [] a = omega arith
entries_least (node o [] ∷ ns) a = absurd a.0
entries_least (node o (e ∷ es) ∷ ns) a = omega (arith, branch_count (e ∷ es), entries_least ns a.1)

all_take : (P : Node → Type 0) (k : ℕ) (ns : List Node) → All P ns → All P (take k ns)
all_take P zero ns a = tt
all_take P (suc k) [] a = tt
all_take P (suc k) (n ∷ ns) a = (a.0, all_take P k ns a.1)

all_drop : (P : Node → Type 0) (k : ℕ) (ns : List Node) → All P ns → All P (drop k ns)
all_drop P zero ns a = a
all_drop P (suc k) [] a = tt
all_drop P (suc k) (n ∷ ns) a = all_drop P k ns a.1

-- so from one node to another there are as many at least
entries_between : (ns : List Node) (i j : ℕ) → All Labelled ns → i ≤ j → j ≤ length ns → (leaf_count (take i ns) + total children_of (take i ns)) + (j - i) ≤ leaf_count (take j ns) + total children_of (take j ns)
entries_between ns i j a h l =
    let up : List Node = take j ns in
    let first : take i up ≡ take i ns = take-take i j ns h in
    let rest : List Node = drop i up in
    let whole : take i ns ++ rest ≡ up = ap (λ (z : List Node). z ++ rest) (sym first) ∙ take-append-drop i up in
    let size : length rest ≡ j - i = omega (arith, length-drop i up, length-take-le j ns l) in
    omega (
      arith,
      entries_least rest (all_drop Labelled i up (all_take Labelled j ns a)),
      leaf_count_append (take i ns) rest,
      total_append children_of (take i ns) rest,
      ap leaf_count whole,
      ap (total children_of) whole,
      size,
    )

-- ---- chains

module _ (s : Bytes) (f : Frame) (a : Accepted s f) where
  entries_up : (i j : ℕ) → i ≤ j → j ≤ node_count f → entries_before s f i + (j - i) ≤ entries_before s f j
  unfolding leaves_before children_before
  entries_up i j h l = entries_between (nodes s f) i j (all_append Labelled (dense_nodes s f) (sparse_nodes s f) a.writable.dense_labelled a.writable.sparse_labelled) h (omega (arith, node_length s f a))

  -- k levels of w nodes, the first of them level t from node n on, have one entry a node, and the level behind them has w nodes too: no node of theirs has a leaf, and each has one branch that continues
  module _ (t k n w : ℕ) (inside : t + k < level_count s f) (first : level_at s f t ≡ n) (second : level_at s f (suc t) ≡ n + w) (last : level_at s f (t + k) ≡ n + k * w) (behind : level_at s f (suc (t + k)) ≡ n + k * w + w)
      (sole : entries_before s f (n + k * w) ≡ entries_before s f n + k * w) where
    chain_inside : n + k * w ≤ node_count f
    chain_inside = omega (arith, level_inside s f a (t + k) inside)

    -- the leaves before the chain
    pub chain_leaves : leaves_before (nodes s f) n + (n + w) ≡ entries_before s f n + 1
    chain_leaves = omega (arith, level_next s f a t (omega arith), ap (children_before (nodes s f)) first)

    leaves_end : leaves_before (nodes s f) (n + k * w) ≡ leaves_before (nodes s f) n
    leaves_end = omega (arith, chain_leaves, level_next s f a (t + k) inside, ap (children_before (nodes s f)) last)

    module _ (m : ℕ) (low : n ≤ m) (high : m ≤ n + k * w) where
      -- a node of the chain has the same leaves before it
      pub chain_flat : leaves_before (nodes s f) m ≡ leaves_before (nodes s f) n
      chain_flat = omega (arith, leaves_end, leaves_up (nodes s f) n m low, leaves_up (nodes s f) m (n + k * w) high)

      -- and leads to the node w numbers on
      pub chain_next : children_before (nodes s f) m + 1 ≡ m + w
      chain_next = omega (arith, chain_flat, chain_leaves, entries_up n m low (omega (arith, chain_inside)), entries_up m (n + k * w) high chain_inside)
