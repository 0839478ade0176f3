-- What a seek finds over an accepted image, from the lowest key of the first leaf that the start has not passed and the number of those that it has.
use Prim.Native.Nat.{ℕ, ◌≤◌}
use mathlib.Core.Path.{◌≡◌, refl, sym, ap, ◌∙◌}
use mathlib.Core.Bool.{Bool, true, false, cond}
use mathlib.Core.List.{List, ◌++◌}
use mathlib.Core.Option.{Option, some}
use mathlib.Core.Logic.{inr}
use native.Mathlib.Omega.{arith}
use lib.ListN.{length, take}
use lib.Seq.{length-take-le}
use Rattle.spec.specs.Bytes.{Bytes, equal, concat}
use Rattle.spec.specs.Keys.{below}
use Rattle.spec.specs.Leaves.{Leaf, highest}
use Rattle.spec.specs.Nodes.{read_leaves}
use Rattle.spec.specs.Questions.{none, found, greater, seek}
use Rattle.spec.specs.Trie.{leaf_count}
use Rattle.image.specs.declared.Frame.{Frame}
use Rattle.image.specs.declared.ValuePos.{ValuePos}
use Rattle.nav_branches.specs.declared.LeafStop.{LeafStop}
use Rattle.nav_branches.specs.declared.LeafStop.TheVariants.{Nowhere, Open}
use Rattle.keys.specs.Order.{order}
use Rattle.std.specs.declared.cmp.Ordering.TheVariants.{Less, Equal, Greater}
use Rattle.keys.proofs.OrderLaws.{order_not_below}
use Rattle.nav_nodes.specs.Accepted.{Accepted, nodes, real_leaves, real_slot, real_realizable, real_sized}
use Rattle.query_descent.specs.Bounds.{low_rest}
use Rattle.query_descent.specs.Ordered.{passed, next_leaf, seek_is}
use Rattle.query_descent.specs.Seeks.{low_each, low_of, found_low, found_each}
use Rattle.theory.proofs.AskLaws.{reals_length}
use Rattle.theory.proofs.Levels.{leaf_count_root}
use Rattle.theory.proofs.LevelTrie.{trie}
use Rattle.theory.proofs.Lists.{count_bound}
use Rattle.theory.proofs.Order.{equal_true}
use Rattle.theory.proofs.TrieTests.{EmptyOrValid, empty_list, valid_trie, realizable_trie}

-- the lowest key of an open leaf, whose cut key is the first d bytes of the key
pub low_open : (s : Bytes) (f : Frame) (v : ValuePos) (d : ℕ) (key low : Bytes) → d ≤ length key → low ≡ take d key ++ low_rest d (real_slot s f v.0) → low_of f.hash_width f.width (nodes s f) (Open v) (take d key) ≡ some low
low_open s f v d key low h q = rw (length-take-le d key h) (ap some (sym q))

-- ---- the greater of two keys, by their order

module _ (a b : Bytes) where
  -- the first of two that fall
  pub greater_above : order a b ≡ Greater → a ≡ greater a b
  unfolding greater
  greater_above e = rw (order_not_below a b (inr e))

  -- the second of two that do not fall
  pub greater_not_above : (order a b ≡ Greater → ⊥) → b ≡ greater a b
  unfolding order greater
  greater_not_above h = go (below a b) (equal a b) refl h
    where
      go : (l q : Bool) → equal a b ≡ q → (cond l Less (cond q Equal Greater) ≡ Greater → ⊥) → b ≡ cond l b a
      go true q e n = refl
      go false true e n = sym (equal_true a b e)
      go false false e n = absurd (n refl)

-- ---- what is found

module _ (s : Bytes) (f : Frame) (a : Accepted s f) (start : Bytes) where
  -- by the lowest key of the first leaf that the start has not passed
  seek_low : seek (real_leaves s f) start ≡ found_low (low_each f.hash_width (next_leaf f.hash_width (read_leaves s) start)) (passed (real_leaves s f) start) start
  seek_low = seek_is f.hash_width f.real_width (read_leaves s) start (real_realizable s f a).ordered (real_sized s f a) ∙ found_each f.hash_width (next_leaf f.hash_width (read_leaves s) start) (passed (real_leaves s f) start) start

  -- the start has passed no more leaves than there are
  pub few_passed : passed (real_leaves s f) start ≤ 65535
  unfolding passed
  few_passed = omega (arith, count_bound (λ l. below (highest l) start) (real_leaves s f), reals_length f.hash_width (read_leaves s), leaves_few, a.writable.few)
    where
      go : {ls : List Leaf} → EmptyOrValid ls → length ls ≤ leaf_count (concat (trie ls))
      go empty_list = omega arith
      go (valid_trie {ls = ls} t) = omega (arith, leaf_count_root (trie ls) ls t.linked t.root)

      leaves_few : length (read_leaves s) ≤ f.leaves
      leaves_few = omega (arith, go (realizable_trie f.width (read_leaves s) a.realizable a.well_sized), ap leaf_count a.trie_is, a.writable.leaf_total)

  module _ (stop : LeafStop) (cut : Bytes) (e : low_each f.hash_width (next_leaf f.hash_width (read_leaves s) start) ≡ low_of f.hash_width f.width (nodes s f) stop cut) where
    -- no leaf
    pub seek_none : stop ≡ Nowhere → none ≡ seek (real_leaves s f) start
    seek_none h = sym (seek_low ∙ ap (λ (o : Option Bytes). found_low o (passed (real_leaves s f) start) start) e ∙ rw h)

    -- a leaf whose lowest key is `low`
    pub seek_found : (number : ℕ) (low key : Bytes) → low_of f.hash_width f.width (nodes s f) stop cut ≡ some low → key ≡ greater start low → number ≡ passed (real_leaves s f) start → found number key ≡ seek (real_leaves s f) start
    seek_found number low key l g n = sym (seek_low ∙ ap (λ (o : Option Bytes). found_low o (passed (real_leaves s f) start) start) (e ∙ l) ∙ rw (g, n))
