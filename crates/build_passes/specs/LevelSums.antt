-- The entries and nodes of each level from where the keys start and end: a key has an entry on each level from the one where it leaves the key before it to that of its leaf. Used by the counting pass.
use Prim.Native.Nat.{ℕ, zero, suc, ◌+◌, ◌-◌, ◌≤◌, ◌<◌, min, max}
use Rattle.std.specs.Prelude.{◌≡◌, Bool, ◌&&◌, List, [], ◌∷◌, ◌++◌, length, set, replicate}
use Rattle.std.proofs.Math.Path.{refl, sym, ap}
use Rattle.std.proofs.Common.{subst, ◌∙◌, arith, add-one, get_or-set_same, ext_get_or}
use Rattle.std.proofs.Math.Bool.{true, false, cond}
use Rattle.std.proofs.Math.ListN.{get_or, length-set}
use Rattle.std.proofs.Math.Seq.{get_or-set_other}
use Rattle.std.proofs.Math.Dec.{leb, ltb, eqb}
use borrow.Author.Tests.{eqb-true, eqb-false, leb-true, leb-false, ltb-true, ltb-false}
use Rattle.spec.specs.Bytes.{bit}
use Rattle.build_laws.specs.LevelEntries.{pred}
use Rattle.build_laws.specs.NeighbourLeaves.{cut_length, cut_exact, cut_open}
use Rattle.build_laws.specs.Emissions.{level_values, key_emissions, key_level, key_high}
use Rattle.build_laws.specs.Cursors.{sum_of, counts, counts_at, length_counts}
use Rattle.build_laws.specs.BytePass.{one_step}
use Rattle.build_laws.specs.PassEmissions.{leaf_level, leaf_level_from, leaf_level_below, KeyNumbers}
use Rattle.build_laws.specs.Counters.{zeros_at}
use Rattle.build_passes.specs.CounterSums.{cursor_more}
use Rattle.build_laws.specs.KeyLaws.{pred_sub, level_exact, level_open}
use Rattle.build_keys.specs.CountPass.{starts_of, leaf_level_of, raised, level_counts, no_counts, count_key, counts_same}
use Rattle.build_keys.specs.declared.LevelCounts.{LevelCounts}
use Rattle.build_laws.specs.declared.Key.{Key}
use Rattle.build_laws.specs.Limits.{counters, counter_max}

-- ---- what a key adds to a level

-- 1 for a level from a to z, 0 for another; a is at most one more than z
unfoldable within : ℕ → ℕ → ℕ → ℕ
within a z d = min 1 (suc d - a) - min 1 (d - z)

-- a level from a to z, one before a, and one behind z
within_in : (a z d : ℕ) → a ≤ d → d ≤ z → within a z d ≡ 1
unfolding within
within_in a z d h l = omega arith

within_before : (a z d : ℕ) → d < a → within a z d ≡ 0
unfolding within
within_before a z d h = omega arith

within_behind : (a z d : ℕ) → z < d → within a z d ≡ 0
unfolding within
within_behind a z d h = omega arith

raised_at : (c : List ℕ) (e d : ℕ) → e < length c → get_or (raised c e) d 0 ≡ get_or c d 0 + within e e d
unfolding within
raised_at c e d h = go (eqb d e) refl
  where
    go : (b : Bool) → eqb d e ≡ b → get_or (raised c e) d 0 ≡ get_or c d 0 + within e e d
    go true q =
        let r : d ≡ e = eqb-true d e q in
        let u : get_or (raised c e) d 0 ≡ get_or c d 0 + 1 = rw r (get_or-set_same c e (get_or c e 0 + 1) 0 h) in
        omega arith
    go false q = let r : d ≡ e → ⊥ = eqb-false d e q in omega (arith, get_or-set_other c e d (get_or c e 0 + 1) 0 r)

sum_tests : (inc : Bool → ℕ) (x y u t : Bool) → sum_of inc (cond x (u ∷ []) [] ++ cond y (t ∷ []) []) ≡ cond x (inc u) 0 + cond y (inc t) 0
unfolding sum_of
sum_tests inc true true u t = omega arith
sum_tests inc true false u t = omega arith
sum_tests inc false true u t = omega arith
sum_tests inc false false u t = refl

-- the sum of what a key emits on a level: 1 from level a to the level of its leaf, where a branch on a level from p on counts 1 from a on
module _ (inc : Bool → ℕ) (v : ℕ → Bool) (a p q n d : ℕ) (u : KeyNumbers p q n) (l : p ≤ a) (m : a ≤ suc p) (one : inc true ≡ 1) (from : p ≤ d → inc (v d) ≡ min 1 (suc d - a)) where
  tests : (c z : ℕ) (e : Bool) → eqb q n ≡ e → cond e ((c ≡ n) × (z ≡ n)) ((c ≡ suc (max p q)) × (z ≡ max p q)) → cond (leb p d && ltb d c) (inc (v d)) 0 + cond (e && eqb d n) (inc true) 0 ≡ within a z d
  unfolding within
  tests c z e g k = go (leb p d) refl (ltb d c) refl (eqb d n) refl e g k
    where
      go : (x : Bool) → leb p d ≡ x → (y : Bool) → ltb d c ≡ y → (w : Bool) → eqb d n ≡ w → (e : Bool) → eqb q n ≡ e → cond e ((c ≡ n) × (z ≡ n)) ((c ≡ suc (max p q)) × (z ≡ max p q))
          → cond (x && y) (inc (v d)) 0 + cond (e && w) (inc true) 0 ≡ within a z d
      go true x true y true w true g k = absurd (omega (arith, ltb-true d c y, eqb-true d n w))
      go true x true y false w true g k = omega (arith, from (leb-true p d x), ltb-true d c y)
      go true x true y w r false g k = omega (arith, from (leb-true p d x), ltb-true d c y)
      go true x false y true w true g k = omega (arith, eqb-true d n w, u.before)
      go true x false y false w true g k = let r : d ≡ n → ⊥ = eqb-false d n w in omega (arith, ltb-false d c y)
      go true x false y w r false g k = omega (arith, ltb-false d c y)
      go false x y r true w true g k = absurd (omega (arith, leb-false p d x, eqb-true d n w, u.before))
      go false x y r false w true g k = omega (arith, leb-false p d x)
      go false x y r w t false g k = omega (arith, leb-false p d x)

  on_level : sum_of inc (level_values d (key_emissions 0 64 v true p q n)) ≡ within a (leaf_level p q n) d
  unfolding sum_of
  on_level = go (ltb d 64) refl (eqb q n) refl
    where
      z : ℕ
      z = leaf_level p q n

      sum : d < 64 → sum_of inc (level_values d (key_emissions 0 64 v true p q n)) ≡ cond (leb p d && ltb d (cut_length p q n)) (inc (v d)) 0 + cond (eqb q n && eqb d n) (inc true) 0
      sum h = ap (sum_of inc) (key_level 0 64 v true p q n d (omega arith) h) ∙ sum_tests inc (leb p d && ltb d (cut_length p q n)) (eqb q n && eqb d n) (v d) true

      go : (y : Bool) → ltb d 64 ≡ y → (e : Bool) → eqb q n ≡ e → sum_of inc (level_values d (key_emissions 0 64 v true p q n)) ≡ within a z d
      go true y true g =
          let e : q ≡ n = eqb-true q n g in
          sum (ltb-true d 64 y) ∙ tests (cut_length p q n) z (eqb q n) refl (rw g (cut_exact p q n e, sym (level_exact p q n e)))
      go true y false g =
          let e : q ≡ n → ⊥ = eqb-false q n g in
          sum (ltb-true d 64 y) ∙ tests (cut_length p q n) z (eqb q n) refl (rw g (cut_open p q n e, sym (level_open p q n e)))
      go false y e g =
          let w : z < 64 = leaf_level_below p q n u in
          ap (sum_of inc) (key_high 0 64 v true p q n d (ltb-false d 64 y)) ∙ sym (within_behind a z d (omega (arith, ltb-false d 64 y)))

bit_from : (p d : ℕ) → bit (leb p d) ≡ min 1 (suc d - p)
bit_from p d = go (leb p d) refl
  where
    go : (b : Bool) → leb p d ≡ b → bit b ≡ min 1 (suc d - p)
    go true e = omega (arith, leb-true p d e)
    go false e = omega (arith, leb-false p d e)

module _ (k : Key) (u : KeyNumbers (pred k.first) k.next k.len) (c : List ℕ) (w : length c ≡ counters) (d : ℕ) (h : d < counters) where
  entry_at : get_or (counts one_step (starts_of k) c) d 0 ≡ get_or c d 0 + within (pred k.first) (leaf_level_of k) d
  entry_at =
      omega (arith, counts_at one_step (starts_of k) c d (omega arith), on_level one_step (λ e. leb k.first e) (pred k.first) (pred k.first) k.next k.len d u (omega arith) (omega arith) refl (λ l. omega arith))

  node_at : get_or (counts bit (starts_of k) c) d 0 ≡ get_or c d 0 + within k.first (leaf_level_of k) d
  node_at =
      omega (arith, counts_at bit (starts_of k) c d (omega arith), on_level bit (λ e. leb k.first e) k.first (pred k.first) k.next k.len d u (omega (arith, pred_sub k.first)) (omega (arith, pred_sub k.first)) refl (λ l. bit_from k.first d))

-- ---- level by level

-- A key that starts nodes from level `first` on leaves the key before it on level p, and has its leaf on level z.
module _ (first p z : ℕ) (q : p ≡ first - 1) (l : p ≤ z) where
  within_root : within p z 0 ≡ within p p 0
  within_root = go (leb 1 p) refl
    where
      go : (b : Bool) → leb 1 p ≡ b → within p z 0 ≡ within p p 0
      go true e = let h : 0 < p = leb-true 1 p e in within_before p z 0 h ∙ sym (within_before p p 0 h)
      go false e = let h = leb-false 1 p e in within_in p z 0 (omega arith) (omega arith) ∙ sym (within_in p p 0 (omega arith) (omega arith))

  within_root_node : (m : ℕ) → min 1 first ≡ min 1 m → min 1 m + within first z 0 ≡ min 1 (m + within p p 0)
  within_root_node m f = go (leb 1 first) refl
    where
      go : (b : Bool) → leb 1 first ≡ b → min 1 m + within first z 0 ≡ min 1 (m + within p p 0)
      go true e = omega (arith, leb-true 1 first e, within_before first z 0 (leb-true 1 first e))
      go false e = let h = leb-false 1 first e in omega (arith, within_in first z 0 (omega arith) (omega arith), within_in p p 0 (omega arith) (omega arith))

  within_entries : (d : ℕ) → within p z (suc d) ≡ within first z (suc d) + within p p (suc d)
  within_entries d = go (leb (suc d) z) refl (leb p (suc d)) refl (leb first (suc d)) refl
    where
      go : (x : Bool) → leb (suc d) z ≡ x → (y : Bool) → leb p (suc d) ≡ y → (w : Bool) → leb first (suc d) ≡ w → within p z (suc d) ≡ within first z (suc d) + within p p (suc d)
      go false x y e w f = let h = leb-false (suc d) z x in omega (arith, within_behind p z (suc d) h, within_behind first z (suc d) h, within_behind p p (suc d) (omega arith))
      go true x false e w f =
          let h = leb-false p (suc d) e in
          omega (arith, within_before p z (suc d) h, within_before first z (suc d) (omega arith), within_before p p (suc d) h)
      go true x true e true f =
          let h = leb-true first (suc d) f in
          omega (arith, within_in p z (suc d) (leb-true p (suc d) e) (leb-true (suc d) z x), within_in first z (suc d) h (leb-true (suc d) z x), within_behind p p (suc d) (omega arith))
      go true x true e false f =
          let h = leb-false first (suc d) f in
          omega (arith, within_in p z (suc d) (leb-true p (suc d) e) (leb-true (suc d) z x), within_before first z (suc d) h, within_in p p (suc d) (leb-true p (suc d) e) (omega arith))

  within_nodes : (d : ℕ) → within first z (suc d) + within z z d ≡ within p z d
  within_nodes d = go (leb d z) refl (leb z d) refl (leb p d) refl
    where
      go : (x : Bool) → leb d z ≡ x → (y : Bool) → leb z d ≡ y → (w : Bool) → leb p d ≡ w → within first z (suc d) + within z z d ≡ within p z d
      go false x y e w f = let h = leb-false d z x in omega (arith, within_behind first z (suc d) (omega arith), within_behind z z d h, within_behind p z d h)
      go true x true e w f = let h = leb-true z d e in omega (arith, leb-true d z x, within_behind first z (suc d) (omega arith), within_in z z d h (leb-true d z x), within_in p z d (omega arith) (leb-true d z x))
      go true x false e true f = let h = leb-false z d e in omega (arith, within_in first z (suc d) (omega (arith, leb-true p d f)) h, within_before z z d h, within_in p z d (leb-true p d f) (leb-true d z x))
      go true x false e false f = let h = leb-false z d e in omega (arith, within_before first z (suc d) (omega (arith, leb-false p d f)), within_before z z d h, within_before p z d (leb-false p d f))

-- Counts of keys that start as m says: on the root an entry is where a key starts, and there is one node if there is one; on a further level an entry is a node's first or where a key starts; and below each entry that is no leaf there is a node.
pub record Balanced (m : List ℕ) (c : LevelCounts) : Type 0 where
  pub starts_width : length m ≡ counters
  pub entries_width : length c.entries ≡ counters
  pub nodes_width : length c.nodes ≡ counters
  pub leaves_width : length c.leaves ≡ counters
  pub root_entries : get_or c.entries 0 0 ≡ get_or m 0 0
  pub root_node : get_or c.nodes 0 0 ≡ min 1 (get_or m 0 0)
  pub entries_on : (d : ℕ) → d < 64 → get_or c.entries (suc d) 0 ≡ get_or c.nodes (suc d) 0 + get_or m (suc d) 0
  pub nodes_on : (d : ℕ) → d < 64 → get_or c.nodes (suc d) 0 + get_or c.leaves d 0 ≡ get_or c.entries d 0

-- no key is counted yet
pub balanced_none : (m : List ℕ) → m ≡ no_counts.entries → Balanced m no_counts
balanced_none m e =
    let z : (d : ℕ) → d < 64 → ◌≡◌ {A = ℕ} (get_or (replicate counters 0) (suc d) 0) 0 = λ d h. zeros_at (suc d) (omega arith) in
    let o : (d : ℕ) → d < 64 → ◌≡◌ {A = ℕ} (get_or (replicate counters 0) d 0) 0 = λ d h. zeros_at d (omega arith) in
    subst (λ (x : List ℕ). Balanced x no_counts) (sym e) (record {
      starts_width = refl;
      entries_width = refl;
      nodes_width = refl;
      leaves_width = refl;
      root_entries = refl;
      root_node = refl;
      entries_on = λ d h. omega (arith, z d h);
      nodes_on = λ d h. omega (arith, z d h, o d h);
    })

-- one key more; the first key of all starts the root
pub balanced_key : (k : Key) (m : List ℕ) (c : LevelCounts) → KeyNumbers (pred k.first) k.next k.len → min 1 k.first ≡ min 1 (get_or m 0 0) → Balanced m c → Balanced (raised m (pred k.first)) (count_key k c)
balanced_key k m c u f b =
    let p : ℕ = pred k.first in
    let z : ℕ = leaf_level_of k in
    let q : p ≡ k.first - 1 = pred_sub k.first in
    let l : p ≤ z = leaf_level_from p k.next k.len u in
    let r : z < 64 = leaf_level_below p k.next k.len u in
    let e = entry_at k u c.entries b.entries_width in
    let v = node_at k u c.nodes b.nodes_width in
    let s : (d : ℕ) → get_or (raised m p) d 0 ≡ get_or m d 0 + within p p d = λ d. raised_at m p d (omega (arith, b.starts_width)) in
    let t : (d : ℕ) → get_or (raised c.leaves z) d 0 ≡ get_or c.leaves d 0 + within z z d = λ d. raised_at c.leaves z d (omega (arith, b.leaves_width)) in
    record {
      starts_width = length-set m p _ ∙ b.starts_width;
      entries_width = length_counts one_step (starts_of k) c.entries ∙ b.entries_width;
      nodes_width = length_counts bit (starts_of k) c.nodes ∙ b.nodes_width;
      leaves_width = length-set c.leaves z _ ∙ b.leaves_width;
      root_entries = omega (arith, e 0 (omega arith), s 0, b.root_entries, within_root k.first p z q l);
      root_node = v 0 (omega arith) ∙ ap (λ (n : ℕ). n + within k.first z 0) b.root_node ∙ within_root_node k.first p z q l (get_or m 0 0) f ∙ ap (min 1) (sym (s 0));
      entries_on = λ d h. omega (arith, e (suc d) (omega arith), v (suc d) (omega arith), s (suc d), b.entries_on d h, within_entries k.first p z q l d);
      nodes_on = λ d h. omega (arith, v (suc d) (omega arith), t d, e d (omega arith), b.nodes_on d h, within_nodes k.first p z q l d);
    }

-- the level where a key starts has one entry more
pub key_start : (k : Key) (c : List ℕ) → KeyNumbers (pred k.first) k.next k.len → length c ≡ counters → get_or (counts one_step (starts_of k) c) (pred k.first) 0 ≡ get_or c (pred k.first) 0 + 1
key_start k c u w =
    let p : ℕ = pred k.first in
    let l : p < counters = omega (arith, u.before, u.size) in
    omega (arith, entry_at k u c w p l, within_in p (leaf_level_of k) p (omega arith) (leaf_level_from p k.next k.len u))

-- behind a key there is one that starts on the root
pub root_started : (first : ℕ) (m : List ℕ) → pred first < length m → min 1 first ≡ min 1 (get_or m 0 0) → 0 < get_or (raised m (pred first)) 0 0
root_started first m h f = go (leb 1 first) refl
  where
    go : (b : Bool) → leb 1 first ≡ b → 0 < get_or (raised m (pred first)) 0 0
    go true e = omega (arith, leb-true 1 first e, raised_at m (pred first) 0 h)
    go false e = omega (arith, leb-false 1 first e, pred_sub first, raised_at m (pred first) 0 h, within_in (pred first) (pred first) 0 (omega (arith, leb-false 1 first e, pred_sub first)) (omega arith))

-- where keys start on a level, there is an entry for each
pub starts_few : (m : List ℕ) (c : LevelCounts) → Balanced m c → (d : ℕ) → d < counters → get_or m d 0 ≤ get_or c.entries d 0
starts_few m c b zero h = omega (arith, b.root_entries)
starts_few m c b (suc d) h = omega (arith, b.entries_on d (omega arith))

-- ---- summed

-- the entries of level d, of keys that start as m says and have their leaves as l says: those of the level before that are no leaves, and where keys start
unfoldable pub level_entries : List ℕ → List ℕ → ℕ → ℕ
level_entries m l zero = get_or m 0 0
level_entries m l (suc d) = level_entries m l d - get_or l d 0 + get_or m (suc d) 0

-- the nodes of level d: one below each entry of the level before that is no leaf, and the root if there is a key
unfoldable pub level_nodes : List ℕ → List ℕ → ℕ → ℕ
unfolding level_entries
level_nodes m l zero = min 1 (get_or m 0 0)
level_nodes m l (suc d) = level_entries m l d - get_or l d 0

-- no level has more leaves than entries, and no counter passes top
pub record Summable (m l : List ℕ) : Type 0 where
  pub width : length m ≡ counters
  pub fits : (d : ℕ) → d < 64 → get_or l d 0 ≤ level_entries m l d
  pub few : (d : ℕ) → d < counters → level_entries m l d ≤ counter_max

-- the entries and nodes that summing leaves
pub record Summed (m l e n : List ℕ) : Type 0 where
  pub entries_width : length e ≡ counters
  pub nodes_width : length n ≡ counters
  pub entries : (d : ℕ) → d < counters → get_or e d 0 ≡ level_entries m l d
  pub nodes : (d : ℕ) → d < counters → get_or n d 0 ≡ level_nodes m l d

-- ---- the sums, level by level

-- what holds between two levels: up to level d there are entries and nodes, behind it the entries' counters say where keys start
pub record Summing (m l : List ℕ) (d : ℕ) (e n : List ℕ) : Type 0 where
  pub entries_width : length e ≡ counters
  pub nodes_width : length n ≡ counters
  pub entries : (i : ℕ) → i < d + 1 → get_or e i 0 ≡ level_entries m l i
  pub nodes : (i : ℕ) → i < d + 1 → get_or n i 0 ≡ level_nodes m l i
  pub starts : (i : ℕ) → d < i → get_or e i 0 ≡ get_or m i 0

-- the root
pub summing_root : (m l n : List ℕ) (v : ℕ) → length m ≡ counters → length n ≡ counters → v ≡ min 1 (get_or m 0 0) → Summing m l 0 m (set n 0 v)
unfolding level_entries level_nodes
summing_root m l n v w x q = record {
  entries_width = w;
  nodes_width = length-set n 0 v ∙ x;
  entries = λ i h. let r : i ≡ 0 = omega arith in rw r refl;
  nodes = λ i h. let r : i ≡ 0 = omega arith in rw r (get_or-set_same n 0 v 0 (omega arith) ∙ q);
  starts = λ i h. refl;
}

module _ (m l : List ℕ) (f : Summable m l) (d : ℕ) (h : d < 64) (e n : List ℕ) (s : Summing m l d e n) where
  level_here : get_or e d 0 ≡ level_entries m l d
  level_here = s.entries d (omega arith)

  -- the entries of the level that are no leaves
  pub summing_fits : get_or l d 0 ≤ get_or e d 0
  summing_fits = omega (arith, level_here, f.fits d h)

  -- the entries of the next level
  pub summing_few : get_or e d 0 - get_or l d 0 + get_or e (d + 1) 0 ≤ counter_max
  unfolding level_entries
  summing_few = omega (arith, level_here, f.few (suc d) (omega arith), s.starts (d + 1) (omega arith), ap (λ (i : ℕ). get_or m i 0) (add-one d))

  -- one level more
  pub summing_next : (x y : ℕ) → x ≡ get_or e d 0 - get_or l d 0 → y ≡ x + get_or e (d + 1) 0 → Summing m l (d + 1) (set e (d + 1) y) (set n (d + 1) x)
  unfolding level_entries level_nodes
  summing_next x y p q =
      let u : x ≡ level_nodes m l (d + 1) = p ∙ ap (λ (i : ℕ). i - get_or l d 0) level_here ∙ sym (ap (level_nodes m l) (add-one d)) in
      let v : y ≡ level_entries m l (d + 1) = omega (arith, p, q, level_here, s.starts (d + 1) (omega arith), ap (λ (i : ℕ). get_or m i 0) (add-one d), ap (level_entries m l) (add-one d)) in
      record {
        entries_width = length-set e (d + 1) y ∙ s.entries_width;
        nodes_width = length-set n (d + 1) x ∙ s.nodes_width;
        entries = cursor_more e (level_entries m l) (d + 1) y (omega (arith, s.entries_width)) v s.entries;
        nodes = cursor_more n (level_nodes m l) (d + 1) x (omega (arith, s.nodes_width)) u s.nodes;
        starts = λ i g. get_or-set_other e (d + 1) i y 0 (λ z. omega arith) ∙ s.starts i (omega arith);
      }

-- all levels
pub summing_done : (m l : List ℕ) (d : ℕ) (e n : List ℕ) → 64 ≤ d → Summing m l d e n → Summed m l e n
summing_done m l d e n h s = record { entries_width = s.entries_width; nodes_width = s.nodes_width; entries = λ i g. s.entries i (omega arith); nodes = λ i g. s.nodes i (omega arith) }

-- ---- what the sums are

module _ (m : List ℕ) (c : LevelCounts) (b : Balanced m c) where
  summed : (d : ℕ) → d < counters → (level_entries m c.leaves d ≡ get_or c.entries d 0) × (level_nodes m c.leaves d ≡ get_or c.nodes d 0)
  unfolding level_entries level_nodes
  summed zero h = (sym b.root_entries, sym b.root_node)
  summed (suc d) h = let i = summed d (omega arith) in (omega (arith, i.0, b.nodes_on d (omega arith), b.entries_on d (omega arith)), omega (arith, i.0, b.nodes_on d (omega arith)))

  -- such counts are found by summing
  pub balanced_fits : ((d : ℕ) → d < counters → get_or c.entries d 0 ≤ counter_max) → Summable m c.leaves
  balanced_fits f = record {
    width = b.starts_width;
    fits = λ d h. omega (arith, (summed d (omega arith)).0, b.nodes_on d h);
    few = λ d h. omega (arith, (summed d h).0, f d h);
  }

  -- and nothing else is
  pub balanced_sums : (e n l : List ℕ) → l ≡ c.leaves → Summed m l e n → level_counts e n l ≡ c
  balanced_sums e n l q s =
      counts_same
      (ext_get_or 0 e c.entries (s.entries_width ∙ sym b.entries_width) (λ d h. s.entries d (omega (arith, s.entries_width)) ∙ ap (λ (x : List ℕ). level_entries m x d) q ∙ (summed d (omega (arith, s.entries_width))).0))
      (ext_get_or 0 n c.nodes (s.nodes_width ∙ sym b.nodes_width) (λ d h. s.nodes d (omega (arith, s.nodes_width)) ∙ ap (λ (x : List ℕ). level_nodes m x d) q ∙ (summed d (omega (arith, s.nodes_width))).1)) q
