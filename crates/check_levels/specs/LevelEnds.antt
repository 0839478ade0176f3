-- Levels by their ends. Nodes are continuing branches plus one, each branch leads to a later node, no node is on level 64 and dense nodes are those on the
-- dense levels, just where the ends of the levels, each one more than the branches that continue before the last, rise to the node count in 64 levels.
use Prim.Native.Nat.{ℕ, zero, suc, ◌+◌, ◌-◌, ◌<◌, ◌≤◌}
use Rattle.std.specs.Prelude.{◌≡◌, Bool, ◌&&◌, ◌||◌, take, drop}
use Rattle.std.proofs.Math.Path.{refl, ap}
use Rattle.std.proofs.Common.{sym, ap₂, ◌∙◌, drop-drop, take_all}
use Rattle.std.proofs.Math.Bool.{true, false, cond}
use mathlib.Core.List.{List, [], ◌∷◌}
use native.Mathlib.Omega.{arith}
use Rattle.std.proofs.Math.ListN.{length, length-append, length-drop}
use Rattle.std.proofs.Math.Seq.{length-take-le}
use Rattle.std.proofs.Math.Dec.{leb, ltb, eqb}
use borrow.Author.Tests.{leb-true, leb-false, ltb-true, ltb-false, eqb-true, le-leb, lt-leb, lt-ltb, eq-eqb, ne_eqb}
use Rattle.spec.specs.Bytes.{concat}
use Rattle.spec.specs.Nodes.{total, later, levels}
use Rattle.check_levels.specs.Tests.{and, same, under}
use Rattle.check_levels.specs.ListParts.{total_part}
use Rattle.theory.proofs.Levels.{total_split, later_drop, later_none}
use Rattle.theory.proofs.Lists.{and_both}

-- K gives the branches that continue before a node, N is the node count
module _ (K : ℕ → ℕ) (N : ℕ) where
  -- the ends rise from e to N in so many levels
  unfoldable pub rise : ℕ → ℕ → Bool
  rise zero e = eqb e N
  rise (suc f) e = eqb e N || (ltb e (K e + 1) && leb (K e + 1) N && rise f (K e + 1))

  -- the end of the level that is t levels below the one that ends at e
  unfoldable pub level_end : ℕ → ℕ → ℕ
  level_end zero e = e
  level_end (suc t) e = cond (ltb e N) (level_end t (K e + 1)) e

  -- the nodes on the first t levels
  unfoldable pub nodes_above : ℕ → ℕ
  unfolding level_end
  nodes_above zero = 0
  nodes_above (suc t) = level_end t 1

  -- levels below the one that ends at e, at most so many
  unfoldable depth : ℕ → ℕ → ℕ
  depth zero e = 0
  depth (suc f) e = cond (ltb e N) (suc (depth f (K e + 1))) 0

-- the tests of the ends, with the branches before a node counted in another way
module _ (K J : ℕ → ℕ) (N : ℕ) (f : (e : ℕ) → e ≤ N → K e ≡ J e) where
  pub rise_ext : (d e : ℕ) → e ≤ N → rise K N d e ≡ rise J N d e
  unfolding rise
  rise_ext zero e l = refl
  rise_ext (suc d) e l =
      rw (f e l)
      (ap (λ (t : Bool). eqb e N || t)
      (under (ltb e (J e + 1) && leb (J e + 1) N) (rise K N d (J e + 1)) (rise J N d (J e + 1)) (λ h. rise_ext d (J e + 1) (leb-true (J e + 1) N (and_both (ltb e (J e + 1)) (leb (J e + 1) N) h).1))))

  pub level_end_ext : (t e : ℕ) → level_end K N t e ≡ level_end J N t e
  unfolding level_end
  level_end_ext zero e = refl
  level_end_ext (suc t) e = go (ltb e N) refl (level_end_ext t (K e + 1))
    where
      go : (b : Bool) → ltb e N ≡ b → level_end K N t (K e + 1) ≡ level_end J N t (K e + 1) → cond b (level_end K N t (K e + 1)) e ≡ cond b (level_end J N t (J e + 1)) e
      go true p ih = ih ∙ ap (λ (k : ℕ). level_end J N t (k + 1)) (f e (omega (arith, ltb-true e N p)))
      go false p ih = refl

  pub nodes_above_ext : (t : ℕ) → nodes_above K N t ≡ nodes_above J N t
  unfolding nodes_above
  nodes_above_ext zero = refl
  nodes_above_ext (suc t) = level_end_ext t 1

leb_suc : (a b : ℕ) → leb a b ≡ leb (suc a) (suc b)
leb_suc a b = go (leb a b) refl
  where
    go : (t : Bool) → leb a b ≡ t → t ≡ leb (suc a) (suc b)
    go true e = sym (le-leb (suc a) (suc b) (omega (arith, leb-true a b e)))
    go false e = sym (lt-leb (suc a) (suc b) (omega (arith, leb-false a b e)))

module _ {A : Type 0} (children : A → ℕ) (xs : List A) where
  -- the branches that continue before node i
  abbrev pub before : ℕ → ℕ
  before i = total children (take i xs)

  before_split : (i : ℕ) → total children xs ≡ before i + total children (drop i xs)
  before_split i = total_split children i xs

  -- they never get fewer
  pub before_up : (i j : ℕ) → i ≤ j → before i ≤ before j
  unfolding total
  before_up i j h = go xs i j h
    where
      go : (ys : List A) (i j : ℕ) → i ≤ j → total children (take i ys) ≤ total children (take j ys)
      go ys zero j h = omega arith
      go ys (suc i) zero h = absurd (omega arith)
      go [] (suc i) (suc j) h = omega arith
      go (y ∷ ys) (suc i) (suc j) h = omega (arith, go ys i j (omega arith))

  levels_more : (f w : ℕ) (ys : List A) → levels children (suc f) (suc w) ys ≡ take (suc w) ys ∷ levels children f (total children (take (suc w) ys)) (drop (suc w) ys)
  unfolding levels
  levels_more f w ys = refl

  pub levels_zero : (w : ℕ) (ys : List A) → levels children 0 w ys ≡ []
  unfolding levels
  levels_zero w ys = refl

  levels_none : (f : ℕ) (ys : List A) → levels children f 0 ys ≡ []
  unfolding levels
  levels_none zero ys = refl
  levels_none (suc f) ys = refl

  before_all : before (length xs) ≡ total children xs
  before_all = ap (total children) (take_all (length xs) xs (omega arith))

  pub before_none : before 0 ≡ 0
  unfolding total
  before_none = refl

  -- Every node up to n has a branch before it that leads there.
  abbrev pub Reachable : ℕ → Type 0
  Reachable n = (i : ℕ) → i < n → i ≤ before i

  -- ---- each branch leads to a later node

  pub later_reachable : length xs ≡ total children xs + 1 → later children 0 0 xs ≡ true → Reachable (length xs)
  later_reachable t h i l = go (leb i (before i)) refl
    where
      here : later children i (before i) (drop i xs) ≡ true
      here =
          let a : 0 + i ≡ i = omega arith in
          let b : 0 + before i ≡ before i = omega arith in
          ap₂ (λ (m n : ℕ). later children m n (drop i xs)) (sym a) (sym b) ∙ later_drop children 0 0 i xs h (omega arith)

      go : (b : Bool) → leb i (before i) ≡ b → i ≤ before i
      go true e = leb-true i (before i) e
      go false e =
          let n = leb-false i (before i) e in
          absurd (omega (arith, before_split i, later_none children i (before i) (drop i xs) here n))

  -- the same of a part
  reachable_part : (ys : List A) (i k : ℕ) → ((j : ℕ) → j < length ys → i + j ≤ k + total children (take j ys)) → later children i k ys ≡ true
  unfolding later total
  reachable_part [] i k f = refl
  reachable_part (y ∷ ys) i k f =
      let first : i ≤ k = omega (arith, f 0 (omega arith)) in
      rw (le-leb i k first) (either (eqb (children y) 0) (reachable_part ys (suc i) (k + children y) (λ j l. omega (arith, f (suc j) (omega arith)))))
    where
      either : (b : Bool) → later children (suc i) (k + children y) ys ≡ true → (b || true) && later children (suc i) (k + children y) ys ≡ true
      either true h = h
      either false h = h

  reachable_later : Reachable (length xs) → later children 0 0 xs ≡ true
  reachable_later r = reachable_part xs 0 0 (λ j l. omega (arith, r j l))

  -- ---- ends that rise

  module _ (t : length xs ≡ total children xs + 1) where
    pub before_end : before (length xs) + 1 ≡ length xs
    before_end = omega (arith, before_all)

    pub rise_reachable : (f e : ℕ) → e ≤ length xs → Reachable e → rise before (length xs) f e ≡ true → Reachable (length xs)
    unfolding rise
    rise_reachable zero e l r h = let q : e ≡ length xs = eqb-true e (length xs) h in rw q at r
    rise_reachable (suc f) e l r h = go (eqb e (length xs)) refl h (λ u v w. rise_reachable f (before e + 1) u v w)
      where
        more : e < before e + 1 → Reachable (before e + 1)
        more u i v = by_end (ltb i e) refl
          where
            by_end : (b : Bool) → ltb i e ≡ b → i ≤ before i
            by_end true q = r i (ltb-true i e q)
            by_end false q = omega (arith, before_up e i (ltb-false i e q))

        go : (b : Bool) → eqb e (length xs) ≡ b → b || (ltb e (before e + 1) && leb (before e + 1) (length xs) && rise before (length xs) f (before e + 1)) ≡ true
            → (before e + 1 ≤ length xs → Reachable (before e + 1) → rise before (length xs) f (before e + 1) ≡ true → Reachable (length xs)) → Reachable (length xs)
        go true q h ih = let p : e ≡ length xs = eqb-true e (length xs) q in rw p at r
        go false q h ih =
            let a = and_both (ltb e (before e + 1) && leb (before e + 1) (length xs)) (rise before (length xs) f (before e + 1)) h in
            let b = and_both (ltb e (before e + 1)) (leb (before e + 1) (length xs)) a.0 in
            ih (leb-true (before e + 1) (length xs) b.1) (more (ltb-true e (before e + 1) b.0)) a.1

    module _ (r : Reachable (length xs)) where
      pub next_up : (e : ℕ) → e < length xs → e < before e + 1
      next_up e l = omega (arith, r e l)

      pub next_within : (e : ℕ) → e ≤ length xs → before e + 1 ≤ length xs
      next_within e l = omega (arith, before_up e (length xs) l, before_end)

      rise_depth : (f e : ℕ) → e ≤ length xs → rise before (length xs) f e ≡ leb (depth before (length xs) (suc f) e) f
      unfolding rise depth
      rise_depth zero e l = go (ltb e (length xs)) refl
        where
          go : (b : Bool) → ltb e (length xs) ≡ b → eqb e (length xs) ≡ leb (cond b 1 0) 0
          go true q = ne_eqb e (length xs) (λ p. omega (arith, ltb-true e (length xs) q))
          go false q = eq-eqb e (length xs) (omega (arith, ltb-false e (length xs) q))
      rise_depth (suc f) e l = go (ltb e (length xs)) refl (rise_depth f (before e + 1) (next_within e l))
        where
          go : (b : Bool) → ltb e (length xs) ≡ b → rise before (length xs) f (before e + 1) ≡ leb (depth before (length xs) (suc f) (before e + 1)) f
              → (eqb e (length xs) || (ltb e (before e + 1) && leb (before e + 1) (length xs) && rise before (length xs) f (before e + 1)))
              ≡ leb (cond b (suc (depth before (length xs) (suc f) (before e + 1))) 0) (suc f)
          go true q ih =
              let u = ltb-true e (length xs) q in
              rw (ne_eqb e (length xs) (λ p. omega arith), lt-ltb e (before e + 1) (next_up e u), le-leb (before e + 1) (length xs) (next_within e l))
              (ih ∙ leb_suc (depth before (length xs) (suc f) (before e + 1)) f)
          go false q ih = rw (eq-eqb e (length xs) (omega (arith, ltb-false e (length xs) q))) (sym (le-leb 0 (suc f) (omega arith)))

      -- the levels from the one of the nodes from i to e, where e is one more than the branches before i
      pub next_level : (f i e : ℕ) → i < e → e ≡ before i + 1 → levels children (suc f) (e - i) (drop i xs) ≡ take (e - i) (drop i xs) ∷ levels children f (before e + 1 - e) (drop e xs)
      next_level f i e h q = first (e - i) (omega arith) ∙ ap₂ (λ (w : ℕ) (ys : List A). take (e - i) (drop i xs) ∷ levels children f w ys) width (drop-drop (e - i) i xs ∙ ap (λ (n : ℕ). drop n xs) there)
        where
          there : i + (e - i) ≡ e
          there = omega arith

          width : total children (take (e - i) (drop i xs)) ≡ before e + 1 - e
          width = omega (arith, total_part children xs i (e - i), ap before there)

          first : (w : ℕ) → 0 < w → levels children (suc f) w (drop i xs) ≡ take w (drop i xs) ∷ levels children f (total children (take w (drop i xs))) (drop w (drop i xs))
          first zero p = absurd (omega arith)
          first (suc w) p = levels_more f w (drop i xs)

      pub no_level : (f : ℕ) → levels children f (before (length xs) + 1 - length xs) (drop (length xs) xs) ≡ []
      no_level f = let z : before (length xs) + 1 - length xs ≡ 0 = omega (arith, before_end) in rw z (none f)
        where
          none : (f : ℕ) → levels children f 0 (drop (length xs) xs) ≡ []
          none f = levels_none f (drop (length xs) xs)

      -- how many levels there are
      count_levels : (f i e : ℕ) → i < e → e ≤ length xs → e ≡ before i + 1 → length (levels children (suc f) (e - i) (drop i xs)) ≡ suc (depth before (length xs) f e)
      unfolding depth
      count_levels zero i e h l q = ap length (next_level zero i e h q) ∙ ap suc (ap length (levels_zero (before e + 1 - e) (drop e xs)))
      count_levels (suc f) i e h l q = ap length (next_level (suc f) i e h q) ∙ ap suc (go (ltb e (length xs)) refl (λ u. count_levels f e (before e + 1) u (next_within e l) refl))
        where
          go : (b : Bool) → ltb e (length xs) ≡ b → (e < before e + 1 → length (levels children (suc f) (before e + 1 - e) (drop e xs)) ≡ suc (depth before (length xs) f (before e + 1)))
              → length (levels children (suc f) (before e + 1 - e) (drop e xs)) ≡ cond b (suc (depth before (length xs) f (before e + 1))) 0
          go true p ih = ih (next_up e (ltb-true e (length xs) p))
          go false p ih = let z : e ≡ length xs = omega (arith, ltb-false e (length xs) p) in rw z (ap length (no_level (suc f)))

      level_end_up : (k e : ℕ) → e ≤ length xs → e ≤ level_end before (length xs) k e
      unfolding level_end
      level_end_up zero e l = omega arith
      level_end_up (suc k) e l = go (ltb e (length xs)) refl (level_end_up k (before e + 1) (next_within e l))
        where
          go : (b : Bool) → ltb e (length xs) ≡ b → before e + 1 ≤ level_end before (length xs) k (before e + 1) → e ≤ cond b (level_end before (length xs) k (before e + 1)) e
          go true p ih = omega (arith, next_up e (ltb-true e (length xs) p))
          go false p ih = omega arith

      -- how many nodes the first levels have
      count_nodes : (k f i e : ℕ) → k ≤ f → i < e → e ≤ length xs → e ≡ before i + 1
          → length (concat (take (suc k) (levels children (suc f) (e - i) (drop i xs)))) ≡ level_end before (length xs) k e - i
      unfolding level_end concat
      count_nodes zero f i e m h l q =
          ap (λ (ls : List (List A)). length (concat (take 1 ls))) (next_level f i e h q) ∙ length-append (take (e - i) (drop i xs)) [] ∙ omega (arith, wide)
        where
          wide : length (take (e - i) (drop i xs)) ≡ e - i
          wide = length-take-le (e - i) (drop i xs) (omega (arith, length-drop i xs))
      count_nodes (suc k) zero i e m h l q = absurd (omega arith)
      count_nodes (suc k) (suc f) i e m h l q =
          ap (λ (ls : List (List A)). length (concat (take (suc (suc k)) ls))) (next_level (suc f) i e h q)
          ∙ length-append (take (e - i) (drop i xs)) (concat (take (suc k) (levels children (suc f) (before e + 1 - e) (drop e xs))))
          ∙ go (ltb e (length xs)) refl (λ u. count_nodes k f e (before e + 1) (omega arith) u (next_within e l) refl)
        where
          wide : length (take (e - i) (drop i xs)) ≡ e - i
          wide = length-take-le (e - i) (drop i xs) (omega (arith, length-drop i xs))

          go : (b : Bool) → ltb e (length xs) ≡ b
              → (e < before e + 1 → length (concat (take (suc k) (levels children (suc f) (before e + 1 - e) (drop e xs)))) ≡ level_end before (length xs) k (before e + 1) - e)
              → length (take (e - i) (drop i xs)) + length (concat (take (suc k) (levels children (suc f) (before e + 1 - e) (drop e xs))))
              ≡ cond b (level_end before (length xs) k (before e + 1)) e - i
          go true p ih =
              let u = next_up e (ltb-true e (length xs) p) in
              omega (arith, wide, ih u, level_end_up k (before e + 1) (next_within e l))
          go false p ih =
              let z : e ≡ length xs = omega (arith, ltb-false e (length xs) p) in
              let none : levels children (suc f) (before e + 1 - e) (drop e xs) ≡ [] = rw z (no_level (suc f)) in
              omega (arith, wide, ap (λ (ls : List (List A)). length (concat (take (suc k) ls))) none)

  -- ---- both forms

  -- document 01's tests of the levels
  abbrev pub level_tests : ℕ → ℕ → Bool
  level_tests dense n = later children 0 0 xs && leb (length (levels children 65 1 xs)) 64 && eqb (length (concat (take dense (levels children 65 1 xs)))) n

  -- the tests of the ends
  abbrev pub end_tests : ℕ → ℕ → Bool
  end_tests dense n = rise before (length xs) 63 1 && eqb (nodes_above before (length xs) dense) n

  module _ (t : length xs ≡ total children xs + 1) (dense n : ℕ) (few : dense ≤ 64) where
    all_levels : Reachable (length xs) → leb (length (levels children 65 1 xs)) 64 ≡ rise before (length xs) 63 1
    all_levels r =
        let a = count_levels t r 64 0 1 (omega arith) (omega (arith, t)) (omega (arith, before_none)) in
        ap (λ (m : ℕ). leb m 64) a ∙ sym (leb_suc (depth before (length xs) 64 1) 63) ∙ sym (rise_depth t r 63 1 (omega (arith, t)))

    dense_levels : (d : ℕ) → d ≤ 64 → Reachable (length xs) → length (concat (take d (levels children 65 1 xs))) ≡ nodes_above before (length xs) d
    unfolding nodes_above concat
    dense_levels zero u r = refl
    dense_levels (suc k) u r = count_nodes t r k 64 0 1 (omega arith) (omega arith) (omega (arith, t)) (omega (arith, before_none)) ∙ omega arith

    -- Document 01's tests of the levels are those of the ends, where nodes are continuing branches plus one.
    pub levels_are : level_tests dense n ≡ end_tests dense n
    levels_are = same (level_tests dense n) (end_tests dense n) forth back
      where
        forth : level_tests dense n ≡ true → end_tests dense n ≡ true
        forth h =
            let a = and_both (later children 0 0 xs && leb (length (levels children 65 1 xs)) 64) (eqb (length (concat (take dense (levels children 65 1 xs)))) n) h in
            let b = and_both (later children 0 0 xs) (leb (length (levels children 65 1 xs)) 64) a.0 in
            let r = later_reachable t b.0 in
            and (rise before (length xs) 63 1) (eqb (nodes_above before (length xs) dense) n) (sym (all_levels r) ∙ b.1)
            (ap (λ (m : ℕ). eqb m n) (sym (dense_levels dense few r)) ∙ a.1)

        back : end_tests dense n ≡ true → level_tests dense n ≡ true
        back h =
            let a = and_both (rise before (length xs) 63 1) (eqb (nodes_above before (length xs) dense) n) h in
            let r = rise_reachable t 63 1 (omega (arith, t)) (λ i l. omega arith) a.0 in
            and (later children 0 0 xs && leb (length (levels children 65 1 xs)) 64) (eqb (length (concat (take dense (levels children 65 1 xs)))) n)
            (and (later children 0 0 xs) (leb (length (levels children 65 1 xs)) 64) (reachable_later r) (all_levels r ∙ a.0))
            (ap (λ (m : ℕ). eqb m n) (dense_levels dense few r) ∙ a.1)
