-- Select by rank: what decides it, and its order.
use Rattle.std.specs.Prelude.{◌≡◌, refl, Bool, true, false, cond, ℕ, zero, suc, ◌+◌, ◌≤◌, ◌<◌, min, leb, ltb}
use Rattle.std.proofs.Common.{ap, ◌∙◌, arith, leb-true, le-leb, leb-false, ltb-true, ltb-false}
use Rattle.std.proofs.lemmas.Bool.{lt-leb}
use Rattle.spec.specs.Bytes.{Bytes}
use Rattle.bits.specs.Bits.{rank, select}
use Rattle.bits.proofs.RankLaws.{rank_zero, rank_slow, rank_up}

-- where at most m ones stand before n, it is n
pub select_all : (s : Bytes) (n m : ℕ) → rank s n ≤ m → select s n m ≡ n
unfolding select
select_all s zero m h = refl
select_all s (suc n) m h = rw (le-leb (rank s (suc n)) m h)

select_back : (s : Bytes) (n m : ℕ) → m < rank s (suc n) → select s (suc n) m ≡ select s n m
unfolding select
select_back s n m h = rw (lt-leb (rank s (suc n)) m h)

-- it is the position p before which at most m ones stand and behind which more do
pub select_here : (s : Bytes) (n m p : ℕ) → p ≤ n → rank s p ≤ m → m < rank s (p + 1) → select s n m ≡ p
select_here s zero m p h l g = let e : p ≡ 0 = omega arith in rw e (select_all s zero m (rw e at l))
select_here s (suc n) m p h l g = go (leb p n) refl (λ pn. select_here s n m p pn l g)
  where
    go : (b : Bool) → leb p n ≡ b → (p ≤ n → select s n m ≡ p) → select s (suc n) m ≡ p
    go true q ih =
        let pn : p ≤ n = leb-true p n q in
        select_back s n m (omega (arith, rank_up s (p + 1) (suc n) (omega arith))) ∙ ih pn
    go false q ih =
        let e : p ≡ suc n = omega (arith, leb-false p n q) in
        rw e (select_all s (suc n) m (rw e at l))

-- at most m ones stand before it, it is at most n, and where it is below n, more than m ones stand up to and with it
pub select_is : (s : Bytes) (n m : ℕ) → (select s n m ≤ n) × (rank s (select s n m) ≤ m) × (select s n m < n → m < rank s (select s n m + 1))
unfolding select
select_is s zero m = (omega arith, omega (arith, rank_zero s), λ h. absurd (omega arith))
select_is s (suc n) m = go (leb (rank s (suc n)) m) refl (select_is s n m)
  where
    go : (b : Bool) → leb (rank s (suc n)) m ≡ b → (select s n m ≤ n) × (rank s (select s n m) ≤ m) × (select s n m < n → m < rank s (select s n m + 1))
        → (cond b (suc n) (select s n m) ≤ suc n) × (rank s (cond b (suc n) (select s n m)) ≤ m) × (cond b (suc n) (select s n m) < suc n → m < rank s (cond b (suc n) (select s n m) + 1))
    go true q ih = (omega arith, leb-true (rank s (suc n)) m q, λ h. absurd (omega arith))
    go false q ih = (omega (arith, ih.0), ih.1, λ h. next (ltb (select s n m) n) refl)
      where
        next : (b : Bool) → ltb (select s n m) n ≡ b → m < rank s (select s n m + 1)
        next true r = ih.2 (ltb-true (select s n m) n r)
        next false r =
            let e : select s n m + 1 ≡ suc n = omega (arith, ltb-false (select s n m) n r, ih.0) in
            rw e (leb-false (rank s (suc n)) m q)

-- it is at most n
pub select_le : (s : Bytes) (n m : ℕ) → select s n m ≤ n
select_le s n m = (select_is s n m).0

-- it never falls as m rises
pub select_up : (s : Bytes) (n lo hi : ℕ) → lo ≤ hi → select s n lo ≤ select s n hi
unfolding select
select_up s zero lo hi h = omega arith
select_up s (suc n) lo hi h = go (leb (rank s (suc n)) lo) refl (leb (rank s (suc n)) hi) refl (select_up s n lo hi h) (select_le s n lo)
  where
    go : (a : Bool) → leb (rank s (suc n)) lo ≡ a → (b : Bool) → leb (rank s (suc n)) hi ≡ b → select s n lo ≤ select s n hi → select s n lo ≤ n
        → cond a (suc n) (select s n lo) ≤ cond b (suc n) (select s n hi)
    go true p true q ih le = omega arith
    go true p false q ih le = absurd (omega (arith, leb-true (rank s (suc n)) lo p, leb-false (rank s (suc n)) hi q))
    go false p true q ih le = omega arith
    go false p false q ih le = ih

-- a position before which stand at most m ones is not behind it
pub select_behind : (s : Bytes) (n m p : ℕ) → p ≤ n → rank s p ≤ m → p ≤ select s n m
select_behind s n m p l h = go (leb p (select s n m)) refl
  where
    go : (b : Bool) → leb p (select s n m) ≡ b → p ≤ select s n m
    go true e = leb-true p (select s n m) e
    go false e =
        let u = leb-false p (select s n m) e in
        let f = select_is s n m in
        absurd (omega (arith, f.2 (omega arith), rank_up s (select s n m + 1) p (omega arith)))

-- where there is an m-th one, counted from 0, it stands below n, and m + 1 ones stand up to and with it
pub select_found : (s : Bytes) (n m : ℕ) → m < rank s n → (select s n m < n) × (rank s (select s n m + 1) ≡ m + 1)
select_found s n m h = go (ltb (select s n m) n) refl
  where
    f : (select s n m ≤ n) × (rank s (select s n m) ≤ m) × (select s n m < n → m < rank s (select s n m + 1))
    f = select_is s n m

    go : (b : Bool) → ltb (select s n m) n ≡ b → (select s n m < n) × (rank s (select s n m + 1) ≡ m + 1)
    go true e =
        let l = ltb-true (select s n m) n e in
        (l, omega (arith, f.1, f.2 l, (rank_slow s (select s n m) (select s n m + 1) (omega arith)).1))
    go false e =
        let w : select s n m ≡ n = omega (arith, f.0, ltb-false (select s n m) n e) in
        absurd (omega (arith, f.1, ap (rank s) w))

-- by the position of the m-th one, counted from 0, which may lie behind n
pub select_min : (s : Bytes) (n m p : ℕ) → rank s p ≤ m → m < rank s (p + 1) → min p n ≡ select s n m
select_min s n m p l g = go (leb p n) refl
  where
    go : (b : Bool) → leb p n ≡ b → min p n ≡ select s n m
    go true e = let h = leb-true p n e in let r = select_here s n m p h l g in omega arith
    go false e = let h = leb-false p n e in let r = select_all s n m (omega (arith, rank_up s n p (omega arith))) in omega arith

-- as many ones stand before the select of m as are asked, if there are so many
pub rank_select : (s : Bytes) (n m : ℕ) → m ≤ rank s n → rank s (select s n m) ≡ m
rank_select s n m h = go (ltb (select s n m) n) refl
  where
    f : (select s n m ≤ n) × (rank s (select s n m) ≤ m) × (select s n m < n → m < rank s (select s n m + 1))
    f = select_is s n m

    go : (b : Bool) → ltb (select s n m) n ≡ b → rank s (select s n m) ≡ m
    go true e = omega (arith, f.1, f.2 (ltb-true (select s n m) n e), step)
      where
        step : rank s (select s n m + 1) ≤ rank s (select s n m) + 1
        step = omega (arith, (rank_slow s (select s n m) (select s n m + 1) (omega arith)).1)
    go false e =
        let w : select s n m ≡ n = omega (arith, f.0, ltb-false (select s n m) n e) in
        omega (arith, f.1, ap (rank s) w)
