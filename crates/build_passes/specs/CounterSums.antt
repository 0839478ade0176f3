-- Sums of counters, and cursors set one by one. Used by the functions on counters.
use Rattle.std.specs.Prelude.{ℕ, zero, suc, ◌+◌, ◌-◌, ◌≤◌, ◌<◌, ◌≡◌, refl, Bool, true, false, cond, List, length, get_or, set, eqb}
use Rattle.std.proofs.Common.{sym, ap, ◌∙◌, arith, add-one, add-zero, add-suc, get_or-set_same, get_or-set_other, le-leb, eqb-true}
use Rattle.std.proofs.lemmas.Bool.{lt-leb, eqb-false}
use Rattle.build_laws.specs.Cursors.{sums, sums_none, sums_more}

-- a level from lo on is counted
pub sums_in : (c : List ℕ) (lo d : ℕ) → lo ≤ d → sums c lo (d + 1) ≡ sums c lo d + get_or c d 0
sums_in c lo d h = ap (sums c lo) (add-one d) ∙ sums_more c lo d ∙ ap (λ (b : Bool). sums c lo d + cond b (get_or c d 0) 0) (le-leb lo d h)

-- a level below lo is not
pub sums_out : (c : List ℕ) (lo d : ℕ) → d < lo → sums c lo (d + 1) ≡ sums c lo d + 0
sums_out c lo d h = ap (sums c lo) (add-one d) ∙ sums_more c lo d ∙ ap (λ (b : Bool). sums c lo d + cond b (get_or c d 0) 0) (lt-leb lo d h)

-- up to the level lo no level is counted
pub sums_before : (c : List ℕ) (lo d : ℕ) → d ≤ lo → 0 ≡ sums c lo d
sums_before c lo zero h = sym (sums_none c lo)
sums_before c lo (suc d) h = omega (arith, sums_before c lo d (omega arith), sums_out c lo d (omega arith), ap (sums c lo) (add-one d))

sums_up : (c : List ℕ) (lo d k : ℕ) → sums c lo d ≤ sums c lo (d + k)
sums_up c lo d zero = omega (arith, ap (sums c lo) (add-zero d))
sums_up c lo d (suc k) = omega (arith, sums_up c lo d k, ap (sums c lo) (add-suc d k), sums_more c lo (d + k))

-- more levels have no smaller sum
pub sums_le : (c : List ℕ) (lo d e : ℕ) → d ≤ e → sums c lo d ≤ sums c lo e
sums_le c lo d e h = let w : d + (e - d) ≡ e = omega arith in omega (arith, sums_up c lo d (e - d), ap (sums c lo) w)

-- one cursor more is set
pub cursor_more : (cur : List ℕ) (f : ℕ → ℕ) (d v : ℕ) → d < length cur → v ≡ f d → ((e : ℕ) → e < d → get_or cur e 0 ≡ f e) → (e : ℕ) → e < d + 1 → get_or (set cur d v) e 0 ≡ f e
cursor_more cur f d v h q g e l = go (eqb e d) refl
  where
    go : (b : Bool) → eqb e d ≡ b → get_or (set cur d v) e 0 ≡ f e
    go true z = let r : e ≡ d = eqb-true e d z in rw r (get_or-set_same cur d v 0 h ∙ q)
    go false z = let r : e ≡ d → ⊥ = eqb-false e d z in get_or-set_other cur d e v 0 r ∙ g e (less r)
      where
        less : (e ≡ d → ⊥) → e < d
        less r = omega arith
