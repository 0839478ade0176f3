-- The tests of the levels, one level at a time: what is known of the levels that were passed, and the answer where the tests stop.
use Prim.Native.Nat.{ℕ, zero, suc, ◌+◌, ◌-◌, ◌<◌, ◌≤◌}
use Rattle.std.specs.Prelude.{◌≡◌, Bool, true, false, cond, ◌&&◌, leb, ltb, eqb}
use Rattle.std.proofs.Math.Path.{refl, ap}
use Rattle.std.proofs.Common.{sym, ap₂, ◌∙◌}
use Rattle.std.proofs.Math.Bool.{and-false}
use native.Mathlib.Omega.{arith}
use borrow.Author.Tests.{leb-true, leb-false, eqb-true, eqb-false, le-leb, lt-leb, lt-ltb, le-ltb, eq-eqb, ne_eqb}
use Rattle.check_levels.specs.LevelEnds.{rise, level_end, nodes_above}

-- at most 64, and not 64
pub less_64 : (d : ℕ) → d ≤ 64 → (d ≡ 64 → ⊥) → d < 64
less_64 d h n = omega arith

module _ (K : ℕ → ℕ) (N levels n : ℕ) where
  -- the ends of the levels rise to the node count in at most 64 levels, and the dense nodes are those on the dense levels
  abbrev pub ends_valid : Bool
  ends_valid = rise K N 63 1 && eqb (nodes_above K N levels) n

  -- the first d levels have e nodes; `above` is how many the dense levels have, where they are passed
  pub record EndsTo (d e above : ℕ) : Type 0 where
    pub one : 1 ≤ d
    pub most : d ≤ 64
    pub some : 1 ≤ e
    pub within : e ≤ N
    pub rises : rise K N 63 1 ≡ rise K N (64 - d) e
    pub dense : d ≤ levels → nodes_above K N levels ≡ level_end K N (levels - d) e
    pub passed : levels < d → nodes_above K N levels ≡ above

  -- the root's level
  pub ends_first : 1 ≤ N → EndsTo 1 1 0
  unfolding nodes_above
  ends_first h = record { one = omega arith; most = omega arith; some = omega arith; within = h; rises = refl; dense = λ l. root levels l; passed = λ l. none levels l }
    where
      root : (t : ℕ) → 1 ≤ t → nodes_above K N t ≡ level_end K N (t - 1) 1
      root zero l = absurd (omega arith)
      root (suc t) l = let e : suc t - 1 ≡ t = omega arith in ap (λ (k : ℕ). level_end K N k 1) (sym e)

      none : (t : ℕ) → t < 1 → nodes_above K N t ≡ 0
      none zero l = refl
      none (suc t) l = absurd (omega arith)

  rise_more : (f e : ℕ) → e < N → rise K N (suc f) e ≡ ltb e (K e + 1) && leb (K e + 1) N && rise K N f (K e + 1)
  unfolding rise
  rise_more f e h = rw (ne_eqb e N (λ q. omega arith))

  module _ (d e above k : ℕ) (c : EndsTo d e above) (q : k ≡ K e) where
    -- one level further
    pub ends_next : e < N → d < 64 → e < k + 1 → k + 1 ≤ N → EndsTo (d + 1) (k + 1) (cond (eqb d levels) e above)
    unfolding level_end
    ends_next h m u v = record {
      one = omega arith;
      most = omega arith;
      some = omega arith;
      within = v;
      rises = c.rises ∙ ap (λ (f : ℕ). rise K N f e) w ∙ rise_more (64 - (d + 1)) e h ∙ rw (← q, lt-ltb e (k + 1) u, le-leb (k + 1) N v);
      dense = λ l. c.dense (omega arith) ∙ ap (λ (t : ℕ). level_end K N t e) (sym (less l)) ∙ rw (lt-ltb e N h, ← q);
      passed = λ l. past (eqb d levels) refl l;
    }
      where
        w : 64 - d ≡ suc (64 - (d + 1))
        w = omega (arith, m)

        less : d + 1 ≤ levels → suc (levels - (d + 1)) ≡ levels - d
        less l = omega arith

        past : (b : Bool) → eqb d levels ≡ b → levels < d + 1 → nodes_above K N levels ≡ cond b e above
        past true p l = let r : levels - d ≡ 0 = omega (arith, eqb-true d levels p) in c.dense (omega (arith, eqb-true d levels p)) ∙ ap (λ (t : ℕ). level_end K N t e) r
        past false p l = let x = eqb-false d levels p in c.passed (omega arith)

    lost : rise K N (64 - d) e ≡ false → ends_valid ≡ false
    lost f = ap (λ (t : Bool). t && eqb (nodes_above K N levels) n) (c.rises ∙ f)

    -- a node on level 64
    pub ends_level_64 : e < N → 64 ≤ d → ends_valid ≡ false
    unfolding rise
    ends_level_64 h m = let w : 64 - d ≡ 0 = omega arith in lost (ap (λ (f : ℕ). rise K N f e) w ∙ ne_eqb e N (λ r. omega arith))

    -- no branch leads on, or too many do
    pub ends_stuck : e < N → d < 64 → k + 1 ≤ e → ends_valid ≡ false
    ends_stuck h m u =
        let w : 64 - d ≡ suc (64 - (d + 1)) = omega arith in
        lost (ap (λ (f : ℕ). rise K N f e) w ∙ rise_more (64 - (d + 1)) e h ∙ rw (← q, le-ltb e (k + 1) u))

    pub ends_over : e < N → d < 64 → N < k + 1 → ends_valid ≡ false
    ends_over h m u =
        let w : 64 - d ≡ suc (64 - (d + 1)) = omega arith in
        lost (ap (λ (f : ℕ). rise K N f e) w ∙ rise_more (64 - (d + 1)) e h ∙ rw (← q, lt-leb (k + 1) N u) (ap (λ (t : Bool). t && rise K N (64 - (d + 1)) (k + 1)) (and-false (ltb e (k + 1)))))

  rise_end : (f : ℕ) → rise K N f N ≡ true
  unfolding rise
  rise_end zero = eq-eqb N N refl
  rise_end (suc f) = rw (eq-eqb N N refl)

  level_end_last : (t : ℕ) → level_end K N t N ≡ N
  unfolding level_end
  level_end_last zero = refl
  level_end_last (suc t) = rw (le-ltb N N (omega arith))

  -- all nodes are on levels: the dense ones are those above
  pub ends_last : (d e above : ℕ) → EndsTo d e above → N ≤ e → ends_valid ≡ eqb (cond (leb d levels) e above) n
  ends_last d e above c h =
      let w : e ≡ N = omega (arith, c.within) in
      ap₂ (λ (t : Bool) (k : ℕ). t && eqb k n) (c.rises ∙ ap (rise K N (64 - d)) w ∙ rise_end (64 - d)) (top (leb d levels) refl)
    where
      top : (b : Bool) → leb d levels ≡ b → nodes_above K N levels ≡ cond b e above
      top true p =
          let w : e ≡ N = omega (arith, c.within) in
          c.dense (leb-true d levels p) ∙ ap (level_end K N (levels - d)) w ∙ level_end_last (levels - d) ∙ sym w
      top false p = c.passed (leb-false d levels p)
