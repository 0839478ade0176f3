-- The numbers with which images are refused, 11 to 16: when the check gives each, and that it gives no other. KeyFiles has those of key lists, QuestionFiles those of question files, and RefusalLaws the calls.
use Rattle.std.specs.Prelude.{ℕ, zero, suc, ◌<◌, ◌≡◌, refl, ◌↔◌}
use Rattle.std.proofs.Common.{sym, ap, subst, ◌∙◌, arith}
use Rattle.spec.specs.Bytes.{Bytes}
use Rattle.spec.specs.Check.{verdict, accepted, checked, check}
use Rattle.theory.specs.Terms.{From}
use Rattle.theory.specs.Demands.{CheckRefusal}
use Rattle.theory.proofs.CheckStages.{passes_verdict, refusal_verdict, refusal_number, by_stages}
use Rattle.spec.specs.Check as Check

-- the check accepts exactly where no number applies
pub check_accepts : (b : Bytes) → (check b ≡ accepted) ↔ (verdict b ≡ 0)
unfolding check checked
check_accepts b = (λ h. to (verdict b) h, λ h. ap checked h)
  where
    to : (v : ℕ) → checked v ≡ accepted → v ≡ 0
    to zero h = refl
    to (suc v) h = let z : ◌≡◌ {A = ℕ} 0 1 = cc in absurd (omega arith)

-- and it refuses with the number that does
pub check_refused : (b : Bytes) (r : ℕ) → (check b ≡ Check.refused r) ↔ ((verdict b ≡ r) × (0 < r))
unfolding check checked
check_refused b r = (λ h. to (verdict b) h, λ h. from (verdict b) r h.0 h.1)
  where
    to : (v : ℕ) → checked v ≡ Check.refused r → (v ≡ r) × (0 < r)
    to zero h = let z : ◌≡◌ {A = ℕ} 0 1 = cc in absurd (omega arith)
    to (suc v) h = let e : suc v ≡ r = cc in (e, omega arith)

    from : (v r : ℕ) → v ≡ r → 0 < r → checked v ≡ Check.refused r
    from zero r e h = absurd (omega arith)
    from (suc v) r e h = ap Check.refused e

-- The check refuses with a number exactly where the order of checks names it.
pub check_refuses : (b : Bytes) (r : ℕ) → (check b ≡ Check.refused r) ↔ CheckRefusal b r
check_refuses b r = (to, λ c. (check_refused b r).1 (refusal_verdict c, omega (arith, refusal_number c)))
  where
    to : check b ≡ Check.refused r → CheckRefusal b r
    to h =
        let v = (check_refused b r).0 h in
        by_stages b (λ bs p. absurd (omega (arith, v, passes_verdict b bs p))) (λ n c. let e : n ≡ r = sym (refusal_verdict c) ∙ v.0 in subst (CheckRefusal b) e c)

-- An image is refused with 11 to 16.
pub check_number : (b : Bytes) (r : ℕ) → check b ≡ Check.refused r → From 11 16 r
check_number b r h = refusal_number ((check_refuses b r).0 h)

-- the check accepts or refuses
pub check_cases : {A : Type 0} (b : Bytes) → (check b ≡ accepted → A) → ((r : ℕ) → check b ≡ Check.refused r → A) → A
check_cases {A} b f g = go (check b) refl
  where
    go : (c : Check.Checked) → check b ≡ c → A
    go accepted e = f e
    go (Check.refused r) e = g r e
