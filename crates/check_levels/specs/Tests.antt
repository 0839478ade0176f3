-- Tests and their conjunctions, as the laws of the check use them.
use Rattle.std.specs.Prelude.{◌≡◌, Bool, true, false, ◌&&◌}
use Rattle.std.proofs.Math.Path.{refl, sym, ap}
use Rattle.std.proofs.Common.{◌∙◌}
use Rattle.std.proofs.Math.Bool.{and_assoc}
use mathlib.Core.List.{List, [], ◌∷◌, ◌++◌}
use Rattle.spec.specs.Bytes.{all, every}
use Rattle.theory.proofs.Lists.{and_both, every_true, true_every}

-- two tests that pass
pub and : (a b : Bool) → a ≡ true → b ≡ true → a && b ≡ true
and true b h g = g
and false b h g = h

-- tests that pass alike are equal
pub same : (a b : Bool) → (a ≡ true → b ≡ true) → (b ≡ true → a ≡ true) → a ≡ b
same true b f g = sym (f refl)
same false true f g = g refl
same false false f g = refl

-- a test may be replaced where another one, judged with it, passes
pub under : (a b c : Bool) → (a ≡ true → b ≡ c) → a && b ≡ a && c
under true b c f = f refl
under false b c f = refl

-- two pairs of tests, paired the other way
pub swap_middle : (a b c d : Bool) → a && b && (c && d) ≡ a && c && (b && d)
swap_middle true b true d = refl
swap_middle true true false d = refl
swap_middle true false false d = refl
swap_middle false b c d = refl

module _ {A : Type 0} where
  -- a test of every member, over two lists
  pub all_append : (p : A → Bool) (xs ys : List A) → all p (xs ++ ys) ≡ all p xs && all p ys
  unfolding all
  all_append p [] ys = refl
  all_append p (x ∷ xs) ys = ap (λ (t : Bool). p x && t) (all_append p xs ys) ∙ sym (and_assoc (p x) (all p xs) (all p ys))

  -- two tests of every member
  pub all_both : (p q : A → Bool) (xs : List A) → all (λ x. p x && q x) xs ≡ all p xs && all q xs
  unfolding all
  all_both p q [] = refl
  all_both p q (x ∷ xs) = ap (λ (t : Bool). p x && q x && t) (all_both p q xs) ∙ swap_middle (p x) (q x) (all p xs) (all q xs)

-- ten tests in another order, two of them split
pub regroup_ten : (a b c l h₁ h₂ x o₁ o₂ s d f : Bool)
    → every (a ∷ b ∷ c ∷ l ∷ (h₁ && h₂) ∷ x ∷ (o₁ && o₂) ∷ s ∷ d ∷ f ∷ []) ≡ a && b && (c && (l && f && d)) && (h₁ && x && o₁ && (h₂ && o₂ && s))
regroup_ten a b c l h₁ h₂ x o₁ o₂ s d f =
    same (every (a ∷ b ∷ c ∷ l ∷ (h₁ && h₂) ∷ x ∷ (o₁ && o₂) ∷ s ∷ d ∷ f ∷ [])) (a && b && (c && (l && f && d)) && (h₁ && x && o₁ && (h₂ && o₂ && s))) forth back
  where
    forth : every (a ∷ b ∷ c ∷ l ∷ (h₁ && h₂) ∷ x ∷ (o₁ && o₂) ∷ s ∷ d ∷ f ∷ []) ≡ true → a && b && (c && (l && f && d)) && (h₁ && x && o₁ && (h₂ && o₂ && s)) ≡ true
    forth p =
        let q = every_true (a ∷ b ∷ c ∷ l ∷ (h₁ && h₂) ∷ x ∷ (o₁ && o₂) ∷ s ∷ d ∷ f ∷ []) p in
        let h = and_both h₁ h₂ q.1.1.1.1.0 in
        let o = and_both o₁ o₂ q.1.1.1.1.1.1.0 in
        rw (q.0, q.1.0, q.1.1.0, q.1.1.1.0, h.0, h.1, q.1.1.1.1.1.0, o.0, o.1, q.1.1.1.1.1.1.1.0, q.1.1.1.1.1.1.1.1.0, q.1.1.1.1.1.1.1.1.1.0)

    back : a && b && (c && (l && f && d)) && (h₁ && x && o₁ && (h₂ && o₂ && s)) ≡ true → every (a ∷ b ∷ c ∷ l ∷ (h₁ && h₂) ∷ x ∷ (o₁ && o₂) ∷ s ∷ d ∷ f ∷ []) ≡ true
    back p =
        let u = and_both (a && b && (c && (l && f && d))) (h₁ && x && o₁ && (h₂ && o₂ && s)) p in
        let v = and_both (a && b) (c && (l && f && d)) u.0 in
        let ab = and_both a b v.0 in
        let cl = and_both c (l && f && d) v.1 in
        let lf = and_both (l && f) d cl.1 in
        let l' = and_both l f lf.0 in
        let w = and_both (h₁ && x && o₁) (h₂ && o₂ && s) u.1 in
        let hx = and_both (h₁ && x) o₁ w.0 in
        let h' = and_both h₁ x hx.0 in
        let ho = and_both (h₂ && o₂) s w.1 in
        let o' = and_both h₂ o₂ ho.0 in
        true_every (a ∷ b ∷ c ∷ l ∷ (h₁ && h₂) ∷ x ∷ (o₁ && o₂) ∷ s ∷ d ∷ f ∷ [])
        (ab.0, (ab.1, (cl.0, (l'.0, (and h₁ h₂ h'.0 o'.0, (h'.1, (and o₁ o₂ hx.1 o'.1, (ho.1, (lf.1, (l'.1, tt))))))))))
