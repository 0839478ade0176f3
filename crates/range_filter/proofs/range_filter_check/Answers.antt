-- The number of what check says, by its cases.
use Prim.Native.Nat.{ℕ}
use mathlib.Core.Path.{◌≡◌, refl, sym, ap, ◌∙◌}
use Rattle.std.specs.Prelude.{Result, Ok, Err}
use Rattle.spec.specs.Check.{Checked}
use Rattle.image.specs.declared.refusals.Refusal.{Refusal}
use Rattle.check_image.specs.Answers.{answer}
use Rattle.range_filter.specs.Filter.{number_of}
use Rattle.range_filter.proofs.range_filter_check.Goals as goal

-- the number of an answer that is known
numbered : (a j : Result (Unit {0}) Refusal) (k : Checked) (r : ℕ) → a ≡ j → answer a ≡ k → r ≡ number_of (answer j) → r ≡ number_of k
numbered a j k r e f g = g ∙ ap (λ (i : Result (Unit {0}) Refusal). number_of (answer i)) (sym e) ∙ ap number_of f

pub returns-in-Ok : goal.returns-in-Ok
returns-in-Ok c =
    numbered _ (Ok _) _ 0 c.in-Ok.is c.check.ensures refl

pub returns-in-Err : goal.returns-in-Err
returns-in-Err c =
    numbered _ (Err _) _ _ c.in-Err.is c.check.ensures c.number.ensures
